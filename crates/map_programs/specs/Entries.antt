-- What the two programs over entries answer and leave, told of the items that the entries hold.
--     removes_two order first second p     both items are taken out, one after the other, and the second is answered;
--                                          where an entry is vacant, nothing is
--     replaces_found order x first p       x takes the place of the item; where the entry is vacant, x is returned
use Rattle.std.specs.Prelude.{Some, None, Option}
use Rattle.std.specs.declared.cmp.Ordering.{Ordering}
use Rattle.id_ord_law.specs.Parts.{Parts}
use Rattle.id_ord_law.specs.Standing.Answer.{stale, stale_offered}
use Rattle.id_ord_law.specs.Standing.Call.{occupied_insert, occupied_remove}
use Rattle.id_ord_law.specs.Step.{Outcome, step}

module _ {T : Type 0} (order : T → T → Ordering) where
  abbrev pub removes_two : Option T → Option T → Parts T → Outcome T
  removes_two None second p = (stale, p)
  removes_two (Some first) None p = (stale, p)
  removes_two (Some first) (Some second) p = step order (occupied_remove second) (step order (occupied_remove first) p).1

  abbrev pub replaces_found : T → Option T → Parts T → Outcome T
  replaces_found x None p = (stale_offered x, p)
  replaces_found x (Some first) p = step order (occupied_insert first x) p
