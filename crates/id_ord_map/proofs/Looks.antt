-- What the search of the table answers is what looking for a key means.
use Rattle.std.proofs.Common.{◌≡◌, is_some, Some, None, Option, Ordering, sym, ap, ◌∙◌}
use Rattle.id_ord_item.specs.Order.{LawfulOrder}
use Rattle.item_set.specs.Slots.{held}
use Rattle.item_set.specs.declared.index.ItemIndex.{ItemIndex}
use Rattle.index_table.specs.Walk.{smaller, slot_of}
use Rattle.id_ord_law.specs.Parts.{Parts, live, entries, walk, Sound}
use Rattle.id_ord_law.proofs.Locating.{standing, missing}
use Rattle.id_ord_law.proofs.Performing.{place_below}
use Rattle.id_ord_map.specs.Looking.{Looked}

module _ {T : Type 0} {order : T → T → Ordering} (lawful : LawfulOrder order) (k : T) (p : Parts T) (s : Sound order p) where
  pub looked : (r : Option ItemIndex) → r ≡ slot_of order k (live p) (entries p) → Looked order k p r
  looked None e = missing lawful k p s (sym e)
  looked (Some i) e =
      let f = standing lawful k p s i (sym e) in
      record {
        stands = ap is_some f.stands;
        below = place_below lawful p s (smaller order k (walk p)) f.item f.place;
        slot = f.slot;
        holds = ap held f.holds ∙ sym f.stands;
        place = f.place ∙ sym f.stands;
      }
