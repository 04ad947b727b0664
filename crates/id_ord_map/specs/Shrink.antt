-- What shrinking a map leaves in the scratch.
--     shrunk_scratch p scratch      the scratch after shrink_to_fit: as it was if no slot in use is vacant or it is short of them;
--                                  else the new number of each slot in use, SENTINEL for a vacant one, and the rest as it was
use Rattle.std.specs.Prelude.{cond, List, ◌++◌, length, drop, ◌==◌, nat_lt}
use Rattle.item_set.specs.Compact.{new_numbers}
use Rattle.item_set.specs.declared.index.ItemIndex.{ItemIndex}
use Rattle.id_ord_law.specs.Parts.{Parts, live}

abbrev pub shrunk_scratch : {T : Type 0} → Parts T → List ItemIndex → List ItemIndex
shrunk_scratch p scratch =
    cond (p.used == p.len) scratch (cond (nat_lt (length scratch) p.used) scratch (new_numbers 0 (live p) ++ drop p.used scratch))
