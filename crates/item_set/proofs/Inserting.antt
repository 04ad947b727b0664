-- Which slot takes one more item, and the numbers after it.
use Rattle.std.proofs.Common.{◌≡◌, ◌<◌, true, List, length, Some, arith}
use Rattle.std.proofs.lemmas.Bool.{eq-eqb}
use Rattle.std.proofs.lemmas.Bool.Decides.{nat_tests}
use Rattle.item_set.specs.Slots.{index_of, vacant_next}
use Rattle.item_set.specs.Store.{in_use, none_free, next_index, grown, inserted}
use Rattle.item_set.specs.declared.index.ItemIndex.{ItemIndex}
use Rattle.item_set.specs.declared.item_set.ItemSet.{ItemSet}
use Rattle.item_set.specs.declared.slot.ItemSlot.{ItemSlot}

module _ {T : Type 0} (numbers : ItemSet) (slots : List (ItemSlot T)) where
  module _ (few : numbers.len < 4294967295) where
    -- no slot is free
    module _ (none : numbers.free_head.0 ≡ 4294967295) where
      none_free_lem : none_free numbers ≡ true
      none_free_lem = eq-eqb numbers.free_head.0 4294967295 none

      pub index_at_end : numbers.used < 4294967295 → numbers.used < length slots → next_index numbers slots ≡ Some (index_of numbers.used)
      index_at_end low room = grind (arith, nat_tests)

    -- a slot is free
    module _ (some : numbers.free_head.0 ≡ 4294967295 → ⊥) where
      pub index_at_head : (next : ItemIndex) → vacant_next (in_use numbers slots) numbers.free_head.0 ≡ Some next → next_index numbers slots ≡ Some numbers.free_head
      index_at_head next e = grind (arith, nat_tests)

  pub inserted_if : (i : ItemIndex) → next_index numbers slots ≡ Some i → inserted numbers slots ≡ grown numbers slots
  inserted_if i e = rw e
