-- What it is for a store to have no vacant slot, and what compacting answers and leaves.
--     compact_fault compactness numbers    the fault that some slots in use are vacant, where that is refused
--     new_numbers n slots                  each slot's new number, counted from n on: SENTINEL for a vacant one
--     packed slots                         the slots that hold an item, in their order
--     moves numbers scratch                whether compacting moves anything
--     compact_answer, compacted_slots, compacted_scratch, compacted
--                                           what `compact` answers, and the slots, the scratch and the numbers after it
--     remapped remap scratch i             what `remap` answers
use Rattle.std.specs.Prelude.{ℕ, suc, ◌-◌, min, Bool, false, cond, not, List, [], ◌∷◌, ◌++◌, length, drop, replicate, Some, None, Ok, Err, Option, Result, ◌==◌, nat_lt, slice_index_or}
use Rattle.item_set.specs.Slots.{index_of, sentinel, occupied}
use Rattle.item_set.specs.Store.{in_use}
use Rattle.item_set.specs.declared.compaction.CompactRefusal.{CompactRefusal}
use Rattle.item_set.specs.declared.compaction.CompactRefusal.TheVariants.{Short}
use Rattle.item_set.specs.declared.fault.ItemSetFault.{ItemSetFault}
use Rattle.item_set.specs.declared.fault.ItemSetFault.TheVariants.{NotCompact}
use Rattle.item_set.specs.declared.index.ItemIndex.{ItemIndex}
use Rattle.item_set.specs.declared.item_set.ItemSet.{ItemSet}
use Rattle.item_set.specs.declared.remap.IndexRemap.{IndexRemap}
use Rattle.item_set.specs.declared.remap.IndexRemap.TheVariants.{Identity, Permuted}
use Rattle.item_set.specs.declared.remap.RemapRefusal.{RemapRefusal}
use Rattle.item_set.specs.declared.remap.RemapRefusal.TheVariants.{Gone, Range}
use Rattle.item_set.specs.declared.slot.ItemSlot.{ItemSlot}
use Rattle.item_set.specs.declared.slot.ItemSlot.TheVariants.{Occupied, Vacant}
use Rattle.item_set.specs.declared.validation.ValidateCompact.{ValidateCompact}
use Rattle.item_set.specs.declared.validation.ValidateCompact.TheVariants.{Compact, NonCompact}

abbrev pub compact_fault : ValidateCompact → ItemSet → Option ItemSetFault
compact_fault Compact numbers = cond (nat_lt 0 (numbers.used - numbers.len)) (Some (NotCompact (numbers.used - numbers.len))) None
compact_fault NonCompact numbers = None

abbrev pub moves : ItemSet → List ItemIndex → Bool
moves numbers scratch = cond (numbers.used == numbers.len) false (not (nat_lt (length scratch) numbers.used))

abbrev pub compact_answer : ItemSet → List ItemIndex → Result IndexRemap CompactRefusal
compact_answer numbers scratch =
    cond (numbers.used == numbers.len) (Ok Identity)
    (cond (nat_lt (length scratch) numbers.used) (Err Short) (Ok (Permuted numbers.used)))

module _ {T : Type 0} where
  abbrev pub new_numbers : ℕ → List (ItemSlot T) → List ItemIndex
  new_numbers n [] = []
  new_numbers n (Occupied item ∷ slots) = index_of n ∷ new_numbers (suc n) slots
  new_numbers n (Vacant next ∷ slots) = sentinel ∷ new_numbers n slots

  abbrev pub packed : List (ItemSlot T) → List (ItemSlot T)
  packed [] = []
  packed (Occupied item ∷ slots) = Occupied item ∷ packed slots
  packed (Vacant next ∷ slots) = packed slots

  abbrev pub compacted_slots : ItemSet → List (ItemSlot T) → List ItemIndex → List (ItemSlot T)
  compacted_slots numbers slots scratch = cond (moves numbers scratch)
      (packed (in_use numbers slots) ++ (replicate (length (in_use numbers slots) - occupied (in_use numbers slots)) (Vacant sentinel) ++ drop numbers.used slots))
      slots

  abbrev pub compacted_scratch : ItemSet → List (ItemSlot T) → List ItemIndex → List ItemIndex
  compacted_scratch numbers slots scratch = cond (moves numbers scratch)
      (new_numbers 0 (in_use numbers slots) ++ drop (length (in_use numbers slots)) scratch)
      scratch

  abbrev pub compacted : ItemSet → List (ItemSlot T) → List ItemIndex → ItemSet
  compacted numbers slots scratch = cond (moves numbers scratch)
      (record { used = occupied (in_use numbers slots); len = occupied (in_use numbers slots); free_head = sentinel })
      numbers

-- a number of the scratch, which is SENTINEL for a slot that was vacant
abbrev pub renumbered : ItemIndex → Result ItemIndex RemapRefusal
renumbered new = cond (new.0 == 4294967295) (Err Gone) (Ok new)

abbrev pub remapped : IndexRemap → List ItemIndex → ItemIndex → Result ItemIndex RemapRefusal
remapped Identity scratch old = Ok old
remapped (Permuted used) scratch old =
    cond (nat_lt old.0 (min used (length scratch))) (renumbered (slice_index_or scratch old.0 sentinel)) (Err Range)
