-- The faults of a table's entries, each at the first place that has it.
--     first_place test n k                   the first of n places from k on that passes a test
--     repeats entries k                      the entry at place k names the slot of an earlier one
--     nameless slots entries k               the entry at place k names no item
--     followed order before x                x is Greater than the item before it, if there is one
--     comes_after order before here          the same of the item here, if there is one
--     unordered order slots entries k        the item at place k is not Greater than the one at the place before
--     table_fault slots entries len          the first fault of the entries, where there are to be len of them
--     first_unordered order slots entries    the first place whose item is not Greater than the one before
--     number_of fault, place_of fault        the number and the place of a fault
use Rattle.std.specs.Prelude.{ℕ, zero, suc, ◌-◌, Bool, true, false, cond, not, List, [], ◌∷◌, length, take, Some, None, Option, ◌==◌, slice_index_or}
use Rattle.std.specs.declared.cmp.Ordering.{Ordering}
use Rattle.std.specs.Ordering.{is_gt}
use Rattle.item_set.specs.Slots.{held, index_of}
use Rattle.item_set.specs.declared.slot.ItemSlot.{ItemSlot}
use Rattle.item_set.specs.declared.slot.ItemSlot.TheVariants.{Occupied, Vacant}
use Rattle.index_table.specs.Entry.{entry_of}
use Rattle.index_table.specs.Walk.{seen}
use Rattle.index_table.specs.declared.entry.Index.{Index}
use Rattle.index_table.specs.declared.fault.TableFault.{TableFault}
use Rattle.index_table.specs.declared.fault.TableFault.TheVariants.{TableLength, Repeated, NotHeld}

abbrev pub first_place : (ℕ → Bool) → ℕ → ℕ → Option ℕ
first_place test zero k = None
first_place test (suc n) k = cond (test k) (Some k) (first_place test n (suc k))

abbrev pub entry_at : List Index → ℕ → Index
entry_at entries k = slice_index_or entries k (entry_of (index_of 0))

abbrev pub named : ℕ → List Index → Bool
named n [] = false
named n (e ∷ entries) = cond (e.0.0 == n) true (named n entries)

abbrev pub repeats : List Index → ℕ → Bool
repeats entries k = named (entry_at entries k).0.0 (take k entries)

abbrev pub or_else : {F : Type 0} → (ℕ → F) → Option ℕ → Option F → Option F
or_else fault None other = other
or_else fault (Some k) other = Some (fault k)

module _ {T : Type 0} where
  abbrev pub is_item : ItemSlot T → Bool
  is_item (Occupied x) = true
  is_item (Vacant next) = false

  abbrev pub nameless : List (ItemSlot T) → List Index → ℕ → Bool
  nameless slots entries k = not (is_item (seen slots (entry_at entries k)))

  abbrev pub table_fault : List (ItemSlot T) → List Index → ℕ → Option TableFault
  table_fault slots entries len =
      cond (length entries == len)
      (or_else Repeated (first_place (repeats entries) (length entries) 0)
      (or_else NotHeld (first_place (nameless slots entries) (length entries) 0) None))
      (Some (TableLength (length entries)))

  module _ (order : T → T → Ordering) where
    abbrev pub followed : Option T → T → Bool
    followed None x = true
    followed (Some y) x = is_gt (order x y)

    abbrev pub comes_after : Option T → Option T → Bool
    comes_after before None = true
    comes_after before (Some x) = followed before x

    abbrev pub unordered : List (ItemSlot T) → List Index → ℕ → Bool
    unordered slots entries k = not (comes_after (held (seen slots (entry_at entries (k - 1)))) (held (seen slots (entry_at entries k))))

    abbrev pub first_unordered : List (ItemSlot T) → List Index → Option ℕ
    first_unordered slots entries = first_place (unordered slots entries) (length entries - 1) 1

abbrev pub number_of : TableFault → ℕ
number_of (TableLength count) = 16
number_of (Repeated place) = 17
number_of (NotHeld place) = 18

abbrev pub place_of : TableFault → ℕ
place_of (TableLength count) = count
place_of (Repeated place) = place
place_of (NotHeld place) = place
