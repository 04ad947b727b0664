-- What can be wrong with the parts of a map, and what `adopt` and `validate` make of it.
--     offered used len head p                  the parts p with these three numbers
--     oversize capacity used count             the first of two numbers that is over the capacity
--     entries_fault order slots entries len    the first fault of the entries: the table's, or else of their order
--     map_fault order p count                  the first fault of the parts p with `count` table entries, in the order of the tests
--     Accepts order p count answer             the answer is yes exactly where the parts are sound and `count` is how many items they have
--     adopted order p count before             the parts that `adopt` leaves: those offered, or where they have a fault those before
--     Begun order p answer                     where the answer is yes, a run begins with the parts p and the items in their occupied slots
--     vacant_slots p                           how many slots in use are vacant
--     compactness_fault compactness p          the fault that some slots in use are vacant, where that is refused
use Rattle.std.specs.Prelude.{◌≡◌, ℕ, ◌-◌, cond, List, length, take, is_some, Some, None, Ok, Err, Option, Result, nat_lt}
use Rattle.std.specs.declared.cmp.Ordering.{Ordering}
use Rattle.std.specs.Option.{option_map, option_or}
use Rattle.item_set.specs.Chain.{first_fault}
use Rattle.item_set.specs.Slots.{occupied}
use Rattle.item_set.specs.declared.fault.ItemSetFault.TheVariants.{NotCompact}
use Rattle.item_set.specs.declared.index.ItemIndex.{ItemIndex}
use Rattle.item_set.specs.declared.slot.ItemSlot.{ItemSlot}
use Rattle.item_set.specs.declared.validation.ValidateCompact.{ValidateCompact}
use Rattle.item_set.specs.declared.validation.ValidateCompact.TheVariants.{Compact, NonCompact}
use Rattle.index_table.specs.Check.{table_fault, first_unordered}
use Rattle.index_table.specs.declared.entry.Index.{Index}
use Rattle.id_ord_law.specs.Law.{Begins}
use Rattle.id_ord_law.specs.Parts.{Parts, Sound, parts, numbers, live, capacity, items_in}
use Rattle.id_ord_errors.specs.declared.validation.ValidationError.{ValidationError}
use Rattle.id_ord_errors.specs.declared.validation.ValidationError.TheVariants.{Size, Items, Table, Order}

abbrev pub oversize : ℕ → ℕ → ℕ → Option ℕ
oversize capacity used count = cond (nat_lt capacity used) (Some used) (cond (nat_lt capacity count) (Some count) None)

module _ {T : Type 0} where
  abbrev pub offered : ℕ → ℕ → ItemIndex → Parts T → Parts T
  offered used len head p = parts p.slots p.table (record { used = used; len = len; free_head = head })

  abbrev pub entries_fault : (T → T → Ordering) → List (ItemSlot T) → List Index → ℕ → Option ValidationError
  entries_fault order slots entries len =
      option_or (option_map Table (table_fault slots entries len)) (option_map Order (first_unordered order slots entries))

  abbrev pub map_fault : (T → T → Ordering) → Parts T → ℕ → Option ValidationError
  map_fault order p count =
      option_or (option_map Size (oversize (capacity p) p.used count))
      (option_or (option_map Items (first_fault (numbers p) p.slots))
      (entries_fault order (live p) (take count p.table) p.len))

  abbrev pub Accepts : (T → T → Ordering) → Parts T → ℕ → Result (Unit {0}) ValidationError → Type 0
  Accepts order p count answer = (answer ≡ Ok tt → Sound order p × (count ≡ p.len)) × (Sound order p → count ≡ p.len → answer ≡ Ok tt)

  abbrev pub adopted : (T → T → Ordering) → Parts T → ℕ → Parts T → Parts T
  adopted order p count before = cond (is_some (map_fault order p count)) before p

  abbrev pub Begun : (T → T → Ordering) → Parts T → Result (Unit {0}) ValidationError → Type 0
  Begun order p (Ok u) = Begins order (capacity p) p (items_in (live p))
  Begun order p (Err fault) = Unit {0}

  abbrev pub vacant_slots : Parts T → ℕ
  vacant_slots p = length (live p) - occupied (live p)

  abbrev pub compactness_fault : ValidateCompact → Parts T → Option ValidationError
  compactness_fault Compact p = cond (nat_lt 0 (vacant_slots p)) (Some (Items (NotCompact (vacant_slots p)))) None
  compactness_fault NonCompact p = None
