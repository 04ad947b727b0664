-- The chain of free slots, and the first fault of a store's parts.
--     Chain slots head free         from head on, the chain visits the slots `free`, each vacant, and ends
--     SoundSet numbers slots        the items are counted by `len`, and the chain visits as many slots as are vacant
--     follow slots left met head    the fault of the chain from head on, where `left` vacant slots are still to be met and `met` were
--     first_fault numbers slots     the first fault of the parts, if there is one
--     unless fault                  accepted, or refused with the fault
use Rattle.std.specs.Prelude.{◌≡◌, ℕ, zero, suc, ◌+◌, ◌-◌, ◌<◌, cond, List, [], ◌∷◌, length, Some, None, Ok, Err, Option, Result, ◌==◌, nat_lt}
use Rattle.item_set.specs.Slots.{at, index_of, sentinel, next_free, vacant_next, occupied}
use Rattle.item_set.specs.Store.{in_use}
use Rattle.item_set.specs.declared.fault.ItemSetFault.{ItemSetFault}
use Rattle.item_set.specs.declared.fault.ItemSetFault.TheVariants.{Count, ChainRange, ChainOccupied, ChainLong, ChainShort}
use Rattle.item_set.specs.declared.index.ItemIndex.{ItemIndex}
use Rattle.item_set.specs.declared.item_set.ItemSet.{ItemSet}
use Rattle.item_set.specs.declared.slot.ItemSlot.{ItemSlot}
use Rattle.item_set.specs.declared.slot.ItemSlot.TheVariants.{Occupied, Vacant}

abbrev pub unless : {F : Type 0} → Option F → Result (Unit {0}) F
unless None = Ok tt
unless (Some fault) = Err fault

module _ {T : Type 0} where
  abbrev pub Chain : List (ItemSlot T) → ItemIndex → List ℕ → Type 0
  Chain slots head [] = head ≡ sentinel
  Chain slots head (n ∷ free) =
      (head ≡ index_of n) × (n < 4294967295) × (vacant_next slots n ≡ Some (next_free (at slots n))) × Chain slots (next_free (at slots n)) free

  pub record SoundSet (numbers : ItemSet) (slots : List (ItemSlot T)) : Type 0 where
    pub count : occupied (in_use numbers slots) ≡ numbers.len
    pub free : List ℕ
    pub linked : Chain (in_use numbers slots) numbers.free_head free
    pub enough : length free + numbers.len ≡ length (in_use numbers slots)

  -- at a slot that holds an item the chain is at fault, from a vacant one it goes on
  abbrev pub passed : ItemSlot T → ItemIndex → (ItemIndex → Option ItemSetFault) → Option ItemSetFault
  passed (Occupied item) head onward = Some (ChainOccupied head)
  passed (Vacant next) head onward = onward next

  -- and at a number that is no slot it is at fault
  abbrev pub reached : List (ItemSlot T) → ItemIndex → (ItemIndex → Option ItemSetFault) → Option ItemSetFault
  reached slots head onward = cond (nat_lt head.0 (length slots)) (passed (at slots head.0) head onward) (Some (ChainRange head))

  abbrev pub follow : List (ItemSlot T) → ℕ → ℕ → ItemIndex → Option ItemSetFault
  follow slots zero met head = cond (head.0 == 4294967295) None (reached slots head (λ next. Some (ChainLong head)))
  follow slots (suc left) met head =
      cond (head.0 == 4294967295) (Some (ChainShort met)) (reached slots head (λ next. follow slots left (suc met) next))

  abbrev pub first_fault : ItemSet → List (ItemSlot T) → Option ItemSetFault
  first_fault numbers slots =
      cond (occupied (in_use numbers slots) == numbers.len)
      (follow (in_use numbers slots) (length (in_use numbers slots) - numbers.len) 0 numbers.free_head)
      (Some (Count (occupied (in_use numbers slots))))
