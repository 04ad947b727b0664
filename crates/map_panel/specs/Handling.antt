-- What a board's hand does, as calls of its map.
--     answered said result                 what the map answered, where this is what the hand did, or why it did nothing;
--                                          said gives the answer of what was done
--     added item old                       the answer where this item was added, and so no old one stood in its place
--     looked_up item                       what is told of a key that was looked for, where this item has it, or none
--     Changes item hand result hand'       a hand that holds an item sets it to this one as changed: the hand becomes hand'
--     PutsBack order hand p result q       a hand that holds this puts its item back, and answers it as changed: the parts p become q
--     Enters order item hand p result q    it uses its entry to take an item, or to add the one offered
--     Inserts order item hand p result q   it uses its entry to add an item, or to replace one
--     Removes order hand p result q        it uses its entry to take an item out
--     Handles order meant handling hand p told hand' q
--                                          what is told where this is asked of the hand, and the hand and the parts after it;
--                                          meant is the item that a query means
-- Where the hand holds nothing of the kind, it says so and the parts stay.
use Rattle.std.specs.Prelude.{◌≡◌, Some, None, Ok, Err, Option, Result, IfOk}
use Rattle.std.specs.declared.cmp.Ordering.{Ordering}
use Rattle.id_ord_law.specs.Parts.{Parts, walk}
use Rattle.id_ord_law.specs.Standing.{Call, found}
use Rattle.id_ord_law.specs.Standing.Answer.{done, none, gave}
use Rattle.id_ord_law.specs.Step.{Answered, Meets}
use Rattle.id_ord_map.specs.Answers.{holds, removed}
use Rattle.id_ord_map.specs.declared.entries.Entry.TheVariants.{Occupied as OccupiedEntry, Vacant as VacantEntry}
use Rattle.map_panel.specs.Refusal.{refused}
use Rattle.map_panel.specs.declared.handling.Hand.{Hand}
use Rattle.map_panel.specs.declared.handling.Hand.TheVariants.{Empty, Entry, Item}
use Rattle.map_panel.specs.declared.handling.Handled.{Handled}
use Rattle.map_panel.specs.declared.handling.Handled.TheVariants.{Took, Changed, PutBack, Vacant, Occupied, Added, Replaced, Removed}
use Rattle.map_panel.specs.declared.handling.Handling.{Handling}
use Rattle.map_panel.specs.declared.handling.Handling.TheVariants.{Take, Change, PutBack as ToPutBack, Entry as LookUp, Enter, Insert, Remove}
use Rattle.map_panel.specs.declared.refusals.Refusal.{Refusal}
use Rattle.map_panel.specs.declared.refusals.Refusal.TheVariants.{NoItem, NoEntry}

module _ {T : Type 0} where
  abbrev pub answered : {A : Type 0} → (A → Answered T) → Result A (Refusal T) → Answered T
  answered said (Ok x) = said x
  answered said (Err refusal) = refused refusal

  abbrev pub added : T → Option T → Answered T
  added item None = gave item
  added item (Some old) = none

  abbrev pub looked_up : Option T → Handled T
  looked_up None = Vacant
  looked_up (Some item) = Occupied

  abbrev pub Changes : T → Hand T → Result (Unit {0}) (Refusal T) → Hand T → Type 0
  Changes item Empty r hand' = (r ≡ Err NoItem) × (hand' ≡ Empty)
  Changes item (Entry entry) r hand' = (r ≡ Err NoItem) × (hand' ≡ Entry entry)
  Changes item (Item held) r hand' = (r ≡ Ok tt) × (hand' ≡ Item (record { taken = held.taken; changed = item }))

  module _ (order : T → T → Ordering) where
    abbrev pub PutsBack : Hand T → Parts T → Result T (Refusal T) → Parts T → Type 0
    PutsBack Empty p r q = (r ≡ Err NoItem) × (q ≡ p)
    PutsBack (Entry entry) p r q = (r ≡ Err NoItem) × (q ≡ p)
    PutsBack (Item held) p r q = Meets order (Call.put_back held.taken held.changed) p (answered (λ item. done) r) q × IfOk r (λ item. item ≡ held.changed)

    abbrev pub Enters : T → Hand T → Parts T → Result T (Refusal T) → Parts T → Type 0
    Enters item Empty p r q = (r ≡ Err NoEntry) × (q ≡ p)
    Enters item (Entry entry) p r q = Meets order (Call.or_insert (holds entry) item) p (answered gave r) q
    Enters item (Item held) p r q = (r ≡ Err NoEntry) × (q ≡ p)

    abbrev pub Inserts : T → Hand T → Parts T → Result (Option T) (Refusal T) → Parts T → Type 0
    Inserts item Empty p r q = (r ≡ Err NoEntry) × (q ≡ p)
    Inserts item (Entry (VacantEntry entry)) p r q = Meets order (Call.vacant_insert_entry item) p (answered (added item) r) q
    Inserts item (Entry (OccupiedEntry entry)) p r q = Meets order (Call.occupied_insert entry.item item) p (answered removed r) q
    Inserts item (Item held) p r q = (r ≡ Err NoEntry) × (q ≡ p)

    abbrev pub Removes : Hand T → Parts T → Result T (Refusal T) → Parts T → Type 0
    Removes Empty p r q = (r ≡ Err NoEntry) × (q ≡ p)
    Removes (Entry (VacantEntry entry)) p r q = (r ≡ Err NoEntry) × (q ≡ p)
    Removes (Entry (OccupiedEntry entry)) p r q = Meets order (Call.occupied_remove entry.item) p (answered gave r) q
    Removes (Item held) p r q = (r ≡ Err NoEntry) × (q ≡ p)

    abbrev pub Handles : {Q : Type 0} → (Q → T) → Handling T Q → Hand T → Parts T → Result (Handled T) (Refusal T) → Hand T → Parts T → Type 0
    Handles meant (Take query) hand p r hand' q = (r ≡ Ok (Took (found order (meant query) (walk p)))) × (q ≡ p)
    Handles meant (Change item) hand p (Ok (Changed changed)) hand' q = (changed ≡ item) × Changes item hand (Ok tt) hand' × (q ≡ p)
    Handles meant (Change item) hand p (Err refusal) hand' q = Changes item hand (Err refusal) hand' × (q ≡ p)
    Handles meant ToPutBack hand p (Ok (PutBack item)) hand' q = PutsBack hand p (Ok item) q
    Handles meant ToPutBack hand p (Err refusal) hand' q = PutsBack hand p (Err refusal) q
    Handles meant (LookUp query) hand p r hand' q = (r ≡ Ok (looked_up (found order (meant query) (walk p)))) × (q ≡ p)
    Handles meant (Enter item) hand p (Ok (Took (Some taken))) hand' q = Enters item hand p (Ok taken) q
    Handles meant (Enter item) hand p (Err refusal) hand' q = Enters item hand p (Err refusal) q
    Handles meant (Insert item) hand p (Ok (Added new)) hand' q = (new ≡ item) × Inserts item hand p (Ok None) q
    Handles meant (Insert item) hand p (Ok (Replaced old)) hand' q = Inserts item hand p (Ok (Some old)) q
    Handles meant (Insert item) hand p (Err refusal) hand' q = Inserts item hand p (Err refusal) q
    Handles meant Remove hand p (Ok (Removed item)) hand' q = Removes hand p (Ok item) q
    Handles meant Remove hand p (Err refusal) hand' q = Removes hand p (Err refusal) q
    Handles meant handling hand p r hand' q = ⊥
