-- What becomes of a change at the berths.
--     held berths i                    the stay in slot i, if it is in use and holds one
--     HasKey key stay                  the stay has the key
--     Stands key berths i              slot i is in use and holds a stay with the key
--     Absent key berths                no slot in use does
--     Found key berths r               r is a slot where the key stands, or it stands in none
--     Unchanged berths berths'         the numbers and the slots are as they were
--     SameMemory berths berths'        the two are lent the same slots
--     Added stay berths r berths', Dropped key berths r berths'
--                                      what is answered to a stay to add, or to a key to drop, and the berths after it
use Rattle.std.specs.Prelude.{◌≡◌, ℕ, ◌<◌, Some, None, Option, IsSomeAnd, MatchOption, Ok, Err, Result}
use Rattle.std.specs.declared.cmp.Ordering.TheVariants.{Equal}
use Rattle.item_set.specs.Slots.{index_of}
use Rattle.item_set.specs.Store.{held_in, next_index, inserted, inserted_slots, removed, removed_slots}
use Rattle.item_set.specs.declared.index.ItemIndex.{ItemIndex}
use Rattle.panel_items.specs.Stay.{by_berth_then_from}
use Rattle.panel_items.specs.StayAt.{stay_meant, key_of}
use Rattle.panel_items.specs.declared.stay.Stay.{Stay}
use Rattle.panel_items.specs.declared.stay_at.StayAt.{StayAt}
use Rattle.panel.specs.declared.berths.AddRefusal.{AddRefusal}
use Rattle.panel.specs.declared.berths.AddRefusal.TheVariants.{Duplicate, Full}
use Rattle.panel.specs.declared.berths.Berths.{Berths}
use Rattle.panel.specs.declared.berths.NotThere.{NotThere}

abbrev pub held : Berths → ItemIndex → Option Stay
held berths i = held_in berths.numbers berths.slots.now i

abbrev pub HasKey : StayAt → Stay → Type 0
HasKey key stay = by_berth_then_from (stay_meant key) stay ≡ Equal

abbrev pub Stands : StayAt → Berths → ItemIndex → Type 0
Stands key berths i = IsSomeAnd (held berths i) (HasKey key)

abbrev pub Absent : StayAt → Berths → Type 0
Absent key berths = (n : ℕ) → n < berths.numbers.used → ¬ (Stands key berths (index_of n))

abbrev pub Found : StayAt → Berths → Option ItemIndex → Type 0
Found key berths r = MatchOption r (Absent key berths) (Stands key berths)

abbrev pub Unchanged : Berths → Berths → Type 0
Unchanged berths berths' = (berths'.numbers ≡ berths.numbers) × (berths'.slots.now ≡ berths.slots.now)

abbrev pub SameMemory : Berths → Berths → Type 0
SameMemory berths berths' = berths'.slots.ghost_name ≡ berths.slots.ghost_name

abbrev pub Added : Stay → Berths → Result (ItemIndex × Stay) AddRefusal → Berths → Type 0
Added stay berths (Ok (i, s)) berths' =
    (s ≡ stay) × Absent (key_of stay) berths × (next_index berths.numbers berths.slots.now ≡ Some i)
    × (berths'.numbers ≡ inserted berths.numbers berths.slots.now)
    × (berths'.slots.now ≡ inserted_slots berths.numbers berths.slots.now stay)
Added stay berths (Err (Duplicate s i)) berths' = (s ≡ stay) × Stands (key_of stay) berths i × Unchanged berths berths'
Added stay berths (Err (Full s)) berths' =
    (s ≡ stay) × Absent (key_of stay) berths × (next_index berths.numbers berths.slots.now ≡ None) × Unchanged berths berths'

abbrev pub Dropped : StayAt → Berths → Result (ItemIndex × Stay) NotThere → Berths → Type 0
Dropped key berths (Err refusal) berths' = (refusal.key ≡ key) × Absent key berths × Unchanged berths berths'
Dropped key berths (Ok (i, s)) berths' =
    HasKey key s × (held berths i ≡ Some s)
    × (berths'.numbers ≡ removed berths.numbers berths.slots.now i)
    × (berths'.slots.now ≡ removed_slots berths.numbers berths.slots.now i)
