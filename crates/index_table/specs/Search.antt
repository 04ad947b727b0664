-- Looking for a place, by how what is looked for compares with each place.
--     Falling answers n                of the first n places: before one that is not Less, all are Greater
--     Sought answers n r               r is the first of the first n places that is not Greater: Ok if it is Equal, else Err
--     asked ask slot                   how what is looked for compares with a slot's item; with a vacant slot, Less
--     answers_of ask slots entries     the same for the slot that each entry names
--     answer_at ask slots entries k    the answer at a place; Less past the entries
--     HasKey ask slots entries i       an entry names slot i, and what is looked for is Equal to its item
use Rattle.std.specs.Prelude.{◌≡◌, ℕ, ◌<◌, ◌≤◌, List, map, length, Ok, Err, Result, ◌≢◌, slice_index_or}
use Rattle.std.specs.declared.cmp.Ordering.TheVariants.{Less, Equal, Greater}
use Rattle.std.specs.declared.cmp.Ordering.{Ordering}
use Rattle.item_set.specs.Slots.{at}
use Rattle.item_set.specs.declared.index.ItemIndex.{ItemIndex}
use Rattle.item_set.specs.declared.slot.ItemSlot.{ItemSlot}
use Rattle.item_set.specs.declared.slot.ItemSlot.TheVariants.{Occupied, Vacant}
use Rattle.index_table.specs.Entry.{entry_of}
use Rattle.index_table.specs.Walk.{seen}
use Rattle.index_table.specs.declared.entry.Index.{Index}

abbrev pub Falling : (ℕ → Ordering) → ℕ → Type 0
Falling answers n = (i j : ℕ) → i < j → j < n → (answers j ≢ Less) → answers i ≡ Greater

abbrev pub Past : (ℕ → Ordering) → ℕ → Type 0
Past answers p = (i : ℕ) → i < p → answers i ≡ Greater

abbrev pub Sought : (ℕ → Ordering) → ℕ → Result ℕ ℕ → Type 0
Sought answers n (Ok p) = (p < n) × Past answers p × (answers p ≡ Equal)
Sought answers n (Err p) = (p ≤ n) × Past answers p × (p < n → answers p ≡ Less)

module _ {T : Type 0} (ask : T → Ordering) where
  abbrev pub asked : ItemSlot T → Ordering
  asked (Occupied x) = ask x
  asked (Vacant next) = Less

  abbrev pub answers_of : List (ItemSlot T) → List Index → List Ordering
  answers_of slots entries = map (λ e. asked (seen slots e)) entries

  abbrev pub answer_at : List (ItemSlot T) → List Index → ℕ → Ordering
  answer_at slots entries k = slice_index_or (answers_of slots entries) k Less

  abbrev pub HasKey : List (ItemSlot T) → List Index → ItemIndex → Type 0
  HasKey slots entries i =
      ((k : ℕ) × ((k < length entries) × (slice_index_or entries k (entry_of i) ≡ entry_of i))) × (asked (at slots i.0) ≡ Equal)
