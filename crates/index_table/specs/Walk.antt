-- What table entries name among slots, and the order of what they name.
--     slot_at entries k                the slot that the entry at place k names, if there is such a place
--     seen slots e                     the slot that an entry names; a vacant one if there is none
--     walk slots entries               the items that the entries name, from the first entry on
--     Named slots entries              each entry names an item
--     Below order x ys                 x is Less than each of ys
--     Ascending order xs               each item is Less than all that come after it
--     smaller order x ys               how many of ys are Less than x
--     slot_of order x slots entries    the slot, named by an entry, whose item is Equal to x, if there is one
use Rattle.std.specs.Prelude.{◌≡◌, ℕ, zero, suc, List, [], ◌∷◌, map, Some, None, Option}
use Rattle.std.specs.declared.cmp.Ordering.TheVariants.{Less, Equal, Greater}
use Rattle.std.specs.declared.cmp.Ordering.{Ordering}
use Rattle.item_set.specs.Slots.{at}
use Rattle.item_set.specs.declared.index.ItemIndex.{ItemIndex}
use Rattle.item_set.specs.declared.slot.ItemSlot.{ItemSlot}
use Rattle.item_set.specs.declared.slot.ItemSlot.TheVariants.{Occupied, Vacant}
use Rattle.index_table.specs.declared.entry.Index.{Index}

abbrev pub slot_at : List Index → ℕ → Option ItemIndex
slot_at [] k = None
slot_at (e ∷ entries) zero = Some e.0
slot_at (e ∷ entries) (suc k) = slot_at entries k

module _ {T : Type 0} where
  abbrev pub seen : List (ItemSlot T) → Index → ItemSlot T
  seen slots e = at slots e.0.0

  abbrev pub onto : ItemSlot T → List T → List T
  onto (Occupied x) xs = x ∷ xs
  onto (Vacant next) xs = xs

  abbrev pub walk : List (ItemSlot T) → List Index → List T
  walk slots [] = []
  walk slots (e ∷ entries) = onto (seen slots e) (walk slots entries)

  abbrev pub Named : List (ItemSlot T) → List Index → Type 0
  Named slots entries = map (seen slots) entries ≡ map Occupied (walk slots entries)

  module _ (order : T → T → Ordering) where
    abbrev pub Below : T → List T → Type 0
    Below x [] = Unit {0}
    Below x (y ∷ ys) = (order x y ≡ Less) × Below x ys

    abbrev pub Ascending : List T → Type 0
    Ascending [] = Unit {0}
    Ascending (x ∷ xs) = Below x xs × Ascending xs

    abbrev pub counting : Ordering → ℕ → ℕ
    counting Less n = suc n
    counting Equal n = n
    counting Greater n = n

    abbrev pub smaller : T → List T → ℕ
    smaller x [] = 0
    smaller x (y ∷ ys) = counting (order y x) (smaller x ys)

    abbrev pub if_equal : Ordering → ItemIndex → Option ItemIndex → Option ItemIndex
    if_equal Less i other = other
    if_equal Equal i other = Some i
    if_equal Greater i other = other

    abbrev pub if_holds : T → ItemSlot T → ItemIndex → Option ItemIndex → Option ItemIndex
    if_holds x (Occupied y) i other = if_equal (order x y) i other
    if_holds x (Vacant next) i other = other

    abbrev pub slot_of : T → List (ItemSlot T) → List Index → Option ItemIndex
    slot_of x slots [] = None
    slot_of x slots (e ∷ entries) = if_holds x (seen slots e) e.0 (slot_of x slots entries)
