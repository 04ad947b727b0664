-- What a list of slots holds.
--     index_of n, sentinel    n as the number of a slot;  the number that names no slot
--     at slots n              slot n, and past the end a vacant one that names no other
--     held slot               the item in a slot, if it holds one
--     next_free slot          the next free slot that a vacant slot names
--     vacant_next slots n     the same of slot n, if there is such a slot and it is vacant
--     occupied slots          how many of the slots hold an item
use Rattle.std.specs.Prelude.{ℕ, suc, cond, List, [], ◌∷◌, length, Some, None, Option, nat_lt, slice_index_or}
use Rattle.item_set.specs.declared.index.ItemIndex.{ItemIndex}
use Rattle.item_set.specs.declared.slot.ItemSlot.{ItemSlot}
use Rattle.item_set.specs.declared.slot.ItemSlot.TheVariants.{Occupied, Vacant}

abbrev pub index_of : ℕ → ItemIndex
index_of n = record { 0 = n }

abbrev pub sentinel : ItemIndex
sentinel = index_of 4294967295

module _ {T : Type 0} where
  abbrev pub at : List (ItemSlot T) → ℕ → ItemSlot T
  at slots n = slice_index_or slots n (Vacant sentinel)

  abbrev pub held : ItemSlot T → Option T
  held (Occupied item) = Some item
  held (Vacant next) = None

  abbrev pub next_free : ItemSlot T → ItemIndex
  next_free (Occupied item) = sentinel
  next_free (Vacant next) = next

  abbrev pub free_next : ItemSlot T → Option ItemIndex
  free_next (Occupied item) = None
  free_next (Vacant next) = Some next

  abbrev pub vacant_next : List (ItemSlot T) → ℕ → Option ItemIndex
  vacant_next slots n = cond (nat_lt n (length slots)) (free_next (at slots n)) None

  abbrev pub counted : ItemSlot T → ℕ → ℕ
  counted (Occupied item) n = suc n
  counted (Vacant next) n = n

  abbrev pub occupied : List (ItemSlot T) → ℕ
  occupied [] = 0
  occupied (slot ∷ slots) = counted slot (occupied slots)
