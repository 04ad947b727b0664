-- The parts of a map, its memory and its numbers, and when they are sound.
--     limit                        the most items that a map can hold, however long its memory is
--     Parts T                      slots and table, how many slots are in use, how many items there are, and the free head
--     parts slots table numbers    the same with the three numbers as the slot store keeps them
--     numbers p                    these numbers
--     live p, entries p            the slots in use, and the table entries in use
--     names p, name_at p i         the slots that the walk places name;  the one that place i names
--     walk p                       the items that the walk places give, from the first on
--     capacity p                   the least of the slots' length, the table's length and the limit
--     items_in slots               the items in some slots, in the order of the slots
--     Holds p n x                  slot n is in use and holds x
--     Sound order p                what a map's parts satisfy before and after every call
use Rattle.std.specs.Prelude.{◌≡◌, ℕ, ◌≤◌, min, List, [], ◌∷◌, map, length, take, slice_index_or}
use Rattle.std.specs.declared.cmp.Ordering.{Ordering}
use Rattle.item_set.specs.Chain.{SoundSet}
use Rattle.item_set.specs.Slots.{at, sentinel}
use Rattle.item_set.specs.Store.{in_use}
use Rattle.item_set.specs.declared.index.ItemIndex.{ItemIndex}
use Rattle.item_set.specs.declared.item_set.ItemSet.{ItemSet}
use Rattle.item_set.specs.declared.slot.ItemSlot.{ItemSlot}
use Rattle.item_set.specs.declared.slot.ItemSlot.TheVariants.{Occupied}
use Rattle.index_table.specs.Walk.{onto, Named, Ascending, walk as walk_of}
use Rattle.index_table.specs.declared.entry.Index.{Index}

unfoldable pub limit : ℕ
limit = 4096

pub record Parts (T : Type 0) : Type 0 where
  pub slots : List (ItemSlot T)
  pub table : List Index
  pub used : ℕ
  pub len : ℕ
  pub head : ItemIndex

module _ {T : Type 0} where
  abbrev pub parts : List (ItemSlot T) → List Index → ItemSet → Parts T
  parts slots table numbers =
      record { slots = slots; table = table; used = numbers.used; len = numbers.len; head = numbers.free_head }

  abbrev pub numbers : Parts T → ItemSet
  numbers p = record { used = p.used; len = p.len; free_head = p.head }

  abbrev pub live : Parts T → List (ItemSlot T)
  live p = in_use (numbers p) p.slots

  abbrev pub entries : Parts T → List Index
  entries p = take p.len p.table

  abbrev pub names : Parts T → List ℕ
  names p = map (λ entry. entry.0.0) (entries p)

  abbrev pub name_at : Parts T → ℕ → ℕ
  name_at p i = slice_index_or (names p) i sentinel.0

  abbrev pub walk : Parts T → List T
  walk p = walk_of (live p) (entries p)

  abbrev pub capacity : Parts T → ℕ
  capacity p = min (min (length p.slots) (length p.table)) limit

  abbrev pub items_in : List (ItemSlot T) → List T
  items_in [] = []
  items_in (slot ∷ slots) = onto slot (items_in slots)

  abbrev pub Holds : Parts T → ℕ → T → Type 0
  Holds p n x = at (live p) n ≡ Occupied x

pub record Sound {T : Type 0} (order : T → T → Ordering) (p : Parts T) : Type 0 where
  -- the slots in use are within the capacity
  pub fits : p.used ≤ capacity p
  -- the occupied slots in use are counted, and the others are chained
  pub store : SoundSet (numbers p) p.slots
  -- each entry in use names an item
  pub named : Named (live p) (entries p)
  -- each item is Less than all that come after it
  pub ascending : Ascending order (walk p)
