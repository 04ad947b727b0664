-- What a slot store has in use, and what its calls answer and leave.
--     in_use numbers slots                       the slots in use: the first `used` of them
--     held_in numbers slots i                    the item in slot i, if the slot is in use and holds one
--     none_free numbers                          whether the chain of free slots is empty
--     end_index numbers slots                    the first slot that is not in use, if there is one
--     head_index numbers slots                   the free head, if it is a vacant slot in use
--     next_index numbers slots                   the slot that takes one more item, if there is one
--     put_at i slot slots                        the slots with a slot written at i, if there is an i
--     insert_answer, inserted_slots, inserted    what `insert` answers, and the slots and the numbers after it
--     removed_slots, removed                     the slots and the numbers after `remove`
--     replace_answer, replaced_slots             what `replace` answers, and the slots after it
--     cleared                                    the numbers of a store in which no slot is in use
use Rattle.std.specs.Prelude.{◌+◌, ◌-◌, min, Bool, cond, List, length, take, is_some, Some, None, Option, Result, ◌==◌, nat_lt, slice_set}
use Rattle.std.specs.Option.{ok_or}
use Rattle.item_set.specs.Slots.{at, held, index_of, sentinel, next_free, vacant_next}
use Rattle.item_set.specs.declared.index.ItemIndex.{ItemIndex}
use Rattle.item_set.specs.declared.item_set.ItemSet.{ItemSet}
use Rattle.item_set.specs.declared.slot.ItemSlot.{ItemSlot}
use Rattle.item_set.specs.declared.slot.ItemSlot.TheVariants.{Occupied, Vacant}
use Rattle.item_set.specs.declared.item_set.NoSlot.{NoSlot}
use Rattle.item_set.specs.declared.item_set.NotHeld.{NotHeld}

abbrev pub cleared : ItemSet
cleared = record { used = 0; len = 0; free_head = sentinel }

abbrev pub none_free : ItemSet → Bool
none_free numbers = numbers.free_head.0 == 4294967295

module _ {T : Type 0} where
  abbrev pub in_use : ItemSet → List (ItemSlot T) → List (ItemSlot T)
  in_use numbers slots = take numbers.used slots

  abbrev pub held_in : ItemSet → List (ItemSlot T) → ItemIndex → Option T
  held_in numbers slots i = held (at (in_use numbers slots) i.0)

  abbrev pub end_index : ItemSet → List (ItemSlot T) → Option ItemIndex
  end_index numbers slots = cond (nat_lt numbers.used (min (length slots) 4294967295)) (Some (index_of numbers.used)) None

  abbrev pub head_index : ItemSet → List (ItemSlot T) → Option ItemIndex
  head_index numbers slots = cond (is_some (vacant_next (in_use numbers slots) numbers.free_head.0)) (Some numbers.free_head) None

  abbrev pub next_index : ItemSet → List (ItemSlot T) → Option ItemIndex
  next_index numbers slots =
      cond (nat_lt numbers.len 4294967295) (cond (none_free numbers) (end_index numbers slots) (head_index numbers slots)) None

  abbrev pub put_at : Option ItemIndex → ItemSlot T → List (ItemSlot T) → List (ItemSlot T)
  put_at None slot slots = slots
  put_at (Some i) slot slots = slice_set slots i.0 slot

  abbrev pub insert_answer : ItemSet → List (ItemSlot T) → T → Result ItemIndex (NoSlot T)
  insert_answer numbers slots item = ok_or (next_index numbers slots) (record { item = item })

  abbrev pub inserted_slots : ItemSet → List (ItemSlot T) → T → List (ItemSlot T)
  inserted_slots numbers slots item = put_at (next_index numbers slots) (Occupied item) slots

  abbrev pub grown : ItemSet → List (ItemSlot T) → ItemSet
  grown numbers slots = record {
    used = cond (none_free numbers) (numbers.used + 1) numbers.used;
    len = numbers.len + 1;
    free_head = cond (none_free numbers) numbers.free_head (next_free (at slots numbers.free_head.0));
  }

  abbrev pub inserted : ItemSet → List (ItemSlot T) → ItemSet
  inserted numbers slots = cond (is_some (next_index numbers slots)) (grown numbers slots) numbers

  abbrev pub removed_slots : ItemSet → List (ItemSlot T) → ItemIndex → List (ItemSlot T)
  removed_slots numbers slots i =
      cond (is_some (held_in numbers slots i)) (slice_set slots i.0 (Vacant numbers.free_head)) slots

  abbrev pub removed : ItemSet → List (ItemSlot T) → ItemIndex → ItemSet
  removed numbers slots i =
      cond (is_some (held_in numbers slots i)) (record { used = numbers.used; len = numbers.len - 1; free_head = i }) numbers

  abbrev pub replace_answer : ItemSet → List (ItemSlot T) → ItemIndex → T → Result T (NotHeld T)
  replace_answer numbers slots i item = ok_or (held_in numbers slots i) (record { item = item })

  abbrev pub replaced_slots : ItemSet → List (ItemSlot T) → ItemIndex → T → List (ItemSlot T)
  replaced_slots numbers slots i item = cond (is_some (held_in numbers slots i)) (slice_set slots i.0 (Occupied item)) slots
