-- What a read of a slot says of its number.
use Rattle.std.proofs.Common.{◌≡◌, ℕ, ◌<◌, List, length, take, Some, arith}
use Rattle.std.proofs.lemmas.List.{get_or_past, length-take, get_or-take}
use Rattle.std.proofs.lemmas.Bool.Decides.{nat_tests}
use Rattle.item_set.specs.Slots.{at, sentinel, vacant_next}
use Rattle.item_set.specs.declared.index.ItemIndex.{ItemIndex}
use Rattle.item_set.specs.declared.slot.ItemSlot.{ItemSlot}
use Rattle.item_set.specs.declared.slot.ItemSlot.TheVariants.{Occupied, Vacant}

module _ {T : Type 0} where
  -- only a slot of the list holds an item
  pub occupied_below : (slots : List (ItemSlot T)) (n : ℕ) (x : T) → at slots n ≡ Occupied x → n < length slots
  occupied_below slots n x e = grind (arith, get_or_past slots n (Vacant sentinel))

  pub within : (k : ℕ) (slots : List (ItemSlot T)) (n : ℕ) → n < length (take k slots) → (n < k) × (n < length slots)
  within k slots n h = let l = length-take k slots in (omega arith, omega arith)

  -- a slot in use is the same among all
  pub at_within : (k : ℕ) (slots : List (ItemSlot T)) (n : ℕ) → n < length (take k slots) → at (take k slots) n ≡ at slots n
  at_within k slots n h = get_or-take k slots n (Vacant sentinel) (within k slots n h).0

  pub vacant_below : (slots : List (ItemSlot T)) (n : ℕ) (next : ItemIndex) → vacant_next slots n ≡ Some next → (n < length slots) × (at slots n ≡ Vacant next)
  vacant_below slots n next e = grind (arith, nat_tests)
