-- Entries that each name an item, and the items that they name.
use Rattle.std.proofs.Common.{◌≡◌, ℕ, zero, suc, ◌<◌, ◌≤◌, List, [], ◌∷◌, map, length, get_or, Some, None, Ordering, sym, refl, ap, ◌∙◌, arith}
use Rattle.item_set.specs.declared.slot.ItemSlot.{ItemSlot}
use Rattle.item_set.specs.declared.slot.ItemSlot.TheVariants.{Occupied}
use Rattle.index_table.specs.Search.{answers_of}
use Rattle.index_table.specs.Walk.{slot_at, seen, walk, Named}
use Rattle.index_table.specs.declared.entry.Index.{Index}

module _ {T : Type 0} (slots : List (ItemSlot T)) where
  -- entries that name these items, one each
  abbrev pub Names : List Index → List T → Type 0
  Names entries w = map (seen slots) entries ≡ map Occupied w

  pub names_length : (entries : List Index) (w : List T) → Names entries w → length w ≡ length entries
  names_length [] [] named = refl
  names_length [] (x ∷ w) named = cc
  names_length (e ∷ entries) [] named = cc
  names_length (e ∷ entries) (x ∷ w) named = let rest : Names entries w = cc in ap suc (names_length entries w rest)

  -- they are the walk
  pub names_walk : (entries : List Index) (w : List T) → Names entries w → walk slots entries ≡ w
  names_walk [] [] named = refl
  names_walk [] (x ∷ w) named = cc
  names_walk (e ∷ entries) [] named = cc
  names_walk (e ∷ entries) (x ∷ w) named =
      let here : seen slots e ≡ Occupied x = cc in let names : Names entries w = cc in let rest = names_walk entries w names in grind arith

  pub named_if_names : (entries : List Index) (w : List T) → Names entries w → Named slots entries
  named_if_names entries w named = named ∙ ap (map Occupied) (sym (names_walk entries w named))

  pub answers_named : (ask : T → Ordering) (entries : List Index) (w : List T) → Names entries w → answers_of ask slots entries ≡ map ask w
  answers_named ask [] [] named = refl
  answers_named ask [] (x ∷ w) named = cc
  answers_named ask (e ∷ entries) [] named = cc
  answers_named ask (e ∷ entries) (x ∷ w) named =
      let here : seen slots e ≡ Occupied x = cc in let names : Names entries w = cc in let rest = answers_named ask entries w names in grind arith

-- the slot at a place
pub slot_at_past : (entries : List Index) (k : ℕ) → length entries ≤ k → slot_at entries k ≡ None
slot_at_past [] k past = refl
slot_at_past (e ∷ entries) zero past = absurd (omega arith)
slot_at_past (e ∷ entries) (suc k) past = slot_at_past entries k (omega arith)

pub slot_at_read : (entries : List Index) (k : ℕ) (d : Index) → k < length entries → slot_at entries k ≡ Some (get_or entries k d).0
slot_at_read [] k d inside = absurd (omega arith)
slot_at_read (e ∷ entries) zero d inside = refl
slot_at_read (e ∷ entries) (suc k) d inside = slot_at_read entries k d (omega arith)

pub ruleset slots_at = (slot_at_past, slot_at_read)
