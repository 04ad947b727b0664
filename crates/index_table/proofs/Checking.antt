-- What the looks at one entry say, and why ascending entries pass every test.
use Rattle.std.proofs.Common.{◌==◌, ◌||◌, true, cond, ◌≡◌, ℕ, zero, suc, ◌<◌, Bool, false, not, List, [], ◌∷◌, length, take, is_some, Ordering, Less, refl, ap, ◌∙◌, arith}
use Rattle.std.proofs.lemmas.Bool.{cond-false, ne_eqb}
use Rattle.std.specs.List.{list_any}
use Rattle.id_ord_item.specs.Order.{LawfulOrder}
use Rattle.item_set.specs.Slots.{at, held}
use Rattle.item_set.specs.declared.slot.ItemSlot.{ItemSlot}
use Rattle.item_set.specs.declared.slot.ItemSlot.TheVariants.{Occupied, Vacant}
use Rattle.index_table.specs.Check.{entry_at, named, repeats, is_item, nameless}
use Rattle.index_table.specs.Walk.{seen, Below, Ascending}
use Rattle.index_table.specs.declared.entry.Index.{Index}
use Rattle.index_table.proofs.Walking.{Names}

-- a slot is named if some entry is equal to the one that names it
named_is : (n : ℕ) (es : List Index) → named n es ≡ list_any (λ e. e.0.0 == n) es
named_is n [] = refl
named_is n (e ∷ es) = ap (cond (e.0.0 == n) true) (named_is n es) ∙ choice (e.0.0 == n) (list_any (λ (e : Index). e.0.0 == n) es)
  where
    choice : (a b : Bool) → cond a true b ≡ (a || b)
    choice true b = refl
    choice false b = refl

pub repeats_if : (es : List Index) (k : ℕ) (b : Bool) → list_any (λ e. e.0.0 == (entry_at es k).0.0) (take k es) ≡ b → repeats es k ≡ b
repeats_if es k b found = named_is (entry_at es k).0.0 (take k es) ∙ found

module _ {T : Type 0} where
  pub item_held : (slot : ItemSlot T) → is_item slot ≡ is_some (held slot)
  item_held (Occupied x) = refl
  item_held (Vacant next) = refl

-- each place names its item
module _ {T : Type 0} {order : T → T → Ordering} (lawful : LawfulOrder order) (slots : List (ItemSlot T)) where
  pub none_nameless : (es : List Index) (w : List T) (k : ℕ) → Names slots es w → k < length es → nameless slots es k ≡ false
  none_nameless [] w k names inside = absurd (omega arith)
  none_nameless (e ∷ es) [] k names inside = cc
  none_nameless (e ∷ es) (x ∷ w) zero names inside = let here : seen slots e ≡ Occupied x = cc in ap (λ (s : ItemSlot T). not (is_item s)) here
  none_nameless (e ∷ es) (x ∷ w) (suc k) names inside = let rest : Names slots es w = cc in none_nameless es w k rest (omega arith)

  -- an entry for a smaller item names another slot
  apart : (n : ℕ) (x y : T) (e : Index) → seen slots e ≡ Occupied y → at slots n ≡ Occupied x → order y x ≡ Less → e.0.0 ≡ n → ⊥
  apart n x y e here there less same =
      let moved = ap (at slots) same in
      let one : y ≡ x = cc in
      let equal = ap (order y) one ∙ less in
      let itself = lawful.reflexive y in
      cc

  -- so the earlier entries do not name the slot of a later one
  earlier : (n : ℕ) (es : List Index) (w : List T) (k : ℕ) → Names slots es w → Ascending order w → k < length es → n ≡ (entry_at es k).0.0 → named n (take k es) ≡ false
  earlier n es w zero names ascending inside is = refl
  earlier n [] w (suc k) names ascending inside is = absurd (omega arith)
  earlier n (e ∷ es) [] (suc k) names ascending inside is = cc
  earlier n (e ∷ es) (y ∷ w) (suc k) names ascending inside is =
      let here : seen slots e ≡ Occupied y = cc in let rest : Names slots es w = cc in
      cond-false _ _ _ (ne_eqb e.0.0 n (other e y es w k here rest ascending.0 (omega arith) is))
      ∙ earlier n es w k rest ascending.1 (omega arith) is
    where
      other : (e : Index) (y : T) (es : List Index) (w : List T) (k : ℕ) → seen slots e ≡ Occupied y → Names slots es w → Below order y w → k < length es → n ≡ (entry_at es k).0.0 → e.0.0 ≡ n → ⊥
      other e y [] w k here names below inside is same = omega arith
      other e y (f ∷ es) [] k here names below inside is same = cc
      other e y (f ∷ es) (x ∷ w) zero here names below inside is same =
          let there : seen slots f ≡ Occupied x = cc in apart n x y e here (ap (at slots) is ∙ there) below.0 same
      other e y (f ∷ es) (x ∷ w) (suc k) here names below inside is same =
          let rest : Names slots es w = cc in other e y es w k here rest below.1 (omega arith) is same

  pub none_repeats : (es : List Index) (w : List T) (k : ℕ) → Names slots es w → Ascending order w → k < length es → repeats es k ≡ false
  none_repeats es w k names ascending inside = earlier (entry_at es k).0.0 es w k names ascending inside refl
