-- What is found by a key, and what is left without it.
use Rattle.std.proofs.Common.{◌≡◌, ℕ, zero, suc, ◌<◌, ◌≤◌, Bool, true, false, cond, not, ◌⊎◌, List, [], ◌∷◌, length, set, is_some, Some, None, filter, Option, Ordering, Less, Equal, Greater, sym, refl, ap, ◌∙◌, inl, inr, arith}
use mathlib.Core.List.Memᴰ.{cases_cons as either}
use mathlib.Core.List.Memᴰ.{head as here}
use mathlib.Core.List.Memᴰ.{not-nil as nowhere}
use mathlib.Core.List.Memᴰ.{tail as there}
use mathlib.Core.List.{Memᴰ as Among}
use Rattle.std.proofs.lemmas.Bool.{both_ways}
use Rattle.std.specs.Ordering.{is_eq, is_lt}
use Rattle.std.specs.List.{remove, slice_get}
use Rattle.id_ord_item.specs.Order.{LawfulOrder}
use Rattle.id_ord_item.proofs.Order.{less_swaps}
use Rattle.index_table.specs.Walk.{Below, Ascending}
use Rattle.id_ord_law.specs.Standing.{found, without}

pub equal_or : (o : Ordering) → (o ≡ Equal) ⊎ (is_eq o ≡ false)
equal_or Less = inr refl
equal_or Equal = inl refl
equal_or Greater = inr refl

pub equal_if : (o : Ordering) → is_eq o ≡ true → o ≡ Equal
equal_if Less e = absurd (both_ways false refl e)
equal_if Equal e = refl
equal_if Greater e = absurd (both_ways false refl e)

pub less_or : (o : Ordering) → (o ≡ Less) ⊎ (is_lt o ≡ false)
less_or Less = inl refl
less_or Equal = inr refl
less_or Greater = inr refl

pub none_if : {T : Type 0} (o : Option T) → is_some o ≡ false → o ≡ None
none_if None e = refl
none_if (Some y) e = cc

pub some_if : {T : Type 0} (o : Option T) → is_some o ≡ true → (y : T) × (o ≡ Some y)
some_if None e = cc
some_if (Some y) e = (y, refl)

-- the item at a place
module _ {T : Type 0} where
  pub nth_past : (w : List T) (i : ℕ) → length w ≤ i → slice_get w i ≡ None
  nth_past [] i high = refl
  nth_past (x ∷ w) zero high = absurd (omega arith)
  nth_past (x ∷ w) (suc i) high = nth_past w i (omega arith)

  pub nth_among : (w : List T) (i : ℕ) (y : T) → slice_get w i ≡ Some y → Among y w
  nth_among [] i y e = cc
  nth_among (x ∷ w) zero y e = let same : y ≡ x = cc in here same
  nth_among (x ∷ w) (suc i) y e = there (nth_among w i y e)

  pub nth_below : (w : List T) (i : ℕ) (y : T) → slice_get w i ≡ Some y → i < length w
  nth_below [] i y e = cc
  nth_below (x ∷ w) zero y e = omega arith
  nth_below (x ∷ w) (suc i) y e = let h = nth_below w i y e in omega arith

  pub nth_some : (w : List T) (i : ℕ) → i < length w → (y : T) × (slice_get w i ≡ Some y)
  nth_some [] i inside = absurd (omega arith)
  nth_some (x ∷ w) zero inside = (x, refl)
  nth_some (x ∷ w) (suc i) inside = nth_some w i (omega arith)

module _ {T : Type 0} (order : T → T → Ordering) where
  -- one item on
  abbrev keyed : T → List T → List T
  keyed k w = filter (λ z. is_eq (order k z)) w

  pub found_here : (k y : T) (w : List T) → order k y ≡ Equal → found order k (y ∷ w) ≡ Some y
  found_here k y w e = ap (λ (o : Ordering). slice_get (cond (is_eq o) (y ∷ keyed k w) (keyed k w)) 0) e

  pub found_later : (k y : T) (w : List T) → is_eq (order k y) ≡ false → found order k (y ∷ w) ≡ found order k w
  found_later k y w f = ap (λ (b : Bool). slice_get (cond b (y ∷ keyed k w) (keyed k w)) 0) f

  pub without_here : (k y : T) (w : List T) → order k y ≡ Equal → without order k (y ∷ w) ≡ without order k w
  without_here k y w e = ap (λ (o : Ordering). cond (not (is_eq o)) (y ∷ without order k w) (without order k w)) e

  pub without_later : (k y : T) (w : List T) → is_eq (order k y) ≡ false → without order k (y ∷ w) ≡ y ∷ without order k w
  without_later k y w f = ap (λ (b : Bool). cond (not b) (y ∷ without order k w) (without order k w)) f

  -- what is found
  pub found_among : (k : T) (w : List T) (y : T) → found order k w ≡ Some y → Among y w × (order k y ≡ Equal)
  found_among k [] y e = cc
  found_among k (x ∷ w) y e = elim (equal_or (order k x)) [
    | inl q ↦
        let f = sym (found_here k x w q) ∙ e in
        let same : y ≡ x = cc in (here same, ap (order k) same ∙ q)
    | inr n ↦
        let rest = found_among k w y (sym (found_later k x w n) ∙ e) in
        (there rest.0, rest.1)
  ]

  pub absent : (k : T) (w : List T) (y : T) → found order k w ≡ None → Among y w → order k y ≡ Equal → ⊥
  absent k [] y e m q = nowhere m
  absent k (x ∷ w) y e m q = elim (equal_or (order k x)) [
    | inl p ↦ let f = sym (found_here k x w p) ∙ e in cc
    | inr n ↦ elim (either m) [
      | inl s ↦ both_ways (is_eq (order k x)) n (ap is_eq (ap (order k) (sym s) ∙ q))
      | inr r ↦ absent k w y (sym (found_later k x w n) ∙ e) r q
    ]
  ]

  -- items below the others
  pub below_has : (x z : T) (w : List T) → Below order x w → Among z w → order x z ≡ Less
  below_has x z [] below m = absurd (nowhere m)
  below_has x z (y ∷ w) below m = elim (either m) [
    | inl e ↦ ap (order x) e ∙ below.0
    | inr r ↦ below_has x z w below.1 r
  ]

  pub below_without : (x k : T) (w : List T) → Below order x w → Below order x (without order k w)
  below_without x k [] below = tt
  below_without x k (y ∷ w) below = elim (equal_or (order k y)) [
    | inl e ↦ rw (without_here k y w e) (below_without x k w below.1)
    | inr f ↦ rw (without_later k y w f) (below.0, below_without x k w below.1)
  ]

  pub ascending_without : (k : T) (w : List T) → Ascending order w → Ascending order (without order k w)
  ascending_without k [] up = tt
  ascending_without k (y ∷ w) up = elim (equal_or (order k y)) [
    | inl e ↦ rw (without_here k y w e) (ascending_without k w up.1)
    | inr f ↦ rw (without_later k y w f) (below_without y k w up.0, ascending_without k w up.1)
  ]

  pub without_below : (k : T) (w : List T) → Below order k w → without order k w ≡ w
  without_below k [] below = refl
  without_below k (y ∷ w) below = without_later k y w (ap is_eq below.0) ∙ ap (λ (v : List T). y ∷ v) (without_below k w below.1)

  pub without_absent : (k : T) (w : List T) → found order k w ≡ None → without order k w ≡ w
  without_absent k [] e = refl
  without_absent k (y ∷ w) e = elim (equal_or (order k y)) [
    | inl q ↦ let f = sym (found_here k y w q) ∙ e in cc
    | inr n ↦ without_later k y w n ∙ ap (λ (v : List T). y ∷ v) (without_absent k w (sym (found_later k y w n) ∙ e))
  ]

  pub below_removed : (x : T) (w : List T) (i : ℕ) → Below order x w → Below order x (remove w i)
  below_removed x [] zero below = tt
  below_removed x [] (suc i) below = tt
  below_removed x (y ∷ w) zero below = below.1
  below_removed x (y ∷ w) (suc i) below = (below.0, below_removed x w i below.1)

  pub ascending_removed : (w : List T) (i : ℕ) → Ascending order w → Ascending order (remove w i)
  ascending_removed [] zero up = tt
  ascending_removed [] (suc i) up = tt
  ascending_removed (y ∷ w) zero up = up.1
  ascending_removed (y ∷ w) (suc i) up = (below_removed y w i up.0, ascending_removed w i up.1)

  pub below_set : (x y : T) (w : List T) (i : ℕ) → order x y ≡ Less → Below order x w → Below order x (set w i y)
  below_set x y [] i less below = tt
  below_set x y (z ∷ w) zero less below = (less, below.1)
  below_set x y (z ∷ w) (suc i) less below = (below.0, below_set x y w i less below.1)

  module _ (lawful : LawfulOrder order) where
    pub below_equal : (k y : T) (w : List T) → order k y ≡ Equal → Below order y w → Below order k w
    below_equal k y [] e below = tt
    below_equal k y (z ∷ w) e below = (lawful.alike k y z e ∙ below.0, below_equal k y w e below.1)

    pub below_less : (x y : T) (w : List T) → order x y ≡ Less → Below order y w → Below order x w
    below_less x y [] less below = tt
    below_less x y (z ∷ w) less below = (lawful.transitive x y z less below.0, below_less x y w less below.1)

    -- what comes after x has another key than x
    pub other_key : (k x z : T) → order x z ≡ Less → order k z ≡ Equal → is_eq (order k x) ≡ false
    other_key k x z less e = ap is_eq (lawful.alike k z x e ∙ less_swaps lawful x z less)

    -- among ascending items a key has one item
    pub found_one : (k : T) (w : List T) (z : T) → Ascending order w → Among z w → order k z ≡ Equal → found order k w ≡ Some z
    found_one k [] z up m e = absurd (nowhere m)
    found_one k (x ∷ w) z up m e = elim (either m) [
      | inl s ↦ found_here k x w (ap (order k) (sym s) ∙ e) ∙ ap Some (sym s)
      | inr r ↦ found_later k x w (other_key k x z (below_has x z w up.0 r) e) ∙ found_one k w z up.1 r e
    ]

    -- so what is found does not depend on the order of the list
    pub found_same : (k : T) (items w : List T) → Ascending order w → ((z : T) → Among z items → Among z w) → ((z : T) → Among z w → Among z items)
        → found order k w ≡ found order k items
    found_same k items w up into from = go (found order k items) refl (found order k w) refl
      where
        go : (o : Option T) → found order k items ≡ o → (r : Option T) → found order k w ≡ r → r ≡ o
        go (Some y) e r f = let m = found_among k items y e in sym f ∙ found_one k w y up (into y m.0) m.1
        go None e None f = refl
        go None e (Some z) f = let m = found_among k w z f in absurd (absent k items z e (from z m.0) m.1)
