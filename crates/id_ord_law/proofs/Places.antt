-- The place of a key among ascending items, and the items with one put in, taken out or written there.
use Rattle.std.proofs.Common.{◌≡◌, ℕ, zero, suc, ◌≤◌, false, List, [], ◌∷◌, length, set, Some, Ordering, Less, Equal, sym, refl, ap, ◌∙◌, inl, inr, arith}
use Rattle.std.proofs.lemmas.Bool.{both_ways}
use Rattle.std.specs.Ordering.{is_eq, is_lt}
use Rattle.std.specs.List.{insert, remove, slice_get}
use Rattle.id_ord_item.specs.Order.{LawfulOrder}
use Rattle.id_ord_item.proofs.Order.{less_swaps, greater_swaps, alike_right}
use Rattle.index_table.proofs.Finding.{answer, smaller_is}
use Rattle.index_table.proofs.Finding.Answer.{is_less, is_equal, is_greater}
use Rattle.index_table.specs.Walk.{Ascending, counting, smaller}
use Rattle.id_ord_law.specs.Standing.{found, without, placed_in}
use Rattle.id_ord_law.proofs.Keys.{less_or, nth_among, found_here, found_later, found_among, without_here, without_later, without_below, below_has, below_equal, below_less, below_set, other_key}
use Rattle.id_ord_law.proofs.Sorting.{placed_later, placed_here, placed_below}

module _ {T : Type 0} {order : T → T → Ordering} (lawful : LawfulOrder order) where
  pub smaller_none : (x y : T) (w : List T) → Ascending order (y ∷ w) → is_lt (order y x) ≡ false → smaller order x (y ∷ w) ≡ 0
  smaller_none x y w up f =
      smaller_is lawful x (y ∷ w) 0 up (omega arith) (λ i h. absurd (omega arith))
      (λ h e. both_ways (is_lt (order y x)) f (ap is_lt (greater_swaps lawful x y e)))

  pub smaller_more : (x y : T) (w : List T) → order y x ≡ Less → smaller order x (y ∷ w) ≡ suc (smaller order x w)
  smaller_more x y w e = ap (λ (o : Ordering). counting order o (smaller order x w)) e

  pub inserted_placed : (x : T) (w : List T) → Ascending order w → insert w (smaller order x w) x ≡ placed_in order x w
  inserted_placed x [] up = refl
  inserted_placed x (y ∷ w) up = elim (less_or (order y x)) [
    | inl e ↦
        ap (λ (i : ℕ). insert (y ∷ w) i x) (smaller_more x y w e) ∙ ap (λ (v : List T). y ∷ v) (inserted_placed x w up.1)
        ∙ sym (placed_later order x y w e)
    | inr f ↦ ap (λ (i : ℕ). insert (y ∷ w) i x) (smaller_none x y w up f) ∙ sym (placed_here order x y w f)
  ]

  pub smaller_most : (x : T) (w : List T) → smaller order x w ≤ length w
  smaller_most x [] = omega arith
  smaller_most x (y ∷ w) = let h = smaller_most x w in elim (answer (order y x)) [
    | is_less e ↦ let m = smaller_more x y w e in omega arith
    | is_equal e ↦ let m : smaller order x (y ∷ w) ≡ smaller order x w = ap (λ (o : Ordering). counting order o (smaller order x w)) e in omega arith
    | is_greater e ↦ let m : smaller order x (y ∷ w) ≡ smaller order x w = ap (λ (o : Ordering). counting order o (smaller order x w)) e in omega arith
  ]

  -- the item of a standing key is at the key's place
  first_not_less : (k y z : T) (w : List T) → Ascending order (y ∷ w) → is_lt (order y k) ≡ false → found order k (y ∷ w) ≡ Some z → order k y ≡ Equal
  first_not_less k y z w up f e = elim (answer (order k y)) [
    | is_less l ↦
        let m = found_among order k (y ∷ w) z e in
        let n = below_has order k z (y ∷ w) (l, below_less order lawful k y w l up.0) m.0 in
        let q = m.1 in cc
    | is_equal q ↦ q
    | is_greater g ↦ absurd (both_ways (is_lt (order y k)) f (ap is_lt (greater_swaps lawful k y g)))
  ]

  pub nth_smaller : (k z : T) (w : List T) → Ascending order w → found order k w ≡ Some z → slice_get w (smaller order k w) ≡ Some z
  nth_smaller k z [] up e = cc
  nth_smaller k z (y ∷ w) up e = elim (less_or (order y k)) [
    | inl l ↦
        ap (slice_get (y ∷ w)) (smaller_more k y w l)
        ∙ nth_smaller k z w up.1 (sym (found_later order k y w (ap is_eq (less_swaps lawful y k l))) ∙ e)
    | inr f ↦
        let q = first_not_less k y z w up f e in
        ap (slice_get (y ∷ w)) (smaller_none k y w up f) ∙ sym (found_here order k y w q) ∙ e
  ]

  -- an item taken out, or another with its key in its place
  pub removed_without : (k y : T) (w : List T) (i : ℕ) → Ascending order w → slice_get w i ≡ Some y → order k y ≡ Equal → remove w i ≡ without order k w
  removed_without k y [] i up e q = cc
  removed_without k y (x ∷ w) zero up e q =
      let same : x ≡ y = cc in
      let p : order k x ≡ Equal = ap (order k) same ∙ q in
      sym (without_here order k x w p ∙ without_below order k w (below_equal order lawful k x w p up.0))
  removed_without k y (x ∷ w) (suc i) up e q =
      let less = below_has order x y w up.0 (nth_among w i y e) in
      ap (λ (v : List T). x ∷ v) (removed_without k y w i up.1 e q) ∙ sym (without_later order k x w (other_key order lawful k x y less q))

  less_than : (x y z : T) → order x y ≡ Equal → order z y ≡ Less → order z x ≡ Less
  less_than x y z q less = alike_right lawful z x y q ∙ less

  pub set_placed : (x y : T) (w : List T) (i : ℕ) → Ascending order w → slice_get w i ≡ Some y → order x y ≡ Equal → set w i x ≡ placed_in order x (without order x w)
  set_placed x y [] i up e q = cc
  set_placed x y (z ∷ w) zero up e q =
      let same : z ≡ y = cc in
      let p : order x z ≡ Equal = ap (order x) same ∙ q in
      let below = below_equal order lawful x z w p up.0 in
      sym (ap (placed_in order x) (without_here order x z w p ∙ without_below order x w below) ∙ placed_below order lawful x w below)
  set_placed x y (z ∷ w) (suc i) up e q =
      let less = below_has order z y w up.0 (nth_among w i y e) in
      ap (λ (v : List T). z ∷ v) (set_placed x y w i up.1 e q)
      ∙ sym (placed_later order x z (without order x w) (less_than x y z q less))
      ∙ ap (placed_in order x) (sym (without_later order x z w (other_key order lawful x z y less q)))

  pub ascending_set : (x y : T) (w : List T) (i : ℕ) → Ascending order w → slice_get w i ≡ Some y → order x y ≡ Equal → Ascending order (set w i x)
  ascending_set x y [] i up e q = tt
  ascending_set x y (z ∷ w) zero up e q =
      let same : z ≡ y = cc in
      (below_equal order lawful x z w (ap (order x) same ∙ q) up.0, up.1)
  ascending_set x y (z ∷ w) (suc i) up e q =
      let less = below_has order z y w up.0 (nth_among w i y e) in
      (below_set order z x w i (less_than x y z q less) up.0, ascending_set x y w i up.1 e q)
