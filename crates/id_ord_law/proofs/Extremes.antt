-- What is read of a sound map is what a sorted collection gives.
use Rattle.std.proofs.Common.{◌≡◌, ℕ, zero, suc, ◌-◌, ◌<◌, List, [], ◌∷◌, length, Some, None, Option, Ordering, Less, sym, refl, ap, ◌∙◌, inl, inr, arith}
use mathlib.Core.List.Memᴰ.{cases_cons as either}
use mathlib.Core.List.Memᴰ.{not-nil as nowhere}
use mathlib.Core.List.{Memᴰ as Among}
use Rattle.std.proofs.lemmas.Bool.{cases_lt}
use Rattle.std.specs.List.{slice_get}
use Rattle.id_ord_item.specs.Order.{LawfulOrder}
use Rattle.index_table.specs.Walk.{Ascending}
use Rattle.id_ord_law.specs.Parts.{walk}
use Rattle.id_ord_law.specs.Reading.{HasKey, Least, Greatest, ReadLaw}
use Rattle.id_ord_law.specs.Standing.{found}
use Rattle.id_ord_law.proofs.Keys.{nth_among, nth_some, nth_past, found_among, absent, below_has}
use Rattle.id_ord_law.proofs.Sorting.{never_both}
use Rattle.id_ord_law.proofs.Steps.{walk_long}

module _ {T : Type 0} {order : T → T → Ordering} (lawful : LawfulOrder order) where
  never_itself : (x : T) → order x x ≡ Less → ⊥
  never_itself x less = let e = lawful.reflexive x in cc

  has_key : (k : T) (w : List T) (r : Option T) → found order k w ≡ r → HasKey order k w r
  has_key k w None e = λ y m. absent order k w y e m
  has_key k w (Some x) e = found_among order k w x e

  -- the item at an earlier place is Less
  places_ascend : (w : List T) (i j : ℕ) (x y : T) → Ascending order w → i < j → slice_get w i ≡ Some x → slice_get w j ≡ Some y → order x y ≡ Less
  places_ascend [] i j x y up low e f = cc
  places_ascend (v ∷ w) i zero x y up low e f = absurd (omega arith)
  places_ascend (v ∷ w) zero (suc j) x y up low e f =
      let same : v ≡ x = cc in
      ap (λ (u : T). order u y) (sym same) ∙ below_has order v y w up.0 (nth_among w j y f)
  places_ascend (v ∷ w) (suc i) (suc j) x y up low e f = places_ascend w i j x y up.1 (omega arith) e f

  -- an item of the walk has a place
  place_of : (w : List T) (y : T) → Among y w → (i : ℕ) × ((i < length w) × (slice_get w i ≡ Some y))
  place_of [] y m = absurd (nowhere m)
  place_of (x ∷ w) y m = elim (either m) [
    | inl e ↦ (0, (omega arith, ap Some (sym e)))
    | inr later ↦ let p = place_of w y later in let b = p.1.0 in (suc p.0, (omega arith, p.1.1))
  ]

  least : (w : List T) → Ascending order w → Least order w (slice_get w 0)
  least [] up = refl
  least (x ∷ w) up = (nth_among (x ∷ w) 0 x refl, λ y m less. go y (place_of (x ∷ w) y m) less)
    where
      go : (y : T) → (i : ℕ) × ((i < length (x ∷ w)) × (slice_get (x ∷ w) i ≡ Some y)) → order y x ≡ Less → ⊥
      go y (zero, (low, e)) less = let same : x ≡ y = cc in never_itself x (ap (λ (u : T). order u x) same ∙ less)
      go y (suc i, (low, e)) less = never_both order lawful x y (places_ascend (x ∷ w) 0 (suc i) x y up (omega arith) refl e) less

  greatest : (w : List T) (n : ℕ) → length w ≡ n → Ascending order w → Greatest order w (slice_get w (n - 1))
  greatest w n long up = go (slice_get w (n - 1)) refl
    where
      empty : (v : List T) → length v ≡ 0 → v ≡ []
      empty [] e = refl
      empty (x ∷ v) e = absurd (omega arith)

      none : (m : ℕ) → length w ≡ m → slice_get w (m - 1) ≡ None → w ≡ []
      none zero e f = empty w e
      none (suc m) e f =
          let there = nth_some w (suc m - 1) (omega arith) in let g = there.1 in
          cc

      go : (r : Option T) → slice_get w (n - 1) ≡ r → Greatest order w r
      go None e = none n long e
      go (Some x) e = (nth_among w (n - 1) x e, λ y m less. last y (place_of w y m) less)
        where
          last : (y : T) → (i : ℕ) × ((i < length w) × (slice_get w i ≡ Some y)) → order x y ≡ Less → ⊥
          last y (i, (low, f)) less = elim (cases_lt i (n - 1)) [
            | inl before ↦ never_both order lawful y x (places_ascend w i (n - 1) y x up before f e) less
            | inr after ↦
                let here : i ≡ n - 1 = omega arith in
                let there = ap (slice_get w) here in
                let same : y ≡ x = cc in never_itself x (ap (order x) (sym same) ∙ less)
          ]

  pub read_law : ReadLaw order
  read_law = record {
    key = λ p s k. has_key k (walk p) (found order k (walk p)) refl;
    least = λ p s. least (walk p) s.ascending;
    greatest = λ p s. greatest (walk p) p.len (walk_long order p s) s.ascending;
    ascends = λ p s i j x y low e f. places_ascend (walk p) i j x y s.ascending low e f;
    within = λ p s i low. let w = walk_long order p s in nth_some (walk p) i (omega arith);
    past = λ p s i high. let w = walk_long order p s in nth_past (walk p) i (omega arith);
  }
