-- Two walks are the same where they are as long and alike at every place.
use Rattle.std.proofs.Common.{◌≡◌, ℕ, zero, suc, ◌+◌, ◌<◌, Bool, true, false, List, [], ◌∷◌, length, Some, Ordering, refl, ap, subst₂, inl, inr, arith}
use Rattle.std.proofs.lemmas.Bool.{both_ways, cases_lt}
use Rattle.std.specs.List.{AllZip, slice_get}
use Rattle.id_ord_law.specs.Law.{SameWalk}
use Rattle.id_ord_law.specs.Parts.{Parts, walk, Sound}
use Rattle.id_ord_law.proofs.Steps.{walk_long}

module _ {X : Type 0} (R : X → X → Type 0) where
  -- alike at the first n places
  abbrev pub AlikeBelow : List X → List X → ℕ → Type 0
  AlikeBelow xs ys n = (i : ℕ) (x y : X) → i < n → slice_get xs i ≡ Some x → slice_get ys i ≡ Some y → R x y

  pub each_from_places : (xs ys : List X) → length xs ≡ length ys → AlikeBelow xs ys (length xs) → AllZip R xs ys
  each_from_places [] [] long alike = tt
  each_from_places [] (y ∷ ys) long alike = absurd (omega arith)
  each_from_places (x ∷ xs) [] long alike = absurd (omega arith)
  each_from_places (x ∷ xs) (y ∷ ys) long alike =
      (alike 0 x y (omega arith) refl refl, each_from_places xs ys (omega arith) (λ i a b low e f. alike (suc i) a b (omega arith) e f))

  pub each_at : (xs ys : List X) (i : ℕ) (x y : X) → AllZip R xs ys → slice_get xs i ≡ Some x → slice_get ys i ≡ Some y → R x y
  each_at [] ys i x y each e f = cc
  each_at (a ∷ xs) [] i x y each e f = absurd each
  each_at (a ∷ xs) (b ∷ ys) zero x y each e f =
      let p : a ≡ x = cc in let q : b ≡ y = cc in subst₂ R p q each.0
  each_at (a ∷ xs) (b ∷ ys) (suc i) x y each e f = each_at xs ys i x y each.1 e f

  pub each_long : (xs ys : List X) → AllZip R xs ys → length xs ≡ length ys
  each_long [] [] each = refl
  each_long [] (y ∷ ys) each = absurd each
  each_long (x ∷ xs) [] each = absurd each
  each_long (x ∷ xs) (y ∷ ys) each = ap suc (each_long xs ys each.1)

  pub alike_more : (xs ys : List X) (n : ℕ) (a b : X) → AlikeBelow xs ys n → slice_get xs n ≡ Some a → slice_get ys n ≡ Some b → R a b → AlikeBelow xs ys (n + 1)
  alike_more xs ys n a b alike e f r i x y low g h = elim (cases_lt i n) [
    | inl less ↦ alike i x y less g h
    | inr high ↦
        let same : i ≡ n = omega arith in
        let there = ap (slice_get xs) same in let here = ap (slice_get ys) same in
        let p : a ≡ x = cc in let q : b ≡ y = cc in subst₂ R p q r
  ]

-- the walks of two sound maps
module _ {T : Type 0} {order : T → T → Ordering} (same : T → T → Bool) (p q : Parts T) (s : Sound order p) (t : Sound order q) where
  pub same_if_alike : p.len ≡ q.len → AlikeBelow (λ x y. same x y ≡ true) (walk p) (walk q) p.len → SameWalk same (walk p) (walk q)
  same_if_alike long alike =
      let v = walk_long order p s in let w = walk_long order q t in
      each_from_places (λ x y. same x y ≡ true) (walk p) (walk q) (omega arith) (λ i x y low e f. alike i x y (omega arith) e f)

  pub not_same_if_longer : (p.len ≡ q.len → ⊥) → SameWalk same (walk p) (walk q) → ⊥
  not_same_if_longer not each =
      let v = walk_long order p s in let w = walk_long order q t in let l = each_long (λ x y. same x y ≡ true) (walk p) (walk q) each in not (omega arith)

  pub not_same_if_other : (i : ℕ) (x y : T) → slice_get (walk p) i ≡ Some x → slice_get (walk q) i ≡ Some y → same x y ≡ false → SameWalk same (walk p) (walk q) → ⊥
  not_same_if_other i x y e f differ each = both_ways (same x y) differ (each_at (λ a b. same a b ≡ true) (walk p) (walk q) i x y each e f)
