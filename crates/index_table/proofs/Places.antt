-- The first place that passes a test.
use Rattle.std.proofs.Common.{◌≡◌, ℕ, zero, suc, ◌+◌, ◌-◌, List, length, get_or, MatchOption, ◌<◌, ◌≤◌, Bool, true, false, cond, Some, None, Option, sym, refl, ap, ◌∙◌, inl, inr, arith}
use Rattle.std.proofs.lemmas.Bool.{cond-true, cond-false, cases_eq}
use Rattle.std.specs.List.{AllWithin, HoldsAt}
use Rattle.index_table.specs.Check.{first_place}

no_choice : (b : Bool) (k : ℕ) (other : Option ℕ) → cond b (Some k) other ≡ None → (b ≡ false) × (other ≡ None)
no_choice true k other e = cc
no_choice false k other e = (refl, e)

module _ (test : ℕ → Bool) where
  pub from_found : (n k p : ℕ) → k ≤ p → p < k + n → ((i : ℕ) → k ≤ i → i < p → test i ≡ false) → test p ≡ true → first_place test n k ≡ Some p
  from_found zero k p low high before here = absurd (omega arith)
  from_found (suc n) k p low high before here = elim (cases_eq k p) [
    | inl e ↦ cond-true _ _ _ (ap test e ∙ here) ∙ ap Some e
    | inr ne ↦ cond-false _ _ _ (before k (omega arith) (omega arith)) ∙ from_found n (suc k) p (omega arith) (omega arith) (λ i l h. before i (omega arith) h) here
  ]

  pub from_none : (n k : ℕ) → ((i : ℕ) → k ≤ i → i < k + n → test i ≡ false) → first_place test n k ≡ None
  from_none zero k all = refl
  from_none (suc n) k all = cond-false _ _ _ (all k (omega arith) (omega arith)) ∙ from_none n (suc k) (λ i l h. all i (omega arith) (omega arith))

  pub first_none : (n : ℕ) → ((i : ℕ) → i < n → test i ≡ false) → first_place test n 0 ≡ None
  first_none n all = from_none n 0 (λ i l h. all i (omega arith))

  -- where there is none, no place passes
  pub none_from : (n k : ℕ) → first_place test n k ≡ None → (i : ℕ) → k ≤ i → i < k + n → test i ≡ false
  none_from zero k e i low high = absurd (omega arith)
  none_from (suc n) k e i low high =
      let both = no_choice (test k) k (first_place test n (suc k)) e in
      elim (cases_eq k i) [
        | inl same ↦ ap test (sym same) ∙ both.0
        | inr ne ↦ none_from n (suc k) both.1 i (omega arith) (omega arith)
      ]

-- what a search of the places finds
pub first_is : (test : ℕ → Bool) (a b n : ℕ) (r : Option ℕ) → b - a ≡ n
    → MatchOption r ((k : ℕ) → a ≤ k → k < b → test k ≡ false) (λ i. (a ≤ i) × (i < b) × (test i ≡ true) × ((k : ℕ) → a ≤ k → k < i → test k ≡ false))
    → r ≡ first_place test n a
first_is test a b n None e none = sym (from_none test n a (λ i low high. none i low (omega arith)))
first_is test a b n (Some i) e some = let low = some.0 in let high = some.1 in sym (from_found test n a i low (omega arith) some.3 some.2)

-- what a search of the entries finds, each read at its place
pub first_of : {X : Type 0} (test : X → Bool) (d : X) (xs : List X) (r : Option ℕ)
    → MatchOption r (AllWithin (λ x. test x ≡ false) xs 0 (length xs)) (λ i. (i < length xs) × HoldsAt (λ x. test x ≡ true) xs i × AllWithin (λ x. test x ≡ false) xs 0 i)
    → r ≡ first_place (λ k. test (get_or xs k d)) (length xs) 0
first_of test d xs None none = first_is (λ k. test (get_or xs k d)) 0 (length xs) (length xs) None (omega arith) (λ k low high. none k d low high)
first_of test d xs (Some i) some =
    first_is (λ k. test (get_or xs k d)) 0 (length xs) (length xs) (Some i) (omega arith) (omega arith, some.0, some.1 d, λ k low high. some.2 k d low high)
