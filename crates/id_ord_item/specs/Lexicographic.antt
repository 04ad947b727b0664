-- Orders by the numbers that make up a key, the first part first.
--     lexicographic part parts x y    how two items compare: by a part, and where that is Equal by the parts after it
use Rattle.std.specs.Prelude.{ℕ, List, [], ◌∷◌}
use Rattle.std.specs.declared.cmp.Ordering.{Ordering}
use Rattle.std.specs.Ordering.{nat_cmp, ordering_then}

abbrev pub lexicographic : {T : Type 0} → (T → ℕ) → List (T → ℕ) → T → T → Ordering
lexicographic part [] x y = nat_cmp (part x) (part y)
lexicographic part (next ∷ parts) x y = ordering_then (nat_cmp (part x) (part y)) (lexicographic next parts x y)
