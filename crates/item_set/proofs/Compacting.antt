-- A part of a list up to a place that may lie past its end.
use Rattle.std.proofs.Common.{◌≡◌, ℕ, min, List, length, take, drop, arith}
use Rattle.std.proofs.lemmas.Grind.{common_steps}

pub take_min : {X : Type 0} (n : ℕ) (xs : List X) → take (min n (length xs)) xs ≡ take n xs
take_min n xs = grind (arith, common_steps)

pub drop_min : {X : Type 0} (n : ℕ) (xs : List X) → drop (min n (length xs)) xs ≡ drop n xs
drop_min n xs = grind (arith, common_steps)
