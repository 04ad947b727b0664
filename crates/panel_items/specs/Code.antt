-- The code that letters mean.
--     padded letters     the letters, and zeros after them up to eight
--     code_of letters    the number that these eight write in base 256, the first letter highest
use Rattle.std.specs.Prelude.{ℕ, ◌-◌, List, ◌++◌, length, replicate}
use Rattle.std.specs.Int.Digits.{number_from_digits}

abbrev pub padded : List ℕ → List ℕ
padded letters = letters ++ replicate (8 - length letters) 0

abbrev pub code_of : List ℕ → ℕ
code_of letters = number_from_digits 256 (padded letters)
