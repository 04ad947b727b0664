-- That codes are in the order of the texts.
--     Typed letters        at most eight letters, each a byte above 0
--     CodesInTextOrder     the codes of two such texts compare as the texts do: by the first letters that differ, and a text before any that continues it
use Rattle.std.specs.Prelude.{◌≡◌, ℕ, ◌<◌, ◌≤◌, List, length}
use Rattle.std.specs.Cmp.Lexicographic.{slice_cmp}
use Rattle.std.specs.List.{AllByRecursion}
use Rattle.panel_items.specs.Code.{code_of}
use Rattle.std.specs.Ordering.{nat_cmp}

abbrev pub Typed : List ℕ → Type 0
Typed letters = (length letters ≤ 8) × AllByRecursion (λ letter. (0 < letter) × (letter < 256)) letters

abbrev pub CodesInTextOrder : Type 0
CodesInTextOrder = (xs ys : List ℕ) → Typed xs → Typed ys → nat_cmp (code_of xs) (code_of ys) ≡ slice_cmp nat_cmp xs ys
