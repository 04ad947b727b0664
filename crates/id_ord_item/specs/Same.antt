-- When a test of two items says yes exactly where they agree in every field.
--     Faithful equal      equal is such a test
use Rattle.std.specs.Prelude.{◌≡◌, Bool, true}

pub record Faithful {T : Type 0} (equal : T → T → Bool) : Type 0 where
  pub agree_if_yes : (x y : T) → equal x y ≡ true → x ≡ y
  pub yes_if_agree : (x y : T) → x ≡ y → equal x y ≡ true
