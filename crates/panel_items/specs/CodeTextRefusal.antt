-- The number that stands for each refusal of a text.
--     refusal_number refusal     9 for LONG, a text of more than eight letters
use Rattle.std.specs.Prelude.{ℕ}
use Rattle.panel_items.specs.declared.code_text.refusal.CodeTextRefusal.{CodeTextRefusal}
use Rattle.panel_items.specs.declared.code_text.refusal.CodeTextRefusal.TheVariants.{Long}

abbrev pub refusal_number : CodeTextRefusal → ℕ
refusal_number Long = 9
