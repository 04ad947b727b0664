-- What a text of a code holds and means, and how it is filled.
--     letters_of text                   the letters that it holds
--     fill_answer letters               Ok for at most eight letters, and refused as Long for more
--     letters_after_fill old letters    what it holds after a call to fill: the letters if at most eight, and the old ones otherwise
--     sailing_meant text                the sailing looked for: the code of its letters, due at berth 0 at minute 0
use Rattle.std.specs.Prelude.{ℕ, cond, List, length, Ok, Err, Result, nat_le}
use Rattle.panel_items.specs.Code.{code_of}
use Rattle.panel_items.specs.declared.code_text.CodeText.{CodeText}
use Rattle.panel_items.specs.declared.code_text.refusal.CodeTextRefusal.{CodeTextRefusal}
use Rattle.panel_items.specs.declared.code_text.refusal.CodeTextRefusal.TheVariants.{Long}
use Rattle.panel_items.specs.declared.sailing.Sailing.{Sailing}

abbrev pub letters_of : CodeText → List ℕ
letters_of text = text.letters.now

abbrev pub fill_answer : List ℕ → Result (Unit {0}) CodeTextRefusal
fill_answer letters = cond (nat_le (length letters) 8) (Ok tt) (Err Long)

abbrev pub letters_after_fill : List ℕ → List ℕ → List ℕ
letters_after_fill old letters = cond (nat_le (length letters) 8) letters old

abbrev pub sailing_meant : CodeText → Sailing
sailing_meant text = record { code = code_of (letters_of text); berth = 0; due = 0 }
