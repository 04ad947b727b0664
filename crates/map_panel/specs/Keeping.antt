-- What a rule left of a board, as an answer of its map.
--     answered result      what the map answered, where this is what the rule left
--     Counts p q kept      how many items were left and how many removed, where the parts p became q
use Rattle.std.specs.Prelude.{◌≡◌, ◌-◌, Ok, Err, Result}
use Rattle.id_ord_errors.specs.Refusal.{key_other}
use Rattle.id_ord_errors.specs.declared.replacing.KeyChanged.{KeyChanged}
use Rattle.id_ord_law.specs.Parts.{Parts}
use Rattle.id_ord_law.specs.Standing.Answer.{done}
use Rattle.id_ord_law.specs.Step.{Answered}
use Rattle.map_panel.specs.declared.keeping.Kept.{Kept}

abbrev pub answered : {T : Type 0} → Result Kept (KeyChanged T) → Answered T
answered (Ok kept) = done
answered (Err refusal) = key_other refusal

abbrev pub Counts : {T : Type 0} → Parts T → Parts T → Kept → Type 0
Counts p q kept = (kept.left ≡ q.len) × (kept.removed ≡ p.len - q.len)
