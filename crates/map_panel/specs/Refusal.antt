-- Why something was not done, as an answer of a map.
--     refused refusal    what the map answered, where this is why nothing was done: none where no call of the map answers so
use Rattle.std.specs.Prelude.{Err}
use Rattle.id_ord_errors.specs.Refusal.{not_inserted, not_entered, key_other, not_replaced, gone}
use Rattle.id_ord_law.specs.Standing.Answer.{none, shrunk}
use Rattle.id_ord_law.specs.Step.{Answered}
use Rattle.map_panel.specs.declared.refusals.Refusal.{Refusal}
use Rattle.map_panel.specs.declared.refusals.Refusal.TheVariants.{NotAdded, NotEntered, NotReplaced, KeyChanged, Stale, NotShrunk, NotMoved, Fault, NoItem, NoEntry}

abbrev pub refused : {T : Type 0} → Refusal T → Answered T
refused (NotAdded refusal) = not_inserted refusal
refused (NotEntered refusal) = not_entered refusal
refused (NotReplaced refusal) = not_replaced refusal
refused (KeyChanged refusal) = key_other refusal
refused (Stale refusal) = gone refusal
refused (NotShrunk refusal) = shrunk (Err refusal)
refused (NotMoved refusal) = none
refused (Fault fault) = none
refused NoItem = none
refused NoEntry = none
