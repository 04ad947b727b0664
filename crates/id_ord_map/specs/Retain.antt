-- What retaining items by a rule answers, and the state that it leaves the rule in.
--     retain_answer r               what `retain` answers, as the definitions of the steps have it
--     Turned order x y verdict place p r q
--                                  what becomes of the item x at a place, which the rule changes to y and of which it says this:
--                                  under its key it is replaced or taken out, under another key nothing is done
--     rule_after order verdict changed next s items
--                                  the rule's state after the items are shown to it, one by one, from the state s on;
--                                  one whose key it changes is the last that is shown
use Rattle.std.specs.Prelude.{◌≡◌, ℕ, true, false, cond, List, [], ◌∷◌, Ok, Err, Result}
use Rattle.std.specs.declared.cmp.Ordering.{Ordering}
use Rattle.std.specs.Ordering.{is_eq}
use Rattle.id_ord_item.specs.declared.rule.Verdict.{Verdict}
use Rattle.id_ord_item.specs.declared.rule.Verdict.TheVariants.{Keep, Remove}
use Rattle.id_ord_law.specs.Parts.{Parts}
use Rattle.id_ord_law.specs.Standing.{Answer}
use Rattle.id_ord_law.specs.Step.{Answered, write_at, remove_at}
use Rattle.id_ord_errors.specs.Refusal.{key_other}
use Rattle.id_ord_errors.specs.declared.replacing.KeyChanged.{KeyChanged}

module _ {T : Type 0} where
  abbrev pub retain_answer : Result (Unit {0}) (KeyChanged T) → Answered T
  retain_answer (Ok u) = Answer.done
  retain_answer (Err refusal) = key_other refusal

  abbrev pub Turned : (T → T → Ordering) → T → T → Verdict → ℕ → Parts T → Result Verdict (KeyChanged T) → Parts T → Type 0
  Turned order x y verdict place p (Ok Keep) q = (is_eq (order x y) ≡ true) × (verdict ≡ Keep) × (q ≡ write_at place y p)
  Turned order x y verdict place p (Ok Remove) q = (is_eq (order x y) ≡ true) × (verdict ≡ Remove) × (q ≡ remove_at place p)
  Turned order x y verdict place p (Err refusal) q = (is_eq (order x y) ≡ false) × (refusal.item ≡ y) × (q ≡ p)

  module _ {S : Type 0} (order : T → T → Ordering) (verdict : S → T → Verdict) (changed : S → T → T) (next : S → T → S) where
    abbrev pub rule_after : S → List T → S
    rule_after s [] = s
    rule_after s (x ∷ items) = cond (is_eq (order x (changed s x))) (rule_after (next s x) items) (next s x)
