-- One turn of retaining: what is still to come, and the rule's state at the end.
use Rattle.std.proofs.Common.{◌≡◌, ℕ, ◌+◌, ◌-◌, ◌≤◌, true, List, ◌∷◌, drop, Some, Ok, Err, Ordering, sym, refl, ap, ◌∙◌, ap₂}
use Rattle.std.proofs.lemmas.Bool.{cond-true, cond-false}
use Rattle.std.specs.Ordering.{is_eq}
use Rattle.std.specs.List.{slice_get}
use Rattle.id_ord_item.specs.Order.{LawfulOrder}
use Rattle.id_ord_item.specs.declared.rule.Verdict.{Verdict}
use Rattle.id_ord_item.specs.declared.rule.Verdict.TheVariants.{Keep, Remove}
use Rattle.id_ord_law.proofs.Keys.{equal_if}
use Rattle.id_ord_law.proofs.Ruling.{drop_at_item, onward, stopped, kept_rest, kept_turn, removed_rest, removed_turn, none_left, all_shown}
use Rattle.id_ord_law.specs.Parts.{Parts, walk, Sound}
use Rattle.id_ord_law.specs.Standing.{Answer}
use Rattle.id_ord_law.specs.Step.{Outcome}
use Rattle.id_ord_errors.specs.declared.replacing.KeyChanged.{KeyChanged}
use Rattle.id_ord_map.specs.Retain.{Turned, rule_after}

module _ {T S : Type 0} (order : T → T → Ordering) (verdict : S → T → Verdict) (changed : S → T → T) (next : S → T → S) where
  abbrev to_come : S → ℕ → Parts T → Outcome T
  to_come s i p = onward order verdict changed next s i p

  abbrev left : S → List T → S
  left s items = rule_after order verdict changed next s items

  -- at place i of the parts p stands x, which was shown to the rule in the state s
  module _ (lawful : LawfulOrder order) (p q : Parts T) (sound : Sound order p) (i : ℕ) (s s' : S) (x : T) (at : slice_get (walk p) i ≡ Some x) (is-s : s' ≡ next s x) where
    rule_on : (rest : List T) → drop i (walk p) ≡ x ∷ rest → is_eq (order x (changed s x)) ≡ true → left s' rest ≡ left s (drop i (walk p))
    rule_on rest shown one = ap (λ (t : S). left t rest) is-s ∙ sym (ap (left s) shown ∙ cond-true _ _ _ one)

    pub keeps : Turned order x (changed s x) (verdict s x) i p (Ok Keep) q
        → (to_come s' (i + 1) q ≡ to_come s i p) × (left s' (drop (i + 1) (walk q)) ≡ left s (drop i (walk p))) × (q.len ≡ p.len)
    keeps turn =
        let key = equal_if (order x (changed s x)) turn.0 in (
          kept_turn order verdict changed next lawful p q sound i s s' x (changed s x) at refl is-s key turn.2 turn.1,
          rule_on (drop (i + 1) (walk q)) (kept_rest order verdict changed next lawful p q sound i s s' x (changed s x) at refl is-s key turn.2) turn.0,
          ap (λ (r : Parts T). r.len) turn.2,
        )

    pub removes : Turned order x (changed s x) (verdict s x) i p (Ok Remove) q
        → (to_come s' i q ≡ to_come s i p) × (left s' (drop i (walk q)) ≡ left s (drop i (walk p))) × (q.len ≡ p.len - 1)
    removes turn =
        let key = equal_if (order x (changed s x)) turn.0 in (
          removed_turn order verdict changed next lawful p q sound i s s' x (changed s x) at refl is-s key turn.2 turn.1,
          rule_on (drop i (walk q)) (removed_rest order verdict changed next lawful p q sound i s s' x (changed s x) at refl is-s key turn.2) turn.0,
          ap (λ (r : Parts T). r.len) turn.2,
        )

    pub stops : (refusal : KeyChanged T) → Turned order x (changed s x) (verdict s x) i p (Err refusal) q
        → (to_come s i p ≡ (Answer.key_changed refusal.item, q)) × (s' ≡ left s (drop i (walk p)))
    stops refusal turn = (
      stopped order verdict changed next lawful p q sound i s s' x (changed s x) at refl is-s turn.0
          ∙ ap₂ (λ (y : T) (r : Parts T). (Answer.key_changed y, r)) (sym turn.1) (sym turn.2),
      is-s ∙ sym (ap (left s) (drop_at_item (walk p) i x at) ∙ cond-false _ _ _ turn.0),
    )

  pub ends : (p : Parts T) → Sound order p → (i : ℕ) → p.len ≤ i → (s : S) → (to_come s i p ≡ (Answer.done, p)) × (s ≡ left s (drop i (walk p)))
  ends p sound i past s = (
    all_shown order verdict changed next p sound i past s,
    sym (ap (left s) (none_left order verdict changed next p sound i past)),
  )
