use Rattle.std.proofs.Common.{◌≡◌, ℕ, suc, ◌+◌, ◌-◌, ◌<◌, List, Some, sym, ap, ◌∙◌, arith}
use Rattle.std.proofs.lemmas.Bool.{cond-true, cond-false}
use Rattle.std.proofs.lemmas.Result.{err_from_is_err_and}
use Rattle.item_set.specs.Chain.{follow, unless}
use Rattle.item_set.specs.declared.index.ItemIndex.{ItemIndex}
use Rattle.item_set.specs.declared.slot.ItemSlot.{ItemSlot}
use Rattle.item_set.proofs.validation.check_chain.Goals as goal

-- a slot is still to be met
one_left : {T : Type 0} (slots : List (ItemSlot T)) (vacant met : ℕ) (slot : ItemIndex) → met < vacant → follow slots (suc (vacant - (met + 1))) met slot ≡ follow slots (vacant - met) met slot
one_left slots vacant met slot h = let e : suc (vacant - (met + 1)) ≡ vacant - met = omega arith in ap (λ (k : ℕ). follow slots k met slot) e

pub returns-then-is_sentinel : goal.returns-then-is_sentinel
returns-then-is_sentinel g c =
    ap unless (
    sym (cond-true _ _ _ (sym c.if-is_sentinel.ensures))
    ∙ one_left c.args.slots.now c.args.vacant c.loop-steps.steps c.loop-steps.slot c.loop-steps-test.true
    ∙ c.loop-steps.invariant
    )

pub returns-in_err-slot : goal.returns-in_err-slot
returns-in_err-slot g c =
    let slots = c.args.slots.now in let met = c.loop-steps.steps in
    let fault : Some c.in_err-slot.field-0.0 ≡ follow slots c.args.vacant 0 c.args.head =
    sym (cond-false _ _ _ (sym c.if-is_sentinel.ensures) ∙ c.in_err-slot.ensures (λ n. follow slots (c.args.vacant - (met + 1)) (suc met) n))
    ∙ one_left slots c.args.vacant met c.loop-steps.slot c.loop-steps-test.true
    ∙ c.loop-steps.invariant in
    let gives = err_from_is_err_and c.from_residual.result c.from_residual.ensures.1 in rw (gives.1, gives.2) (ap unless fault)

pub loop-steps-preserved : goal.loop-steps-preserved
loop-steps-preserved g c =
    let slots = c.args.slots.now in let met = c.loop-steps.steps in
    let left = c.args.vacant - (met + 1) in
    let one_more : met + 1 ≡ suc met = omega arith in
    ap (λ (k : ℕ). follow slots left k c.in_ok-slot.slot) one_more
    ∙ sym (cond-false _ _ _ (sym c.if-is_sentinel.ensures) ∙ c.in_ok-slot.ensures (λ n. follow slots left (suc met) n))
    ∙ one_left slots c.args.vacant met c.loop-steps.slot c.loop-steps-test.true
    ∙ c.loop-steps.invariant
