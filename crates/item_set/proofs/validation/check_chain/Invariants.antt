use Rattle.std.proofs.Common.{◌≡◌, ◌-◌}
use Rattle.item_set.specs.Chain.{follow}
use Rattle.item_set.proofs.validation.check_chain.Given as goal

-- what is left of the chain has the fault that the whole has
abbrev pub invariant-loop-steps : goal.invariant-loop-steps
invariant-loop-steps g l = follow l.slots (l.vacant - l.steps) l.steps l.slot ≡ follow l.slots l.vacant 0 l.initial.slot
