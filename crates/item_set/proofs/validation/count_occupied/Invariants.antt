use Rattle.std.proofs.Common.{◌≡◌, ◌+◌, ◌≤◌, drop}
use Rattle.item_set.specs.Slots.{occupied}
use Rattle.item_set.proofs.validation.count_occupied.Given as goal

abbrev pub invariant-loop-slot : goal.invariant-loop-slot
invariant-loop-slot g l = (l.count ≤ l.slot-index) × (l.count + occupied (drop l.slot-index l.slots) ≡ occupied l.slots)
