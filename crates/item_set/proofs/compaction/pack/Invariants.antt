use Rattle.std.proofs.Common.{◌≡◌, ◌≤◌, ◌++◌, take, drop}
use Rattle.item_set.specs.Slots.{occupied}
use Rattle.item_set.specs.Compact.{new_numbers, packed}
use Rattle.item_set.proofs.compaction.pack.Given as goal

-- the slots before `at` are numbered and packed, the others are as they were
abbrev pub invariant-loop-at : goal.invariant-loop-at
invariant-loop-at g l = record {
  count : l.count ≡ occupied (take l.at l.initial.slots);
  behind : l.count ≤ l.at;
  front : take l.count l.slots ≡ packed (take l.at l.initial.slots);
  rest : drop l.at l.slots ≡ drop l.at l.initial.slots;
  numbers : l.scratch ≡ new_numbers 0 (take l.at l.initial.slots) ++ drop l.at l.initial.scratch;
}
