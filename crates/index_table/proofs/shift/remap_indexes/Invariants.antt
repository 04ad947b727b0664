use Rattle.std.proofs.Common.{◌≡◌, ◌++◌, map, take, drop}
use Rattle.index_table.specs.Shift.{renumbered}
use Rattle.index_table.proofs.shift.remap_indexes.Given as goal

abbrev pub invariant-loop-entry : goal.invariant-loop-entry
invariant-loop-entry l =
    l.entry-items ≡ map (renumbered l.remap l.scratch) (take l.entry-index l.initial.entry-items) ++ drop l.entry-index l.initial.entry-items
