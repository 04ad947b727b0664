use Rattle.std.proofs.Common.{arith}
use Rattle.std.proofs.lemmas.Grind.{common_steps}
use Rattle.std.proofs.lemmas.List.Edits.{map_over_more}
use Rattle.index_table.specs.Shift.{renumbered}
use Rattle.index_table.proofs.shift.remap_indexes.Goals as goal

pub loop-entry-preserved : goal.loop-entry-preserved
loop-entry-preserved c = grind (arith, common_steps, map_over_more (renumbered c.args.remap.now c.args.scratch.now))
