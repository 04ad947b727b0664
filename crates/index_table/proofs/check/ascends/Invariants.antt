use Rattle.std.proofs.Common.{◌≡◌, drop, None}
use Rattle.index_table.proofs.Rising.{rising}
use Rattle.index_table.proofs.check.ascends.Given as goal

-- what is left of the entries gives the answer
abbrev pub invariant-loop-entry : goal.invariant-loop-entry
invariant-loop-entry g l =
    rising g.T.IdOrdItem.order l.slots l.before (drop l.entry-index l.entries) ≡ rising g.T.IdOrdItem.order l.slots None l.entries
