use Rattle.std.proofs.Common.{◌≡◌, ◌-◌, ◌<◌, ◌≤◌, Less}
use Rattle.index_table.specs.Search.{Falling, Past}
use Rattle.index_table.proofs.halving.search.Given as goal

-- the places before `low` are Greater, and the one at `high` is Less
abbrev pub invariant-loop-low : goal.invariant-loop-low
invariant-loop-low g l =
    (l.low ≤ l.high) × (l.high ≤ l.len)
    × (Falling (g.P.Probe.answers l.probe) l.len → Past (g.P.Probe.answers l.probe) l.low)
    × (l.high < l.len → g.P.Probe.answers l.probe l.high ≡ Less)

abbrev pub decreases-loop-low : goal.decreases-loop-low
decreases-loop-low g l = l.high - l.low
