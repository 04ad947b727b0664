use Rattle.std.proofs.Common.{◌≡◌, ◌-◌, ◌≤◌, drop}
use Rattle.id_ord_law.proofs.Ruling.{onward}
use Rattle.id_ord_law.specs.Parts.{walk, Sound}
use Rattle.id_ord_map.specs.Retain.{rule_after}
use Rattle.id_ord_map.specs.View.{view, SameMemory}
use Rattle.id_ord_map.proofs.map.IdOrdMap.retain.Given as goal

-- what is still to come from here on is what was to come at the start
abbrev pub invariant-loop-at : goal.invariant-loop-at
invariant-loop-at g l =
    let order = g.T.IdOrdItem.order in let rule = g.R.KeepRule in
    Sound order (view l.self) × (l.at ≤ l.self.items.len)
    × (onward order rule.verdict rule.changed rule.next l.rule l.at (view l.self)
    ≡ onward order rule.verdict rule.changed rule.next l.initial.rule 0 (view l.initial.self))
    × (rule_after order rule.verdict rule.changed rule.next l.rule (drop l.at (walk (view l.self)))
    ≡ rule_after order rule.verdict rule.changed rule.next l.initial.rule (walk (view l.initial.self)))
    × SameMemory l.initial.self l.self

abbrev pub decreases-loop-at : goal.decreases-loop-at
decreases-loop-at g l = l.self.items.len - l.at
