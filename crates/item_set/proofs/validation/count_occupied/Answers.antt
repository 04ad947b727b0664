use Rattle.std.proofs.Common.{◌+◌, drop, sym, ap, ◌∙◌, arith}
use Rattle.std.proofs.lemmas.List.{at_drop_more, at_drop_all}
use Rattle.item_set.specs.Slots.{occupied, counted}
use Rattle.item_set.proofs.validation.count_occupied.Goals as goal
use Rattle.item_set.proofs.validation.count_occupied.Goals.{in-Occupied, in-Vacant}

pub loop-slot-preserved : goal.loop-slot-preserved
loop-slot-preserved g c =
    let i = c.loop-slot.slot-index in
    let more = at_drop_more occupied c.args.slots.now i c.slot-item.result (omega arith) in
    let rest = occupied (drop (i + 1) c.args.slots.now) in
    elim c.match-slot.branch [
      | in-Occupied w ↦ let one = ap (λ s. counted s rest) (sym c.slot-item.is ∙ w.in-Occupied.is) in let n = w.count-is in (omega arith, omega arith)
      | in-Vacant w ↦ let none = ap (λ s. counted s rest) (sym c.slot-item.is ∙ w.in-Vacant.is) in let n = w.count-is in (omega arith, omega arith)
    ]

pub returns : goal.returns
returns g c = let all = at_drop_all occupied c.args.slots.now c.loop-slot.slot-index (omega arith) in omega arith
