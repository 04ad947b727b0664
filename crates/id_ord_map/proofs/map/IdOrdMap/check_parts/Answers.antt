use Rattle.std.proofs.Common.{◌≡◌, ℕ, ◌-◌, ◌≤◌, take, sym, ap, ◌∙◌, ap₂, arith}
use Rattle.item_set.specs.Chain.{unless}
use Rattle.id_ord_law.specs.Parts.{capacity}
use Rattle.id_ord_map.specs.Fault.{offered, entries_fault, map_fault}
use Rattle.id_ord_map.specs.View.{view}
use Rattle.id_ord_map.proofs.Adopting.{entries_fault_lem, accepts_sound}
use Rattle.id_ord_map.proofs.map.IdOrdMap.check_parts.Goals as goal

pub returns : goal.returns
returns g c =
    let order = g.T.IdOrdItem.order in let count = c.args.count in let r = c.check_entries.result in
    let p = offered c.args.items.used c.args.items.len c.args.items.free_head (view c.args.self.now) in
    let room = c.capacity-capacity.ensures in
    let fits : p.used ≤ capacity p = omega arith in let low : count ≤ capacity p = omega arith in
    let all : p.used - 0 ≡ p.used = omega arith in let some : count - 0 ≡ count = omega arith in
    let answer : r ≡ unless (map_fault order p count) =
    c.check_entries.ensures
    ∙ ap unless (
    ap₂ (λ (m n : ℕ). entries_fault order (take m p.slots) (take n p.table) p.len) all some
    ∙ sym (entries_fault_lem order p count fits low c.in_ok-validate.ensures.answer)
    ) in
    record { answer = answer; accepts = accepts_sound order p count g.met.T.IdOrdItem.lawful r answer }
