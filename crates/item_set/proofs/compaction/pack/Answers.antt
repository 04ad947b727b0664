use Rattle.std.proofs.Common.{ℕ, ◌+◌, ◌<◌, ◌∷◌, [], length, take, drop, set, sym, refl, ap, ◌∙◌, arith}
use Rattle.std.proofs.lemmas.List.{append-nil, drop-set-lt, take_more_set}
use Rattle.item_set.specs.Slots.{index_of, sentinel}
use Rattle.item_set.specs.Compact.{packed}
use Rattle.item_set.specs.declared.slot.ItemSlot.TheVariants.{Occupied, Vacant}
use Rattle.item_set.proofs.Packing.{count_more, pack_more, number_more, drop_on, read_on}
use Rattle.item_set.proofs.compaction.pack.Goals as goal
use Rattle.item_set.proofs.compaction.pack.Goals.{in-Occupied, in-Vacant}

pub loop-at-preserved : goal.loop-at-preserved
loop-at-preserved g c =
    let old = c.args.slots.now in let was = c.args.scratch.now in
    let k = c.loop-at.at in let n = c.loop-at.count in
    let slots = c.loop-at.slots in let slot = c.index-slots-at.result in
    let inside : k < length old = omega arith in
    let long : k < length was = omega arith in
    let read = c.index-slots-at.is ∙ read_on slots old k slot c.loop-at.invariant.rest in
    let rest = drop_on slots old k c.loop-at.invariant.rest in
    elim c.match-slot.branch [
      | in-Occupied w ↦ let v = Occupied w.in-Occupied.field-0 in let more = count_more old k slot inside read v w.in-Occupied.is in let is = w.count-is in record {
        count = omega arith;
        behind = omega arith;
        front = ap (λ (j : ℕ). take j c.match-slot.slots) is ∙ ap (take (n + 1)) w.slots-is ∙ take_more_set slots n slot (omega arith) ∙ (let p = pack_more old k slot inside read v w.in-Occupied.is in cc);
        rest = ap (drop (k + 1)) w.slots-is ∙ drop-set-lt (k + 1) slots n slot (omega arith) ∙ rest;
        numbers = w.scratch-is ∙ ap (set c.loop-at.scratch k) w.new.ensures ∙ number_more old k slot inside read v w.in-Occupied.is c.loop-at.scratch was (index_of n) long c.loop-at.invariant.numbers (ap (λ (m : ℕ). index_of m ∷ []) (sym c.loop-at.invariant.count));
      }
      | in-Vacant w ↦ let v = Vacant w.in-Vacant.next in let more = count_more old k slot inside read v w.in-Vacant.is in let is = w.count-is in record {
        count = omega arith;
        behind = omega arith;
        front = let p = pack_more old k slot inside read v w.in-Vacant.is ∙ append-nil (packed (take k old)) in cc;
        rest = ap (drop (k + 1)) w.slots-is ∙ rest;
        numbers = w.scratch-is ∙ number_more old k slot inside read v w.in-Vacant.is c.loop-at.scratch was sentinel long c.loop-at.invariant.numbers refl;
      }
    ]
