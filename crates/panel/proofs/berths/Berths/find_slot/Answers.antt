use Rattle.std.proofs.Common.{rules, tests}
use Rattle.std.proofs.lemmas.Iterator.{first_from_Range}
use Rattle.item_set.specs.Slots.{index_of}
use Rattle.panel.specs.Berths.{Stands}
use Rattle.panel.proofs.berths.Berths.find_slot.Goals as goal

pub returns : goal.returns
returns c =
    let found = first_from_Range _ _ _ _ (λ k. Stands c.args.key c.args.self.now (index_of k)) (λ k. ¬ (Stands c.args.key c.args.self.now (index_of k))) c.find.ensures.ran
    (λ x q k. search (rules, tests)) (λ x q k. search (rules, tests)) in
    search rules
