use Rattle.std.proofs.Common.{◌≡◌, ℕ, true, false, ◌-◌, length, arith, rules, tests}
use Rattle.std.proofs.lemmas.Iterator.{first_from_Range}
use Rattle.index_table.specs.Check.{unordered}
use Rattle.index_table.proofs.Places.{first_is}
use Rattle.index_table.proofs.check.first_unordered.Goals as goal

pub returns : goal.returns
returns g c =
    let es = c.args.entries.now in let test = unordered g.T.IdOrdItem.order c.args.slots.now es in
    first_is test 1 (length es) (length es - 1) _ (omega arith) (first_from_Range _ _ _ _ (λ (k : ℕ). test k ≡ true) (λ (k : ℕ). test k ≡ false) c.find.ensures.ran (λ x q k. search (rules, tests)) (λ x q k. search (rules, tests)))
