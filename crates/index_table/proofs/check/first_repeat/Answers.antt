use Rattle.std.proofs.Common.{◌≡◌, true, false, length, arith, rules, tests}
use Rattle.std.proofs.lemmas.Iterator.{first_from_Range}
use Rattle.index_table.specs.Check.{repeats}
use Rattle.index_table.proofs.Checking.{repeats_if}
use Rattle.index_table.proofs.Places.{first_is}
use Rattle.index_table.proofs.check.first_repeat.Goals as goal

pub returns : goal.returns
returns c =
    let es = c.args.entries.now in
    first_is (repeats es) 0 (length es) (length es) _ (omega arith)
    (first_from_Range _ _ _ _ (λ k. repeats es k ≡ true) (λ k. repeats es k ≡ false) c.find.ensures.ran
    (λ x q k. search (rules, tests, repeats_if)) (λ x q k. search (rules, tests, repeats_if)))
