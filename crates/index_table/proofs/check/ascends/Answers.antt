-- The loop's answer is that of `rising`.
use Rattle.std.proofs.Common.{◌≡◌, true, false, None, sym, ◌∙◌, arith}
use Rattle.std.proofs.lemmas.Grind.{common_steps}
use Rattle.index_table.proofs.Rising.{rising, ascending_if, rising_if_ascending}
use Rattle.index_table.proofs.check.ascends.Goals as goal

pub returns-in_default-clause-no : goal.returns-in_default-clause-no
returns-in_default-clause-no g c named ascending =
    let ends : rising g.T.IdOrdItem.order c.args.slots.now None c.args.entries.now ≡ false = grind (arith, common_steps) in
    sym ends ∙ rising_if_ascending g.met.T.IdOrdItem.lawful _ _ named ascending

pub returns-then-not-follows-clause-no : goal.returns-then-not-follows-clause-no
returns-then-not-follows-clause-no g c named ascending =
    let ends : rising g.T.IdOrdItem.order c.args.slots.now None c.args.entries.now ≡ false = grind (arith, common_steps) in
    sym ends ∙ rising_if_ascending g.met.T.IdOrdItem.lawful _ _ named ascending

pub returns-clause-yes : goal.returns-clause-yes
returns-clause-yes g c _ =
    let ends : rising g.T.IdOrdItem.order c.args.slots.now None c.args.entries.now ≡ true = grind (arith, common_steps) in
    ascending_if g.met.T.IdOrdItem.lawful _ _ ends
