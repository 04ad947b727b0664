use Rattle.std.proofs.Common.{rules}
use Rattle.index_table.proofs.Passing.{no_table_fault}
use Rattle.index_table.proofs.check.validate.Goals as goal

pub returns-then-ascends : goal.returns-then-ascends
returns-then-ascends g c =
    let both = c.ascends.ensures.yes c.if-ascends.true in
    let none = no_table_fault g.met.T.IdOrdItem.lawful _ _ both.0 both.1 in search rules
