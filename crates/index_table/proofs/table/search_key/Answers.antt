use Rattle.index_table.proofs.Finding.{falls}
use Rattle.index_table.proofs.table.search_key.Goals as goal

pub returns-clause-place : goal.returns-clause-place
returns-clause-place g c named ascending =
    c.search.ensures.place (falls g.met.T.IdOrdItem.lawful (g.Q.Comparable.meant c.args.query.now) _ _ named ascending)
