use Rattle.std.proofs.Common.{rules}
use Rattle.index_table.proofs.Finding.{place_is}
use Rattle.index_table.proofs.table.find_place.Goals as goal

pub returns-clause-answer : goal.returns-clause-answer
returns-clause-answer g c named ascending =
    place_is g.met.T.IdOrdItem.lawful (g.Q.Comparable.meant c.args.query.now) _ _ named ascending _ c.unwrap_or_else.result (c.search_key.ensures.place named ascending) (search rules)
