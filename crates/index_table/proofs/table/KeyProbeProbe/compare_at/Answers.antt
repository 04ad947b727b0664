use Rattle.std.proofs.Common.{rules}
use Rattle.index_table.proofs.Probing.{answer_is}
use Rattle.index_table.proofs.table.KeyProbeProbe.compare_at.Goals as goal

pub returns : goal.returns
returns g c =
    let self = c.args.self.now in
    answer_is (g.T.IdOrdItem.order (g.Q.Comparable.meant self.query.now)) self.slots.now self.entries.now c.args.place _ c.and_then.result c.map_or.result c.index_at.ensures (search rules) (search rules)
