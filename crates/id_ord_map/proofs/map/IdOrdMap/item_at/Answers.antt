use Rattle.id_ord_law.proofs.Performing.{reads_item, reads_some}
use Rattle.id_ord_map.specs.View.{view}
use Rattle.id_ord_map.proofs.map.IdOrdMap.item_at.Goals as goal

pub unreachable-requires : goal.unreachable-requires
unreachable-requires g c =
    reads_some g.met.T.IdOrdItem.lawful (view c.args.self.now) c.requires.sound c.args.place c.requires.place c.index_at.result c.index_at.ensures c.get.result c.get.ensures c.in_default.is

pub returns : goal.returns
returns g c =
    reads_item g.met.T.IdOrdItem.lawful (view c.args.self.now) c.requires.sound c.args.place c.requires.place c.index_at.result c.index_at.ensures c.get.result c.get.ensures c.in-Some.item c.in-Some.is
