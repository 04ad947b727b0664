use Rattle.std.proofs.Common.{refl}
use Rattle.id_ord_law.proofs.Performing.{reads_item, reads_some, taken_out_lem}
use Rattle.id_ord_map.specs.View.{view}
use Rattle.id_ord_map.proofs.map.IdOrdMap.take_out.Goals as goal

pub unreachable-requires : goal.unreachable-requires
unreachable-requires g c =
    reads_some g.met.T.IdOrdItem.lawful (view c.args.self.now) c.requires.sound c.args.place c.requires.place c.index_at-index.result c.index_at-index.ensures c.remove.result c.remove.ensures.answer c.in_default.is

pub returns : goal.returns
returns g c =
    let a = taken_out_lem g.met.T.IdOrdItem.lawful (view c.args.self.now) c.requires.sound c.args.place c.requires.place c.index_at-index.result c.index_at-index.ensures
    c.remove.new.slots c.remove.ensures.slots c.close_place.new.table c.close_place.ensures c.remove.new.self c.remove.ensures.numbers in
    record {
      answer = reads_item g.met.T.IdOrdItem.lawful (view c.args.self.now) c.requires.sound c.args.place c.requires.place c.index_at-index.result c.index_at-index.ensures
          c.remove.result c.remove.ensures.answer c.in-Some.item c.in-Some.is;
      after = a.0;
      memory = (refl, refl);
      sound = a.1;
    }
