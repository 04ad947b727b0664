use Rattle.std.proofs.Common.{refl}
use Rattle.id_ord_law.proofs.Performing.{inserts_always, added}
use Rattle.id_ord_map.specs.View.{view}
use Rattle.id_ord_map.proofs.map.IdOrdMap.add_at.Goals as goal

pub unreachable-requires : goal.unreachable-requires
unreachable-requires g c =
    inserts_always g.met.T.IdOrdItem.lawful (view c.args.self.now) c.requires.sound c.args.item c.requires.room c.insert.result c.insert.ensures.answer c.in_default.field-0 c.in_default.is

pub returns : goal.returns
returns g c =
    let a = added g.met.T.IdOrdItem.lawful (view c.args.self.now) c.requires.sound c.args.item c.requires.room c.insert.result c.insert.ensures.answer c.in-Ok.index c.in-Ok.is c.new.result c.new.ensures
    c.requires.absent c.args.place c.requires.place c.in-Ok-new.entry c.in-Ok-new.is
    c.insert.new.slots c.insert.ensures.slots c.open_place.new.table c.open_place.ensures c.insert.new.self c.insert.ensures.numbers in
    record { after = a.0; memory = (refl, refl); sound = a.1 }
