use Rattle.std.proofs.Common.{refl}
use Rattle.id_ord_law.proofs.Keys.{equal_if}
use Rattle.id_ord_law.proofs.Performing.{written}
use Rattle.id_ord_map.specs.View.{view}
use Rattle.id_ord_map.proofs.map.IdOrdMap.replace_at.Goals as goal

pub returns : goal.returns
returns g c =
    let a = written g.met.T.IdOrdItem.lawful (view c.args.self.now) c.requires.sound c.args.place c.requires.place c.index_at-index.result c.index_at-index.ensures
    c.args.item (λ old here. equal_if _ (c.requires.key old here)) c.replace.new.slots c.replace.ensures.slots in
    record { after = a.0; memory = (refl, refl); sound = a.1 }
