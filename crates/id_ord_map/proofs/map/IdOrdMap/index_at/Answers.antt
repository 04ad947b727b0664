use Rattle.std.proofs.Common.{◌∙◌}
use Rattle.id_ord_law.proofs.Performing.{entry_named}
use Rattle.id_ord_map.specs.View.{view}
use Rattle.id_ord_map.proofs.map.IdOrdMap.index_at.Goals as goal

pub returns : goal.returns
returns g c =
    c.value.ensures
    ∙ entry_named g.met.T.IdOrdItem.lawful (view c.args.self.now) c.requires.sound c.args.place _ c.requires.place
