use Rattle.std.proofs.Common.{rules}
use Rattle.id_ord_law.proofs.Performing.{past_end}
use Rattle.id_ord_map.specs.View.{view}
use Rattle.id_ord_map.proofs.map.IdOrdMap.pop_at.Goals as goal

pub returns-then-place-self : goal.returns-then-place-self
returns-then-place-self g c =
    let none = past_end g.met.T.IdOrdItem.lawful (view c.args.self.now) c.requires.sound c.args.place c.if-place-self.true in
    search rules
