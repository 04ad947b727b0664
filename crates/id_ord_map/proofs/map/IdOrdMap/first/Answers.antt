use Rattle.std.proofs.Common.{sym, subst}
use Rattle.id_ord_law.proofs.Extremes.{read_law}
use Rattle.id_ord_law.specs.Parts.{walk}
use Rattle.id_ord_law.specs.Reading.{Least}
use Rattle.id_ord_map.specs.View.{view}
use Rattle.id_ord_map.proofs.map.IdOrdMap.first.Goals as goal

pub returns-clause-least : goal.returns-clause-least
returns-clause-least g c =
    let m = c.args.self.now in let lawful = g.met.T.IdOrdItem.lawful in
    subst (Least g.T.IdOrdItem.order (walk (view m))) (sym c.iter.ensures) ((read_law lawful).least (view m) c.requires.sound)
