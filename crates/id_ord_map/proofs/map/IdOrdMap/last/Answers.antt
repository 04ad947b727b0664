use Rattle.std.proofs.Common.{sym, subst, ap, ◌∙◌, ℕ}
use Rattle.std.specs.List.{slice_get}
use Rattle.id_ord_law.proofs.Extremes.{read_law}
use Rattle.id_ord_law.specs.Parts.{walk}
use Rattle.id_ord_law.specs.Reading.{Greatest}
use Rattle.id_ord_map.specs.View.{view}
use Rattle.id_ord_map.proofs.map.IdOrdMap.last.Goals as goal

pub returns-clause-greatest : goal.returns-clause-greatest
returns-clause-greatest g c =
    let m = c.args.self.now in let lawful = g.met.T.IdOrdItem.lawful in let w = walk (view m) in
    subst (Greatest g.T.IdOrdItem.order w) (sym (c.iter.ensures ∙ ap (λ (n : ℕ). slice_get w n) c.saturating_sub.ensures)) ((read_law lawful).greatest (view m) c.requires.sound)
