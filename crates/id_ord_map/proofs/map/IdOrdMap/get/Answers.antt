use Rattle.std.proofs.Common.{◌≡◌, sym, subst, ◌∙◌}
use Rattle.id_ord_law.proofs.Extremes.{read_law}
use Rattle.id_ord_law.specs.Parts.{walk}
use Rattle.id_ord_law.specs.Reading.{HasKey}
use Rattle.id_ord_law.specs.Standing.{found}
use Rattle.id_ord_map.specs.Looking.{Looked}
use Rattle.id_ord_map.specs.View.{view}
use Rattle.id_ord_map.proofs.map.IdOrdMap.get.Goals as goal

pub returns-clause-key : goal.returns-clause-key
returns-clause-key g c =
    let m = c.args.self.now in let lawful = g.met.T.IdOrdItem.lawful in let order = g.T.IdOrdItem.order in
    let k = g.Q.Comparable.meant c.args.query.now in
    let there = subst (Looked order k (view m)) c.in_ok-index.was c.find_index.ensures in
    subst (HasKey order k (walk (view m))) (sym (c.get.ensures ∙ there.holds)) ((read_law lawful).key (view m) c.requires.sound k)

pub returns-in_err-index-clause-key : goal.returns-in_err-index-clause-key
returns-in_err-index-clause-key g c =
    let m = c.args.self.now in let lawful = g.met.T.IdOrdItem.lawful in let order = g.T.IdOrdItem.order in
    let k = g.Q.Comparable.meant c.args.query.now in
    let is : c.from_residual.result ≡ found order k (walk (view m)) = c.from_residual.ensures ∙ sym (subst (Looked order k (view m)) c.in_err-index.was c.find_index.ensures) in
    subst (HasKey order k (walk (view m))) (sym is) ((read_law lawful).key (view m) c.requires.sound k)
