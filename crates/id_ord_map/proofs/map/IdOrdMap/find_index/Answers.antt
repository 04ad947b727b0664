use Rattle.std.proofs.Common.{◌≡◌, rules}
use Rattle.index_table.specs.Walk.{slot_of}
use Rattle.id_ord_law.specs.Parts.{live, entries}
use Rattle.id_ord_map.specs.View.{view}
use Rattle.id_ord_map.proofs.Looks.{looked}
use Rattle.id_ord_map.proofs.map.IdOrdMap.find_index.Goals as goal

pub returns : goal.returns
returns g c =
    let p = view c.args.self.now in
    let s = c.requires.sound in
    let named = s.named in let ascending = s.ascending in
    let k = g.Q.Comparable.meant c.args.query.now in
    let e : c.find_index.result ≡ slot_of g.T.IdOrdItem.order k (live p) (entries p) = search rules in
    looked g.met.T.IdOrdItem.lawful k p s c.find_index.result e
