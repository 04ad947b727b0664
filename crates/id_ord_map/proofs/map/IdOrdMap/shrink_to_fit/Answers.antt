use Rattle.std.proofs.Common.{length, refl, ◌∙◌}
use Rattle.id_ord_law.proofs.After.{meets_sound, meets_onward}
use Rattle.id_ord_law.proofs.Compacted.{scratch_after, shrink_moves}
use Rattle.id_ord_law.specs.Standing.{Call}
use Rattle.id_ord_map.specs.View.{view}
use Rattle.id_ord_map.proofs.map.IdOrdMap.shrink_to_fit.Goals as goal

-- where no item moves, nothing is written; else the entries follow the items
pub returns-in-Permuted : goal.returns-in-Permuted
returns-in-Permuted g c =
    let p = view c.args.self.now in let scratch = c.args.scratch.now in
    let s = c.requires.sound in let left = c.compact.new in let e = c.compact.ensures in
    let does =
    shrink_moves p s scratch c.compact.result c.in_ok-remap.remap c.in-Permuted.used e.answer c.in_ok-remap.was c.in-Permuted.is
    left.slots c.remap_indexes.new.table left.scratch left.self e.slots c.remap_indexes.ensures e.scratch e.numbers in
    let call = Call.shrink_to_fit (length scratch) in
    record {
      does = does;
      stands = meets_onward g.T.IdOrdItem.order call does;
      scratch = e.scratch ∙ scratch_after p s scratch;
      memory = (refl, refl);
      sound = meets_sound g.met.T.IdOrdItem.lawful call s does;
    }
