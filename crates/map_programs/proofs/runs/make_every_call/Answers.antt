-- The runs follow one another, and are one run.
use Rattle.std.proofs.Common.{◌∙◌, ap, length}
use Rattle.id_ord_law.specs.Law.{ran}
use Rattle.id_ord_law.specs.Standing.{told}
use Rattle.map_programs.specs.Runs.{shrinks_and_clears, adds, adds_by_entry, works_by_entry, puts_back_and_keeps, takes_out}
use Rattle.map_programs.proofs.runs.make_every_call.Goals as goal

pub returns : goal.returns
returns g c =
    let run = ran g.T.IdOrdItem.order in
    let items = c.args.supplies.items in
    let occupied = c.args.supplies.occupied in
    let rule = told g.R.KeepRule.verdict g.R.KeepRule.changed g.R.KeepRule.next c.args.rule.now in
    let run2 = c.shrink_and_clear.ensures.does ∙ ap (run (shrinks_and_clears (length c.args.scratch.now))) c.look_up_or_add.ensures.does in
    let run3 = c.add.ensures.does ∙ ap (run (adds items.0 items.1)) run2 in
    let run4 = c.add_by_entry.ensures.does ∙ ap (run (adds_by_entry items.2 items.3)) run3 in
    let run5 = c.work_by_entry.ensures.does ∙ ap (run (works_by_entry occupied.0 occupied.1 items.0)) run4 in
    let run6 = c.put_back_and_keep.ensures.does ∙ ap (run (puts_back_and_keeps c.args.supplies.taken rule)) run5 in
    record { does = c.take_out.ensures.does ∙ ap (run (takes_out (g.Q.Comparable.meant c.args.query.now))) run6; sound = c.take_out.ensures.sound }
