-- The law over runs says what the walk has after the run of every call on a new map.
use Rattle.std.proofs.Common.{List, length, Option}
use Rattle.id_ord_law.specs.Standing.{Call, told}
use Rattle.map_programs.specs.Runs.{every_call}
use Rattle.map_programs.proofs.Reaching.{walks_from_new}
use Rattle.map_programs.proofs.law.after_every_call.Goals as goal

pub returns : goal.returns
returns g c =
    let k = g.Q.Comparable.meant c.args.query.now in
    let rule = told g.R.KeepRule.verdict g.R.KeepRule.changed g.R.KeepRule.next c.args.rule.now in
    let calls : Option g.row.T.Denot → List (Call g.row.T.Denot) = λ held. every_call k held (length c.args.scratch.now) c.args.supplies rule in
    let new = c.new-map.ensures in
    record { walks = walks_from_new g.T.IdOrdItem.order new.law c.args.slots.now c.args.table.now k calls new.after new.begins c.make_every_call.ensures.does; sound = c.make_every_call.ensures.sound }
