-- The first item was just found, so taking it out is not refused.
use Rattle.id_ord_map.specs.View.{view}
use Rattle.map_programs.proofs.Entered.{gives_found}
use Rattle.map_programs.proofs.entry_programs.remove_through_two_entries.Goals as goal

pub returns-in_err-remove : goal.returns-in_err-remove
returns-in_err-remove g c =
    let k = g.Q.Comparable.meant c.args.query.now in
    let gives = gives_found g.met.T.IdOrdItem.lawful (view c.args.map.now) c.requires.sound k c.in-Occupied.first.item c.in-Occupied.ensures.does.0 in
    absurd (cc (gives, c.in_err-remove.ensures.does.0))
