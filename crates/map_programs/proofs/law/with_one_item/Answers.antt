-- The law over runs says what the walk has after one call on a new map.
use Rattle.id_ord_law.specs.Parts.{capacity}
use Rattle.id_ord_map.specs.View.{view}
use Rattle.map_programs.proofs.Reaching.{one_added}
use Rattle.map_programs.proofs.law.with_one_item.Goals as goal

pub returns : goal.returns
returns g c =
    let new = c.new-map.ensures in
    let reached = one_added g.T.IdOrdItem.order c.args.item new.after new.begins c.requires.room c.insert_unique.ensures.does in
    record { walks = new.law.walks (capacity (view c.new-map.result)) (view c.insert_unique.new.self) _ reached; sound = c.insert_unique.ensures.sound }
