-- The law over runs says what the second call answers.
use Rattle.std.proofs.Common.{[], ◌∷◌}
use Rattle.id_ord_law.specs.Parts.{capacity}
use Rattle.id_ord_law.specs.Standing.Call.{insert_unique}
use Rattle.id_ord_map.specs.Answers.{inserted}
use Rattle.id_ord_map.specs.View.{view}
use Rattle.map_programs.proofs.Reaching.{one_added}
use Rattle.map_programs.proofs.law.add_twice.Goals as goal

pub returns : goal.returns
returns g c =
    let new = c.new-map.ensures in
    let item = c.args.item in
    let reached = one_added g.T.IdOrdItem.order item new.after new.begins c.requires.room c.insert_unique.ensures.does in
    let says = new.law.says (capacity (view c.new-map.result)) (view c.insert_unique.new.self) (view c.insert_unique-2.new.self) (item ∷ []) (inserted c.insert_unique-2.result) (insert_unique item) reached c.insert_unique-2.ensures.does in
    rw (g.met.T.IdOrdItem.lawful.reflexive item) at says
