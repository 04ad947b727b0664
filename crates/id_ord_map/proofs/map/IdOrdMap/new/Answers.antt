-- The map's numbers are those of a new one, so a run begins.
use Rattle.id_ord_law.proofs.After.{new_begins}
use Rattle.id_ord_law.specs.Parts.{parts}
use Rattle.id_ord_map.proofs.map.IdOrdMap.new.Goals as goal

pub returns-clause-begins : goal.returns-clause-begins
returns-clause-begins g c =
    new_begins g.T.IdOrdItem.order (parts c.args.slots.now c.args.table.now c.new.result) c.new.ensures
