use Rattle.std.proofs.Common.{rules}
use Rattle.item_set.specs.Slots.{index_of}
use Rattle.index_table.specs.Entry.{entry_of}
use Rattle.index_table.proofs.Finding.{slot_is}
use Rattle.index_table.proofs.table.find_index.Goals as goal

pub returns-clause-answer : goal.returns-clause-answer
returns-clause-answer g c named ascending =
    slot_is g.met.T.IdOrdItem.lawful (g.Q.Comparable.meant c.args.query.now) _ _ named ascending c.search_key.result c.ok.result c.map.result (entry_of (index_of 0))
    (c.search_key.ensures.place named ascending) c.ok.ensures.value (search rules)
