use Rattle.std.proofs.Common.{refl}
use Rattle.id_ord_law.proofs.After.{adopted_begins}
use Rattle.id_ord_map.specs.Fault.{offered}
use Rattle.id_ord_map.specs.View.{view}
use Rattle.id_ord_map.proofs.Adopting.{adopted_refused}
use Rattle.id_ord_map.proofs.map.IdOrdMap.adopt.Goals as goal

pub returns-in_err-check_parts-clause-after : goal.returns-in_err-check_parts-clause-after
returns-in_err-check_parts-clause-after g c =
    let before = view c.args.self.now in
    adopted_refused g.T.IdOrdItem.order (offered c.args.used c.args.len c.args.free_head before) c.args.count before _ c.in_err-check_parts.ensures.answer

-- what is accepted is sound, so a run begins with it
pub returns-clause-begins : goal.returns-clause-begins
returns-clause-begins g c =
    adopted_begins g.T.IdOrdItem.order (offered c.args.used c.args.len c.args.free_head (view c.args.self.now)) (c.in_ok-check_parts.ensures.accepts.0 refl).0
