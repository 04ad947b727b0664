use Rattle.id_ord_law.proofs.Runs.{run_law}
use Rattle.id_ord_law.proofs.runs_hold.Goals as goal

pub returns : goal.returns
returns g c = run_law g.met.T.IdOrdItem.lawful g.T.IdOrdItem.equal g.met.T.IdOrdItem.faithful
