use Rattle.id_ord_law.proofs.Extremes.{read_law}
use Rattle.id_ord_law.proofs.reads_hold.Goals as goal

pub returns : goal.returns
returns g c = read_law g.met.T.IdOrdItem.lawful
