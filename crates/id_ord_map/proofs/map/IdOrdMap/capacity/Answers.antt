-- The code's limit is the one of the definitions.
use Rattle.id_ord_law.specs.Parts.{limit}
use Rattle.id_ord_map.proofs.map.IdOrdMap.capacity.Goals as goal

pub returns : goal.returns
unfolding limit
returns g c = cc
