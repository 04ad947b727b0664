use Rattle.std.proofs.Common.{◌≡◌, true}
use Rattle.id_ord_law.specs.Parts.{walk}
use Rattle.id_ord_law.proofs.Comparing.{AlikeBelow}
use Rattle.id_ord_map.specs.View.{view}
use Rattle.id_ord_map.proofs.map.IdOrdMap.same.Given as goal

abbrev pub invariant-loop-place : goal.invariant-loop-place
invariant-loop-place g l = AlikeBelow (λ x y. g.T.IdOrdItem.equal x y ≡ true) (walk (view l.self)) (walk (view l.other)) l.place
