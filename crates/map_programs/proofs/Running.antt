-- Two runs, one after the other, are one run.
use Rattle.std.proofs.Common.{◌≡◌, List, [], ◌∷◌, ◌++◌, Ordering, sym, refl, ap, ◌∙◌}
use Rattle.id_ord_law.specs.Law.{ran}
use Rattle.id_ord_law.specs.Parts.{Parts}
use Rattle.id_ord_law.specs.Standing.{Call}
use Rattle.id_ord_law.specs.Step.{step}

module _ {T : Type 0} (order : T → T → Ordering) where
  ran_append : (more calls : List (Call T)) (p : Parts T) → ran order (more ++ calls) p ≡ ran order more (ran order calls p)
  ran_append [] calls p = refl
  ran_append (call ∷ more) calls p = ap (λ q. (step order call q).1) (ran_append more calls p)

  pub one_after_the_other : {q r : Parts T} (more calls : List (Call T)) (p : Parts T) → r ≡ ran order more q → q ≡ ran order calls p → r ≡ ran order (more ++ calls) p
  one_after_the_other more calls p e f = e ∙ (ap (λ q. ran order more q) f ∙ sym (ran_append more calls p))
