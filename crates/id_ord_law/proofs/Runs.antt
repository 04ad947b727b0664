-- The law over runs of calls.
use Rattle.std.proofs.Common.{◌≡◌, ℕ, Bool, true, List, [], ◌∷◌, Ordering, sym, refl, ap, ◌∙◌, subst, subst₂}
use mathlib.Core.List.{Memᴰ as Among}
use Rattle.std.proofs.lemmas.List.Elements.{same_from_all_zip}
use Rattle.id_ord_item.specs.Order.{LawfulOrder}
use Rattle.id_ord_item.specs.Same.{Faithful}
use Rattle.id_ord_law.specs.Law.{Begins, Reached, Walks, Keeps, SameWalk, SameItems, RunLaw, heard}
use Rattle.id_ord_law.specs.Law.Begins.{by_new, by_adopt}
use Rattle.id_ord_law.specs.Law.Reached.{begun, called}
use Rattle.id_ord_law.specs.Parts.{Parts, walk}
use Rattle.id_ord_law.specs.Standing.{after}
use Rattle.id_ord_law.proofs.Agreeing.{Agrees, agrees_empty, len_set}
use Rattle.id_ord_law.proofs.Calls.{fits_step}
use Rattle.id_ord_law.proofs.Occupied.{names_sound, walk_adopted}
use Rattle.id_ord_law.proofs.Sorting.{in_order_among, among_in_order, ascending_unique}
use Rattle.id_ord_law.proofs.Steps.{walk_long}

module _ {T : Type 0} {order : T → T → Ordering} (lawful : LawfulOrder order) where
  begins_agrees : (c : ℕ) (p : Parts T) (items : List T) → Begins order c p items → Agrees order c p items
  begins_agrees c p items (by_new used len head room) = agrees_empty order c p used len head room
  begins_agrees c p items (by_adopt sound room) = record { sound = sound; walks = walk_adopted lawful p sound; room = room }

  agrees : (c : ℕ) (p : Parts T) (items : List T) → Reached order c p items → Agrees order c p items
  agrees c p items (begun b) = begins_agrees c p items b
  agrees c q items (called {p = p} {items = before} call r m) =
      subst (λ (u : Parts T). Agrees order c u (after order c call before)) (sym m.1) (fits_step lawful c p before (agrees c p before r) call).agrees

  walks : (c : ℕ) (p : Parts T) (items : List T) → Agrees order c p items → Walks order p items
  walks c p items a =
      let len = len_set order lawful c p items a in
      record {
        ascending = a.sound.ascending;
        all = λ x m. subst (Among x) (sym a.walks) (among_in_order order x items m);
        only = λ x m. in_order_among order x items (subst (Among x) a.walks m);
        counted = (len, walk_long order p a.sound ∙ len);
      }

  module _ (same : T → T → Bool) (faithful : Faithful same) where
    one_walk : (v w : List T) → SameWalk same v w → v ≡ w
    one_walk v w each = sym (same_from_all_zip (λ x y. same x y ≡ true) v w each (λ x y e. sym (faithful.agree_if_yes x y e)))

    same_walk : (w : List T) → SameWalk same w w
    same_walk [] = tt
    same_walk (x ∷ w) = (faithful.yes_if_agree x x refl, same_walk w)

    equal : (p q : Parts T) (xs ys : List T) → Walks order p xs → Walks order q ys
        → (SameWalk same (walk p) (walk q) → SameItems xs ys) × (SameItems xs ys → SameWalk same (walk p) (walk q))
    equal p q xs ys v w = (
      (λ each x.
          let one = one_walk (walk p) (walk q) each in
          ((λ m. w.only x (subst (Among x) one (v.all x m))), (λ m. v.only x (subst (Among x) (sym one) (w.all x m))))),
      (λ items. subst (SameWalk same (walk p))
          (ascending_unique order lawful (walk p) (walk q) v.ascending w.ascending (λ x m. w.all x ((items x).0 (v.only x m))) (λ x m. v.all x ((items x).1 (w.only x m))))
          (same_walk (walk p))),
    )

    pub run_law : RunLaw order same
    run_law = record {
      sound = λ c p items r. (agrees c p items r).sound;
      walks = λ c p items r. walks c p items (agrees c p items r);
      names = λ c p items r. names_sound lawful p (agrees c p items r).sound;
      says = λ c p q items answer call r m. ap heard m.0 ∙ (fits_step lawful c p items (agrees c p items r) call).hears;
      keeps = λ c p q items answer call r m.
          subst₂ (λ a u. Keeps order a p u items (after order c call items)) (sym m.0) (sym m.1)
          (λ k n before later slot. (fits_step lawful c p items (agrees c p items r) call).keeps k n later slot);
      equal = λ c d p q xs ys r s. equal p q xs ys (walks c p xs (agrees c p xs r)) (walks d q ys (agrees d q ys s));
    }
