-- What a map is after a call: sound parts are sound again, and a run goes on.
use Rattle.std.proofs.Common.{◌≡◌, ℕ, List, [], ◌∷◌, Ordering, sym, refl, ap, ◌∙◌, subst, subst₂}
use Rattle.id_ord_item.specs.Order.{LawfulOrder}
use Rattle.item_set.specs.declared.item_set.ItemSet.{ItemSet}
use Rattle.item_set.specs.Store.{cleared}
use Rattle.id_ord_law.specs.Law.{Begins, Reached, ran, stood, Ran, Onward}
use Rattle.id_ord_law.specs.Law.Begins.{by_new, by_adopt}
use Rattle.id_ord_law.specs.Law.Reached.{called}
use Rattle.id_ord_law.specs.Parts.{Parts, numbers, live, walk, capacity, items_in, Sound}
use Rattle.id_ord_law.specs.Standing.{Call, after}
use Rattle.id_ord_law.specs.Step.{Answered, step, Meets}
use Rattle.id_ord_law.proofs.Agreeing.{Agrees}
use Rattle.id_ord_law.proofs.Calls.{fits_step}
use Rattle.id_ord_law.proofs.Sorting.{in_order_ascending}

module _ {T : Type 0} {order : T → T → Ordering} where
  pub sound_after : LawfulOrder order → (p : Parts T) → Sound order p → (call : Call T) → Sound order (step order call p).1
  sound_after lawful p s call =
      let a : Agrees order (capacity p) p (walk p) = record { sound = s; walks = sym (in_order_ascending order lawful (walk p) s.ascending); room = refl } in
      (fits_step lawful (capacity p) p (walk p) a call).agrees.sound

  pub meets_sound : LawfulOrder order → (call : Call T) {p q : Parts T} {answer : Answered T} → Sound order p → Meets order call p answer q → Sound order q
  meets_sound lawful call {p} s m = subst (Sound order) (sym m.1) (sound_after lawful p s call)

pub meets_onward : {T : Type 0} (order : T → T → Ordering) (call : Call T) {p q : Parts T} {answer : Answered T} → Meets order call p answer q → Onward order call p q
meets_onward order call m c start before calls items r =
    (m.1 ∙ ap (λ (u : Parts _). (step order call u).1) r.0, ap (after order c call) r.1)

-- how a run begins, and what it reaches
module _ {T : Type 0} (order : T → T → Ordering) where
  pub new_begins : (p : Parts T) → numbers p ≡ cleared → Begins order (capacity p) p []
  new_begins p e =
      by_new (ap (λ (n : ItemSet). n.used) e) (ap (λ (n : ItemSet). n.len) e) (ap (λ (n : ItemSet). n.free_head) e) refl

  pub adopted_begins : (p : Parts T) → Sound order p → Begins order (capacity p) p (items_in (live p))
  adopted_begins p sound = by_adopt sound refl

  run_reached : (c : ℕ) (p : Parts T) (before : List T) → Reached order c p before → (calls : List (Call T)) → Reached order c (ran order calls p) (stood order c calls before)
  run_reached c p before r [] = r
  run_reached c p before r (call ∷ calls) = called call (run_reached c p before r calls) (refl, refl)

  -- a list of calls leads from what is reached to what is reached
  pub reached_by_run : (c : ℕ) (p : Parts T) (before : List T) (calls : List (Call T)) (q : Parts T) (items : List T)
      → Reached order c p before → Ran order c p before calls q items → Reached order c q items
  reached_by_run c p before calls q items r run =
      subst₂ (Reached order c) (sym run.0) (sym run.1) (run_reached c p before r calls)
