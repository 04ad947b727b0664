-- What a run that begins with a new map has reached.
use Rattle.std.proofs.Common.{◌≡◌, ◌<◌, Bool, false, eqb, List, [], ◌∷◌, None, Option, Ordering, sym, refl, subst, arith, ne_eqb}
use Rattle.item_set.specs.Store.{cleared}
use Rattle.item_set.specs.declared.slot.ItemSlot.{ItemSlot}
use Rattle.index_table.specs.declared.entry.Index.{Index}
use Rattle.id_ord_law.specs.Law.{Begins, Reached, RunLaw, Walks, ran, stood}
use Rattle.id_ord_law.specs.Law.Reached.{begun, called}
use Rattle.id_ord_law.proofs.After.{reached_by_run}
use Rattle.id_ord_law.specs.Parts.{Parts, parts, capacity, walk}
use Rattle.id_ord_law.specs.Standing.{Call, found}
use Rattle.id_ord_law.specs.Standing.Call.{insert_unique}
use Rattle.id_ord_law.specs.Step.{Answered, Meets}

module _ {T : Type 0} (order : T → T → Ordering) where
  -- where there is room, one item added to a new map stands alone
  pub one_added : {p q new : Parts T} {answer : Answered T} (x : T) → p ≡ new → Begins order (capacity p) p [] → 0 < capacity new → Meets order (insert_unique x) p answer q
      → Reached order (capacity p) q (x ∷ [])
  one_added {p = p} x e begins room meets =
      let inside : 0 < capacity p = rw e room in
      let room-left : eqb 0 (capacity p) ≡ false = ne_eqb 0 (capacity p) (λ full. omega (arith, full)) in
      rw room-left at (called (insert_unique x) (begun begins) meets)

  -- a new map holds no key, so a look for one finds nothing
  pub walks_from_new : {same : T → T → Bool} {p q : Parts T} → RunLaw order same → (slots : List (ItemSlot T)) (table : List Index) (k : T) (calls : Option T → List (Call T))
      → p ≡ parts slots table cleared → Begins order (capacity p) p [] → q ≡ ran order (calls (found order k (walk p))) p
      → Walks order q (stood order (capacity (parts slots table cleared)) (calls None) [])
  walks_from_new {q = q} law slots table k calls e =
      let new = parts slots table cleared in
      let made = stood order (capacity new) (calls None) [] in
      let FromNew : Parts T → Type 0 = λ p. Begins order (capacity p) p [] → q ≡ ran order (calls (found order k (walk p))) p → Walks order q made in
      subst FromNew (sym e) (λ begins run. law.walks (capacity new) q made (reached_by_run order (capacity new) new [] (calls None) q made (begun begins) (run, refl)))
