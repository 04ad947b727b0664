-- The walk along the chain of free slots, one slot at a time, and what it shows of the whole chain.
use Rattle.std.proofs.Common.{◌≡◌, ℕ, zero, suc, ◌<◌, ◌≤◌, Bool, true, false, cond, eqb, ltb, List, [], ◌∷◌, length, Some, None, Option, sym, refl, ap, ◌∙◌, arith}
use Rattle.std.proofs.lemmas.Bool.{cond-true, cond-false, ne_eqb, lt-ltb, eq-eqb, eqb-true, ltb-true}
use Rattle.item_set.specs.Slots.{at, index_of, next_free, free_next}
use Rattle.item_set.specs.Chain.{follow, reached, passed, Chain}
use Rattle.item_set.specs.declared.fault.ItemSetFault.{ItemSetFault}
use Rattle.item_set.specs.declared.fault.ItemSetFault.TheVariants.{ChainRange, ChainLong}
use Rattle.item_set.specs.declared.index.ItemIndex.{ItemIndex}
use Rattle.item_set.specs.declared.slot.ItemSlot.{ItemSlot}
use Rattle.item_set.specs.declared.slot.ItemSlot.TheVariants.{Occupied, Vacant}
use Rattle.item_set.proofs.Slots.{vacant_below}

-- one step
module _ {T : Type 0} (slots : List (ItemSlot T)) (met : ℕ) (head : ItemIndex) where
  module _ (goes : head.0 ≡ 4294967295 → ⊥) where
    not_ended : eqb head.0 4294967295 ≡ false
    not_ended = ne_eqb head.0 4294967295 goes

    at_slot : (slot : ItemSlot T) (onward : ItemIndex → Option ItemSetFault) → head.0 < length slots → at slots head.0 ≡ slot → reached slots head onward ≡ passed slot head onward
    at_slot slot onward inside here =
        cond-true _ _ _ (lt-ltb head.0 (length slots) inside) ∙ ap (λ (s : ItemSlot T). passed s head onward) here

    pub follow_more : (left : ℕ) (next : ItemIndex) → head.0 < length slots → at slots head.0 ≡ Vacant next → follow slots (suc left) met head ≡ follow slots left (suc met) next
    follow_more left next inside here = cond-false _ _ _ not_ended ∙ at_slot (Vacant next) (λ n. follow slots left (suc met) n) inside here

  pub follow_end : head.0 ≡ 4294967295 → follow slots 0 met head ≡ None
  follow_end ended = cond-true _ _ _ (eq-eqb head.0 4294967295 ended)

-- the whole chain
module _ {T : Type 0} (slots : List (ItemSlot T)) where
  -- no fault of a chain that goes on is found only where its slot is vacant and what follows has none
  onward : (inside : Bool) (slot : ItemSlot T) (head : ItemIndex) (rest : ItemIndex → Option ItemSetFault) → cond inside (passed slot head rest) (Some (ChainRange head)) ≡ None
      → (inside ≡ true) × (slot ≡ Vacant (next_free slot)) × (rest (next_free slot) ≡ None)
  onward true (Occupied x) head rest e = cc
  onward true (Vacant next) head rest e = (refl, refl, e)
  onward false slot head rest e = cc

  pub record ChainOf (head : ItemIndex) (many : ℕ) : Type 0 where
    pub free : List ℕ
    pub linked : Chain slots head free
    pub many_met : length free ≡ many

  chain_by : (left met : ℕ) (head : ItemIndex) (ended : Bool) → length slots ≤ 4294967295 → eqb head.0 4294967295 ≡ ended → follow slots left met head ≡ None → ChainOf head left
  chain_by zero met head true few t e = record { free = []; linked = ap index_of (eqb-true head.0 4294967295 t); many_met = refl }
  chain_by zero met head false few t e =
      let o = onward (ltb head.0 (length slots)) (at slots head.0) head (λ next. Some (ChainLong head)) (sym (cond-false _ _ _ t) ∙ e) in
      let f = o.2 in cc
  chain_by (suc left) met head true few t e = let f = sym (cond-true _ _ _ t) ∙ e in cc
  chain_by (suc left) met head false few t e =
      let o = onward (ltb head.0 (length slots)) (at slots head.0) head (λ n. follow slots left (suc met) n) (sym (cond-false _ _ _ t) ∙ e) in
      let next = next_free (at slots head.0) in
      let r = chain_by left (suc met) next (eqb next.0 4294967295) few refl o.2 in
      let inside = ltb-true head.0 (length slots) o.0 in
      record {
        free = head.0 ∷ r.free;
        linked = (refl, omega arith, cond-true _ _ _ o.0 ∙ ap free_next o.1, r.linked);
        many_met = ap suc r.many_met;
      }

  -- where no fault is found, the chain is there, and as long as it was to be
  pub chain_from : (left : ℕ) (head : ItemIndex) → length slots ≤ 4294967295 → follow slots left 0 head ≡ None → ChainOf head left
  chain_from left head few e = chain_by left 0 head (eqb head.0 4294967295) few refl e

  -- and where it is there, no fault is found
  pub no_fault : (free : List ℕ) (met : ℕ) (head : ItemIndex) → Chain slots head free → follow slots (length free) met head ≡ None
  no_fault [] met head chain = follow_end slots met head (ap (λ (i : ItemIndex). i.0) chain)
  no_fault (n ∷ free) met head chain =
      let here : head.0 ≡ n = ap (λ (i : ItemIndex). i.0) chain.0 in
      let v = vacant_below slots n (next_free (at slots n)) chain.2 in
      follow_more slots met head (λ e. omega arith) (length free) (next_free (at slots n)) (omega arith) (ap (at slots) here ∙ v.1)
      ∙ no_fault free (suc met) (next_free (at slots n)) chain.3
