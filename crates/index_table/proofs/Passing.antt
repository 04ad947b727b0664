-- The entries that pass every test are those that name ascending items.
use Rattle.std.proofs.Common.{◌≡◌, ℕ, zero, suc, ◌-◌, ◌<◌, ◌≤◌, Bool, true, false, not, List, [], ◌∷◌, length, Some, None, Option, Ordering, sym, refl, ap, ◌∙◌, arith}
use Rattle.std.proofs.lemmas.Bool.{cond-true, eq-eqb, both_ways}
use Rattle.id_ord_item.specs.Order.{LawfulOrder}
use Rattle.id_ord_item.proofs.Order.{less_swaps}
use Rattle.item_set.specs.Slots.{held}
use Rattle.item_set.specs.declared.slot.ItemSlot.{ItemSlot}
use Rattle.item_set.specs.declared.slot.ItemSlot.TheVariants.{Occupied, Vacant}
use Rattle.index_table.specs.Check.{entry_at, first_place, repeats, is_item, nameless, followed, comes_after, unordered, or_else, table_fault, first_unordered}
use Rattle.index_table.specs.Walk.{seen, walk, Named, Ascending}
use Rattle.index_table.specs.declared.entry.Index.{Index}
use Rattle.index_table.specs.declared.fault.TableFault.TheVariants.{Repeated, NotHeld}
use Rattle.index_table.proofs.Checking.{none_nameless, none_repeats}
use Rattle.index_table.proofs.Places.{first_none, from_none, none_from}
use Rattle.index_table.proofs.Rising.{rising, ascending_if}
use Rattle.index_table.proofs.Walking.{Names}

no_other : {F : Type 0} (fault : ℕ → F) (place : Option ℕ) (other : Option F) → or_else fault place other ≡ None → (place ≡ None) × (other ≡ None)
no_other fault None other e = (refl, e)
no_other fault (Some k) other e = cc

if_not : (b : Bool) → not b ≡ false → b ≡ true
if_not true e = refl
if_not false e = absurd (both_ways true e refl)

module _ {T : Type 0} where
  an_item : (slot : ItemSlot T) → not (is_item slot) ≡ false → (x : T) × (slot ≡ Occupied x)
  an_item (Occupied x) e = (x, refl)
  an_item (Vacant next) e = absurd (both_ways true e refl)

  -- there are len entries, and each names an item
  none_faulty : (slots : List (ItemSlot T)) (es : List Index) (len : ℕ) → table_fault slots es len ≡ None → (length es ≡ len) × (first_place (nameless slots es) (length es) 0 ≡ None)
  none_faulty slots es len e = (grind arith, grind arith)

module _ {T : Type 0} {order : T → T → Ordering} (lawful : LawfulOrder order) (slots : List (ItemSlot T)) where
  -- place by place, each item Greater than the one before
  rising_by_places : (before : Option T) (es : List Index)
      → ((k : ℕ) → k < length es → nameless slots es k ≡ false)
      → ((k : ℕ) → 1 ≤ k → k < length es → unordered order slots es k ≡ false)
      → (0 < length es → comes_after order before (held (seen slots (entry_at es 0))) ≡ true)
      → rising order slots before es ≡ true
  rising_by_places before [] named up first = refl
  rising_by_places before (e ∷ es) named up first =
      let item = an_item (seen slots e) (named 0 (omega arith)) in
      let x = item.0 in let here = item.1 in
      let follows : followed order before x ≡ true = ap (λ (s : ItemSlot T). comes_after order before (held s)) (sym here) ∙ first (omega arith) in
      let rest = rising_by_places (Some x) es (λ k h. named (suc k) (omega arith)) later
      (λ h. ap (λ (s : ItemSlot T). comes_after order (held s) (held (seen slots (entry_at es 0)))) (sym here) ∙ if_not _ (up 1 (omega arith) (omega arith))) in grind arith
    where
      later : (k : ℕ) → 1 ≤ k → k < length es → unordered order slots es k ≡ false
      later zero low h = absurd (omega arith)
      later (suc k) low h =
          let there : suc k ≡ suc (suc k) - 1 = omega arith in let back : suc k - 1 ≡ k = omega arith in
          ap (λ (n : ℕ). not (comes_after order (held (seen slots (entry_at es n))) (held (seen slots (entry_at es (suc k)))))) back
          ∙ ap (λ (n : ℕ). not (comes_after order (held (seen slots (entry_at (e ∷ es) n))) (held (seen slots (entry_at es (suc k)))))) there
          ∙ up (suc (suc k)) (omega arith) (omega arith)

  pub ascending_if_passed : (es : List Index) (len : ℕ) → table_fault slots es len ≡ None → first_unordered order slots es ≡ None
      → (length es ≡ len) × Named slots es × Ascending order (walk slots es)
  ascending_if_passed es len no_fault in_order =
      let faultless = none_faulty slots es len no_fault in
      let rise = rising_by_places None es
      (λ k h. none_from (nameless slots es) (length es) 0 faultless.1 k (omega arith) (omega arith))
      (λ k low h. none_from (unordered order slots es) (length es - 1) 1 in_order k low (omega arith))
      (λ h. first_after (held (seen slots (entry_at es 0)))) in
      let ascending = ascending_if lawful slots es rise in (faultless.0, ascending.0, ascending.1)
    where
      first_after : (item : Option T) → comes_after order None item ≡ true
      first_after None = refl
      first_after (Some x) = refl

  -- neighbours in ascending order
  neighbours : (es : List Index) (w : List T) (k : ℕ) → Names slots es w → Ascending order w → suc k < length es
      → comes_after order (held (seen slots (entry_at es k))) (held (seen slots (entry_at es (suc k)))) ≡ true
  neighbours [] w k names up inside = absurd (omega arith)
  neighbours (e ∷ es) [] k names up inside = cc
  neighbours (e ∷ []) (x ∷ w) k names up inside = absurd (omega arith)
  neighbours (e ∷ (f ∷ es)) (x ∷ []) k names up inside = cc
  neighbours (e ∷ (f ∷ es)) (x ∷ (y ∷ w)) zero names up inside =
      let here : seen slots e ≡ Occupied x = cc in let there : seen slots f ≡ Occupied y = cc in
      let greater = less_swaps lawful x y up.0.0 in grind arith
  neighbours (e ∷ (f ∷ es)) (x ∷ (y ∷ w)) (suc k) names up inside =
      let rest : Names slots (f ∷ es) (y ∷ w) = cc in neighbours (f ∷ es) (y ∷ w) k rest up.1 (omega arith)

  -- entries that name ascending items pass every test
  module _ (es : List Index) (named : Named slots es) (up : Ascending order (walk slots es)) where
    pub no_table_fault : table_fault slots es (length es) ≡ None
    no_table_fault =
        let no-repeat = first_none (repeats es) (length es) (λ i h. none_repeats lawful slots es (walk slots es) i named up h) in
        let all_named = first_none (nameless slots es) (length es) (λ i h. none_nameless lawful slots es (walk slots es) i named h) in
        cond-true _ _ _ (eq-eqb (length es) (length es) refl)
        ∙ ap (λ (o : Option ℕ). or_else Repeated o (or_else NotHeld (first_place (nameless slots es) (length es) 0) None)) no-repeat
        ∙ ap (λ (o : Option ℕ). or_else NotHeld o None) all_named

    pub none_unordered : first_unordered order slots es ≡ None
    none_unordered = from_none (unordered order slots es) (length es - 1) 1 (λ i low h. ordered i low (omega arith))
      where
        ordered : (i : ℕ) → 1 ≤ i → i < length es → unordered order slots es i ≡ false
        ordered zero low h = absurd (omega arith)
        ordered (suc i) low h =
            let back : suc i - 1 ≡ i = omega arith in
            ap (λ (n : ℕ). not (comes_after order (held (seen slots (entry_at es n))) (held (seen slots (entry_at es (suc i)))))) back
            ∙ ap not (neighbours es (walk slots es) i named up h)
