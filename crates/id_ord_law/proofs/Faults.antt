-- The parts in which no test finds a fault are the sound ones.
use Rattle.std.proofs.Common.{◌≡◌, ℕ, ◌≤◌, List, take, None, Ordering, sym, ap, ◌∙◌, subst, arith}
use Rattle.std.proofs.lemmas.List.{length-take}
use Rattle.id_ord_item.specs.Order.{LawfulOrder}
use Rattle.item_set.proofs.Soundness.{no_fault_if_sound, sound_if_no_fault}
use Rattle.item_set.specs.Chain.{first_fault}
use Rattle.index_table.proofs.Passing.{ascending_if_passed, no_table_fault, none_unordered}
use Rattle.index_table.specs.Check.{table_fault, first_unordered}
use Rattle.index_table.specs.Walk.{Named, Ascending, walk as walk_of}
use Rattle.index_table.specs.declared.entry.Index.{Index}
use Rattle.id_ord_law.specs.Parts.{Parts, numbers, live, entries, capacity, Sound}
use Rattle.id_ord_law.proofs.Steps.{limit_low, len_used, entries_long}

-- the tests of the parts p with `count` table entries, each passed
pub record Faultless {T : Type 0} (order : T → T → Ordering) (p : Parts T) (count : ℕ) : Type 0 where
  pub slots_fit : p.used ≤ capacity p
  pub table_fits : count ≤ capacity p
  pub store : first_fault (numbers p) p.slots ≡ None
  pub named : table_fault (live p) (take count p.table) p.len ≡ None
  pub ascending : first_unordered order (live p) (take count p.table) ≡ None

module _ {T : Type 0} {order : T → T → Ordering} (lawful : LawfulOrder order) (p : Parts T) (count : ℕ) where
  pub sound_if_faultless : Faultless order p count → Sound order p × (count ≡ p.len)
  sound_if_faultless f =
      let slots_fit = f.slots_fit in let table_fits = f.table_fits in let low = limit_low in
      let long = length-take p.used p.slots in
      let some = length-take count p.table in
      let passed = ascending_if_passed lawful (live p) (take count p.table) p.len f.named f.ascending in
      let many = passed.0 in
      let same : count ≡ p.len = omega arith in
      let here = ap (λ (n : ℕ). take n p.table) same in (
        record {
          fits = slots_fit;
          store = sound_if_no_fault (numbers p) p.slots (omega arith) f.store;
          named = subst (Named (live p)) here passed.1;
          ascending = subst (λ (es : List Index). Ascending order (walk_of (live p) es)) here passed.2;
        },
        same,
      )

  pub faultless_if_sound : Sound order p → count ≡ p.len → Faultless order p count
  faultless_if_sound s same =
      let fits = s.fits in let less = len_used order p s in
      let here : entries p ≡ take count p.table = ap (λ (n : ℕ). take n p.table) (sym same) in
      record {
        slots_fit = fits;
        table_fits = omega arith;
        store = no_fault_if_sound (numbers p) p.slots s.store;
        named = subst (λ (es : List Index). table_fault (live p) es p.len ≡ None) here (
            ap (table_fault (live p) (entries p)) (sym (entries_long order p s)) ∙ no_table_fault lawful (live p) (entries p) s.named s.ascending);
        ascending = subst (λ (es : List Index). first_unordered order (live p) es ≡ None) here (none_unordered lawful (live p) (entries p) s.named s.ascending);
      }
