-- The first fault of parts that are offered, and what the answer says of them.
use Rattle.std.proofs.Common.{◌≡◌, ℕ, ◌≤◌, cond, ltb, take, is_some, Some, None, Ok, Err, Option, Result, Ordering, sym, refl, ap, ◌∙◌, subst, inl, inr}
use Rattle.std.proofs.lemmas.Bool.{cond-true, cond-false, cases_lt, lt-ltb, le-ltb}
use Rattle.std.specs.Option.{option_map, option_or}
use Rattle.id_ord_item.specs.Order.{LawfulOrder}
use Rattle.item_set.proofs.Soundness.{none_if_ok}
use Rattle.item_set.specs.Chain.{first_fault, unless}
use Rattle.index_table.specs.Check.{table_fault, first_unordered}
use Rattle.id_ord_law.proofs.Faults.{Faultless, sound_if_faultless, faultless_if_sound}
use Rattle.id_ord_law.specs.Parts.{Parts, numbers, live, capacity}
use Rattle.id_ord_map.specs.Fault.{oversize, entries_fault, map_fault, Accepts, adopted}
use Rattle.id_ord_errors.specs.declared.validation.ValidationError.{ValidationError}
use Rattle.id_ord_errors.specs.declared.validation.ValidationError.TheVariants.{Size, Items, Table, Order}

module _ {A F : Type 0} (fault : A → F) where
  unmapped : (o : Option A) → option_map fault o ≡ None → o ≡ None
  unmapped None e = refl
  unmapped (Some x) e = cc

  neither : (o : Option A) (other : Option F) → option_or (option_map fault o) other ≡ None → (o ≡ None) × (other ≡ None)
  neither None other e = (refl, e)
  neither (Some x) other e = cc

  -- the tests go on where one finds nothing
  pub onward : (o : Option A) (other : Option F) → o ≡ None → option_or (option_map fault o) other ≡ other
  onward o other e = ap (λ (x : Option A). option_or (option_map fault x) other) e

fault_if_err : {F : Type 0} (o : Option F) (fault : F) → Err fault ≡ unless o → o ≡ Some fault
fault_if_err None fault e = cc
fault_if_err (Some other) fault e = let same : other ≡ fault = cc in ap Some same

-- the two sizes
not_over : (c n : ℕ) (other : Option ℕ) → cond (ltb c n) (Some n) other ≡ None → (n ≤ c) × (other ≡ None)
not_over c n other e = elim (cases_lt c n) [
  | inl over ↦ let f = sym (cond-true _ _ _ (lt-ltb c n over)) ∙ e in cc
  | inr fits ↦ (fits, sym (cond-false _ _ _ (le-ltb c n fits)) ∙ e)
]

within : (c used count : ℕ) → oversize c used count ≡ None → (used ≤ c) × (count ≤ c)
within c used count e = let first = not_over c used _ e in (first.0, (not_over c count None first.1).0)

none_over : (c used count : ℕ) → used ≤ c → count ≤ c → oversize c used count ≡ None
none_over c used count fits low = cond-false _ _ _ (le-ltb c used fits) ∙ cond-false _ _ _ (le-ltb c count low)

module _ {T : Type 0} (order : T → T → Ordering) (p : Parts T) (count : ℕ) where
  -- where the sizes fit, the first fault is the store's, or else that of the entries
  module _ (fits : p.used ≤ capacity p) (low : count ≤ capacity p) where
    pub entries_fault_lem : Ok tt ≡ unless (first_fault (numbers p) p.slots) → map_fault order p count ≡ entries_fault order (live p) (take count p.table) p.len
    entries_fault_lem answer =
        onward Size _ _ (none_over (capacity p) p.used count fits low) ∙ onward Items _ _ (none_if_ok (first_fault (numbers p) p.slots) (sym answer))

  -- there is no fault exactly where every test is passed
  passed : map_fault order p count ≡ None → Faultless order p count
  passed e =
      let sized = neither Size (oversize (capacity p) p.used count) _ e in
      let stored = neither Items (first_fault (numbers p) p.slots) _ sized.1 in
      let listed = neither Table (table_fault (live p) (take count p.table) p.len) _ stored.1 in
      let fits = within (capacity p) p.used count sized.0 in
      record {
        slots_fit = fits.0;
        table_fits = fits.1;
        store = stored.0;
        named = listed.0;
        ascending = unmapped Order (first_unordered order (live p) (take count p.table)) listed.1;
      }

  no_fault : Faultless order p count → map_fault order p count ≡ None
  no_fault f =
      onward Size _ _ (none_over (capacity p) p.used count f.slots_fit f.table_fits)
      ∙ onward Items _ _ f.store
      ∙ onward Table _ _ f.named
      ∙ ap (option_map Order) f.ascending

  accepts : LawfulOrder order → (o : Option ValidationError) → map_fault order p count ≡ o → Accepts order p count (unless o)
  accepts lawful None e = ((λ ok. sound_if_faultless lawful p count (passed e)), (λ s same. refl))
  accepts lawful (Some fault) e = (
    (λ ok. cc),
    (λ s same. let none = no_fault (faultless_if_sound lawful p count s same) in cc),
  )

  pub accepts_sound : LawfulOrder order → (r : Result (Unit {0}) ValidationError) → r ≡ unless (map_fault order p count) → Accepts order p count r
  accepts_sound lawful r answer = subst (Accepts order p count) (sym answer) (accepts lawful (map_fault order p count) refl)

  -- a refusal leaves what was before
  pub adopted_refused : (before : Parts T) (fault : ValidationError) → Err fault ≡ unless (map_fault order p count) → before ≡ adopted order p count before
  adopted_refused before fault answer =
      sym (ap (λ (o : Option ValidationError). cond (is_some o) before p) (fault_if_err (map_fault order p count) fault answer))
