-- Ascending entries that are as many as the occupied slots name them all, so the walk is the items in them in key order.
use Rattle.std.proofs.Common.{◌≡◌, ℕ, zero, suc, ◌<◌, ◌≤◌, true, false, eqb, List, [], ◌∷◌, map, length, set, Some, Ordering, Less, Equal, sym, refl, ap, ◌∙◌, subst, ap₂, inl, inr, arith}
use mathlib.Core.List.Memᴰ.{head as here}
use mathlib.Core.List.Memᴰ.{tail as there}
use mathlib.Core.List.{Memᴰ as Among}
use Rattle.std.proofs.lemmas.Bool.{cond-true, cond-false, cases_Bool, eqb-true, eqb-false}
use Rattle.std.specs.List.{slice_get}
use Rattle.id_ord_item.specs.Order.{LawfulOrder}
use Rattle.id_ord_item.proofs.Order.{equal_swaps}
use Rattle.item_set.proofs.Chains.{occupied_out}
use Rattle.item_set.proofs.Keeping.{set_keeps}
use Rattle.item_set.proofs.Slots.{occupied_below}
use Rattle.item_set.specs.Slots.{at, sentinel, occupied}
use Rattle.item_set.specs.declared.slot.ItemSlot.{ItemSlot}
use Rattle.item_set.specs.declared.slot.ItemSlot.TheVariants.{Occupied, Vacant}
use Rattle.index_table.proofs.Walking.{Names as EachNames}
use Rattle.index_table.specs.Check.{named}
use Rattle.index_table.specs.Walk.{seen, onto, Ascending}
use Rattle.index_table.specs.declared.entry.Index.{Index}
use Rattle.id_ord_law.specs.Law.{Names}
use Rattle.id_ord_law.specs.Parts.{Parts, live, entries, name_at, walk, items_in, Holds, Sound}
use Rattle.id_ord_law.specs.Standing.{placed_in, in_order}
use Rattle.id_ord_law.proofs.Keys.{nth_among, nth_some, below_has}
use Rattle.id_ord_law.proofs.Naming.{number_at, holds_at, seen_later}
use Rattle.id_ord_law.proofs.Sorting.{placed_below, placed_swap, among_in_order}
use Rattle.id_ord_law.proofs.Steps.{entries_long, walk_long}

-- places and keys
module _ {T : Type 0} {order : T → T → Ordering} (lawful : LawfulOrder order) where
  less_not_equal : (x y z : T) → order x z ≡ Less → x ≡ y → order y z ≡ Equal → ⊥
  less_not_equal x y z less same e = let f = ap (λ (v : T). order v z) same in cc

  -- among ascending items two places with one key are one place
  pub nth_apart : (w : List T) (i j : ℕ) (y z : T) → Ascending order w → slice_get w i ≡ Some y → slice_get w j ≡ Some z → order y z ≡ Equal → i ≡ j
  nth_apart [] i j y z up e f q = cc
  nth_apart (x ∷ w) zero zero y z up e f q = refl
  nth_apart (x ∷ w) zero (suc j) y z up e f q =
      let same : x ≡ y = cc in absurd (less_not_equal x y z (below_has order x z w up.0 (nth_among w j z f)) same q)
  nth_apart (x ∷ w) (suc i) zero y z up e f q =
      let same : x ≡ z = cc in absurd (less_not_equal x z y (below_has order x y w up.0 (nth_among w i y e)) same (equal_swaps lawful y z q))
  nth_apart (x ∷ w) (suc i) (suc j) y z up e f q = ap suc (nth_apart w i j y z up.1 e f q)

  -- each entry names another occupied slot
  names_most : (slots : List (ItemSlot T)) (es : List Index) (w : List T) → EachNames slots es w → Ascending order w → length es ≤ occupied slots
  names_most slots [] w each up = omega arith
  names_most slots (d ∷ es) [] each up = cc
  names_most slots (d ∷ es) (x ∷ w) each up =
      let held : seen slots d ≡ Occupied x = cc in let rest : EachNames slots es w = cc in
      let out = occupied_out slots d.0.0 x sentinel (occupied_below slots d.0.0 x held) held in
      let most = names_most (set slots d.0.0 (Vacant sentinel)) es w (seen_later lawful slots d.0.0 x (Vacant sentinel) held es w rest up.0 ∙ rest) up.1 in
      omega arith

  -- and if they are as many, the items in the slots are the items named
  no_items : (slots : List (ItemSlot T)) → occupied slots ≡ 0 → items_in slots ≡ []
  no_items [] e = refl
  no_items (Occupied x ∷ slots) e = absurd (omega arith)
  no_items (Vacant next ∷ slots) e = no_items slots e

  -- an item taken out of its slot goes in first, where it is the least
  item_out : (slots : List (ItemSlot T)) (n : ℕ) (y : T) → at slots n ≡ Occupied y → ((z : T) → Among z (items_in (set slots n (Vacant sentinel))) → order y z ≡ Less)
      → in_order order (items_in slots) ≡ placed_in order y (in_order order (items_in (set slots n (Vacant sentinel))))
  item_out [] n y holds least = cc
  item_out (slot ∷ slots) zero y holds least = ap (λ (s : ItemSlot T). in_order order (onto s (items_in slots))) holds
  item_out (Occupied x ∷ slots) (suc n) y holds least =
      ap (placed_in order x) (item_out slots n y holds (λ z m. least z (there m)))
      ∙ placed_swap order lawful x y (in_order order (items_in (set slots n (Vacant sentinel)))) (least x (here refl))
  item_out (Vacant next ∷ slots) (suc n) y holds least = item_out slots n y holds least

  pub in_order_items : (slots : List (ItemSlot T)) (es : List Index) (w : List T) → EachNames slots es w → Ascending order w → length es ≡ occupied slots → w ≡ in_order order (items_in slots)
  in_order_items slots [] [] each up count = sym (ap (in_order order) (no_items slots (sym count)))
  in_order_items slots [] (x ∷ w) each up count = cc
  in_order_items slots (d ∷ es) [] each up count = cc
  in_order_items slots (d ∷ es) (x ∷ w) each up count =
      let held : seen slots d ≡ Occupied x = cc in let rest : EachNames slots es w = cc in
      let out = occupied_out slots d.0.0 x sentinel (occupied_below slots d.0.0 x held) held in
      let less = set slots d.0.0 (Vacant sentinel) in
      let is = in_order_items less es w (seen_later lawful slots d.0.0 x (Vacant sentinel) held es w rest up.0 ∙ rest) up.1 (omega arith) in
      let least : (z : T) → Among z (items_in less) → order x z ≡ Less =
      λ z m. below_has order x z w up.0 (subst (Among z) (sym is) (among_in_order order z (items_in less) m)) in
      sym (item_out slots d.0.0 x held least ∙ ap (placed_in order x) (sym is) ∙ placed_below order lawful x w up.0)

module _ {T : Type 0} where
  -- a slot that no entry names can be written
  seen_unnamed : (slots : List (ItemSlot T)) (n : ℕ) (slot : ItemSlot T) (es : List Index) → named n es ≡ false → map (seen (set slots n slot)) es ≡ map (seen slots) es
  seen_unnamed slots n slot [] e = refl
  seen_unnamed slots n slot (d ∷ es) e = elim (cases_Bool (eqb d.0.0 n)) [
    | inl t ↦ let f = sym (cond-true _ _ _ t) ∙ e in cc
    | inr f ↦ ap₂ (λ (s : ItemSlot T) (l : List (ItemSlot T)). s ∷ l) (set_keeps slots n slot d.0.0 (eqb-false d.0.0 n f))
        (seen_unnamed slots n slot es (sym (cond-false _ _ _ f) ∙ e))
  ]

named_place : (n : ℕ) (es : List Index) → named n es ≡ true → (i : ℕ) × ((i < length es) × (number_at es i ≡ n))
named_place n [] e = cc
named_place n (d ∷ es) e = elim (cases_Bool (eqb d.0.0 n)) [
  | inl t ↦ (0, (omega arith, eqb-true d.0.0 n t))
  | inr f ↦ let r = named_place n es (sym (cond-false _ _ _ f) ∙ e) in (suc r.0, (omega (arith, r.1.0), r.1.1))
]

module _ {T : Type 0} {order : T → T → Ordering} (lawful : LawfulOrder order) (p : Parts T) (s : Sound order p) where
  pub item_at : (i : ℕ) → i < p.len → (x : T) × ((slice_get (walk p) i ≡ Some x) × Holds p (name_at p i) x)
  item_at i inside =
      let l = walk_long order p s in
      let t = nth_some (walk p) i (omega arith) in
      (t.0, (t.1, holds_at (live p) (entries p) (walk p) i t.0 s.named t.1))

  all_named : (n : ℕ) (x : T) → Holds p n x → (i : ℕ) × ((i < p.len) × (name_at p i ≡ n))
  all_named n x holds = elim (cases_Bool (named n (entries p))) [
    | inl t ↦ let r = named_place n (entries p) t in let l = entries_long order p s in (r.0, (omega (arith, r.1.0), r.1.1))
    | inr f ↦
        let out = occupied_out (live p) n x sentinel (occupied_below (live p) n x holds) holds in
        let most = names_most lawful (set (live p) n (Vacant sentinel)) (entries p) (walk p) (seen_unnamed (live p) n (Vacant sentinel) (entries p) f ∙ s.named) s.ascending in
        let l = entries_long order p s in let count = s.store.count in absurd (omega arith)
  ]

  pub keys_apart : (n m : ℕ) (x y : T) → Holds p n x → Holds p m y → order x y ≡ Equal → n ≡ m
  keys_apart n m x y hx hy q =
      let a = all_named n x hx in let b = all_named m y hy in
      let u = item_at a.0 a.1.0 in let v = item_at b.0 b.1.0 in
      let f = ap (at (live p)) a.1.1 in let g = ap (at (live p)) b.1.1 in
      let hu = u.1.1 in let hv = v.1.1 in
      let ux : u.0 ≡ x = cc in let vy : v.0 ≡ y = cc in
      let same = nth_apart lawful (walk p) a.0 b.0 u.0 v.0 s.ascending u.1.0 v.1.0 (ap₂ order ux vy ∙ q) in
      sym a.1.1 ∙ ap (name_at p) same ∙ b.1.1

  pub names_sound : Names p
  names_sound = record {
    apart = λ i j li lj e.
        let u = item_at i li in let v = item_at j lj in
        let f = ap (at (live p)) e in let hu = u.1.1 in let hv = v.1.1 in
        let same : u.0 ≡ v.0 = cc in
        nth_apart lawful (walk p) i j u.0 v.0 s.ascending u.1.0 v.1.0 (ap (order u.0) (sym same) ∙ lawful.reflexive u.0);
    held = λ i inside. let t = item_at i inside in (t.0, t.1.1);
    all = all_named;
  }

  pub walk_adopted : walk p ≡ in_order order (items_in (live p))
  walk_adopted = in_order_items lawful (live p) (entries p) (walk p) s.named s.ascending (entries_long order p s ∙ sym s.store.count)
