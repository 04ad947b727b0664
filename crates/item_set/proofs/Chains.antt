-- The chain of free slots after one slot is written.
use Rattle.std.proofs.Common.{◌≡◌, ℕ, zero, suc, ◌<◌, ◌≤◌, List, [], ◌∷◌, length, set, Some, sym, refl, ap, ◌∙◌, arith}
use Rattle.std.specs.List.{AllByRecursion}
use Rattle.std.proofs.lemmas.Bool.{cond-true, lt-ltb}
use Rattle.item_set.specs.Chain.{Chain}
use Rattle.item_set.specs.Slots.{at, next_free, free_next, vacant_next, occupied, counted}
use Rattle.item_set.specs.declared.index.ItemIndex.{ItemIndex}
use Rattle.item_set.specs.declared.slot.ItemSlot.{ItemSlot}
use Rattle.item_set.specs.declared.slot.ItemSlot.TheVariants.{Occupied, Vacant}
use Rattle.item_set.proofs.Slots.{vacant_below}

-- a vacant slot of the list, as a step of the chain asks for it
pub vacant_next_lem : {T : Type 0} (slots : List (ItemSlot T)) (n : ℕ) (next : ItemIndex) → n < length slots → at slots n ≡ Vacant next → vacant_next slots n ≡ Some next
vacant_next_lem slots n next inside here = cond-true _ _ _ (lt-ltb n (length slots) inside) ∙ ap free_next here

module _ {T : Type 0} (slots : List (ItemSlot T)) where
  number : {i j : ItemIndex} → i ≡ j → i.0 ≡ j.0
  number e = ap (λ (i : ItemIndex). i.0) e

  -- from one head there is one chain
  pub chain_same : (cs ds : List ℕ) (head : ItemIndex) → Chain slots head cs → Chain slots head ds → cs ≡ ds
  chain_same [] [] head c d = refl
  chain_same [] (x ∷ ds) head c d = let e = number c in let f = number d.0 in absurd (omega arith)
  chain_same (x ∷ cs) [] head c d = let e = number d in let f = number c.0 in absurd (omega arith)
  chain_same (x ∷ cs) (y ∷ ds) head c d =
      let e = number c.0 in let f = number d.0 in
      let same : x ≡ y = omega arith in
      let rest = chain_same cs ds (next_free (at slots x)) c.3 (rw same d.3) in cc

  -- so a slot does not come again after it
  again : (c : ℕ) (cs : List ℕ) → Chain slots (next_free (at slots c)) cs → (es : List ℕ) (head : ItemIndex) → Chain slots head es → length es ≤ length cs → AllByRecursion (λ d. d ≡ c → ⊥) es
  again c cs from [] head chain le = tt
  again c cs from (e ∷ es) head chain le = (
    (λ same. let there : Chain slots (next_free (at slots c)) es = rw (← same) chain.3 in
        let all = ap length (chain_same es cs (next_free (at slots c)) there from) in omega arith),
    again c cs from es (next_free (at slots e)) chain.3 (omega arith),
  )

  pub chain_apart : (c : ℕ) (cs : List ℕ) → Chain slots (next_free (at slots c)) cs → AllByRecursion (λ d. d ≡ c → ⊥) cs
  chain_apart c cs from = again c cs from cs (next_free (at slots c)) from (omega arith)

  -- no slot of the chain holds an item
  pub chain_vacant : (cs : List ℕ) (head : ItemIndex) → Chain slots head cs → (n : ℕ) (x : T) → at slots n ≡ Occupied x → AllByRecursion (λ d. d ≡ n → ⊥) cs
  chain_vacant [] head chain n x holds = tt
  chain_vacant (c ∷ cs) head chain n x holds = (
    (λ same. let there = ap (at slots) same in let v = (vacant_below slots c (next_free (at slots c)) chain.2).1 in cc),
    chain_vacant cs (next_free (at slots c)) chain.3 n x holds,
  )

-- the chain goes by its own slots only
module _ {T : Type 0} (slots slots' : List (ItemSlot T)) (n : ℕ) (long : length slots ≤ length slots') (keep : (k : ℕ) → (k ≡ n → ⊥) → at slots' k ≡ at slots k) where
  pub chain_kept : (cs : List ℕ) (head : ItemIndex) → AllByRecursion (λ d. d ≡ n → ⊥) cs → Chain slots head cs → Chain slots' head cs
  chain_kept [] head apart chain = chain
  chain_kept (c ∷ cs) head apart chain =
      let e = keep c apart.0 in
      let v = vacant_below slots c (next_free (at slots c)) chain.2 in
      let next : next_free (at slots' c) ≡ next_free (at slots c) = ap next_free e in
      let rest = chain_kept cs (next_free (at slots c)) apart.1 chain.3 in
      (chain.0, chain.1, vacant_next_lem slots' c (next_free (at slots' c)) (omega arith) (e ∙ v.1 ∙ ap Vacant (sym next)), rw next rest)

-- how many slots hold an item after one is written
module _ {T : Type 0} where
  counted_suc : (slot : ItemSlot T) (n : ℕ) → counted slot (suc n) ≡ suc (counted slot n)
  counted_suc (Occupied x) n = refl
  counted_suc (Vacant next) n = refl

  pub occupied_in : (slots : List (ItemSlot T)) (n : ℕ) (x : T) (next : ItemIndex) → n < length slots → at slots n ≡ Vacant next → occupied (set slots n (Occupied x)) ≡ suc (occupied slots)
  occupied_in [] n x next inside here = absurd (omega arith)
  occupied_in (a ∷ slots) zero x next inside here = ap (λ (b : ItemSlot T). suc (counted b (occupied slots))) (sym here)
  occupied_in (a ∷ slots) (suc n) x next inside here = ap (counted a) (occupied_in slots n x next (omega arith) here) ∙ counted_suc a (occupied slots)

  pub occupied_out : (slots : List (ItemSlot T)) (n : ℕ) (x : T) (next : ItemIndex) → n < length slots → at slots n ≡ Occupied x → suc (occupied (set slots n (Vacant next))) ≡ occupied slots
  occupied_out [] n x next inside here = absurd (omega arith)
  occupied_out (a ∷ slots) zero x next inside here = ap (λ (b : ItemSlot T). counted b (occupied slots)) (sym here)
  occupied_out (a ∷ slots) (suc n) x next inside here = sym (counted_suc a (occupied (set slots n (Vacant next)))) ∙ ap (counted a) (occupied_out slots n x next (omega arith) here)

  pub occupied_again : (slots : List (ItemSlot T)) (n : ℕ) (x y : T) → at slots n ≡ Occupied x → occupied (set slots n (Occupied y)) ≡ occupied slots
  occupied_again [] n x y here = refl
  occupied_again (a ∷ slots) zero x y here = ap (λ (b : ItemSlot T). counted b (occupied slots)) (sym here)
  occupied_again (a ∷ slots) (suc n) x y here = ap (counted a) (occupied_again slots n x y here)
