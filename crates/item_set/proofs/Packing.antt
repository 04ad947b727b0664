-- One slot more, numbered and moved down.
use Rattle.std.proofs.Common.{◌≡◌, ℕ, suc, ◌+◌, ◌<◌, ◌≤◌, List, [], ◌∷◌, ◌++◌, length, get_or, take, drop, set, sym, refl, ap, ◌∙◌, add-zero, arith}
use Rattle.std.proofs.lemmas.List.{append_assoc, drop_more, set_at, take_more, length-take-le, drop-drop, get_or-drop}
use Rattle.item_set.specs.Slots.{sentinel, index_of, occupied, counted}
use Rattle.item_set.specs.Compact.{new_numbers, packed}
use Rattle.item_set.specs.declared.index.ItemIndex.{ItemIndex}
use Rattle.item_set.specs.declared.slot.ItemSlot.{ItemSlot}
use Rattle.item_set.specs.declared.slot.ItemSlot.TheVariants.{Occupied, Vacant}

module _ {T : Type 0} where
  pub length_new_numbers : (n : ℕ) (slots : List (ItemSlot T)) → length (new_numbers n slots) ≡ length slots
  length_new_numbers n [] = refl
  length_new_numbers n (Occupied x ∷ slots) = ap suc (length_new_numbers (suc n) slots)
  length_new_numbers n (Vacant next ∷ slots) = ap suc (length_new_numbers n slots)

  pub length_packed : (slots : List (ItemSlot T)) → length (packed slots) ≡ occupied slots
  length_packed [] = refl
  length_packed (Occupied x ∷ slots) = ap suc (length_packed slots)
  length_packed (Vacant next ∷ slots) = length_packed slots

  pub occupied_le : (slots : List (ItemSlot T)) → occupied slots ≤ length slots
  occupied_le [] = omega arith
  occupied_le (Occupied x ∷ slots) = let h = occupied_le slots in omega arith
  occupied_le (Vacant next ∷ slots) = let h = occupied_le slots in omega arith

  pub occupied_push : (slots : List (ItemSlot T)) (slot : ItemSlot T) → occupied (slots ++ slot ∷ []) ≡ counted slot (occupied slots)
  occupied_push [] slot = refl
  occupied_push (Occupied x ∷ slots) (Occupied y) = ap suc (occupied_push slots (Occupied y))
  occupied_push (Occupied x ∷ slots) (Vacant next) = ap suc (occupied_push slots (Vacant next))
  occupied_push (Vacant next ∷ slots) slot = occupied_push slots slot

  packed_push : (slots : List (ItemSlot T)) (slot : ItemSlot T) → packed (slots ++ slot ∷ []) ≡ packed slots ++ packed (slot ∷ [])
  packed_push [] slot = refl
  packed_push (Occupied y ∷ slots) slot = ap (λ (l : List (ItemSlot T)). Occupied y ∷ l) (packed_push slots slot)
  packed_push (Vacant next ∷ slots) slot = packed_push slots slot

  numbers_push : (n : ℕ) (slots : List (ItemSlot T)) (slot : ItemSlot T) → new_numbers n (slots ++ slot ∷ []) ≡ new_numbers n slots ++ new_numbers (n + occupied slots) (slot ∷ [])
  numbers_push n [] slot = ap (λ (m : ℕ). new_numbers m (slot ∷ [])) (sym (add-zero n))
  numbers_push n (Occupied y ∷ slots) slot =
      let e : suc n + occupied slots ≡ n + suc (occupied slots) = omega arith in
      ap (λ (l : List ItemIndex). index_of n ∷ l) (numbers_push (suc n) slots slot ∙ ap (λ (m : ℕ). new_numbers (suc n) slots ++ new_numbers m (slot ∷ [])) e)
  numbers_push n (Vacant next ∷ slots) slot = ap (λ (l : List ItemIndex). sentinel ∷ l) (numbers_push n slots slot)

-- a list is written one place on: the front is done, the rest as it was
pub front_more : {X : Type 0} (done old : List X) (k : ℕ) (v : X) → length done ≡ k → k < length old → set (done ++ drop k old) k v ≡ (done ++ v ∷ []) ++ drop (k + 1) old
front_more {X} done old k v n h =
    ap (λ (l : List X). set (done ++ l) k v) (drop_more old k v h) ∙ set_at done _ (drop (k + 1) old) v k n ∙ sym (append_assoc done (v ∷ []) (drop (k + 1) old))

-- what is left of two lists is the same one place on
pub drop_on : {X : Type 0} (a b : List X) (k : ℕ) → drop k a ≡ drop k b → drop (k + 1) a ≡ drop (k + 1) b
drop_on {X} a b k e = sym (drop-drop 1 k a) ∙ ap (λ (l : List X). drop 1 l) e ∙ drop-drop 1 k b

pub read_on : {X : Type 0} (a b : List X) (k : ℕ) (d : X) → drop k a ≡ drop k b → get_or a k d ≡ get_or b k d
read_on {X} a b k d e =
    let z : k ≡ k + 0 = omega arith in
    ap (λ (n : ℕ). get_or a n d) z ∙ sym (get_or-drop k a 0 d) ∙ ap (λ (l : List X). get_or l 0 d) e ∙ get_or-drop k b 0 d ∙ ap (λ (n : ℕ). get_or b n d) (sym z)

-- slot k, read as `slot`, is the next to be numbered and moved
module _ {T : Type 0} (old : List (ItemSlot T)) (k : ℕ) (slot : ItemSlot T) (inside : k < length old) (read : slot ≡ get_or old k slot) (v : ItemSlot T) (is : slot ≡ v) where
  further : take (k + 1) old ≡ take k old ++ v ∷ []
  further = take_more old k slot inside ∙ ap (λ (a : ItemSlot T). take k old ++ a ∷ []) (sym read ∙ is)

  pub count_more : occupied (take (k + 1) old) ≡ counted v (occupied (take k old))
  count_more = ap occupied further ∙ occupied_push (take k old) v

  pub pack_more : packed (take (k + 1) old) ≡ packed (take k old) ++ packed (v ∷ [])
  pack_more = ap packed further ∙ packed_push (take k old) v

  pub number_more : (scratch was : List ItemIndex) (number : ItemIndex) → k < length was → scratch ≡ new_numbers 0 (take k old) ++ drop k was
      → new_numbers (occupied (take k old)) (v ∷ []) ≡ number ∷ [] → set scratch k number ≡ new_numbers 0 (take (k + 1) old) ++ drop (k + 1) was
  number_more scratch was number long done one =
      let zero : 0 + occupied (take k old) ≡ occupied (take k old) = omega arith in
      let all : new_numbers 0 (take (k + 1) old) ≡ new_numbers 0 (take k old) ++ number ∷ [] =
      ap (new_numbers 0) further ∙ numbers_push 0 (take k old) v ∙ ap (λ (m : ℕ). new_numbers 0 (take k old) ++ new_numbers m (v ∷ [])) zero ∙ ap (λ (l : List ItemIndex). new_numbers 0 (take k old) ++ l) one in
      let m = length_new_numbers 0 (take k old) ∙ length-take-le k old (omega arith) in
      ap (λ (l : List ItemIndex). set l k number) done ∙ front_more (new_numbers 0 (take k old)) was k number m long ∙ ap (λ (l : List ItemIndex). l ++ drop (k + 1) was) (sym all)
