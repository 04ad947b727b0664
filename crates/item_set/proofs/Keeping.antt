-- A sound store stays sound: after an insert, a removal and a replacing.
use Rattle.std.proofs.Common.{◌≡◌, ℕ, ◌+◌, ◌-◌, ◌<◌, ◌≤◌, List, [], ◌∷◌, ◌++◌, length, set, Some, sym, refl, ap, ◌∙◌, subst, arith}
use lib.Seq.{take-set-lt}
use Rattle.std.proofs.lemmas.List.{length-set, length-take, length_push, get_or-set_same, get_or-set_other, take_more_set}
use Rattle.std.specs.List.{AllByRecursion}
use Rattle.item_set.specs.Chain.{Chain, SoundSet}
use Rattle.item_set.specs.Slots.{at, index_of, sentinel, next_free, vacant_next, occupied}
use Rattle.item_set.specs.Store.{in_use}
use Rattle.item_set.specs.declared.index.ItemIndex.{ItemIndex}
use Rattle.item_set.specs.declared.item_set.ItemSet.{ItemSet}
use Rattle.item_set.specs.declared.slot.ItemSlot.{ItemSlot}
use Rattle.item_set.specs.declared.slot.ItemSlot.TheVariants.{Occupied, Vacant}
use Rattle.item_set.proofs.Chains.{chain_same, chain_apart, chain_vacant, chain_kept, vacant_next_lem, occupied_in, occupied_out, occupied_again}
use Rattle.item_set.proofs.Packing.{occupied_push}
use Rattle.item_set.proofs.Slots.{occupied_below, vacant_below}

module _ {T : Type 0} (slots : List (ItemSlot T)) (n : ℕ) (slot : ItemSlot T) where
  -- a slot that is written does not change another
  pub set_keeps : (k : ℕ) → (k ≡ n → ⊥) → at (set slots n slot) k ≡ at slots k
  set_keeps k other = get_or-set_other slots n k slot (Vacant sentinel) other

  pub set_here : n < length slots → at (set slots n slot) n ≡ slot
  set_here inside = get_or-set_same slots n slot (Vacant sentinel) inside

-- a store is sound where its slots in use are these
sound_from : {T : Type 0} (numbers : ItemSet) (slots live : List (ItemSlot T)) → in_use numbers slots ≡ live → occupied live ≡ numbers.len
    → (free : List ℕ) → Chain live numbers.free_head free → length free + numbers.len ≡ length live → SoundSet numbers slots
sound_from {T} numbers slots live is count free linked enough = record {
  count = ap occupied is ∙ count;
  free = free;
  linked = subst (λ (l : List (ItemSlot T)). Chain l numbers.free_head free) (sym is) linked;
  enough = enough ∙ sym (ap length is);
}

module _ {T : Type 0} (numbers : ItemSet) (slots : List (ItemSlot T)) (sound : SoundSet numbers slots) where
  -- where no slot is free, all in use hold an item
  pub all_held : numbers.free_head.0 ≡ 4294967295 → length (in_use numbers slots) ≡ numbers.len
  all_held none =
      let e = ap length (chain_same (in_use numbers slots) sound.free [] numbers.free_head sound.linked (ap index_of none)) in
      let f = sound.enough in omega arith

  -- one item more, in the first slot that is not in use
  pub sound_at_end : (x : T) → numbers.free_head.0 ≡ 4294967295 → numbers.used < length slots
      → SoundSet (record { used = numbers.used + 1; len = numbers.len + 1; free_head = numbers.free_head }) (set slots numbers.used (Occupied x))
  sound_at_end x none room =
      let live = in_use numbers slots in
      let c = occupied_push live (Occupied x) in let d = sound.count in
      let l = length_push live (Occupied x) in let h = all_held none in
      sound_from _ _ (live ++ Occupied x ∷ []) (take_more_set slots numbers.used (Occupied x) room) (omega arith) [] (ap index_of none) (omega arith)

  -- one item more, in the free head
  pub sound_at_head : (x : T) (next : ItemIndex) → (numbers.free_head.0 ≡ 4294967295 → ⊥) → vacant_next (in_use numbers slots) numbers.free_head.0 ≡ Some next
      → SoundSet (record { used = numbers.used; len = numbers.len + 1; free_head = next }) (set slots numbers.free_head.0 (Occupied x))
  sound_at_head x next some free = by sound.free sound.linked sound.enough
    where
      by : (chain : List ℕ) → Chain (in_use numbers slots) numbers.free_head chain → length chain + numbers.len ≡ length (in_use numbers slots)
          → SoundSet (record { used = numbers.used; len = numbers.len + 1; free_head = next }) (set slots numbers.free_head.0 (Occupied x))
      by [] linked enough = absurd (some (ap (λ (i : ItemIndex). i.0) linked))
      by (c ∷ cs) linked enough =
          let live = in_use numbers slots in let h = numbers.free_head.0 in
          let here : h ≡ c = ap (λ (i : ItemIndex). i.0) linked.0 in
          let v = vacant_below live h next free in
          let l = length-take numbers.used slots in let k = length-set live h (Occupied x) in
          let goes : next_free (at live c) ≡ next = ap (λ (m : ℕ). next_free (at live m)) (sym here) ∙ ap next_free v.1 in
          let rest : Chain live next cs = subst (λ (i : ItemIndex). Chain live i cs) goes linked.3 in
          let apart : AllByRecursion (λ d. d ≡ h → ⊥) cs = subst (λ (m : ℕ). AllByRecursion (λ d. d ≡ m → ⊥) cs) (sym here) (chain_apart live c cs linked.3) in
          let o = occupied_in live h x next v.0 v.1 in let d = sound.count in
          sound_from _ _ (set live h (Occupied x)) (take-set-lt numbers.used slots h (Occupied x) (omega arith)) (omega arith) cs
          (chain_kept live (set live h (Occupied x)) h (omega arith) (set_keeps live h (Occupied x)) cs next apart rest) (omega arith)

  -- one item fewer: its slot becomes the free head
  pub sound_removed : (i : ItemIndex) (x : T) → length (in_use numbers slots) ≤ 4294967295 → at (in_use numbers slots) i.0 ≡ Occupied x
      → SoundSet (record { used = numbers.used; len = numbers.len - 1; free_head = i }) (set slots i.0 (Vacant numbers.free_head))
  sound_removed i x few here =
      let live = in_use numbers slots in let n = i.0 in let free = Vacant numbers.free_head in
      let inside = occupied_below live n x here in
      let l = length-take numbers.used slots in let k = length-set live n free in
      let o = occupied_out live n x numbers.free_head inside here in let d = sound.count in let e = sound.enough in
      let now = set_here live n free inside in
      let kept = chain_kept live (set live n free) n (omega arith) (set_keeps live n free) sound.free numbers.free_head (chain_vacant live sound.free numbers.free_head sound.linked n x here) sound.linked in
      let next : next_free (at (set live n free) n) ≡ numbers.free_head = ap next_free now in
      sound_from _ _ (set live n free) (take-set-lt numbers.used slots n free (omega arith)) (omega arith) (n ∷ sound.free)
      (refl, omega arith, vacant_next_lem (set live n free) n (next_free (at (set live n free) n)) (omega arith) (now ∙ ap Vacant (sym next)), subst (λ (j : ItemIndex). Chain (set live n free) j sound.free) (sym next) kept)
      (omega arith)

  -- another item in the place of one
  pub sound_replaced : (i : ItemIndex) (x y : T) → at (in_use numbers slots) i.0 ≡ Occupied x → SoundSet numbers (set slots i.0 (Occupied y))
  sound_replaced i x y here =
      let live = in_use numbers slots in let n = i.0 in
      let inside = occupied_below live n x here in
      let l = length-take numbers.used slots in let k = length-set live n (Occupied y) in
      let o = occupied_again live n x y here in let d = sound.count in let e = sound.enough in
      sound_from _ _ (set live n (Occupied y)) (take-set-lt numbers.used slots n (Occupied y) (omega arith)) (omega arith) sound.free
      (chain_kept live (set live n (Occupied y)) n (omega arith) (set_keeps live n (Occupied y)) sound.free numbers.free_head (chain_vacant live sound.free numbers.free_head sound.linked n x here) sound.linked)
      (omega arith)
