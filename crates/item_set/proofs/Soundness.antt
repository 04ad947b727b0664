-- A store is sound exactly where the check of its parts finds no fault.
use Rattle.std.proofs.Common.{◌≡◌, ℕ, ◌-◌, ◌≤◌, Bool, true, false, eqb, List, length, Some, None, Ok, Option, sym, refl, ap, ◌∙◌, arith}
use Rattle.std.proofs.lemmas.Bool.{cond-true, cond-false, eq-eqb, eqb-true}
use Rattle.item_set.specs.Chain.{SoundSet, follow, first_fault, unless}
use Rattle.item_set.specs.Slots.{occupied}
use Rattle.item_set.specs.Store.{in_use}
use Rattle.item_set.specs.declared.item_set.ItemSet.{ItemSet}
use Rattle.item_set.specs.declared.slot.ItemSlot.{ItemSlot}
use Rattle.item_set.proofs.Following.{chain_from, no_fault}
use Rattle.item_set.proofs.Packing.{occupied_le}

pub none_if_ok : {F : Type 0} (fault : Option F) → unless fault ≡ Ok tt → fault ≡ None
none_if_ok None e = refl
none_if_ok (Some f) e = cc

module _ {T : Type 0} (numbers : ItemSet) (slots : List (ItemSlot T)) where
  pub fault_of_chain : occupied (in_use numbers slots) ≡ numbers.len
      → first_fault numbers slots ≡ follow (in_use numbers slots) (length (in_use numbers slots) - numbers.len) 0 numbers.free_head
  fault_of_chain e = cond-true _ _ _ (eq-eqb (occupied (in_use numbers slots)) numbers.len e)

  pub no_fault_if_sound : SoundSet numbers slots → first_fault numbers slots ≡ None
  no_fault_if_sound sound =
      let enough = sound.enough in
      let vacant : length (in_use numbers slots) - numbers.len ≡ length sound.free = omega arith in
      fault_of_chain sound.count
      ∙ ap (λ (n : ℕ). follow (in_use numbers slots) n 0 numbers.free_head) vacant
      ∙ no_fault (in_use numbers slots) sound.free 0 numbers.free_head sound.linked

  -- by whether the count agrees
  sound_by : length (in_use numbers slots) ≤ 4294967295 → (agrees : Bool) → eqb (occupied (in_use numbers slots)) numbers.len ≡ agrees → first_fault numbers slots ≡ None → SoundSet numbers slots
  sound_by few true t e =
      let count = eqb-true (occupied (in_use numbers slots)) numbers.len t in
      let chain = chain_from (in_use numbers slots) (length (in_use numbers slots) - numbers.len) numbers.free_head few (sym (fault_of_chain count) ∙ e) in
      let many = chain.many_met in let le = occupied_le (in_use numbers slots) in
      record { count = count; free = chain.free; linked = chain.linked; enough = omega arith }
  sound_by few false t e = let f = sym (cond-false _ _ _ t) ∙ e in cc

  pub sound_if_no_fault : length (in_use numbers slots) ≤ 4294967295 → first_fault numbers slots ≡ None → SoundSet numbers slots
  sound_if_no_fault few e = sound_by few (eqb (occupied (in_use numbers slots)) numbers.len) refl e
