-- A map agrees with the machine where its parts are sound and its walk is the set in key order: what one call then gives.
use Rattle.std.proofs.Common.{◌≡◌, ℕ, true, List, [], map, length, take, Some, Ordering, Equal, sym, refl, ap, ◌∙◌, subst, arith}
use mathlib.Core.List.{Memᴰ as Among}
use Rattle.id_ord_item.specs.Order.{LawfulOrder}
use Rattle.item_set.specs.Chain.{SoundSet}
use Rattle.item_set.specs.Slots.{sentinel, occupied}
use Rattle.index_table.specs.Walk.{seen, Ascending, smaller}
use Rattle.id_ord_law.specs.Law.{SlotOf, heard, moved}
use Rattle.id_ord_law.specs.Parts.{Parts, numbers, live, entries, name_at, walk, capacity, Holds, Sound}
use Rattle.id_ord_law.specs.Standing.{Said, found, stands, in_order}
use Rattle.id_ord_law.specs.Step.{Answered, Outcome}
use Rattle.id_ord_law.proofs.Keys.{some_if, found_among, found_same}
use Rattle.id_ord_law.proofs.Occupied.{keys_apart, names_sound}
use Rattle.id_ord_law.proofs.Places.{nth_smaller}
use Rattle.id_ord_law.proofs.Sorting.{length_in_order, in_order_among, among_in_order}
use Rattle.id_ord_law.proofs.Steps.{Leaves, Back, leaves, walk_long, place_holds}

module _ {T : Type 0} (order : T → T → Ordering) where
  pub record Agrees (c : ℕ) (p : Parts T) (items : List T) : Type 0 where
    pub sound : Sound order p
    pub walks : walk p ≡ in_order order items
    pub room : c ≡ capacity p

  -- a call on the parts p fits the machine: what it leaves, what it answers, and the slots of the keys that stand later
  pub record Fits (c : ℕ) (p : Parts T) (says : Said T) (later : List T) (r : Outcome T) : Type 0 where
    pub agrees : Agrees c r.1 later
    pub hears : heard r.0 ≡ says
    pub keeps : (k : T) (n : ℕ) → stands order k later ≡ true → SlotOf order k p n → SlotOf order k r.1 (moved r.0 p n)

  pub agrees_empty : (c : ℕ) (p : Parts T) → p.used ≡ 0 → p.len ≡ 0 → p.head ≡ sentinel → c ≡ capacity p → Agrees c p []
  agrees_empty c p used len head room = record { sound = left.sound; walks = left.walks; room = room }
    where
      none : live p ≡ []
      none = ap (λ (n : ℕ). take n p.slots) used

      nameless : entries p ≡ []
      nameless = ap (λ (n : ℕ). take n p.table) len

      store : SoundSet (numbers p) p.slots
      store = record {
        count = ap occupied none ∙ sym len;
        free = [];
        linked = head;
        enough = let l = ap length none in omega arith;
      }

      left : Leaves order p p []
      left = leaves order p p [] (omega arith) store (ap (map (seen (live p))) nameless) tt refl

  -- an answer that moves no slot
  abbrev pub Still : Answered T → Type 0
  Still answer = (p : Parts T) (n : ℕ) → moved answer p n ≡ n

  module _ (lawful : LawfulOrder order) where
    -- the item of a key that stands, with the slot that it is in
    module _ (c : ℕ) (p : Parts T) (items : List T) (a : Agrees c p items) where
      pub ascends : Ascending order (in_order order items)
      ascends = subst (Ascending order) a.walks a.sound.ascending

      pub found_set : (k : T) → found order k (walk p) ≡ found order k items
      found_set k = found_same order lawful k items (walk p) a.sound.ascending
          (λ z m. subst (Among z) (sym a.walks) (among_in_order order z items m))
          (λ z m. in_order_among order z items (subst (Among z) a.walks m))

      pub len_set : p.len ≡ length items
      len_set = sym (walk_long order p a.sound) ∙ ap length a.walks ∙ length_in_order order items

      pub slot_found : (k y : T) → found order k (walk p) ≡ Some y → Holds p (name_at p (smaller order k (walk p))) y
      slot_found k y e = place_holds order lawful p a.sound (smaller order k (walk p)) y (nth_smaller lawful k y (walk p) a.sound.ascending e)

      -- a slot that holds an item is the slot of the item's key
      pub slot_of : (k x : T) (n : ℕ) → Holds p n x → order k x ≡ Equal → SlotOf order k p n
      slot_of k x n holds e = ((names_sound lawful p a.sound).all n x holds, (x, (holds, e)))

    -- where q's slots hold what they held in p, by key, a key keeps its slot
    keeps_back : (c : ℕ) (p q : Parts T) (items later : List T) → Agrees c p items → Agrees c q later → Back order p q
        → (k : T) (n : ℕ) → stands order k later ≡ true → SlotOf order k p n → SlotOf order k q n
    keeps_back c p q items later a b back k n st slot =
        let f = some_if (found order k later) st in
        let y = f.0 in
        let e : found order k (walk q) ≡ Some y = found_set c q later b k ∙ f.1 in
        let m = name_at q (smaller order k (walk q)) in
        let holds = slot_found c q later b k y e in
        let ky = (found_among order k (walk q) y e).1 in
        let was = back m y holds in
        let x = slot.1.0 in let z = was.0 in
        let xz : order x z ≡ Equal = sym (lawful.alike k x z slot.1.1.1) ∙ lawful.alike k y z ky ∙ was.1.1 in
        let one : n ≡ m = keys_apart lawful p a.sound n m x z slot.1.1.0 was.1.0 xz in
        subst (SlotOf order k q) (sym one) (slot_of c q later b k y m holds ky)

    module _ (c : ℕ) (p : Parts T) (items : List T) (a : Agrees c p items) where
      pub unchanged : (answer : Answered T) → Still answer → Fits c p (heard answer) items (answer, p)
      unchanged answer still = record {
        agrees = a;
        hears = refl;
        keeps = λ k n st slot. subst (SlotOf order k p) (sym (still p n)) slot;
      }

      -- a call after which every slot holds what it held, by key
      pub changed : (answer : Answered T) (q : Parts T) (later : List T) → Still answer → Leaves order p q (in_order order later) → Back order p q → Fits c p (heard answer) later (answer, q)
      changed answer q later still leaves back =
          let b : Agrees c q later = record { sound = leaves.sound; walks = leaves.walks; room = a.room ∙ sym leaves.room } in
          record {
            agrees = b;
            hears = refl;
            keeps = λ k n st slot. subst (SlotOf order k q) (sym (still p n)) (keeps_back c p q items later a b back k n st slot);
          }

      -- a call after which every slot that held an item holds it still
      pub grew : (answer : Answered T) (q : Parts T) (later : List T) → Still answer → Leaves order p q (in_order order later) → ((n : ℕ) (y : T) → Holds p n y → Holds q n y)
          → Fits c p (heard answer) later (answer, q)
      grew answer q later still leaves onward =
          let b : Agrees c q later = record { sound = leaves.sound; walks = leaves.walks; room = a.room ∙ sym leaves.room } in
          record {
            agrees = b;
            hears = refl;
            keeps = λ k n st slot. subst (SlotOf order k q) (sym (still p n)) (slot_of c q later b k slot.1.0 n (onward n slot.1.0 slot.1.1.0) slot.1.1.1);
          }
