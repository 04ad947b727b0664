-- The slot that the search of a table finds is the one named by the key's place.
use Rattle.std.proofs.Common.{◌≡◌, ℕ, List, [], ◌∷◌, Some, None, Option, Ordering, Less, Equal, Greater, sym, refl, ap, ◌∙◌}
use Rattle.std.specs.Option.{option_map}
use Rattle.std.specs.Ordering.{is_eq, is_lt}
use Rattle.std.specs.List.{slice_get}
use Rattle.id_ord_item.specs.Order.{LawfulOrder}
use Rattle.id_ord_item.proofs.Order.{greater_swaps}
use Rattle.item_set.specs.Slots.{at, index_of}
use Rattle.item_set.specs.declared.index.ItemIndex.{ItemIndex}
use Rattle.item_set.specs.declared.slot.ItemSlot.{ItemSlot}
use Rattle.item_set.specs.declared.slot.ItemSlot.TheVariants.{Occupied}
use Rattle.index_table.proofs.Finding.{answer, hold}
use Rattle.index_table.proofs.Finding.Answer.{is_less, is_equal, is_greater}
use Rattle.index_table.proofs.Walking.{Names}
use Rattle.index_table.specs.Walk.{seen, Ascending, smaller, slot_of}
use Rattle.index_table.specs.declared.entry.Index.{Index}
use Rattle.id_ord_law.specs.Parts.{Parts, live, entries, name_at, walk, Holds, Sound}
use Rattle.id_ord_law.specs.Standing.{found}
use Rattle.id_ord_law.proofs.Keys.{found_here, found_later, found_among, below_has, below_less}
use Rattle.id_ord_law.proofs.Naming.{number_at}
use Rattle.id_ord_law.proofs.Places.{smaller_none, smaller_more, nth_smaller}
use Rattle.id_ord_law.proofs.Steps.{place_holds}

module _ {T : Type 0} {order : T → T → Ordering} (lawful : LawfulOrder order) (k : T) where
  -- a key below all of some items is not found among them
  none_below : (w : List T) (o : Option T) → ((y : T) → o ≡ Some y → order k y ≡ Less) → ((y : T) → o ≡ Some y → order k y ≡ Equal) → o ≡ None
  none_below w None less equal = refl
  none_below w (Some y) less equal = let a = less y refl in let b = equal y refl in cc

  located_in : (slots : List (ItemSlot T)) (es : List Index) (w : List T) → Names slots es w → Ascending order w
      → slot_of order k slots es ≡ option_map (λ y. index_of (number_at es (smaller order k w))) (found order k w)
  located_in slots [] [] named up = refl
  located_in slots [] (y ∷ w) named up = cc
  located_in slots (e ∷ es) [] named up = cc
  located_in slots (e ∷ es) (y ∷ w) named up =
      let holds : seen slots e ≡ Occupied y = cc in let rest : Names slots es w = cc in
      elim (answer (order k y)) [
        | is_less l ↦
            let later = found_later order k y w (ap is_eq l) in
            let below = below_less order lawful k y w l up.0 in
            let none = none_below w (found order k w) (λ z f. below_has order k z w below (found_among order k w z f).0) (λ z f. (found_among order k w z f).1) in
            hold lawful k slots e y Less (slot_of order k slots es) holds l
            ∙ located_in slots es w rest up.1
            ∙ ap (option_map (λ y. index_of (number_at es (smaller order k w)))) none
            ∙ sym (ap (option_map (λ z. index_of (number_at (e ∷ es) (smaller order k (y ∷ w))))) (later ∙ none))
        | is_equal q ↦
            let zero = smaller_none lawful k y w up (ap is_lt (equal_swaps q)) in
            hold lawful k slots e y Equal (slot_of order k slots es) holds q
            ∙ ap (λ (n : ℕ). Some (index_of (number_at (e ∷ es) n))) (sym zero)
            ∙ sym (ap (option_map (λ z. index_of (number_at (e ∷ es) (smaller order k (y ∷ w))))) (found_here order k y w q))
        | is_greater g ↦
            let later = found_later order k y w (ap is_eq g) in
            let more = smaller_more lawful k y w (greater_swaps lawful k y g) in
            hold lawful k slots e y Greater (slot_of order k slots es) holds g
            ∙ located_in slots es w rest up.1
            ∙ ap (λ (n : ℕ). option_map (λ z. index_of (number_at (e ∷ es) n)) (found order k w)) (sym more)
            ∙ sym (ap (option_map (λ z. index_of (number_at (e ∷ es) (smaller order k (y ∷ w))))) later)
      ]
    where
      equal_swaps : order k y ≡ Equal → order y k ≡ Equal
      equal_swaps q = sym (lawful.alike k y k q) ∙ lawful.reflexive k

  module _ (p : Parts T) (s : Sound order p) where
    -- a key that stands, with its item, its place and its slot
    pub record Stands (i : ItemIndex) : Type 0 where
      pub item : T
      pub stands : found order k (walk p) ≡ Some item
      pub place : slice_get (walk p) (smaller order k (walk p)) ≡ Some item
      pub slot : i ≡ index_of (name_at p (smaller order k (walk p)))
      pub holds : Holds p i.0 item

    slot_is : slot_of order k (live p) (entries p) ≡ option_map (λ y. index_of (name_at p (smaller order k (walk p)))) (found order k (walk p))
    slot_is = located_in (live p) (entries p) (walk p) s.named s.ascending

    pub standing : (i : ItemIndex) → slot_of order k (live p) (entries p) ≡ Some i → Stands i
    standing i e = go (found order k (walk p)) refl (sym slot_is ∙ e)
      where
        go : (o : Option T) → found order k (walk p) ≡ o → option_map (λ y. index_of (name_at p (smaller order k (walk p)))) o ≡ Some i → Stands i
        go None f q = cc
        go (Some y) f q =
            let slot : i ≡ index_of (name_at p (smaller order k (walk p))) = cc in
            let place = nth_smaller lawful k y (walk p) s.ascending f in
            let holds = place_holds order lawful p s (smaller order k (walk p)) y place in
            record {
              item = y;
              stands = f;
              place = place;
              slot = slot;
              holds = ap (λ (j : ItemIndex). at (live p) j.0) slot ∙ holds;
            }

    pub missing : slot_of order k (live p) (entries p) ≡ None → found order k (walk p) ≡ None
    missing e = go (found order k (walk p)) (sym slot_is ∙ e)
      where
        go : (o : Option T) → option_map (λ y. index_of (name_at p (smaller order k (walk p)))) o ≡ None → o ≡ None
        go None q = refl
        go (Some y) q = cc
