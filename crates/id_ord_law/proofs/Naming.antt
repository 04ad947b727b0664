-- Entries that name ascending items, when a slot is written and when an entry comes or goes.
use Rattle.std.proofs.Common.{◌≡◌, ℕ, zero, suc, List, [], ◌∷◌, map, get_or, set, Some, Ordering, Less, sym, refl, ap, ◌∙◌, ap₂}
use Rattle.std.proofs.lemmas.List.{map-set}
use Rattle.std.specs.List.{insert, remove, slice_get}
use Rattle.id_ord_item.specs.Order.{LawfulOrder}
use Rattle.item_set.proofs.Keeping.{set_keeps, set_here}
use Rattle.item_set.proofs.Slots.{occupied_below}
use Rattle.item_set.specs.Slots.{at, sentinel}
use Rattle.item_set.specs.declared.index.ItemIndex.{ItemIndex}
use Rattle.item_set.specs.declared.slot.ItemSlot.{ItemSlot}
use Rattle.item_set.specs.declared.slot.ItemSlot.TheVariants.{Occupied, Vacant}
use Rattle.index_table.proofs.Walking.{Names}
use Rattle.index_table.specs.Walk.{seen, Below, Ascending}
use Rattle.index_table.specs.declared.entry.Index.{Index}
use Rattle.id_ord_law.proofs.Keys.{nth_among, below_has}

abbrev pub number_at : List Index → ℕ → ℕ
number_at entries i = get_or (map (λ entry. entry.0.0) entries) i sentinel.0

-- lists with a place taken out or put in
module _ {X Y : Type 0} (f : X → Y) where
  map_removed : (xs : List X) (i : ℕ) → map f (remove xs i) ≡ remove (map f xs) i
  map_removed [] zero = refl
  map_removed [] (suc i) = refl
  map_removed (x ∷ xs) zero = refl
  map_removed (x ∷ xs) (suc i) = ap (λ (l : List Y). f x ∷ l) (map_removed xs i)

  map_inserted : (xs : List X) (i : ℕ) (x : X) → map f (insert xs i x) ≡ insert (map f xs) i (f x)
  map_inserted xs zero x = refl
  map_inserted [] (suc i) x = refl
  map_inserted (y ∷ xs) (suc i) x = ap (λ (l : List Y). f y ∷ l) (map_inserted xs i x)

removed_set : {X : Type 0} (xs : List X) (i : ℕ) (x : X) → remove (set xs i x) i ≡ remove xs i
removed_set [] zero x = refl
removed_set [] (suc i) x = refl
removed_set (y ∷ xs) zero x = refl
removed_set {X} (y ∷ xs) (suc i) x = ap (λ (l : List X). y ∷ l) (removed_set xs i x)

module _ {T : Type 0} where
  -- the slot that a place names holds the item of the place
  pub holds_at : (slots : List (ItemSlot T)) (es : List Index) (w : List T) (i : ℕ) (y : T) → Names slots es w → slice_get w i ≡ Some y → at slots (number_at es i) ≡ Occupied y
  holds_at slots es [] i y named e = cc
  holds_at slots [] (x ∷ w) i y named e = cc
  holds_at slots (d ∷ es) (x ∷ w) zero y named e =
      let holds : seen slots d ≡ Occupied x = cc in let same : x ≡ y = cc in holds ∙ ap Occupied same
  holds_at slots (d ∷ es) (x ∷ w) (suc i) y named e =
      let rest : Names slots es w = cc in holds_at slots es w i y rest e

  -- a vacant slot is named by no entry
  pub seen_vacant : (slots slots' : List (ItemSlot T)) (n : ℕ) (next : ItemIndex) → at slots n ≡ Vacant next → ((k : ℕ) → (k ≡ n → ⊥) → at slots' k ≡ at slots k)
      → (es : List Index) (w : List T) → Names slots es w → map (seen slots') es ≡ map (seen slots) es
  seen_vacant slots slots' n next free keep [] w named = refl
  seen_vacant slots slots' n next free keep (d ∷ es) [] named = cc
  seen_vacant slots slots' n next free keep (d ∷ es) (x ∷ w) named =
      let holds : seen slots d ≡ Occupied x = cc in let rest : Names slots es w = cc in
      ap₂ (λ (s : ItemSlot T) (l : List (ItemSlot T)). s ∷ l)
      (keep d.0.0 (λ e. let same = ap (at slots) e in cc))
      (seen_vacant slots slots' n next free keep es w rest)

module _ {T : Type 0} {order : T → T → Ordering} (lawful : LawfulOrder order) where
  -- slots that hold items of different keys are different
  pub slots_apart : (slots : List (ItemSlot T)) (n m : ℕ) (y z : T) → at slots n ≡ Occupied y → at slots m ≡ Occupied z → order y z ≡ Less → m ≡ n → ⊥
  slots_apart slots n m y z holds held less same =
      let there = ap (at slots) same in
      let one : y ≡ z = cc in
      let equal = ap (order y) one ∙ less in
      let itself = lawful.reflexive y in
      cc

  -- a slot is not named by the entries for greater items
  pub seen_later : (slots : List (ItemSlot T)) (n : ℕ) (y : T) (slot : ItemSlot T) → at slots n ≡ Occupied y
      → (es : List Index) (w : List T) → Names slots es w → Below order y w → map (seen (set slots n slot)) es ≡ map (seen slots) es
  seen_later slots n y slot holds [] w named below = refl
  seen_later slots n y slot holds (d ∷ es) [] named below = cc
  seen_later slots n y slot holds (d ∷ es) (x ∷ w) named below =
      let held : seen slots d ≡ Occupied x = cc in let rest : Names slots es w = cc in
      ap₂ (λ (s : ItemSlot T) (l : List (ItemSlot T)). s ∷ l)
      (set_keeps slots n slot d.0.0 (slots_apart slots n d.0.0 y x holds held below.0))
      (seen_later slots n y slot holds es w rest below.1)

  -- writing the slot of a place is writing at that place
  seen_set : (slots : List (ItemSlot T)) (slot : ItemSlot T) (es : List Index) (w : List T) (i : ℕ) (y : T) → Names slots es w → Ascending order w → slice_get w i ≡ Some y
      → map (seen (set slots (number_at es i) slot)) es ≡ set (map (seen slots) es) i slot
  seen_set slots slot es [] i y named up e = cc
  seen_set slots slot [] (x ∷ w) i y named up e = cc
  seen_set slots slot (d ∷ es) (x ∷ w) zero y named up e =
      let held : seen slots d ≡ Occupied x = cc in let rest : Names slots es w = cc in
      ap₂ (λ (s : ItemSlot T) (l : List (ItemSlot T)). s ∷ l)
      (set_here slots d.0.0 slot (occupied_below slots d.0.0 x held))
      (seen_later slots d.0.0 x slot held es w rest up.0)
  seen_set slots slot (d ∷ es) (x ∷ w) (suc i) y named up e =
      let held : seen slots d ≡ Occupied x = cc in let rest : Names slots es w = cc in
      let less = below_has order x y w up.0 (nth_among w i y e) in
      ap₂ (λ (s : ItemSlot T) (l : List (ItemSlot T)). s ∷ l)
      (set_keeps slots (number_at es i) slot d.0.0 (λ same. slots_apart slots d.0.0 (number_at es i) x y held (holds_at slots es w i y rest e) less (sym same)))
      (seen_set slots slot es w i y rest up.1 e)

  module _ (slots : List (ItemSlot T)) (es : List Index) (w : List T) (named : Names slots es w) where
    pub names_written : (x y : T) (i : ℕ) → Ascending order w → slice_get w i ≡ Some y → Names (set slots (number_at es i) (Occupied x)) es (set w i x)
    names_written x y i up e =
        seen_set slots (Occupied x) es w i y named up e
        ∙ ap (λ (l : List (ItemSlot T)). set l i (Occupied x)) named
        ∙ sym (map-set Occupied w i x)

    pub names_removed : (slot : ItemSlot T) (y : T) (i : ℕ) → Ascending order w → slice_get w i ≡ Some y → Names (set slots (number_at es i) slot) (remove es i) (remove w i)
    names_removed slot y i up e =
        map_removed (seen (set slots (number_at es i) slot)) es i
        ∙ ap (λ (l : List (ItemSlot T)). remove l i) (seen_set slots slot es w i y named up e)
        ∙ removed_set (map (seen slots) es) i slot
        ∙ ap (λ (l : List (ItemSlot T)). remove l i) named
        ∙ sym (map_removed Occupied w i)

    pub names_inserted : (slots' : List (ItemSlot T)) (d : Index) (x : T) (i : ℕ) → map (seen slots') es ≡ map (seen slots) es → seen slots' d ≡ Occupied x
        → Names slots' (insert es i d) (insert w i x)
    names_inserted slots' d x i same holds =
        map_inserted (seen slots') es i d
        ∙ ap₂ (λ (l : List (ItemSlot T)) (s : ItemSlot T). insert l i s) (same ∙ named) holds
        ∙ sym (map_inserted Occupied w i x)
