-- Entries that each name an item Greater than the one before, looked at one by one.
use Rattle.std.proofs.Common.{◌≡◌, Bool, true, false, cond, List, [], ◌∷◌, Some, None, Option, Ordering, Less, Equal, Greater, sym, refl, ap, subst, arith}
use Rattle.std.specs.Ordering.{is_gt}
use Rattle.id_ord_item.specs.Order.{LawfulOrder}
use Rattle.id_ord_item.proofs.Order.{less_swaps, greater_swaps}
use Rattle.item_set.specs.declared.slot.ItemSlot.{ItemSlot}
use Rattle.item_set.specs.declared.slot.ItemSlot.TheVariants.{Occupied, Vacant}
use Rattle.index_table.specs.Check.{followed}
use Rattle.index_table.specs.Walk.{seen, walk, Named, Below, Ascending}
use Rattle.index_table.specs.declared.entry.Index.{Index}
use Rattle.index_table.proofs.Walking.{Names, names_walk, named_if_names}

module _ {T : Type 0} (order : T → T → Ordering) (slots : List (ItemSlot T)) where
  abbrev pub risen : ItemSlot T → Option T → (T → Bool) → Bool
  risen (Occupied x) before rest = cond (followed order before x) (rest x) false
  risen (Vacant next) before rest = false

  abbrev pub rising : Option T → List Index → Bool
  rising before [] = true
  rising before (e ∷ entries) = risen (seen slots e) before (λ x. rising (Some x) entries)

  -- the items come after the one before them
  abbrev pub Above : Option T → List T → Type 0
  Above None w = Unit {0}
  Above (Some x) w = Below order x w

  pub record Rises (before : Option T) (entries : List Index) : Type 0 where
    pub items : List T
    pub names : Names slots entries items
    pub ascending : Ascending order items
    pub above : Above before items

  risen_true : (slot : ItemSlot T) (before : Option T) (rest : T → Bool) → risen slot before rest ≡ true
      → (x : T) × ((slot ≡ Occupied x) × ((followed order before x ≡ true) × (rest x ≡ true)))
  risen_true (Occupied x) before rest e = (x, (refl, (grind arith, grind arith)))
  risen_true (Vacant next) before rest e = cc

greater_if : (o : Ordering) → is_gt o ≡ true → o ≡ Greater
greater_if Less e = cc
greater_if Equal e = cc
greater_if Greater e = refl

module _ {T : Type 0} {order : T → T → Ordering} (lawful : LawfulOrder order) (slots : List (ItemSlot T)) where
  below_from : (x y : T) (w : List T) → order x y ≡ Less → Below order y w → Below order x w
  below_from x y [] less below = tt
  below_from x y (z ∷ w) less below = (lawful.transitive x y z less below.0, below_from x y w less below.1)

  above_with : (before : Option T) (x : T) (w : List T) → followed order before x ≡ true → Below order x w → Above order slots before (x ∷ w)
  above_with None x w follows below = tt
  above_with (Some y) x w follows below =
      let less = greater_swaps lawful x y (greater_if (order x y) follows) in
      (less, below_from y x w less below)

  pub rises_if : (before : Option T) (entries : List Index) → rising order slots before entries ≡ true → Rises order slots before entries
  rises_if None [] e = record { items = []; names = refl; ascending = tt; above = tt }
  rises_if (Some x) [] e = record { items = []; names = refl; ascending = tt; above = tt }
  rises_if before (e ∷ entries) t =
      let r = risen_true order slots (seen slots e) before (λ x. rising order slots (Some x) entries) t in
      let x = r.0 in
      let rest = rises_if (Some x) entries r.1.1.1 in
      let here = r.1.0 in let later = rest.names in
      record {
        items = x ∷ rest.items;
        names = (cc);
        ascending = (rest.above, rest.ascending);
        above = above_with before x rest.items r.1.1.0 rest.above;
      }

  followed_if : (before : Option T) (x : T) (w : List T) → Above order slots before (x ∷ w) → followed order before x ≡ true
  followed_if None x w above = refl
  followed_if (Some y) x w above = ap is_gt (less_swaps lawful y x above.0)

  pub rising_if : (before : Option T) (entries : List Index) (w : List T) → Names slots entries w → Ascending order w → Above order slots before w → rising order slots before entries ≡ true
  rising_if before [] w named ascending above = refl
  rising_if before (e ∷ entries) [] named ascending above = cc
  rising_if before (e ∷ entries) (x ∷ w) named ascending above =
      let here : seen slots e ≡ Occupied x = cc in let names : Names slots entries w = cc in
      let follows = followed_if before x w above in let rest = rising_if (Some x) entries w names ascending.1 ascending.0 in grind arith

  -- entries are rising just where they name ascending items
  pub ascending_if : (entries : List Index) → rising order slots None entries ≡ true → Named slots entries × Ascending order (walk slots entries)
  ascending_if entries up =
      let rises = rises_if None entries up in
      (named_if_names slots entries rises.items rises.names, subst (Ascending order) (sym (names_walk slots entries rises.items rises.names)) rises.ascending)

  pub rising_if_ascending : (entries : List Index) → Named slots entries → Ascending order (walk slots entries) → rising order slots None entries ≡ true
  rising_if_ascending entries named ascending = rising_if None entries (walk slots entries) named ascending tt
