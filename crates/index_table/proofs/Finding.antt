-- The place of a key among ascending items, and the slot that holds it.
use Rattle.std.proofs.Common.{◌≡◌, ℕ, zero, suc, ◌<◌, ◌≤◌, List, [], ◌∷◌, map, length, get_or, Some, None, Ok, Err, Option, Result, MatchOption, MatchResult, Ordering, Less, Equal, Greater, sym, refl, ap, ◌∙◌, subst, arith}
use Rattle.std.specs.Result.{result_ok}
use Rattle.id_ord_item.specs.Order.{LawfulOrder}
use Rattle.id_ord_item.proofs.Order.{less_swaps, greater_swaps}
use Rattle.item_set.specs.declared.index.ItemIndex.{ItemIndex}
use Rattle.item_set.specs.declared.slot.ItemSlot.{ItemSlot}
use Rattle.item_set.specs.declared.slot.ItemSlot.TheVariants.{Occupied}
use Rattle.index_table.specs.Search.{Falling, Past, Sought, answers_of, answer_at}
use Rattle.index_table.specs.Walk.{seen, walk, Named, Below, Ascending, counting, smaller, if_equal, if_holds, slot_of}
use Rattle.index_table.specs.declared.entry.Index.{Index}
use Rattle.index_table.proofs.Walking.{Names, names_length, answers_named}

-- which of the three answers it is
pub data Answer (o : Ordering) : Type 0 where
  is_less : o ≡ Less → Answer o
  is_equal : o ≡ Equal → Answer o
  is_greater : o ≡ Greater → Answer o

pub answer : (o : Ordering) → Answer o
answer Less = is_less refl
answer Equal = is_equal refl
answer Greater = is_greater refl

module _ {T : Type 0} {order : T → T → Ordering} (lawful : LawfulOrder order) (x : T) where
  -- what x is not Less than, it is Greater than all before
  before : (y z : T) → order y z ≡ Less → (order x z ≡ Less → ⊥) → order x y ≡ Greater
  before y z less not =
      let alike = lawful.alike x z y in let onward = lawful.transitive y z x less in let swaps = less_swaps lawful in let swaps_back = greater_swaps lawful x z in grind arith

  before_all : (y : T) (ys : List T) (j : ℕ) → Below order y ys → j < length ys → (get_or (map (order x) ys) j Less ≡ Less → ⊥) → order x y ≡ Greater
  before_all y [] j below inside not = absurd (omega arith)
  before_all y (z ∷ ys) zero below inside not = before y z below.0 not
  before_all y (z ∷ ys) (suc j) below inside not = before_all y ys j below.1 (omega arith) not

  pub falling : (w : List T) → Ascending order w → Falling (λ n. get_or (map (order x) w) n Less) (length w)
  falling [] ascending i j lt inside not = absurd (omega arith)
  falling (y ∷ w) ascending i zero lt inside not = absurd (omega arith)
  falling (y ∷ w) ascending zero (suc j) lt inside not = before_all y w j ascending.0 (omega arith) not
  falling (y ∷ w) ascending (suc i) (suc j) lt inside not = falling w ascending.1 i j (omega arith) (omega arith) not

  -- after an item that x is not Greater than, none is smaller than x
  none_smaller : (y : T) (ys : List T) → Below order y ys → (order x y ≡ Greater → ⊥) → smaller order x ys ≡ 0
  none_smaller y [] below not = refl
  none_smaller y (z ∷ ys) below not =
      let rest = none_smaller y ys below.1 not in let onward = lawful.transitive y z x below.0 in let swaps = less_swaps lawful y x in grind arith

  not_less : (y : T) → (order x y ≡ Greater → ⊥) → (n : ℕ) → counting order (order y x) n ≡ n
  not_less y not n = let swaps = less_swaps lawful y x in grind arith

  pub smaller_is : (w : List T) (p : ℕ) → Ascending order w → p ≤ length w → Past (λ n. get_or (map (order x) w) n Less) p
      → (p < length w → get_or (map (order x) w) p Less ≡ Greater → ⊥) → smaller order x w ≡ p
  smaller_is [] zero ascending le past here = refl
  smaller_is [] (suc p) ascending le past here = absurd (omega arith)
  smaller_is (y ∷ w) zero ascending le past here =
      let not = here (omega arith) in let none = none_smaller y w ascending.0 not in let same = not_less y not (smaller order x w) in grind arith
  smaller_is (y ∷ w) (suc p) ascending le past here =
      let less = greater_swaps lawful x y (past 0 (omega arith)) in
      let rest = smaller_is w p ascending.1 (omega arith) (λ i h. past (suc i) (omega arith)) (λ h e. here (omega arith) e) in grind arith

  module _ (slots : List (ItemSlot T)) where
    pub hold : (e : Index) (y : T) (o : Ordering) (later : Option ItemIndex) → seen slots e ≡ Occupied y → order x y ≡ o
        → if_holds order x (seen slots e) e.0 later ≡ if_equal order o e.0 later
    hold e y o later here is =
        ap (λ (s : ItemSlot T). if_holds order x s e.0 later) here ∙ ap (λ (a : Ordering). if_equal order a e.0 later) is

    pub slot_found : (entries : List Index) (w : List T) (p : ℕ) (d : Index) → Names slots entries w → p < length entries → Past (λ n. get_or (map (order x) w) n Less) p
        → get_or (map (order x) w) p Less ≡ Equal → slot_of order x slots entries ≡ Some (get_or entries p d).0
    slot_found [] w p d named inside past here = absurd (omega arith)
    slot_found (e ∷ entries) [] p d named inside past here = cc
    slot_found (e ∷ entries) (y ∷ w) zero d named inside past here = let holds : seen slots e ≡ Occupied y = cc in grind arith
    slot_found (e ∷ entries) (y ∷ w) (suc p) d named inside past here =
        let holds : seen slots e ≡ Occupied y = cc in let rest : Names slots entries w = cc in let passed = past 0 (omega arith) in
        let later = slot_found entries w p d rest (omega arith) (λ i h. past (suc i) (omega arith)) here in grind arith

    -- after an item that x is Less than, none is Equal to x
    none_equal : (y : T) (entries : List Index) (w : List T) → Names slots entries w → Below order y w → order x y ≡ Less → slot_of order x slots entries ≡ None
    none_equal y [] w named below less = refl
    none_equal y (e ∷ entries) [] named below less = cc
    none_equal y (e ∷ entries) (z ∷ w) named below less =
        let holds : seen slots e ≡ Occupied z = cc in let names : Names slots entries w = cc in
        let far = lawful.transitive x y z less below.0 in let rest = none_equal y entries w names below.1 less in grind arith

    pub slot_missing : (entries : List Index) (w : List T) (p : ℕ) → Names slots entries w → Ascending order w → p ≤ length w → Past (λ n. get_or (map (order x) w) n Less) p
        → (p < length w → get_or (map (order x) w) p Less ≡ Less) → slot_of order x slots entries ≡ None
    slot_missing [] w p named ascending le past here = refl
    slot_missing (e ∷ entries) [] p named ascending le past here = cc
    slot_missing (e ∷ entries) (y ∷ w) zero named ascending le past here =
        let holds : seen slots e ≡ Occupied y = cc in let names : Names slots entries w = cc in
        let less = here (omega arith) in let rest = none_equal y entries w names ascending.0 less in grind arith
    slot_missing (e ∷ entries) (y ∷ w) (suc p) named ascending le past here =
        let holds : seen slots e ≡ Occupied y = cc in let names : Names slots entries w = cc in let passed = past 0 (omega arith) in
        let rest = slot_missing entries w p names ascending.1 (omega arith) (λ i h. past (suc i) (omega arith)) (λ h. here (omega arith)) in grind arith

-- what the search of a table finds
module _ {T : Type 0} {order : T → T → Ordering} (lawful : LawfulOrder order) (x : T) (slots : List (ItemSlot T)) (entries : List Index)
    (named : Named slots entries) (ascending : Ascending order (walk slots entries)) where
  long : length (walk slots entries) ≡ length entries
  long = names_length slots entries (walk slots entries) named

  answers : answers_of (order x) slots entries ≡ map (order x) (walk slots entries)
  answers = answers_named slots (order x) entries (walk slots entries) named

  pub falls : Falling (answer_at (order x) slots entries) (length entries)
  falls =
      let P : List Ordering → Type 0 = λ os. Falling (λ n. get_or os n Less) (length entries) in
      let l = long in
      subst P (sym answers) (λ i j lt inside not. falling lawful x (walk slots entries) ascending i j lt (omega arith) not)

  as_items : (r : Result ℕ ℕ) → Sought (answer_at (order x) slots entries) (length entries) r → Sought (λ n. get_or (map (order x) (walk slots entries)) n Less) (length entries) r
  as_items r s = let P : List Ordering → Type 0 = λ os. Sought (λ n. get_or os n Less) (length entries) r in subst P answers s

  pub slot_is : (r : Result ℕ ℕ) (found : Option ℕ) (slot : Option ItemIndex) (d : Index) → Sought (answer_at (order x) slots entries) (length entries) r
      → found ≡ result_ok r → MatchOption found (slot ≡ None) (λ p. slot ≡ Some (get_or entries p d).0) → slot ≡ slot_of order x slots entries
  slot_is (Ok p) None slot d s same is = cc
  slot_is (Ok p) (Some q) slot d s same is =
      let t = as_items (Ok p) s in let here : q ≡ p = cc in
      is ∙ ap (λ (n : ℕ). Some (get_or entries n d).0) here ∙ sym (slot_found lawful x slots entries (walk slots entries) p d named t.0 t.1 t.2)
  slot_is (Err p) (Some q) slot d s same is = cc
  slot_is (Err p) None slot d s same is =
      let t = as_items (Err p) s in let l = long in
      is ∙ sym (slot_missing lawful x slots entries (walk slots entries) p named ascending (omega arith) t.1 (λ h. t.2 (omega arith)))

  pub place_is : (r : Result ℕ ℕ) (p : ℕ) → Sought (answer_at (order x) slots entries) (length entries) r
      → MatchResult r (λ q. p ≡ q) (λ q. p ≡ q) → p ≡ smaller order x (walk slots entries)
  place_is (Ok q) p s is =
      let t = as_items (Ok q) s in let l = long in
      is ∙ sym (smaller_is lawful x (walk slots entries) q ascending (omega arith) t.1 (λ h e. let f = t.2 in cc))
  place_is (Err q) p s is =
      let t = as_items (Err q) s in let l = long in
      is ∙ sym (smaller_is lawful x (walk slots entries) q ascending (omega arith) t.1 (λ h e. let f = t.2 (omega arith) in cc))
