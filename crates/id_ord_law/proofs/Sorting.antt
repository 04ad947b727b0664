-- The items in key order.
use Rattle.std.proofs.Common.{◌≡◌, suc, false, cond, not, ◌⊎◌, List, [], ◌∷◌, length, None, Ordering, Less, Equal, sym, refl, ap, ◌∙◌, subst, ap₂, inl, inr, ⊎_elim}
use mathlib.Core.List.Memᴰ.{cases_cons as either}
use mathlib.Core.List.Memᴰ.{head as here}
use mathlib.Core.List.Memᴰ.{not-nil as nowhere}
use mathlib.Core.List.Memᴰ.{tail as there}
use mathlib.Core.List.{Memᴰ as Among}
use Rattle.std.proofs.lemmas.Bool.{cond-true, cond-false, both_ways}
use Rattle.std.specs.Ordering.{is_eq, is_lt}
use Rattle.id_ord_item.specs.Order.{LawfulOrder}
use Rattle.id_ord_item.proofs.Order.{less_swaps, greater_swaps}
use Rattle.index_table.proofs.Finding.{answer}
use Rattle.index_table.proofs.Finding.Answer.{is_less, is_equal, is_greater}
use Rattle.index_table.specs.Walk.{Below, Ascending}
use Rattle.id_ord_law.specs.Standing.{found, without, placed_in, in_order}
use Rattle.id_ord_law.proofs.Keys.{equal_or, less_or, found_here, found_later, without_here, without_later, below_has, below_without, below_less}

module _ {T : Type 0} (order : T → T → Ordering) where
  pub placed_later : (x y : T) (w : List T) → order y x ≡ Less → placed_in order x (y ∷ w) ≡ y ∷ placed_in order x w
  placed_later x y w e = cond-true _ _ _ (ap is_lt e)

  pub placed_here : (x y : T) (w : List T) → is_lt (order y x) ≡ false → placed_in order x (y ∷ w) ≡ x ∷ (y ∷ w)
  placed_here x y w f = cond-false _ _ _ f

  length_placed : (x : T) (w : List T) → length (placed_in order x w) ≡ suc (length w)
  length_placed x [] = refl
  length_placed x (y ∷ w) = elim (less_or (order y x)) [
    | inl e ↦ ap length (placed_later x y w e) ∙ ap suc (length_placed x w)
    | inr f ↦ ap length (placed_here x y w f)
  ]

  pub length_in_order : (items : List T) → length (in_order order items) ≡ length items
  length_in_order [] = refl
  length_in_order (x ∷ items) = length_placed x (in_order order items) ∙ ap suc (length_in_order items)

  -- members
  placed_among : (z x : T) (w : List T) → Among z (placed_in order x w) → (z ≡ x) ⊎ Among z w
  placed_among z x [] m = either m
  placed_among z x (y ∷ w) m = elim (less_or (order y x)) [
    | inl e ↦ elim (either (subst (Among z) (placed_later x y w e) m)) [
      | inl s ↦ inr (here s)
      | inr r ↦ ⊎_elim inl (λ l. inr (there l)) (placed_among z x w r)
    ]
    | inr f ↦ either (subst (Among z) (placed_here x y w f) m)
  ]

  among_placed : (z x : T) (w : List T) → (z ≡ x) ⊎ Among z w → Among z (placed_in order x w)
  among_placed z x [] m = ⊎_elim here there m
  among_placed z x (y ∷ w) m = elim (less_or (order y x)) [
    | inl e ↦ subst (Among z) (sym (placed_later x y w e)) (elim m [
      | inl s ↦ there (among_placed z x w (inl s))
      | inr r ↦ elim (either r) [ inl s ↦ here s | inr l ↦ there (among_placed z x w (inr l)) ]
    ])
    | inr f ↦ subst (Among z) (sym (placed_here x y w f)) (⊎_elim here there m)
  ]

  pub in_order_among : (z : T) (items : List T) → Among z (in_order order items) → Among z items
  in_order_among z [] m = m
  in_order_among z (x ∷ items) m = ⊎_elim here (λ r. there (in_order_among z items r)) (placed_among z x (in_order order items) m)

  pub among_in_order : (z : T) (items : List T) → Among z items → Among z (in_order order items)
  among_in_order z [] m = m
  among_in_order z (x ∷ items) m = among_placed z x (in_order order items) (⊎_elim inl (λ r. inr (among_in_order z items r)) (either m))

  -- what lies below a list with an item placed in it
  below_placed_out : (z x : T) (w : List T) → Below order z (placed_in order x w) → Below order z w
  below_placed_out z x [] below = tt
  below_placed_out z x (y ∷ w) below = elim (less_or (order y x)) [
    | inl e ↦ let b = subst (Below order z) (placed_later x y w e) below in (b.0, below_placed_out z x w b.1)
    | inr f ↦ let b = subst (Below order z) (placed_here x y w f) below in b.1
  ]

  ascending_placed_out : (x : T) (w : List T) → Ascending order (placed_in order x w) → Ascending order w
  ascending_placed_out x [] up = tt
  ascending_placed_out x (y ∷ w) up = elim (less_or (order y x)) [
    | inl e ↦ let u = subst (Ascending order) (placed_later x y w e) up in (below_placed_out y x w u.0, ascending_placed_out x w u.1)
    | inr f ↦ let u = subst (Ascending order) (placed_here x y w f) up in u.1
  ]

  below_placed : (z x : T) (w : List T) → order z x ≡ Less → Below order z w → Below order z (placed_in order x w)
  below_placed z x [] less below = (less, tt)
  below_placed z x (y ∷ w) less below = elim (less_or (order y x)) [
    | inl e ↦ subst (Below order z) (sym (placed_later x y w e)) (below.0, below_placed z x w less below.1)
    | inr f ↦ subst (Below order z) (sym (placed_here x y w f)) (less, below)
  ]

  module _ (lawful : LawfulOrder order) where
    pub not_less : (x y : T) → order x y ≡ Less → is_lt (order y x) ≡ false
    not_less x y less = ap is_lt (less_swaps lawful x y less)

    pub placed_below : (x : T) (w : List T) → Below order x w → placed_in order x w ≡ x ∷ w
    placed_below x [] below = refl
    placed_below x (y ∷ w) below = placed_here x y w (not_less x y below.0)

    -- an item with a key that is not there goes before those that are Greater
    before : (x y : T) (w : List T) → found order x (y ∷ w) ≡ None → is_lt (order y x) ≡ false → order x y ≡ Less
    before x y w none f = elim (answer (order x y)) [
      | is_less e ↦ e
      | is_equal e ↦ let g = sym (found_here order x y w e) ∙ none in cc
      | is_greater e ↦ absurd (both_ways (is_lt (order y x)) f (ap is_lt (greater_swaps lawful x y e)))
    ]

    pub ascending_placed : (x : T) (w : List T) → found order x w ≡ None → Ascending order w → Ascending order (placed_in order x w)
    ascending_placed x [] none up = (tt, tt)
    ascending_placed x (y ∷ w) none up = elim (less_or (order y x)) [
      | inl e ↦
          let later : found order x w ≡ None = sym (found_later order x y w (ap is_eq (less_swaps lawful y x e))) ∙ none in
          subst (Ascending order) (sym (placed_later x y w e)) (below_placed y x w e up.0, ascending_placed x w later up.1)
      | inr f ↦
          let less = before x y w none f in
          subst (Ascending order) (sym (placed_here x y w f)) ((less, below_less order lawful x y w less up.0), up)
    ]

    pub in_order_ascending : (w : List T) → Ascending order w → in_order order w ≡ w
    in_order_ascending [] up = refl
    in_order_ascending (x ∷ w) up = ap (placed_in order x) (in_order_ascending w up.1) ∙ placed_below x w up.0

    -- taking out a key and putting in order
    without_placed_key : (k x : T) (w : List T) → order k x ≡ Equal → without order k (placed_in order x w) ≡ without order k w
    without_placed_key k x [] e = without_here order k x [] e
    without_placed_key k x (y ∷ w) e = elim (less_or (order y x)) [
      | inl l ↦ ap (without order k) (placed_later x y w l) ∙ ap (λ (v : List T). cond (not (is_eq (order k y))) (y ∷ v) v) (without_placed_key k x w e)
      | inr f ↦ ap (without order k) (placed_here x y w f) ∙ without_here order k x (y ∷ w) e
    ]

    without_placed_other : (k x : T) (w : List T) → is_eq (order k x) ≡ false → Ascending order (placed_in order x w) → without order k (placed_in order x w) ≡ placed_in order x (without order k w)
    without_placed_other k x [] n up = without_later order k x [] n
    without_placed_other k x (y ∷ w) n up = elim (less_or (order y x)) [
      | inl l ↦
          let rest = without_placed_other k x w n (subst (Ascending order) (placed_later x y w l) up).1 in
          ap (without order k) (placed_later x y w l) ∙ elim (equal_or (order k y)) [
            | inl e ↦ without_here order k y (placed_in order x w) e ∙ rest ∙ ap (placed_in order x) (sym (without_here order k y w e))
            | inr m ↦ without_later order k y (placed_in order x w) m ∙ ap (λ (v : List T). y ∷ v) rest
                ∙ sym (placed_later x y (without order k w) l) ∙ ap (placed_in order x) (sym (without_later order k y w m))
          ]
      | inr f ↦
          let below = (subst (Ascending order) (placed_here x y w f) up).0 in
          ap (without order k) (placed_here x y w f) ∙ without_later order k x (y ∷ w) n
          ∙ sym (placed_below x (without order k (y ∷ w)) (below_without order x k (y ∷ w) below))
    ]

    pub in_order_without : (k : T) (items : List T) → Ascending order (in_order order items) → in_order order (without order k items) ≡ without order k (in_order order items)
    in_order_without k [] up = refl
    in_order_without k (x ∷ items) up =
        let rest = in_order_without k items (ascending_placed_out x (in_order order items) up) in
        elim (equal_or (order k x)) [
          | inl e ↦ ap (in_order order) (without_here order k x items e) ∙ rest ∙ sym (without_placed_key k x (in_order order items) e)
          | inr n ↦ ap (in_order order) (without_later order k x items n) ∙ ap (placed_in order x) rest ∙ sym (without_placed_other k x (in_order order items) n up)
        ]

    -- the lesser of two items goes in first or last
    pub placed_swap : (x y : T) (w : List T) → order y x ≡ Less → placed_in order x (placed_in order y w) ≡ placed_in order y (placed_in order x w)
    placed_swap x y [] less = placed_later x y [] less ∙ sym (placed_here y x [] (not_less y x less))
    placed_swap x y (z ∷ w) less = elim (less_or (order z y)) [
      | inl l ↦
          let m = lawful.transitive z y x l less in
          ap (placed_in order x) (placed_later y z w l) ∙ placed_later x z (placed_in order y w) m
          ∙ ap (λ (v : List T). z ∷ v) (placed_swap x y w less)
          ∙ sym (placed_later y z (placed_in order x w) l) ∙ ap (placed_in order y) (sym (placed_later x z w m))
      | inr f ↦
          ap (placed_in order x) (placed_here y z w f) ∙ placed_later x y (z ∷ w) less
          ∙ elim (less_or (order z x)) [
            | inl m ↦ ap (λ (v : List T). y ∷ v) (placed_later x z w m) ∙ sym (placed_here y z (placed_in order x w) f) ∙ ap (placed_in order y) (sym (placed_later x z w m))
            | inr g ↦ ap (λ (v : List T). y ∷ v) (placed_here x z w g) ∙ sym (placed_here y x (z ∷ w) (not_less y x less)) ∙ ap (placed_in order y) (sym (placed_here x z w g))
          ]
    ]

    -- two ascending lists of the same items are one list
    pub never_both : (x y : T) → order x y ≡ Less → order y x ≡ Less → ⊥
    never_both x y p q = both_ways (is_lt (order y x)) (not_less x y p) (ap is_lt q)

    pub ascending_unique : (v w : List T) → Ascending order v → Ascending order w → ((x : T) → Among x v → Among x w) → ((x : T) → Among x w → Among x v) → v ≡ w
    ascending_unique [] [] a b into from = refl
    ascending_unique [] (y ∷ w) a b into from = absurd (nowhere (from y (here refl)))
    ascending_unique (x ∷ v) [] a b into from = absurd (nowhere (into x (here refl)))
    ascending_unique (x ∷ v) (y ∷ w) a b into from = ap₂ (λ (h : T) (t : List T). h ∷ t) heads (ascending_unique v w a.1 b.1 onward back)
      where
        heads : x ≡ y
        heads = elim (either (into x (here refl))) [
          | inl e ↦ e
          | inr r ↦ elim (either (from y (here refl))) [
            | inl e ↦ sym e
            | inr s ↦ absurd (never_both x y (below_has order x y v a.0 s) (below_has order y x w b.0 r))
          ]
        ]

        onward : (z : T) → Among z v → Among z w
        onward z m = elim (either (into z (there m))) [
          | inl e ↦ let l = ap (order x) (heads ∙ sym e) ∙ below_has order x z v a.0 m in absurd (never_both x x l l)
          | inr r ↦ r
        ]

        back : (z : T) → Among z w → Among z v
        back z m = elim (either (from z (there m))) [
          | inl e ↦ let l = ap (order y) (sym heads ∙ sym e) ∙ below_has order y z w b.0 m in absurd (never_both y y l l)
          | inr r ↦ r
        ]
