-- The largest of the items passed so far, and the steps of a loop that looks for the largest of all.
use Rattle.std.proofs.Common.{◌≡◌, ℕ, ◌+◌, ◌<◌, true, false, List, length, get_or, take, Ordering, Less, Equal, Greater, sym, refl, ap, ◌∙◌, subst}
use Rattle.std.specs.Cmp.{upto}
use Rattle.std.specs.Ordering.{is_gt, ordering_reverse}
use Rattle.std.specs.List.{ContainsAt as Has, AllByRecursion}
use Rattle.std.proofs.ByRecursion.{All-more, All-weaker, has_get_or}
use Rattle.id_ord_item.specs.Order.{LawfulOrder}
use Rattle.id_ord_item.proofs.Order.{total_order}
use Rattle.panel_items_tests.specs.EveryKind.{NotAbove}

-- best is one of the items, and none of the first n is Greater
abbrev pub Top : {T : Type 0} → (T → T → Ordering) → List T → ℕ → T → Type 0
Top order items n best = Has items best × AllByRecursion (NotAbove order best) (take n items)

not_below : (o : Ordering) → is_gt o ≡ true → is_gt (ordering_reverse o) ≡ false
not_below Less h = cc
not_below Equal h = refl
not_below Greater h = refl

module _ {T : Type 0} {order : T → T → Ordering} (lawful : LawfulOrder order) where
  -- what is not Greater than the best is not Greater than an item above the best
  not_above_next : (best item other : T) → is_gt (order item best) ≡ true → NotAbove order best other → NotAbove order item other
  not_above_next best item other above under =
      upto (total_order lawful) other best item under (ap is_gt (lawful.dual item best) ∙ not_below (order item best) above)

  module _ (items : List T) (i : ℕ) (best item : T) (within : i < length items) (read : item ≡ get_or items i item) (top : Top order items i best) where
    pub top_stays : NotAbove order best item → Top order items (i + 1) best
    top_stays under = (top.0, All-more (NotAbove order best) items i item within top.1 (subst (NotAbove order best) read under))

    pub top_moves : is_gt (order item best) ≡ true → Top order items (i + 1) item
    top_moves above =
        let stands = subst (Has items) (sym read) (has_get_or items i item within) in
        let itself : NotAbove order item item = ap is_gt (lawful.reflexive item) in
        let passed = All-weaker (NotAbove order best) (NotAbove order item) (λ other. not_above_next best item other above) (take i items) top.1 in
        (stands, All-more (NotAbove order item) items i item within passed (subst (NotAbove order item) read itself))
