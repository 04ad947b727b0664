-- Orders by the parts of a key are lawful: that of one number is, and one lawful order after another is.
use Rattle.std.proofs.Common.{ℕ, List, [], ◌∷◌, Ordering}
use Rattle.std.specs.Cmp.{IsTotalOrder, nat_cmp_total, on_total, then_total, tied_itself}
use Rattle.std.specs.Ordering.{ordering_then}
use Rattle.id_ord_item.specs.Order.{LawfulOrder}
use Rattle.id_ord_item.specs.Lexicographic.{lexicographic}
use Rattle.id_ord_item.proofs.Order.{total_order}

lawful_from_total : {T : Type 0} {order : T → T → Ordering} → IsTotalOrder order → LawfulOrder order
lawful_from_total total = record {
  reflexive = tied_itself total;
  dual = λ x y. total.antisymm y x;
  transitive = total.trans;
  alike = total.congr;
}

-- one order, and where it answers Equal another
module _ {T : Type 0} (order next : T → T → Ordering) (first : LawfulOrder order) (second : LawfulOrder next) where
  pub then_lawful : LawfulOrder (λ (x y : T). ordering_then (order x y) (next x y))
  then_lawful = lawful_from_total (then_total (total_order first) (total_order second))

lexicographic_total : {T : Type 0} (part : T → ℕ) (parts : List (T → ℕ)) → IsTotalOrder (lexicographic part parts)
lexicographic_total part [] = on_total part nat_cmp_total
lexicographic_total part (next ∷ parts) = then_total (on_total part nat_cmp_total) (lexicographic_total next parts)

pub lexicographic_lawful : {T : Type 0} (part : T → ℕ) (parts : List (T → ℕ)) → LawfulOrder (lexicographic part parts)
lexicographic_lawful part parts = lawful_from_total (lexicographic_total part parts)
