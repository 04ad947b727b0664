-- What follows from the laws of an order.
use Rattle.std.proofs.Common.{◌≡◌, Ordering, Less, Equal, Greater, ap, ◌∙◌}
use Rattle.std.specs.Cmp.{IsTotalOrder, alike_right as total_alike_right, tied_back}
use Rattle.std.specs.Ordering.{ordering_reverse}
use Rattle.id_ord_item.specs.Order.{LawfulOrder}

module _ {T : Type 0} {order : T → T → Ordering} (lawful : LawfulOrder order) where
  -- it is a total order as std has it
  pub total_order : IsTotalOrder order
  total_order = record { antisymm = λ x y. lawful.dual y x; trans = lawful.transitive; congr = lawful.alike }

  pub equal_swaps : (x y : T) → order x y ≡ Equal → order y x ≡ Equal
  equal_swaps = tied_back total_order

  pub less_swaps : (x y : T) → order x y ≡ Less → order y x ≡ Greater
  less_swaps x y e = lawful.dual x y ∙ ap ordering_reverse e

  pub greater_swaps : (x y : T) → order x y ≡ Greater → order y x ≡ Less
  greater_swaps x y e = lawful.dual x y ∙ ap ordering_reverse e

  -- every third compares alike with Equal items
  pub alike_right : (x y z : T) → order y z ≡ Equal → order x y ≡ order x z
  alike_right x y z = total_alike_right total_order y z x
