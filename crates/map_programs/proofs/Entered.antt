-- An entry holds what was found, and what was found can be taken out by it.
use Rattle.std.proofs.Common.{◌≡◌, Some, None, Option, Ordering}
use Rattle.id_ord_item.specs.Order.{LawfulOrder}
use Rattle.id_ord_law.specs.Parts.{Parts, walk, Sound}
use Rattle.id_ord_law.specs.Standing.{found, given}
use Rattle.id_ord_law.specs.Standing.Answer.{none, gave}
use Rattle.id_ord_law.specs.Standing.Call.{occupied_remove}
use Rattle.id_ord_law.specs.Step.{Answered, step}
use Rattle.id_ord_law.proofs.Keys.{found_among, found_one}

module _ {T : Type 0} where
  pub holds_found : (o : Option T) (a : T) → ◌≡◌ {A = Answered T} (gave a) (given o none) → o ≡ Some a
  holds_found None a e = cc
  holds_found (Some y) a e = cc

pub gives_found : {T : Type 0} {order : T → T → Ordering} → LawfulOrder order → (p : Parts T) → Sound order p → (k a : T)
    → ◌≡◌ {A = Answered T} (gave a) (given (found order k (walk p)) none) → (step order (occupied_remove a) p).0 ≡ gave a
gives_found {order = order} lawful p s k a e =
    let there = found_among order k (walk p) a (holds_found (found order k (walk p)) a e) in
    rw (found_one order lawful a (walk p) a s.ascending there.0 (lawful.reflexive a))
