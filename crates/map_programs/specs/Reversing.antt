-- Items in the reverse order of their keys.
--     bare x                 the item itself
--     reversed order         the order of such items; by reversed_lawful it is lawful if theirs is
--     same_reversed equal    whether two of them agree in every field; by reversed_faithful it is faithful if theirs is
use Rattle.std.specs.Prelude.{Bool}
use Rattle.std.specs.declared.cmp.Ordering.{Ordering}
use Rattle.std.proofs.Common.{ap, sym}
use Rattle.id_ord_item.proofs.Order.{alike_right}
use Rattle.id_ord_item.specs.Order.{LawfulOrder}
use Rattle.id_ord_item.specs.Same.{Faithful}
use Rattle.map_programs.specs.declared.reversed.Reversed.{Reversed}

module _ {T : Type 0} where
  abbrev pub bare : Reversed T → T
  bare x = x.item

  abbrev pub reversed : (T → T → Ordering) → Reversed T → Reversed T → Ordering
  reversed order x y = order (bare y) (bare x)

  pub reversed_lawful : {order : T → T → Ordering} → LawfulOrder order → LawfulOrder (reversed order)
  reversed_lawful l = record {
    reflexive = λ x. l.reflexive (bare x);
    dual = λ x y. l.dual (bare y) (bare x);
    transitive = λ x y z a b. l.transitive (bare z) (bare y) (bare x) b a;
    alike = λ x y z a. sym (alike_right l (bare z) (bare y) (bare x) a);
  }

  abbrev pub same_reversed : (T → T → Bool) → Reversed T → Reversed T → Bool
  same_reversed equal x y = equal (bare x) (bare y)

  pub reversed_faithful : {equal : T → T → Bool} → Faithful equal → Faithful (same_reversed equal)
  reversed_faithful l = record {
    agree_if_yes = λ x y e. ap (λ (item : T). record { item = item }) (l.agree_if_yes (bare x) (bare y) e);
    yes_if_agree = λ x y e. l.yes_if_agree (bare x) (bare y) (ap bare e);
  }
