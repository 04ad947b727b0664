-- What makes an order of items by key lawful, as Rust's page on `Ord` has it.
--     LawfulOrder order      order is lawful
use Rattle.std.specs.Prelude.{◌≡◌}
use Rattle.std.specs.declared.cmp.Ordering.TheVariants.{Less, Equal}
use Rattle.std.specs.declared.cmp.Ordering.{Ordering}
use Rattle.std.specs.Ordering.{ordering_reverse}

pub record LawfulOrder {T : Type 0} (order : T → T → Ordering) : Type 0 where
  -- every item is Equal to itself
  pub reflexive : (x : T) → order x x ≡ Equal
  -- swapping the two reverses the answer
  pub dual : (x y : T) → order y x ≡ ordering_reverse (order x y)
  -- Less is transitive
  pub transitive : (x y z : T) → order x y ≡ Less → order y z ≡ Less → order x z ≡ Less
  -- Equal items compare alike with every third
  pub alike : (x y z : T) → order x y ≡ Equal → order x z ≡ order y z
