-- What the code for every kind answers.
--     NotAbove order item other      the other is not Greater than the item
--     Largest order items answer     none of an empty row, and otherwise an item of the row that no item of it is Greater than
--     unless_removed verdict item    the item where the verdict is to keep it
use Rattle.std.specs.Prelude.{◌≡◌, false, List, length, Some, None, Option}
use Rattle.std.specs.declared.cmp.Ordering.{Ordering}
use Rattle.std.specs.Ordering.{is_gt}
use Rattle.std.specs.List.{ContainsAt as Has, AllByRecursion}
use Rattle.id_ord_item.specs.declared.rule.Verdict.{Verdict}
use Rattle.id_ord_item.specs.declared.rule.Verdict.TheVariants.{Keep, Remove}

abbrev pub NotAbove : {T : Type 0} → (T → T → Ordering) → T → T → Type 0
NotAbove order item other = is_gt (order other item) ≡ false

abbrev pub Largest : {T : Type 0} → (T → T → Ordering) → List T → Option T → Type 0
Largest order items None = length items ≡ 0
Largest order items (Some item) = Has items item × AllByRecursion (NotAbove order item) items

abbrev pub unless_removed : {T : Type 0} → Verdict → T → Option T
unless_removed Keep item = Some item
unless_removed Remove item = None
