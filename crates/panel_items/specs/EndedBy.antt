-- What the rule on ended stays answers.
--     unless_ended rule stay     remove a stay that ends at the rule's minute or before it, and keep any other
use Rattle.std.specs.Prelude.{cond, nat_le}
use Rattle.id_ord_item.specs.declared.rule.Verdict.{Verdict}
use Rattle.id_ord_item.specs.declared.rule.Verdict.TheVariants.{Keep, Remove}
use Rattle.panel_items.specs.declared.ended_by.EndedBy.{EndedBy}
use Rattle.panel_items.specs.declared.stay.Stay.{Stay}

abbrev pub unless_ended : EndedBy → Stay → Verdict
unless_ended rule stay = cond (nat_le stay.to rule.minute) Remove Keep
