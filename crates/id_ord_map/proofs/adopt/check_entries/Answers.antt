use Rattle.std.proofs.Common.{sym, ap, ◌∙◌}
use Rattle.std.specs.Option.{option_map}
use Rattle.item_set.specs.Chain.{unless}
use Rattle.index_table.proofs.Passing.{no_table_fault, none_unordered}
use Rattle.index_table.specs.Check.{table_fault}
use Rattle.id_ord_errors.specs.declared.validation.ValidationError.TheVariants.{Table, Order}
use Rattle.id_ord_map.proofs.Adopting.{onward}
use Rattle.id_ord_map.proofs.adopt.check_entries.Goals as goal

pub returns-then-ascends : goal.returns-then-ascends
returns-then-ascends g c =
    let slots = c.args.slots.now in let es = c.args.entries.now in let lawful = g.met.T.IdOrdItem.lawful in
    let both = c.ascends.ensures.yes c.if-ascends.true in
    let named = ap (table_fault slots es) (sym c.if-entries-len.true) ∙ no_table_fault lawful slots es both.0 both.1 in
    ap unless (sym (onward Table _ _ named ∙ ap (option_map Order) (none_unordered lawful slots es both.0 both.1)))
