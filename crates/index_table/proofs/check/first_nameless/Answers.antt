use Rattle.std.proofs.Common.{◌≡◌, true, false, not, rules, tests}
use Rattle.std.proofs.lemmas.Iterator.{IsFirst-from_position, YieldsList-from_slice}
use Rattle.item_set.specs.Slots.{index_of}
use Rattle.index_table.specs.Check.{is_item}
use Rattle.index_table.specs.Entry.{entry_of}
use Rattle.index_table.specs.Walk.{seen}
use Rattle.index_table.specs.declared.entry.Index.{Index}
use Rattle.index_table.proofs.Checking.{item_held}
use Rattle.index_table.proofs.Places.{first_of}
use Rattle.index_table.proofs.check.first_nameless.Goals as goal

pub returns : goal.returns
returns g c =
    let es = c.args.entries.now in let nameless = λ (e : Index). not (is_item (seen c.args.slots.now e)) in
    first_of nameless (entry_of (index_of 0)) es _
    (IsFirst-from_position _ _ _ (λ e. nameless e ≡ true) (λ e. nameless e ≡ false) c.position.ensures.ran (YieldsList-from_slice es cc)
    (λ x q k. search (rules, tests, item_held)) (λ x q k. search (rules, tests, item_held)))
