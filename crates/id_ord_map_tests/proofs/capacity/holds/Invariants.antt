-- The map stays sound.
use Rattle.id_ord_law.specs.Parts.{Sound}
use Rattle.id_ord_map.specs.View.{view}
use Rattle.panel_items.specs.Stay.{by_berth_then_from}
use Rattle.id_ord_map_tests.proofs.capacity.holds.Given as goal

abbrev pub invariant-loop-from : goal.invariant-loop-from
invariant-loop-from g l = Sound by_berth_then_from (view l.map)
