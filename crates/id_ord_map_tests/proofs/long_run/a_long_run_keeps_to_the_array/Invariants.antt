-- The map stays sound.
use Rattle.id_ord_law.specs.Parts.{Sound}
use Rattle.id_ord_map.specs.View.{view}
use Rattle.panel_items.specs.Stay.{by_berth_then_from}
use Rattle.id_ord_map_tests.proofs.long_run.a_long_run_keeps_to_the_array.Given as goal

abbrev pub invariant-loop : goal.invariant-loop
invariant-loop g l = Sound by_berth_then_from (view l.run.map)
