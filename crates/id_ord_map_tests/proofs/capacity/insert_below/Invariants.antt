-- The map stays sound.
use Rattle.id_ord_law.specs.Parts.{Sound}
use Rattle.id_ord_map.specs.View.{view}
use Rattle.panel_items.specs.Sailing.{by_code}
use Rattle.id_ord_map_tests.proofs.capacity.insert_below.Given as goal

abbrev pub invariant-loop-code : goal.invariant-loop-code
invariant-loop-code l = Sound by_code (view l.map)
