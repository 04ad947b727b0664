-- Both boards are sound before every line.
use Rattle.id_ord_law.specs.Parts.{Sound}
use Rattle.id_ord_map.specs.View.{view}
use Rattle.panel_items.specs.Sailing.{by_code}
use Rattle.panel_items.specs.Stay.{by_berth_then_from}
use Rattle.map_panel.proofs.panel.Panel.obey_lines.Given as goal

abbrev pub invariant-loop-at : goal.invariant-loop-at
invariant-loop-at l = Sound by_berth_then_from (view l.self.stays.map) × Sound by_code (view l.self.sailings.map)
