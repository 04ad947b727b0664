-- What the rule on a zone's buoys answers.
--     in_zone rule buoy    keep a buoy of the rule's zone, and remove any other
--     painted rule buoy    a buoy of the rule's zone in the rule's colour, and any other unchanged
use Rattle.std.specs.Prelude.{cond, ◌==◌}
use Rattle.id_ord_item.specs.declared.rule.Verdict.{Verdict}
use Rattle.id_ord_item.specs.declared.rule.Verdict.TheVariants.{Keep, Remove}
use Rattle.panel_items_tests.specs.declared.buoy.Buoy.{Buoy}
use Rattle.panel_items_tests.specs.declared.keep_zone.KeepZone.{KeepZone}

abbrev pub in_zone : KeepZone → Buoy → Verdict
in_zone rule buoy = cond (buoy.zone == rule.zone) Keep Remove

abbrev pub painted : KeepZone → Buoy → Buoy
painted rule buoy = cond (buoy.zone == rule.zone) (record { zone = buoy.zone; number = buoy.number; light = buoy.light; colour = rule.colour }) buoy
