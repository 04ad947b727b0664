-- The query for a buoy by its key.
--     buoy_meant query     the buoy looked for: the query's zone, number and light, with colour 0
--     key_of buoy          the query for the key of a buoy
use Rattle.panel_items_tests.specs.declared.buoy.Buoy.{Buoy}
use Rattle.panel_items_tests.specs.declared.buoy_at.BuoyAt.{BuoyAt}

abbrev pub buoy_meant : BuoyAt → Buoy
buoy_meant query = record { zone = query.zone; number = query.number; light = query.light; colour = 0 }

abbrev pub key_of : Buoy → BuoyAt
key_of buoy = record { zone = buoy.zone; number = buoy.number; light = buoy.light }
