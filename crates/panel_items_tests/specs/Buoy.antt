-- How buoys compare.
--     by_zone_number_light x y    how two buoys compare by key: by zone, then by number, then by light
--     same_buoy x y               whether two buoys agree in every field
use Rattle.std.specs.Prelude.{Bool, ◌&&◌, [], ◌∷◌, ◌==◌}
use Rattle.std.specs.declared.cmp.Ordering.{Ordering}
use Rattle.id_ord_item.specs.Lexicographic.{lexicographic}
use Rattle.panel_items_tests.specs.declared.buoy.Buoy.{Buoy}

abbrev pub by_zone_number_light : Buoy → Buoy → Ordering
by_zone_number_light = lexicographic (λ buoy. buoy.zone) ((λ buoy. buoy.number) ∷ (λ buoy. buoy.light) ∷ [])

abbrev pub same_buoy : Buoy → Buoy → Bool
same_buoy x y = x.zone == y.zone && x.number == y.number && x.light == y.light && x.colour == y.colour
