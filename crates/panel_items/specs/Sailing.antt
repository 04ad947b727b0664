-- How sailings compare.
--     by_code x y          how two sailings compare by key: by code
--     same_sailing x y     whether two sailings agree in every field
use Rattle.std.specs.Prelude.{Bool, ◌&&◌, [], ◌==◌}
use Rattle.std.specs.declared.cmp.Ordering.{Ordering}
use Rattle.id_ord_item.specs.Lexicographic.{lexicographic}
use Rattle.panel_items.specs.declared.sailing.Sailing.{Sailing}

abbrev pub by_code : Sailing → Sailing → Ordering
by_code = lexicographic (λ sailing. sailing.code) []

abbrev pub same_sailing : Sailing → Sailing → Bool
same_sailing x y = x.code == y.code && x.berth == y.berth && x.due == y.due
