-- How stays compare.
--     by_berth_then_from x y    how two stays compare by key: by berth, and where that is Equal by the minute they begin
--     same_stay x y             whether two stays agree in every field
use Rattle.std.specs.Prelude.{Bool, ◌&&◌, [], ◌∷◌, ◌==◌}
use Rattle.std.specs.declared.cmp.Ordering.{Ordering}
use Rattle.id_ord_item.specs.Lexicographic.{lexicographic}
use Rattle.panel_items.specs.declared.stay.Stay.{Stay}

abbrev pub by_berth_then_from : Stay → Stay → Ordering
by_berth_then_from = lexicographic (λ stay. stay.berth) ((λ stay. stay.from) ∷ [])

abbrev pub same_stay : Stay → Stay → Bool
same_stay x y = x.berth == y.berth && x.from == y.from && x.to == y.to && x.vessel == y.vessel
