-- The number, the layer and the place of each fault of a map's parts.
--     number_of fault, layer_of fault, place_of fault
use Rattle.std.specs.Prelude.{ℕ}
use Rattle.item_set.specs.Fault.{number_of as items_number, place_of as items_place}
use Rattle.index_table.specs.Check.{number_of as table_number, place_of as table_place}
use Rattle.id_ord_errors.specs.declared.validation.Layer.{Layer}
use Rattle.id_ord_errors.specs.declared.validation.Layer.TheVariants as layer
use Rattle.id_ord_errors.specs.declared.validation.ValidationError.{ValidationError}
use Rattle.id_ord_errors.specs.declared.validation.ValidationError.TheVariants.{Size, Items, Table, Order}

abbrev pub number_of : ValidationError → ℕ
number_of (Size place) = 10
number_of (Items fault) = items_number fault
number_of (Table fault) = table_number fault
number_of (Order place) = 19

abbrev pub layer_of : ValidationError → Layer
layer_of (Size place) = layer.Map
layer_of (Items fault) = layer.Items
layer_of (Table fault) = layer.Table
layer_of (Order place) = layer.Map

abbrev pub place_of : ValidationError → ℕ
place_of (Size place) = place
place_of (Items fault) = items_place fault
place_of (Table fault) = table_place fault
place_of (Order place) = place
