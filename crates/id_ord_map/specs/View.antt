-- A map as its parts.
--     view m             the memory that a map is lent, as it stands now, and its numbers
--     SameMemory m n     the two maps are lent the same memory
use Rattle.std.specs.Prelude.{◌≡◌}
use Rattle.id_ord_law.specs.Parts.{Parts, parts}
use Rattle.id_ord_map.specs.declared.map.IdOrdMap.{IdOrdMap}

module _ {T : Type 0} where
  abbrev pub view : IdOrdMap T → Parts T
  view m = parts m.slots.now m.table.now m.items

  abbrev pub SameMemory : IdOrdMap T → IdOrdMap T → Type 0
  SameMemory m n = (n.slots.ghost_name ≡ m.slots.ghost_name) × (n.table.ghost_name ≡ m.table.ghost_name)
