-- The number and the place of each fault of a slot store.
--     number_of fault, place_of fault
use Rattle.std.specs.Prelude.{ℕ}
use Rattle.item_set.specs.declared.fault.ItemSetFault.{ItemSetFault}
use Rattle.item_set.specs.declared.fault.ItemSetFault.TheVariants.{Count, ChainRange, ChainOccupied, ChainLong, ChainShort, NotCompact}

abbrev pub number_of : ItemSetFault → ℕ
number_of (Count occupied) = 11
number_of (ChainRange slot) = 12
number_of (ChainOccupied slot) = 13
number_of (ChainLong slot) = 14
number_of (ChainShort steps) = 15
number_of (NotCompact vacant) = 20

abbrev pub place_of : ItemSetFault → ℕ
place_of (Count occupied) = occupied
place_of (ChainRange slot) = slot.0
place_of (ChainOccupied slot) = slot.0
place_of (ChainLong slot) = slot.0
place_of (ChainShort steps) = steps
place_of (NotCompact vacant) = vacant
