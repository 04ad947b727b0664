-- The number of each refusal of a compaction and of a remap.
--     compact_number refusal, remap_number refusal
use Rattle.std.specs.Prelude.{ℕ}
use Rattle.item_set.specs.declared.compaction.CompactRefusal.{CompactRefusal}
use Rattle.item_set.specs.declared.compaction.CompactRefusal.TheVariants.{Short}
use Rattle.item_set.specs.declared.remap.RemapRefusal.{RemapRefusal}
use Rattle.item_set.specs.declared.remap.RemapRefusal.TheVariants.{Gone, Range}

abbrev pub compact_number : CompactRefusal → ℕ
compact_number Short = 6

abbrev pub remap_number : RemapRefusal → ℕ
remap_number Gone = 7
remap_number Range = 8
