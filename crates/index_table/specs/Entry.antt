-- Table entries.
--     entry_of i          the entry that names slot i
--     made i              what becomes of the making of an entry
--     refusal_number r    the number of a refusal
use Rattle.std.specs.Prelude.{ℕ, cond, Ok, Err, Result, ◌==◌}
use Rattle.item_set.specs.declared.index.ItemIndex.{ItemIndex}
use Rattle.index_table.specs.declared.entry.Index.{Index}
use Rattle.index_table.specs.declared.entry.IndexRefusal.{IndexRefusal}
use Rattle.index_table.specs.declared.entry.IndexRefusal.TheVariants.{Sentinel}

abbrev pub entry_of : ItemIndex → Index
entry_of i = record { 0 = i }

abbrev pub made : ItemIndex → Result Index IndexRefusal
made i = cond (i.0 == 4294967295) (Err Sentinel) (Ok (entry_of i))

abbrev pub refusal_number : IndexRefusal → ℕ
refusal_number Sentinel = 5
