-- The table after a place was opened or closed, or its entries rewritten.
--     opened table len place e             the first len entries with e at a place, those from it on one higher
--     closed table len place               the first len entries without a place, those after it one lower
--     renumbered remap scratch e           the entry with its slot's new number, where it has one
--     rewritten table len remap scratch    the first len entries, each with its slot's new number
use Rattle.std.specs.Prelude.{ℕ, ◌+◌, ◌-◌, cond, ◌&&◌, List, ◌++◌, map, length, take, drop, Ok, Err, Result, nat_le, nat_lt}
use Rattle.std.specs.List.{insert, remove}
use Rattle.item_set.specs.Compact.{remapped}
use Rattle.item_set.specs.declared.index.ItemIndex.{ItemIndex}
use Rattle.item_set.specs.declared.remap.IndexRemap.{IndexRemap}
use Rattle.item_set.specs.declared.remap.RemapRefusal.{RemapRefusal}
use Rattle.index_table.specs.Entry.{entry_of}
use Rattle.index_table.specs.declared.entry.Index.{Index}

abbrev pub opened : List Index → ℕ → ℕ → Index → List Index
opened table len place e = cond (nat_lt len (length table) && nat_le place len) (insert (take len table) place e ++ drop (len + 1) table) table

abbrev pub closed : List Index → ℕ → ℕ → List Index
closed table len place = cond (nat_le len (length table) && nat_lt place len) (remove (take len table) place ++ drop (len - 1) table) table

abbrev pub new_or : Index → Result ItemIndex RemapRefusal → Index
new_or e (Ok new) = entry_of new
new_or e (Err refusal) = e

abbrev pub renumbered : IndexRemap → List ItemIndex → Index → Index
renumbered remap scratch e = new_or e (remapped remap scratch e.0)

abbrev pub rewritten : List Index → ℕ → IndexRemap → List ItemIndex → List Index
rewritten table len remap scratch = map (renumbered remap scratch) (take len table) ++ drop len table
