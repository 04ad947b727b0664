-- What the calls answer, as the definitions of the steps have it.
--     inserted r                  `insert_unique`
--     overwritten r               `insert_overwrite`
--     added r                     the adding of both, where the key does not stand
--     removed r                   `remove` and the pops
--     holds entry, entered r      what an entry holds, and `entry`
--     fresh item, Fresh r         a `RefMut` of an item that is not changed yet;  the `RefMut` that is answered, if one is, is such
--     made_mut r, made_entry r    the inserts of a vacant entry
--     or_made r                   `or_insert`
--     replaced r, put_back r      the insert of an occupied entry, and `put_back`
--     taken_out r, took_mut r     `remove` and `into_mut` of an occupied entry
use Rattle.std.specs.Prelude.{◌≡◌, Some, None, Ok, Err, Option, Result}
use Rattle.id_ord_law.specs.Standing.Answer.{done, none, gave}
use Rattle.id_ord_law.specs.Step.{Answered}
use Rattle.id_ord_errors.specs.Refusal.{no_room, not_inserted, not_entered, not_replaced, gone}
use Rattle.id_ord_errors.specs.declared.adding.InsertRefusal.{InsertRefusal}
use Rattle.id_ord_errors.specs.declared.adding.MapFull.{MapFull}
use Rattle.id_ord_errors.specs.declared.adding.OrInsertRefusal.{OrInsertRefusal}
use Rattle.id_ord_errors.specs.declared.replacing.ReplaceRefusal.{ReplaceRefusal}
use Rattle.id_ord_errors.specs.declared.replacing.StaleEntry.{StaleEntry}
use Rattle.id_ord_map.specs.declared.entries.Entry.{Entry}
use Rattle.id_ord_map.specs.declared.entries.Entry.TheVariants.{Occupied, Vacant}
use Rattle.id_ord_map.specs.declared.entries.OccupiedEntry.{OccupiedEntry}
use Rattle.id_ord_map.specs.declared.ref_mut.RefMut.{RefMut}

module _ {T : Type 0} where
  abbrev pub inserted : Result (Unit {0}) (InsertRefusal T) → Answered T
  inserted (Ok u) = done
  inserted (Err refusal) = not_inserted refusal

  abbrev pub added : Result (Unit {0}) (MapFull T) → Answered T
  added (Ok u) = done
  added (Err refusal) = no_room refusal

  abbrev pub removed : Option T → Answered T
  removed None = none
  removed (Some item) = gave item

  abbrev pub overwritten : Result (Option T) (MapFull T) → Answered T
  overwritten (Ok old) = removed old
  overwritten (Err refusal) = no_room refusal

  abbrev pub holds : Entry T → Option T
  holds (Occupied entry) = Some entry.item
  holds (Vacant entry) = None

  abbrev pub entered : Entry T → Answered T
  entered entry = removed (holds entry)

  abbrev pub fresh : T → RefMut T
  fresh item = record { taken = item; changed = item }

  abbrev pub Fresh : {E : Type 0} → Result (RefMut T) E → Type 0
  Fresh (Ok item) = item.changed ≡ item.taken
  Fresh (Err refusal) = Unit {0}

  abbrev pub made_mut : Result (RefMut T) (InsertRefusal T) → Answered T
  made_mut (Ok item) = gave item.taken
  made_mut (Err refusal) = not_inserted refusal

  abbrev pub made_entry : Result (OccupiedEntry T) (InsertRefusal T) → Answered T
  made_entry (Ok entry) = gave entry.item
  made_entry (Err refusal) = not_inserted refusal

  abbrev pub or_made : Result (RefMut T) (OrInsertRefusal T) → Answered T
  or_made (Ok item) = gave item.taken
  or_made (Err refusal) = not_entered refusal

  abbrev pub replaced : Result T (ReplaceRefusal T) → Answered T
  replaced (Ok old) = gave old
  replaced (Err refusal) = not_replaced refusal

  abbrev pub put_back : Result (Unit {0}) (ReplaceRefusal T) → Answered T
  put_back (Ok u) = done
  put_back (Err refusal) = not_replaced refusal

  abbrev pub taken_out : Result T StaleEntry → Answered T
  taken_out (Ok item) = gave item
  taken_out (Err refusal) = gone refusal

  abbrev pub took_mut : Result (RefMut T) StaleEntry → Answered T
  took_mut (Ok item) = gave item.taken
  took_mut (Err refusal) = gone refusal
