-- Changes of a board's items as calls of its map.
--     call_of meant change    the call that a change makes; meant is the item that a query means
--     answered result         what the map answered, where this became of a change
--     gone_of changed         the item that stood before the change and is gone after it, if there is one
--     told_of change old      what is told of a change, where this item is gone
--     Tells change changed    what is told is of this very change
use Rattle.std.specs.Prelude.{◌≡◌, Some, None, Ok, Err, Option, Result}
use Rattle.id_ord_errors.specs.Refusal.{not_inserted}
use Rattle.id_ord_errors.specs.declared.adding.InsertRefusal.{InsertRefusal}
use Rattle.id_ord_law.specs.Standing.{Call}
use Rattle.id_ord_law.specs.Standing.Answer.{done, none, gave}
use Rattle.id_ord_law.specs.Step.{Answered}
use Rattle.id_ord_map.specs.Answers.{removed}
use Rattle.map_panel.specs.declared.changing.Change.{Change}
use Rattle.map_panel.specs.declared.changing.Change.TheVariants.{Add, Overwrite, Drop, PopFirst, PopLast, Clear}
use Rattle.map_panel.specs.declared.changing.Changed.{Changed}
use Rattle.map_panel.specs.declared.changing.Changed.TheVariants.{Added, AddedAnew, Overwritten, Dropped, Cleared}

module _ {T : Type 0} where
  abbrev pub call_of : {Q : Type 0} → (Q → T) → Change T Q → Call T
  call_of meant (Add item) = Call.insert_unique item
  call_of meant (Overwrite item) = Call.insert_overwrite item
  call_of meant (Drop query) = Call.remove (meant query)
  call_of meant PopFirst = Call.pop_first
  call_of meant PopLast = Call.pop_last
  call_of meant Clear = Call.clear

  abbrev pub answered : Result (Changed T) (InsertRefusal T) → Answered T
  answered (Ok (Added item)) = done
  answered (Ok (AddedAnew item)) = none
  answered (Ok (Overwritten old)) = gave old
  answered (Ok (Dropped item)) = removed item
  answered (Ok Cleared) = done
  answered (Err refusal) = not_inserted refusal

  abbrev pub gone_of : Changed T → Option T
  gone_of (Added item) = None
  gone_of (AddedAnew item) = None
  gone_of (Overwritten old) = Some old
  gone_of (Dropped item) = item
  gone_of Cleared = None

  abbrev pub told_of : {Q : Type 0} → Change T Q → Option T → Changed T
  told_of (Add item) old = Added item
  told_of (Overwrite item) None = AddedAnew item
  told_of (Overwrite item) (Some old) = Overwritten old
  told_of (Drop query) old = Dropped old
  told_of PopFirst old = Dropped old
  told_of PopLast old = Dropped old
  told_of Clear old = Cleared

  abbrev pub Tells : {Q : Type 0} → Change T Q → Changed T → Type 0
  Tells change changed = changed ≡ told_of change (gone_of changed)
