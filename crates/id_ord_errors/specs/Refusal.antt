-- Each refusal as an answer of the map, with the values that it returns, and its number.
--     duplicated, no_room, not_inserted, not_entered, key_other, not_replaced, gone    the refusals as answers
--     as_entered refusal    the refusal to add an item as that of an entry
--     number_of answer      the number of a refusal, 0 for any other answer
use Rattle.std.specs.Prelude.{ℕ, Ok, Err, Result}
use Rattle.item_set.specs.Refusal.{compact_number}
use Rattle.item_set.specs.declared.compaction.CompactRefusal.{CompactRefusal}
use Rattle.item_set.specs.declared.remap.IndexRemap.{IndexRemap}
use Rattle.id_ord_law.specs.Standing.Answer.{done, none, gave, duplicate, full, key_changed, stale, stale_offered, shrunk}
use Rattle.id_ord_law.specs.Step.{Answered}
use Rattle.id_ord_errors.specs.declared.adding.DuplicateItem.{DuplicateItem}
use Rattle.id_ord_errors.specs.declared.adding.InsertRefusal.{InsertRefusal}
use Rattle.id_ord_errors.specs.declared.adding.InsertRefusal.TheVariants.{Duplicate, Full}
use Rattle.id_ord_errors.specs.declared.adding.MapFull.{MapFull}
use Rattle.id_ord_errors.specs.declared.adding.OrInsertRefusal.{OrInsertRefusal}
use Rattle.id_ord_errors.specs.declared.adding.OrInsertRefusal.TheVariants.{Duplicate as OrDuplicate, Full as OrFull, Stale as OrStale}
use Rattle.id_ord_errors.specs.declared.replacing.KeyChanged.{KeyChanged as KeyOther}
use Rattle.id_ord_errors.specs.declared.replacing.ReplaceRefusal.{ReplaceRefusal}
use Rattle.id_ord_errors.specs.declared.replacing.ReplaceRefusal.TheVariants.{KeyChanged, Stale}
use Rattle.id_ord_errors.specs.declared.replacing.StaleEntry.{StaleEntry}

abbrev pub shrunk_number : Result IndexRemap CompactRefusal → ℕ
shrunk_number (Ok remap) = 0
shrunk_number (Err refusal) = compact_number refusal

module _ {T : Type 0} where
  abbrev pub duplicated : DuplicateItem T → Answered T
  duplicated refusal = duplicate refusal.item refusal.slot.0

  abbrev pub no_room : MapFull T → Answered T
  no_room refusal = full refusal.item

  abbrev pub not_inserted : InsertRefusal T → Answered T
  not_inserted (Duplicate refusal) = duplicated refusal
  not_inserted (Full refusal) = no_room refusal

  abbrev pub key_other : KeyOther T → Answered T
  key_other refusal = key_changed refusal.item

  abbrev pub not_replaced : ReplaceRefusal T → Answered T
  not_replaced (KeyChanged refusal) = key_other refusal
  not_replaced (Stale item) = stale_offered item

  abbrev pub not_entered : OrInsertRefusal T → Answered T
  not_entered (OrDuplicate refusal) = duplicated refusal
  not_entered (OrFull refusal) = no_room refusal
  not_entered (OrStale item) = stale_offered item

  abbrev pub as_entered : InsertRefusal T → OrInsertRefusal T
  as_entered (Duplicate refusal) = OrDuplicate refusal
  as_entered (Full refusal) = OrFull refusal

  abbrev pub gone : StaleEntry → Answered T
  gone refusal = stale

  abbrev pub number_of : Answered T → ℕ
  number_of done = 0
  number_of none = 0
  number_of (gave item) = 0
  number_of (duplicate item slot) = 1
  number_of (full item) = 2
  number_of (key_changed item) = 3
  number_of stale = 4
  number_of (stale_offered item) = 4
  number_of (shrunk answer) = shrunk_number answer
