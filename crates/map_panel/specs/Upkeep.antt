-- What the upkeep of a board's memory does and tells.
--     adopt_answer len fault            what adopting numbers with so many items answers, where their memory has this fault or none
--     Adopts order numbers count p told q
--                                       what is told where the parts p start anew with these numbers and so many table entries: they become q
--     places_within places scratch      how many places of the scratch a shrinking may use: so many, or all
--     Shrinks order places board result board'
--                                       what shrinking the map with so many places answers, and the map after it
--     Saves board numbers board'        the map's numbers are remembered and answered, and the map stays
--     KeepsUp order upkeep board told board'
--                                       what is told where this is asked of the memory, and the map after it
--     saved_after upkeep board          the numbers that are remembered then
--     remap_after told remap            the remap that is remembered then: the one told, or else the one before
-- A `Board T g` is a board of items of T; g are the ghost members of their kind, of which the board's field `sound` speaks.
use Rattle.std.specs.Prelude.{◌≡◌, ℕ, min, List, length, Some, None, Ok, Err, Option, Result}
use Rattle.std.specs.Option.{unwrap_or}
use Rattle.std.specs.Result.{result_map_both}
use Rattle.std.specs.declared.cmp.Ordering.{Ordering}
use Rattle.item_set.specs.Compact.{remapped}
use Rattle.item_set.specs.declared.compaction.CompactRefusal.{CompactRefusal}
use Rattle.item_set.specs.declared.index.ItemIndex.{ItemIndex}
use Rattle.item_set.specs.declared.item_set.ItemSet.{ItemSet}
use Rattle.item_set.specs.declared.remap.IndexRemap.{IndexRemap}
use Rattle.id_ord_errors.specs.declared.validation.ValidationError.{ValidationError}
use Rattle.id_ord_law.specs.Parts.{Parts}
use Rattle.id_ord_law.specs.Standing.{Call}
use Rattle.id_ord_law.specs.Standing.Answer.{shrunk}
use Rattle.id_ord_law.specs.Step.{Meets}
use Rattle.id_ord_map.specs.Fault.{offered, map_fault, adopted}
use Rattle.id_ord_map.specs.View.{view}
use Rattle.map_panel.specs.declared.board.Board.{Board}
use Rattle.map_panel.specs.declared.refusals.Refusal.{Refusal}
use Rattle.map_panel.specs.declared.refusals.Refusal.TheVariants.{NotShrunk, NotMoved, Fault}
use Rattle.map_panel.specs.declared.upkeep.Kempt.{Kempt}
use Rattle.map_panel.specs.declared.upkeep.Kempt.TheVariants.{Shrunk, Moved, Saved, Adopted}
use Rattle.map_panel.specs.declared.upkeep.Upkeep.{Upkeep}
use Rattle.map_panel.specs.declared.upkeep.Upkeep.TheVariants.{Shrink, Remap, Save, Restore, Adopt}

abbrev pub adopt_answer : ℕ → Option ValidationError → Result ℕ ValidationError
adopt_answer len None = Ok len
adopt_answer len (Some fault) = Err fault

abbrev pub places_within : Option ℕ → List ItemIndex → ℕ
places_within places scratch = min (unwrap_or places (length scratch)) (length scratch)

module _ {T : Type 0} where
  abbrev pub remap_after : Result Kempt (Refusal T) → IndexRemap → IndexRemap
  remap_after (Ok (Shrunk remap)) before = remap
  remap_after told before = before

  abbrev pub Adopts : (T → T → Ordering) → ItemSet → ℕ → Parts T → Result Kempt (Refusal T) → Parts T → Type 0
  Adopts order numbers count p told q =
      let p' = offered numbers.used numbers.len numbers.free_head p in
      (told ≡ result_map_both Adopted Fault (adopt_answer numbers.len (map_fault order p' count))) × (q ≡ adopted order p' count p)

module _ {T : Type 0} {g : _} where
  abbrev pub Shrinks : (T → T → Ordering) → Option ℕ → Board T g → Result IndexRemap CompactRefusal → Board T g → Type 0
  Shrinks order places board r board' = Meets order (Call.shrink_to_fit (places_within places board.scratch.now)) (view board.map) (shrunk r) (view board'.map)

  abbrev pub Saves : Board T g → ItemSet → Board T g → Type 0
  Saves board numbers board' = (numbers ≡ board.map.items) × (board'.saved ≡ numbers) × (view board'.map ≡ view board.map)

  abbrev pub saved_after : Upkeep → Board T g → ItemSet
  saved_after Save board = board.map.items
  saved_after upkeep board = board.saved

  abbrev pub KeepsUp : (T → T → Ordering) → Upkeep → Board T g → Result Kempt (Refusal T) → Board T g → Type 0
  KeepsUp order (Shrink places) board (Ok (Shrunk remap)) board' = Shrinks order places board (Ok remap) board'
  KeepsUp order (Shrink places) board (Err (NotShrunk refusal)) board' = Shrinks order places board (Err refusal) board'
  KeepsUp order (Remap slot) board told board' =
      (told ≡ result_map_both Moved NotMoved (remapped board.remap board.scratch.now slot)) × (view board'.map ≡ view board.map)
  KeepsUp order Save board told board' = (told ≡ Ok (Saved board.map.items)) × (view board'.map ≡ view board.map)
  KeepsUp order Restore board told board' = Adopts order board.saved board.saved.len (view board.map) told (view board'.map)
  KeepsUp order (Adopt numbers count) board told board' = Adopts order numbers count (view board.map) told (view board'.map)
  KeepsUp order upkeep board told board' = ⊥
