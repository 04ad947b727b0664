-- What is seen of a board.
--     checked fault              what is seen where the check finds this fault or none
--     seen order meant look p    what a look at the parts p sees; meant is the item that a query means
use Rattle.std.specs.Prelude.{◌-◌, Some, None, Ok, Err, Option, Result}
use Rattle.std.specs.declared.cmp.Ordering.{Ordering}
use Rattle.std.specs.List.{slice_get}
use Rattle.item_set.specs.declared.validation.ValidateCompact.TheVariants.{Compact as RefuseVacant}
use Rattle.id_ord_errors.specs.declared.validation.ValidationError.{ValidationError}
use Rattle.id_ord_law.specs.Parts.{Parts, walk}
use Rattle.id_ord_law.specs.Standing.{found}
use Rattle.id_ord_map.specs.Fault.{compactness_fault}
use Rattle.map_panel.specs.declared.looking.Look.{Look}
use Rattle.map_panel.specs.declared.looking.Look.TheVariants.{Get, First, Last, Len, Check}
use Rattle.map_panel.specs.declared.looking.Seen.{Seen}
use Rattle.map_panel.specs.declared.looking.Seen.TheVariants.{Item, Count, Compact}

module _ {T : Type 0} where
  abbrev pub checked : Option ValidationError → Result (Seen T) ValidationError
  checked None = Ok Compact
  checked (Some fault) = Err fault

  abbrev pub seen : {Q : Type 0} → (T → T → Ordering) → (Q → T) → Look Q → Parts T → Result (Seen T) ValidationError
  seen order meant (Get query) p = Ok (Item (found order (meant query) (walk p)))
  seen order meant First p = Ok (Item (slice_get (walk p) 0))
  seen order meant Last p = Ok (Item (slice_get (walk p) (p.len - 1)))
  seen order meant Len p = Ok (Count p.len)
  seen order meant Check p = checked (compactness_fault RefuseVacant p)
