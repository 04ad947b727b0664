-- The calls that some runs make, the newest first.
--     looks_up k held x             a look for a key, and `or_insert` of x through the entry, which holds what was found
--     shrinks_and_clears scratch    a shrinking with so long a scratch, and a clearing
--     adds x y                      x is added, and y takes the place of the item with its key or is added
--     adds_by_entry x y             x and y are added through vacant entries, one by `insert` and one by `insert_entry`
--     works_by_entry e f x          x takes the place of the item with the key of the entry e, that item is taken out,
--                                   and the one with the key of the entry f is taken for a change
--     puts_back_and_keeps m rule    m is put back, and the items that a rule keeps are kept
--     takes_out k                   the item with a key, then the first and the last item are taken out
--     every_call ..                 all of these, in this order
use Rattle.std.specs.Prelude.{ℕ, List, [], ◌∷◌, ◌++◌, Option}
use Rattle.id_ord_law.specs.Standing.{Call, Rule}
use Rattle.id_ord_law.specs.Standing.Call.{insert_unique, insert_overwrite, remove, pop_first, pop_last, entry, or_insert, vacant_insert, vacant_insert_entry, occupied_insert, occupied_remove, into_mut, put_back, retain, clear, shrink_to_fit}
use Rattle.id_ord_map.specs.declared.entries.OccupiedEntry.{OccupiedEntry}
use Rattle.id_ord_map.specs.declared.ref_mut.RefMut.{RefMut}
use Rattle.map_programs.specs.declared.runs.Supplies.{Supplies}

module _ {T : Type 0} where
  abbrev pub looks_up : T → Option T → T → List (Call T)
  looks_up k held x = or_insert held x ∷ (entry k ∷ [])

  abbrev pub shrinks_and_clears : ℕ → List (Call T)
  shrinks_and_clears scratch = clear ∷ (shrink_to_fit scratch ∷ [])

  abbrev pub adds : T → T → List (Call T)
  adds x y = insert_overwrite y ∷ (insert_unique x ∷ [])

  abbrev pub adds_by_entry : T → T → List (Call T)
  adds_by_entry x y = vacant_insert_entry y ∷ (vacant_insert x ∷ [])

  abbrev pub works_by_entry : OccupiedEntry T → OccupiedEntry T → T → List (Call T)
  works_by_entry e f x = into_mut f.item ∷ (occupied_remove e.item ∷ (occupied_insert e.item x ∷ []))

  abbrev pub puts_back_and_keeps : RefMut T → Rule T → List (Call T)
  puts_back_and_keeps m rule = retain rule ∷ (put_back m.taken m.changed ∷ [])

  abbrev pub takes_out : T → List (Call T)
  takes_out k = pop_last ∷ (pop_first ∷ (remove k ∷ []))

  abbrev pub every_call : T → Option T → ℕ → Supplies T → Rule T → List (Call T)
  every_call k held scratch supplies rule =
      let items = supplies.items in
      let occupied = supplies.occupied in
      takes_out k ++ (puts_back_and_keeps supplies.taken rule ++ (works_by_entry occupied.0 occupied.1 items.0 ++ (adds_by_entry items.2 items.3 ++ (adds items.0 items.1 ++ (shrinks_and_clears scratch ++ looks_up k held items.0)))))
