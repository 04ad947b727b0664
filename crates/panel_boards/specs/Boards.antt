-- Boards: small examples on stays, each worked through the definitions of what the map's calls do.
--     stay_of vessel berth from    the stay of a vessel at a berth from a minute on
--     stay berth from              the same for vessel 0
--     empty n                      a map just made, over n slots and n table entries
--     does call p                  the answer of a call on the parts p, and the parts that it leaves
--     single                       a map of capacity 1 that holds the stay (4,540)
--     B                            the inserts of the stays (4,540), (2,600) and (4,530), the newest first, as in every run
--     on_b calls                   the parts that B and then these calls leave, over 4 slots and 4 entries
--     refilled                     the parts that B leaves after removing (2,600) and inserting (1,1)
--     alone                        the parts that B leaves after removing (4,540), then (2,600): one item, in slot 2
--     pair                         the parts that B leaves after removing (4,540): two items, in the slots 1 and 2
--     scratch                      a scratch of 3 places, each with a 9 in it
--     numbered p                   that scratch after the compaction of the parts p
--     shrinks p                    what a shrink_to_fit with that scratch answers on the parts p, and the parts that it leaves
--     keep_first n                 what the rule KeepFirst of n answers
--     kept                         the parts that B leaves after retaining by KeepFirst of 1
--     move_and_remove              a rule that gives every stay another key and says to remove it
--     Boards                       what the boards show
use Rattle.std.specs.Prelude.{◌≡◌, ℕ, ◌-◌, List, [], ◌∷◌, ◌++◌, length, take, replicate, None, Ok, Err}
use Rattle.std.specs.List.{slice_get}
use Rattle.id_ord_item.specs.KeepFirst.{kept_while, one_fewer}
use Rattle.id_ord_item.specs.declared.rule.Verdict.TheVariants.{Remove}
use Rattle.item_set.specs.Compact.{compacted_scratch}
use Rattle.item_set.specs.Slots.{at, index_of, sentinel}
use Rattle.item_set.specs.Store.{cleared}
use Rattle.item_set.specs.declared.index.ItemIndex.{ItemIndex}
use Rattle.item_set.specs.declared.remap.IndexRemap.TheVariants.{Identity, Permuted}
use Rattle.item_set.specs.declared.slot.ItemSlot.TheVariants.{Occupied, Vacant}
use Rattle.panel_items.specs.Stay.{by_berth_then_from}
use Rattle.panel_items.specs.declared.stay.Stay.{Stay}
use Rattle.index_table.specs.Entry.{entry_of, made}
use Rattle.index_table.specs.Shift.{rewritten}
use Rattle.index_table.specs.declared.entry.IndexRefusal.TheVariants.{Sentinel}
use Rattle.id_ord_law.specs.Law.{ran, stood}
use Rattle.id_ord_law.specs.Parts.{Parts, Holds, parts, numbers, live, names, name_at, walk, capacity}
use Rattle.id_ord_law.specs.Standing.{Call, Rule, told, found, in_order}
use Rattle.id_ord_law.specs.Standing.Call.{insert_unique, remove, pop_last, entry, vacant_insert, retain, shrink_to_fit}
use Rattle.id_ord_law.specs.Standing.Answer.{done, none, gave, duplicate, full, key_changed, shrunk}
use Rattle.id_ord_law.specs.Step.{Outcome, step}

abbrev pub stay_of : ℕ → ℕ → ℕ → Stay
stay_of vessel berth from = record { berth = berth; from = from; to = 0; vessel = vessel }

abbrev pub stay : ℕ → ℕ → Stay
stay = stay_of 0

abbrev pub empty : ℕ → Parts Stay
empty n = parts (replicate n (Vacant sentinel)) (replicate n (entry_of (index_of 0))) cleared

abbrev pub does : Call Stay → Parts Stay → Outcome Stay
does = step by_berth_then_from

abbrev pub single : Parts Stay
single = ran by_berth_then_from (insert_unique (stay 4 540) ∷ []) (empty 1)

abbrev pub B : List (Call Stay)
B = insert_unique (stay 4 530) ∷ insert_unique (stay 2 600) ∷ insert_unique (stay 4 540) ∷ []

abbrev pub on_b : List (Call Stay) → Parts Stay
on_b calls = ran by_berth_then_from (calls ++ B) (empty 4)

abbrev pub refilled : Parts Stay
refilled = on_b (insert_unique (stay 1 1) ∷ remove (stay 2 600) ∷ [])

abbrev pub alone : Parts Stay
alone = on_b (remove (stay 2 600) ∷ remove (stay 4 540) ∷ [])

abbrev pub pair : Parts Stay
pair = on_b (remove (stay 4 540) ∷ [])

abbrev pub scratch : List ItemIndex
scratch = replicate 3 (index_of 9)

abbrev pub numbered : Parts Stay → List ItemIndex
numbered p = compacted_scratch (numbers p) p.slots scratch

abbrev pub shrinks : Parts Stay → Outcome Stay
shrinks p = does (shrink_to_fit (length scratch)) p

abbrev pub keep_first : ℕ → Rule Stay
keep_first n = told (λ rule item. kept_while rule) (λ rule item. item) (λ rule item. one_fewer rule) (record { left = n })

abbrev pub kept : Parts Stay
kept = on_b (retain (keep_first 1) ∷ [])

abbrev pub move_and_remove : Rule Stay
move_and_remove shown item = (Remove, stay 9 9)

pub record Boards : Type 0 where
  -- a map with no item has no first and no last, and nothing to take out or to compact
  pub empty_has_no_first : slice_get (walk (empty 4)) 0 ≡ None
  pub empty_has_no_last : slice_get (walk (empty 4)) ((empty 4).len - 1) ≡ None
  pub empty_pops_none : does pop_last (empty 4) ≡ (none, empty 4)
  pub empty_shrinks_by_identity : (n : ℕ) → does (shrink_to_fit n) (empty 4) ≡ (shrunk (Ok Identity), empty 4)
  -- at capacity 1 another key is refused as FULL; the key that stands is DUPLICATE, and not FULL; each with the item offered
  pub one_is_the_capacity : capacity single ≡ 1
  pub another_key_is_full : does (insert_unique (stay 4 541)) single ≡ (full (stay 4 541), single)
  pub standing_key_is_duplicate : does (insert_unique (stay_of 7 4 540)) single ≡ (duplicate (stay_of 7 4 540) 0, single)
  -- slots are taken in the order of the inserts, and the table is in key order
  pub table_in_key_order : names (on_b []) ≡ 1 ∷ 2 ∷ 0 ∷ []
  pub walk_in_key_order : walk (on_b []) ≡ stay 2 600 ∷ stay 4 530 ∷ stay 4 540 ∷ []
  -- the machine of standing items has the same three, whatever their order in its list
  pub machine_holds_three : stood by_berth_then_from 4 B [] ≡ stay 4 530 ∷ stay 2 600 ∷ stay 4 540 ∷ []
  pub machine_agrees_with_the_walk : in_order by_berth_then_from (stood by_berth_then_from 4 B []) ≡ walk (on_b [])
  -- the slot that a removal frees is the next to be taken
  pub freed_slot_is_taken : (name_at refilled 0 ≡ 1) × Holds refilled 1 (stay 1 1)
  -- compacting one item in slot 2: the vacant slots have no new number, and the item's is 0
  pub shrink_answers_the_old_used : (shrinks alone).0 ≡ shrunk (Ok (Permuted 3))
  pub shrink_fills_the_scratch : numbered alone ≡ sentinel ∷ sentinel ∷ index_of 0 ∷ []
  pub shrink_renames_in_the_table : names (shrinks alone).1 ≡ 0 ∷ []
  pub shrink_moves_the_item : (shrinks alone).1.slots
      ≡ Occupied (stay 4 530) ∷ Vacant sentinel ∷ Vacant sentinel ∷ Vacant sentinel ∷ []
  pub shrink_leaves_no_free_slot : numbers (shrinks alone).1 ≡ record { used = 1; len = 1; free_head = sentinel }
  -- each entry is rewritten once; a second time would make both name slot 0
  pub shrink_rewrites_once : names (shrinks pair).1 ≡ 0 ∷ 1 ∷ []
  pub table_rewrites_alike : (shrinks pair).1.table ≡ rewritten pair.table 2 (Permuted 3) (numbered pair)
  pub twice_would_repeat_a_slot : take 2 (rewritten (shrinks pair).1.table 2 (Permuted 3) (numbered pair))
      ≡ entry_of (index_of 0) ∷ entry_of (index_of 0) ∷ []
  -- keeping the first of three frees slot 2 and then slot 0
  pub retain_is_done : (does (retain (keep_first 1)) (on_b [])).0 ≡ done
  pub retain_frees_in_key_order : (kept.head ≡ index_of 0) × (at (live kept) 0 ≡ Vacant (index_of 2))
  pub retain_keeps_the_first : walk kept ≡ stay 2 600 ∷ []
  pub machine_keeps_the_first : stood by_berth_then_from 4 (retain (keep_first 1) ∷ B) [] ≡ stay 2 600 ∷ []
  -- the key is tested before the verdict is used: the item stays, unchanged
  pub retain_refuses_a_changed_key : does (retain move_and_remove) (on_b []) ≡ (key_changed (stay 9 9), on_b [])
  -- a vacant entry takes an item of any key
  pub no_entry_is_found : (found by_berth_then_from (stay 1 1) (walk (on_b [])) ≡ None) × (does (entry (stay 1 1)) (on_b []) ≡ (none, on_b []))
  pub vacant_entry_takes_another_key : (does (vacant_insert (stay 9 9)) (on_b [])).0 ≡ gave (stay 9 9)
  pub other_key_is_last : walk (on_b (vacant_insert (stay 9 9) ∷ [])) ≡ stay 2 600 ∷ stay 4 530 ∷ stay 4 540 ∷ stay 9 9 ∷ []
  -- the greatest slot number makes an entry, and SENTINEL makes none
  pub greatest_number_is_made : made (index_of 4294967294) ≡ Ok (entry_of (index_of 4294967294))
  pub sentinel_is_refused : made (index_of 4294967295) ≡ Err Sentinel
