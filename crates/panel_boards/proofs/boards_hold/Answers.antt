use Rattle.std.proofs.Common.{refl}
use Rattle.id_ord_law.specs.Parts.{limit}
use Rattle.panel_boards.proofs.boards_hold.Goals as goal

-- whether a map is full is worked out with the limit's value
pub returns : goal.returns
unfolding limit
returns c = record {
  empty_has_no_first = refl;
  empty_has_no_last = refl;
  empty_pops_none = refl;
  empty_shrinks_by_identity = λ n. refl;
  one_is_the_capacity = refl;
  another_key_is_full = refl;
  standing_key_is_duplicate = refl;
  table_in_key_order = refl;
  walk_in_key_order = refl;
  machine_holds_three = refl;
  machine_agrees_with_the_walk = refl;
  freed_slot_is_taken = (refl, refl);
  shrink_answers_the_old_used = refl;
  shrink_fills_the_scratch = refl;
  shrink_renames_in_the_table = refl;
  shrink_moves_the_item = refl;
  shrink_leaves_no_free_slot = refl;
  shrink_rewrites_once = refl;
  table_rewrites_alike = refl;
  twice_would_repeat_a_slot = refl;
  retain_is_done = refl;
  retain_frees_in_key_order = (refl, refl);
  retain_keeps_the_first = refl;
  machine_keeps_the_first = refl;
  retain_refuses_a_changed_key = refl;
  no_entry_is_found = (refl, refl);
  vacant_entry_takes_another_key = refl;
  other_key_is_last = refl;
  greatest_number_is_made = refl;
  sentinel_is_refused = refl;
}
