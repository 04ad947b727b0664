-- The machine of standing items: a set of items, read by membership, and a capacity. It reads no slot and no table.
--     Rule T                             what a rule answers to an item, after the items that it was shown before
--     told verdict changed next s        the rule that these functions make from a state s
--     Call T                             the calls, each with what its arguments mean: a query is the item it means,
--                                        an entry or a RefMut the items it holds, the one taken first,
--                                        or_insert the copy that an occupied entry holds, none for a vacant one,
--                                        and shrink_to_fit the length of its scratch
--     Answer S R T                       what a call answers, with S for a slot and R for a compaction
--     Said T                             what the machine answers: it says nothing of slots and compactions
--     found order k items                the item that has the key of k, if there is one
--     stands order k items               whether there is one
--     without order k items              the items that have another key
--     placed_in order x items            x before the first item that is not Less
--     in_order order items               the items in key order
--     after order capacity call items    the set after a call
--     said order capacity call items     what the machine answers to a call
use Rattle.std.specs.Prelude.{ℕ, ◌-◌, Bool, cond, not, List, [], ◌∷◌, ◌++◌, length, is_some, Some, None, filter, Option, ◌==◌}
use Rattle.std.specs.declared.cmp.Ordering.{Ordering}
use Rattle.std.specs.Option.{option_map, unwrap_or}
use Rattle.std.specs.Ordering.{is_eq, is_lt}
use Rattle.std.specs.List.{slice_get}
use Rattle.id_ord_item.specs.declared.rule.Verdict.{Verdict}
use Rattle.id_ord_item.specs.declared.rule.Verdict.TheVariants.{Keep, Remove}

abbrev pub Rule : Type 0 → Type 0
Rule T = List T → T → Verdict × T

abbrev pub told : {T S : Type 0} → (S → T → Verdict) → (S → T → T) → (S → T → S) → S → Rule T
told verdict changed next s [] x = (verdict s x, changed s x)
told verdict changed next s (y ∷ shown) x = told verdict changed next (next s y) shown x

pub data Call (T : Type 0) : Type 0 where
  insert_unique : T → Call T
  insert_overwrite : T → Call T
  remove : T → Call T
  pop_first : Call T
  pop_last : Call T
  entry : T → Call T
  or_insert : Option T → T → Call T
  vacant_insert : T → Call T
  vacant_insert_entry : T → Call T
  occupied_insert : T → T → Call T
  occupied_remove : T → Call T
  into_mut : T → Call T
  put_back : T → T → Call T
  retain : Rule T → Call T
  clear : Call T
  shrink_to_fit : ℕ → Call T

pub data Answer (S R T : Type 0) : Type 0 where
  done : Answer S R T
  none : Answer S R T
  gave : T → Answer S R T
  duplicate : T → S → Answer S R T
  full : T → Answer S R T
  key_changed : T → Answer S R T
  stale : Answer S R T
  stale_offered : T → Answer S R T
  shrunk : R → Answer S R T

abbrev pub Said : Type 0 → Type 0
Said T = Answer (Unit {0}) (Unit {0}) T

-- the item in an answer, or else another answer
abbrev pub given : {S R T : Type 0} → Option T → Answer S R T → Answer S R T
given item other = unwrap_or (option_map Answer.gave item) other

-- the first at a verdict to keep, the second at one to remove
abbrev pub decided : {A : Type 0} → Verdict → A → A → A
decided Keep kept removed = kept
decided Remove kept removed = removed

module _ {T : Type 0} (order : T → T → Ordering) where
  abbrev pub found : T → List T → Option T
  found k items = slice_get (filter (λ y. is_eq (order k y)) items) 0

  abbrev pub stands : T → List T → Bool
  stands k items = is_some (found k items)

  abbrev pub without : T → List T → List T
  without k items = filter (λ y. not (is_eq (order k y))) items

  abbrev pub placed_in : T → List T → List T
  placed_in x [] = x ∷ []
  placed_in x (y ∷ items) = cond (is_lt (order y x)) (y ∷ placed_in x items) (x ∷ (y ∷ items))

  abbrev pub in_order : List T → List T
  in_order [] = []
  in_order (x ∷ items) = placed_in x (in_order items)

  -- an item is added, unless its key stands or the set is full
  abbrev pub added : ℕ → T → List T → List T
  added capacity x items = cond (stands x items) items (cond (length items == capacity) items (x ∷ items))

  abbrev pub added_said : ℕ → T → Said T → List T → Said T
  added_said capacity x ok items =
      cond (stands x items) (Answer.duplicate x tt) (cond (length items == capacity) (Answer.full x) ok)

  -- an item takes the place of the one with its key, if there is one
  abbrev pub replaced : T → List T → List T → List T
  replaced x otherwise items = cond (stands x items) (x ∷ without x items) otherwise

  -- the same, if it has the key of the item taken
  abbrev pub guarded : T → T → List T → List T
  guarded taken x items = cond (is_eq (order taken x)) (replaced x items items) items

  abbrev pub guarded_said : (T → Said T) → T → T → List T → Said T
  guarded_said answer taken x items =
      cond (is_eq (order taken x)) (unwrap_or (option_map answer (found x items)) (Answer.stale_offered x)) (Answer.key_changed x)

  -- an item that was read goes
  abbrev pub taken_out : Option T → List T → List T
  taken_out item items = unwrap_or (option_map (λ x. without x items) item) items

  -- each item is shown to the rule, after those before; a changed key stops it
  abbrev pub kept : Rule T → List T → List T → List T
  kept rule before [] = []
  kept rule before (x ∷ items) =
      let rest = kept rule (before ++ x ∷ []) items in
      cond (is_eq (order x (rule before x).1)) (decided (rule before x).0 ((rule before x).1 ∷ rest) rest) (x ∷ items)

  abbrev pub kept_said : Rule T → List T → List T → Said T
  kept_said rule before [] = Answer.done
  kept_said rule before (x ∷ items) =
      cond (is_eq (order x (rule before x).1)) (kept_said rule (before ++ x ∷ []) items) (Answer.key_changed (rule before x).1)

  abbrev pub after : ℕ → Call T → List T → List T
  after capacity (Call.insert_unique x) items = added capacity x items
  after capacity (Call.insert_overwrite x) items = replaced x (added capacity x items) items
  after capacity (Call.remove k) items = without k items
  after capacity Call.pop_first items = taken_out (slice_get (in_order items) 0) items
  after capacity Call.pop_last items = taken_out (slice_get (in_order items) (length items - 1)) items
  after capacity (Call.entry k) items = items
  after capacity (Call.or_insert None x) items = added capacity x items
  after capacity (Call.or_insert (Some taken) x) items = items
  after capacity (Call.vacant_insert x) items = added capacity x items
  after capacity (Call.vacant_insert_entry x) items = added capacity x items
  after capacity (Call.occupied_insert taken x) items = guarded taken x items
  after capacity (Call.occupied_remove taken) items = without taken items
  after capacity (Call.into_mut taken) items = items
  after capacity (Call.put_back taken x) items = guarded taken x items
  after capacity (Call.retain rule) items = kept rule [] (in_order items)
  after capacity Call.clear items = []
  after capacity (Call.shrink_to_fit scratch) items = items

  abbrev pub said : ℕ → Call T → List T → Said T
  said capacity (Call.insert_unique x) items = added_said capacity x Answer.done items
  said capacity (Call.insert_overwrite x) items = given (found x items) (added_said capacity x Answer.none items)
  said capacity (Call.remove k) items = given (found k items) Answer.none
  said capacity Call.pop_first items = given (slice_get (in_order items) 0) Answer.none
  said capacity Call.pop_last items = given (slice_get (in_order items) (length items - 1)) Answer.none
  said capacity (Call.entry k) items = given (found k items) Answer.none
  said capacity (Call.or_insert None x) items = added_said capacity x (Answer.gave x) items
  said capacity (Call.or_insert (Some taken) x) items = given (found taken items) (Answer.stale_offered x)
  said capacity (Call.vacant_insert x) items = added_said capacity x (Answer.gave x) items
  said capacity (Call.vacant_insert_entry x) items = added_said capacity x (Answer.gave x) items
  said capacity (Call.occupied_insert taken x) items = guarded_said Answer.gave taken x items
  said capacity (Call.occupied_remove taken) items = given (found taken items) Answer.stale
  said capacity (Call.into_mut taken) items = given (found taken items) Answer.stale
  said capacity (Call.put_back taken x) items = guarded_said (λ old. Answer.done) taken x items
  said capacity (Call.retain rule) items = kept_said rule [] (in_order items)
  said capacity Call.clear items = Answer.done
  said capacity (Call.shrink_to_fit scratch) items = Answer.shrunk tt
