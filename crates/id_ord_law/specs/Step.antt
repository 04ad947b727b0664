-- What each call answers and what it does to the parts of a map.
--     Answered T                     what a call answers: a slot by its number, a compaction as the slot store answers it
--     fresh p                        the slot that takes one more item: the free head, or the first slot not in use
--     add_at i x p                   the parts with x added, as the item at place i of the walk
--     remove_at i p                  the parts without the item at place i
--     write_at i x p                 the parts with x in the slot of place i
--     new_number p n                 how many occupied slots lie below slot n: the number that compacting gives it
--     compacted p                    the parts after a compaction that moves items
--     step order call p              the answer, and the parts after
--     Meets order call p answer q    the call, made on the parts p, answers so and leaves the parts q
use Rattle.std.specs.Prelude.{◌≡◌, ℕ, suc, ◌+◌, ◌-◌, cond, List, [], ◌∷◌, ◌++◌, map, take, drop, replicate, Some, None, Ok, Err, Result, ◌==◌, nat_lt, slice_set}
use Rattle.std.specs.declared.cmp.Ordering.{Ordering}
use Rattle.std.specs.Option.{option_map, unwrap_or}
use Rattle.std.specs.Ordering.{is_eq}
use Rattle.std.specs.List.{insert, remove, slice_get}
use Rattle.item_set.specs.Compact.{packed}
use Rattle.item_set.specs.Slots.{index_of, sentinel, occupied}
use Rattle.item_set.specs.Store.{cleared, grown, none_free}
use Rattle.item_set.specs.declared.compaction.CompactRefusal.{CompactRefusal}
use Rattle.item_set.specs.declared.compaction.CompactRefusal.TheVariants.{Short}
use Rattle.item_set.specs.declared.remap.IndexRemap.{IndexRemap}
use Rattle.item_set.specs.declared.remap.IndexRemap.TheVariants.{Identity, Permuted}
use Rattle.item_set.specs.declared.slot.ItemSlot.TheVariants.{Occupied, Vacant}
use Rattle.index_table.specs.Entry.{entry_of}
use Rattle.index_table.specs.Walk.{smaller}
use Rattle.id_ord_law.specs.Parts.{Parts, parts, numbers, live, entries, names, name_at, walk, capacity}
use Rattle.id_ord_law.specs.Standing.{Rule, Call, Answer, given, decided, found, stands}

abbrev pub Answered : Type 0 → Type 0
Answered T = Answer ℕ (Result IndexRemap CompactRefusal) T

abbrev pub Outcome : Type 0 → Type 0
Outcome T = Answered T × Parts T

module _ {T : Type 0} where
  abbrev pub fresh : Parts T → ℕ
  fresh p = cond (none_free (numbers p)) p.used p.head.0

  abbrev pub add_at : ℕ → T → Parts T → Parts T
  add_at i x p = parts (slice_set p.slots (fresh p) (Occupied x))
      (insert (entries p) i (entry_of (index_of (fresh p))) ++ drop (p.len + 1) p.table)
      (grown (numbers p) p.slots)

  abbrev pub remove_at : ℕ → Parts T → Parts T
  remove_at i p = parts (slice_set p.slots (name_at p i) (Vacant p.head))
      (remove (entries p) i ++ drop (p.len - 1) p.table)
      (record { used = p.used; len = p.len - 1; free_head = index_of (name_at p i) })

  abbrev pub write_at : ℕ → T → Parts T → Parts T
  write_at i x p = parts (slice_set p.slots (name_at p i) (Occupied x)) p.table (numbers p)

  abbrev pub new_number : Parts T → ℕ → ℕ
  new_number p n = occupied (take n (live p))

  abbrev pub compacted : Parts T → Parts T
  compacted p = parts (packed (live p) ++ (replicate (p.used - p.len) (Vacant sentinel) ++ drop p.used p.slots))
      (map (λ n. entry_of (index_of (new_number p n))) (names p) ++ drop p.len p.table)
      (record { used = p.len; len = p.len; free_head = sentinel })

  module _ (order : T → T → Ordering) where
    -- an item is added, unless its key stands or the map is full
    abbrev pub adding : T → Answered T → Parts T → Outcome T
    adding x ok p =
        let i = smaller order x (walk p) in
        cond (stands order x (walk p)) (Answer.duplicate x (name_at p i), p)
        (cond (p.len == capacity p) (Answer.full x, p) (ok, add_at i x p))

    -- the item with the key of k is taken out
    abbrev pub removing : T → Answered T → Parts T → Outcome T
    removing k otherwise p =
        unwrap_or (option_map (λ old. (Answer.gave old, remove_at (smaller order k (walk p)) p)) (found order k (walk p))) (otherwise, p)

    -- x takes the place of the item with its key
    abbrev pub replacing : T → (T → Answered T) → Outcome T → Parts T → Outcome T
    replacing x answer otherwise p =
        unwrap_or (option_map (λ old. (answer old, write_at (smaller order x (walk p)) x p)) (found order x (walk p))) otherwise

    -- the same, if it has the key of the item taken
    abbrev pub guarding : T → T → (T → Answered T) → Parts T → Outcome T
    guarding taken x answer p =
        cond (is_eq (order taken x)) (replacing x answer (Answer.stale_offered x, p) p) (Answer.key_changed x, p)

    -- the item at place i is taken out
    abbrev pub popping : ℕ → Parts T → Outcome T
    popping i p = unwrap_or (option_map (λ old. (Answer.gave old, remove_at i p)) (slice_get (walk p) i)) (Answer.none, p)

    -- each item is shown to the rule, the next at place i, after those before; a changed key stops it
    abbrev pub retaining : Rule T → List T → ℕ → List T → Parts T → Outcome T
    retaining rule before i [] p = (Answer.done, p)
    retaining rule before i (x ∷ items) p =
        cond (is_eq (order x (rule before x).1))
        (decided (rule before x).0
        (retaining rule (before ++ x ∷ []) (suc i) items (write_at i (rule before x).1 p))
        (retaining rule (before ++ x ∷ []) i items (remove_at i p)))
        (Answer.key_changed (rule before x).1, p)

    abbrev pub shrinking : ℕ → Parts T → Outcome T
    shrinking scratch p =
        cond (p.used == p.len) (Answer.shrunk (Ok Identity), p)
        (cond (nat_lt scratch p.used) (Answer.shrunk (Err Short), p) (Answer.shrunk (Ok (Permuted p.used)), compacted p))

    abbrev pub step : Call T → Parts T → Outcome T
    step (Call.insert_unique x) p = adding x Answer.done p
    step (Call.insert_overwrite x) p = replacing x Answer.gave (adding x Answer.none p) p
    step (Call.remove k) p = removing k Answer.none p
    step Call.pop_first p = popping 0 p
    step Call.pop_last p = popping (p.len - 1) p
    step (Call.entry k) p = (given (found order k (walk p)) Answer.none, p)
    step (Call.or_insert None x) p = adding x (Answer.gave x) p
    step (Call.or_insert (Some taken) x) p = (given (found order taken (walk p)) (Answer.stale_offered x), p)
    step (Call.vacant_insert x) p = adding x (Answer.gave x) p
    step (Call.vacant_insert_entry x) p = adding x (Answer.gave x) p
    step (Call.occupied_insert taken x) p = guarding taken x Answer.gave p
    step (Call.occupied_remove taken) p = removing taken Answer.stale p
    step (Call.into_mut taken) p = (given (found order taken (walk p)) Answer.stale, p)
    step (Call.put_back taken x) p = guarding taken x (λ old. Answer.done) p
    step (Call.retain rule) p = retaining rule [] 0 (walk p) p
    step Call.clear p = (Answer.done, parts p.slots p.table cleared)
    step (Call.shrink_to_fit scratch) p = shrinking scratch p

    abbrev pub Meets : Call T → Parts T → Answered T → Parts T → Type 0
    Meets call p answer q = (answer ≡ (step call p).0) × (q ≡ (step call p).1)
