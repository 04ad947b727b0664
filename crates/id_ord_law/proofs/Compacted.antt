-- What compacting the slots and then rewriting the entries leaves is what shrink_to_fit does.
use Rattle.std.proofs.Common.{◌≡◌, ℕ, zero, suc, ◌+◌, ◌-◌, ◌≤◌, min, Bool, true, false, cond, not, eqb, ltb, List, [], ◌∷◌, ◌++◌, map, length, get_or, take, drop, replicate, Ok, Err, Result, Ordering, sym, refl, ap, ◌∙◌, ap₂, arith}
use Rattle.std.proofs.lemmas.List.{length-append, length-take, get_or_append_left}
use Rattle.std.proofs.lemmas.Bool.{cond-true, cond-false, lt-ltb, ne_eqb}
use Rattle.item_set.proofs.Packing.{length_new_numbers, occupied_le}
use Rattle.item_set.proofs.Slots.{occupied_below}
use Rattle.item_set.specs.Compact.{new_numbers, packed, compact_answer, compacted_slots, compacted_scratch, compacted as compacted_numbers, renumbered as number_or}
use Rattle.item_set.specs.Slots.{at, index_of, sentinel, occupied}
use Rattle.item_set.specs.declared.compaction.CompactRefusal.{CompactRefusal}
use Rattle.item_set.specs.declared.compaction.CompactRefusal.TheVariants.{Short}
use Rattle.item_set.specs.declared.index.ItemIndex.{ItemIndex}
use Rattle.item_set.specs.declared.item_set.ItemSet.{ItemSet}
use Rattle.item_set.specs.declared.remap.IndexRemap.{IndexRemap}
use Rattle.item_set.specs.declared.remap.IndexRemap.TheVariants.{Identity, Permuted}
use Rattle.item_set.specs.declared.slot.ItemSlot.{ItemSlot}
use Rattle.item_set.specs.declared.slot.ItemSlot.TheVariants.{Occupied, Vacant}
use Rattle.index_table.proofs.Walking.{Names}
use Rattle.index_table.specs.Entry.{entry_of}
use Rattle.index_table.specs.Shift.{new_or, renumbered, rewritten}
use Rattle.index_table.specs.Walk.{seen}
use Rattle.index_table.specs.declared.entry.Index.{Index}
use Rattle.id_ord_law.specs.Parts.{Parts, parts, numbers, live, entries, walk, Sound}
use Rattle.id_ord_law.specs.Standing.{Call, Answer}
use Rattle.id_ord_law.specs.Step.{Outcome, compacted, shrinking, Meets}
use Rattle.id_ord_law.proofs.Steps.{limit_low, live_long}

module _ {T : Type 0} where
  -- an occupied slot's new number is how many occupied slots lie below it
  new_number_at : (k : ℕ) (slots : List (ItemSlot T)) (n : ℕ) (x : T) → at slots n ≡ Occupied x → get_or (new_numbers k slots) n sentinel ≡ index_of (k + occupied (take n slots))
  new_number_at k [] n x holds = cc
  new_number_at k (Occupied y ∷ slots) zero x holds = let e : k ≡ k + 0 = omega arith in ap index_of e
  new_number_at k (Occupied y ∷ slots) (suc n) x holds =
      let e : suc k + occupied (take n slots) ≡ k + suc (occupied (take n slots)) = omega arith in
      new_number_at (suc k) slots n x holds ∙ ap index_of e
  new_number_at k (Vacant next ∷ slots) zero x holds = cc
  new_number_at k (Vacant next ∷ slots) (suc n) x holds = new_number_at k slots n x holds

  -- so an entry that names it is rewritten to that number, which is no SENTINEL among so few slots
  module _ (slots : List (ItemSlot T)) (used : ℕ) (old : List ItemIndex) (all : length slots ≡ used) (few : used ≤ 4294967295) where
    abbrev filled : List ItemIndex
    filled = new_numbers 0 slots ++ old

    entry_moved : (d : Index) (x : T) → seen slots d ≡ Occupied x → renumbered (Permuted used) filled d ≡ entry_of (index_of (occupied (take d.0.0 slots)))
    entry_moved d x holds =
        let n = d.0.0 in
        let inside = occupied_below slots n x holds in
        let long = length_new_numbers 0 slots in
        let both = length-append (new_numbers 0 slots) old in
        let zero-on : 0 + occupied (take n slots) ≡ occupied (take n slots) = omega arith in
        let read : get_or filled n sentinel ≡ index_of (occupied (take n slots)) =
        get_or_append_left (new_numbers 0 slots) old sentinel n (omega arith) ∙ new_number_at 0 slots n x holds ∙ ap index_of zero-on in
        let most = occupied_le (take n slots) in let part = length-take n slots in
        let named : eqb (occupied (take n slots)) 4294967295 ≡ false = ne_eqb _ _ (λ e. omega arith) in
        ap (new_or d)
        (cond-true _ _ _ (lt-ltb n (min used (length filled)) (omega arith))
        ∙ ap number_or read ∙ cond-false _ _ _ named)

    entries_moved : (es : List Index) (w : List T) → Names slots es w
        → map (renumbered (Permuted used) filled) es ≡ map (λ n. entry_of (index_of (occupied (take n slots)))) (map (λ entry. entry.0.0) es)
    entries_moved [] w named = refl
    entries_moved (d ∷ es) [] named = cc
    entries_moved (d ∷ es) (x ∷ w) named =
        let held : seen slots d ≡ Occupied x = cc in let rest : Names slots es w = cc in
        ap₂ (λ (e : Index) (l : List Index). e ∷ l) (entry_moved d x held) (entries_moved es w rest)

module _ {T : Type 0} {order : T → T → Ordering} (p : Parts T) (s : Sound order p) (scratch : List ItemIndex) where
  -- the scratch after the slots moved
  pub scratch_after : compacted_scratch (numbers p) p.slots scratch
      ≡ cond (eqb p.used p.len) scratch (cond (ltb (length scratch) p.used) scratch (new_numbers 0 (live p) ++ drop p.used scratch))
  scratch_after = go (eqb p.used p.len) (ltb (length scratch) p.used)
    where
      go : (b d : Bool) → cond (cond b false (not d)) (new_numbers 0 (live p) ++ drop (length (live p)) scratch) scratch
          ≡ cond b scratch (cond d scratch (new_numbers 0 (live p) ++ drop p.used scratch))
      go true d = refl
      go false true = refl
      go false false = ap (λ (n : ℕ). new_numbers 0 (live p) ++ drop n scratch) (live_long order p s)

  -- where items move, so do the slots, the numbers and the entries
  module _ (answer : Result IndexRemap CompactRefusal) (remap : IndexRemap) (n : ℕ)
      (says : answer ≡ compact_answer (numbers p) scratch) (accepted : answer ≡ Ok remap) (is : remap ≡ Permuted n) where
    moves_if : (b d : Bool) → ◌≡◌ {A = Result IndexRemap CompactRefusal} (cond b (Ok Identity) (cond d (Err Short) (Ok (Permuted p.used)))) (Ok remap)
        → (b ≡ false) × (d ≡ false) × (remap ≡ Permuted p.used)
    moves_if true d e = cc
    moves_if false true e = cc
    moves_if false false e = (refl, refl, cc)

    it_moves : (eqb p.used p.len ≡ false) × (ltb (length scratch) p.used ≡ false) × (remap ≡ Permuted p.used)
    it_moves = moves_if (eqb p.used p.len) (ltb (length scratch) p.used) (sym says ∙ accepted)

    moved : {A : Type 0} (after before : A) → cond (cond (eqb p.used p.len) false (not (ltb (length scratch) p.used))) after before ≡ after
    moved {A} after before = ap₂ (λ (b d : Bool). cond (cond b false (not d)) after before) it_moves.0 it_moves.1

    slots_moved : compacted_slots (numbers p) p.slots scratch ≡ (compacted p).slots
    slots_moved =
        let l = live_long order p s in let c = s.store.count in
        let free : length (live p) - occupied (live p) ≡ p.used - p.len = omega arith in
        moved _ _ ∙ ap (λ (k : ℕ). packed (live p) ++ (replicate k (Vacant sentinel) ++ drop p.used p.slots)) free

    numbers_moved : compacted_numbers (numbers p) p.slots scratch ≡ numbers (compacted p)
    numbers_moved = moved _ _ ∙ ap (λ (k : ℕ). record { used = k; len = k; free_head = sentinel }) s.store.count

    table_moved : rewritten p.table p.len remap (compacted_scratch (numbers p) p.slots scratch) ≡ (compacted p).table
    table_moved =
        let l = live_long order p s in let fits = s.fits in let low = limit_low in
        ap₂ (rewritten p.table p.len) it_moves.2 (moved _ _)
        ∙ ap (λ (es : List Index). es ++ drop p.len p.table)
        (entries_moved (live p) p.used (drop (length (live p)) scratch) l (omega arith) (entries p) (walk p) s.named)

    pub shrink_moves : (slots : List (ItemSlot T)) (table : List Index) (after : List ItemIndex) (set : ItemSet)
        → slots ≡ compacted_slots (numbers p) p.slots scratch
        → table ≡ rewritten p.table p.len remap after
        → after ≡ compacted_scratch (numbers p) p.slots scratch
        → set ≡ compacted_numbers (numbers p) p.slots scratch
        → Meets order (Call.shrink_to_fit (length scratch)) p (Answer.shrunk (Ok remap)) (parts slots table set)
    shrink_moves slots table after set is-slots is-table is-after is_set =
        let same : parts slots table set ≡ compacted p =
        ap (λ (l : List (ItemSlot T)). parts l table set) (is-slots ∙ slots_moved)
        ∙ ap (λ (t : List Index). parts (compacted p).slots t set) (is-table ∙ ap (rewritten p.table p.len remap) is-after ∙ table_moved)
        ∙ ap (λ (k : ItemSet). parts (compacted p).slots (compacted p).table k) (is_set ∙ numbers_moved) in
        let does : shrinking order (length scratch) p ≡ (Answer.shrunk (Ok (Permuted p.used)), compacted p) = cond-false _ _ _ it_moves.0 ∙ cond-false _ _ _ it_moves.1 in (
          ap (λ (r : IndexRemap). Answer.shrunk (Ok r)) it_moves.2 ∙ sym (ap (λ (o : Outcome T). o.0) does),
          same ∙ sym (ap (λ (o : Outcome T). o.1) does),
        )
