-- The calls of the slot store and of the table that make up a step leave what the step says.
use Rattle.std.proofs.Common.{◌≡◌, ℕ, zero, suc, ◌<◌, ◌≤◌, Bool, true, false, cond, ◌&&◌, ltb, leb, List, [], ◌∷◌, map, length, get_or, take, set, is_some, Some, None, Ok, Err, Option, Result, Ordering, Equal, sym, refl, ap, ◌∙◌, subst, ap₂, inl, inr, arith}
use Rattle.std.proofs.lemmas.Bool.{eqb-true, eqb-false, cases_lt, cond-true, cond-false, ne_eqb, lt-ltb, le-leb}
use Rattle.std.specs.Option.{ok_or}
use Rattle.std.specs.List.{slice_get}
use Rattle.id_ord_item.specs.Order.{LawfulOrder}
use Rattle.item_set.proofs.Inserting.{index_at_end, index_at_head, inserted_if}
use Rattle.item_set.proofs.Keeping.{all_held}
use Rattle.item_set.specs.Chain.{Chain}
use Rattle.item_set.specs.Slots.{at, held, index_of, sentinel, next_free, vacant_next}
use Rattle.item_set.specs.Store.{none_free, next_index, held_in, put_at, insert_answer, inserted_slots, inserted, replace_answer, removed_slots, removed, replaced_slots}
use Rattle.item_set.specs.declared.index.ItemIndex.{ItemIndex}
use Rattle.item_set.specs.declared.item_set.ItemSet.{ItemSet}
use Rattle.item_set.specs.declared.item_set.NoSlot.{NoSlot}
use Rattle.item_set.specs.declared.item_set.NotHeld.{NotHeld}
use Rattle.item_set.specs.declared.slot.ItemSlot.{ItemSlot}
use Rattle.item_set.specs.declared.slot.ItemSlot.TheVariants.{Occupied}
use Rattle.index_table.specs.Entry.{entry_of, made}
use Rattle.index_table.specs.Shift.{opened, closed}
use Rattle.index_table.specs.Walk.{smaller}
use Rattle.index_table.specs.declared.entry.Index.{Index}
use Rattle.index_table.specs.declared.entry.IndexRefusal.{IndexRefusal}
use Rattle.id_ord_law.specs.Parts.{Parts, parts, numbers, live, name_at, walk, capacity, Sound}
use Rattle.id_ord_law.specs.Standing.{found, stands}
use Rattle.id_ord_law.specs.Step.{fresh, add_at, remove_at, write_at}
use Rattle.id_ord_law.proofs.Adding.{added_leaves}
use Rattle.id_ord_law.proofs.Keys.{nth_below, nth_past, nth_some, none_if, some_if, found_among}
use Rattle.id_ord_law.proofs.Places.{smaller_most, nth_smaller}
use Rattle.id_ord_law.proofs.Steps.{limit_low, live_long, len_used, walk_long, place_holds, written_leaves, removed_leaves}

both_true : (a b : Bool) → a ≡ true → b ≡ true → (a && b) ≡ true
both_true a b e f = ap₂ (λ (x y : Bool). x && y) e f

-- an entry of a table, read with any default, names the slot of its place
name_read : (t : List Index) (len i : ℕ) (d : Index) → i < len → i < length t → (get_or t i d).0 ≡ index_of (get_or (map (λ entry. entry.0.0) (take len t)) i sentinel.0)
name_read [] len i d low inside = absurd (omega arith)
name_read (e ∷ t) zero i d low inside = absurd (omega arith)
name_read (e ∷ t) (suc len) zero d low inside = refl
name_read (e ∷ t) (suc len) (suc i) d low inside = name_read t len i d (omega arith) (omega arith)

module _ {T : Type 0} {order : T → T → Ordering} (lawful : LawfulOrder order) (p : Parts T) (s : Sound order p) where
  pub entry_named : (i : ℕ) (d : Index) → i < p.len → (get_or p.table i d).0 ≡ index_of (name_at p i)
  entry_named i d low = let f = s.fits in let u = len_used order p s in name_read p.table p.len i d low (omega arith)

  -- adding
  module _ (free : p.len ≡ capacity p → ⊥) where
    room : p.len < capacity p
    room = let f = s.fits in let u = len_used order p s in elim (cases_lt p.len (capacity p)) [ inl c ↦ c | inr c ↦ absurd (free (omega arith)) ]

    -- by whether no slot is free
    next_by : (none : Bool) → none_free (numbers p) ≡ none → (chain : List ℕ) → Chain (live p) p.head chain
        → (next_index (numbers p) p.slots ≡ Some (index_of (cond none p.used p.head.0))) × (cond none p.used p.head.0 < 4294967295)
    next_by true e chain linked =
        let ended = eqb-true p.head.0 4294967295 e in
        let l = live_long order p s in let r = room in let low = limit_low in
        let all = all_held (numbers p) p.slots s.store ended in
        (index_at_end (numbers p) p.slots (omega arith) ended (omega arith) (omega arith), omega arith)
    next_by false e [] linked = absurd (eqb-false p.head.0 4294967295 e (ap (λ (i : ItemIndex). i.0) linked))
    next_by false e (c ∷ chain) linked =
        let some = eqb-false p.head.0 4294967295 e in
        let r = room in let low = limit_low in
        let same : c ≡ p.head.0 = sym (ap (λ (i : ItemIndex). i.0) linked.0) in
        let small = linked.1 in
        (index_at_head (numbers p) p.slots (omega arith) some (next_free (at (live p) c)) (ap (λ (n : ℕ). vacant_next (live p) n) (sym same) ∙ linked.2), omega arith)

    next : (next_index (numbers p) p.slots ≡ Some (index_of (fresh p))) × (fresh p < 4294967295)
    next = next_by (none_free (numbers p)) refl s.store.free s.store.linked

    pub next_is_fresh : next_index (numbers p) p.slots ≡ Some (index_of (fresh p))
    next_is_fresh = next.0

    pub fresh_low : fresh p < 4294967295
    fresh_low = next.1

    pub performs_add : (i : ℕ) (x : T) → i ≤ p.len
        → parts (inserted_slots (numbers p) p.slots x) (opened p.table p.len i (entry_of (index_of (fresh p)))) (inserted (numbers p) p.slots) ≡ add_at i x p
    performs_add i x low =
        let r = room in
        let slots : inserted_slots (numbers p) p.slots x ≡ set p.slots (fresh p) (Occupied x) = ap (λ (o : Option ItemIndex). put_at o (Occupied x) p.slots) next_is_fresh in
        let table : opened p.table p.len i (entry_of (index_of (fresh p))) ≡ (add_at i x p).table =
        cond-true _ _ _ (both_true (ltb p.len (length p.table)) (leb i p.len) (lt-ltb p.len (length p.table) (omega arith)) (le-leb i p.len low)) in
        let grew = inserted_if (numbers p) p.slots (index_of (fresh p)) next_is_fresh in
        cc

  -- what stands at a place
  pub at_place : (i : ℕ) → i < p.len → (y : T) × (slice_get (walk p) i ≡ Some y)
  at_place i low = let w = walk_long order p s in nth_some (walk p) i (omega arith)

  -- taking out and writing
  module _ (i : ℕ) (y : T) (e : slice_get (walk p) i ≡ Some y) where
    pub place_below : i < p.len
    place_below = let b = nth_below (walk p) i y e in let w = walk_long order p s in omega arith

    pub held_there : held_in (numbers p) p.slots (index_of (name_at p i)) ≡ Some y
    held_there = ap held (place_holds order lawful p s i y e)

    pub performs_remove : parts (removed_slots (numbers p) p.slots (index_of (name_at p i))) (closed p.table p.len i) (removed (numbers p) p.slots (index_of (name_at p i))) ≡ remove_at i p
    performs_remove =
        let f = s.fits in let u = len_used order p s in
        let there = ap is_some held_there in
        let slots : removed_slots (numbers p) p.slots (index_of (name_at p i)) ≡ (remove_at i p).slots = cond-true _ _ _ there in
        let fewer : removed (numbers p) p.slots (index_of (name_at p i)) ≡ numbers (remove_at i p) = cond-true _ _ _ there in
        let table : closed p.table p.len i ≡ (remove_at i p).table =
        cond-true _ _ _ (both_true (leb p.len (length p.table)) (ltb i p.len) (le-leb p.len (length p.table) (omega arith)) (lt-ltb i p.len place_below)) in
        cc

    pub performs_write : (x : T) → parts (replaced_slots (numbers p) p.slots (index_of (name_at p i)) x) p.table (numbers p) ≡ write_at i x p
    performs_write x =
        let slots : replaced_slots (numbers p) p.slots (index_of (name_at p i)) x ≡ set p.slots (name_at p i) (Occupied x) = cond-true _ _ _ (ap is_some held_there) in
        cc

-- The same, told of what the calls answered and left.
module _ {T : Type 0} {order : T → T → Ordering} (lawful : LawfulOrder order) (p : Parts T) (s : Sound order p) where
  -- the item that is read at a place
  module _ (i : ℕ) (low : i < p.len) (index : ItemIndex) (named : index ≡ index_of (name_at p i)) (r : Option T) (read : r ≡ held_in (numbers p) p.slots index) where
    reads : (y : T) × ((slice_get (walk p) i ≡ Some y) × (r ≡ Some y))
    reads =
        let y = at_place lawful p s i low in
        (y.0, (y.1, read ∙ ap (held_in (numbers p) p.slots) named ∙ held_there lawful p s i y.0 y.1))

    pub reads_item : (y : T) → r ≡ Some y → slice_get (walk p) i ≡ Some y
    reads_item y e = reads.1.0 ∙ sym reads.1.1 ∙ e

    pub reads_some : r ≡ None → ⊥
    reads_some e = let f = reads.1.1 in cc

  pub taken_out_lem : (i : ℕ) → i < p.len → (index : ItemIndex) → index ≡ index_of (name_at p i) → (slots : List (ItemSlot T)) → slots ≡ removed_slots (numbers p) p.slots index
      → (table : List Index) → table ≡ closed p.table p.len i → (items : ItemSet) → items ≡ removed (numbers p) p.slots index
      → (parts slots table items ≡ remove_at i p) × Sound order (parts slots table items)
  taken_out_lem i low index named slots slots-are table table_is items items-are =
      let y = at_place lawful p s i low in
      let first = slots-are ∙ ap (removed_slots (numbers p) p.slots) named in
      let third = items-are ∙ ap (removed (numbers p) p.slots) named in
      let e : parts slots table items ≡ remove_at i p = (λ k. parts (first k) (table_is k) (third k)) ∙ performs_remove lawful p s i y.0 y.1 in
      (e, subst (Sound order) (sym e) (removed_leaves order lawful p s i y.0 y.1).sound)

  pub written : (i : ℕ) → i < p.len → (index : ItemIndex) → index ≡ index_of (name_at p i) → (x : T) → ((old : T) → slice_get (walk p) i ≡ Some old → order old x ≡ Equal)
      → (slots : List (ItemSlot T)) → slots ≡ replaced_slots (numbers p) p.slots index x
      → (parts slots p.table (numbers p) ≡ write_at i x p) × Sound order (parts slots p.table (numbers p))
  written i low index named x key slots slots-are =
      let y = at_place lawful p s i low in
      let first = slots-are ∙ ap (λ (j : ItemIndex). replaced_slots (numbers p) p.slots j x) named in
      let e : parts slots p.table (numbers p) ≡ write_at i x p = (λ k. parts (first k) p.table (numbers p)) ∙ performs_write lawful p s i y.0 y.1 x in
      let q : order x y.0 ≡ Equal = sym (lawful.alike y.0 x y.0 (key y.0 y.1)) ∙ lawful.reflexive y.0 in
      (e, subst (Sound order) (sym e) (written_leaves order lawful p s i y.0 y.1 x q).sound)

  pub past_end : (i : ℕ) → p.len ≤ i → slice_get (walk p) i ≡ None
  past_end i high = let w = walk_long order p s in nth_past (walk p) i (omega arith)

  -- writing an item in the slot where one with its key was found
  module _ (x : T) (here : stands order x (walk p) ≡ true) (index : ItemIndex) (slot : index ≡ index_of (name_at p (smaller order x (walk p)))) (holds : held_in (numbers p) p.slots index ≡ found order x (walk p))
      (r : Result T (NotHeld T)) (said : r ≡ replace_answer (numbers p) p.slots index x) where
    old : (y : T) × (found order x (walk p) ≡ Some y)
    old = some_if (found order x (walk p)) here

    overwrites : r ≡ Ok old.0
    overwrites = said ∙ ap (λ (o : Option T). ok_or o (record { item = x })) (holds ∙ old.1)

    pub overwrites_always : (none : NotHeld T) → r ≡ Err none → ⊥
    overwrites_always none e = let f = overwrites in cc

    pub overwritten : (y : T) → r ≡ Ok y → (slots : List (ItemSlot T)) → slots ≡ replaced_slots (numbers p) p.slots index x
        → (found order x (walk p) ≡ Some y) × (parts slots p.table (numbers p) ≡ write_at (smaller order x (walk p)) x p) × Sound order (parts slots p.table (numbers p))
    overwritten y e slots slots-are =
        let f = overwrites in let o = old.1 in
        let place = nth_smaller lawful x old.0 (walk p) s.ascending o in
        let key = (found_among order x (walk p) old.0 o).1 in
        let w = written (smaller order x (walk p)) (place_below lawful p s (smaller order x (walk p)) old.0 place) index slot x
        (λ z g. let same : old.0 ≡ z = cc in sym (lawful.alike x z x (ap (order x) (sym same) ∙ key)) ∙ lawful.reflexive x) slots slots-are in
        let same : y ≡ old.0 = cc in
        (o ∙ ap Some (sym same), w.0, w.1)

    pub overwritten_sound : (slots : List (ItemSlot T)) → slots ≡ replaced_slots (numbers p) p.slots index x → Sound order (parts slots p.table (numbers p))
    overwritten_sound slots slots-are = (overwritten old.0 overwrites slots slots-are).2

  -- adding an item whose key does not stand
  module _ (x : T) (room : p.len ≡ capacity p → ⊥) (r : Result ItemIndex (NoSlot T)) (said : r ≡ insert_answer (numbers p) p.slots x) where
    inserts : r ≡ Ok (index_of (fresh p))
    inserts = said ∙ ap (λ (o : Option ItemIndex). ok_or o (record { item = x })) (next_is_fresh lawful p s room)

    pub inserts_always : (none : NoSlot T) → r ≡ Err none → ⊥
    inserts_always none e = let f = inserts in cc

    module _ (index : ItemIndex) (given : r ≡ Ok index) (m : Result Index IndexRefusal) (makes : m ≡ made index) where
      index_is : index ≡ index_of (fresh p)
      index_is = let f = inserts in cc

      entry_is : m ≡ Ok (entry_of (index_of (fresh p)))
      entry_is =
          let low = fresh_low lawful p s room in
          makes ∙ ap made index_is ∙ cond-false _ _ _ (ne_eqb (fresh p) 4294967295 (λ e. omega arith))

      pub entry_always : (refusal : IndexRefusal) → m ≡ Err refusal → ⊥
      entry_always refusal e = let f = entry_is in cc

      pub added : stands order x (walk p) ≡ false → (i : ℕ) → i ≡ smaller order x (walk p) → (entry : Index) → m ≡ Ok entry
          → (slots : List (ItemSlot T)) → slots ≡ inserted_slots (numbers p) p.slots x
          → (table : List Index) → table ≡ opened p.table p.len i entry → (items : ItemSet) → items ≡ inserted (numbers p) p.slots
          → (parts slots table items ≡ add_at i x p) × Sound order (parts slots table items)
      added absent i place entry e slots slots-are table table_is items items-are =
          let f = entry_is in
          let same : entry ≡ entry_of (index_of (fresh p)) = cc in
          let second = table_is ∙ ap (opened p.table p.len i) same in
          let most = smaller_most lawful x (walk p) in let w = walk_long order p s in
          let after : parts slots table items ≡ add_at i x p = (λ k. parts (slots-are k) (second k) (items-are k)) ∙ performs_add lawful p s room i x (omega arith) in
          let there = after ∙ ap (λ (j : ℕ). add_at j x p) place in
          (after, subst (Sound order) (sym there) (added_leaves lawful p s x (none_if (found order x (walk p)) absent) room).leaves.sound)
