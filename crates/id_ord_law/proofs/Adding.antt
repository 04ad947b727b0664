-- Sound parts stay sound where an item is added.
use Rattle.std.proofs.Common.{◌≡◌, ℕ, ◌+◌, ◌<◌, ◌≤◌, min, Bool, true, false, cond, List, [], ◌∷◌, ◌++◌, length, take, drop, set, Some, None, Ordering, sym, refl, ap, ◌∙◌, subst, ap₂, inl, inr, arith}
use lib.Seq.{take-set-lt}
use Rattle.std.proofs.lemmas.List.Edits.{length-insert}
use Rattle.std.proofs.lemmas.List.{length-set, length-drop, length-append, length_push, take_at, take_more_set, get_or_push, get_or_append_left, get_or_past}
use Rattle.std.proofs.lemmas.Bool.{eqb-true, eqb-false, cases_lt}
use Rattle.std.specs.List.{insert}
use Rattle.id_ord_item.specs.Order.{LawfulOrder}
use Rattle.item_set.proofs.Keeping.{set_keeps, set_here, all_held, sound_at_end, sound_at_head}
use Rattle.item_set.proofs.Slots.{vacant_below, at_within}
use Rattle.item_set.specs.Chain.{Chain, SoundSet}
use Rattle.item_set.specs.Slots.{at, index_of, sentinel, next_free, vacant_next}
use Rattle.item_set.specs.Store.{none_free}
use Rattle.item_set.specs.declared.index.ItemIndex.{ItemIndex}
use Rattle.item_set.specs.declared.slot.ItemSlot.{ItemSlot}
use Rattle.item_set.specs.declared.slot.ItemSlot.TheVariants.{Occupied, Vacant}
use Rattle.index_table.proofs.Walking.{Names}
use Rattle.index_table.specs.Entry.{entry_of}
use Rattle.index_table.specs.Walk.{smaller}
use Rattle.index_table.specs.declared.entry.Index.{Index}
use Rattle.id_ord_law.specs.Parts.{limit, Parts, parts, numbers, live, entries, walk, capacity, Holds, Sound}
use Rattle.id_ord_law.specs.Standing.{found, placed_in}
use Rattle.id_ord_law.specs.Step.{add_at}
use Rattle.id_ord_law.proofs.Naming.{seen_vacant, names_inserted}
use Rattle.id_ord_law.proofs.Places.{inserted_placed, smaller_most}
use Rattle.id_ord_law.proofs.Sorting.{ascending_placed}
use Rattle.id_ord_law.proofs.Steps.{Leaves, leaves, live_long, entries_long, walk_long}

module _ {T : Type 0} where
  -- the same, by whether no slot is free
  abbrev add_with : Bool → ℕ → T → Parts T → Parts T
  add_with none i x p = parts (set p.slots (cond none p.used p.head.0) (Occupied x))
      (insert (entries p) i (entry_of (index_of (cond none p.used p.head.0))) ++ drop (p.len + 1) p.table)
      (record {
        used = cond none (p.used + 1) p.used;
        len = p.len + 1;
        free_head = cond none p.head (next_free (at p.slots p.head.0));
      })

  -- slot n was vacant and took x, and the others are as they were
  record Took (slots slots' : List (ItemSlot T)) (n : ℕ) (x : T) : Type 0 where
    next : ItemIndex
    free : at slots n ≡ Vacant next
    takes : at slots' n ≡ Occupied x
    keeps : (k : ℕ) → (k ≡ n → ⊥) → at slots' k ≡ at slots k

  took_at_end : (slots : List (ItemSlot T)) (x : T) (n : ℕ) → length slots ≡ n → Took slots (slots ++ Occupied x ∷ []) n x
  took_at_end slots x n long = record {
    next = sentinel;
    free = get_or_past slots n (Vacant sentinel) (omega arith);
    takes = get_or_push slots (Occupied x) (Vacant sentinel) n long;
    keeps = λ k other. elim (cases_lt k (length slots)) [
      | inl low ↦ get_or_append_left slots (Occupied x ∷ []) (Vacant sentinel) k low
      | inr high ↦
          let l = length_push slots (Occupied x) in
          let far : length slots + 1 ≤ k = elim (cases_lt k (length slots + 1)) [ inl c ↦ absurd (other (omega arith)) | inr c ↦ c ] in
          get_or_past (slots ++ Occupied x ∷ []) k (Vacant sentinel) (omega arith) ∙ sym (get_or_past slots k (Vacant sentinel) high)
    ];
  }

  took_at_head : (slots : List (ItemSlot T)) (x : T) (n : ℕ) (next : ItemIndex) → n < length slots → at slots n ≡ Vacant next → Took slots (set slots n (Occupied x)) n x
  took_at_head slots x n next inside free = record {
    next = next;
    free = free;
    takes = set_here slots n (Occupied x) inside;
    keeps = set_keeps slots n (Occupied x);
  }

module _ {T : Type 0} {order : T → T → Ordering} (lawful : LawfulOrder order) (p : Parts T) (s : Sound order p) (x : T) (absent : found order x (walk p) ≡ None) where
  pub record Added (q : Parts T) : Type 0 where
    pub leaves : Leaves order p q (placed_in order x (walk p))
    pub onward : (n : ℕ) (y : T) → Holds p n y → Holds q n y

  place : ℕ
  place = smaller order x (walk p)

  -- the slots, the numbers and the entry after it
  added : (q : Parts T) (n : ℕ) → Took (live p) (live q) n x → SoundSet (numbers q) q.slots → q.len ≡ p.len + 1 → q.used ≤ capacity p → p.len + 1 ≤ capacity p
      → length q.slots ≡ length p.slots → q.table ≡ insert (entries p) (smaller order x (walk p)) (entry_of (index_of n)) ++ drop (p.len + 1) p.table → Added q
  added q n took store len fits room long table = record {
    leaves = leaves order p q (placed_in order x (walk p)) (subst (λ (c : ℕ). q.used ≤ c) (sym same) fits) store
        (subst (λ (w : List T). Names (live q) (entries q) w) (inserted_placed lawful x (walk p) s.ascending)
        (subst (λ (es : List Index). Names (live q) es (insert (walk p) i x)) (sym front)
        (names_inserted lawful (live p) (entries p) (walk p) s.named (live q) (entry_of (index_of n)) x i
        (seen_vacant (live p) (live q) n took.next took.free took.keeps (entries p) (walk p) s.named) took.takes)))
        (ascending_placed order lawful x (walk p) absent s.ascending) same;
    onward = λ m y holds. took.keeps m (λ e. let moved = ap (at (live p)) e in let f = took.free in cc) ∙ holds;
  }
    where
      i : ℕ
      i = smaller order x (walk p)

      more : length (insert (entries p) i (entry_of (index_of n))) ≡ p.len + 1
      more =
          let most = smaller_most lawful x (walk p) in let w = walk_long order p s in let l = entries_long order p s in
          length-insert (entries p) i (entry_of (index_of n)) (omega arith) ∙ ap (λ (k : ℕ). k + 1) l

      front : entries q ≡ insert (entries p) i (entry_of (index_of n))
      front =
          ap₂ (λ (k : ℕ) (t : List Index). take k t) len table
          ∙ take_at (insert (entries p) i (entry_of (index_of n))) (drop (p.len + 1) p.table) (p.len + 1) more

      table_long : length q.table ≡ length p.table
      table_long =
          let m = more in let rest = length-drop (p.len + 1) p.table in
          ap length table ∙ length-append (insert (entries p) i (entry_of (index_of n))) (drop (p.len + 1) p.table) ∙ omega arith

      same : capacity q ≡ capacity p
      same = ap₂ (λ (j k : ℕ). min (min j k) limit) long table_long

  pub added_leaves : (p.len ≡ capacity p → ⊥) → Added (add_at (smaller order x (walk p)) x p)
  added_leaves free = go (none_free (numbers p)) refl s.store.free s.store.linked s.store.enough
    where
      go : (none : Bool) → none_free (numbers p) ≡ none → (chain : List ℕ) → Chain (live p) p.head chain → length chain + p.len ≡ length (live p) → Added (add_with none (smaller order x (walk p)) x p)
      go true e chain linked enough =
          let ended = eqb-true p.head.0 4294967295 e in
          let l = live_long order p s in let fits = s.fits in
          let all = all_held (numbers p) p.slots s.store ended in
          let low : p.used < capacity p = elim (cases_lt p.used (capacity p)) [ inl c ↦ c | inr c ↦ absurd (free (omega arith)) ] in
          let room : p.used < length p.slots = omega arith in
          added (add_with true (smaller order x (walk p)) x p) p.used
          (subst (λ (l : List (ItemSlot T)). Took (live p) l p.used x) (sym (take_more_set p.slots p.used (Occupied x) room)) (took_at_end (live p) x p.used l))
          (sound_at_end (numbers p) p.slots s.store x ended room) refl (omega arith) (omega arith)
          (length-set p.slots p.used (Occupied x)) refl
      go false e [] linked enough = absurd (eqb-false p.head.0 4294967295 e (ap (λ (i : ItemIndex). i.0) linked))
      go false e (c ∷ chain) linked enough =
          let l = live_long order p s in let fits = s.fits in
          let h = p.head.0 in let next = next_free (at p.slots h) in
          let v = vacant_below (live p) c (next_free (at (live p) c)) linked.2 in
          let same : c ≡ h = sym (ap (λ (i : ItemIndex). i.0) linked.0) in
          let inside : h < length (live p) = omega arith in
          let within = at_within p.used p.slots h inside in
          let goes : vacant_next (live p) h ≡ Some next =
          subst (λ (m : ℕ). vacant_next (live p) m ≡ Some (next_free (at (live p) m))) same linked.2 ∙ ap (λ (slot : ItemSlot T). Some (next_free slot)) within in
          let here = vacant_below (live p) h next goes in
          added (add_with false (smaller order x (walk p)) x p) h
          (subst (λ (l : List (ItemSlot T)). Took (live p) l h x) (sym (take-set-lt p.used p.slots h (Occupied x) (omega arith))) (took_at_head (live p) x h next inside here.1))
          (sound_at_head (numbers p) p.slots s.store x next (eqb-false p.head.0 4294967295 e) goes) refl fits (omega arith)
          (length-set p.slots h (Occupied x)) refl
