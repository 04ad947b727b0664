-- A compaction gives each occupied slot the number of the occupied slots below it, and keeps the walk.
use Rattle.std.proofs.Common.{◌≡◌, ℕ, zero, suc, ◌-◌, ◌≤◌, min, List, [], ◌∷◌, ◌++◌, map, length, take, drop, replicate, Ordering, sym, refl, ap, ◌∙◌, subst, ap₂, arith}
use Rattle.std.proofs.lemmas.List.{length-append, length-drop, length-map, length-replicate, take_at}
use Rattle.item_set.proofs.Packing.{length_packed, occupied_le}
use Rattle.item_set.specs.Chain.{SoundSet}
use Rattle.item_set.specs.Compact.{packed}
use Rattle.item_set.specs.Slots.{at, index_of, sentinel, occupied}
use Rattle.item_set.specs.declared.slot.ItemSlot.{ItemSlot}
use Rattle.item_set.specs.declared.slot.ItemSlot.TheVariants.{Occupied, Vacant}
use Rattle.index_table.proofs.Walking.{Names}
use Rattle.index_table.specs.Entry.{entry_of}
use Rattle.index_table.specs.Walk.{seen}
use Rattle.index_table.specs.declared.entry.Index.{Index}
use Rattle.id_ord_law.specs.Parts.{limit, Parts, numbers, live, entries, names, walk, capacity, Holds, Sound}
use Rattle.id_ord_law.specs.Step.{new_number, compacted}
use Rattle.id_ord_law.proofs.Steps.{Leaves, leaves, live_long, len_used, entries_long}

module _ {T : Type 0} where
  -- where an occupied slot is among the packed ones
  packed_holds : (slots : List (ItemSlot T)) (n : ℕ) (x : T) → at slots n ≡ Occupied x → at (packed slots) (occupied (take n slots)) ≡ Occupied x
  packed_holds [] n x holds = cc
  packed_holds (Occupied y ∷ slots) zero x holds = holds
  packed_holds (Occupied y ∷ slots) (suc n) x holds = packed_holds slots n x holds
  packed_holds (Vacant next ∷ slots) zero x holds = cc
  packed_holds (Vacant next ∷ slots) (suc n) x holds = packed_holds slots n x holds

  occupied_packed : (slots : List (ItemSlot T)) → occupied (packed slots) ≡ occupied slots
  occupied_packed [] = refl
  occupied_packed (Occupied y ∷ slots) = ap suc (occupied_packed slots)
  occupied_packed (Vacant next ∷ slots) = occupied_packed slots

  -- where all slots are occupied, each has its own number already
  all_occupied : (slots : List (ItemSlot T)) (n : ℕ) → occupied slots ≡ length slots → n ≤ length slots → occupied (take n slots) ≡ n
  all_occupied slots zero count inside = refl
  all_occupied [] (suc n) count inside = absurd (omega arith)
  all_occupied (Occupied y ∷ slots) (suc n) count inside = ap suc (all_occupied slots n (omega arith) (omega arith))
  all_occupied (Vacant next ∷ slots) (suc n) count inside = let most = occupied_le slots in absurd (omega arith)

  renamed : List (ItemSlot T) → List Index → List Index
  renamed slots es = map (λ n. entry_of (index_of (occupied (take n slots)))) (map (λ entry. entry.0.0) es)

  seen_packed : (slots : List (ItemSlot T)) (es : List Index) (w : List T) → Names slots es w → map (seen (packed slots)) (renamed slots es) ≡ map (seen slots) es
  unfolding renamed
  seen_packed slots [] w named = refl
  seen_packed slots (d ∷ es) [] named = cc
  seen_packed slots (d ∷ es) (x ∷ w) named =
      let held : seen slots d ≡ Occupied x = cc in let rest : Names slots es w = cc in
      ap₂ (λ (s : ItemSlot T) (l : List (ItemSlot T)). s ∷ l) (packed_holds slots d.0.0 x held ∙ sym held) (seen_packed slots es w rest)

module _ {T : Type 0} {order : T → T → Ordering} (p : Parts T) (s : Sound order p) where
  packed_long : length (packed (live p)) ≡ p.len
  packed_long = length_packed (live p) ∙ s.store.count

  rest : List (ItemSlot T)
  rest = replicate (p.used - p.len) (Vacant sentinel) ++ drop p.used p.slots

  live_packed : live (compacted p) ≡ packed (live p)
  unfolding rest
  live_packed = take_at (packed (live p)) rest p.len packed_long

  slots_long : length (compacted p).slots ≡ length p.slots
  slots_long =
      let free : ItemSlot T = Vacant sentinel in
      let a = length-append (packed (live p)) (replicate (p.used - p.len) free ++ drop p.used p.slots) in
      let b = length-append (replicate (p.used - p.len) free) (drop p.used p.slots) in
      let c = length-replicate (p.used - p.len) free in let d = length-drop p.used p.slots in
      let long = packed_long in let fits = s.fits in let u = len_used order p s in omega arith

  renamed_long : length (renamed (live p) (entries p)) ≡ p.len
  unfolding renamed
  renamed_long =
      length-map (names p) (λ n. entry_of (index_of (new_number p n))) ∙ length-map (entries p) (λ entry. entry.0.0) ∙ entries_long order p s

  entries_renamed : entries (compacted p) ≡ renamed (live p) (entries p)
  unfolding renamed
  entries_renamed = take_at (renamed (live p) (entries p)) (drop p.len p.table) p.len renamed_long

  table_long : length (compacted p).table ≡ length p.table
  unfolding renamed
  table_long =
      let a = length-append (renamed (live p) (entries p)) (drop p.len p.table) in
      let b = length-drop p.len p.table in
      let long = renamed_long in let fits = s.fits in let u = len_used order p s in omega arith

  pub compacted_leaves : Leaves order p (compacted p) (walk p)
  compacted_leaves =
      leaves order p (compacted p) (walk p) (subst (λ (c : ℕ). p.len ≤ c) (sym room) (omega (arith, s.fits, len_used order p s))) store
      (ap₂ (λ (l : List (ItemSlot T)) (es : List Index). map (seen l) es) live_packed entries_renamed ∙ seen_packed (live p) (entries p) (walk p) s.named ∙ s.named)
      s.ascending room
    where
      room : capacity (compacted p) ≡ capacity p
      room = ap₂ (λ (j k : ℕ). min (min j k) limit) slots_long table_long

      store : SoundSet (numbers (compacted p)) (compacted p).slots
      store = record {
        count = ap occupied live_packed ∙ occupied_packed (live p) ∙ s.store.count;
        free = [];
        linked = refl;
        enough = let e = ap length live_packed in let l = packed_long in omega arith;
      }

  pub compacted_holds : (n : ℕ) (x : T) → Holds p n x → Holds (compacted p) (new_number p n) x
  compacted_holds n x holds = ap (λ (l : List (ItemSlot T)). at l (new_number p n)) live_packed ∙ packed_holds (live p) n x holds

  -- where no slot is vacant, nothing would move
  pub number_same : (n : ℕ) → p.used ≡ p.len → n ≤ p.used → new_number p n ≡ n
  number_same n none inside = let l = live_long order p s in let c = s.store.count in all_occupied (live p) n (omega arith) (omega arith)
