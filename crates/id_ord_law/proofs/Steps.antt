-- Sound parts stay sound where an item is written or taken out.
use Rattle.std.proofs.Common.{◌≡◌, ℕ, ◌-◌, ◌<◌, ◌≤◌, min, List, ◌++◌, length, take, drop, set, Some, Ordering, Equal, sym, ap, ◌∙◌, subst, ap₂, inl, inr, arith, lit≤}
use lib.Seq.{take-set-lt}
use Rattle.std.proofs.lemmas.List.Edits.{length-remove}
use Rattle.std.proofs.lemmas.List.{length-set, length-take, length-drop, length-append, take_at}
use Rattle.std.proofs.lemmas.Bool.{cases_eq}
use Rattle.std.specs.List.{remove, slice_get}
use Rattle.id_ord_item.specs.Order.{LawfulOrder}
use Rattle.item_set.proofs.Keeping.{set_keeps, set_here, sound_removed, sound_replaced}
use Rattle.item_set.proofs.Slots.{occupied_below}
use Rattle.item_set.specs.Chain.{SoundSet}
use Rattle.item_set.specs.Slots.{at, index_of}
use Rattle.item_set.specs.declared.slot.ItemSlot.{ItemSlot}
use Rattle.item_set.specs.declared.slot.ItemSlot.TheVariants.{Occupied, Vacant}
use Rattle.index_table.proofs.Walking.{Names, names_length, names_walk, named_if_names}
use Rattle.index_table.specs.Walk.{Ascending}
use Rattle.index_table.specs.declared.entry.Index.{Index}
use Rattle.id_ord_law.specs.Parts.{limit, Parts, numbers, live, entries, name_at, walk, capacity, Holds, Sound}
use Rattle.id_ord_law.specs.Step.{remove_at, write_at}
use Rattle.id_ord_law.proofs.Keys.{nth_below, ascending_removed}
use Rattle.id_ord_law.proofs.Naming.{holds_at, names_written, names_removed}
use Rattle.id_ord_law.proofs.Places.{ascending_set}

-- every slot in use has a number below SENTINEL
pub limit_low : limit ≤ 4294967295
unfolding limit
limit_low = lit≤ tt

module _ {T : Type 0} (order : T → T → Ordering) where
  -- what a step leaves, with the walk after it
  pub record Leaves (p q : Parts T) (w : List T) : Type 0 where
    pub sound : Sound order q
    pub walks : walk q ≡ w
    pub room : capacity q ≡ capacity p

  -- what a slot holds after a step, it held before under the same key
  abbrev pub Back : Parts T → Parts T → Type 0
  Back p q = (n : ℕ) (y : T) → Holds q n y → (z : T) × (Holds p n z × (order y z ≡ Equal))

  module _ (p : Parts T) (s : Sound order p) where
    pub live_long : length (live p) ≡ p.used
    live_long = let f = s.fits in let l = length-take p.used p.slots in omega arith

    pub len_used : p.len ≤ p.used
    len_used = let l = live_long in let e = s.store.enough in omega arith

    pub entries_long : length (entries p) ≡ p.len
    entries_long = let f = s.fits in let l = length-take p.len p.table in let u = len_used in omega arith

    pub walk_long : length (walk p) ≡ p.len
    walk_long = names_length (live p) (entries p) (walk p) s.named ∙ entries_long

  pub leaves : (p q : Parts T) (w : List T) → q.used ≤ capacity q → SoundSet (numbers q) q.slots → Names (live q) (entries q) w → Ascending order w → capacity q ≡ capacity p
      → Leaves p q w
  leaves p q w fits store named up room =
      let is = names_walk (live q) (entries q) w named in
      record {
        sound = record { fits = fits; store = store; named = named_if_names (live q) (entries q) w named; ascending = subst (Ascending order) (sym is) up };
        walks = is;
        room = room;
      }

  module _ (lawful : LawfulOrder order) (p : Parts T) (s : Sound order p) (i : ℕ) (y : T) (e : slice_get (walk p) i ≡ Some y) where
    pub place_holds : Holds p (name_at p i) y
    place_holds = holds_at (live p) (entries p) (walk p) i y s.named e

    inside : name_at p i < p.used
    inside = let h = occupied_below (live p) (name_at p i) y place_holds in let l = live_long p s in omega arith

    live_set : (slot : ItemSlot T) → take p.used (set p.slots (name_at p i) slot) ≡ set (live p) (name_at p i) slot
    live_set slot = take-set-lt p.used p.slots (name_at p i) slot inside

    -- an item written in the place of one with its key
    module _ (x : T) (q : order x y ≡ Equal) where
      pub written_leaves : Leaves p (write_at i x p) (set (walk p) i x)
      written_leaves =
          let long = length-set p.slots (name_at p i) (Occupied x) in let fits = s.fits in
          leaves p (write_at i x p) (set (walk p) i x) (omega arith)
          (sound_replaced (numbers p) p.slots s.store (index_of (name_at p i)) y x place_holds)
          (subst (λ (l : List (ItemSlot T)). Names l (entries p) (set (walk p) i x)) (sym (live_set (Occupied x))) (names_written lawful (live p) (entries p) (walk p) s.named x y i s.ascending e))
          (ascending_set lawful x y (walk p) i s.ascending e q)
          (ap (λ (k : ℕ). min (min k (length p.table)) limit) long)

      pub written_back : Back p (write_at i x p)
      written_back m v holds =
          let now : at (set (live p) (name_at p i) (Occupied x)) m ≡ Occupied v = ap (λ (l : List (ItemSlot T)). at l m) (sym (live_set (Occupied x))) ∙ holds in
          elim (cases_eq m (name_at p i)) [
            | inl same ↦
                let put = set_here (live p) (name_at p i) (Occupied x) (occupied_below (live p) (name_at p i) y place_holds) in
                let moved = ap (at (set (live p) (name_at p i) (Occupied x))) same in
                let one : v ≡ x = cc in
                (y, (ap (at (live p)) same ∙ place_holds, ap (λ (u : T). order u y) one ∙ q))
            | inr other ↦ (v, (sym (set_keeps (live p) (name_at p i) (Occupied x) m other) ∙ now, lawful.reflexive v))
          ]

    -- an item taken out
    table_less : length (remove (entries p) i) ≡ p.len - 1
    table_less = let l = entries_long p s in let b = nth_below (walk p) i y e in let w = walk_long p s in let r = length-remove (entries p) i (omega arith) in omega arith

    pub removed_leaves : Leaves p (remove_at i p) (remove (walk p) i)
    removed_leaves =
        let fits = s.fits in let u = len_used p s in let low = limit_low in
        let long = length-set p.slots (name_at p i) (Vacant p.head) in
        let back = length-append (remove (entries p) i) (drop (p.len - 1) p.table) in
        let less = table_less in let rest = length-drop (p.len - 1) p.table in
        let same : length (remove (entries p) i ++ drop (p.len - 1) p.table) ≡ length p.table = omega arith in
        let few : length (live p) ≤ 4294967295 = let l = live_long p s in omega arith in
        leaves p (remove_at i p) (remove (walk p) i) (omega arith)
        (sound_removed (numbers p) p.slots s.store (index_of (name_at p i)) y few place_holds)
        (subst (λ (es : List Index). Names (take p.used (set p.slots (name_at p i) (Vacant p.head))) es (remove (walk p) i)) (sym (take_at (remove (entries p) i) (drop (p.len - 1) p.table) (p.len - 1) less))
        (subst (λ (l : List (ItemSlot T)). Names l (remove (entries p) i) (remove (walk p) i)) (sym (live_set (Vacant p.head)))
        (names_removed lawful (live p) (entries p) (walk p) s.named (Vacant p.head) y i s.ascending e)))
        (ascending_removed order (walk p) i s.ascending)
        (ap₂ (λ (j k : ℕ). min (min j k) limit) long same)

    pub removed_back : Back p (remove_at i p)
    removed_back m v holds =
        let now : at (set (live p) (name_at p i) (Vacant p.head)) m ≡ Occupied v = ap (λ (l : List (ItemSlot T)). at l m) (sym (live_set (Vacant p.head))) ∙ holds in
        elim (cases_eq m (name_at p i)) [
          | inl same ↦
              let put = set_here (live p) (name_at p i) (Vacant p.head) (occupied_below (live p) (name_at p i) y place_holds) in
              let moved = ap (at (set (live p) (name_at p i) (Vacant p.head))) same in
              cc
          | inr other ↦ (v, (sym (set_keeps (live p) (name_at p i) (Vacant p.head) m other) ∙ now, lawful.reflexive v))
        ]
