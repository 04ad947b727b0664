-- Every call on a map that agrees with the machine fits it.
use Rattle.std.proofs.Common.{◌≡◌, ℕ, ◌-◌, Bool, true, false, cond, eqb, ltb, List, [], ◌∷◌, is_some, Some, None, Ok, Err, Option, Ordering, Equal, unwrap_or, sym, refl, ap, ◌∙◌, subst, ap₂, subst₂, arith}
use Rattle.std.proofs.lemmas.Bool.{eqb-true, eqb-false}
use Rattle.std.specs.Option.{option_map}
use Rattle.std.specs.Ordering.{is_eq}
use Rattle.std.specs.List.{slice_get}
use Rattle.id_ord_item.specs.Order.{LawfulOrder}
use Rattle.item_set.proofs.Slots.{occupied_below}
use Rattle.item_set.specs.Store.{cleared}
use Rattle.item_set.specs.declared.compaction.CompactRefusal.TheVariants.{Short}
use Rattle.item_set.specs.declared.remap.IndexRemap.TheVariants.{Identity, Permuted}
use Rattle.index_table.specs.Walk.{Ascending, smaller}
use Rattle.id_ord_law.specs.Law.{SlotOf, heard}
use Rattle.id_ord_law.specs.Parts.{Parts, parts, live, name_at, walk, capacity}
use Rattle.id_ord_law.specs.Standing.{Rule, Call, Answer, Said, given, found, stands, without, placed_in, in_order, added, added_said, replaced, guarded, guarded_said, taken_out, kept, kept_said, after, said}
use Rattle.id_ord_law.specs.Step.{Answered, Outcome, add_at, remove_at, write_at, new_number, compacted, adding, removing, replacing, guarding, popping, retaining, shrinking, step}
use Rattle.id_ord_law.proofs.Adding.{added_leaves}
use Rattle.id_ord_law.proofs.Agreeing.{Agrees, Fits, Still, agrees_empty, ascends, found_set, len_set, slot_of, unchanged, changed, grew}
use Rattle.id_ord_law.proofs.Keys.{none_if, found_among, without_absent}
use Rattle.id_ord_law.proofs.Places.{nth_smaller, removed_without, set_placed}
use Rattle.id_ord_law.proofs.Retaining.{Retained, retain_leaves, retain_says, retain_still}
use Rattle.id_ord_law.proofs.Shrinking.{compacted_leaves, compacted_holds, number_same}
use Rattle.id_ord_law.proofs.Sorting.{in_order_without, in_order_ascending}
use Rattle.id_ord_law.proofs.Steps.{Leaves, live_long, written_leaves, written_back, removed_leaves, removed_back}

module _ {T : Type 0} {order : T → T → Ordering} (lawful : LawfulOrder order) (c : ℕ) (p : Parts T) (items : List T) (a : Agrees order c p items) where
  -- adding
  fits_adding : (x : T) (ok : Answered T) → Still order ok → Fits order c p (added_said order c x (heard ok) items) (added order c x items) (adding order x ok p)
  fits_adding x ok still =
      subst₂ (λ (b d : Bool). Fits order c p (cond b (Answer.duplicate x tt) (cond d (Answer.full x) (heard ok))) (cond b items (cond d items (x ∷ items))) (adding order x ok p))
      (ap is_some (found_set order lawful c p items a x)) (ap₂ eqb (len_set order lawful c p items a) (sym a.room))
      (go (stands order x (walk p)) refl (eqb p.len (capacity p)) refl)
    where
      i : ℕ
      i = smaller order x (walk p)

      outcome : Bool → Bool → Outcome T
      outcome b d = cond b (Answer.duplicate x (name_at p (smaller order x (walk p))), p) (cond d (Answer.full x, p) (ok, add_at (smaller order x (walk p)) x p))

      go : (b : Bool) → stands order x (walk p) ≡ b → (d : Bool) → eqb p.len (capacity p) ≡ d
          → Fits order c p (cond b (Answer.duplicate x tt) (cond d (Answer.full x) (heard ok))) (cond b items (cond d items (x ∷ items))) (outcome b d)
      go true e d f = unchanged order lawful c p items a (Answer.duplicate x (name_at p (smaller order x (walk p)))) (λ q n. refl)
      go false e true f = unchanged order lawful c p items a (Answer.full x) (λ q n. refl)
      go false e false f =
          let r = added_leaves lawful p a.sound x (none_if (found order x (walk p)) e) (eqb-false p.len (capacity p) f) in
          grew order lawful c p items a ok (add_at (smaller order x (walk p)) x p) (x ∷ items) still
          (subst (Leaves order p (add_at (smaller order x (walk p)) x p)) (ap (placed_in order x) a.walks) r.leaves) r.onward

  -- taking out the item at a place, that has the key of k
  fits_cut : (k y : T) (i : ℕ) (answer : Answered T) → Still order answer → slice_get (walk p) i ≡ Some y → order k y ≡ Equal
      → Fits order c p (heard answer) (without order k items) (answer, remove_at i p)
  fits_cut k y i answer still e q =
      changed order lawful c p items a answer (remove_at i p) (without order k items) still
      (subst (Leaves order p (remove_at i p))
      (removed_without lawful k y (walk p) i a.sound.ascending e q ∙ ap (without order k) a.walks ∙ sym (in_order_without order lawful k items (ascends order lawful c p items a)))
      (removed_leaves order lawful p a.sound i y e))
      (removed_back order lawful p a.sound i y e)

  fits_removing : (k : T) (otherwise : Answered T) → Still order otherwise → Fits order c p (given (found order k items) (heard otherwise)) (without order k items) (removing order k otherwise p)
  fits_removing k otherwise still =
      subst (λ (o : Option T). Fits order c p (given o (heard otherwise)) (without order k items) (removing order k otherwise p)) (found_set order lawful c p items a k)
      (go (found order k (walk p)) refl)
    where
      outcome : Option T → Outcome T
      outcome o = unwrap_or (option_map (λ old. (Answer.gave old, remove_at (smaller order k (walk p)) p)) o) (otherwise, p)

      go : (o : Option T) → found order k (walk p) ≡ o → Fits order c p (given o (heard otherwise)) (without order k items) (outcome o)
      go None e =
          subst (λ (later : List T). Fits order c p (heard otherwise) later (otherwise, p)) (sym (without_absent order k items (sym (found_set order lawful c p items a k) ∙ e)))
          (unchanged order lawful c p items a otherwise still)
      go (Some y) e =
          fits_cut k y (smaller order k (walk p)) (Answer.gave y) (λ q n. refl)
          (nth_smaller lawful k y (walk p) a.sound.ascending e) (found_among order k (walk p) y e).1

  fits_popping : (i : ℕ) → Fits order c p (given (slice_get (walk p) i) Answer.none) (taken_out order (slice_get (walk p) i) items) (popping order i p)
  fits_popping i = go (slice_get (walk p) i) refl
    where
      outcome : Option T → Outcome T
      outcome o = unwrap_or (option_map (λ old. (Answer.gave old, remove_at i p)) o) (Answer.none, p)

      go : (o : Option T) → slice_get (walk p) i ≡ o → Fits order c p (given o Answer.none) (taken_out order o items) (outcome o)
      go None e = unchanged order lawful c p items a Answer.none (λ q n. refl)
      go (Some y) e = fits_cut y y i (Answer.gave y) (λ q n. refl) e (lawful.reflexive y)

  -- writing an item in the place of the one with its key
  fits_replacing : (x : T) (answer : T → Answered T) (otherwise : Outcome T) (says : Said T) (later : List T) → ((y : T) → Still order (answer y)) → Fits order c p says later otherwise
      → Fits order c p (unwrap_or (option_map (λ y. heard (answer y)) (found order x items)) says) (replaced order x later items) (replacing order x answer otherwise p)
  fits_replacing x answer otherwise says later still other =
      subst (λ (o : Option T). Fits order c p (unwrap_or (option_map (λ y. heard (answer y)) o) says) (cond (is_some o) (x ∷ without order x items) later) (replacing order x answer otherwise p)) (found_set order lawful c p items a x)
      (go (found order x (walk p)) refl)
    where
      outcome : Option T → Outcome T
      outcome o = unwrap_or (option_map (λ old. (answer old, write_at (smaller order x (walk p)) x p)) o) otherwise

      go : (o : Option T) → found order x (walk p) ≡ o
          → Fits order c p (unwrap_or (option_map (λ y. heard (answer y)) o) says) (cond (is_some o) (x ∷ without order x items) later) (outcome o)
      go None e = other
      go (Some y) e =
          let i = smaller order x (walk p) in
          let at = nth_smaller lawful x y (walk p) a.sound.ascending e in
          let q = (found_among order x (walk p) y e).1 in
          changed order lawful c p items a (answer y) (write_at i x p) (x ∷ without order x items) (still y)
          (subst (Leaves order p (write_at i x p))
          (set_placed lawful x y (walk p) i a.sound.ascending at q
          ∙ ap (λ (w : List T). placed_in order x (without order x w)) a.walks
          ∙ ap (placed_in order x) (sym (in_order_without order lawful x items (ascends order lawful c p items a))))
          (written_leaves order lawful p a.sound i y at x q))
          (written_back order lawful p a.sound i y at x q)

  fits_guarding : (taken x : T) (answer : T → Answered T) → ((y : T) → Still order (answer y))
      → Fits order c p (guarded_said order (λ y. heard (answer y)) taken x items) (guarded order taken x items) (guarding order taken x answer p)
  fits_guarding taken x answer still = go (is_eq (order taken x))
    where
      go : (b : Bool) → Fits order c p (cond b (unwrap_or (option_map (λ y. heard (answer y)) (found order x items)) (Answer.stale_offered x)) (Answer.key_changed x))
          (cond b (replaced order x items items) items) (cond b (replacing order x answer (Answer.stale_offered x, p) p) (Answer.key_changed x, p))
      go true = fits_replacing x answer (Answer.stale_offered x, p) (Answer.stale_offered x) items still (unchanged order lawful c p items a (Answer.stale_offered x) (λ q n. refl))
      go false = unchanged order lawful c p items a (Answer.key_changed x) (λ q n. refl)

  -- a look at the item of a key
  fits_looking : (k : T) (otherwise : Answered T) → Still order otherwise → Fits order c p (given (found order k items) (heard otherwise)) items (given (found order k (walk p)) otherwise, p)
  fits_looking k otherwise still =
      subst (λ (o : Option T). Fits order c p (given o (heard otherwise)) items (given (found order k (walk p)) otherwise, p)) (found_set order lawful c p items a k)
      (go (found order k (walk p)))
    where
      go : (o : Option T) → Fits order c p (given o (heard otherwise)) items (given o otherwise, p)
      go None = unchanged order lawful c p items a otherwise still
      go (Some y) = unchanged order lawful c p items a (Answer.gave y) (λ q n. refl)

  fits_retaining : (rule : Rule T) → Fits order c p (kept_said order rule [] (in_order order items)) (kept order rule [] (in_order order items)) (retaining order rule [] 0 (walk p) p)
  fits_retaining rule =
      subst (λ (w : List T). Fits order c p (kept_said order rule [] w) (kept order rule [] w) (retaining order rule [] 0 (walk p) p)) a.walks
      (subst (λ (says : Said T). Fits order c p says (kept order rule [] (walk p)) (retaining order rule [] 0 (walk p) p)) (retain_says order rule [] 0 (walk p) p)
      (changed order lawful c p items a (retaining order rule [] 0 (walk p) p).0 (retaining order rule [] 0 (walk p) p).1 (kept order rule [] (walk p)) (retain_still order rule [] 0 (walk p) p)
      (subst (Leaves order p (retaining order rule [] 0 (walk p) p).1) (sym (in_order_ascending order lawful (kept order rule [] (walk p)) (subst (Ascending order) r.leaves.walks r.leaves.sound.ascending))) r.leaves)
      r.back))
    where
      r : Retained lawful p (retaining order rule [] 0 (walk p) p).1 (kept order rule [] (walk p))
      r = retain_leaves lawful rule [] 0 (walk p) p [] a.sound refl refl

  fits_shrinking : (scratch : ℕ) → Fits order c p (Answer.shrunk tt) items (shrinking order scratch p)
  fits_shrinking scratch = go (eqb p.used p.len) refl (ltb scratch p.used)
    where
      outcome : Bool → Bool → Outcome T
      outcome b d = cond b (Answer.shrunk (Ok Identity), p) (cond d (Answer.shrunk (Err Short), p) (Answer.shrunk (Ok (Permuted p.used)), compacted p))

      go : (b : Bool) → eqb p.used p.len ≡ b → (d : Bool) → Fits order c p (Answer.shrunk tt) items (outcome b d)
      go true e d = record {
        agrees = a;
        hears = refl;
        keeps = λ k n st slot.
            let inside = occupied_below (live p) n slot.1.0 slot.1.1.0 in let l = live_long order p a.sound in
            subst (SlotOf order k p) (sym (number_same p a.sound n (eqb-true p.used p.len e) (omega arith))) slot;
      }
      go false e true = unchanged order lawful c p items a (Answer.shrunk (Err Short)) (λ q n. refl)
      go false e false =
          let r = compacted_leaves p a.sound in
          let b : Agrees order c (compacted p) items = record { sound = r.sound; walks = r.walks ∙ a.walks; room = a.room ∙ sym r.room } in
          record {
            agrees = b;
            hears = refl;
            keeps = λ k n st slot. slot_of order lawful c (compacted p) items b k slot.1.0 (new_number p n) (compacted_holds p a.sound n slot.1.0 slot.1.1.0) slot.1.1.1;
          }

  fits_clear : Fits order c p Answer.done [] (Answer.done, parts p.slots p.table cleared)
  fits_clear = record {
    agrees = agrees_empty order c (parts p.slots p.table cleared) refl refl refl a.room;
    hears = refl;
    keeps = λ k n st slot. cc;
  }

  pub fits_step : (call : Call T) → Fits order c p (said order c call items) (after order c call items) (step order call p)
  fits_step (Call.insert_unique x) = fits_adding x Answer.done (λ q n. refl)
  fits_step (Call.insert_overwrite x) = fits_replacing x Answer.gave (adding order x Answer.none p) (added_said order c x Answer.none items) (added order c x items) (λ y q n. refl) (fits_adding x Answer.none (λ q n. refl))
  fits_step (Call.remove k) = fits_removing k Answer.none (λ q n. refl)
  fits_step Call.pop_first = subst (λ (o : Option T). Fits order c p (given o Answer.none) (taken_out order o items) (popping order 0 p)) (ap (λ (w : List T). slice_get w 0) a.walks) (fits_popping 0)
  fits_step Call.pop_last =
      subst (λ (o : Option T). Fits order c p (given o Answer.none) (taken_out order o items) (popping order (p.len - 1) p))
      (ap₂ (λ (w : List T) (n : ℕ). slice_get w (n - 1)) a.walks (len_set order lawful c p items a)) (fits_popping (p.len - 1))
  fits_step (Call.entry k) = fits_looking k Answer.none (λ q n. refl)
  fits_step (Call.or_insert None x) = fits_adding x (Answer.gave x) (λ q n. refl)
  fits_step (Call.or_insert (Some taken) x) = fits_looking taken (Answer.stale_offered x) (λ q n. refl)
  fits_step (Call.vacant_insert x) = fits_adding x (Answer.gave x) (λ q n. refl)
  fits_step (Call.vacant_insert_entry x) = fits_adding x (Answer.gave x) (λ q n. refl)
  fits_step (Call.occupied_insert taken x) = fits_guarding taken x Answer.gave (λ y q n. refl)
  fits_step (Call.occupied_remove taken) = fits_removing taken Answer.stale (λ q n. refl)
  fits_step (Call.into_mut taken) = fits_looking taken Answer.stale (λ q n. refl)
  fits_step (Call.put_back taken x) = fits_guarding taken x (λ old. Answer.done) (λ y q n. refl)
  fits_step (Call.retain rule) = fits_retaining rule
  fits_step Call.clear = fits_clear
  fits_step (Call.shrink_to_fit scratch) = fits_shrinking scratch
