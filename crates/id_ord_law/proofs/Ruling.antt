-- Items shown to a rule that has a state, one turn after the other.
use Rattle.std.proofs.Common.{◌≡◌, ℕ, zero, suc, ◌+◌, ◌≤◌, false, cond, List, [], ◌∷◌, ◌++◌, drop, Some, Ordering, Equal, sym, refl, ap, ◌∙◌, ap₂, arith}
use Rattle.std.proofs.lemmas.List.{drop_all, drop-set-lt}
use Rattle.std.proofs.lemmas.Bool.{cond-true, cond-false}
use Rattle.std.specs.Ordering.{is_eq}
use Rattle.std.specs.List.{remove as removed, slice_get}
use Rattle.id_ord_item.specs.Order.{LawfulOrder}
use Rattle.id_ord_item.proofs.Order.{equal_swaps}
use Rattle.id_ord_item.specs.declared.rule.Verdict.{Verdict}
use Rattle.id_ord_item.specs.declared.rule.Verdict.TheVariants.{Keep, Remove}
use Rattle.id_ord_law.specs.Parts.{Parts, walk, Sound}
use Rattle.id_ord_law.specs.Standing.{Rule, Call, Answer, told, decided}
use Rattle.id_ord_law.specs.Step.{Answered, Outcome, write_at, remove_at, retaining, Meets}
use Rattle.id_ord_law.proofs.Steps.{walk_long, written_leaves, removed_leaves}

-- what is left of a list from a place on
module _ {X : Type 0} where
  pub drop_at_item : (w : List X) (i : ℕ) (x : X) → slice_get w i ≡ Some x → drop i w ≡ x ∷ drop (suc i) w
  drop_at_item [] i x e = cc
  drop_at_item (y ∷ w) zero x e = let same : y ≡ x = cc in ap (λ (h : X). h ∷ w) same
  drop_at_item (y ∷ w) (suc i) x e = drop_at_item w i x e

  drop_removed : (w : List X) (i : ℕ) (x : X) → slice_get w i ≡ Some x → drop i (removed w i) ≡ drop (suc i) w
  drop_removed [] i x e = cc
  drop_removed (y ∷ w) zero x e = refl
  drop_removed (y ∷ w) (suc i) x e = drop_removed w i x e

module _ {T : Type 0} (order : T → T → Ordering) where
  -- a rule that was shown y first is another rule
  module _ (rule : Rule T) (y : T) where
    abbrev later : Rule T
    later shown = rule (y ∷ shown)

    shown_first : (before : List T) (i : ℕ) (items : List T) (p : Parts T) → retaining order rule (y ∷ before) i items p ≡ retaining order later before i items p
    shown_first before i [] p = refl
    shown_first before i (x ∷ items) p =
        ap₂ (λ (kept cut : Outcome T). cond (is_eq (order x (rule (y ∷ before) x).1)) (decided (rule (y ∷ before) x).0 kept cut) (Answer.key_changed (rule (y ∷ before) x).1, p))
        (shown_first (before ++ x ∷ []) (suc i) items (write_at i (rule (y ∷ before) x).1 p))
        (shown_first (before ++ x ∷ []) i items (remove_at i p))

  module _ {S : Type 0} (verdict : S → T → Verdict) (changed : S → T → T) (next : S → T → S) where
    -- what comes of the items from place i on, shown to the rule in the state s
    abbrev pub onward : S → ℕ → Parts T → Outcome T
    onward s i p = retaining order (told verdict changed next s) [] i (drop i (walk p)) p

    -- the item at place i is shown
    turn : (s : S) (i : ℕ) (p : Parts T) (x : T) → slice_get (walk p) i ≡ Some x
        → onward s i p
        ≡ cond (is_eq (order x (changed s x)))
        (decided (verdict s x)
        (retaining order (told verdict changed next (next s x)) [] (suc i) (drop (suc i) (walk p)) (write_at i (changed s x) p))
        (retaining order (told verdict changed next (next s x)) [] i (drop (suc i) (walk p)) (remove_at i p)))
        (Answer.key_changed (changed s x), p)
    turn s i p x at =
        let rule = told verdict changed next s in let rest = drop (suc i) (walk p) in
        ap (λ (l : List T). retaining order rule [] i l p) (drop_at_item (walk p) i x at)
        ∙ ap₂ (λ (kept cut : Outcome T). cond (is_eq (order x (changed s x))) (decided (verdict s x) kept cut) (Answer.key_changed (changed s x), p))
        (shown_first rule x [] (suc i) rest (write_at i (changed s x) p)) (shown_first rule x [] i rest (remove_at i p))

    module _ (lawful : LawfulOrder order) (p q : Parts T) (sound : Sound order p) (i : ℕ) (s s' : S) (x y : T) (at : slice_get (walk p) i ≡ Some x)
        (is_y : y ≡ changed s x) (is-s : s' ≡ next s x) where
      -- under another key it stops there
      pub stopped : is_eq (order x y) ≡ false → onward s i p ≡ (Answer.key_changed y, p)
      stopped other =
          turn s i p x at ∙ cond-false _ _ _ (ap (λ (z : T). is_eq (order x z)) (sym is_y) ∙ other)
          ∙ ap (λ (z : T). (Answer.key_changed z, p)) (sym is_y)

      -- kept under its key, it is written, and the next is one on
      module _ (key : order x y ≡ Equal) (is-q : q ≡ write_at i y p) where
        pub kept_rest : drop i (walk p) ≡ x ∷ drop (i + 1) (walk q)
        kept_rest =
            let one : suc i ≡ i + 1 = omega arith in
            let after = (written_leaves order lawful p sound i x at y (equal_swaps lawful x y key)).walks in
            drop_at_item (walk p) i x at
            ∙ ap (λ (l : List T). x ∷ l) (sym (drop-set-lt (suc i) (walk p) i y (omega arith)) ∙ ap (drop (suc i)) (sym (ap walk is-q ∙ after)) ∙ ap (λ (k : ℕ). drop k (walk q)) one)

        pub kept_turn : verdict s x ≡ Keep → onward s' (i + 1) q ≡ onward s i p
        kept_turn keep =
            let one : suc i ≡ i + 1 = omega arith in
            let rest = drop (suc i) (walk p) in
            let told-on = λ (t : S). told verdict changed next t in
            let lefts : drop (suc i) (walk p) ≡ drop (i + 1) (walk q) = cc (kept_rest, drop_at_item (walk p) i x at) in
            sym (turn s i p x at
            ∙ cond-true _ _ _ (ap (λ (z : T). is_eq (order x z)) (sym is_y) ∙ ap is_eq key)
            ∙ ap (λ (v : Verdict). decided v (retaining order (told-on (next s x)) [] (suc i) rest (write_at i (changed s x) p)) (retaining order (told-on (next s x)) [] i rest (remove_at i p))) keep
            ∙ ap (λ (r : Parts T). retaining order (told-on (next s x)) [] (suc i) rest r) (ap (λ (z : T). write_at i z p) (sym is_y) ∙ sym is-q)
            ∙ ap (λ (t : S). retaining order (told-on t) [] (suc i) rest q) (sym is-s)
            ∙ ap₂ (λ (k : ℕ) (l : List T). retaining order (told-on s') [] k l q) one lefts)

      -- else it is taken out, and the next is at its place
      module _ (key : order x y ≡ Equal) (is-q : q ≡ remove_at i p) where
        pub removed_rest : drop i (walk p) ≡ x ∷ drop i (walk q)
        removed_rest =
            let after = (removed_leaves order lawful p sound i x at).walks in
            drop_at_item (walk p) i x at ∙ ap (λ (l : List T). x ∷ l) (sym (drop_removed (walk p) i x at) ∙ ap (drop i) (sym (ap walk is-q ∙ after)))

        pub removed_turn : verdict s x ≡ Remove → onward s' i q ≡ onward s i p
        removed_turn remove =
            let rest = drop (suc i) (walk p) in
            let told-on = λ (t : S). told verdict changed next t in
            let lefts : drop (suc i) (walk p) ≡ drop i (walk q) = cc (removed_rest, drop_at_item (walk p) i x at) in
            sym (turn s i p x at
            ∙ cond-true _ _ _ (ap (λ (z : T). is_eq (order x z)) (sym is_y) ∙ ap is_eq key)
            ∙ ap (λ (v : Verdict). decided v (retaining order (told-on (next s x)) [] (suc i) rest (write_at i (changed s x) p)) (retaining order (told-on (next s x)) [] i rest (remove_at i p))) remove
            ∙ ap (λ (r : Parts T). retaining order (told-on (next s x)) [] i rest r) (sym is-q)
            ∙ ap (λ (t : S). retaining order (told-on t) [] i rest q) (sym is-s)
            ∙ ap (λ (l : List T). retaining order (told-on s') [] i l q) lefts)

    -- when none is left it is done
    module _ (p : Parts T) (sound : Sound order p) (i : ℕ) (past : p.len ≤ i) where
      pub none_left : drop i (walk p) ≡ []
      none_left = let l = walk_long order p sound in drop_all i (walk p) (omega arith)

      pub all_shown : (s : S) → onward s i p ≡ (Answer.done, p)
      all_shown s = ap (λ (l : List T). retaining order (told verdict changed next s) [] i l p) none_left

    -- what came of the last turn came of them all
    pub retain_meets : (s s₀ : S) (i : ℕ) (p p₀ : Parts T) (answer : Answered T) → onward s i p ≡ onward s₀ 0 p₀ → onward s i p ≡ (answer, p)
        → Meets order (Call.retain (told verdict changed next s₀)) p₀ answer p
    retain_meets s s₀ i p p₀ answer all last = (ap (λ (o : Outcome T). o.0) (sym last ∙ all), ap (λ (o : Outcome T). o.1) (sym last ∙ all))
