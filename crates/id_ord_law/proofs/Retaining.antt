-- Sound parts stay sound while items are shown to a rule, one after the other.
use Rattle.std.proofs.Common.{◌≡◌, ℕ, suc, Bool, true, false, cond, List, [], ◌∷◌, ◌++◌, length, set, Some, Ordering, Equal, sym, refl, ap, ◌∙◌, subst, append_assoc, arith}
use Rattle.std.proofs.lemmas.List.{set_at, length_push}
use Rattle.std.specs.Ordering.{is_eq}
use Rattle.std.specs.List.{remove, slice_get}
use Rattle.id_ord_item.specs.Order.{LawfulOrder}
use Rattle.id_ord_item.proofs.Order.{equal_swaps}
use Rattle.id_ord_item.specs.declared.rule.Verdict.{Verdict}
use Rattle.id_ord_item.specs.declared.rule.Verdict.TheVariants.{Keep, Remove}
use Rattle.id_ord_law.specs.Law.{heard, moved}
use Rattle.id_ord_law.specs.Parts.{Parts, walk, Sound}
use Rattle.id_ord_law.specs.Standing.{Rule, Answer, decided, kept, kept_said}
use Rattle.id_ord_law.specs.Step.{Answered, Outcome, write_at, remove_at, retaining}
use Rattle.id_ord_law.proofs.Keys.{equal_if}
use Rattle.id_ord_law.proofs.Steps.{Leaves, Back, written_leaves, written_back, removed_leaves, removed_back}

-- a list by what stands before and after a place
module _ {X : Type 0} where
  nth_at : (u : List X) (x : X) (v : List X) → slice_get (u ++ x ∷ v) (length u) ≡ Some x
  nth_at [] x v = refl
  nth_at (y ∷ u) x v = nth_at u x v

  removed_at : (u : List X) (x : X) (v : List X) → remove (u ++ x ∷ v) (length u) ≡ u ++ v
  removed_at [] x v = refl
  removed_at (y ∷ u) x v = ap (λ (l : List X). y ∷ l) (removed_at u x v)

module _ {T : Type 0} {order : T → T → Ordering} (lawful : LawfulOrder order) where
  pub back_self : (p : Parts T) → Back order p p
  back_self p n y holds = (y, (holds, lawful.reflexive y))

  back_on : (p q r : Parts T) → Back order p q → Back order q r → Back order p r
  back_on p q r f g n y holds =
      let t = g n y holds in
      let u = f n t.0 t.1.0 in
      (u.0, (u.1.0, lawful.alike y t.0 u.0 t.1.1 ∙ u.1.1))

  pub record Retained (p q : Parts T) (w : List T) : Type 0 where
    pub leaves : Leaves order p q w
    pub back : Back order p q

  on : (p q r : Parts T) (v w : List T) → Retained p q v → Retained q r w → Retained p r w
  on p q r v w f g = record {
    leaves = record { sound = g.leaves.sound; walks = g.leaves.walks; room = g.leaves.room ∙ f.leaves.room };
    back = back_on p q r f.back g.back;
  }

  keep : (p : Parts T) (s : Sound order p) (u : List T) (x : T) (v : List T) (i : ℕ) (y : T) → walk p ≡ u ++ x ∷ v → length u ≡ i → order x y ≡ Equal → Retained p (write_at i y p) (u ++ y ∷ v)
  keep p s u x v i y w long e =
      let at : slice_get (walk p) i ≡ Some x = subst (λ (k : ℕ). slice_get (walk p) k ≡ Some x) long (ap (λ (l : List T). slice_get l (length u)) w ∙ nth_at u x v) in
      let q = equal_swaps lawful x y e in
      record {
        leaves = subst (Leaves order p (write_at i y p)) (ap (λ (l : List T). set l i y) w ∙ set_at u x v y i long) (written_leaves order lawful p s i x at y q);
        back = written_back order lawful p s i x at y q;
      }

  cut : (p : Parts T) (s : Sound order p) (u : List T) (x : T) (v : List T) (i : ℕ) → walk p ≡ u ++ x ∷ v → length u ≡ i → Retained p (remove_at i p) (u ++ v)
  cut p s u x v i w long =
      let at : slice_get (walk p) i ≡ Some x = subst (λ (k : ℕ). slice_get (walk p) k ≡ Some x) long (ap (λ (l : List T). slice_get l (length u)) w ∙ nth_at u x v) in
      record {
        leaves = subst (Leaves order p (remove_at i p)) (ap (λ (l : List T). remove l i) w ∙ ap (remove (u ++ x ∷ v)) (sym long) ∙ removed_at u x v) (removed_leaves order lawful p s i x at);
        back = removed_back order lawful p s i x at;
      }

  pub retain_leaves : (rule : Rule T) (before : List T) (i : ℕ) (items : List T) (p : Parts T) (u : List T) → Sound order p → walk p ≡ u ++ items → length u ≡ i
      → Retained p (retaining order rule before i items p).1 (u ++ kept order rule before items)
  retain_leaves rule before i [] p u s w long = record { leaves = record { sound = s; walks = w; room = refl }; back = back_self p }
  retain_leaves rule before i (x ∷ items) p u s w long =
      go (is_eq (order x y)) refl (rule before x).0 (λ j q v t e l. retain_leaves rule (before ++ x ∷ []) j items q v t e l)
    where
      y : T
      y = (rule before x).1

      shown : List T
      shown = before ++ x ∷ []

      left : List T
      left = kept order rule (before ++ x ∷ []) items

      after : Bool → Verdict → Parts T
      after b verdict = (let r : Outcome T = cond b (decided verdict (retaining order rule (before ++ x ∷ []) (suc i) items (write_at i (rule before x).1 p)) (retaining order rule (before ++ x ∷ []) i items (remove_at i p))) (Answer.key_changed (rule before x).1, p) in r.1)

      go : (b : Bool) → is_eq (order x y) ≡ b → (verdict : Verdict)
          → ((j : ℕ) (q : Parts T) (v : List T) → Sound order q → walk q ≡ v ++ items → length v ≡ j → Retained q (retaining order rule shown j items q).1 (v ++ left))
          → Retained p (after b verdict) (u ++ cond b (decided verdict (y ∷ left) left) (x ∷ items))
      go true e Keep rest =
          let one = keep p s u x items i y w long (equal_if (order x y) e) in
          let q = write_at i y p in
          let more = rest (suc i) q (u ++ y ∷ []) one.leaves.sound (one.leaves.walks ∙ sym (append_assoc u (y ∷ []) items)) (length_push u y ∙ omega arith) in
          subst (Retained p (retaining order rule shown (suc i) items q).1) (append_assoc u (y ∷ []) left) (on p q (retaining order rule shown (suc i) items q).1 _ _ one more)
      go true e Remove rest =
          let one = cut p s u x items i w long in
          let q = remove_at i p in
          on p q (retaining order rule shown i items q).1 _ _ one (rest i q u one.leaves.sound one.leaves.walks long)
      go false e verdict rest = record { leaves = record { sound = s; walks = w; room = refl }; back = back_self p }

-- what it answers depends on the rule and the items alone
module _ {T : Type 0} (order : T → T → Ordering) where
  pub retain_says : (rule : Rule T) (before : List T) (i : ℕ) (items : List T) (p : Parts T) → heard (retaining order rule before i items p).0 ≡ kept_said order rule before items
  retain_says rule before i [] p = refl
  retain_says rule before i (x ∷ items) p = go (is_eq (order x (rule before x).1)) (rule before x).0 (λ j q. retain_says rule (before ++ x ∷ []) j items q)
    where
      answer : Bool → Verdict → Answered T
      answer b verdict = (let r : Outcome T = cond b (decided verdict (retaining order rule (before ++ x ∷ []) (suc i) items (write_at i (rule before x).1 p)) (retaining order rule (before ++ x ∷ []) i items (remove_at i p))) (Answer.key_changed (rule before x).1, p) in r.0)

      go : (b : Bool) (verdict : Verdict) → ((j : ℕ) (q : Parts T) → heard (retaining order rule (before ++ x ∷ []) j items q).0 ≡ kept_said order rule (before ++ x ∷ []) items)
          → heard (answer b verdict) ≡ cond b (kept_said order rule (before ++ x ∷ []) items) (Answer.key_changed (rule before x).1)
      go true Keep rest = rest (suc i) (write_at i (rule before x).1 p)
      go true Remove rest = rest i (remove_at i p)
      go false verdict rest = refl

  pub retain_still : (rule : Rule T) (before : List T) (i : ℕ) (items : List T) (p q : Parts T) (n : ℕ) → moved (retaining order rule before i items p).0 q n ≡ n
  retain_still rule before i [] p q n = refl
  retain_still rule before i (x ∷ items) p q n = go (is_eq (order x (rule before x).1)) (rule before x).0 (λ j r. retain_still rule (before ++ x ∷ []) j items r q n)
    where
      answer : Bool → Verdict → Answered T
      answer b verdict = (let r : Outcome T = cond b (decided verdict (retaining order rule (before ++ x ∷ []) (suc i) items (write_at i (rule before x).1 p)) (retaining order rule (before ++ x ∷ []) i items (remove_at i p))) (Answer.key_changed (rule before x).1, p) in r.0)

      go : (b : Bool) (verdict : Verdict) → ((j : ℕ) (r : Parts T) → moved (retaining order rule (before ++ x ∷ []) j items r).0 q n ≡ n) → moved (answer b verdict) q n ≡ n
      go true Keep rest = rest (suc i) (write_at i (rule before x).1 p)
      go true Remove rest = rest i (remove_at i p)
      go false verdict rest = refl
