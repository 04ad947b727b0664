-- The law over runs of calls.
--     Begins order c p items                 what a run begins with: `new`, or parts that `adopt` accepts; c is the capacity
--     Reached order c p items                calls, one after the other, bring a map to the parts p and the machine to these items
--     ran order calls p                      the parts that calls, made one after the other on the parts p, leave; the newest call comes first
--     stood order c calls items              the set that the same calls leave of these items
--     Ran order c p before calls q items     the calls bring the parts p to q, and the set before to these items
--     Onward order call p q                  whatever calls led to p, the run with this call more leads to q
--     Walks order p items                    the walk has the items in key order, each once
--     Names p                                each walk place names another slot, and together they name the occupied slots in use
--     SlotOf order k p n                     n is the slot of the key of k: the one named by the place that gives its item
--     moved answer p n                       where slot n is after a call with that answer
--     Keeps order answer p q before later    a key that stands before and after a call keeps its slot
--     SameWalk same xs ys                    walks of one length, at every place of which `same` says yes
--     SameItems xs ys                        the same items stand
--     heard answer                           an answer without what only the memory can say
--     RunLaw order same                      what holds of every map that is reached
use Rattle.std.specs.Prelude.{◌≡◌, ℕ, ◌<◌, Bool, true, List, [], ◌∷◌, length, Ok, Err}
use Rattle.std.specs.declared.cmp.Ordering.TheVariants.{Equal}
use Rattle.std.specs.declared.cmp.Ordering.{Ordering}
use mathlib.Core.List.{Memᴰ as Among}
use Rattle.std.specs.List.{AllZip}
use Rattle.item_set.specs.Slots.{sentinel}
use Rattle.index_table.specs.Walk.{Ascending}
use Rattle.id_ord_law.specs.Parts.{Parts, Sound, Holds, live, name_at, walk, capacity, items_in}
use Rattle.id_ord_law.specs.Standing.{Call, Said, after, said, stands}
use Rattle.id_ord_law.specs.Standing.Answer.{done, none, gave, duplicate, full, key_changed, stale, stale_offered, shrunk}
use Rattle.id_ord_law.specs.Step.{Answered, Meets, new_number, step}

pub data Begins {T : Type 0} (order : T → T → Ordering) (c : ℕ) : Parts T → List T → Type 0 where
  by_new : {p : Parts T} → p.used ≡ 0 → p.len ≡ 0 → p.head ≡ sentinel → c ≡ capacity p → Begins order c p []
  by_adopt : {p : Parts T} → Sound order p → c ≡ capacity p → Begins order c p (items_in (live p))

pub data Reached {T : Type 0} (order : T → T → Ordering) (c : ℕ) : Parts T → List T → Type 0 where
  begun : {p : Parts T} {items : List T} → Begins order c p items → Reached order c p items
  called : {p q : Parts T} {items : List T} {answer : Answered T} (call : Call T)
      → Reached order c p items → Meets order call p answer q → Reached order c q (after order c call items)

module _ {T : Type 0} (order : T → T → Ordering) where
  abbrev pub ran : List (Call T) → Parts T → Parts T
  ran [] p = p
  ran (call ∷ calls) p = (step order call (ran calls p)).1

  abbrev pub stood : ℕ → List (Call T) → List T → List T
  stood c [] items = items
  stood c (call ∷ calls) items = after order c call (stood c calls items)

  abbrev pub Ran : ℕ → Parts T → List T → List (Call T) → Parts T → List T → Type 0
  Ran c p before calls q items = (q ≡ ran calls p) × (items ≡ stood c calls before)

  abbrev pub Onward : Call T → Parts T → Parts T → Type 0
  Onward call p q = (c : ℕ) (start : Parts T) (before : List T) (calls : List (Call T)) (items : List T)
      → Ran c start before calls p items → Ran c start before (call ∷ calls) q (after order c call items)

pub record Walks {T : Type 0} (order : T → T → Ordering) (p : Parts T) (items : List T) : Type 0 where
  pub ascending : Ascending order (walk p)
  pub all : (x : T) → Among x items → Among x (walk p)
  pub only : (x : T) → Among x (walk p) → Among x items
  pub counted : (p.len ≡ length items) × (length (walk p) ≡ length items)

pub record Names {T : Type 0} (p : Parts T) : Type 0 where
  pub apart : (i j : ℕ) → i < p.len → j < p.len → name_at p i ≡ name_at p j → i ≡ j
  pub held : (i : ℕ) → i < p.len → (x : T) × Holds p (name_at p i) x
  pub all : (n : ℕ) (x : T) → Holds p n x → (i : ℕ) × ((i < p.len) × (name_at p i ≡ n))

module _ {T : Type 0} where
  abbrev pub SlotOf : (T → T → Ordering) → T → Parts T → ℕ → Type 0
  SlotOf order k p n = ((i : ℕ) × ((i < p.len) × (name_at p i ≡ n))) × ((x : T) × (Holds p n x × (order k x ≡ Equal)))

  -- only an accepted shrink_to_fit moves a slot
  abbrev pub moved : Answered T → Parts T → ℕ → ℕ
  moved done p n = n
  moved none p n = n
  moved (gave x) p n = n
  moved (duplicate x i) p n = n
  moved (full x) p n = n
  moved (key_changed x) p n = n
  moved stale p n = n
  moved (stale_offered x) p n = n
  moved (shrunk (Ok remap)) p n = new_number p n
  moved (shrunk (Err refusal)) p n = n

  abbrev pub Keeps : (T → T → Ordering) → Answered T → Parts T → Parts T → List T → List T → Type 0
  Keeps order answer p q before later =
      (k : T) (n : ℕ) → stands order k before ≡ true → stands order k later ≡ true → SlotOf order k p n → SlotOf order k q (moved answer p n)

  abbrev pub SameWalk : (T → T → Bool) → List T → List T → Type 0
  SameWalk same xs ys = AllZip (λ x y. same x y ≡ true) xs ys

  abbrev pub SameItems : List T → List T → Type 0
  SameItems xs ys = (x : T) → (Among x xs → Among x ys) × (Among x ys → Among x xs)

  abbrev pub heard : Answered T → Said T
  heard done = done
  heard none = none
  heard (gave x) = gave x
  heard (duplicate x n) = duplicate x tt
  heard (full x) = full x
  heard (key_changed x) = key_changed x
  heard stale = stale
  heard (stale_offered x) = stale_offered x
  heard (shrunk answer) = shrunk tt

pub record RunLaw {T : Type 0} (order : T → T → Ordering) (same : T → T → Bool) : Type 0 where
  pub sound : (c : ℕ) (p : Parts T) (items : List T) → Reached order c p items → Sound order p
  pub walks : (c : ℕ) (p : Parts T) (items : List T) → Reached order c p items → Walks order p items
  pub names : (c : ℕ) (p : Parts T) (items : List T) → Reached order c p items → Names p
  pub says : (c : ℕ) (p q : Parts T) (items : List T) (answer : Answered T) (call : Call T)
      → Reached order c p items → Meets order call p answer q → heard answer ≡ said order c call items
  pub keeps : (c : ℕ) (p q : Parts T) (items : List T) (answer : Answered T) (call : Call T)
      → Reached order c p items → Meets order call p answer q → Keeps order answer p q items (after order c call items)
  pub equal : (c d : ℕ) (p q : Parts T) (xs ys : List T) → Reached order c p xs → Reached order d q ys
      → (SameWalk same (walk p) (walk q) → SameItems xs ys) × (SameItems xs ys → SameWalk same (walk p) (walk q))
