-- A table with a place opened or closed by one copy.
use Rattle.std.proofs.Common.{◌≡◌, ℕ, ◌+◌, ◌-◌, ◌<◌, ◌≤◌, List, ◌++◌, length, take, drop, set, sym, ◌∙◌, arith, rules}
use Rattle.std.proofs.lemmas.List.{places, same_lists, get_or-set_same}
use Rattle.std.proofs.lemmas.Bool.{cases_eq, cond-true, and_from, le-leb, lt-ltb}
use Rattle.std.specs.List.{copy_within, insert, remove}
use Rattle.index_table.specs.Shift.{opened, closed}
use Rattle.index_table.specs.declared.entry.Index.{Index}

module _ {X : Type 0} (t : List X) (len place : ℕ) where
  inserted : (x : X) → len < length t → place ≤ len → set (copy_within t place len (place + 1)) place x ≡ insert (take len t) place x ++ drop (len + 1) t
  inserted x room inside = same_lists _ _ (search (rules, places)) (λ j d h. let e = cases_eq j place in grind (arith, places, get_or-set_same))

  removed : len ≤ length t → place < len → copy_within t (place + 1) len place ≡ remove (take len t) place ++ drop (len - 1) t
  removed room inside = same_lists _ _ (search (rules, places)) (λ j d h. grind (arith, places))

-- what the calls leave where they write
pub opened_is : (t : List Index) (len place : ℕ) (e : Index) → len < length t → place ≤ len → insert (take len t) place e ++ drop (len + 1) t ≡ opened t len place e
opened_is t len place e room inside = sym (cond-true _ _ _ (and_from _ _ (lt-ltb len (length t) room) (le-leb place len inside)))

pub closed_is : (t : List Index) (len place : ℕ) → len ≤ length t → place < len → remove (take len t) place ++ drop (len - 1) t ≡ closed t len place
closed_is t len place room inside = sym (cond-true _ _ _ (and_from _ _ (le-leb len (length t) room) (lt-ltb place len inside)))

module _ (t : List Index) (len place : ℕ) where
  pub opened_by_copy : (e : Index) → len < length t → place ≤ len → set (copy_within t place len (place + 1)) place e ≡ opened t len place e
  opened_by_copy e room inside = inserted t len place e room inside ∙ opened_is t len place e room inside

  pub closed_by_copy : len ≤ length t → place < len → copy_within t (place + 1) len place ≡ closed t len place
  closed_by_copy room inside = removed t len place room inside ∙ closed_is t len place room inside
