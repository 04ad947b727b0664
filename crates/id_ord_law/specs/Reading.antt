-- What is read of a sound map, in the words of a sorted collection.
--     HasKey order k items r       r is the one of the items whose key is Equal to that of k, or none if no item's is
--     Least order items r          r is the item with the least key, or none if there is no item
--     Greatest order items r       r is the item with the greatest key, or none if there is no item
--     ReadLaw order                what the item of a key and the items at the places of the walk are
use Rattle.std.specs.Prelude.{◌≡◌, ℕ, ◌-◌, ◌<◌, ◌≤◌, List, [], Some, None, Option, ◌≢◌}
use Rattle.std.specs.declared.cmp.Ordering.TheVariants.{Less, Equal}
use Rattle.std.specs.declared.cmp.Ordering.{Ordering}
use mathlib.Core.List.{Memᴰ as Among}
use Rattle.std.specs.List.{slice_get}
use Rattle.id_ord_law.specs.Parts.{Parts, walk, Sound}
use Rattle.id_ord_law.specs.Standing.{found}

module _ {T : Type 0} (order : T → T → Ordering) where
  abbrev pub HasKey : T → List T → Option T → Type 0
  HasKey k items None = (y : T) → Among y items → order k y ≢ Equal
  HasKey k items (Some x) = Among x items × (order k x ≡ Equal)

  abbrev pub Least : List T → Option T → Type 0
  Least items None = items ≡ []
  Least items (Some x) = Among x items × ((y : T) → Among y items → order y x ≢ Less)

  abbrev pub Greatest : List T → Option T → Type 0
  Greatest items None = items ≡ []
  Greatest items (Some x) = Among x items × ((y : T) → Among y items → order x y ≢ Less)

  pub record ReadLaw : Type 0 where
    pub key : (p : Parts T) → Sound order p → (k : T) → HasKey k (walk p) (found order k (walk p))
    pub least : (p : Parts T) → Sound order p → Least (walk p) (slice_get (walk p) 0)
    pub greatest : (p : Parts T) → Sound order p → Greatest (walk p) (slice_get (walk p) (p.len - 1))
    -- an item comes before another in the walk only if its key is Less, so each key comes once
    pub ascends : (p : Parts T) → Sound order p → (i j : ℕ) (x y : T) → i < j → slice_get (walk p) i ≡ Some x → slice_get (walk p) j ≡ Some y → order x y ≡ Less
    -- there is an item at each place below `len`, and none from there on
    pub within : (p : Parts T) → Sound order p → (i : ℕ) → i < p.len → (x : T) × (slice_get (walk p) i ≡ Some x)
    pub past : (p : Parts T) → Sound order p → (i : ℕ) → p.len ≤ i → slice_get (walk p) i ≡ None
