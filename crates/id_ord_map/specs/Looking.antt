-- What looking for a key finds.
--     Standing order k p i      the key of k stands in the parts p, and i is its slot
--     Looked order k p r        what a look for the key of k answers: its slot if it stands, or none
use Rattle.std.specs.Prelude.{◌≡◌, ◌<◌, true, Some, None, Option}
use Rattle.std.specs.declared.cmp.Ordering.{Ordering}
use Rattle.std.specs.List.{slice_get}
use Rattle.item_set.specs.Slots.{index_of}
use Rattle.item_set.specs.Store.{held_in}
use Rattle.item_set.specs.declared.index.ItemIndex.{ItemIndex}
use Rattle.index_table.specs.Walk.{smaller}
use Rattle.id_ord_law.specs.Parts.{Parts, numbers, name_at, walk}
use Rattle.id_ord_law.specs.Standing.{found, stands}

module _ {T : Type 0} where
  pub record Standing (order : T → T → Ordering) (k : T) (p : Parts T) (i : ItemIndex) : Type 0 where
    pub stands : stands order k (walk p) ≡ true
    pub below : smaller order k (walk p) < p.len
    -- the slot is the one that the key's place names
    pub slot : i ≡ index_of (name_at p (smaller order k (walk p)))
    -- it holds the item with the key, which is the one at the key's place
    pub holds : held_in (numbers p) p.slots i ≡ found order k (walk p)
    pub place : slice_get (walk p) (smaller order k (walk p)) ≡ found order k (walk p)

  abbrev pub Looked : (T → T → Ordering) → T → Parts T → Option ItemIndex → Type 0
  Looked order k p None = found order k (walk p) ≡ None
  Looked order k p (Some i) = Standing order k p i
