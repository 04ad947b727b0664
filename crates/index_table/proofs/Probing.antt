-- What one comparison with a place says, for a key that is looked for among the items that entries name.
use Rattle.std.proofs.Common.{◌≡◌, ℕ, zero, suc, List, [], ◌∷◌, Some, None, Option, MatchOption, Ordering, Less, ◌∙◌, ap}
use Rattle.item_set.specs.Slots.{at, held}
use Rattle.item_set.specs.declared.index.ItemIndex.{ItemIndex}
use Rattle.item_set.specs.declared.slot.ItemSlot.{ItemSlot}
use Rattle.item_set.specs.declared.slot.ItemSlot.TheVariants.{Occupied, Vacant}
use Rattle.index_table.specs.Search.{asked, answer_at}
use Rattle.index_table.specs.Walk.{seen, slot_at}
use Rattle.index_table.specs.declared.entry.Index.{Index}

module _ {T : Type 0} (ask : T → Ordering) where
  -- with an item as with what is asked of it, else Less
  pub answer_of : (slot : ItemSlot T) (item : Option T) (o : Ordering) → item ≡ held slot → MatchOption item (o ≡ Less) (λ x. o ≡ ask x) → o ≡ asked ask slot
  answer_of (Occupied y) None o is answers = cc
  answer_of (Vacant next) None o is answers = answers
  answer_of (Occupied y) (Some x) o is answers = let same : x ≡ y = cc in answers ∙ ap ask same
  answer_of (Vacant next) (Some x) o is answers = cc

  pub answer_is : (slots : List (ItemSlot T)) (entries : List Index) (place : ℕ) (slot : Option ItemIndex) (item : Option T) (o : Ordering)
      → slot ≡ slot_at entries place → MatchOption slot (item ≡ None) (λ i. item ≡ held (at slots i.0)) → MatchOption item (o ≡ Less) (λ x. o ≡ ask x)
      → o ≡ answer_at ask slots entries place
  answer_is slots [] place None None o is holds answers = answers
  answer_is slots [] place None (Some x) o is holds answers = cc
  answer_is slots [] place (Some i) item o is holds answers = cc
  answer_is slots (e ∷ entries) zero None item o is holds answers = cc
  answer_is slots (e ∷ entries) zero (Some i) item o is holds answers =
      let same : i ≡ e.0 = cc in
      answer_of (seen slots e) item o (holds ∙ ap (λ (j : ItemIndex). held (at slots j.0)) same) answers
  answer_is slots (e ∷ entries) (suc place) slot item o is holds answers = answer_is slots entries place slot item o is holds answers
