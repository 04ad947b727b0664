-- The best so far is the largest of the items passed.
use Rattle.panel_items_tests.proofs.Top.{Top}
use Rattle.panel_items_tests.proofs.every_kind.largest.Given as goal

abbrev pub invariant-loop-item : goal.invariant-loop-item
invariant-loop-item g l = Top g.T.IdOrdItem.order l.items l.item-index l.best
