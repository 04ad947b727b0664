-- One item more is passed.
use Rattle.std.proofs.Common.{◌≡◌, ◌+◌, sym, ◌∙◌, subst}
use Rattle.std.specs.Ordering.{is_gt}
use Rattle.panel_items_tests.proofs.Top.{Top, top_stays, top_moves}
use Rattle.panel_items_tests.proofs.every_kind.largest.Goals as goal
use Rattle.panel_items_tests.proofs.every_kind.largest.Goals.{then-is_gt, else-is_gt}

pub loop-item-preserved : goal.loop-item-preserved
loop-item-preserved g c =
    let items = c.args.items.now in
    let i = c.loop-item.item-index in
    let best = c.loop-item.best in
    let item = c.item-item.result in
    let lawful = g.met.T.IdOrdItem.lawful in
    let order = g.T.IdOrdItem.order in
    let compared : c.is_gt.result ≡ is_gt (order item best) = cc c.compare.ensures in
    let within = c.loop-item-test.true in
    let NextTop = Top order items (i + 1) in
    elim c.if-is_gt.branch [
      | then-is_gt w ↦
          let moves : NextTop item = top_moves lawful items i best item within c.item-item.is c.loop-item.invariant (sym compared ∙ w.if-is_gt.true) in
          let is : c.if-is_gt.best ≡ item = cc in
          subst NextTop (sym is) moves
      | else-is_gt w ↦
          let stays : NextTop best = top_stays lawful items i best item within c.item-item.is c.loop-item.invariant (sym compared ∙ w.if-is_gt.false) in
          let is : c.if-is_gt.best ≡ best = cc in
          subst NextTop (sym is) stays
    ]
