use Rattle.std.proofs.Common.{sym, ◌∙◌, arith}
use Rattle.id_ord_law.proofs.Comparing.{same_if_alike, not_same_if_longer, not_same_if_other}
use Rattle.id_ord_map.specs.View.{view}
use Rattle.id_ord_map.proofs.map.IdOrdMap.same.Goals as goal

pub returns-then-len-other-clause-no : goal.returns-then-len-other-clause-no
returns-then-len-other-clause-no g c each =
    absurd (not_same_if_longer g.T.IdOrdItem.equal (view c.args.self.now) (view c.args.other.now) c.requires.sound c.requires.other c.if-len-other.true each)

pub returns-then-not-same-clause-no : goal.returns-then-not-same-clause-no
returns-then-not-same-clause-no g c each =
    absurd (not_same_if_other g.T.IdOrdItem.equal (view c.args.self.now) (view c.args.other.now) c.requires.sound c.requires.other
    c.loop-place.place c.item_at-left.result c.item_at-right.result c.item_at-left.ensures c.item_at-right.ensures (sym c.same.ensures ∙ c.if-not-same.true) each)

pub returns-clause-yes : goal.returns-clause-yes
returns-clause-yes g c e =
    same_if_alike g.T.IdOrdItem.equal (view c.args.self.now) (view c.args.other.now) c.requires.sound c.requires.other
    c.if-len-other.false (λ i x y low. c.loop-place.invariant i x y (omega arith))
