use Rattle.std.proofs.Common.{Ok, Err, sym, refl, ap, ◌∙◌, subst, arith}
use Rattle.std.proofs.lemmas.Result.{err_from_is_err_and}
use Rattle.id_ord_law.proofs.After.{meets_onward}
use Rattle.id_ord_law.proofs.Ruling.{retain_meets}
use Rattle.id_ord_law.specs.Standing.{Call, Answer, told}
use Rattle.id_ord_law.specs.Step.{Outcome}
use Rattle.id_ord_map.specs.Retain.{Turned, retain_answer}
use Rattle.id_ord_map.specs.View.{view}
use Rattle.id_ord_map.proofs.Ruled.{keeps, removes, stops, ends}
use Rattle.id_ord_map.proofs.map.IdOrdMap.retain.Goals as goal

pub loop-at-init : goal.loop-at-init
loop-at-init g c = (c.requires.sound, omega arith, refl, refl, (refl, refl))

pub loop-at-preserved-in-Keep : goal.loop-at-preserved-in-Keep
loop-at-preserved-in-Keep g c =
    let lawful = g.met.T.IdOrdItem.lawful in let r = g.R.KeepRule in
    let l = c.loop-at in let k = c.retain_item in let e = k.ensures in
    let t =
    keeps g.T.IdOrdItem.order r.verdict r.changed r.next lawful (view l.self) (view k.new.self) l.invariant.0 l.at l.rule k.new.rule
    c.item_at-item.result c.item_at-item.ensures e.rule (subst (λ a. Turned g.T.IdOrdItem.order c.item_at-item.result (r.changed l.rule c.item_at-item.result) (r.verdict l.rule c.item_at-item.result) l.at (view l.self) (Ok a) (view k.new.self)) c.in-Keep.is c.in_ok-retain_item.ensures.turn) in
    let len = t.2 in
    (e.sound, omega arith, t.0 ∙ l.invariant.2, t.1 ∙ l.invariant.3, (e.memory.0 ∙ l.invariant.4.0, e.memory.1 ∙ l.invariant.4.1))

pub loop-at-preserved : goal.loop-at-preserved
loop-at-preserved g c =
    let lawful = g.met.T.IdOrdItem.lawful in let r = g.R.KeepRule in
    let l = c.loop-at in let k = c.retain_item in let e = k.ensures in
    let t =
    removes g.T.IdOrdItem.order r.verdict r.changed r.next lawful (view l.self) (view k.new.self) l.invariant.0 l.at l.rule k.new.rule
    c.item_at-item.result c.item_at-item.ensures e.rule (subst (λ a. Turned g.T.IdOrdItem.order c.item_at-item.result (r.changed l.rule c.item_at-item.result) (r.verdict l.rule c.item_at-item.result) l.at (view l.self) (Ok a) (view k.new.self)) c.in-Remove.is c.in_ok-retain_item.ensures.turn) in
    let len = t.2 in
    (e.sound, omega arith, t.0 ∙ l.invariant.2, t.1 ∙ l.invariant.3, (e.memory.0 ∙ l.invariant.4.0, e.memory.1 ∙ l.invariant.4.1))

pub returns-in_err-retain_item : goal.returns-in_err-retain_item
returns-in_err-retain_item g c =
    let order = g.T.IdOrdItem.order in let lawful = g.met.T.IdOrdItem.lawful in let r = g.R.KeepRule in
    let l = c.loop-at in let k = c.retain_item in let e = k.ensures in let s₀ = c.args.rule.now in
    let q = view k.new.self in
    let t =
    stops order r.verdict r.changed r.next lawful (view l.self) q l.invariant.0 l.at l.rule k.new.rule
    c.item_at-item.result c.item_at-item.ensures e.rule _ c.in_err-retain_item.ensures.turn in
    let last = sym l.invariant.2 ∙ t.0 in
    let handed = err_from_is_err_and c.from_residual.result c.from_residual.ensures.1 in
    let answer = ap retain_answer (handed.1 ∙ ap Err handed.2) ∙ ap (λ (o : Outcome _). o.0) (sym last) in let left = ap (λ (o : Outcome _). o.1) (sym last) in
    record {
      does = (answer, left);
      stands = meets_onward order (Call.retain (told r.verdict r.changed r.next s₀)) (answer, left);
      rule = t.1 ∙ l.invariant.3;
      memory = (e.memory.0 ∙ l.invariant.4.0, e.memory.1 ∙ l.invariant.4.1);
      sound = e.sound;
    }

pub returns : goal.returns
returns g c =
    let order = g.T.IdOrdItem.order in let r = g.R.KeepRule in
    let l = c.loop-at in let p = view l.self in let s₀ = c.args.rule.now in
    let t = ends order r.verdict r.changed r.next p l.invariant.0 l.at c.loop-at-test.false l.rule in
    let does = retain_meets order r.verdict r.changed r.next l.rule s₀ l.at p (view c.args.self.now) Answer.done l.invariant.2 t.0 in
    record {
      does = does;
      stands = meets_onward order (Call.retain (told r.verdict r.changed r.next s₀)) does;
      rule = t.1 ∙ l.invariant.3;
      memory = l.invariant.4;
      sound = l.invariant.0;
    }
