use Rattle.std.proofs.Common.{◌≡◌, ◌≤◌, length, ap, sym, ◌∙◌, arith, rules}
use Rattle.item_set.specs.Chain.{first_fault, unless}
use Rattle.item_set.specs.Store.{in_use}
use Rattle.item_set.proofs.Packing.{occupied_le}
use Rattle.item_set.proofs.Soundness.{none_if_ok, no_fault_if_sound, sound_if_no_fault}
use Rattle.item_set.proofs.item_set.ItemSet.validate.Goals as goal

pub overflow_sub-in_use : goal.overflow_sub-in_use
overflow_sub-in_use g c = let le = occupied_le c.in_use-in_use.result.now in omega arith

pub returns-clause-sound : goal.returns-clause-sound
returns-clause-sound g c =
    let numbers = c.args.self.now in let slots = c.args.slots.now in
    let few : length (in_use numbers slots) ≤ 4294967295 = let b = c.in_use-in_use.ensures.bound in let l = ap length c.in_use-in_use.ensures.value in omega arith in
    let answer : c.check_chain.result ≡ unless (first_fault numbers slots) = search rules in (
      (λ ok. sound_if_no_fault numbers slots few (none_if_ok (first_fault numbers slots) (sym answer ∙ ok))),
      (λ sound. answer ∙ ap unless (no_fault_if_sound numbers slots sound)),
    )
