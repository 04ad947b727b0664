-- What the counting rule answers.
--     kept_while rule      keep while its number is above 0
--     one_fewer rule       its number one lower, and never below 0
use Rattle.std.specs.Prelude.{◌-◌, cond, ◌==◌}
use Rattle.id_ord_item.specs.declared.keep_first.KeepFirst.{KeepFirst}
use Rattle.id_ord_item.specs.declared.rule.Verdict.{Verdict}
use Rattle.id_ord_item.specs.declared.rule.Verdict.TheVariants.{Keep, Remove}

abbrev pub kept_while : KeepFirst → Verdict
kept_while rule = cond (rule.left == 0) Remove Keep

abbrev pub one_fewer : KeepFirst → KeepFirst
one_fewer rule = record { left = rule.left - 1 }
