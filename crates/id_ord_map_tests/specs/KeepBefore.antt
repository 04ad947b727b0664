-- What the rule on stays that begin before a minute answers.
--     begins_before rule stay    keep a stay that begins before the rule's minute, and remove any other
--     marked rule stay           the stay with the rule's end; the one that begins at the minute `moved` begins at `moved_to`
--     shown_to rule stay         the rule after one stay more was shown to it
use Rattle.std.specs.Prelude.{cond, ◌==◌, nat_lt}
use Rattle.id_ord_item.specs.declared.rule.Verdict.{Verdict}
use Rattle.id_ord_item.specs.declared.rule.Verdict.TheVariants.{Keep, Remove}
use Rattle.panel_items.specs.declared.stay.Stay.{Stay}
use Rattle.id_ord_map_tests.specs.declared.keep_before.KeepBefore.{KeepBefore}

abbrev pub begins_before : KeepBefore → Stay → Verdict
begins_before rule stay = cond (nat_lt stay.from rule.minute) Keep Remove

abbrev pub marked : KeepBefore → Stay → Stay
marked rule stay =
    record {
      berth = stay.berth;
      from = cond (stay.from == rule.moved) rule.moved_to stay.from;
      to = rule.to;
      vessel = stay.vessel;
    }

abbrev pub shown_to : KeepBefore → Stay → KeepBefore
shown_to rule stay =
    record {
      minute = rule.minute;
      moved = rule.moved;
      moved_to = rule.moved_to;
      to = rule.to;
      shown = (stay.from, rule.shown.0, rule.shown.1);
    }
