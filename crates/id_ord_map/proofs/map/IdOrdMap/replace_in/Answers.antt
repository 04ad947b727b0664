use Rattle.id_ord_law.proofs.Performing.{overwritten_sound}
use Rattle.id_ord_map.specs.View.{view}
use Rattle.id_ord_map.proofs.map.IdOrdMap.replace_in.Goals as goal

pub returns-clause-sound : goal.returns-clause-sound
returns-clause-sound g c =
    overwritten_sound g.met.T.IdOrdItem.lawful (view c.args.self.now) c.requires.sound c.args.item c.requires.stands.stands c.args.index c.requires.stands.slot c.requires.stands.holds
    c.replace.result c.replace.ensures.answer c.replace.new.slots c.replace.ensures.slots
