-- The query for a stay by its key.
--     stay_meant query     the stay looked for: the query's berth and minute, with an end and a vessel of 0
--     key_of stay          the query for the key of a stay
use Rattle.panel_items.specs.declared.stay.Stay.{Stay}
use Rattle.panel_items.specs.declared.stay_at.StayAt.{StayAt}

abbrev pub stay_meant : StayAt → Stay
stay_meant query = record { berth = query.berth; from = query.from; to = 0; vessel = 0 }

abbrev pub key_of : Stay → StayAt
key_of stay = record { berth = stay.berth; from = stay.from }
