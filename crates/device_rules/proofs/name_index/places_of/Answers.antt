-- The names in the map are the names of the items.
use Rattle.std.proofs.Common.{◌∙◌, ap, map}
use Rattle.std.proofs.lemmas.Result.{IfOk-weaker}
use Rattle.device_rules.proofs.NameLemmas.{called_first}
use Rattle.device_rules.proofs.name_index.places_of.Goals as goal

pub returns : goal.returns
returns g c =
    IfOk-weaker c.first_places_of.result _ _
    (λ m h q. h q
    ∙ called_first g.T.Named.name_in c.args.items.now _ q.now
    (ap (map (λ n. n.now)) c.deref.ensures.value ∙ c.in_ok-names.ensures.names))
    c.first_places_of.ensures
