-- The keys of the map are borrowed names, which are compared by their bytes.
use Rattle.std.proofs.Common.{◌∙◌}
use Rattle.std.specs.Str.{bytes_eq}
use Rattle.std.proofs.lemmas.Result.{IfOk-weaker}
use Rattle.first_places.proofs.PlaceLemmas.{first_place_lent}
use Rattle.device_rules.proofs.name_index.first_places_of.Goals as goal

pub returns : goal.returns
returns c = IfOk-weaker c.first_places.result _ _ (λ m h q. h q ∙ first_place_lent bytes_eq c.args.names.now q) c.first_places.ensures
