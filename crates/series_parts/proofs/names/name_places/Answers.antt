-- The keys of the map are borrowed names. A look-up by a borrowed name gives the same index as a
-- look-up by the name itself.
use Rattle.std.proofs.Common.{◌∙◌}
use Rattle.std.proofs.lemmas.Result.{IfOk-weaker}
use Rattle.first_places.proofs.PlaceLemmas.{first_place_lent}
use Rattle.board_files.specs.Names.{same_word}
use Rattle.series_parts.proofs.names.name_places.Goals as goal

pub returns : goal.returns
returns c = IfOk-weaker c.first_places.result _ _ (λ m h q. h q ∙ first_place_lent same_word c.args.names.now q) c.first_places.ensures
