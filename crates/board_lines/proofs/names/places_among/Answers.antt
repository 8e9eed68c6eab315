-- The function looks up each name in a map of the first places of the other names.
use Rattle.std.proofs.Common.{◌∙◌, map}
use Rattle.std.proofs.lemmas.Result.{IfOk-weaker}
use Rattle.first_places.specs.Places.{first_place}
use Rattle.board_files.specs.Names.{same_word}
use Rattle.board_lines.proofs.NameLemmas.{map_lent}
use Rattle.board_lines.proofs.names.places_among.Goals as goal

pub returns : goal.returns
returns c =
    IfOk-weaker c.places_by.result _ _
    (λ places e. e
    ∙ map_lent _ (first_place same_word (map (λ n. n.now) c.args.others.items.now))
    (λ name. c.in_ok-known.ensures name) c.args.names.now)
    c.places_by.ensures
