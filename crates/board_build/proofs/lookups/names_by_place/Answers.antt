-- The names in the list are the names with this role on the lines, in the order of the lines.
use Rattle.std.proofs.Common.{map, ap, ◌∙◌}
use Rattle.std.proofs.lemmas.Result.{IfOk-weaker}
use Rattle.first_places.specs.Places.{first_place}
use Rattle.board_files.specs.Names.{same_word}
use Rattle.board_build.proofs.lookups.names_by_place.Goals as goal

pub returns : goal.returns
returns c =
    IfOk-weaker c.first_places_of.result _ _
    (λ places e q. e q
    ∙ ap (λ v. first_place same_word (map (λ n. n.now) v) q.now) c.deref.ensures.value
    ∙ ap (λ v. first_place same_word v q.now) c.in_ok-names.ensures.names)
    c.first_places_of.ensures
