-- The names in the list are borrowed. They have the same distinct names and the same indices as the
-- names themselves.
use Rattle.std.proofs.Common.{◌∙◌, map, ap}
use Rattle.std.specs.Prelude.{unwrap_or}
use Rattle.std.proofs.lemmas.Result.{IfOk-weaker}
use Rattle.first_places.specs.Places.{first_place, place_or_zero, once}
use Rattle.first_places.proofs.PlaceLemmas.{first_place_lent}
use Rattle.board_files.specs.Names.{same_word}
use Rattle.board_lines.proofs.NameLemmas.{map_lent}
use Rattle.board_lines.proofs.MapLemmas.{once-map}
use Rattle.board_lines.proofs.names.numbered_names.Goals as goal

pub returns-clause-once : goal.returns-clause-once
returns-clause-once c =
    IfOk-weaker c.numbered.result _ _
    (λ r e. ap (map (λ n. n.now)) e ∙ once-map (λ n. n.now) same_word c.args.names.items.now)
    c.numbered.ensures.once

pub returns-clause-numbers : goal.returns-clause-numbers
returns-clause-numbers c =
    let names = c.args.names.items.now in
    let kept = once (λ a b. same_word a.now b.now) names in
    IfOk-weaker c.numbered.result _ _
    (λ r e. e ∙ map_lent (place_or_zero (λ a b. same_word a.now b.now) kept)
    (place_or_zero same_word (once same_word (map (λ n. n.now) names)))
    (λ n. ap (λ o. unwrap_or o 0)
    (first_place_lent same_word kept n
    ∙ ap (λ v. first_place same_word v n.now) (once-map (λ n. n.now) same_word names)))
    names)
    c.numbered.ensures.numbers
