-- The number of the name on each line is the number of the line's net.
use Rattle.std.proofs.Common.{◌∙◌, map, ap}
use Rattle.lists.proofs.ListLemmas.{map-map}
use Rattle.first_places.specs.Places.{place_or_zero, once}
use Rattle.board_files.specs.Names.{same_word}
use Rattle.board_lines.specs.NetWords.{net_names, net_number}
use Rattle.board_lines.proofs.words.net_names.Goals as goal

pub returns-clause-numbers : goal.returns-clause-numbers
returns-clause-numbers c =
    c.in_ok-different.ensures.numbers
    ∙ ap (λ v. map (place_or_zero same_word (once same_word v)) v)
    (ap (map (λ n. n.now)) c.deref.ensures.value ∙ c.in_ok-names.ensures.names)
    ∙ map-map (λ line. line.name) (net_number (net_names c.args.lines.items.now)) c.args.lines.items.now
