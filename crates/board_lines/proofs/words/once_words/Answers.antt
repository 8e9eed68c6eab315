-- The pins of the words are borrowed names. The same words are left out as if the pins were the
-- names themselves.
use Rattle.std.proofs.Common.{◌∙◌, map, ap}
use Rattle.std.proofs.lemmas.Result.{IfOk-weaker}
use Rattle.board_lines.specs.NetWords.{lent_word, same_place}
use Rattle.board_lines.proofs.MapLemmas.{once-map}
use Rattle.board_lines.proofs.words.once_words.Goals as goal

pub returns : goal.returns
returns c =
    IfOk-weaker c.once_by.result _ _
    (λ kept e. ap (map lent_word) e ∙ once-map lent_word same_place c.args.words.now)
    c.once_by.ensures
