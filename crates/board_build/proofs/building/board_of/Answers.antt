-- The words that the function computes are those of the definition `standing_words`, which leaves
-- out each word that repeats a pin of its net.
use Rattle.std.proofs.Common.{◌≡◌, map, ap, subst, ◌∙◌}
use Rattle.answers.specs.Gives.{Gives}
use Rattle.board_lines.specs.Faults.{board_told}
use Rattle.board_build.proofs.SoundLemmas.{sound_by, answer_by}
use Rattle.board_build.proofs.building.board_of.Goals as goal

pub answer-requires-clause-sound : goal.answer-requires-clause-sound
answer-requires-clause-sound c =
    sound_by c.args.chain c.args.nets.now _ _ c.parts-rules.ensures.selected
    (ap (map (λ n. n.now)) c.deref-2.ensures.value ∙ c.in_ok-net.ensures.names)
    c.in_ok-words.ensures

pub returns : goal.returns
returns c =
    subst (λ answer. Gives board_told (λ board. board) (λ said. answer ≡ said) c.answer.result)
    (answer_by c.args.chain.lines c.args.nets.now c.args.chain.parts _ _
    (ap (map (λ n. n.now)) c.deref-2.ensures.value ∙ c.in_ok-net.ensures.names)
    c.in_ok-words.ensures) c.answer.ensures
