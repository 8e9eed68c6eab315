-- The answer is the first fault, or, if there is no fault, the index of each DEVICE line's entity.
use Rattle.std.proofs.Common.{◌∙◌, map, ap, sym}
use Rattle.std.specs.Prelude.{unwrap_or}
use Rattle.board_lines.specs.Faults.{unless}
use Rattle.board_lines.specs.Selection.{answer}
use Rattle.board_lines.proofs.FaultLemmas.{told_as}
use Rattle.board_lines.proofs.selection.answer.Goals as goal

pub returns-in-Some : goal.returns-in-Some
unfolding answer
returns-in-Some c =
    told_as _ c.in-Some.fault
    (ap (λ fault. unless fault (map (λ place. unwrap_or place 0) c.args.places.now))
    (sym c.in_ok-fault.ensures ∙ c.in-Some.is))
