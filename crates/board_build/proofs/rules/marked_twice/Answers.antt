-- The function and the definition find the same first repeated pin.
use Rattle.std.proofs.Common.{◌∙◌, ap}
use Rattle.std.specs.Prelude.{option_map}
use Rattle.std.proofs.lemmas.Result.{IfOk-weaker}
use Rattle.first_places.specs.Places.{first_repeated}
use Rattle.board_lines.specs.declared.fault.BoardFault.TheVariants.{PinTwice}
use Rattle.board_build.specs.inner.Marked.{marked_twice}
use Rattle.board_lines.proofs.DifferLemmas.{same_lent}
use Rattle.board_build.proofs.SeenLemmas.{twice_seen}
use Rattle.board_build.proofs.rules.marked_twice.Goals as goal

pub returns : goal.returns
returns c =
    IfOk-weaker c.pin_twice.result _ _
    (λ fault e. e
    ∙ ap (λ v. option_map (λ p. PinTwice p.1) (first_repeated same_lent v))
    (c.deref.ensures.value ∙ c.in_ok-pins.ensures) ∙ twice_seen c.words.result.now
    ∙ ap marked_twice c.words.ensures) c.pin_twice.ensures
