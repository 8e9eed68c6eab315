-- The function and the definition find the same first always-on driver on a net that already has one.
use Rattle.std.proofs.Common.{◌∙◌, ◌==◌, ap}
use Rattle.std.specs.Prelude.{option_map}
use Rattle.std.proofs.lemmas.Result.{IfOk-weaker}
use Rattle.first_places.specs.Places.{first_repeated}
use Rattle.board_lines.specs.declared.fault.BoardFault.TheVariants.{TwoAlwaysOn}
use Rattle.board_build.proofs.SeenLemmas.{two_seen}
use Rattle.board_build.proofs.rules.marked_two.Goals as goal

pub returns : goal.returns
returns c =
    IfOk-weaker c.two_always_on.result _ _
    (λ fault e. e
    ∙ ap (λ v. option_map (λ p. TwoAlwaysOn p.1) (first_repeated (λ a b. a.0 == b.0) v))
    (c.deref.ensures.value ∙ c.in_ok-nets.ensures) ∙ two_seen c.args.drivers.now)
    c.two_always_on.ensures
