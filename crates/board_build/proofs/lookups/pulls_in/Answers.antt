-- The list has the nets and values of the PULL lines, in the order of the lines.
use Rattle.std.proofs.Common.{map, ap, ◌∙◌}
use Rattle.std.proofs.lemmas.Result.{IfOk-weaker}
use Rattle.board_lines.specs.LineRules.{pull_of_net}
use Rattle.board_build.proofs.lookups.pulls_in.Goals as goal

pub returns : goal.returns
returns c =
    IfOk-weaker c.pulls_by_net.result _ _
    (λ known e q. e q
    ∙ ap (λ v. pull_of_net (map (λ p. (p.0.now, p.1)) v) q.now) c.deref.ensures.value
    ∙ ap (λ v. pull_of_net v q.now) c.in_ok-pulls.ensures)
    c.pulls_by_net.ensures
