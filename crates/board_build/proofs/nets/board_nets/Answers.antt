-- The maps and the definitions give the same facts about each name.
use Rattle.std.proofs.Common.{map, ap, ◌∙◌}
use Rattle.std.specs.Prelude.{is_some}
use Rattle.std.proofs.lemmas.Result.{IfOk-weaker}
use Rattle.board_lines.specs.declared.names.Naming.TheVariants.{Supply}
use Rattle.board_lines.specs.Names.{named, names_of}
use Rattle.board_lines.specs.LineRules.{pulls_of}
use Rattle.board_build.specs.inner.Marked.{nets_with}
use Rattle.board_build.proofs.nets.board_nets.Goals as goal

pub returns : goal.returns
returns c =
    let lines = c.lines-lines.result.now in
    let names = map (λ n. n.now) c.args.names.now in
    IfOk-weaker c.nets_of.result _ _
    (λ nets e. e (names_of (named Supply lines)) (pulls_of lines) (λ q. ap is_some (c.in_ok-supplies.ensures q)) c.in_ok-pulls.ensures
    ∙ ap (λ v. nets_with (names_of (named Supply v)) (pulls_of v) c.args.words.now 0 names) c.lines-lines.ensures.lines)
    c.nets_of.ensures
