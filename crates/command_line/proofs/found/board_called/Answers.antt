use Rattle.std.proofs.Common.{◌≡◌, codes, false, rules, subst, Option}
use Rattle.std.specs.Prelude.{IfOk}
use Rattle.std.specs.Str.{bytes_eq}
use Rattle.clap.specs.Matches.{found_of}
use Rattle.clap.specs.Walk.{rows_of}
use Rattle.command_line.specs.Words.{Command}
use Rattle.command_line.proofs.CalledLemmas.{board_other}
use Rattle.command_line.proofs.found.board_called.Goals as goal

pub returns-else-eq-4 : goal.returns-else-eq-4
returns-else-eq-4 c =
    let cover : bytes_eq (codes "cover") c.args.name.now ≡ false = search rules in
    let svf : bytes_eq (codes "svf") c.args.name.now ≡ false = search rules in
    let walk : bytes_eq (codes "walk") c.args.name.now ≡ false = search rules in
    let make : bytes_eq (codes "make") c.args.name.now ≡ false = search rules in
    subst (λ (o : Option Command). IfOk c.log_called.result (λ command. command ≡ o))
    (board_other c.args.name.now (rows_of (found_of c.args.found.now)) cover svf walk make)
    c.log_called.ensures
