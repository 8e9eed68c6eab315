use Rattle.std.proofs.Common.{◌≡◌, codes, false, rules, subst, Option}
use Rattle.std.specs.Prelude.{IfOk}
use Rattle.std.specs.Str.{bytes_eq}
use Rattle.clap.specs.Matches.{found_of}
use Rattle.clap.specs.Walk.{rows_of}
use Rattle.command_line.specs.Words.{Command}
use Rattle.command_line.proofs.CalledLemmas.{called_other}
use Rattle.command_line.proofs.found.command_called.Goals as goal

pub returns-else-eq-3 : goal.returns-else-eq-3
returns-else-eq-3 c =
    let chain : bytes_eq (codes "chain") c.args.name.now ≡ false = search rules in
    let ident : bytes_eq (codes "ident") c.args.name.now ≡ false = search rules in
    let device : bytes_eq (codes "device") c.args.name.now ≡ false = search rules in
    subst (λ (o : Option Command). IfOk c.board_called.result (λ command. command ≡ o))
    (called_other c.args.name.now (rows_of (found_of c.args.found.now)) chain ident device)
    c.board_called.ensures
