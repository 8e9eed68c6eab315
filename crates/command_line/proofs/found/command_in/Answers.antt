use Rattle.std.proofs.Common.{◌≡◌, subst, Option}
use Rattle.std.specs.Prelude.{IfOk}
use Rattle.command_line.specs.Words.{Command}
use Rattle.command_line.proofs.CalledLemmas.{called_by}
use Rattle.command_line.proofs.found.command_in.Goals as goal

pub returns-in-Some : goal.returns-in-Some
returns-in-Some c =
    subst (λ (o : Option Command). IfOk c.command_called.result (λ command. command ≡ o))
    (called_by _ _ _ _ c.in-Some.ensures.name c.in-Some.ensures.rows) c.command_called.ensures
