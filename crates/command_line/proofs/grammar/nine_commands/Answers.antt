use Rattle.std.proofs.Common.{take}
use Rattle.command_line.specs.Grammar.{grammar}
use Rattle.command_line.specs.inner.App.{app_with}
use Rattle.command_line.proofs.grammar.nine_commands.Goals as goal

pub returns-clause-app : goal.returns-clause-app
returns-clause-app c =
    let first = c.with_made-command.ensures.app (app_with (take 6 grammar)) _
    c.six_commands-command.ensures.app c.names_command.ensures.app in
    let second = c.with_made-command-2.ensures.app (app_with (take 7 grammar)) _ first c.names_command-2.ensures.app in
    c.with_made.ensures.app (app_with (take 8 grammar)) _ second c.names_command-3.ensures.app
