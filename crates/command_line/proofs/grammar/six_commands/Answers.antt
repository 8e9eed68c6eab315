use Rattle.std.proofs.Common.{take}
use Rattle.command_line.specs.Grammar.{grammar}
use Rattle.command_line.specs.inner.App.{app_with}
use Rattle.command_line.proofs.grammar.six_commands.Goals as goal

pub returns-clause-app : goal.returns-clause-app
returns-clause-app c =
    let first = c.with_made-command.ensures.app (app_with (take 3 grammar)) _
    c.three_commands-command.ensures.app c.names_command.ensures.app in
    let second = c.with_made-command-2.ensures.app (app_with (take 4 grammar)) _ first c.names_command-2.ensures.app in
    c.with_made.ensures.app (app_with (take 5 grammar)) _ second c.words_command.ensures.app
