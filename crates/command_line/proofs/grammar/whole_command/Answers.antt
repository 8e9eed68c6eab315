use Rattle.std.proofs.Common.{take}
use Rattle.command_line.specs.Grammar.{grammar}
use Rattle.command_line.specs.inner.App.{app_with}
use Rattle.command_line.proofs.grammar.whole_command.Goals as goal

pub returns : goal.returns
returns c = c.with_made.ensures.app (app_with (take 9 grammar)) _ c.nine_commands-command.ensures.app c.names_command.ensures.app
