use Rattle.command_line.proofs.grammar.names_command.Goals as goal

pub returns-clause-app : goal.returns-clause-app
returns-clause-app c = c.with_names.ensures.app _ c.words_command.ensures.app
