use Rattle.std.proofs.Common.{◌≡◌, false, map, take}
use Rattle.std.specs.Prelude.{IfOk}
use Rattle.clap.specs.Simple.{app_of}
use Rattle.clap.specs.declared.builder.command.Command.TheViews.{out-Command as fields_of}
use Rattle.command_line.specs.inner.App.{worded_app}
use Rattle.command_line.proofs.grammar.words_command.Given as goal

-- the command has an argument for each word visited so far
abbrev pub invariant-loop-word : goal.invariant-loop-word
invariant-loop-word l = record {
  app : IfOk l.command (λ c. app_of c ≡ worded_app l.fn.name (map (λ word. word.now) (take l.word-index l.words)));
  local : IfOk l.command (λ c. (fields_of c).has_globals ≡ false);
}
