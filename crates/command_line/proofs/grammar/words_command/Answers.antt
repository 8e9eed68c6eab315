use Rattle.std.proofs.Common.{◌≡◌, map, take, subst, arith, List}
use Rattle.std.proofs.lemmas.Grind.{common_steps}
use Rattle.std.specs.Borrow.{Bor}
use Rattle.std.specs.Prelude.{IfOk}
use Rattle.std.proofs.lemmas.List.{take_all}
use Rattle.clap.specs.Simple.{App, app_of}
use Rattle.command_line.specs.Words.{Text}
use Rattle.command_line.specs.inner.App.{worded_app}
use Rattle.command_line.proofs.GrammarLemmas.{now_of, one_more}
use Rattle.command_line.proofs.grammar.words_command.Goals as goal

pub loop-word-preserved : goal.loop-word-preserved
loop-word-preserved c = record {
  app =
      subst (λ (app : App). IfOk c.with_word-command.result (λ command. app_of command ≡ app))
      (one_more c.args.name.now c.args.words.now c.loop-word.word-index _ c.loop-word-test.true)
      (c.with_word-command.ensures.app
      (worded_app c.args.name.now (map now_of (take c.loop-word.word-index c.args.words.now)))
      c.loop-word.invariant.app);
  local = c.with_word-command.ensures.local;
}

pub returns-clause-app : goal.returns-clause-app
returns-clause-app c =
    let whole = take_all c.loop-word.word-index c.args.words.now (grind (arith, common_steps)) in
    subst
    (λ (words : List (Bor Text)). IfOk c.loop-word.command
    (λ command. app_of command ≡ worded_app c.args.name.now (map now_of words))) whole
    c.loop-word.invariant.app
