use Rattle.std.proofs.Common.{List, Option, Ok, Err, subst}
use Rattle.std.specs.Prelude.{IfSome}
use Rattle.board_defs.specs.declared.device.Symbol.{Symbol}
use Rattle.ident_test.specs.IdentTest.{IsIdentTest}
use Rattle.ident_test.specs.Patterns.{ident_text}
use Rattle.btest_core.specs.IdentsRead.{AreIdents}
use Rattle.btest_core.specs.Answers.{input_told}
use Rattle.commands.specs.Worth.{IsIdentTestText}
use Rattle.commands.specs.inner.Unput.{PutsText}
use Rattle.commands.proofs.AnswerLemmas.{answers_fault, of_two, text_answers}
use Rattle.commands.proofs.ident_codes.ident.Goals as goal

pub returns-in-Err : goal.returns-in-Err
returns-in-Err g c =
    let is = of_two
    (λ chain bsdl. IfSome (input_told c.in-Err.fault) (λ f. AreIdents chain bsdl (Err f)))
    c.as_bytes.ensures.bytes c.as_slice.ensures.texts c.in-Err.ensures.read in
    rw c.unput_by.ensures
    (answers_fault (AreIdents c.args.texts.now.chain c.args.texts.now.bsdl) ident_text
    (IsIdentTestText c.args.texts.now) (g.K.Sink.shown c.args.out.now) c.in-Err.fault is)

pub returns-in-Ok : goal.returns-in-Ok
returns-in-Ok g c =
    let patterns = c.in-Ok.patterns.items in
    let puts = subst
    (λ (p : List (Option (List Symbol))). PutsText (ident_text p)
    (g.K.Sink.shown c.args.out.now) (g.K.Sink.shown c.put_test.new.out) c.put_test.result)
    c.deref-in-Ok.ensures.value c.put_test.ensures in
    let tests = subst (λ (p : List (Option (List Symbol))). IsIdentTest p (ident_text p))
    c.deref.ensures.value c.tests_codes.ensures.tests in
    let are = of_two (λ chain bsdl. AreIdents chain bsdl (Ok patterns)) c.as_bytes.ensures.bytes
    c.as_slice.ensures.texts c.in-Ok.ensures.read in
    text_answers _ _ _ patterns are _ _ _ puts
    (record {
      patterns = patterns;
      are = are;
      bounds = record {
        some = c.in-Ok.ensures.count.0;
        few = c.in-Ok.ensures.count.1;
        whole =
            c.in-Ok.ensures.symbols;
      };
      tests = tests;
    })
