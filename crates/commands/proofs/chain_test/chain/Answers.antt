use Rattle.std.proofs.Common.{ℕ, List, Ok, Err, subst}
use Rattle.std.specs.Prelude.{IfSome}
use Rattle.tap_defs.specs.chain.ChainScans.{chain_text}
use Rattle.tap_defs.specs.chain.ChainTest.{IsChainTest}
use Rattle.btest_core.specs.BoardRead.{AreChainLengths}
use Rattle.btest_core.specs.Answers.{input_told}
use Rattle.commands.specs.Worth.{IsChainTestText}
use Rattle.commands.specs.inner.Unput.{PutsText}
use Rattle.commands.proofs.AnswerLemmas.{answers_fault, of_two, text_answers}
use Rattle.commands.proofs.chain_test.chain.Goals as goal

pub returns-in-Err : goal.returns-in-Err
returns-in-Err g c =
    let is = of_two
    (λ chain bsdl. IfSome (input_told c.in-Err.fault) (λ f. AreChainLengths chain bsdl (Err f)))
    c.as_bytes.ensures.bytes c.as_slice.ensures.texts c.in-Err.ensures.read in
    rw c.unput_by.ensures
    (answers_fault (AreChainLengths c.args.texts.now.chain c.args.texts.now.bsdl) chain_text
    (IsChainTestText c.args.texts.now) (g.K.Sink.shown c.args.out.now) c.in-Err.fault is)

pub returns-in-Ok : goal.returns-in-Ok
returns-in-Ok g c =
    let lengths = c.in-Ok.lengths.items in
    let puts = subst
    (λ (l : List ℕ). PutsText (chain_text l) (g.K.Sink.shown c.args.out.now)
    (g.K.Sink.shown c.put_test.new.out) c.put_test.result) c.deref-in-Ok.ensures.value
    c.put_test.ensures in
    let tests = subst (λ (l : List ℕ). IsChainTest l (chain_text l)) c.deref.ensures.value c.tests_length.ensures in
    let are = of_two (λ chain bsdl. AreChainLengths chain bsdl (Ok lengths))
    c.as_bytes.ensures.bytes c.as_slice.ensures.texts c.in-Ok.ensures.read in
    text_answers _ _ _ lengths are _ _ _ puts
    (record { lengths = lengths; are = are; bounds = c.in-Ok.ensures.bounds; tests = tests })
