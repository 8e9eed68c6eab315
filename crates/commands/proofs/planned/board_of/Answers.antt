use Rattle.std.proofs.Common.{Ok, Err}
use Rattle.std.specs.Prelude.{IfSome}
use Rattle.btest_core.specs.Answers.{input_told}
use Rattle.btest_core.specs.BoardRead.{IsBoardRead}
use Rattle.commands.proofs.AnswerLemmas.{no_board, of_three}
use Rattle.commands.proofs.planned.board_of.Goals as goal

pub returns-in-Ok-clause-denoted : goal.returns-in-Ok-clause-denoted
returns-in-Ok-clause-denoted c =
    of_three (λ chain nets bsdl. IsBoardRead chain nets bsdl (Ok c.in-Ok.board))
    c.as_bytes.ensures.bytes c.as_bytes-2.ensures.bytes c.as_slice.ensures.texts c.in-Ok.ensures

pub returns-in-Err-clause-none : goal.returns-in-Err-clause-none
returns-in-Err-clause-none c =
    let is = of_three
    (λ chain nets bsdl. IfSome (input_told c.in-Err.fault)
    (λ f. IsBoardRead chain nets bsdl (Err f))) c.as_bytes.ensures.bytes
    c.as_bytes-2.ensures.bytes c.as_slice.ensures.texts c.in-Err.ensures in
    rw c.unput_by.ensures (no_board c.args.texts.now c.in-Err.fault is)
