use Rattle.std.proofs.Common.{rules, ◌≡◌, [], ◌∷◌, List, map, subst}
use Rattle.board_gen.specs.BoardTexts.{chain_file_text, net_text}
use Rattle.board_gen.specs.DeviceText.{bsdl_text}
use Rattle.answers.specs.Gives.{Gives}
use Rattle.btest_core.specs.Answers.{input_told}
use Rattle.btest_core.specs.BoardRead.{IsBoardRead}
use Rattle.command_line.specs.Words.{Text}
use Rattle.commands.proofs.board_summary.generated_board.Goals as goal

pub returns : goal.returns
returns c =
    let chain : c.deref.result.now ≡ chain_file_text c.args.number = search rules in
    let nets : c.deref-2.result.now ≡ net_text c.args.number = search rules in
    let texts : map (λ text. text.items) c.deref-3.result.now ≡ bsdl_text ∷ [] = search rules in
    let read = subst
    (λ (t : List Text). Gives input_told (λ board. board)
    (IsBoardRead c.deref.result.now c.deref-2.result.now t) c.read_board.result) texts
    c.read_board.ensures in
    let known = subst
    (λ (t : Text). Gives input_told (λ board. board)
    (IsBoardRead c.deref.result.now t (bsdl_text ∷ [])) c.read_board.result) nets read in
    subst
    (λ (t : Text). Gives input_told (λ board. board)
    (IsBoardRead t (net_text c.args.number) (bsdl_text ∷ [])) c.read_board.result) chain known
