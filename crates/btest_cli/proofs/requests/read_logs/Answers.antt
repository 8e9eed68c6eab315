use Rattle.std.proofs.Common.{List, ◌∷◌, ◌++◌, ◌∙◌, ap}
use Rattle.command_line.specs.Words.{Text}
use Rattle.btest_cli.specs.inner.Reads.{OfLog}
use Rattle.btest_cli.proofs.ReadingLemmas.{lost_first, lost_then, read_then}
use Rattle.btest_cli.proofs.requests.read_logs.Goals as goal

pub returns-in-Err : goal.returns-in-Err
returns-in-Err g c = lost_first _ OfLog c.in-Err.ensures

pub returns-in-Ok-read_board : goal.returns-in-Ok-read_board
returns-in-Ok-read_board g c =
    read_then OfLog _ c.in-Ok.ensures c.in-Ok-read_board.ensures
    (λ texts more is are. ap (λ (l : List Text). l ++ more) is
    ∙ ap (λ (l : List Text). c.in-Ok.log ∷ l) are)

pub returns-in-Err-read_board : goal.returns-in-Err-read_board
returns-in-Err-read_board g c = lost_then OfLog c.in-Ok.ensures c.in-Err-read_board.ensures
