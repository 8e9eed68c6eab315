use Rattle.std.proofs.Common.{List, ◌∷◌, ◌++◌, ◌∙◌, ap}
use Rattle.command_line.specs.Words.{Text}
use Rattle.btest_cli.specs.inner.Reads.{OfBoard}
use Rattle.btest_cli.proofs.ReadingLemmas.{lost_first, lost_then, read_then, read_two}
use Rattle.btest_cli.proofs.requests.read_board.Goals as goal

pub returns-in-Err : goal.returns-in-Err
returns-in-Err g c = lost_first _ OfBoard c.in-Err.ensures

pub returns-in-Err-read_file : goal.returns-in-Err-read_file
returns-in-Err-read_file g c = let lost = lost_then OfBoard c.in-Ok.ensures c.in-Err-read_file.ensures in lost_first _ OfBoard lost

pub returns-in-Ok-read_texts : goal.returns-in-Ok-read_texts
returns-in-Ok-read_texts g c =
    read_then OfBoard _ (read_two c.in-Ok.ensures c.in-Ok-read_file.ensures) c.in-Ok-read_texts.ensures
    (λ texts more is are. ap (λ (l : List Text). l ++ more) is ∙ ap (λ (l : List Text). c.in-Ok.chain ∷ c.in-Ok-read_file.nets ∷ l) are)

pub returns-in-Err-read_texts : goal.returns-in-Err-read_texts
returns-in-Err-read_texts g c = lost_then OfBoard (read_two c.in-Ok.ensures c.in-Ok-read_file.ensures) c.in-Err-read_texts.ensures
