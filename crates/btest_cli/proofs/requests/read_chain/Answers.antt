use Rattle.std.proofs.Common.{List, ◌∷◌, ◌++◌, ◌∙◌, ap}
use Rattle.command_line.specs.Words.{Text}
use Rattle.btest_cli.specs.inner.Reads.{OfChain}
use Rattle.btest_cli.proofs.ReadingLemmas.{lost_first, lost_then, read_then}
use Rattle.btest_cli.proofs.requests.read_chain.Goals as goal

pub returns-in-Err : goal.returns-in-Err
returns-in-Err g c = lost_first _ OfChain c.in-Err.ensures

pub returns-in-Ok-read_texts : goal.returns-in-Ok-read_texts
returns-in-Ok-read_texts g c =
    read_then OfChain _ c.in-Ok.ensures c.in-Ok-read_texts.ensures
    (λ texts more is are. ap (λ (l : List Text). l ++ more) is
    ∙ ap (λ (l : List Text). c.in-Ok.chain ∷ l) are)

pub returns-in-Err-read_texts : goal.returns-in-Err-read_texts
returns-in-Err-read_texts g c = lost_then OfChain c.in-Ok.ensures c.in-Err-read_texts.ensures
