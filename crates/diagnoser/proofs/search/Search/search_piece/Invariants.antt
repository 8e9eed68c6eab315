use Rattle.diagnoser.specs.inner.Search.{AreFoundBetween}
use Rattle.diagnoser.proofs.search.Search.search_piece.Given as goal

-- `faults` has the faults that explain the log among the piece's candidates before candidate `i`
abbrev pub invariant-loop-i : goal.invariant-loop-i
invariant-loop-i g l = AreFoundBetween l.self l.piece.first l.i l.faults.items
