use Rattle.std.proofs.Common.{◌≡◌}
use Rattle.std.specs.Prelude.{filter}
use Rattle.net_facts.specs.Cells.{table}
use Rattle.net_facts.specs.inner.Answers.{useful_in}
use Rattle.net_facts.proofs.UsefulLemmas.{cells_upto}
use Rattle.net_facts.proofs.useful.useful_controls.Given as goal

abbrev pub invariant-loop-part : goal.invariant-loop-part
invariant-loop-part l = l.useful.items ≡ filter (useful_in (table l.rows)) (cells_upto l.board.chain l.part)
