use Rattle.std.proofs.Common.{◌≡◌, ◌++◌, map}
use Rattle.std.specs.Prelude.{filter}
use Rattle.std.specs.List.{range_with_len}
use Rattle.net_facts.specs.Cells.{table}
use Rattle.net_facts.specs.inner.Answers.{useful_in}
use Rattle.net_facts.proofs.UsefulLemmas.{cell_in}
use Rattle.net_facts.proofs.useful.add_part.Given as goal

abbrev pub invariant-loop-cell : goal.invariant-loop-cell
invariant-loop-cell l =
    l.useful.items
    ≡ l.initial.useful.items
    ++ filter (useful_in (table l.rows)) (map (cell_in l.part) (range_with_len 0 l.cell))
