use Rattle.std.proofs.Common.{◌≡◌, ◌≤◌, length, filter, take}
use Rattle.board_defs.specs.Decided.{is_covered}
use Rattle.coverage_list.proofs.questions.covered_count.Given as goal

-- the count is the number of covered nets among the first `n` nets
abbrev pub invariant-loop-n : goal.invariant-loop-n
invariant-loop-n l = record {
  counted : l.covered ≡ length (filter (is_covered l.board) (take l.n l.board.nets));
  within : l.covered ≤ l.n;
}
