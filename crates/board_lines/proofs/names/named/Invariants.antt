use Rattle.std.proofs.Common.{◌≡◌, ◌≤◌, ◌++◌, map, drop, vec_len}
use Rattle.board_lines.specs.Names.{named}
use Rattle.board_lines.proofs.names.named.Given as goal

-- The names found so far, followed by the names on the remaining lines, are the names on all lines.
-- There are at most as many names so far as lines read.
abbrev pub invariant-loop-line : goal.invariant-loop-line
invariant-loop-line l = record {
  named : named l.naming l.lines ≡ map (λ n. (n.0, n.1.now)) l.list.items ++ named l.naming (drop l.line-index l.lines);
  few : vec_len l.list ≤ l.line-index;
}
