use Rattle.std.proofs.Common.{◌≡◌, ◌≤◌, ◌++◌, map, drop, vec_len}
use Rattle.board_lines.specs.ChainParts.{described_names}
use Rattle.board_lines.proofs.parts.described_names.Given as goal

-- The names found so far, followed by the names of the described parts among the remaining parts,
-- are the names of all described parts. There are at most as many names so far as parts visited.
abbrev pub invariant-loop-part : goal.invariant-loop-part
invariant-loop-part l = record {
  names : described_names l.parts ≡ map (λ n. n.now) l.names.items ++ described_names (drop l.part-index l.parts);
  few : vec_len l.names ≤ l.part-index;
}
