use Rattle.std.proofs.Common.{◌≡◌, ◌++◌, map, drop}
use Rattle.board_lines.specs.LineRules.{pulls_of}
use Rattle.board_lines.proofs.line_rules.pulls_of.Given as goal

-- The nets and values found so far, followed by those on the remaining lines, are the nets and
-- values on all PULL lines.
abbrev pub invariant-loop-line : goal.invariant-loop-line
invariant-loop-line l = pulls_of l.lines ≡ map (λ p. (p.0.now, p.1)) l.pulls.items ++ pulls_of (drop l.line-index l.lines)
