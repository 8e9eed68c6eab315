use Rattle.std.proofs.Common.{◌≡◌, ◌++◌, drop}
use Rattle.std.specs.Prelude.{All}
use Rattle.std.specs.Vec.Iter.{into_iter_items}
use Rattle.board_defs.specs.BoardRules.{IsPart}
use Rattle.board_lines.specs.ChainParts.{chain_parts}
use Rattle.board_lines.proofs.parts.chain_parts.Given as goal

-- The parts made so far, followed by the parts that the remaining lines make of the remaining
-- devices, are the parts that all lines make of all devices. Each part made so far keeps the rules
-- of a part.
abbrev pub invariant-loop-line : goal.invariant-loop-line
invariant-loop-line l = record {
  parts : chain_parts l.lines l.fn.devices.items ≡ l.parts.items ++ chain_parts (drop l.line-index l.lines) (into_iter_items l.devices);
  kinds : All (λ part. IsPart part.kind) l.parts.items;
}
