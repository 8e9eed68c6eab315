use Rattle.std.proofs.Common.{◌≡◌, map, take, vec_len}
use Rattle.board_lines.specs.Selection.{entity_names}
use Rattle.board_lines.proofs.selection.entity_names.Given as goal

abbrev pub invariant-loop-entity : goal.invariant-loop-entity
invariant-loop-entity l = record {
  names : map (λ n. n.now) l.names.items ≡ entity_names (take l.entity-index l.entities);
  count : vec_len l.names ≡ l.entity-index;
}
