use Rattle.std.proofs.Common.{◌≡◌, map, take, vec_len}
use Rattle.board_files.specs.Names.{line_names}
use Rattle.board_files.proofs.net_file.line_names.Given as goal

abbrev pub invariant-loop-line : goal.invariant-loop-line
invariant-loop-line l = record {
  names : map (λ n. n.now) l.names.items ≡ line_names (take l.line-index l.lines);
  count : vec_len l.names ≡ l.line-index;
}
