use Rattle.std.proofs.Common.{◌≡◌, ◌<◌, ℕ, [], map, take, get_or, vec_len}
use Rattle.board_build.specs.inner.Marked.{marked_group, seen_word}
use Rattle.board_build.proofs.nets.groups.Given as goal

-- the group of each net has the pins of the net that the first `i` words name
abbrev pub invariant-loop-i : goal.invariant-loop-i
invariant-loop-i l = record {
  count : vec_len l.groups ≡ l.count;
  groups : (n : ℕ) → n < l.count → get_or (map (λ g. g.items) l.groups.items) n [] ≡ marked_group (map seen_word (take l.i l.words)) n;
}
