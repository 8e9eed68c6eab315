use Rattle.std.proofs.Common.{◌≡◌, ℕ, [], map, get_or, vec_len}
use Rattle.board_build.proofs.nets.empty_groups.Given as goal

-- there is a group for each count visited so far, and all groups are empty
abbrev pub invariant-loop-count : goal.invariant-loop-count
invariant-loop-count l = record {
  count : vec_len l.groups ≡ l.count-index;
  empty : (n : ℕ) → get_or (map (λ g. g.items) l.groups.items) n [] ≡ [];
}
