use Rattle.std.proofs.Common.{◌≡◌, length, map, take}
use Rattle.std.specs.List.{range_with_len}
use Rattle.walk_test.specs.inner.Reading.{members}
use Rattle.walk_test.proofs.grouping.all_members.Given as goal

-- list `k` has the nets with label `k`, of the nets before place `i`
abbrev pub invariant-loop-i : goal.invariant-loop-i
invariant-loop-i l = l.lists.items ≡ map (members (take l.i l.nets) (take l.i l.labels)) (range_with_len 0 (length l.labels))
