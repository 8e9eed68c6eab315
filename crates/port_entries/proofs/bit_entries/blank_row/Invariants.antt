use Rattle.std.proofs.Common.{◌≡◌, [], replicate}
use Rattle.port_entries.proofs.bit_entries.blank_row.Given as goal

abbrev pub invariant-loop-place : goal.invariant-loop-place
invariant-loop-place l = l.row.items ≡ replicate l._place []
