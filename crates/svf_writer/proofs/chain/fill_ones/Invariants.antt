use Rattle.std.proofs.Common.{◌≡◌, ◌-◌, ◌++◌, true, false, replicate}
use Rattle.svf_writer.proofs.chain.fill_ones.Given as goal

abbrev pub invariant-loop-at : goal.invariant-loop-at
invariant-loop-at l = record {
  bits : l.row.bits ≡ replicate l.at true ++ replicate (l.len - l.at) false;
  room : l.row.room ≡ l.fn.row.room;
}
