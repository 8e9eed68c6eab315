use Rattle.std.proofs.Common.{◌≡◌, take}
use Rattle.plan_tables.specs.inner.Steady.{all_marked, held_by, AreRuns}
use Rattle.plan_tables.proofs.uses.note_passes.Given as goal

abbrev pub invariant-loop-k : goal.invariant-loop-k
invariant-loop-k l = record {
  held : l.held ≡ all_marked l.placed.board.now l.quiet.bits l.initial.held (take l.k l.passes);
  runs : AreRuns (held_by l.placed.board.now l.quiet.bits l.passes) l.runs;
}
