use Rattle.std.proofs.Common.{Ok, take, ◌++◌}
use Rattle.bt_base.specs.Puts.{Puts}
use Rattle.bt_base.specs.declared.sink.PutFault.{PutFault}
use Rattle.tap_defs.specs.chain.Text.{head_text, scan_texts}
use Rattle.walk_test.specs.WalkTest.{walk_scans}
use Rattle.scan_planner.specs.Plans.{IsRoom}
use Rattle.commands.specs.inner.Rows.{EachStoredHasRoom}
use Rattle.commands.proofs.board_walk.write_walk.Given as goal

-- the sink has taken the head and the first `k` scans, and the rows still have room for a scan
abbrev pub invariant-loop-k : goal.invariant-loop-k
invariant-loop-k g l = record {
  put : Puts {T = Unit {0}} {E = PutFault} (g.K.Sink.shown l.fn.out) (g.K.Sink.shown l.out)
      (head_text ++ scan_texts (take l.k (walk_scans l.walked.board))) (Ok tt);
  room : EachStoredHasRoom (IsRoom l.walked.board) l.rows.scan;
}
