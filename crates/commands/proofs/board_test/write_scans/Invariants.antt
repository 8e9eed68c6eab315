use Rattle.std.proofs.Common.{Ok, take, ◌++◌, ◌-◌, ◌<◌}
use Rattle.std.specs.Prelude.{IfSome}
use Rattle.bt_base.specs.Puts.{Puts}
use Rattle.bt_base.specs.declared.sink.PutFault.{PutFault}
use Rattle.tap_defs.specs.chain.Text.{head_text, scan_texts}
use Rattle.tap_defs.specs.board.BoardScans.{test_scans}
use Rattle.scan_planner.specs.PassRows.{AreKept}
use Rattle.scan_planner.specs.Plans.{IsRoom}
use Rattle.commands.specs.inner.Rows.{EachStoredHasRoom, HoldScan}
use Rattle.commands.proofs.board_test.write_scans.Given as goal

-- The sink has taken the head and the first `k` scans. If `held` has a shape, `k` is above 0, the rows hold
-- scan `k - 1`, and `held` has the shape of that scan. `kept` holds no rows of another test, and the rows
-- have room for a scan.
abbrev pub invariant-loop-k : goal.invariant-loop-k
invariant-loop-k g l = record {
  put : Puts {T = Unit {0}} {E = PutFault} (g.K.Sink.shown l.fn.out) (g.K.Sink.shown l.out)
      (head_text
      ++ scan_texts (take l.k (test_scans l.test.board l.test.plan.passes l.test.plan.width)))
      (Ok tt);
  later : IfSome l.held (λ shape. 0 < l.k);
  held : IfSome l.held (λ shape. HoldScan l.test.board l.test.plan (l.k - 1) shape l.rows.scan);
  kept : AreKept l.test.board l.test.plan l.kept;
  room : EachStoredHasRoom (IsRoom l.test.board) l.rows.scan;
}
