use Rattle.std.proofs.Common.{rules, subst}
use Rattle.std.specs.Prelude.{IfSome, slice_get}
use Rattle.bt_base.specs.Puts.{Puts}
use Rattle.tap_defs.specs.chain.Text.{scan_text}
use Rattle.walk_test.specs.WalkTest.{walk_scans}
use Rattle.commands.specs.inner.Boards.{WalkedBoard}
use Rattle.commands.proofs.board_walk.write_walk_scan.Goals as goal

pub returns-clause-text : goal.returns-clause-text
returns-clause-text g c =
    subst
    (λ (w : WalkedBoard). IfSome (slice_get (walk_scans w.board) c.args.k)
    (λ scan. Puts (g.K.Sink.shown c.args.out.now) (g.K.Sink.shown c.write_scan.new.out)
    (scan_text scan) c.write_scan.result)) c.walked.view_is (search rules)
