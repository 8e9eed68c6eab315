use Rattle.std.proofs.Common.{◌≡◌, ℕ, ◌+◌, ◌-◌, ◌<◌, subst, arith}
use Rattle.std.specs.Prelude.{IfSome}
use Rattle.std.proofs.lemmas.Option.{IfSome_then}
use Rattle.bt_base.proofs.Cuts.{puts_err}
use Rattle.tap_defs.specs.chain.Text.{svf_text, head_text, tail_text}
use Rattle.tap_defs.specs.board.BoardScans.{test_scans}
use Rattle.commands.specs.inner.Rows.{HoldScan}
use Rattle.commands.proofs.TestLemmas.{below_count, past_count, puts_scan, cut_scan, puts_tail}
use Rattle.commands.proofs.board_test.write_scans.Goals as goal

last : (k : ℕ) → k ≡ k + 1 - 1
last k = omega arith

more : (k : ℕ) → 0 < k + 1
more k = omega arith

pub returns-in_err-write_head : goal.returns-in_err-write_head
unfolding svf_text
returns-in_err-write_head g c = puts_err _ c.write_head.ensures c.in_err-write_head.was c.from_residual.ensures.0

pub returns-in_err-write_scan_at : goal.returns-in_err-write_scan_at
unfolding svf_text
returns-in_err-write_scan_at g c =
    cut_scan head_text tail_text (test_scans c.args.test.now.board c.args.test.now.plan.passes c.args.test.now.plan.width) c.loop-k.k
    (below_count c.args.test.now.board c.args.test.now.plan.passes c.args.test.now.plan.width
    c.loop-k.k c.scans-k-end.result
    (c.scans_placed.ensures c.args.test.now.board c.args.test.now.plan.passes
    c.args.test.now.plan.width) c.scans-k-end.ensures c.loop-k-test.true)
    c.loop-k.invariant.put c.write_scan_at.ensures.text c.in_err-write_scan_at.was c.from_residual-in_err-write_scan_at.ensures.0

pub loop-k-preserved : goal.loop-k-preserved
loop-k-preserved g c = record {
  put =
      puts_scan head_text (test_scans c.args.test.now.board c.args.test.now.plan.passes c.args.test.now.plan.width) c.loop-k.k
      (below_count c.args.test.now.board c.args.test.now.plan.passes c.args.test.now.plan.width
      c.loop-k.k c.scans-k-end.result
      (c.scans_placed.ensures c.args.test.now.board c.args.test.now.plan.passes
      c.args.test.now.plan.width) c.scans-k-end.ensures c.loop-k-test.true)
      c.loop-k.invariant.put c.write_scan_at.ensures.text c.in_ok-write_scan_at.was;
  later =
      IfSome_then c.write_scan_at.new.held
      {P = λ shape. HoldScan c.args.test.now.board c.args.test.now.plan c.loop-k.k shape
      c.write_scan_at.new.rows.scan} {Q = λ shape. 0 < c.loop-k.k + 1} c.write_scan_at.ensures.held
      (λ shape filled. more c.loop-k.k);
  held =
      subst
      (λ n. IfSome c.write_scan_at.new.held
      (λ shape. HoldScan c.args.test.now.board c.args.test.now.plan n shape
      c.write_scan_at.new.rows.scan)) (last c.loop-k.k) c.write_scan_at.ensures.held;
  kept = c.write_scan_at.ensures.kept;
  room = c.write_scan_at.ensures.room;
}

pub returns : goal.returns
unfolding svf_text
returns g c =
    puts_tail head_text tail_text (test_scans c.args.test.now.board c.args.test.now.plan.passes c.args.test.now.plan.width) c.loop-k.k
    (past_count c.args.test.now.board c.args.test.now.plan.passes c.args.test.now.plan.width
    c.loop-k.k c.scans-k-end.result
    (c.scans_placed.ensures c.args.test.now.board c.args.test.now.plan.passes
    c.args.test.now.plan.width) c.scans-k-end.ensures c.loop-k-test.false)
    c.loop-k.invariant.put c.write_tail.ensures
