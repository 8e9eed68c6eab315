use Rattle.bt_base.proofs.Cuts.{puts_err}
use Rattle.tap_defs.specs.chain.Text.{svf_text, head_text, tail_text}
use Rattle.walk_test.specs.WalkTest.{walk_scans}
use Rattle.commands.proofs.TestLemmas.{below, past, puts_scan, cut_scan, puts_tail}
use Rattle.commands.proofs.board_walk.write_walk.Goals as goal

pub returns-in_err-write_head : goal.returns-in_err-write_head
unfolding svf_text
returns-in_err-write_head g c = puts_err _ c.write_head.ensures c.in_err-write_head.was c.from_residual.ensures.0

pub returns-in_err-write_walk_scan : goal.returns-in_err-write_walk_scan
unfolding svf_text
returns-in_err-write_walk_scan g c =
    let board = c.args.walked.now.board in
    let scans = walk_scans board in
    let counted = c.scans-k-end.ensures.scans in
    cut_scan head_text tail_text scans c.loop-k.k (below scans c.loop-k.k c.scans-k-end.result counted c.loop-k-test.true)
    c.loop-k.invariant.put c.write_walk_scan.ensures.text c.in_err-write_walk_scan.was c.from_residual-in_err-write_walk_scan.ensures.0

pub loop-k-preserved : goal.loop-k-preserved
loop-k-preserved g c =
    let board = c.args.walked.now.board in
    let scans = walk_scans board in
    let counted = c.scans-k-end.ensures.scans in
    record {
      put =
          puts_scan head_text scans c.loop-k.k (below scans c.loop-k.k c.scans-k-end.result counted c.loop-k-test.true)
          c.loop-k.invariant.put c.write_walk_scan.ensures.text c.in_ok-write_walk_scan.was;
      room = c.write_walk_scan.ensures.room;
    }

pub returns : goal.returns
unfolding svf_text
returns g c =
    let board = c.args.walked.now.board in
    let scans = walk_scans board in
    let counted = c.scans-k-end.ensures.scans in
    puts_tail head_text tail_text scans c.loop-k.k (past scans c.loop-k.k c.scans-k-end.result counted c.loop-k-test.false)
    c.loop-k.invariant.put c.write_tail.ensures
