use Rattle.std.proofs.Common.{◌∙◌, length, min, ap}
use Rattle.bt_base.specs.Counts.{last_count}
use Rattle.tap_defs.specs.board.BoardScans.{pass_text}
use Rattle.scan_planner.specs.Planned.{PlannedBoard}
use Rattle.commands.proofs.SummaryLemmas.{summary_is}
use Rattle.commands.proofs.board_summary.planned_counts.Goals as goal

pub counts_of-requires : goal.counts_of-requires
counts_of-requires c = rw c.board.ensures c.requires

pub returns : goal.returns
returns c =
    let test = c.args.test.now in
    let counts = rw (c.board.ensures, c.plan.ensures.value) at c.counts_of.ensures in
    let bytes = c.in_ok-bytes.ensures
    ∙ ap
    (λ (p : PlannedBoard). min (length (pass_text p.board p.plan.passes p.plan.width))
    last_count) c.board_plan.ensures in
    summary_is test.board test.plan c.plan.ensures.plan c.plan.ensures.passes c.scans_placed.ensures
    counts.devices counts.nets counts.covered counts.passes counts.scans (counts.bytes ∙ bytes)
