use Rattle.std.proofs.Common.{◌<◌, ◌≤◌, ◌∙◌, length, ap, arith}
use Rattle.board_defs.specs.Passes.{useful_controls}
use Rattle.net_classes.specs.Pairs.{drivers_at}
use Rattle.driver_passes.specs.inner.Progress.{enabling}
use Rattle.driver_passes.proofs.ProgressLemmas.{drivers_more, passes_whole, passes_few}
use Rattle.driver_passes.proofs.EnabledLemmas.{tested_enabled}
use Rattle.driver_passes.proofs.drivers.driver_passes.Goals as goal

pub loop-net-preserved : goal.loop-net-preserved
loop-net-preserved c =
    let board = c.args.board.now in
    let same = c.classes-classes.ensures.same in
    let n = c.loop-net.net in
    let less : n
    < length board.nets = omega (
      arith,
      c.loop-net-test.true,
      c.net_count-net-end.ensures.value,
      ap (λ b. length b.nets) same,
    ) in
    let drivers = c.tested_drivers.ensures.drivers ∙ ap (λ b. drivers_at b n) same in (
      c.in_ok-add_for_drivers.ensures.progress,
      drivers_more board (enabling board) c.loop-net.progress.passes.items
          c.add_for_drivers.new.self.passes.items c.tested_drivers.result.now n less drivers
          c.loop-net.invariant.1 c.in_ok-add_for_drivers.ensures.added,
    )

pub returns-clause-few : goal.returns-clause-few
returns-clause-few c =
    let board = c.args.board.now in
    let useful = useful_controls board in
    let passes = c.loop-net.progress.passes.items in
    let all : length board.nets
    ≤ c.loop-net.net = omega (
      arith,
      c.net_count-net-end.ensures.value,
      ap (λ b. length b.nets) c.classes-classes.ensures.same,
    ) in
    passes_few board useful passes c.classes-classes.ensures.laws.rules.pins_most
    (passes_whole board useful passes c.loop-net.net all c.loop-net.invariant.1)

pub returns-clause-tested : goal.returns-clause-tested
returns-clause-tested c =
    let board = c.args.board.now in
    let useful = useful_controls board in
    let passes = c.loop-net.progress.passes.items in
    let all : length board.nets
    ≤ c.loop-net.net = omega (
      arith,
      c.net_count-net-end.ensures.value,
      ap (λ b. length b.nets) c.classes-classes.ensures.same,
    ) in
    tested_enabled board useful passes (passes_whole board useful passes c.loop-net.net all c.loop-net.invariant.1)
