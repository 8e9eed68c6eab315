use Rattle.std.proofs.Common.{◌≤◌, length, arith}
use Rattle.coverage_list.proofs.NetLemmas.{few_pins}
use Rattle.coverage_list.proofs.questions.pin_count.Goals as goal

pub overflow_cast-result : goal.overflow_cast-result
overflow_cast-result c =
    let few : length c.args.net.now.pins ≤ 65535 = few_pins c.args.board.now c.args.n c.args.net.now c.raw-rules.ensures.rules c.requires in
    omega (arith, few, c.len.ensures)
