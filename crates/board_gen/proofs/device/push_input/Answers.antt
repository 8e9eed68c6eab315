use Rattle.std.proofs.Common.{◌++◌, codes, decimal}
use Rattle.board_gen.proofs.EachLemmas.{ends_with}
use Rattle.board_gen.proofs.device.push_input.Goals as goal

pub returns : goal.returns
returns c =
    ends_with c.extend_from_slice.result c.args.text.now.items
    (codes " (BC_1, D(" ++ decimal c.args.index) (codes "), input, X)")
    c.in_ok-push_numbered.ensures c.extend_from_slice.ensures.items
