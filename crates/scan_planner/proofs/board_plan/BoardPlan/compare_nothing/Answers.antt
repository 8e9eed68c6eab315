use Rattle.std.proofs.Common.{◌≡◌, Bool, List, false, ap, ◌∙◌, replicate}
use Rattle.std.specs.List.{list_any}
use Rattle.lists.proofs.ListLemmas.{none_of_zeros}
use Rattle.board_defs.specs.declared.board.RawBoard.{RawBoard}
use Rattle.board_defs.specs.Pins.{data_bits}
use Rattle.scan_planner.proofs.FillLemmas.{quiet_tdo, quiet_mask}
use Rattle.scan_planner.proofs.board_plan.BoardPlan.compare_nothing.Goals as goal

pub returns-clause-bits : goal.returns-clause-bits
returns-clause-bits c scan quiet =
    let board = c.args.self.now.board in
    let zeros : replicate c.dr_bits-len.result false
    ≡ replicate (data_bits board) false = ap (λ n. replicate n false)
    (c.dr_bits-len.ensures ∙ ap (λ (b : RawBoard). data_bits b) c.board.ensures) in
    record {
      tdo = c.clear.ensures.bits ∙ zeros ∙ quiet_tdo board scan quiet;
      mask = c.clear-2.ensures.bits ∙ zeros ∙ quiet_mask board scan quiet;
    }

pub returns-clause-nothing : goal.returns-clause-nothing
returns-clause-nothing c = ap (λ (l : List Bool). list_any (λ bit. bit) l) c.clear-2.ensures.bits ∙ none_of_zeros c.dr_bits-len.result
