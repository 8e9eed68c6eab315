use Rattle.std.proofs.Common.{Bool, false, List, get_or, ap, ◌∙◌}
use Rattle.board_defs.specs.Pins.{guarded_at}
use Rattle.net_pins.proofs.GuardLemmas.{guarded_is}
use Rattle.net_pins.proofs.board_pins.BoardPins.is_guarded.Goals as goal

pub returns : goal.returns
returns c =
    let n = c.args.net in
    c.is_set.ensures
    ∙ ap (λ (flags : List Bool). get_or flags n false) c.as_slice.ensures
    ∙ guarded_is c.self.inside.board.now c.self.inside.tables.now.guarded n c.self.invariant.guards
    ∙ ap (λ b. guarded_at b n) c.self.view_is
