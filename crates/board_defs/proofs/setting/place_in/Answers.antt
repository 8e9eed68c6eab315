use Rattle.std.proofs.Common.{sym, ◌∙◌, ap}
use Rattle.std.specs.Prelude.{slice_get}
use Rattle.board_defs.proofs.ControlOrder.{holds_some, holds_none}
use Rattle.board_defs.proofs.setting.place_in.Goals as goal

pub returns-in-None : goal.returns-in-None
returns-in-None c =
    let list = c.args.controls.now in
    holds_none c.args.c list c.requires (ap (slice_get list) (sym c.place_of-place.ensures.place) ∙ sym c.control_at.ensures ∙ c.in-None.is)

pub returns-else-is_same : goal.returns-else-is_same
returns-else-is_same c =
    let list = c.args.controls.now in
    holds_some c.args.c c.in-Some.d list c.requires
    (ap (slice_get list) (sym c.place_of-place.ensures.place) ∙ sym c.control_at.ensures
    ∙ c.in-Some.is) ∙ sym c.is_same.ensures ∙ c.if-is_same.false
