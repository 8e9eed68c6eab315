use Rattle.std.proofs.Common.{sym, ◌∙◌, ap}
use Rattle.std.specs.Prelude.{slice_get}
use Rattle.board_defs.proofs.ControlOrder.{holds_some, holds_none}
use Rattle.board_defs.proofs.setting.has_control.Goals as goal

pub returns-in-Some : goal.returns-in-Some
returns-in-Some c =
    let list = c.args.controls.now in
    let at_place = ap (slice_get list) (sym c.place_of.ensures.place) ∙ sym c.control_at.ensures ∙ c.in-Some.is in
    c.is_same.ensures ∙ sym (holds_some c.args.c c.in-Some.d list c.requires at_place)

pub returns-in-None : goal.returns-in-None
returns-in-None c =
    let list = c.args.controls.now in
    let at_place = ap (slice_get list) (sym c.place_of.ensures.place) ∙ sym c.control_at.ensures ∙ c.in-None.is in
    sym (holds_none c.args.c list c.requires at_place)
