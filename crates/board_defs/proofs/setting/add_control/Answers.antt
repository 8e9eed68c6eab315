use Rattle.std.proofs.Common.{sym, ◌∙◌, ap}
use Rattle.board_defs.specs.Settings.{holds}
use Rattle.board_defs.proofs.ControlOrder.{inserted_old, added, added_order, place}
use Rattle.board_defs.proofs.setting.add_control.Goals as goal

pub returns-then-has_control-clause-added : goal.returns-then-has_control-clause-added
returns-then-has_control-clause-added c =
    let list = c.args.controls.now.items in
    sym
    (inserted_old c.args.c list c.requires
    (ap (λ v. holds v c.args.c) (sym c.deref.ensures.value) ∙ sym c.has_control.ensures
    ∙ c.if-has_control.true))

pub returns-clause-added : goal.returns-clause-added
returns-clause-added c =
    let list = c.args.controls.now.items in
    added c.args.c list c.insert.new.self.items c.place_of-place.result c.requires
    (ap (λ v. holds v c.args.c) (sym c.deref.ensures.value) ∙ sym c.has_control.ensures ∙ c.if-has_control.false)
    (c.place_of-place.ensures.place ∙ ap (λ v. place v c.args.c) c.deref-2.ensures.value)
    c.in_ok-insert.ensures.items

pub returns-clause-order : goal.returns-clause-order
returns-clause-order c = added_order c.args.c c.args.controls.now.items c.insert.new.self.items (returns-clause-added c) c.requires
