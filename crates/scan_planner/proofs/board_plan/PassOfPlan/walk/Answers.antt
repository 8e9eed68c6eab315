use Rattle.std.proofs.Common.{Bool, true, List, [], map, get_or, sym, ap, ◌∙◌, subst}
use Rattle.plan_tables.specs.Assigned.{assigned, code_bit_of_driver}
use Rattle.plan_tables.specs.Tables.{held_cell}
use Rattle.scan_planner.specs.inner.Passes.{with_compared_bits, driven}
use Rattle.scan_planner.proofs.FillLemmas.{expected_is, mask_is, shifted_is}
use Rattle.scan_planner.proofs.board_plan.PassOfPlan.walk.Goals as goal

pub returns-clause-shifted : goal.returns-clause-shifted
returns-clause-shifted g c j shows within common =
    let test = c.args.self.now.test in
    let pass = c.controls-pass.result in
    let cells = c.controls-pass.ensures in
    let number = c.args.self.now.number in
    let held = λ (bits : List Bool). assigned (λ h. h.position) (λ h. h.bit) bits
    (map (held_cell test.board test.plan.quiet.bits) (get_or test.plan.passes number [])) in
    let walked =
    c.drive.ensures.shifted j (subst (λ k. g.S.CodeRows.shows k j) (sym c.hold.ensures.kind) shows)
    ∙ ap
    (λ bits. driven pass.board.now pass.tables.now (code_bit_of_driver pass.tables.now.codes j)
    bits pass.setting.now) (c.hold.ensures.bits j shows) in
    (rw (cells.board, cells.tables, cells.setting) at walked)
    ∙ ap (λ bits. driven test.board test.plan (code_bit_of_driver test.plan.codes j) (held bits) (get_or test.plan.passes number [])) common
    ∙ shifted_is test.board c.laws.ensures.rules test.plan c.laws.ensures.plan number c.laws.ensures.within j within

pub returns-clause-expected : goal.returns-clause-expected
returns-clause-expected g c j shows common =
    let test = c.args.self.now.test in
    let cells = c.controls-pass.ensures in
    let number = c.args.self.now.number in
    let bit = code_bit_of_driver test.plan.codes j in
    (rw (cells.board, cells.tables, cells.setting) at (c.drive.ensures.expected j shows))
    ∙ ap (λ bits. with_compared_bits test.board test.plan bit bits (get_or test.plan.passes number [])) common
    ∙ expected_is test.board c.laws.ensures.rules test.plan c.laws.ensures.plan number c.laws.ensures.within j

pub returns-clause-mask : goal.returns-clause-mask
returns-clause-mask g c i j shows common =
    let test = c.args.self.now.test in
    let cells = c.controls-pass.ensures in
    let number = c.args.self.now.number in
    (rw (cells.board, cells.tables, cells.setting) at (c.drive.ensures.mask i shows))
    ∙ ap (λ bits. with_compared_bits test.board test.plan (λ d. true) bits (get_or test.plan.passes number [])) common
    ∙ mask_is test.board c.laws.ensures.rules test.plan c.laws.ensures.plan number c.laws.ensures.within j
