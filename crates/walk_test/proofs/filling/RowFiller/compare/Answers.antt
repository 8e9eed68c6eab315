use Rattle.std.proofs.Common.{ℕ, ◌≤◌, Bool, true, false, List, length, replicate, sym, ap, ◌∙◌, arith}
use Rattle.board_defs.specs.Pins.{data_bits}
use Rattle.plan_tables.specs.Assigned.{assigned}
use Rattle.walk_test.specs.inner.Tables.{walk_mask, walk_expected}
use Rattle.walk_test.proofs.FillLemmas.{mask_length, net_compared, net_expected, nothing_compared, nothing_expected}
use Rattle.walk_test.proofs.filling.RowFiller.compare.Goals as goal

pub copy_row-requires : goal.copy_row-requires
copy_row-requires c =
    omega (
      arith,
      mask_length c.self.inside.board.now c.raw-rules.ensures.rules c.self.inside.tables.now c.self.invariant.0 c.self.invariant.1,
      ap (λ it. data_bits it.board) c.self.view_is,
      c.requires.mask_room,
    )

pub returns-in-None-clause-tdo : goal.returns-in-None-clause-tdo
returns-in-None-clause-tdo c =
    let le : c.args.j
    ≤ length c.self.inside.tables.now.nets = omega
    (arith, c.requires.row, ap (λ it. length it.tables.nets) c.self.view_is) in
    c.clear.ensures.bits
    ∙ ap (λ (n : ℕ). replicate n false) c.dr_bits-len.ensures
    ∙ nothing_expected c.self.inside.board.now c.raw-rules.ensures.rules c.self.inside.tables.now
    c.self.invariant.0 c.self.invariant.1 c.args.j le (sym c.in-None.ensures)
    ∙ ap (λ it. walk_expected it c.args.j) c.self.view_is

pub returns-in-None-clause-mask : goal.returns-in-None-clause-mask
returns-in-None-clause-mask c =
    let le : c.args.j
    ≤ length c.self.inside.tables.now.nets = omega
    (arith, c.requires.row, ap (λ it. length it.tables.nets) c.self.view_is) in
    c.clear-in-None.ensures.bits
    ∙ ap (λ (n : ℕ). replicate n false) c.dr_bits-len.ensures
    ∙ nothing_compared c.self.inside.board.now c.raw-rules.ensures.rules c.self.inside.tables.now
    c.self.invariant.0 c.self.invariant.1 c.args.j le (sym c.in-None.ensures)
    ∙ ap (λ it. walk_mask it c.args.j) c.self.view_is

pub returns-in-Some-clause-tdo : goal.returns-in-Some-clause-tdo
returns-in-Some-clause-tdo c =
    let cells = c.in-Some.cells.now in
    c.set_all.ensures.bits
    ∙ ap (λ (l : List ℕ). assigned (λ (p : ℕ). p) (λ p. true) c.clear.new.self.bits l) c.as_slice.ensures
    ∙ ap (λ (l : List Bool). assigned (λ (p : ℕ). p) (λ p. true) l cells.compared)
    (c.clear.ensures.bits ∙ ap (λ (n : ℕ). replicate n false) c.dr_bits-len.ensures)
    ∙ net_expected c.self.inside.board.now c.raw-rules.ensures.rules c.self.inside.tables.now
    c.self.invariant.0 c.self.invariant.1 c.args.j cells (sym c.in-Some.ensures)
    ∙ ap (λ it. walk_expected it c.args.j) c.self.view_is

pub returns-in-Some-clause-mask : goal.returns-in-Some-clause-mask
returns-in-Some-clause-mask c =
    c.copy_row.ensures.bits
    ∙ net_compared c.self.inside.board.now c.raw-rules.ensures.rules c.self.inside.tables.now
    c.self.invariant.0 c.self.invariant.1 c.args.j c.in-Some.cells.now (sym c.in-Some.ensures)
    ∙ ap (λ it. walk_mask it c.args.j) c.self.view_is
