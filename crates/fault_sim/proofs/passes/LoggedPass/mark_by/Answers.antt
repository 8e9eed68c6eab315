use Rattle.std.proofs.Common.{◌≡◌, ◌∙◌, ◌+◌, ◌*◌, ◌/◌, [], ℕ, List, length, get_or, ap, sym, subst, arith}
use Rattle.std.specs.Int.Bits.{bit_and, bit_xor}
use Rattle.bt_bits.specs.Digits.{digits_of}
use Rattle.bt_bits.specs.Hex.{digit_count}
use Rattle.bt_bits.proofs.DigitLemmas.{length-digits_of}
use Rattle.response_log.specs.Kept.{AreRowDigits}
use Rattle.fault_sim.specs.Planned.{PassOfLog}
use Rattle.fault_sim.specs.inner.Marks.{HasExpected}
use Rattle.fault_sim.proofs.MarkLemmas.{digit_expected, length-compared, length-expected, row_there}
use Rattle.fault_sim.proofs.passes.LoggedPass.mark_by.Goals as goal

pub digits-requires : goal.digits-requires
digits-requires c =
    let pass = c.self.inside.pass in
    let row = rw (← c.self.view_is) at c.requires.row in
    omega (
      arith,
      row_there (length pass.test.plan.passes) pass.test.plan.width pass.number c.args.j
          (length c.self.inside.log.now) c.self.invariant.rows c.first_row.ensures.pass row,
      c.first_row.ensures.value,
      c.from.ensures,
    )

pub mark_digits-requires-clause-log : goal.mark_digits-requires-clause-log
mark_digits-requires-clause-log c =
    let pass = c.self.inside.pass in
    let row = rw (← c.self.view_is) at c.requires.row in
    let count = rw (← c.self.view_is) at c.requires.count in
    let number : ℕ = c.first_row.result + c.from.result in
    let there = row_there (length pass.test.plan.passes) pass.test.plan.width pass.number c.args.j
    (length c.self.inside.log.now) c.self.invariant.rows c.first_row.ensures.pass row in
    let long = c.self.invariant.bits number [] (omega (arith, there, c.first_row.ensures.value, c.from.ensures)) in
    c.digits.ensures.count ∙ ap digit_count long ∙ sym count

pub mark_digits-requires-clause-expected : goal.mark_digits-requires-clause-expected
mark_digits-requires-clause-expected c =
    let p = c.args.self.now in
    ap length c.digits-2.ensures ∙ length-digits_of c.args.row.now.tdo.bits
    ∙ ap digit_count
    (ap length c.requires.compared.tdo
    ∙ length-expected p.logged.test.board p.logged.test.plan p.number c.args.j)
    ∙ sym c.requires.count

pub mark_digits-requires-clause-compared : goal.mark_digits-requires-clause-compared
mark_digits-requires-clause-compared c =
    let p = c.args.self.now in
    ap length c.digits-3.ensures ∙ length-digits_of c.args.row.now.mask.bits
    ∙ ap digit_count
    (ap length c.requires.compared.mask
    ∙ length-compared p.logged.test.board p.logged.test.plan p.number c.args.j)
    ∙ sym c.requires.count

pub returns : goal.returns
returns c at within unmarked =
    let pass = c.self.inside.pass in
    let board = pass.test.board in
    let plan = pass.test.plan in
    let log = c.self.inside.log.now in
    let tdo = c.args.row.now.tdo.bits in
    let mask = c.args.row.now.mask.bits in
    let compared = rw (← c.self.view_is) at c.requires.compared in
    let row = rw (← c.self.view_is) at c.requires.row in
    let below = rw (← c.self.view_is) at within in
    let number : ℕ = pass.number * plan.width + c.args.j in
    let number_is : c.first_row.result + c.from.result
    ≡ pass.number * plan.width + c.args.j = cc (c.first_row.ensures.value, c.from.ensures) in
    let digits = subst (λ (i : ℕ). AreRowDigits (get_or log i []) c.digits.result.now) number_is c.digits.ensures in
    let long = c.self.invariant.bits number []
    (row_there (length plan.passes) plan.width pass.number c.args.j (length log)
    c.self.invariant.rows c.first_row.ensures.pass row) in
    let marked = c.mark_digits.ensures (at / 4) (omega (arith, within, c.requires.count)) unmarked in
    let none : bit_and
    (bit_xor (get_or c.digits.result.now (at / 4) 0) (get_or (digits_of tdo) (at / 4) 0))
    (get_or (digits_of mask) (at / 4) 0) ≡ 0 =
    sym
    (ap
    (λ (l : List ℕ). bit_and
    (bit_xor (get_or c.digits.result.now (at / 4) 0) (get_or l (at / 4) 0))
    (get_or c.digits-3.result.now (at / 4) 0)) c.digits-2.ensures
    ∙ ap
    (λ (l : List ℕ). bit_and
    (bit_xor (get_or c.digits.result.now (at / 4) 0) (get_or (digits_of tdo) (at / 4) 0))
    (get_or l (at / 4) 0)) c.digits-3.ensures) ∙ marked.1 in (
      marked.0,
      subst (λ (p : PassOfLog). HasExpected p.logged.test.board p.logged.test.plan p.logged.log p.number c.args.j at) c.self.view_is
          (digit_expected board plan log pass.number c.args.j at tdo mask c.digits.result.now
          compared.tdo compared.mask digits below long none),
    )
