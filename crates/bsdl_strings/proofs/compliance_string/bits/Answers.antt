use Rattle.std.proofs.Common.{sym, ◌∙◌, ap}
use Rattle.std.proofs.lemmas.Result.{err_from_is_err_and}
use Rattle.grammars.specs.Grammar.{reader_of_grammar}
use Rattle.grammars.specs.inner.Reader.{found}
use Rattle.bsdl_strings.specs.Pieces.{pieces}
use Rattle.bsdl_strings.specs.Strings.{bits}
use Rattle.bsdl_strings.proofs.ComplianceLemmas.{another_bit, last_bit, bits_stop, fewer_bits}
use Rattle.bsdl_strings.proofs.compliance_string.bits.Goals as goal

pub returns-in_err-one : goal.returns-in_err-one
returns-in_err-one c =
    let p = err_from_is_err_and c.from_residual.result c.from_residual.ensures.1 in
    rw (p.1, p.2)
    (bits_stop c.bits.bits.items c.in_err-one.field-0.0 (pieces c.bits.rest.now)
    (reader_of_grammar bits (pieces c.args.text.now)) c.bits.invariant c.in_err-one.ensures)

pub returns-then-not-more : goal.returns-then-not-more
returns-then-not-more c =
    last_bit c.bits.bits.items c.push.new.self.items (c.in_ok-one.one, c.in_ok-one.more)
    (pieces c.bits.rest.now) (pieces c.in_ok-one.next.now)
    (reader_of_grammar bits (pieces c.args.text.now)) c.bits.invariant
    c.in_ok-one.ensures c.if-not-more.true c.in_ok-push.ensures.items
    ∙ ap (λ all. found all (pieces c.in_ok-one.next.now)) (sym c.of.ensures)

pub bits-smaller : goal.bits-smaller
bits-smaller c =
    fewer_bits c.bits.bits.items (c.in_ok-one.one, c.in_ok-one.more) (pieces c.bits.rest.now)
    (pieces c.in_ok-one.next.now) c.in_ok-one.ensures

pub bits-preserved : goal.bits-preserved
bits-preserved c =
    another_bit c.bits.bits.items c.push.new.self.items (c.in_ok-one.one, c.in_ok-one.more)
    (pieces c.bits.rest.now) (pieces c.in_ok-one.next.now)
    (reader_of_grammar bits (pieces c.args.text.now)) c.bits.invariant
    c.in_ok-one.ensures c.if-not-more.false c.in_ok-push.ensures.items
