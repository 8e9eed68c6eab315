use Rattle.std.proofs.Common.{sym, ◌∙◌, ap, subst}
use Rattle.std.proofs.lemmas.Result.{err_from_is_err_and}
use Rattle.grammars.specs.inner.Reader.{found}
use Rattle.grammars.proofs.ListReaders.{Progress, goes_further, ends_with, shorter}
use Rattle.bsdl_strings.specs.Pieces.{pieces}
use Rattle.bsdl_strings.specs.Strings.{comma_or_close}
use Rattle.bsdl_strings.specs.inner.Takes.{can_group}
use Rattle.bsdl_strings.proofs.Lists.{stops_in_entry, stops_in_mark}
use Rattle.bsdl_strings.proofs.listed.group.Goals as goal

pub returns-in_err-one : goal.returns-in_err-one
returns-in_err-one g c =
    let p = err_from_is_err_and c.from_residual.result c.from_residual.ensures.1 in
    rw (p.1, p.2)
    (stops_in_entry (can_group g.met.T.Listed.takes) (pieces c.args.text.now) (pieces c.entries.rest.now)
    c.entries.entries.items c.in_err-one.field-0.0 c.entries.invariant
    c.in_err-one.ensures)

pub returns-in_err-more : goal.returns-in_err-more
returns-in_err-more g c =
    let p = err_from_is_err_and c.from_residual-in_err-more.result c.from_residual-in_err-more.ensures.1 in
    rw (p.1, p.2)
    (stops_in_mark (can_group g.met.T.Listed.takes) (pieces c.args.text.now) (pieces c.entries.rest.now)
    (pieces c.in_ok-one.after.now) c.entries.entries.items c.in_ok-one.one
    c.in_err-more.field-0.0 c.entries.invariant c.in_ok-one.ensures c.in_err-more.ensures)

pub returns-then-not-more : goal.returns-then-not-more
returns-then-not-more g c =
    ends_with (can_group g.met.T.Listed.takes) (pieces c.args.text.now) (pieces c.entries.rest.now)
    (pieces c.in_ok-one.after.now) (pieces c.in_ok-more.next.now) c.entries.entries.items
    c.in_ok-one.one c.entries.invariant
    c.in_ok-one.ensures (c.in_ok-more.ensures ∙ ap (λ more. found more (pieces c.in_ok-more.next.now)) c.if-not-more.true)
    ∙ ap (λ all. found all (pieces c.in_ok-more.next.now)) (sym c.in_ok-push.ensures.items ∙ sym c.of.ensures)

pub entries-preserved : goal.entries-preserved
entries-preserved g c =
    subst
    (λ all. Progress g.T.Listed.grammar comma_or_close (pieces c.args.text.now)
    (pieces c.in_ok-more.next.now) all) (sym c.in_ok-push.ensures.items)
    (goes_further (can_group g.met.T.Listed.takes) (pieces c.args.text.now) (pieces c.entries.rest.now)
    (pieces c.in_ok-one.after.now) (pieces c.in_ok-more.next.now) c.entries.entries.items
    c.in_ok-one.one c.entries.invariant
    c.in_ok-one.ensures (c.in_ok-more.ensures ∙ ap (λ more. found more (pieces c.in_ok-more.next.now)) c.if-not-more.false))

pub entries-smaller : goal.entries-smaller
entries-smaller g c =
    shorter {entry = g.T.Listed.grammar} {more = comma_or_close} (can_group g.met.T.Listed.takes) (pieces c.entries.rest.now)
    (pieces c.in_ok-one.after.now) (pieces c.in_ok-more.next.now) c.entries.entries.items
    c.in_ok-one.one c.in_ok-more.more c.in_ok-one.ensures c.in_ok-more.ensures
