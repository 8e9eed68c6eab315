use Rattle.std.proofs.Common.{ℕ, List, [], ◌∷◌, ◌∙◌, Ok, Err, ap, sym, subst}
use Rattle.btest_cli.specs.inner.Failures.{wanted_view}
use Rattle.btest_cli.specs.inner.Reads.{IsOne, Reads}
use Rattle.btest_cli.proofs.ReadingLemmas.{long_told, no_memory, one_failed, one_long, one_read, text_told}
use Rattle.btest_cli.proofs.texts.read_wanted.Goals as goal

pub returns-in-Ok : goal.returns-in-Ok
returns-in-Ok g c =
    subst
    (λ (text : List ℕ). Reads IsOne (wanted_view c.args.wanted ∷ [])
    (g.S.Store.held c.args.store.now) (g.S.Store.held c.fetch.new.self)
    (g.S.Store.faults c.args.store.now) (g.S.Store.faults c.fetch.new.self)
    (g.S.Store.asked c.args.store.now) (g.S.Store.asked c.fetch.new.self) (Ok text))
    (sym c.of.ensures)
    (one_read _ _ _ _ _ _ c.fetch.ensures.held c.fetch.ensures.later c.args.wanted
    c.fetch.ensures.asked _ (text_told _ _ _ c.in-Ok.ensures.text) c.in-Ok.ensures.short)

pub returns-in-Err-Failed : goal.returns-in-Err-Failed
returns-in-Err-Failed g c =
    one_failed _ _ _ _ _ _ c.fetch.ensures.held c.fetch.ensures.later c.args.wanted
    c.fetch.ensures.asked
    (c.fetch.ensures.failed (c.in-Err-Failed.is ∙ ap Err c.in-Err-Failed.field-0-is))

pub returns-in-Err-TooLong : goal.returns-in-Err-TooLong
returns-in-Err-TooLong g c =
    let is = c.in-Err-TooLong.is ∙ ap Err c.in-Err-TooLong.field-0-is in
    one_long _ _ _ _ _ _ c.fetch.ensures.held c.fetch.ensures.later c.args.wanted c.fetch.ensures.asked
    (long_told (g.S.Store.held c.args.store.now) (wanted_view c.args.wanted) c.fetch.new.into.items
    _ (c.fetch.ensures.too_long is) (c.fetch.ensures.cut is))

pub returns : goal.returns
returns g c = no_memory _ _ _ _ _ _ c.fetch.ensures.held c.fetch.ensures.later c.args.wanted c.fetch.ensures.asked
