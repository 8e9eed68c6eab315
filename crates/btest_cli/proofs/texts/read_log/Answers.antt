use Rattle.std.proofs.Common.{[], ◌∷◌, ◌∙◌, ap, subst}
use Rattle.btest_cli.specs.Texts.{Wanted, wanted_log}
use Rattle.btest_cli.specs.inner.Reads.{IsOne, Reads}
use Rattle.btest_cli.proofs.texts.read_log.Goals as goal

pub returns : goal.returns
returns g c =
    subst
    (λ (wanted : Wanted). Reads IsOne (wanted ∷ []) (g.S.Store.held c.args.store.now)
    (g.S.Store.held c.read_wanted.new.store) (g.S.Store.faults c.args.store.now)
    (g.S.Store.faults c.read_wanted.new.store) (g.S.Store.asked c.args.store.now)
    (g.S.Store.asked c.read_wanted.new.store) c.read_wanted.result)
    (c.log_called.ensures ∙ ap wanted_log c.as_str.ensures) c.read_wanted.ensures
