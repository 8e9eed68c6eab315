use Rattle.std.proofs.Common.{[], ◌∷◌, subst}
use Rattle.command_line.specs.Words.{Text}
use Rattle.btest_cli.specs.Texts.{text_called}
use Rattle.btest_cli.specs.inner.Reads.{IsOne, Reads}
use Rattle.btest_cli.proofs.texts.read_file.Goals as goal

pub returns : goal.returns
returns g c =
    subst
    (λ (name : Text). Reads IsOne (text_called name ∷ []) (g.S.Store.held c.args.store.now)
    (g.S.Store.held c.read_text.new.store) (g.S.Store.faults c.args.store.now)
    (g.S.Store.faults c.read_text.new.store) (g.S.Store.asked c.args.store.now)
    (g.S.Store.asked c.read_text.new.store) c.read_text.result) c.as_str.ensures c.read_text.ensures
