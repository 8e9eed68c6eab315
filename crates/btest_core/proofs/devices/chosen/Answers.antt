use Rattle.std.proofs.Common.{◌<◌, ◌∙◌, ap, sym, subst, map, zip, option_copied}
use Rattle.std.specs.List.{AllByRecursion}
use Rattle.btest_core.specs.inner.Choices.{choices_of}
use Rattle.btest_core.proofs.ChoiceLemmas.{zip_seconds, zip_firsts}
use Rattle.btest_core.proofs.devices.chosen.Goals as goal

pub returns-clause-chosen : goal.returns-clause-chosen
returns-clause-chosen c =
    ap choices_of c.in_ok-choices.ensures ∙ zip_seconds option_copied c.args.numbers.now c.deref.result.now
    ∙ ap (λ packages. zip c.args.numbers.now (map option_copied packages)) c.deref.ensures.value
    ∙ ap (zip c.args.numbers.now) c.in_ok-packages.ensures

pub returns-clause-within : goal.returns-clause-within
returns-clause-within c = λ count within.
    subst (λ list. AllByRecursion (λ choice. choice.0 < count) list) (sym c.in_ok-choices.ensures)
    (zip_firsts count c.args.numbers.now c.deref.result.now within)
