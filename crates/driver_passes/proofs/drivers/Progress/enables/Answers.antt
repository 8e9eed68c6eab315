use Rattle.std.proofs.Common.{◌∙◌, ap, sym, false, not, length, refl}
use Rattle.std.specs.Prelude.{◌==◌}
use Rattle.std.specs.List.{list_any}
use Rattle.std.proofs.lemmas.List.Folds.{list_any_none}
use Rattle.board_defs.specs.Passes.{is_enabled}
use Rattle.driver_passes.proofs.ProgressLemmas.{any_pass}
use Rattle.driver_passes.proofs.drivers.Progress.enables.Goals as goal

pub returns-in-AlwaysOn : goal.returns-in-AlwaysOn
returns-in-AlwaysOn c =
    let passes = c.args.self.now.passes.items in
    ap not (c.is_empty.ensures ∙ ap (λ v. length v == 0) c.as_slice.ensures.value)
    ∙ sym (any_pass passes)
    ∙ sym (ap (λ d. list_any (λ pass. is_enabled pass d) passes) c.in-AlwaysOn.is)

pub returns-in-OneSided : goal.returns-in-OneSided
returns-in-OneSided c =
    let passes = c.args.self.now.passes.items in
    sym (list_any_none (λ pass. false) passes (λ k pass less. refl))
    ∙ sym (ap (λ d. list_any (λ pass. is_enabled pass d) passes) c.in-OneSided.is)
