use Rattle.std.proofs.Common.{◌<◌, ◌≤◌, ◌∙◌, List, length, ap, sym, subst}
use Rattle.board_defs.specs.Limits.{most_parts}
use Rattle.btest_core.specs.IdentsRead.{Ident, first_bypass}
use Rattle.btest_core.proofs.IdentLemmas.{count_idents}
use Rattle.btest_core.proofs.idents.idents_unless_bypass.Goals as goal

pub returns-in_ok-idents_of-in-None-clause-count : goal.returns-in_ok-idents_of-in-None-clause-count
returns-in_ok-idents_of-in-None-clause-count c =
    let none = sym (c.in-None.ensures ∙ ap first_bypass c.lines.ensures.lines) in
    let count = count_idents c.args.file.now c.args.devices.now c.requires.chain c.requires.devices none in
    subst (λ (idents : List Ident). (0 < length idents) × (length idents ≤ most_parts)) (sym c.in_ok-idents_of-in-None.ensures.idents) count
