-- The borrowed names that the function looks up are the names of the entities.
use Rattle.std.proofs.Common.{◌≡◌, map, ap, subst, ◌∙◌}
use Rattle.answers.specs.Gives.{Gives}
use Rattle.board_lines.specs.declared.names.Naming.TheVariants.{Part, Entity}
use Rattle.board_lines.specs.Faults.{board_told}
use Rattle.board_lines.specs.Names.{named}
use Rattle.board_lines.specs.Selection.{answer, entity_names, entity_places}
use Rattle.board_lines.proofs.selection.entity_numbers.Goals as goal

pub returns : goal.returns
returns c =
    let chain = c.args.chain.now in
    let same : map (λ n. n.now) c.deref.result.now
    ≡ entity_names c.args.entities.items.now = ap (map (λ n. n.now)) c.deref.ensures.value
    ∙ c.in_ok-names.ensures.names in
    subst
    (λ names. Gives board_told (λ numbers. numbers.items)
    (λ said. answer (named Part chain) (named Entity chain)
    (entity_places (named Entity chain) names) names ≡ said) c.numbers_among.result) same
    c.numbers_among.ensures
