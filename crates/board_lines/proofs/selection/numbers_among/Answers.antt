-- The borrowed names and the places that the function computes are those of the definition.
use Rattle.std.proofs.Common.{◌≡◌, map, subst, rules}
use Rattle.answers.specs.Gives.{Gives}
use Rattle.board_lines.specs.declared.names.Naming.TheVariants.{Part, Entity}
use Rattle.board_lines.specs.Faults.{board_told}
use Rattle.board_lines.specs.Names.{named}
use Rattle.board_lines.specs.Selection.{answer, entity_places}
use Rattle.board_lines.proofs.selection.numbers_among.Goals as goal

pub returns : goal.returns
returns c =
    let chain = c.args.chain.now in
    let names = map (λ n. n.now) c.args.entities.items.now in
    let same : answer (map (λ n. (n.0, n.1.now)) c.deref-2.result.now)
    (map (λ n. (n.0, n.1.now)) c.deref-3.result.now) c.deref-4.result.now names
    ≡ answer (named Part chain) (named Entity chain) (entity_places (named Entity chain) names)
    names = search rules in
    subst (λ known. Gives board_told (λ numbers. numbers.items) (λ said. known ≡ said) c.answer.result) same c.answer.ensures
