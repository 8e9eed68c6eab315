use Rattle.std.proofs.Common.{ℕ, List, length, ap, ◌∙◌, get_or, arith}
use Rattle.fault_sim.proofs.PlaceLemmas.{start_few}
use Rattle.fault_sim.proofs.suspects.pair_number.Goals as goal

pub overflow_add-result : goal.overflow_add-result
overflow_add-result c =
    let lists = c.args.lists.now in
    omega (
      arith,
      c.start_at.ensures ∙ ap (λ (l : List ℕ). get_or l c.args.a 0) c.as_slice.ensures,
      start_few (length lists.nets) lists.starts lists.starts_are lists.few c.args.a,
    )

pub returns-clause-number : goal.returns-clause-number
returns-clause-number c = omega (arith, c.start_at.ensures ∙ ap (λ (l : List ℕ). get_or l c.args.a 0) c.as_slice.ensures)

pub returns-clause-few : goal.returns-clause-few
returns-clause-few c =
    let lists = c.args.lists.now in
    omega (
      arith,
      c.start_at.ensures ∙ ap (λ (l : List ℕ). get_or l c.args.a 0) c.as_slice.ensures,
      start_few (length lists.nets) lists.starts lists.starts_are lists.few c.args.a,
    )
