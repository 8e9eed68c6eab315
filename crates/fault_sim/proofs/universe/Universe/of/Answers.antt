use Rattle.std.proofs.Common.{◌≡◌, ℕ, List, length, ap, sym, ◌∙◌, subst, arith}
use Rattle.std.specs.Prelude.{nat_lt}
use Rattle.board_defs.specs.declared.board.Ctl.{Ctl}
use Rattle.board_defs.specs.declared.board.PinRef.{PinRef}
use Rattle.board_defs.specs.Passes.{ArePasses, passes_of}
use Rattle.scan_planner.specs.Plans.{IsPlanOf}
use Rattle.fault_sim.specs.Effects.{code_in}
use Rattle.fault_sim.specs.inner.Tested.{coded_nets}
use Rattle.fault_sim.specs.Starts.{ArePairStarts}
use Rattle.fault_sim.proofs.RangeLemmas.{filter_most}
use Rattle.fault_sim.proofs.TestedLemmas.{nets_are, pins_are, tested_few}
use Rattle.fault_sim.proofs.universe.Universe.of.Goals as goal

pub overflow_cast-len : goal.overflow_cast-len
overflow_cast-len c =
    let found = c.of-nets.ensures ∙ c.in_ok-found.ensures in
    omega (
      arith,
      c.len.ensures,
      ap (λ (l : List ℕ). length l) found,
      filter_most (λ n. nat_lt 0 (code_in c.plan-plan.result.now n)) 0 c.net_count.result,
      c.net_count.ensures,
      c.raw-rules.ensures.rules.nets_most,
    )

pub pair_starts-requires : goal.pair_starts-requires
pair_starts-requires c =
    let found = c.of-nets.ensures ∙ c.in_ok-found.ensures in
    omega (
      arith,
      c.len.ensures,
      ap (λ (l : List ℕ). length l) found,
      filter_most (λ n. nat_lt 0 (code_in c.plan-plan.result.now n)) 0 c.net_count.result,
      c.net_count.ensures,
      c.raw-rules.ensures.rules.nets_most,
    )

pub invariant_of-result : goal.invariant_of-result
invariant_of-result c =
    let board = c.board-board.result.now in
    let plan = c.plan-plan.result.now in
    let rules = c.raw-rules.ensures.rules in
    let planned : IsPlanOf board plan = rw (c.board-board.ensures, c.plan-plan.ensures.value) c.plan-plan.ensures.plan in
    let passes : plan.passes ≡ passes_of board = rw (c.plan-plan.ensures.value, c.board-board.ensures) c.plan-plan.ensures.passes in
    let kept = subst (λ (l : List (List Ctl)). ArePasses board l) (sym passes) (c.passes_kept.ensures board rules).kept in
    let found = c.of-nets.ensures ∙ c.in_ok-found.ensures in
    let pins = c.of-pins.ensures ∙ c.in_ok-tested.ensures ∙ pins_are board rules plan planned kept in
    record {
      few =
          omega (
            arith,
            ap (λ (l : List ℕ). length l) found,
            filter_most (λ n. nat_lt 0 (code_in plan n)) 0 c.net_count.result,
            c.net_count.ensures,
            rules.nets_most,
          );
      few_pins = omega (arith, ap (λ (l : List PinRef). length l) pins, tested_few board rules);
      starts_are =
          subst (λ (n : ℕ). ArePairStarts n c.of-starts.result) c.len.ensures
          (subst (λ (l : List ℕ). ArePairStarts c.len.result l) (sym c.of-starts.ensures)
          c.in_ok-pair_starts.ensures);
    }

pub returns : goal.returns
returns c =
    let board = c.board-board.result.now in
    let plan = c.plan-plan.result.now in
    let rules = c.raw-rules.ensures.rules in
    let planned : IsPlanOf board plan = rw (c.board-board.ensures, c.plan-plan.ensures.value) c.plan-plan.ensures.plan in
    let passes : plan.passes ≡ passes_of board = rw (c.plan-plan.ensures.value, c.board-board.ensures) c.plan-plan.ensures.passes in
    let kept = subst (λ (l : List (List Ctl)). ArePasses board l) (sym passes) (c.passes_kept.ensures board rules).kept in
    rw (← c.board-board.ensures)
    (record {
      nets =
          c.of-nets.ensures ∙ c.in_ok-found.ensures
          ∙ ap (λ (n : ℕ). coded_nets plan n) c.net_count.ensures
          ∙ nets_are board rules plan planned kept
          (c.codes_number_covered.ensures board rules plan.passes kept);
      pins = c.of-pins.ensures ∙ c.in_ok-tested.ensures ∙ pins_are board rules plan planned kept;
    })
