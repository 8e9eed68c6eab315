use Rattle.std.proofs.Common.{◌-◌, ◌*◌, ℕ, List, ap, ◌∙◌, arith}
use Rattle.std.specs.Prelude.{slice_get}
use Rattle.std.specs.List.{flat_map}
use Rattle.board_defs.specs.declared.board.PinRef.{PinRef}
use Rattle.board_defs.specs.Faults.{stuck_faults, open_faults}
use Rattle.fault_sim.proofs.PlaceLemmas.{stuck_listed, open_listed, short_listed}
use Rattle.fault_sim.proofs.universe.place_at.Goals as goal

pub returns-then-i-stuck : goal.returns-then-i-stuck
returns-then-i-stuck c plan =
    stuck_listed plan c.args.lists.now c.args.i c.stuck_at.result (omega (arith, c.if-i-stuck.true, c.len.ensures))
    (c.stuck_at.ensures ∙ ap (λ (l : List ℕ). slice_get (flat_map stuck_faults l) c.args.i) c.as_slice.ensures)

pub returns-then-i-stuck-2 : goal.returns-then-i-stuck-2
returns-then-i-stuck-2 c plan =
    let lists = c.args.lists.now in
    let k : ℕ = c.args.i - 2 * c.len.result in
    open_listed plan lists c.args.i k c.open_at.result
    (omega (arith, c.if-i-stuck.false, c.len.ensures))
    (omega (arith, c.if-i-stuck-2.true, c.len-2.ensures))
    (c.open_at.ensures ∙ ap (λ (l : List PinRef). slice_get (flat_map open_faults l) k) c.as_slice-then-i-stuck-2.ensures)

pub returns-else-i-stuck-2 : goal.returns-else-i-stuck-2
returns-else-i-stuck-2 c plan =
    let lists = c.args.lists.now in
    let k : ℕ = c.args.i - 2 * c.len.result - 2 * c.len-2.result in
    short_listed plan lists c.args.i k c.short_at.result
    (omega (arith, c.if-i-stuck.false, c.if-i-stuck-2.false, c.len.ensures, c.len-2.ensures))
    (c.short_at.ensures plan)
