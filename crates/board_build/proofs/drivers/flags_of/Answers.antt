-- Each step of the loop handles one more entry, from the last entry to the first.
use Rattle.std.proofs.Common.{◌≡◌, ◌-◌, ◌<◌, Bool, List, length, drop, sym, subst, arith}
use Rattle.std.proofs.lemmas.List.{with_items_is}
use Rattle.board_build.specs.inner.Marked.{AreFlags}
use Rattle.board_build.proofs.FlagLemmas.{flags_more}
use Rattle.board_build.proofs.drivers.flags_of.Goals as goal

pub loop-i-preserved : goal.loop-i-preserved
loop-i-preserved c =
    let k = c.loop-i.i - 1 in
    let new = c.flag_entry.new.flags in
    let size : length new
    ≡ c.loop-i.flags.len = grind
    (arith, c.flag_entry.auto.flags, c.deref_mut.ensures.len, c.deref_mut.ensures.value) in
    let was : AreFlags (drop c.loop-i.i c.args.cells.now) c.args.bits c.deref_mut.result.now = subst
    (λ (v : List Bool). AreFlags (drop c.loop-i.i c.args.cells.now) c.args.bits v)
    (sym c.deref_mut.ensures.value) c.loop-i.invariant in
    let within : k < length c.args.cells.now = omega arith in
    subst (λ (v : List Bool). AreFlags (drop k c.args.cells.now) c.args.bits v) (sym (with_items_is c.loop-i.flags new size))
    (flags_more c.args.cells.now c.loop-i.i k c.args.bits c.deref_mut.result.now new _ (omega arith)
    within was (c.flag_entry.ensures (drop c.loop-i.i c.args.cells.now) c.args.bits))
