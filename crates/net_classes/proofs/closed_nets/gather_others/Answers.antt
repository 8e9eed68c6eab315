use Rattle.std.proofs.Common.{◌≡◌, ℕ, ◌+◌, ◌<◌, get_or, length, take, sym, subst, arith}
use Rattle.std.proofs.lemmas.List.{get_or_default}
use Rattle.net_classes.specs.declared.control_sets.ControlSet.{ControlSet}
use Rattle.net_classes.specs.inner.Closed.{AreOthers}
use Rattle.net_classes.proofs.OtherControls.{core_again, no_others, others_more}
use Rattle.net_classes.proofs.closed_nets.gather_others.Goals.{then-net-core+in_ok-add_other_pins, else-net-core}
use Rattle.net_classes.proofs.closed_nets.gather_others.Goals as goal

pub loop-net-init : goal.loop-net-init
loop-net-init c passes is =
    no_others c.args.known.now.board c.args.set.now c.clear.new.self
    (c.clear.ensures c.args.known.now.board passes is)

pub loop-net-preserved : goal.loop-net-preserved
loop-net-preserved c passes is =
    let board = c.args.known.now.board in
    let nets = c.args.nets.now in
    let i = c.loop-net.net-index in
    let n : ℕ = get_or nets i 0 in
    let less : i < length nets = omega arith in
    let at : n ≡ get_or nets i n = get_or_default nets i 0 n less in
    let are = c.loop-net.invariant passes is in
    let P : ControlSet → Type 0 = λ v. AreOthers board c.args.set.now (take (i + 1) nets) v in
    elim c.if-net-core.branch [
      | then-net-core+in_ok-add_other_pins w ↦ subst P (sym w.others-is)
          (others_more board c.args.set.now c.loop-net.others w.add_other_pins.new.others nets i n
          w.pins.result.now less at w.pins.ensures are
          (w.in_ok-add_other_pins.ensures board are.passes are.are_set))
      | else-net-core w ↦ let same : n ≡ c.args.core =
          omega (arith, w.if-net-core.false) in
          subst P (sym w.others-is)
          (core_again board c.args.set.now c.loop-net.others nets i n c.args.core less at same
          c.requires are)
    ]
