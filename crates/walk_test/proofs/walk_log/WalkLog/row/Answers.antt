use Rattle.std.proofs.Common.{◌≡◌, ℕ, ◌<◌, [], get_or, length, ap, subst, sym, ◌∙◌, arith}
use Rattle.bt_bits.specs.Digits.{digits_of}
use Rattle.response_log.specs.Kept.{AreRowDigits}
use Rattle.walk_test.specs.inner.Reading.{LoggedNets}
use Rattle.walk_test.proofs.MaskLemmas.{row_count}
use Rattle.walk_test.proofs.walk_log.WalkLog.row.Goals as goal

pub digits-requires : goal.digits-requires
digits-requires c = omega (arith, c.from.ensures, c.requires, ap (λ it. length it.log) c.self.view_is)

pub invariant_of-result : goal.invariant_of-result
invariant_of-result c =
    let inside = c.self.inside in
    let digits = subst (λ (k : ℕ). AreRowDigits (get_or inside.log.now k []) c.digits.result.now) c.from.ensures c.digits.ensures in
    let less : c.args.j < length inside.log.now = omega (arith, c.requires, ap (λ it. length it.log) c.self.view_is) in
    record {
      long = sym
          (row_count inside.log.now inside.mask.bits c.digits-2.result.now c.digits-2.ensures
          c.args.j c.digits.result.now digits (c.self.invariant.bits c.args.j [] less));
    }

pub returns : goal.returns
returns c =
    let inside = c.self.inside in
    let digits = subst (λ (k : ℕ). AreRowDigits (get_or inside.log.now k []) c.digits.result.now) c.from.ensures c.digits.ensures in
    let less : c.args.j < length inside.log.now = omega (arith, c.requires, ap (λ it. length it.log) c.self.view_is) in
    record {
      digits = subst (λ (it : LoggedNets). AreRowDigits (get_or it.log c.args.j []) c.digits.result.now) c.self.view_is digits;
      mask = c.digits-2.ensures ∙ ap (λ it. digits_of it.mask) c.self.view_is;
      bits =
          subst (λ (it : LoggedNets). length (get_or it.log c.args.j []) ≡ length it.mask)
          c.self.view_is (c.self.invariant.bits c.args.j [] less);
    }
