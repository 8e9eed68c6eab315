use Rattle.std.proofs.Common.{length, ap, ◌∙◌, length-set, unwrap_or, false, is_some, arith}
use Rattle.board_defs.specs.declared.device.Symbol.TheVariants.{Zero}
use Rattle.ident_test.proofs.RowLemmas.{symbol_more}
use Rattle.ident_test.proofs.ident.set_register.Goals as goal

pub loop-symbol-preserved : goal.loop-symbol-preserved
loop-symbol-preserved c =
    let i = c.loop-symbol.symbol-index in
    let pattern = c.args.pattern.now in
    record {
      position = omega arith;
      tdo =
          c.set.ensures.bits
          ∙ symbol_more (λ b. unwrap_or b.expect false) pattern i c.args.at c.loop-symbol.position
          c.loop-symbol.tdo.bits c.args.tdo.now.bits Zero _ (omega arith) c.requires.tdo
          c.loop-symbol.invariant.position c.loop-symbol.invariant.tdo c.expects_one.ensures;
      mask =
          c.set-in-loop-symbol.ensures.bits
          ∙ symbol_more (λ b. is_some b.expect) pattern i c.args.at c.loop-symbol.position
          c.loop-symbol.mask.bits c.args.mask.now.bits Zero _ (omega arith) c.requires.mask
          c.loop-symbol.invariant.position c.loop-symbol.invariant.mask c.is_compared.ensures;
      tdo_length =
          ap length c.set.ensures.bits ∙ length-set c.loop-symbol.tdo.bits c.loop-symbol.position _
          ∙ c.loop-symbol.invariant.tdo_length;
      mask_length =
          ap length c.set-in-loop-symbol.ensures.bits
          ∙ length-set c.loop-symbol.mask.bits c.loop-symbol.position _
          ∙ c.loop-symbol.invariant.mask_length;
      tdo_kept = c.set.ensures.room ∙ c.loop-symbol.invariant.tdo_kept;
      mask_kept = c.set-in-loop-symbol.ensures.room ∙ c.loop-symbol.invariant.mask_kept;
    }
