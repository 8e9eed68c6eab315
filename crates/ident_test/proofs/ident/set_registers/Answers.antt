use Rattle.std.proofs.Common.{unwrap_or, is_some, false, length, map, ap, ◌∙◌, arith}
use Rattle.std.proofs.lemmas.List.{length-map}
use Rattle.ident_test.specs.Patterns.{symbol_bit}
use Rattle.ident_test.proofs.RowLemmas.{writes_more, length-placed}
use Rattle.ident_test.proofs.ident.set_registers.Goals as goal

pub set_register-requires-clause-few : goal.set_register-requires-clause-few
set_register-requires-clause-few c =
    omega (
      arith,
      (writes_more c.args.parts.now c.loop-i.i c.loop-i.at c.index-parts-i.result
          c.register_pattern-pattern.result.now (omega arith) (omega arith) c.index-parts-i.is
          c.register_pattern-pattern.ensures c.loop-i.invariant.at).room,
      c.requires.few,
    )

pub set_register-requires-clause-tdo : goal.set_register-requires-clause-tdo
set_register-requires-clause-tdo c =
    omega (
      arith,
      (writes_more c.args.parts.now c.loop-i.i c.loop-i.at c.index-parts-i.result
          c.register_pattern-pattern.result.now (omega arith) (omega arith) c.index-parts-i.is
          c.register_pattern-pattern.ensures c.loop-i.invariant.at).room,
      c.loop-i.invariant.tdo_length,
    )

pub set_register-requires-clause-mask : goal.set_register-requires-clause-mask
set_register-requires-clause-mask c =
    omega (
      arith,
      (writes_more c.args.parts.now c.loop-i.i c.loop-i.at c.index-parts-i.result
          c.register_pattern-pattern.result.now (omega arith) (omega arith) c.index-parts-i.is
          c.register_pattern-pattern.ensures c.loop-i.invariant.at).room,
      c.loop-i.invariant.mask_length,
    )

pub overflow_cast-at : goal.overflow_cast-at
overflow_cast-at c =
    omega (
      arith,
      (writes_more c.args.parts.now c.loop-i.i c.loop-i.at c.index-parts-i.result
          c.register_pattern-pattern.result.now (omega arith) (omega arith) c.index-parts-i.is
          c.register_pattern-pattern.ensures c.loop-i.invariant.at).room,
      c.requires.few,
    )

pub overflow_add-at : goal.overflow_add-at
overflow_add-at c =
    omega (
      arith,
      (writes_more c.args.parts.now c.loop-i.i c.loop-i.at c.index-parts-i.result
          c.register_pattern-pattern.result.now (omega arith) (omega arith) c.index-parts-i.is
          c.register_pattern-pattern.ensures c.loop-i.invariant.at).room,
      c.requires.few,
    )

pub loop-i-preserved : goal.loop-i-preserved
loop-i-preserved c =
    let pattern = c.register_pattern-pattern.result.now in
    let at = c.loop-i.at in
    let more = writes_more c.args.parts.now c.loop-i.i at c.index-parts-i.result pattern
    (omega arith) (omega arith) c.index-parts-i.is c.register_pattern-pattern.ensures
    c.loop-i.invariant.at in
    record {
      at = more.next;
      tdo = c.set_register.ensures.tdo ∙ more.row (λ b. unwrap_or b.expect false) c.loop-i.tdo.bits c.loop-i.invariant.tdo;
      mask = c.set_register.ensures.mask ∙ more.row (λ b. is_some b.expect) c.loop-i.mask.bits c.loop-i.invariant.mask;
      tdo_length = ap length c.set_register.ensures.tdo
          ∙ length-placed at (map (λ b. unwrap_or b.expect false) (map symbol_bit pattern)) c.loop-i.tdo.bits
          (omega (
            arith,
            length-map (map symbol_bit pattern) (λ b. unwrap_or b.expect false),
            length-map pattern symbol_bit,
            more.room,
            c.loop-i.invariant.tdo_length,
          ))
          ∙ c.loop-i.invariant.tdo_length;
      mask_length = ap length c.set_register.ensures.mask
          ∙ length-placed at (map (λ b. is_some b.expect) (map symbol_bit pattern)) c.loop-i.mask.bits
          (omega (
            arith,
            length-map (map symbol_bit pattern) (λ b. is_some b.expect),
            length-map pattern symbol_bit,
            more.room,
            c.loop-i.invariant.mask_length,
          ))
          ∙ c.loop-i.invariant.mask_length;
      tdo_kept = c.set_register.ensures.tdo_kept ∙ c.loop-i.invariant.tdo_kept;
      mask_kept = c.set_register.ensures.mask_kept ∙ c.loop-i.invariant.mask_kept;
    }
