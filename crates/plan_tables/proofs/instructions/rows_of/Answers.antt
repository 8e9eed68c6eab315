use Rattle.std.proofs.Common.{◌≡◌, ℕ, ◌-◌, ◌≤◌, ◌++◌, List, Bool, false, length, map, drop, get_or, is_some, unwrap_or, ap, sym, ◌∙◌, subst, arith}
use Rattle.std.proofs.lemmas.Result.{IfOk-weaker}
use Rattle.board_defs.specs.Limits.{most_bits}
use Rattle.board_defs.specs.declared.board.Part.{Part}
use Rattle.board_defs.specs.Pins.{instruction_length}
use Rattle.tap_defs.specs.chain.ScanRows.{AreRowsOf}
use Rattle.tap_defs.specs.chain.Codes.{instructs}
use Rattle.plan_tables.specs.inner.Codes.{code_for, captured_bits, compared_code_bits}
use Rattle.plan_tables.proofs.CodeLemmas.{few_left, step_tdi, step_tdo, step_mask}
use Rattle.plan_tables.proofs.instructions.rows_of.Goals as goal

pub stored-requires-clause-tdi : goal.stored-requires-clause-tdi
stored-requires-clause-tdi c =
    subst (λ (l : List Bool). length l ≤ most_bits) (sym (c.deref.ensures.value ∙ c.loop-i.invariant.tdi))
    (few_left c.args.instruction c.args.chain.now c.requires.few c.loop-i.i (omega arith) (λ b. b.tdi))

pub stored-requires-clause-tdo : goal.stored-requires-clause-tdo
stored-requires-clause-tdo c =
    subst (λ (l : List Bool). length l ≤ most_bits) (sym (c.deref-2.ensures.value ∙ c.loop-i.invariant.tdo))
    (few_left c.args.instruction c.args.chain.now c.requires.few c.loop-i.i (omega arith) (λ b. unwrap_or b.expect false))

pub stored-requires-clause-mask : goal.stored-requires-clause-mask
stored-requires-clause-mask c =
    subst (λ (l : List Bool). length l ≤ most_bits) (sym (c.deref-3.ensures.value ∙ c.loop-i.invariant.mask))
    (few_left c.args.instruction c.args.chain.now c.requires.few c.loop-i.i (omega arith) (λ b. is_some b.expect))

pub loop-i-preserved : goal.loop-i-preserved
loop-i-preserved c =
    let chain = c.args.chain.now in
    let i = c.loop-i.i in
    let p : Part = c.index-chain-i.result in
    let q : Part = get_or chain (i - 1) p in
    record {
      tdi = c.in_ok-push_code.ensures
          ∙ ap (λ (l : List Bool). l ++ code_for c.args.instruction q.kind) c.loop-i.invariant.tdi
          ∙ sym (step_tdi c.args.instruction chain c.requires.coded i p (omega arith) (omega arith));
      tdo = c.in_ok-push_capture.ensures.tdo
          ∙ ap (λ n. c.loop-i.tdo.items ++ captured_bits n) c.instruction_length.ensures
          ∙ ap (λ (l : List Bool). l ++ captured_bits (instruction_length q.kind)) c.loop-i.invariant.tdo
          ∙ sym (step_tdo c.args.instruction chain c.requires.coded i p (omega arith) (omega arith));
      mask = c.in_ok-push_capture.ensures.mask
          ∙ ap (λ n. c.loop-i.mask.items ++ compared_code_bits n) c.instruction_length.ensures
          ∙ ap (λ (l : List Bool). l ++ compared_code_bits (instruction_length q.kind)) c.loop-i.invariant.mask
          ∙ sym (step_mask c.args.instruction chain c.requires.coded i p (omega arith) (omega arith));
    }

pub returns : goal.returns
returns c =
    let ended : c.loop-i.i ≡ 0 = omega arith in
    IfOk-weaker c.stored.result _ _
    (λ rows are.
    let read : AreRowsOf
    ((instructs
    (map (λ (part : Part). code_for c.args.instruction part.kind)
    (drop c.loop-i.i c.args.chain.now))).bits) rows = record {
      tdi = are.0 ∙ c.deref.ensures.value ∙ c.loop-i.invariant.tdi;
      tdo = are.1 ∙ c.deref-2.ensures.value ∙ c.loop-i.invariant.tdo;
      mask = are.2 ∙ c.deref-3.ensures.value ∙ c.loop-i.invariant.mask;
    } in
    subst
    (λ (n : ℕ). AreRowsOf
    ((instructs
    (map (λ (part : Part). code_for c.args.instruction part.kind)
    (drop n c.args.chain.now))).bits) rows) ended read)
    c.stored.ensures
