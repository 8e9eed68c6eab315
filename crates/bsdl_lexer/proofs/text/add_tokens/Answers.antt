use Rattle.std.proofs.Common.{◌≡◌, length, sym, ◌∙◌, ap, subst, Ok, arith, refl, true, false}
use Rattle.std.proofs.lemmas.Result.{err_from_is_err_and}
use Rattle.bsdl_lexer.specs.inner.Steps.{step}
use Rattle.bsdl_lexer.proofs.Answers.{WalksTo, IsNext, are_first, walks_on, ends_at_fault, ends_full, ends_whole, few_lines, next_of_walk, room_left}
use Rattle.bsdl_lexer.proofs.text.add_tokens.Goals as goal

pub returns-in_err-token-clause-answer : goal.returns-in_err-token-clause-answer
returns-in_err-token-clause-answer c =
    let p = err_from_is_err_and c.from_residual.result c.from_residual.ensures.1 in
    rw (p.1, p.2)
    (ends_at_fault c.args.text.items.now c.loop-token.out.items c.loop-token.place c.loop-token.line
    c.in_err-token.field-0.0 c.loop-token.invariant.walks c.in_err-token.ensures)

pub returns-in_err-token-clause-first : goal.returns-in_err-token-clause-first
returns-in_err-token-clause-first c =
    are_first c.args.text.items.now c.loop-token.out.items c.loop-token.place c.loop-token.line
    c.loop-token.invariant.walks

pub returns-then-is_full-clause-answer :
    goal.returns-then-is_full-clause-answer
returns-then-is_full-clause-answer c =
    ends_full c.args.text.items.now c.loop-token.out.items c.loop-token.place c.loop-token.line
    c.in-Some.token c.loop-token.invariant.walks
    (ap Ok (sym c.in-Some.is) ∙ c.in_ok-token.ensures)
    (sym (ap length c.deref.ensures.value) ∙ c.if-is_full.ensures.0 refl)

pub returns-then-is_full-clause-first :
    goal.returns-then-is_full-clause-first
returns-then-is_full-clause-first c =
    are_first c.args.text.items.now c.loop-token.out.items c.loop-token.place c.loop-token.line
    c.loop-token.invariant.walks

pub returns-in_err-add-clause-first : goal.returns-in_err-add-clause-first
returns-in_err-add-clause-first c =
    rw c.in_err-add.ensures.unchanged
    (are_first c.args.text.items.now c.loop-token.out.items c.loop-token.place c.loop-token.line
    c.loop-token.invariant.walks)

pub loop-token-smaller : goal.loop-token-smaller
loop-token-smaller c =
    let n : IsNext c.args.text.items.now c.loop-token.place c.in-Some.token = next_of_walk
    c.args.text.items.now c.loop-token.out.items c.loop-token.place c.loop-token.line c.in-Some.token
    c.loop-token.invariant.walks (ap Ok (sym c.in-Some.is) ∙ c.in_ok-token.ensures) in
    omega (arith, n.further, n.after.within)

pub loop-token-preserved : goal.loop-token-preserved
loop-token-preserved c =
    let found : Ok _ ≡ step c.args.text.items.now c.loop-token.place c.loop-token.line = ap Ok (sym c.in-Some.is) ∙ c.in_ok-token.ensures in
    let n : IsNext c.args.text.items.now c.loop-token.place c.in-Some.token = next_of_walk
    c.args.text.items.now c.loop-token.out.items c.loop-token.place c.loop-token.line c.in-Some.token
    c.loop-token.invariant.walks found in
    record {
      walks = subst (λ ts. WalksTo c.args.text.items.now ts c.in-Some.token.«end» c.in-Some.token.line) (sym c.in_ok-add.ensures.ok)
          (walks_on c.args.text.items.now c.loop-token.out.items c.loop-token.place c.loop-token.line
          c.in-Some.token c.loop-token.invariant.walks (sym found)
          (room_left (length c.loop-token.out.items) c.loop-token.invariant.walks.limit
          (λ e. let k : false ≡ true = c.if-is_full.ensures.1
          (ap length c.deref.ensures.value ∙ e) in cc)));
      within = n.after.within;
      few = few_lines c.args.text.items.now c.in-Some.token.«end» c.in-Some.token.line n.after;
    }

pub returns-clause-answer : goal.returns-clause-answer
returns-clause-answer c =
    ends_whole c.args.text.items.now c.loop-token.out.items c.loop-token.place c.loop-token.line
    c.loop-token.invariant.walks (ap Ok (sym c.in_default.is) ∙ c.in_ok-token.ensures)

pub returns-clause-first : goal.returns-clause-first
returns-clause-first c =
    are_first c.args.text.items.now c.loop-token.out.items c.loop-token.place c.loop-token.line
    c.loop-token.invariant.walks
