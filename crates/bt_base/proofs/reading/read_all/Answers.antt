use Rattle.std.proofs.Common.{◌≡◌, ℕ, ◌+◌, List, length, sym, ap, subst, arith, refl, length-append}
use Rattle.std.proofs.KnownBytes.{Consumes-nil, Consumes-trans, Consumes-whole}
use Rattle.std.proofs.lemmas.Grind.{common_steps}
use Rattle.std.specs.Io.KnownBytes.{Consumes}
use Rattle.bt_base.proofs.ReadLemmas.{consumes_first}
use Rattle.bt_base.proofs.reading.read_all.Goals as goal

pub loop-into-init : goal.loop-into-init
loop-into-init g c =
    let left = g.R.Read.remaining c.args.from.now.from in
    (grind (arith, common_steps, c.requires, c.args.into.now.ok.0), subst (Consumes left left) (sym c.requires) (Consumes-nil left), refl)

pub returns-then-branch-eq0-clause-whole : goal.returns-then-branch-eq0-clause-whole
returns-then-branch-eq0-clause-whole g c =
    let next = c.in_ok-read_some.ensures.next in
    let left = g.R.Read.remaining c.args.from.now.from in
    let rest = g.R.Read.remaining c.read_some.new.from.from in
    let took : Consumes left rest c.read_some.new.into.items = subst (Consumes left rest)
    (sym next.1)
    (Consumes-trans left (g.R.Read.remaining c.loop-into.from.from) rest c.loop-into.into.items
    next.0 c.loop-into.invariant.1 next.3) in
    Consumes-whole left rest c.read_some.new.into.items
    (λ (l : List ℕ). c.read_some.new.into.items ≡ l) took (next.4 c.if-branch-eq0.true) refl

pub loop-into-preserved : goal.loop-into-preserved
loop-into-preserved g c =
    let next = c.in_ok-read_some.ensures.next in
    let left = g.R.Read.remaining c.args.from.now.from in
    let rest = g.R.Read.remaining c.read_some.new.from.from in (
      omega (
        arith,
        c.read_some.new.into.ok.0,
        c.loop-into.into.ok.0,
        ap length next.1,
        length-append c.loop-into.into.items next.0,
        next.2,
        c.in_ok-read_some.ensures.within,
        c.loop-into-test.true,
      ),
      subst (Consumes left rest) (sym next.1)
          (Consumes-trans left (g.R.Read.remaining c.loop-into.from.from) rest
          c.loop-into.into.items next.0 c.loop-into.invariant.1 next.3),
      grind (arith, common_steps),
    )

pub returns-clause-too_long : goal.returns-clause-too_long
returns-clause-too_long g c = λ is.
    consumes_first (g.R.Read.remaining c.args.from.now.from)
    (g.R.Read.remaining c.loop-into.from.from) c.loop-into.into.items (c.args.cap + 1)
    c.loop-into.invariant.1 (grind (arith, common_steps, c.loop-into.into.ok.0))
