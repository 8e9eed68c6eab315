use Rattle.std.proofs.Common.{◌≡◌, ◌≤◌, ◌∙◌, sym, arith, subst, ℕ}
use Rattle.std.proofs.lemmas.Grind.{common_steps}
use Rattle.bt_base.specs.Chosen.{allowed}
use Rattle.bt_base.proofs.ChosenLemmas.{allowed_within, allowed_whole}
use Rattle.bt_base.proofs.memory.allowed.Goals as goal

pub returns-clause-within : goal.returns-clause-within
returns-clause-within c =
    let value : c.loop-f.least ≡ allowed c.args.failing.now c.args.call c.args.most = grind (arith, common_steps) in
    subst (λ (n : ℕ). n ≤ c.args.most) (sym value) (allowed_within c.args.failing.now c.args.call c.args.most)

pub returns-clause-whole : goal.returns-clause-whole
returns-clause-whole c = λ none.
    let value : c.loop-f.least ≡ allowed c.args.failing.now c.args.call c.args.most = grind (arith, common_steps) in
    value ∙ allowed_whole c.args.failing.now c.args.call c.args.most none
