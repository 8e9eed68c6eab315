use Rattle.std.proofs.Common.{Bool, Some, None, ap, arith, cond, refl, ◌≡◌, ◌∙◌, not, true, false}
use Rattle.board_defs.specs.Pins.{is_same}
use Rattle.fault_sim.specs.inner.Words.{word_bit}
use Rattle.fault_sim.proofs.WordLemmas.{full_word, not_word}
use Rattle.fault_sim.proofs.words.rows_on.Goals as goal

pub returns-in-None : goal.returns-in-None
returns-in-None c j less = rw c.in-None.is (ap (λ (b : Bool). cond b (Some (word_bit c.args.value j)) None) (full_word j less))

pub returns-then-off : goal.returns-then-off
returns-then-off c j less =
    rw c.in-Some.is (rw c.if-off.true
    (ap (λ (b : Bool). cond b (Some (word_bit c.args.value j)) None)
    (not_word c.args.value j (omega arith) less) ∙ by_bit (word_bit c.args.value j)))
  where
    by_bit : (b : Bool) → cond (not b) (Some b) None ≡ cond (is_same b true) None (Some b)
    by_bit true = refl
    by_bit false = refl
