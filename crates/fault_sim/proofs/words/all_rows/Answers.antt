use Rattle.std.proofs.Common.{◌∙◌, sym}
use Rattle.fault_sim.proofs.WordLemmas.{full_word}
use Rattle.fault_sim.proofs.words.all_rows.Goals as goal

pub returns-then-bit : goal.returns-then-bit
returns-then-bit c j less = full_word j less ∙ sym c.if-bit.true
