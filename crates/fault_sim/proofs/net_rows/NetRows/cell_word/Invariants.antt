use Rattle.std.proofs.Common.{◌≡◌, ◌+◌, ◌<◌, ◌&&◌, ltb, ℕ}
use Rattle.response_log.specs.LogRows.{bit_in}
use Rattle.fault_sim.specs.inner.Words.{word_bit}
use Rattle.fault_sim.proofs.net_rows.NetRows.cell_word.Given as goal

abbrev pub invariant-loop-j : goal.invariant-loop-j
invariant-loop-j l = (i : ℕ) → i < 32 → word_bit l.word i ≡ (ltb i l.j && bit_in l.self-inside.log.now (l.self-inside.first + i) l.at)
