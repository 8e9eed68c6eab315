use Rattle.std.proofs.Common.{◌+◌, ◌-◌, ◌==◌, ◌&&◌, ltb, not, ℕ, Bool, ap, ◌∙◌, arith}
use Rattle.std.proofs.lemmas.Bool.{ne_eqb}
use Rattle.response_log.specs.LogRows.{bit_in}
use Rattle.fault_sim.specs.inner.NetRows.{RowsOfNet}
use Rattle.fault_sim.specs.inner.Words.{word_bit}
use Rattle.fault_sim.proofs.ShownLemmas.{one_shown, zero_shown}
use Rattle.fault_sim.proofs.WordLemmas.{and_word, not_word}
use Rattle.fault_sim.proofs.net_rows.NetRows.cell_words.Goals as goal

pub returns : goal.returns
returns c =
    let word = c.cell_word-word.result in
    let rows = c.first_rows.result in
    let width = c.args.self.now.width in
    let reader = c.args.reader in
    let driver = c.args.driver in
    let bit : ℕ → Bool = λ j. bit_in c.args.self.now.log (c.args.self.now.first + j) reader.position in
    let other = ne_eqb reader.place driver c.if-reader-driver.false in
    record {
      ones = λ j less. c.cell_word-word.ensures j less ∙ one_shown (ltb j width) (reader.place == driver) (bit j) other;
      zeros = λ j less.
          and_word rows (4294967295 - word) j
          ∙ ap (λ (b : Bool). b && word_bit (4294967295 - word) j)
          (c.first_rows.ensures j ∙ ap (λ (v : RowsOfNet). ltb j v.width) c.self.view_is)
          ∙ ap (λ (b : Bool). ltb j width && b) (not_word word j (omega arith) less ∙ ap not (c.cell_word-word.ensures j less))
          ∙ zero_shown (ltb j width) (reader.place == driver) (bit j) other;
    }
