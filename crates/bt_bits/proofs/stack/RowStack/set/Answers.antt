use Rattle.std.proofs.Common.{◌≡◌, ◌<◌, ◌/◌, ◌%◌, ◌∙◌, ap, arith, length, get_or, set, length-set, Bool, List, ℕ}
use Rattle.std.specs.Prelude.{map}
use Rattle.std.proofs.lemmas.List.{get_or_default}
use Rattle.bt_bits.specs.Digits.{digit_row}
use Rattle.bt_bits.specs.Stacks.{column_bit, digit_in, stacked}
use Rattle.bt_bits.specs.inner.Digits.{with_bit}
use Rattle.bt_bits.proofs.StackLemmas.{length-words, set_digits, set_row, stacked_by}
use Rattle.bt_bits.proofs.stack.RowStack.set.Goals as goal

pub index-requires : goal.index-requires
index-requires c =
    omega (arith, length-words c.self.inside.len c.self.inside.words.items c.self.invariant.0, c.if-i-self.true)

pub index_mut-requires : goal.index_mut-requires
index_mut-requires c =
    omega (arith, length-words c.self.inside.len c.self.inside.words.items c.self.invariant.0, c.if-i-self.true)

pub invariant_of-self : goal.invariant_of-self
invariant_of-self c =
    let len = c.self.inside.len in
    let words = c.self.inside.words.items in
    let are = c.self.invariant.0 in
    let i = c.args.i in
    let bit : ℕ → Bool = column_bit c.args.column in
    let row : ℕ → List Bool = λ j. digit_row len (map (digit_in j) words) in
    let within : i / 4 < length words = omega (arith, length-words len words are, c.if-i-self.true) in
    let read : c.index.result.now ≡ get_or words (i / 4) 0 = c.index.ensures ∙ get_or_default words (i / 4) c.index.result.now 0 within in (
      stacked_by len (set words (i / 4) c.with_column.result) (λ j. set (row j) i (bit j))
          (λ j less. length-set (row j) i (bit j) ∙ (are j less).count)
          (λ j less. set_digits len i words c.with_column.result j (bit j) are c.if-i-self.true less
          (c.with_column.ensures j less
          ∙ ap (λ w. with_bit (digit_in j w) (i % 4) (bit j)) read)),
      c.self.invariant.1,
      c.self.invariant.2,
      c.self.invariant.3,
    )

pub returns-then-i-self-clause-rows : goal.returns-then-i-self-clause-rows
returns-then-i-self-clause-rows c j less =
    let len = c.self.inside.len in
    let words = c.self.inside.words.items in
    let are = c.self.invariant.0 in
    let i = c.args.i in
    let within : i / 4 < length words = omega (arith, length-words len words are, c.if-i-self.true) in
    let read : c.index.result.now ≡ get_or words (i / 4) 0 = c.index.ensures ∙ get_or_default words (i / 4) c.index.result.now 0 within in
    set_row len i words c.with_column.result j (column_bit c.args.column j) are c.if-i-self.true
    less
    (c.with_column.ensures j less
    ∙ ap (λ w. with_bit (digit_in j w) (i % 4) (column_bit c.args.column j)) read)
    ∙ ap (λ stack. set (stacked stack j) i (column_bit c.args.column j)) c.self.view_is
