-- Lemmas about the text of a batch.
use Rattle.std.proofs.Common.{◌≡◌, ℕ, ◌+◌, ◌<◌, ◌≤◌, ◌==◌, false, true, List, [], ◌∷◌, ◌++◌, length, get_or, drop, Result, Ok, Err, IsErr, refl, sym, ap, ◌∙◌, arith, append_assoc}
use Rattle.std.proofs.lemmas.List.{drop_more, drop_all}
use Rattle.std.proofs.lemmas.Bool.{eqb-true}
use Rattle.bt_base.specs.Puts.{Puts, Shown}
use Rattle.bt_base.specs.declared.sink.PutFault.{PutFault}
use Rattle.line_printer.specs.Prints.{Prints}
use Rattle.line_printer.proofs.PutLemmas.{Completes}
use Rattle.line_printer.proofs.PrintLemmas.{prints_ok, prints_err, prints_none, prints_same, puts_of}
use Rattle.board_defs.specs.declared.board.RawBoard.{RawBoard}
use Rattle.diagnoser.specs.DiagText.{diag_text}
use Rattle.diagnoser.specs.Laws.{OneDiagnosis}
use Rattle.batch_diag.specs.declared.block.Block.{Block}
use Rattle.batch_diag.specs.Verdicts.{Verdict}
use Rattle.batch_diag.specs.BatchText.{title_line, block_text, batch_text}
use Rattle.batch_diag.specs.Laws.{VerdictsMakeText, OneBatchText}

pub verdicts_make_text : VerdictsMakeText
verdicts_make_text board [] [] are = refl
verdicts_make_text board [] (verdict ∷ verdicts) are = absurd are
verdicts_make_text board (block ∷ blocks) [] are = absurd are
verdicts_make_text board (block ∷ blocks) (verdict ∷ verdicts) are = (
  diag_text board verdict.pass verdict.faults,
  batch_text board blocks verdicts,
  record { pass = verdict.pass; passes = are.0.passes; faults = verdict.faults; explaining = are.0.list; is_text = refl },
  verdicts_make_text board blocks verdicts are.1,
  append_assoc (title_line block.id) (diag_text board verdict.pass verdict.faults) (batch_text board blocks verdicts),
)

pub one_batch_text : OneDiagnosis → OneBatchText
one_batch_text one board [] text other first second = first ∙ sym second
one_batch_text one board (block ∷ blocks) text other (diagnosis, later, is, are, all) (diagnosis', later', is', are', all') =
    all ∙ ap (λ (d : List ℕ). title_line block.id ++ (d ++ later)) (one board block.log diagnosis diagnosis' is is')
    ∙ ap (λ (l : List ℕ). title_line block.id ++ (diagnosis' ++ l)) (one_batch_text one board blocks later later' are are') ∙ sym all'

-- the text for the blocks from block `i` on
abbrev pub texts_after : RawBoard → List Block → List Verdict → ℕ → List ℕ
texts_after board blocks verdicts i = batch_text board (drop i blocks) (drop i verdicts)

module _ (board : RawBoard) (blocks : List Block) (verdicts : List Verdict) (same : length verdicts ≡ length blocks) where
  after_next : (i : ℕ) (block : Block) (verdict : Verdict) → block ≡ get_or blocks i block
      → verdict ≡ get_or verdicts i verdict → i < length blocks →
      texts_after board blocks verdicts i ≡ block_text board block verdict ++ texts_after board blocks verdicts (i + 1)
  after_next i block verdict is is' less =
      ap (λ (bs : List Block). batch_text board bs (drop i verdicts)) (drop_more blocks i block less)
      ∙ ap
      (λ (vs : List Verdict). batch_text board (get_or blocks i block ∷ drop (i + 1) blocks) vs)
      (drop_more verdicts i verdict (omega (arith, less, same)))
      ∙ ap (λ (b : Block). block_text board b (get_or verdicts i verdict) ++ texts_after board blocks verdicts (i + 1)) (sym is)
      ∙ ap (λ (v : Verdict). block_text board block v ++ texts_after board blocks verdicts (i + 1)) (sym is')

  pub next_ok : (i : ℕ) (block : Block) (verdict : Verdict) {start now new : Shown}
      {r : Result (Unit {0}) PutFault} {u : Unit {0}} → block ≡ get_or blocks i block
      → verdict ≡ get_or verdicts i verdict → i < length blocks →
      Completes start now (texts_after board blocks verdicts i) (batch_text board blocks verdicts)
      → Prints now new [] [] (block_text board block verdict) r → r ≡ Ok u
      → Completes start new (texts_after board blocks verdicts (i + 1))
      (batch_text board blocks verdicts)
  next_ok i block verdict {start} {now} {new} {r} {u} is is' less completes first ok last q rest =
      completes last q (prints_same (sym (after_next i block verdict is is' less)) (prints_ok first ok rest))

  pub next_err : (i : ℕ) (block : Block) (verdict : Verdict) {start now new : Shown}
      {r q : Result (Unit {0}) PutFault} {e : PutFault} → block ≡ get_or blocks i block
      → verdict ≡ get_or verdicts i verdict → i < length blocks →
      Completes start now (texts_after board blocks verdicts i) (batch_text board blocks verdicts)
      → Prints now new [] [] (block_text board block verdict) r → r ≡ Err e → IsErr q
      → Prints start new [] [] (batch_text board blocks verdicts) q
  next_err i block verdict {start} {now} {new} {r} {q} {e} is is' less completes first err is_err =
      completes new q
      (prints_same (sym (after_next i block verdict is is' less))
      (prints_err (texts_after board blocks verdicts (i + 1)) first err is_err))

  pub all_put : (i : ℕ) {start now : Shown} → length blocks ≤ i
      → Completes start now (texts_after board blocks verdicts i) (batch_text board blocks verdicts)
      → Prints {T = Unit {0}} {E = PutFault} start now [] [] (batch_text board blocks verdicts)
      (Ok tt)
  all_put i {start} {now} past completes =
      completes now (Ok tt)
      (prints_same
      (sym
      (ap (λ (bs : List Block). batch_text board bs (drop i verdicts))
      (drop_all i blocks past))) (prints_none tt refl))

-- if there is a block, the text of the blocks is not empty, so `Prints` implies `Puts`
pub puts_some : {T E : Type 0} {old new : Shown} {r : Result T E} (board : RawBoard)
    (blocks : List Block) (verdicts : List Verdict) → length verdicts ≡ length blocks
    → 0 < length blocks → Prints old new [] [] (batch_text board blocks verdicts) r
    → Puts old new (batch_text board blocks verdicts) r
puts_some board [] verdicts same some prints = absurd (omega (arith, some))
puts_some board (block ∷ blocks) [] same some prints = absurd (omega (arith, same))
puts_some board (block ∷ blocks) (verdict ∷ verdicts) same some prints = puts_of prints

-- if there are no blocks, the text of the blocks is empty
pub puts_none : {T E : Type 0} {old new : Shown} {r : Result T E} (board : RawBoard)
    (blocks : List Block) (verdicts : List Verdict) → true ≡ (length blocks == 0)
    → Puts old new [] r → Puts old new (batch_text board blocks verdicts) r
puts_none board [] verdicts is puts = puts
puts_none board (block ∷ blocks) verdicts is puts =
    let none : length (block ∷ blocks) ≡ 0 = eqb-true (length (block ∷ blocks)) 0 (sym is) in
    absurd (omega (arith, none))

pub some_block : (blocks : List Block) → false ≡ (length blocks == 0) → 0 < length blocks
some_block [] is = absurd cc
some_block (block ∷ blocks) is = omega arith
