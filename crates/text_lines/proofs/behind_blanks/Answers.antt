use Rattle.std.proofs.Common.{◌≡◌, ◌+◌, ◌∙◌, suc, sym, ap, drop, get_or, arith}
use Rattle.std.proofs.Math.Seq.{drop-cons}
use Rattle.text_lines.specs.Words.{words_of}
use Rattle.text_lines.proofs.LineLemmas.{words_of-blank}
use Rattle.text_lines.proofs.behind_blanks.Goals as goal

pub loop-i-preserved : goal.loop-i-preserved
loop-i-preserved c =
    let line = c.args.line.now in
    let next : c.loop-i.i + 1 ≡ suc c.loop-i.i = omega arith in
    ap (λ n. words_of (drop n line)) next
    ∙ sym
    (words_of-blank (get_or line c.loop-i.i 0) (drop (suc c.loop-i.i) line)
    (sym c.if-not-is_blank.ensures))
    ∙ sym (ap words_of (drop-cons line c.loop-i.i 0 (omega arith))) ∙ c.loop-i.invariant
