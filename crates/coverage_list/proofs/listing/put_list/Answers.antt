use Rattle.std.proofs.Common.{◌++◌}
use Rattle.line_printer.proofs.PrintLemmas.{prints_ok, prints_err}
use Rattle.coverage_list.specs.declared.lines.PinUse.TheVariants.{Driver, Receiver}
use Rattle.coverage_list.specs.CoverText.{reason_lines, pin_lines, pair_lines, cover_text}
use Rattle.coverage_list.proofs.listing.put_list.Goals as goal

pub returns-in_err-put_count : goal.returns-in_err-put_count
unfolding cover_text
returns-in_err-put_count g c =
    let b = c.args.board.now in
    prints_err (reason_lines b ++ (pin_lines b Driver ++ (pin_lines b Receiver ++ pair_lines b)))
    c.put_count.ensures c.in_err-put_count.was c.from_residual.ensures.0

pub returns-in_err-put_section : goal.returns-in_err-put_section
unfolding cover_text
returns-in_err-put_section g c =
    let b = c.args.board.now in
    prints_ok c.put_count.ensures c.in_ok-put_count.was
    (prints_err (pin_lines b Driver ++ (pin_lines b Receiver ++ pair_lines b))
    c.put_section.ensures c.in_err-put_section.was
    c.from_residual-in_err-put_section.ensures.0)

pub returns-in_err-put_section-2 : goal.returns-in_err-put_section-2
unfolding cover_text
returns-in_err-put_section-2 g c =
    let b = c.args.board.now in
    prints_ok c.put_count.ensures c.in_ok-put_count.was
    (prints_ok c.put_section.ensures c.in_ok-put_section.was
    (prints_err (pin_lines b Receiver ++ pair_lines b) c.put_section-2.ensures
    c.in_err-put_section-2.was c.from_residual-in_err-put_section-2.ensures.0))

pub returns-in_err-put_section-3 : goal.returns-in_err-put_section-3
unfolding cover_text
returns-in_err-put_section-3 g c =
    prints_ok c.put_count.ensures c.in_ok-put_count.was
    (prints_ok c.put_section.ensures c.in_ok-put_section.was
    (prints_ok c.put_section-2.ensures c.in_ok-put_section-2.was
    (prints_err (pair_lines c.args.board.now) c.put_section-3.ensures
    c.in_err-put_section-3.was c.from_residual-in_err-put_section-3.ensures.0)))

pub returns : goal.returns
unfolding cover_text
returns g c =
    prints_ok c.put_count.ensures c.in_ok-put_count.was
    (prints_ok c.put_section.ensures c.in_ok-put_section.was
    (prints_ok c.put_section-2.ensures c.in_ok-put_section-2.was
    (prints_ok c.put_section-3.ensures c.in_ok-put_section-3.was c.put_section-4.ensures)))
