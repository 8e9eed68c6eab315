use Rattle.line_printer.proofs.PrintLemmas.{prints_ok, prints_err, prints_same}
use Rattle.std.proofs.Common.{[], ◌∷◌, ◌++◌}
use Rattle.std.specs.Prelude.{codes, decimal}
use Rattle.device_check.specs.DeviceText.{instructions_text, pattern_text}
use Rattle.device_check.proofs.ListingLemmas.{instruction_pieces}
use Rattle.device_check.proofs.listing.put_instructions.Goals as goal

pub returns-in_err-begin_instructions : goal.returns-in_err-begin_instructions
returns-in_err-begin_instructions g c =
    let d = c.args.device.now in
    let codes_text = instructions_text d.edition d.sample d.extest in
    prints_same
    (instruction_pieces (codes "IR ") (decimal d.ir) codes_text (codes " IDCODE ")
    (pattern_text d.idcode))
    (prints_err (codes_text ++ (codes " IDCODE " ++ (pattern_text d.idcode ++ (10 ∷ []))))
    c.begin_instructions.ensures c.in_err-begin_instructions.was c.from_residual.ensures.0)

pub returns-in_err-print_instructions : goal.returns-in_err-print_instructions
returns-in_err-print_instructions g c =
    let d = c.args.device.now in
    let codes_text = instructions_text d.edition d.sample d.extest in
    prints_same
    (instruction_pieces (codes "IR ") (decimal d.ir) codes_text (codes " IDCODE ")
    (pattern_text d.idcode))
    (prints_ok c.begin_instructions.ensures c.in_ok-begin_instructions.was
    (prints_err (codes " IDCODE " ++ (pattern_text d.idcode ++ (10 ∷ [])))
    c.print_instructions.ensures c.in_err-print_instructions.was
    c.from_residual-in_err-print_instructions.ensures.0))

pub returns-in_err-print : goal.returns-in_err-print
returns-in_err-print g c =
    let d = c.args.device.now in
    let codes_text = instructions_text d.edition d.sample d.extest in
    prints_same
    (instruction_pieces (codes "IR ") (decimal d.ir) codes_text (codes " IDCODE ")
    (pattern_text d.idcode))
    (prints_ok c.begin_instructions.ensures c.in_ok-begin_instructions.was
    (prints_ok c.print_instructions.ensures c.in_ok-print_instructions.was
    (prints_err (pattern_text d.idcode ++ (10 ∷ [])) c.print.ensures c.in_err-print.was
    c.from_residual-in_err-print.ensures.0)))

pub returns-in_err-print_pattern : goal.returns-in_err-print_pattern
returns-in_err-print_pattern g c =
    let d = c.args.device.now in
    let codes_text = instructions_text d.edition d.sample d.extest in
    prints_same
    (instruction_pieces (codes "IR ") (decimal d.ir) codes_text (codes " IDCODE ")
    (pattern_text d.idcode))
    (prints_ok c.begin_instructions.ensures c.in_ok-begin_instructions.was
    (prints_ok c.print_instructions.ensures c.in_ok-print_instructions.was
    (prints_ok c.print.ensures c.in_ok-print.was
    (prints_err (10 ∷ []) c.print_pattern.ensures c.in_err-print_pattern.was
    c.from_residual-in_err-print_pattern.ensures.0))))

pub returns : goal.returns
returns g c =
    let d = c.args.device.now in
    let codes_text = instructions_text d.edition d.sample d.extest in
    prints_same
    (instruction_pieces (codes "IR ") (decimal d.ir) codes_text (codes " IDCODE ")
    (pattern_text d.idcode))
    (prints_ok c.begin_instructions.ensures c.in_ok-begin_instructions.was
    (prints_ok c.print_instructions.ensures c.in_ok-print_instructions.was
    (prints_ok c.print.ensures c.in_ok-print.was
    (prints_ok c.print_pattern.ensures c.in_ok-print_pattern.was c.end_line.ensures))))
