use Rattle.std.proofs.Common.{◌++◌, sym, ap, ◌∙◌}
use Rattle.std.specs.Prelude.{codes}
use Rattle.line_printer.proofs.PrintLemmas.{prints_ok, prints_err, prints_same}
use Rattle.device_check.specs.DeviceText.{code_text, instructions_text}
use Rattle.device_check.proofs.ListingLemmas.{code_pieces, two_pieces}
use Rattle.device_check.proofs.listing.print_instructions.Goals as goal

pub returns-in-Old : goal.returns-in-Old
returns-in-Old g c =
    let d = c.args.device.now in
    prints_same (ap (λ t. codes " SAMPLE " ++ code_text t) c.symbols.ensures.value ∙ two_pieces (codes " SAMPLE ") (code_text d.sample)
    ∙ sym (ap (λ e. instructions_text e d.sample d.extest) c.in-Old.is)) c.print_instruction.ensures

pub returns-in_err-print_instruction-in-Of2001 : goal.returns-in_err-print_instruction-in-Of2001
returns-in_err-print_instruction-in-Of2001 g c =
    let d = c.args.device.now in
    prints_same (ap (λ t. (codes " PRELOAD " ++ code_text t) ++ (codes " EXTEST " ++ code_text d.extest)) c.symbols-in-Of2001.ensures.value
    ∙ code_pieces (codes " PRELOAD ") (code_text d.sample) (codes " EXTEST ") (code_text d.extest) ∙
    sym (ap (λ e. instructions_text e d.sample d.extest) c.in-Of2001.is))
    (prints_err (codes " EXTEST " ++ code_text d.extest) c.print_instruction-in-Of2001.ensures
    c.in_err-print_instruction-in-Of2001.was c.from_residual.ensures.0)

pub returns-in_ok-print_instruction-in-Of2001 : goal.returns-in_ok-print_instruction-in-Of2001
returns-in_ok-print_instruction-in-Of2001 g c =
    let d = c.args.device.now in
    prints_same
    (ap
    (λ t. (codes " PRELOAD " ++ code_text t) ++
    (codes " EXTEST " ++ code_text c.symbols-in-Of2001-2.result.now))
    c.symbols-in-Of2001.ensures.value
    ∙ ap (λ t. (codes " PRELOAD " ++ code_text d.sample) ++ (codes " EXTEST " ++ code_text t)) c.symbols-in-Of2001-2.ensures.value
    ∙ code_pieces (codes " PRELOAD ") (code_text d.sample) (codes " EXTEST ") (code_text d.extest) ∙
    sym (ap (λ e. instructions_text e d.sample d.extest) c.in-Of2001.is))
    (prints_ok c.print_instruction-in-Of2001.ensures c.in_ok-print_instruction-in-Of2001.was c.print_instruction-in-Of2001-2.ensures)
