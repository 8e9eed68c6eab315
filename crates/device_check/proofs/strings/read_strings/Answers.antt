use Rattle.device_check.specs.inner.Reading.{needed_view}
use Rattle.device_check.proofs.OrderLemmas.{in_pin_map, in_opcodes, in_capture, in_idcode, in_compliance, in_boundary}
use Rattle.device_check.proofs.strings.read_strings.Goals as goal

pub returns-in-Err : goal.returns-in-Err
returns-in-Err c = in_pin_map c.args.entity.now (needed_view c.args.needed.now) c.in-Err.fault (c.in-Err.ensures.fault c.args.entity.now)

pub returns-in-Err-read_opcodes : goal.returns-in-Err-read_opcodes
returns-in-Err-read_opcodes c =
    in_opcodes c.args.entity.now (needed_view c.args.needed.now) c.in-Err-read_opcodes.fault c.in-Ok.map
    c.in-Ok.ensures.value (c.in-Err-read_opcodes.ensures.fault c.args.entity.now)

pub returns-in-Err-read_capture : goal.returns-in-Err-read_capture
returns-in-Err-read_capture c =
    in_capture c.args.entity.now (needed_view c.args.needed.now) c.in-Err-read_capture.fault c.in-Ok.map c.in-Ok-read_opcodes.opcodes
    c.in-Ok.ensures.value c.in-Ok-read_opcodes.ensures.value (c.in-Err-read_capture.ensures.fault c.args.entity.now)

pub returns-in-Err-read_idcode : goal.returns-in-Err-read_idcode
returns-in-Err-read_idcode c =
    in_idcode c.args.entity.now (needed_view c.args.needed.now) c.in-Err-read_idcode.fault
    c.in-Ok.map c.in-Ok-read_opcodes.opcodes c.in-Ok-read_capture.capture
    c.in-Ok.ensures.value c.in-Ok-read_opcodes.ensures.value c.in-Ok-read_capture.ensures.value
    (c.in-Err-read_idcode.ensures.fault (needed_view c.args.needed.now))

pub returns-in-Err-read_compliance : goal.returns-in-Err-read_compliance
returns-in-Err-read_compliance c =
    in_compliance c.args.entity.now (needed_view c.args.needed.now) c.in-Err-read_compliance.fault
    c.in-Ok.map c.in-Ok-read_opcodes.opcodes c.in-Ok-read_capture.capture
    c.in-Ok-read_idcode.idcode
    c.in-Ok.ensures.value c.in-Ok-read_opcodes.ensures.value c.in-Ok-read_capture.ensures.value
    c.in-Ok-read_idcode.ensures.value
    (c.in-Err-read_compliance.ensures.fault (needed_view c.args.needed.now))

pub returns-in-Err-read_boundary : goal.returns-in-Err-read_boundary
returns-in-Err-read_boundary c =
    in_boundary c.args.entity.now (needed_view c.args.needed.now) c.in-Err-read_boundary.fault
    c.in-Ok.map c.in-Ok-read_opcodes.opcodes c.in-Ok-read_capture.capture
    c.in-Ok-read_idcode.idcode c.in-Ok-read_compliance.compliance
    c.in-Ok.ensures.value c.in-Ok-read_opcodes.ensures.value c.in-Ok-read_capture.ensures.value
    c.in-Ok-read_idcode.ensures.value c.in-Ok-read_compliance.ensures.value
    (c.in-Err-read_boundary.ensures.fault c.args.entity.now)
