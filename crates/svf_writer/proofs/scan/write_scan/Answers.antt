use Rattle.std.proofs.Common.{refl, ◌∙◌}
use Rattle.svf_writer.proofs.FieldLemmas.{puts_same}
use Rattle.svf_writer.proofs.ScanLemmas.{Written, line_short, line_long}
use Rattle.svf_writer.proofs.scan.write_scan.Goals as goal

pub returns-then-has_room : goal.returns-then-has_room
returns-then-has_room g c =
    let a = c.args in
    let written : Written a.tdi.now.bits a.tdo.now.bits a.mask.now.bits a.shape.compare =
    record { same_tdo = c.requires.tdo; same_mask = c.requires.mask; compared = c.requires.compare; masked = c.requires.masked } in
    puts_same (c.bytes.ensures ∙ c.push_fields.ensures
    ∙ line_short a.shape.ir a.tdi.now.bits a.tdo.now.bits a.mask.now.bits a.shape.compare
    c.begin.new.line written c.begin.ensures.text (c.if-has_room.ensures.0 refl)) c.put.ensures

pub returns-else-has_room : goal.returns-else-has_room
returns-else-has_room g c =
    let a = c.args in
    let written : Written a.tdi.now.bits a.tdo.now.bits a.mask.now.bits a.shape.compare =
    record { same_tdo = c.requires.tdo; same_mask = c.requires.mask; compared = c.requires.compare; masked = c.requires.masked } in
    puts_same
    (line_long a.shape.ir a.tdi.now.bits a.tdo.now.bits a.mask.now.bits a.shape.compare
    c.begin.new.line written c.begin.ensures.text c.if-has_room.ensures.1) c.put_lines.ensures
