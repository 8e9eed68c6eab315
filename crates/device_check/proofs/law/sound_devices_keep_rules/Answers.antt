use Rattle.std.proofs.Common.{sym, subst}
use Rattle.board_defs.specs.DeviceRules.{IsDevice}
use Rattle.device_check.specs.SoundDevice.{draft_of}
use Rattle.device_check.proofs.AnswerLemmas.{lengths_hold}
use Rattle.device_check.proofs.law.sound_devices_keep_rules.Goals as goal

pub returns : goal.returns
returns c = λ entity given device sound.
    subst IsDevice (sym sound.device_is)
    (c.devices_keep_rules.ensures (draft_of entity sound.found sound.strings)
    (lengths_hold entity given sound.found sound.strings sound.needed) sound.kept)
