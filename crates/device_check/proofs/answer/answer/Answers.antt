use Rattle.std.specs.Option.{option_copied}
use Rattle.device_check.specs.inner.Reading.{needed_view}
use Rattle.device_check.proofs.AnswerLemmas.{has_lengths, judged_answer, short_draft}
use Rattle.device_check.proofs.TextLemmas.{short_strings}
use Rattle.device_check.proofs.answer.answer.Goals as goal

pub read_strings-requires-clause-needed : goal.read_strings-requires-clause-needed
read_strings-requires-clause-needed c =
    short_strings c.args.entity.now (option_copied c.args.«package») (needed_view c.in-Ok.needed)
    c.requires.small c.in-Ok.ensures

pub judge-requires-clause-short : goal.judge-requires-clause-short
judge-requires-clause-short c =
    short_draft c.args.entity.now (option_copied c.args.«package») (needed_view c.in-Ok.needed)
    c.in-Ok-read_strings.strings c.in_ok-draft.draft c.requires.small
    c.in-Ok.ensures c.in-Ok-read_strings.ensures c.in_ok-draft.ensures

pub judge-requires-clause-lengths : goal.judge-requires-clause-lengths
judge-requires-clause-lengths c =
    has_lengths c.args.entity.now (option_copied c.args.«package») (needed_view c.in-Ok.needed)
    c.in-Ok-read_strings.strings c.in_ok-draft.draft c.in-Ok.ensures
    c.in_ok-draft.ensures

pub returns : goal.returns
returns c =
    judged_answer c.args.entity.now (option_copied c.args.«package») (needed_view c.in-Ok.needed)
    c.in-Ok-read_strings.strings c.in_ok-draft.draft c.judge.result
    c.in-Ok.ensures c.in-Ok-read_strings.ensures c.in_ok-draft.ensures c.judge.ensures
