use Rattle.std.proofs.Common.{[], ◌∷◌, sym, subst}
use Rattle.tap_defs.specs.chain.ChainScans.{chain_text}
use Rattle.tap_defs.specs.board.BoardScans.{board_text}
use Rattle.device_check.specs.DeviceText.{device_text}
use Rattle.coverage_list.specs.CoverText.{cover_text}
use Rattle.ident_test.specs.Patterns.{ident_text}
use Rattle.walk_test.specs.WalkTest.{board_walk_text}
use Rattle.board_gen.specs.BoardTexts as made
use Rattle.board_gen.specs.DeviceText.{bsdl_text}
use Rattle.btest_core.specs.BoardRead.{AreChainLengths, IsBoardRead}
use Rattle.btest_core.specs.DevicesRead.{IsDeviceText}
use Rattle.btest_core.specs.IdentsRead.{AreIdents}
use Rattle.commands.specs.Answers.{IsBoardOf, IsJudgedOf, Nothing}
use Rattle.commands.specs.LogRead.{diagnosing, diagnosis_text, grouping, grouping_text, judging_each, verdicts_text}
use Rattle.commands.specs.Summary.{summary_text}
use Rattle.commands.specs.Worth.{Diagnoses, DiagnosesEach, IsGroupsText, IsCoverText, IsDeviceListing, OfDenoted, IsSvfText, IsChainTestText, IsIdentTestText, IsWalkText}
use Rattle.command_line.specs.declared.command.Command.TheVariants.{Chain, Ident, Device, Cover, Svf, Walk, Make, Diagnose, Groups, Batch}
use Rattle.commands.specs.Requests.{Request}
use Rattle.btest_cli.specs.inner.Failures.{IsAnswered}
use Rattle.btest_cli.proofs.AnswerLemmas.{answered, log_answered}
use Rattle.btest_cli.proofs.top.answer.Goals as goal

pub returns-in-Chain : goal.returns-in-Chain
returns-in-Chain g c = λ names.
    subst
    (λ (r : Request). IsAnswered names r (g.K.Sink.shown c.args.out.now)
    (g.K.Sink.shown c.chain.new.out) c.chain.result) (sym c.in-Chain.is)
    (answered names (Chain c.in-Chain.texts)
    (AreChainLengths c.in-Chain.texts.chain c.in-Chain.texts.bsdl) chain_text
    (IsChainTestText c.in-Chain.texts) _ _ _ (λ o says. says) (λ text worth. worth)
    c.chain.ensures)

pub returns-in-Ident : goal.returns-in-Ident
returns-in-Ident g c = λ names.
    subst
    (λ (r : Request). IsAnswered names r (g.K.Sink.shown c.args.out.now)
    (g.K.Sink.shown c.ident.new.out) c.ident.result) (sym c.in-Ident.is)
    (answered names (Ident c.in-Ident.texts)
    (AreIdents c.in-Ident.texts.chain c.in-Ident.texts.bsdl) ident_text
    (IsIdentTestText c.in-Ident.texts) _ _ _ (λ o says. says) (λ text worth. worth)
    c.ident.ensures)

pub returns-in-Device : goal.returns-in-Device
returns-in-Device g c = λ names.
    subst
    (λ (r : Request). IsAnswered names r (g.K.Sink.shown c.args.out.now)
    (g.K.Sink.shown c.device.new.out) c.device.result) (sym c.in-Device.is)
    (answered names (Device c.in-Device.bsdl) (IsDeviceText c.in-Device.bsdl) device_text
    (IsDeviceListing c.in-Device.bsdl) _ _ _ (λ o says. says) (λ text worth. worth)
    c.device.ensures)

pub returns-in-Cover : goal.returns-in-Cover
returns-in-Cover g c = λ names.
    subst
    (λ (r : Request). IsAnswered names r (g.K.Sink.shown c.args.out.now)
    (g.K.Sink.shown c.cover.new.out) c.cover.result) (sym c.in-Cover.is)
    (answered names (Cover c.in-Cover.texts) (IsBoardOf c.in-Cover.texts) cover_text
    (IsCoverText c.in-Cover.texts) _ _ _ (λ o says. says) (λ text worth. worth)
    c.cover.ensures)

pub returns-in-Svf : goal.returns-in-Svf
returns-in-Svf g c = λ names.
    subst
    (λ (r : Request). IsAnswered names r (g.K.Sink.shown c.args.out.now)
    (g.K.Sink.shown c.svf.new.out) c.svf.result) (sym c.in-Svf.is)
    (answered names (Svf c.in-Svf.texts) (IsBoardOf c.in-Svf.texts) board_text
    (IsSvfText c.in-Svf.texts) _ _ _ (λ o says. says) (λ text worth. worth) c.svf.ensures)

pub returns-in-Walk : goal.returns-in-Walk
returns-in-Walk g c = λ names.
    subst
    (λ (r : Request). IsAnswered names r (g.K.Sink.shown c.args.out.now)
    (g.K.Sink.shown c.walk.new.out) c.walk.result) (sym c.in-Walk.is)
    (answered names (Walk c.in-Walk.texts) (IsBoardOf c.in-Walk.texts) board_walk_text
    (IsWalkText c.in-Walk.texts) _ _ _ (λ o says. says) (λ text worth. worth) c.walk.ensures)

pub returns-in-Make : goal.returns-in-Make
returns-in-Make g c = λ names.
    subst
    (λ (r : Request). IsAnswered names r (g.K.Sink.shown c.args.out.now)
    (g.K.Sink.shown c.summary.new.out) c.summary.result) (sym c.in-Make.is)
    (answered names (Make c.in-Make.parts)
    (IsBoardRead (made.chain_file_text c.in-Make.parts) (made.net_text c.in-Make.parts)
    (bsdl_text ∷ [])) summary_text Nothing _ _ _ (λ o says. says) (λ text worth. worth)
    c.summary.ensures)

pub returns-in-Diagnose : goal.returns-in-Diagnose
returns-in-Diagnose g c = λ names.
    subst
    (λ (r : Request). IsAnswered names r (g.K.Sink.shown c.args.out.now)
    (g.K.Sink.shown c.diagnosis.new.out) c.diagnosis.result) (sym c.in-Diagnose.is)
    (log_answered names (Diagnose c.in-Diagnose.workers c.in-Diagnose.files)
    (IsJudgedOf diagnosing c.in-Diagnose.files)
    diagnosis_text (OfDenoted (Diagnoses c.in-Diagnose.files.log) c.in-Diagnose.files.board) _ _ _
    (λ o says. says) (λ text worth. worth) c.diagnosis.ensures)

pub returns-in-Groups : goal.returns-in-Groups
returns-in-Groups g c = λ names.
    subst
    (λ (r : Request). IsAnswered names r (g.K.Sink.shown c.args.out.now)
    (g.K.Sink.shown c.groups.new.out) c.groups.result) (sym c.in-Groups.is)
    (log_answered names (Groups c.in-Groups.texts)
    (IsJudgedOf grouping c.in-Groups.texts)
    grouping_text (OfDenoted (IsGroupsText c.in-Groups.texts.log) c.in-Groups.texts.board) _ _ _
    (λ o says. says) (λ text worth. worth) c.groups.ensures)

pub returns-in-Batch : goal.returns-in-Batch
returns-in-Batch g c = λ names.
    subst
    (λ (r : Request). IsAnswered names r (g.K.Sink.shown c.args.out.now)
    (g.K.Sink.shown c.batch.new.out) c.batch.result) (sym c.in-Batch.is)
    (log_answered names (Batch c.in-Batch.workers c.in-Batch.files)
    (IsJudgedOf judging_each c.in-Batch.files)
    verdicts_text (OfDenoted (DiagnosesEach c.in-Batch.files.log) c.in-Batch.files.board) _ _ _
    (λ o says. says) (λ text worth. worth) c.batch.ensures)
