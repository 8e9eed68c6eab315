use Rattle.std.proofs.Common.{◌≡◌, ◌∙◌, ℕ, List, Option, ap, length, refl, subst, sym}
use Rattle.std.specs.Prelude.{Ok, option_map}
use Rattle.board_defs.specs.Pins.{data_bits}
use Rattle.response_log.specs.LogRows.{HasSize}
use Rattle.walk_test.specs.WalkTest.{walk_row_list}
use Rattle.command_line.specs.Words.{Text}
use Rattle.commands.specs.Answers.{AnswersOn}
use Rattle.commands.specs.inner.Boards.{WalkedBoard}
use Rattle.commands.specs.LogRead.{OnBoard, grouping, grouping_text, walk_log, walk_rows}
use Rattle.commands.specs.Worth.{IsGroupsText}
use Rattle.commands.proofs.AnswerLemmas.{text_judged}
use Rattle.commands.proofs.VerdictLemmas.{exactly_found}
use Rattle.commands.proofs.log_groups.put_grouped.Goals as goal

pub groups-requires-clause-rows : goal.groups-requires-clause-rows
groups-requires-clause-rows g c =
    let size = subst
    (λ (p : WalkedBoard). HasSize (walk_rows p.board) (data_bits p.board) c.args.log.now)
    (sym c.walked.view_is) c.requires.size in
    size.rows ∙ sym (ap (λ (nets : List ℕ). length nets) c.walked.invariant.nets)

pub groups-requires-clause-bits : goal.groups-requires-clause-bits
groups-requires-clause-bits g c =
    (subst (λ (p : WalkedBoard). HasSize (walk_rows p.board) (data_bits p.board) c.args.log.now)
    (sym c.walked.view_is) c.requires.size).bits

pub returns : goal.returns
returns g c =
    let board = c.walked.inside.board in
    let rules = c.raw-rules.ensures.rules in
    let rows = c.args.log.now in
    let found : Option (List (List ℕ)) = option_map (λ groups. groups.items) c.in_ok-found.found in
    subst
    (λ (p : WalkedBoard). (text : Text) → walk_log text p.board ≡ Ok rows
    → AnswersOn grouping grouping_text IsGroupsText text p.board
    (g.K.Sink.shown c.args.out.now) (g.K.Sink.shown c.put_found.new.out)
    c.put_found.result) c.walked.view_is
    (λ text read. text_judged (OnBoard grouping text board) (λ found. grouping_text (board, found)) (IsGroupsText text board) found
    (record { contents = rows; holds = read; finds = c.in_ok-found.ensures.found }) _ _ _ c.put_found.ensures
    (record {
      means = c.test_means.ensures (walk_row_list board);
      rows = rows;
      read = read;
      found = found;
      exactly = exactly_found c.one_set.ensures board rules rows found c.in_ok-found.ensures.found;
      respond = λ groups are. c.groups_respond.ensures.some board groups rules are;
      one = λ groups one other first second. c.groups_respond.ensures.one board groups one other rules first second;
      is = refl;
    }))
