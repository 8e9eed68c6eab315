use Rattle.std.proofs.Common.{◌∙◌, ◌||◌, ◌<◌, [], ap, sym, length, arith}
use Rattle.std.proofs.lemmas.List.{get_or_default}
use Rattle.board_defs.specs.Passes.{shows, useful_controls}
use Rattle.driver_passes.specs.inner.Drafts.{setting_of}
use Rattle.driver_passes.specs.inner.NumberSets.{is_in}
use Rattle.net_classes.specs.Pairs.{drivers_at}
use Rattle.driver_passes.proofs.TestedLemmas.{left_from, left_skip, list_within, row_step, shows_split}
use Rattle.driver_passes.proofs.tested.TestedNets.shown_by.Goals as goal

pub loop-place-init : goal.loop-place-init
loop-place-init c =
    let board = c.args.board.now in
    let held = c.args.held.now in
    let steady = c.requires.steady in
    let first = c.first_from-place.result in
    record {
      room = ap length c.in_ok-row.ensures ∙ steady.row_length;
      held = c.first_from-place.ensures.found;
      rest = λ n less.
          ap (λ t. t || left_from board held first n) (ap (λ v. is_in v n) c.in_ok-row.ensures ∙ steady.row_are n less) ∙
          ap (λ t. shows (drivers_at board n) [] || t)
          (sym
          (left_skip board held 0 first n (omega arith) c.first_from-place.ensures.passed))
          ∙ sym (shows_split (drivers_at board n) (setting_of board c.args.held.now));
    }

pub insert_all-requires : goal.insert_all-requires
insert_all-requires c =
    let board = c.args.board.now in
    let lists = c.args.self.now.by_control.items in
    let are = c.requires.by_control in
    let place = c.loop-place.place in
    let less : place
    < length (useful_controls board) = omega (
      arith,
      ap length c.as_slice-places.ensures.value,
      c.loop-place-test.true,
      are.lists_length,
    ) in
    let list = c.as_slice.ensures ∙ c.index.ensures
    ∙ get_or_default lists place c.index.result.now [] (omega (arith, less, are.lists_length))
    in
    list_within board lists place c.as_slice.result.now c.loop-place.row are less list c.loop-place.invariant.room

pub loop-place-preserved : goal.loop-place-preserved
loop-place-preserved c =
    let board = c.args.board.now in
    let lists = c.args.self.now.by_control.items in
    let are = c.requires.by_control in
    let place = c.loop-place.place in
    let less : place
    < length (useful_controls board) = omega (
      arith,
      ap length c.as_slice-places.ensures.value,
      c.loop-place-test.true,
      are.lists_length,
    ) in
    let list = c.as_slice.ensures ∙ c.index.ensures
    ∙ get_or_default lists place c.index.result.now [] (omega (arith, less, are.lists_length))
    in
    record {
      room = c.insert_all.ensures.room ∙ c.loop-place.invariant.room;
      held = c.first_from-place-in-loop-place.ensures.found;
      rest =
          row_step board lists c.args.held.now place c.first_from-place-in-loop-place.result
          c.as_slice.result.now c.loop-place.row c.insert_all.new.self
          (λ n. shows (drivers_at board n) (setting_of board c.args.held.now)) are less
          (c.loop-place.invariant.held c.loop-place-test.true)
          c.first_from-place-in-loop-place.ensures.further
          c.first_from-place-in-loop-place.ensures.passed list c.insert_all.ensures.numbers
          c.loop-place.invariant.rest;
    }
