use Rattle.std.proofs.Common.{◌≤◌, ◌∙◌, not, refl, ap, length, arith}
use Rattle.std.specs.List.{list_any}
use Rattle.board_defs.specs.Passes.{useful_controls}
use Rattle.driver_passes.specs.inner.Shown.{shows_both, words_at}
use Rattle.driver_passes.proofs.RowLemmas.{left_whole}
use Rattle.driver_passes.proofs.DoneLemmas.{done_next, none_later}
use Rattle.driver_passes.proofs.pairs.Pairing.add_for_later.Goals as goal

pub returns-then-is_done-clause-added : goal.returns-then-is_done-clause-added
returns-then-is_done-clause-added c =
    let board = c.args.board.now in
    none_later board (useful_controls board) c.args.self.now.passes.items c.args.a c.requires.first (c.is_done.ensures c.if-is_done.true)

pub returns-then-is_done-clause-done : goal.returns-then-is_done-clause-done
returns-then-is_done-clause-done c =
    done_next c.args.board.now c.args.self.now.passes.items c.args.a c.requires.done
    (c.is_done.ensures c.if-is_done.true)

pub loop-b-init : goal.loop-b-init
loop-b-init c =
    let before = c.args.self.now in
    let are = c.requires.pairing in
    record {
      looks = record {
        are = record {
          rows = are.rows;
          column = c.in_ok-look_at.ensures.column ∙ ap (words_at c.look_at.new.self.number) c.deref.ensures.value;
          tested = are.tested;
          useful = are.useful;
          left_length = c.leave_unshown.ensures.room ∙ are.left_length;
          always = are.always;
        };
        net = c.requires.first;
        left = left_whole c.args.board.now before.passes.items before.rows.items
            c.leave_unshown.new.left c.args.a (length before.left) are.rows c.requires.first
            are.left_length (λ n from within.
            c.leave_unshown.ensures.nets n from within ∙ ap (λ v. not (list_any (shows_both c.args.a n) v)) c.deref-2.ensures.value);
      };
      later = omega arith;
      within = omega (arith, c.requires.first);
      kept = λ m n done. done;
      done = λ n later below. absurd (omega (arith, later, below));
      few = omega arith;
      rest = refl;
    }

pub returns-clause-done : goal.returns-clause-done
returns-clause-done c =
    let board = c.args.board.now in
    let inv = c.loop-b.invariant in
    let past : length board.nets
    ≤ c.loop-b.b = omega (
      arith,
      c.loop-b-test.false,
      c.net_count-nets.ensures.value,
      ap (λ b. length b.nets) c.classes.ensures.same,
    ) in
    done_next board c.loop-b.self.passes.items c.args.a
    (λ m less n later within. inv.kept m n (c.requires.done m less n later within))
    (λ n later within. inv.done n later (omega (arith, within, past)))
