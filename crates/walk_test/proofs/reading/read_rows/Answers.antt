use Rattle.std.proofs.Common.{◌≡◌, ℕ, List, Some, length, get_or, refl, sym, ap, subst, ◌∙◌, arith}
use Rattle.std.specs.Prelude.{slice_get}
use Rattle.std.proofs.lemmas.Option.{slice_get-get_or}
use Rattle.walk_test.specs.declared.tables.NetCells.{NetCells}
use Rattle.walk_test.specs.inner.Reading.{AreRead}
use Rattle.walk_test.proofs.ReadLemmas.{none_read, row_read, row_not}
use Rattle.walk_test.proofs.reading.read_rows.Goals as goal

pub read_row-requires-clause-row : goal.read_row-requires-clause-row
read_row-requires-clause-row c =
    omega (
      arith,
      c.laws.ensures.rows,
      c.loop-j-test.true,
      ap (λ (l : List NetCells). length l) c.nets-nets.ensures,
    )

pub loop-j-init : goal.loop-j-init
loop-j-init c =
    let it = c.args.log.now in
    let none = c.rows-none.result in
    record {
      long = refl;
      read =
          none_read it.log it.mask it.nets none c.rows-none.ensures c.laws.ensures.rows
          c.laws.ensures.compared c.args.firsts.now
          (subst (λ (n : ℕ). (at : ℕ) → get_or c.args.firsts.now at n ≡ n) (sym c.rows-none.ensures)
          c.requires.blank);
    }

pub loop-j-preserved : goal.loop-j-preserved
loop-j-preserved c =
    let it = c.args.log.now in
    let nets = c.nets-nets.result.now in
    let j = c.loop-j.j in
    let net : NetCells = c.index-nets-j.result in
    let is_net : slice_get it.nets j ≡ Some net =
    ap (λ (l : List NetCells). slice_get l j) (sym c.nets-nets.ensures)
    ∙ slice_get-get_or nets j net c.loop-j-test.true
    ∙ ap (λ (n : NetCells). Some n) (sym c.index-nets-j.is) in
    record {
      long = c.read_row.auto.firsts ∙ c.loop-j.invariant.long;
      read =
          row_read it.log it.mask it.nets c.rows-none.result c.rows-none.ensures c.laws.ensures.rows
          c.laws.ensures.compared j c.loop-j.firsts c.loop-j.invariant.read net is_net
          c.first_of.result c.first_of.ensures c.read_row.new.firsts c.read_row.result
          c.if-not-read_row.false c.read_row.ensures.again c.read_row.ensures.starts;
    }

pub returns-then-not-read_row : goal.returns-then-not-read_row
returns-then-not-read_row c =
    let it = c.args.log.now in
    let nets = c.nets-nets.result.now in
    let j = c.loop-j.j in
    let net : NetCells = c.index-nets-j.result in
    let is_net : slice_get it.nets j ≡ Some net =
    ap (λ (l : List NetCells). slice_get l j) (sym c.nets-nets.ensures)
    ∙ slice_get-get_or nets j net c.loop-j-test.true
    ∙ ap (λ (n : NetCells). Some n) (sym c.index-nets-j.is) in
    row_not it.log it.mask it.nets c.rows-none.result c.rows-none.ensures c.laws.ensures.rows
    c.laws.ensures.compared j c.loop-j.firsts c.loop-j.invariant.read net is_net
    c.first_of.result c.first_of.ensures c.read_row.new.firsts c.read_row.result
    c.if-not-read_row.true c.read_row.ensures.again c.read_row.ensures.starts

pub returns : goal.returns
returns c =
    let it = c.args.log.now in
    let end : c.loop-j.j ≡ length it.nets = omega (arith, c.loop-j-test.false, ap (λ (l : List NetCells). length l) c.nets-nets.ensures) in
    subst (λ (n : ℕ). AreRead it.log it.mask it.nets n (length it.nets) c.loop-j.firsts) c.rows-none.ensures
    (subst (λ (k : ℕ). AreRead it.log it.mask it.nets c.rows-none.result k c.loop-j.firsts) end c.loop-j.invariant.read)
