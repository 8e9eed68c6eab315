-- Passes that meet the requirements on passes form a plan (`IsPlan`) if their codes have enough bits.
use Rattle.std.specs.Prelude.{is_some, nat_lt, slice_get}
use Rattle.std.proofs.Common.{◌≡◌, ◌+◌, ◌∷◌, true, ◌≢◌, [], false, ◌&&◌, ◌<◌, Some, suc, ◌≤◌, ◌∙◌, ◌==◌, zero, ◌^◌, refl, ℕ, Bool, List, None, ◌||◌, Option, cond, arith, ap, not, ltb-true, ltb-false, sym, subst}
use Rattle.board_defs.specs.declared.board.Ctl.{Ctl}
use Rattle.board_defs.specs.declared.board.RawBoard.{RawBoard}
use Rattle.board_defs.specs.declared.board.NetPin.{NetPin}
use Rattle.board_defs.specs.declared.board.Net.{Net}
use Rattle.board_defs.specs.Pins.{receives}
use Rattle.board_defs.specs.BoardRules.{IsBoard}
use Rattle.board_defs.specs.Settings.{ObservesBy, IsSafe, Enabling, enables, holds}
use Rattle.board_defs.specs.Coverage.{IsCovered, IsTestedReceiver, ArePaired}
use Rattle.board_defs.specs.Passes.{ArePasses}
use Rattle.board_defs.specs.Decided.{is_covered}
use Rattle.board_defs.proofs.Places.{Found, any_place, any_at}
use Rattle.board_defs.proofs.Covered.{covered_true, covered_is, net_same}
use Rattle.tap_defs.specs.board.TestRows.{code_of_net, is_observed, first_enabled, observing_driver, observed_count, net_code_bit, reads_beside, observing_driver_by}
use Rattle.tap_defs.proofs.board.FeedingLemmas.{observing_at}
use Rattle.tap_defs.proofs.board.ReadingLemmas.{beside_observing, beside}
use Rattle.std.proofs.lemmas.Bool.{eqb-true, eqb-false, ne_eqb, both_ways}
use Rattle.std.proofs.Math.Bool.{or-true}
use Rattle.tap_defs.proofs.board.NetRuleLemmas.{all_read, net_rules}
use Rattle.tap_defs.proofs.board.CodeBitLemmas.{has_one, count_whole, count_up, has_zero, codes_differ}
use Rattle.tap_defs.proofs.board.DetectionLemmas.{IsPlan, Sees}

first_is : (board : RawBoard) (setting : Enabling) (m d : ℕ) (ps : List NetPin) (p : NetPin) → slice_get ps d ≡ Some p →
    enables board setting p ≡ true →
    ((i : ℕ) (q : NetPin) → slice_get ps i ≡ Some q → enables board setting q ≡ true → i ≡ d)
    → first_enabled board setting m ps ≡ Some (m + d)
first_is board setting m d [] p e on once = cc e
first_is board setting m zero (q ∷ ps) p e on once =
    let z : q ≡ p = cc e in
    let w : m ≡ m + 0 = omega arith in
    ap (λ (b : Bool). cond b (Some m) (first_enabled board setting (suc m) ps)) (ap (λ (x : NetPin). enables board setting x) z ∙ on)
    ∙ ap (λ (x : ℕ). Some x) w
first_is board setting m (suc d) (q ∷ ps) p e on once =
    let w : suc m + d ≡ m + suc d = omega arith in
    by_test
    (first_is board setting (suc m) d ps p e on
    (λ i x ei ex. let z : suc i ≡ suc d = once (suc i) x ei ex in omega (arith, z))
    ∙ ap (λ (x : ℕ). Some x) w)
    (enables board setting q) refl
  where
    by_test : first_enabled board setting (suc m) ps ≡ Some (m + suc d) → (b : Bool) → enables board setting q ≡ b →
        cond b (Some m) (first_enabled board setting (suc m) ps) ≡ Some (m + suc d)
    by_test ih true h = let z : 0 ≡ suc d = once 0 q refl h in absurd (omega (arith, z))
    by_test ih false h = ih

reads_is : (board : RawBoard) (driver m i : ℕ) (ps : List NetPin) (p : NetPin) → slice_get ps i ≡ Some p → receives board p ≡ true →
    m + i ≢ driver → reads_beside board driver m ps ≡ true
reads_is board driver m i [] p e r other = cc e
reads_is board driver m zero (q ∷ ps) p e r other =
    let z : q ≡ p = cc e in
    let ne : m ≢ driver = λ h. other (omega (arith, h)) in
    ap (λ (b : Bool). (not b && receives board q) || reads_beside board driver (suc m) ps) (ne_eqb m driver ne)
    ∙ ap (λ (b : Bool). b || reads_beside board driver (suc m) ps) (ap (λ (x : NetPin). receives board x) z ∙ r)
reads_is board driver m (suc i) (q ∷ ps) p e r other =
    ap (λ (b : Bool). (not (m == driver) && receives board q) || b)
    (reads_is board driver (suc m) i ps p e r (λ h. other (omega (arith, h))))
    ∙ or-true (not (m == driver) && receives board q)

pub observing_is : (board : RawBoard) (setting : Enabling) → IsSafe board setting → (n : ℕ) (net : Net) (d : ℕ) →
    slice_get board.nets n ≡ Some net → ObservesBy board setting net d → observing_driver board setting net ≡ Some d
observing_is board setting safe n net d en o =
    let z : 0 + d ≡ d = omega arith in
    ap (λ (b : Bool). cond b None (observing_driver_by board net (first_enabled board setting 0 net.pins))) o.open_net
    ∙ ap (λ (x : Option ℕ). observing_driver_by board net x)
    (first_is board setting 0 d net.pins o.pin o.stands o.enabled (λ i q ei on. by_decision i q ei on (i == d) refl)
    ∙ ap (λ (x : ℕ). Some x) z)
    ∙ ap (λ (b : Bool). cond b (Some d) None)
    (reads_is board d 0 o.other net.pins o.reader o.reader_stands o.reads
    (λ h. o.another (omega (arith, h))))
  where
    by_decision : (i : ℕ) (q : NetPin) → slice_get net.pins i ≡ Some q → enables board setting q ≡ true → (b : Bool) → (i == d) ≡ b → i ≡ d
    by_decision i q ei on true h = eqb-true i d h
    by_decision i q ei on false h = absurd (safe.one n net i d q o.pin en ei o.stands (λ e. eqb-false i d h e) on o.enabled)

pub observed_by : (board : RawBoard) (setting : Enabling) (net : Net) (d : ℕ) → observing_driver board setting net ≡ Some d →
    ObservesBy board setting net d
observed_by board setting net d e =
    let w = observing_at board setting net d e in
    let r = beside board d 0 net.pins (beside_observing board setting net d e) in
    let z : 0 + r.0 ≡ r.0 = omega arith in
    record {
      pin = w.pin;
      stands = w.stands;
      enabled = w.enabled;
      open_net = w.unguarded;
      other = r.0;
      reader = r.1;
      reader_stands = r.2;
      another = λ h. eqb-false d (0 + r.0) r.4 (sym (z ∙ h));
      reads = r.3;
    }

any_pass : (board : RawBoard) (passes : List (List Ctl)) (net : Net) (x : ℕ) (pass : List Ctl) (d : ℕ) → slice_get passes x ≡ Some pass →
    observing_driver board (holds pass) net ≡ Some d → is_observed board passes net ≡ true
any_pass board passes net x pass d e w =
    any_at (λ (q : List Ctl). is_some (observing_driver board (holds q) net)) passes x pass e (ap (λ (o : Option ℕ). is_some o) w)

module _ (board : RawBoard) (rules : IsBoard board) (passes : List (List Ctl))
    (are : ArePasses board passes) (width : ℕ)
    (enough : observed_count board passes + 2 ≤ 2 ^ width) where
  abbrev sees : (x : ℕ) (pass : List Ctl) → slice_get passes x ≡ Some pass → (n : ℕ) (net : Net) (d : ℕ) →
      slice_get board.nets n ≡ Some net → ObservesBy board (holds pass) net d → Sees board pass n d
  sees x pass e n net d en o =
      record {
        net = net;
        rules = net_rules board rules n net en;
        observing = observing_is board
            (holds pass) (are.safe x pass e) n net d en o;
      }

  -- a covered net, which has a code because some pass observes it
  record Coded (n : ℕ) : Type 0 where
    net : Net
    stands : slice_get board.nets n ≡ Some net
    is_observed_net : is_observed board passes net ≡ true

  coded : (n : ℕ) → IsCovered board n → Coded n
  coded n cov =
      let s = are.nets n cov in
      let o = s.3 in
      record {
        net = o.0;
        stands = o.1;
        is_observed_net =
            any_pass board passes o.0 s.0 s.1 o.2.0 s.2
            (observing_is board (holds s.1) (are.safe s.0 s.1 s.2) n o.0 o.2.0 o.1 o.2.1);
      }

  code_fits : (n : ℕ) → Coded n → code_of_net board passes n + 2 ≤ 2 ^ width
  code_fits n c = omega (arith, count_whole (is_observed board passes) board.nets n c.net c.stands c.is_observed_net, enough)

  has : (n : ℕ) → IsCovered board n → (v : Bool) → (j : ℕ) × (j < width) × (net_code_bit board passes j n ≡ v)
  has n cov true = has_one width (code_of_net board passes n) (omega arith) (omega (arith, code_fits n (coded n cov)))
  has n cov false = has_zero width (code_of_net board passes n) (code_fits n (coded n cov))

  apart : (a b : ℕ) → a ≢ b → Coded a → Coded b → code_of_net board passes a ≢ code_of_net board passes b
  apart a b ne ca cb e = by_order (nat_lt a b) refl
    where
      by_order : (t : Bool) → nat_lt a b ≡ t → ⊥
      by_order true h =
          omega (
            arith,
            count_up (is_observed board passes) board.nets a b ca.net ca.stands ca.is_observed_net
                (ltb-true a b h),
            e,
          )
      by_order false h =
          let le : b ≤ a = ltb-false a b h in
          let lt : b < a = omega (arith, le, ne) in
          omega (arith, count_up (is_observed board passes) board.nets b a cb.net cb.stands cb.is_observed_net lt, e)

  covered_a : (a b : ℕ) → ArePaired board a b → IsCovered board a
  covered_a a b p = (p.1.0, p.1.1, p.1.2.0)

  covered_b : (a b : ℕ) → ArePaired board a b → IsCovered board b
  covered_b a b p = (p.1.0, p.1.1, p.1.2.1)

  differ : (a b : ℕ) → ArePaired board a b → (j : ℕ) × (j < width) × (net_code_bit board passes j a ≡ not (net_code_bit board passes j b))
  differ a b p =
      let ca = coded a (covered_a a b p) in
      let cb = coded b (covered_b a b p) in
      codes_differ width (code_of_net board passes a) (code_of_net board passes b)
      (omega (arith, code_fits a ca)) (omega (arith, code_fits b cb)) (apart a b p.0 ca cb)

  receiver : (n i : ℕ) → IsTestedReceiver board n i →
      (x : ℕ) × (pass : List Ctl) × (slice_get passes x ≡ Some pass) × (d : ℕ)
      × (s : Sees board pass n d) × (p : NetPin) × (slice_get s.net.pins i ≡ Some p)
      × (receives board p ≡ true) × ((d == i) ≡ false)
  receiver n i t =
      let s = are.receivers n i t in
      let r = s.3 in
      (s.0, s.1, s.2, r.2, sees s.0 s.1 s.2 n r.0 r.2 r.3 r.7, r.1, r.4, r.5, ne_eqb r.2 i r.6)

  pub planned : IsPlan board passes width
  planned = record {
    read = all_read board rules;
    safe = are.safe;
    nets = λ n cov. let s = are.nets n cov in (s.0, s.1, s.2, s.3.2.0, sees s.0 s.1 s.2 n s.3.0 s.3.2.0 s.3.1 s.3.2.1);
    drivers = λ n d t. let s = are.drivers n d t in (s.0, s.1, s.2, sees s.0 s.1 s.2 n s.3.0 d s.3.1 s.3.2);
    receivers = receiver;
    pairs = λ a b p. let s = are.pairs a b p in
        let x = s.3.0 in
        let y = s.3.1 in
        (s.0, s.1, s.2, x.2.0, sees s.0 s.1 s.2 a x.0 x.2.0 x.1 x.2.1, y.2.0, sees s.0 s.1 s.2 b y.0 y.2.0 y.1 y.2.1);
    has = has;
    differ = differ;
  }

pub observed_covered : (board : RawBoard) → IsBoard board → (passes : List (List Ctl)) → ArePasses board passes → (n : ℕ) (net : Net) →
    slice_get board.nets n ≡ Some net →
    is_observed board passes net ≡ is_covered board net
observed_covered board rules passes are n net en = by_cases (is_observed board passes net) (is_covered board net) refl refl
  where
    observed_covers : is_observed board passes net ≡ true → is_covered board net ≡ true
    observed_covers h =
        let f = any_place (λ pass. is_some (observing_driver board (holds pass) net)) passes h in
        by_driver f (observing_driver board (holds f.item) net) refl f.passes
      where
        by_driver : (f : Found (λ pass. is_some (observing_driver board (holds pass) net)) passes) (o : Option ℕ) →
            observing_driver board (holds f.item) net ≡ o → is_some o ≡ true → is_covered board net ≡ true
        by_driver f None e s = cc s
        by_driver f (Some d) e s =
            covered_true board n net rules en (
              holds f.item,
              are.safe f.place f.item f.stands,
              (net, en, (d, observed_by board (holds f.item) net d e)),
            )

    covered_observed : is_covered board net ≡ true → is_observed board passes net ≡ true
    covered_observed h =
        let s = are.nets n (covered_is board n net rules en h) in
        let o = s.3 in
        let seen = any_pass board passes o.0 s.0 s.1 o.2.0 s.2
        (observing_is board (holds s.1) (are.safe s.0 s.1 s.2) n o.0 o.2.0 o.1 o.2.1) in
        subst (λ (x : Net). is_observed board passes x ≡ true) (net_same board n net o.0 en o.1) seen

    by_cases : (a b : Bool) → is_observed board passes net ≡ a → is_covered board net ≡ b → a ≡ b
    by_cases true true e f = refl
    by_cases true false e f = absurd (both_ways (is_covered board net) f (observed_covers e))
    by_cases false true e f = absurd (both_ways (is_observed board passes net) e (covered_observed f))
    by_cases false false e f = refl
