-- Lemmas about the nets that differ in a log, and about their places among the covered nets.
use Rattle.std.proofs.Common.{◌≡◌, ◌⊎◌, inl, inr, ℕ, zero, suc, ◌+◌, ◌*◌, ◌<◌, ◌==◌, Bool, true, false, cond, not, ◌||◌, List, [], ◌∷◌, ◌++◌, length, map, Option, Some, None, is_some, Decides, refl, sym, ap, ◌∙◌, subst, arith}
use Rattle.std.specs.Prelude.{slice_get, filter, take, count_by, nat_lt, Contains}
use Rattle.std.specs.List.{enumerate_from}
use Rattle.std.proofs.lemmas.Bool.{lt-ltb, both_ways, cases_eq, ne_eqb}
use Rattle.std.proofs.lemmas.List.{append-nil}
use Rattle.std.proofs.lemmas.List.Sums.{sum_by-cons}
use Rattle.std.proofs.lemmas.Option.{get_or_from_slice_get}
use Rattle.lists.proofs.ListLemmas.{item_there}
use Rattle.board_defs.specs.declared.board.Net.{Net}
use Rattle.board_defs.specs.declared.board.RawBoard.{RawBoard}
use Rattle.board_defs.specs.declared.board.Ctl.{Ctl}
use Rattle.board_defs.specs.BoardRules.{IsBoard}
use Rattle.board_defs.specs.Faults.{Numbered}
use Rattle.board_defs.specs.Pins.{is_same}
use Rattle.board_defs.specs.Settings.{holds}
use Rattle.board_defs.proofs.Members.{Has, has_append, has_contains, has_left, has_right, contains_has}
use Rattle.board_defs.proofs.Ordered.{InOrder, order_append, order_pairs}
use Rattle.board_defs.proofs.Places.{all_from, any_at}
use Rattle.tap_defs.specs.board.TestRows.{is_observed, observing_driver, code_of_net, code_bit}
use Rattle.net_pins.specs.declared.nets.NetDriver.{NetDriver}
use Rattle.net_pins.specs.declared.nets.ReaderCell.{ReaderCell}
use Rattle.net_pins.specs.Enabled.{is_read_beside}
use Rattle.plan_tables.specs.declared.tables.PlanTables.{PlanTables}
use Rattle.scan_planner.specs.Plans.{IsPlanOf}
use Rattle.response_log.specs.LogRows.{bit_in}
use Rattle.fault_sim.specs.Effects.{driver_in, place_of_driver, plan_readers, code_in}
use Rattle.fault_sim.specs.declared.effect.Effect.TheVariants.{Plain}
use Rattle.fault_sim.specs.Fits.{cell_shows, ShowBy, NetShows, ShowsOn, ShowsAll}
use Rattle.fault_sim.specs.inner.Tested.{coded_nets}
use Rattle.fault_sim.specs.Suspects.{AreDiffering}
use Rattle.fault_sim.specs.inner.Suspects.{covered_place}
use Rattle.fault_sim.proofs.FeedLemmas.{observing_is}
use Rattle.fault_sim.proofs.TestedLemmas.{filter_numbers, unguarded_by}

module _ (board : RawBoard) (plan : PlanTables) (log : List (List Bool)) where
  abbrev Expected : ℕ → Type 0
  Expected n = ShowsOn board plan None log n

  -- `nets` are the nets below `count` that differ, in net order
  pub record DifferBelow (count : ℕ) (nets : List ℕ) : Type 0 where
    pub rising : InOrder (λ (a b : ℕ). a < b) nets
    pub each : (n : ℕ) → Has nets n → (n < count) × (Expected n → ⊥)
    pub others : (n : ℕ) → n < count → Has nets n ⊎ Expected n

  pub differ_none : DifferBelow 0 []
  differ_none = record { rising = tt; each = λ n has. absurd has; others = λ n less. absurd (omega (arith, less)) }

  -- One step of a walk over the nets: net `count` is appended if it differs, that is, if `shown` is false.
  pub differ_more : (count : ℕ) (nets : List ℕ) (shown : Bool) → Decides shown (Expected count)
      → DifferBelow count nets → DifferBelow (count + 1) (nets ++ cond (not shown) (count ∷ []) [])
  differ_more count nets true decides below = subst (λ (l : List ℕ). DifferBelow (count + 1) l) (sym (append-nil nets)) (record {
    rising = below.rising;
    each = λ n has. let e = below.each n has in (omega (arith, e.0), e.1);
    others = λ n less. by_net n less (cases_eq n count);
  })
    where
      by_net : (n : ℕ) → n < count + 1 → (n ≡ count) ⊎ (n ≡ count → ⊥) → Has nets n ⊎ Expected n
      by_net n less (inl same) = inr (subst Expected (sym same) (decides.0 refl))
      by_net n less (inr differ) = below.others n (lower differ)
        where
          lower : (n ≡ count → ⊥) → n < count
          lower ne = grind arith
  differ_more count nets false decides below = record {
    rising = order_append (λ (a b : ℕ). a < b) nets (count ∷ []) below.rising (λ m none. absurd none, tt) last_above;
    each = λ n has. by_part n (has_append nets (count ∷ []) n has);
    others = λ n less. by_net n less (cases_eq n count);
  }
    where
      last_above : (a b : ℕ) → Has nets a → Has (count ∷ []) b → a < b
      last_above a b has (inl same) = omega (arith, (below.each a has).0, same)
      last_above a b has (inr none) = absurd none

      by_part : (n : ℕ) → Has nets n ⊎ Has (count ∷ []) n → (n < count + 1) × (Expected n → ⊥)
      by_part n (inl has) = let e = below.each n has in (omega (arith, e.0), e.1)
      by_part n (inr (inl same)) = (
        omega (arith, same),
        λ shows. let bad : false ≡ true = decides.1 (subst Expected (sym same) shows) in
            cc bad,
      )
      by_part n (inr (inr none)) = absurd none

      by_net : (n : ℕ) → n < count + 1 → (n ≡ count) ⊎ (n ≡ count → ⊥) → Has (nets ++ count ∷ []) n ⊎ Expected n
      by_net n less (inl same) = inl (has_right nets (count ∷ []) n (inl (sym same)))
      by_net n less (inr differ) = by_earlier (below.others n (lower differ))
        where
          lower : (n ≡ count → ⊥) → n < count
          lower ne = grind arith

          by_earlier : Has nets n ⊎ Expected n → Has (nets ++ count ∷ []) n ⊎ Expected n
          by_earlier (inl has) = inl (has_left nets (count ∷ []) n has)
          by_earlier (inr shows) = inr shows

  pub differ_all : (count : ℕ) (nets : List ℕ) → count ≡ length board.nets → DifferBelow count nets → AreDiffering board plan log nets
  differ_all count nets all below = record {
    rising = order_pairs (λ (a b : ℕ). a < b) nets below.rising;
    others = λ n within. by_found n (below.others n (omega (arith, within, all)));
    exactly = λ n. (to n, from n);
  }
    where
      by_found : (n : ℕ) → Has nets n ⊎ Expected n → Contains nets n ⊎ Expected n
      by_found n (inl has) = inl (has_contains nets n has)
      by_found n (inr shows) = inr shows

      to : (n : ℕ) → Contains nets n → (n < length board.nets) × (Expected n → ⊥)
      to n h = let e = below.each n (contains_has nets n h) in (omega (arith, e.0, all), e.1)

      from : (n : ℕ) → ((n < length board.nets) × (Expected n → ⊥)) → Contains nets n
      from n (within, hidden) = by_hidden (below.others n (omega (arith, within, all)))
        where
          by_hidden : Has nets n ⊎ Expected n → Contains nets n
          by_hidden (inl has) = has_contains nets n has
          by_hidden (inr shows) = absurd (hidden shows)

not_among : {P : Type 0} (n : ℕ) (nets : List ℕ) → length nets ≡ 0 → Contains nets n ⊎ P → P
not_among n [] e (inl has) = absurd (contains_has [] n has)
not_among n [] e (inr p) = p
not_among n (m ∷ nets) e s = absurd (omega (arith, e))

-- P is any statement that holds if and only if the log shows the expected bits on every net. It holds if and only if no net differs.
pub none_decides : (board : RawBoard) (plan : PlanTables) (log : List (List Bool)) (nets : List ℕ)
    → AreDiffering board plan log nets → (P : Type 0) → (P → ShowsAll board plan None log)
    → (ShowsAll board plan None log → P) → (r : Bool) → r ≡ (length nets == 0) → Decides r P
none_decides board plan log [] differ P to back r is =
    (λ e. back (λ x less n within. not_among n [] refl (differ.others n within) x less), λ p. is)
none_decides board plan log (n ∷ nets) differ P to back r is = (
  λ e. absurd (both_ways r (is ∙ ne_eqb (length (n ∷ nets)) 0 (λ z. omega (arith, z))) e),
  λ p. let d = (differ.exactly n).0 (has_contains (n ∷ nets) n (inl refl)) in
      absurd (d.1 (λ x less. to p x less n d.0)),
)

-- if net n satisfies g, its index in the filtered list is the number of earlier nets that satisfy g; net n
-- has the number a + n
place_in_filter : (g : Net → Bool) (a : ℕ) (nets : List Net) (n : ℕ) (net : Net) → slice_get nets n ≡ Some net → g net ≡ true →
    slice_get
    (map (λ (m : Numbered). m.0) (filter (λ (m : Numbered). g m.1) (enumerate_from a nets)))
    (count_by g (take n nets)) ≡ Some (a + n)
place_in_filter g a [] n net e on = cc e
place_in_filter g a (v ∷ nets) zero net e on =
    let same : v ≡ net = cc e in
    let z : a ≡ a + 0 = omega arith in
    ap
    (λ (b : Bool). slice_get
    (map (λ (m : Numbered). m.0)
    (cond b ((a, v) ∷ filter (λ (m : Numbered). g m.1) (enumerate_from (a + 1) nets))
    (filter (λ (m : Numbered). g m.1) (enumerate_from (a + 1) nets)))) 0) (ap g same ∙ on)
    ∙ ap (λ (i : ℕ). Some i) z
place_in_filter g a (v ∷ nets) (suc n) net e on =
    ap (λ (i : ℕ). slice_get (map (λ (m : Numbered). m.0) (cond (g v) ((a, v) ∷ rest) rest)) i)
    (sum_by-cons (λ (y : Net). cond (g y) 1 0) v (take n nets))
    ∙ by_test (g v)
    ∙ place_in_filter g (a + 1) nets n net e on
    ∙ ap (λ (i : ℕ). Some i) next
  where
    rest : List Numbered
    rest = filter (λ (m : Numbered). g m.1) (enumerate_from (a + 1) nets)

    next : a + 1 + n ≡ a + suc n
    next = omega arith

    by_test : (b : Bool)
        → slice_get (map (λ (m : Numbered). m.0) (cond b ((a, v) ∷ rest) rest))
        (cond b 1 0 + count_by g (take n nets))
        ≡ slice_get (map (λ (m : Numbered). m.0) rest) (count_by g (take n nets))
    by_test true =
        let one : 1 + count_by g (take n nets) ≡ suc (count_by g (take n nets)) = omega arith in
        ap (λ (i : ℕ). slice_get (a ∷ map (λ (m : Numbered). m.0) rest) i) one
    by_test false =
        let none : 0 + count_by g (take n nets) ≡ count_by g (take n nets) = omega arith in
        ap (λ (i : ℕ). slice_get (map (λ (m : Numbered). m.0) rest) i) none

module _ (board : RawBoard) (rules : IsBoard board) (plan : PlanTables) (p : IsPlanOf board plan) (log : List (List Bool)) where
  -- Let no pass observe net n. If a pass enables a driver on the net, all compared cells of the net read the driver's pin, and such cells
  -- are not checked. So every log shows the expected bits on net n.
  unobserved_shows : (n : ℕ) (net : Net) → slice_get board.nets n ≡ Some net
      → is_observed board plan.passes net ≡ false → ShowsOn board plan None log n
  unobserved_shows n net is_net off x less =
      let pass = item_there plan.passes x less in
      subst (λ (q : List Ctl). NetShows board plan None log (x * plan.width) q n)
      (sym (get_or_from_slice_get plan.passes x (pass.0) [] pass.1))
      (by_driver (pass.0) pass.1 (driver_in plan (pass.0) n) refl)
    where
      none_beside : (d : NetDriver) (readers : List ReaderCell) → is_read_beside readers d ≡ false
          → (i : ℕ) (r : ReaderCell) → slice_get readers i ≡ Some r → (r.place == d.place) ≡ true
      none_beside d readers e i r at = by_test (r.place == d.place) refl
        where
          by_test : (b : Bool) → (r.place == d.place) ≡ b → b ≡ true
          by_test true q = refl
          by_test false q =
              absurd
              (both_ways (is_read_beside readers d) e
              (any_at (λ (y : ReaderCell). not (y.place == d.place)) readers i r at (ap not q)))

      by_driver : (pass : List Ctl) → slice_get plan.passes x ≡ Some pass → (o : Option NetDriver) → driver_in plan pass n ≡ o →
          ShowBy log (x * plan.width) plan.width (code_in plan n) (plan_readers plan n) Plain (place_of_driver o)
      by_driver pass stands None e = tt
      by_driver pass stands (Some d) e = λ j less.
          all_from (cell_shows log (x * plan.width + j) d.place Plain j (code_bit (code_in plan n) j)) (plan_readers plan n)
          (λ i r at. ap
          (λ (b : Bool). b
          || is_same (bit_in log (x * plan.width + j) r.position)
          (code_bit (code_in plan n) j)) (none_beside d (plan_readers plan n) beside i r at))
        where
          beside : is_read_beside (plan_readers plan n) d ≡ false
          beside = by_test (is_read_beside (plan_readers plan n) d) refl
            where
              by_test : (b : Bool) → is_read_beside (plan_readers plan n) d ≡ b → b ≡ false
              by_test false q = refl
              by_test true q =
                  let observing : observing_driver board (holds pass) net ≡ Some d.place =
                  observing_is board rules plan p n net is_net x pass stands
                  (unguarded_by board rules plan p n net is_net pass d e) d e
                  ∙ ap (λ (b : Bool). cond b (Some d.place) None) q in
                  absurd (both_ways (is_observed board plan.passes net) off
                  (any_at (λ (v : List Ctl). is_some (observing_driver board (holds v) net))
                  plan.passes x pass stands (ap (λ (o : Option ℕ). is_some o) observing)))

  pub differing_observed : (n : ℕ) (net : Net) → slice_get board.nets n ≡ Some net
      → (ShowsOn board plan None log n → ⊥) → is_observed board plan.passes net ≡ true
  differing_observed n net is_net hidden = by_test (is_observed board plan.passes net) refl
    where
      by_test : (b : Bool) → is_observed board plan.passes net ≡ b → b ≡ true
      by_test true e = refl
      by_test false e = absurd (hidden (unobserved_shows n net is_net e))

  -- the nets that have a code are the nets that some pass observes
  coded_observed : coded_nets plan (length board.nets)
      ≡ map (λ (m : Numbered). m.0)
      (filter (λ (m : Numbered). is_observed board plan.passes m.1) (enumerate_from 0 board.nets))
  coded_observed =
      filter_numbers (λ n. nat_lt 0 (code_in plan n)) (is_observed board plan.passes) 0 board.nets
      (λ k net e. let z : 0 + k ≡ k = omega arith in
      subst (λ (i : ℕ). nat_lt 0 (code_in plan i) ≡ is_observed board plan.passes net) (sym z)
      (each k net e))
    where
      above : (b : Bool) (k : ℕ) → nat_lt 0 (cond b (suc k) 0) ≡ b
      above true k = lt-ltb 0 (suc k) (omega arith)
      above false k = refl

      each : (n : ℕ) (net : Net) → slice_get board.nets n ≡ Some net → nat_lt 0 (code_in plan n) ≡ is_observed board plan.passes net
      each n net e = ap (λ (k : ℕ). nat_lt 0 k) (p.codes_are n net e) ∙ above (is_observed board plan.passes net) _

  module _ (n : ℕ) (net : Net) (is_net : slice_get board.nets n ≡ Some net) (observed : is_observed board plan.passes net ≡ true) where
    place_is : covered_place plan n ≡ count_by (is_observed board plan.passes) (take n board.nets)
    place_is =
        let code : code_in plan n ≡ suc (count_by (is_observed board plan.passes) (take n board.nets)) =
        p.codes_are n net is_net ∙ ap (λ (b : Bool). cond b (code_of_net board plan.passes n) 0) observed in
        omega (arith, code)

    pub covered_there : slice_get (coded_nets plan (length board.nets)) (covered_place plan n) ≡ Some n
    covered_there =
        let z : 0 + n ≡ n = omega arith in
        ap (λ (l : List ℕ). slice_get l (covered_place plan n)) coded_observed
        ∙ ap
        (λ (i : ℕ). slice_get
        (map (λ (m : Numbered). m.0)
        (filter (λ (m : Numbered). is_observed board plan.passes m.1)
        (enumerate_from 0 board.nets))) i) place_is
        ∙ place_in_filter (is_observed board plan.passes) 0 board.nets n net is_net observed
        ∙ ap (λ (i : ℕ). Some i) z
