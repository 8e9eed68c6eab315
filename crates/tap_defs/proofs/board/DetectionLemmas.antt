-- Proof that some scan of a test is wrong (`IsWrong`) under every nonempty observable fault set.
use Rattle.std.proofs.Common.{◌≡◌, ◌≢◌, ℕ, zero, suc, ◌+◌, ◌<◌, ◌==◌, Bool, true, false, not, ◌⊎◌, inl, inr, List, [], ◌∷◌, ◌++◌, Option, Some, None, refl, sym, ◌∙◌, ap, subst, arith}
use Rattle.std.specs.Prelude.{slice_get, unwrap_or}
use Rattle.board_defs.specs.declared.board.PinAt.{PinAt}
use Rattle.board_defs.specs.declared.board.NetPin.{NetPin}
use Rattle.board_defs.specs.declared.board.Net.{Net}
use Rattle.board_defs.specs.declared.board.RawBoard.{RawBoard}
use Rattle.board_defs.specs.declared.board.Ctl.{Ctl}
use Rattle.board_defs.specs.Pins.{receives}
use Rattle.board_defs.specs.Settings.{holds, IsSafe}
use Rattle.board_defs.specs.Coverage.{IsCovered, ArePaired, IsTestedDriver, IsTestedReceiver}
use Rattle.tap_defs.specs.chain.Chain.{ChainPart, pin_states}
use Rattle.tap_defs.specs.board.FaultSet.{FaultSet, IsFaultSet, IsObservable, IsNonempty, some_stuck, some_open, some_short}
use Rattle.tap_defs.specs.board.NetBits.{live_where, net_bit, net_bit_by, feeding, bit_or_else}
use Rattle.tap_defs.specs.chain.Run.{Choice}
use Rattle.tap_defs.specs.board.TestRows.{TestRow, code_row, quiet_row, observing_driver, net_code_bit}
use Rattle.tap_defs.specs.board.BoardScans.{RowScan, pass_scans, row_scans}
use Rattle.std.proofs.lemmas.Bool.{both_ways, eq-eqb}
use Rattle.tap_defs.proofs.board.InTestLemmas.{InTest, shifted_row, IsWrong, SomeWrong}
use Rattle.tap_defs.proofs.board.FeedingLemmas.{NetRules, dead_at, carries, cut_bit}
use Rattle.tap_defs.proofs.board.ReadingLemmas.{AllRead, compared, compared_at}
use Rattle.tap_defs.proofs.board.WrongLemmas.{Compared, IsDead, wrong_if_constant, wrong_if_shorted}

-- every scan that compares this row, while the row is in the latches, is wrong
abbrev pub WrongAt : RawBoard → FaultSet → TestRow → Type 0
WrongAt board faults row =
    (before now : TestRow)
    → IsWrong board faults (shifted_row board (record { now = row; before = before }))
    (record { now = now; before = row })

in_append : (board : RawBoard) (faults : FaultSet) (row : List (List Bool)) (ts us : List RowScan) → SomeWrong board faults row ts →
    SomeWrong board faults row (ts ++ us)
in_append board faults row [] us w = absurd w
in_append board faults row (t ∷ ts) us (inl w) = inl w
in_append board faults row (t ∷ ts) us (inr w) = inr (in_append board faults (shifted_row board t) ts us w)

after_append : (board : RawBoard) (faults : FaultSet) (row : List (List Bool)) (ts us : List RowScan) →
    ((r : List (List Bool)) → SomeWrong board faults r us) → SomeWrong board faults row (ts ++ us)
after_append board faults row [] us w = w row
after_append board faults row (t ∷ ts) us w = inr (after_append board faults (shifted_row board t) ts us w)

next_wrong : (board : RawBoard) (faults : FaultSet) (rows : ℕ → TestRow) (more j : ℕ) (before : TestRow) → WrongAt board faults (rows j) →
    SomeWrong board faults (shifted_row board (record { now = rows j; before = before })) (pass_scans rows more (suc j) (rows j))
next_wrong board faults rows zero j before w = inl (w before quiet_row)
next_wrong board faults rows (suc more) j before w = inl (w before (rows (suc j)))

in_pass : (board : RawBoard) (faults : FaultSet) (rows : ℕ → TestRow) (more i m j : ℕ) (before : TestRow) (row : List (List Bool)) →
    m + i ≡ j → i < more → WrongAt board faults (rows j) → SomeWrong board faults row (pass_scans rows more m before)
in_pass board faults rows zero i m j before row e h w = absurd (omega (arith, h))
in_pass board faults rows (suc more) zero m j before row e h w =
    let z : j ≡ m = omega (arith, e) in
    inr (next_wrong board faults rows more m before (subst (λ (x : ℕ). WrongAt board faults (rows x)) z w))
in_pass board faults rows (suc more) (suc i) m j before row e h w =
    inr
    (in_pass board faults rows more i (suc m) j (rows m)
    (shifted_row board (record { now = rows m; before = before })) (omega (arith, e))
    (omega (arith, h)) w)

pub in_passes : (board : RawBoard) (faults : FaultSet) (rows : List Ctl → ℕ → TestRow) (width : ℕ)
    (ps : List (List Ctl)) (x : ℕ) (p : List Ctl) (j : ℕ) (row : List (List Bool)) →
    slice_get ps x ≡ Some p → j < width → WrongAt board faults (rows p j) → SomeWrong board faults row (row_scans rows width ps)
in_passes board faults rows width [] x p j row e h w = cc e
in_passes board faults rows width (q ∷ ps) zero p j row e h w =
    let z : p ≡ q = cc e in
    in_append board faults row (pass_scans (rows q) width 0 quiet_row) (row_scans rows width ps)
    (in_pass board faults (rows q) width j 0 j quiet_row row (omega arith) h
    (subst (λ (y : List Ctl). WrongAt board faults (rows y j)) z w))
in_passes board faults rows width (q ∷ ps) (suc x) p j row e h w =
    after_append board faults row (pass_scans (rows q) width 0 quiet_row) (row_scans rows width ps)
    (λ r. in_passes board faults rows width ps x p j r e h w)

-- the pass observes net `n` by the driver at place `d`
pub record Sees (board : RawBoard) (pass : List Ctl) (n d : ℕ) : Type 0 where
  pub net : Net
  pub rules : NetRules board n net
  pub observing : observing_driver board (holds pass) net ≡ Some d

-- The conditions under which a test of these passes detects faults. In each device, a boundary cell has at
-- most one reading entry, and each entry belongs to a boundary cell (`AllRead`). The passes are safe. They
-- observe every covered net, tested driver, tested receiver and pair of paired nets. The code of each covered
-- net has a 0 bit and a 1 bit, and the codes of paired nets differ.
pub record IsPlan (board : RawBoard) (passes : List (List Ctl)) (width : ℕ) : Type 0 where
  pub read : AllRead board
  pub safe : (x : ℕ) (pass : List Ctl) → slice_get passes x ≡ Some pass → IsSafe board (holds pass)
  pub nets : (n : ℕ) → IsCovered board n → (x : ℕ) × (pass : List Ctl) × (slice_get passes x ≡ Some pass) × (d : ℕ) × Sees board pass n d
  pub drivers : (n d : ℕ) → IsTestedDriver board n d → (x : ℕ) × (pass : List Ctl) × (slice_get passes x ≡ Some pass) × Sees board pass n d
  pub receivers : (n i : ℕ) → IsTestedReceiver board n i →
      (x : ℕ) × (pass : List Ctl) × (slice_get passes x ≡ Some pass) × (d : ℕ)
      × (s : Sees board pass n d) × (p : NetPin) × (slice_get s.net.pins i ≡ Some p)
      × (receives board p ≡ true) × ((d == i) ≡ false)
  pub pairs : (a b : ℕ) → ArePaired board a b →
      (x : ℕ) × (pass : List Ctl) × (slice_get passes x ≡ Some pass) × (c : ℕ) × Sees board pass a c × (d : ℕ) × Sees board pass b d
  pub has : (n : ℕ) → IsCovered board n → (v : Bool) → (j : ℕ) × (j < width) × (net_code_bit board passes j n ≡ v)
  pub differ : (a b : ℕ) → ArePaired board a b →
      (j : ℕ) × (j < width) × (net_code_bit board passes j a ≡ not (net_code_bit board passes j b))

option_cases : {P : Type 0} (o : Option Bool) → (o ≡ None → P) → ((u : Bool) → o ≡ Some u → P) → P
option_cases None a b = a refl
option_cases (Some u) a b = b u refl

short_cases : {P : Type 0} (o : Option ℕ) → (o ≡ None → P) → ((u : ℕ) → o ≡ Some u → P) → P
short_cases None a b = a refl
short_cases (Some u) a b = b u refl

module _ (board : RawBoard) (passes : List (List Ctl)) (width : ℕ)
    (plan : IsPlan board passes width) (faults : FaultSet) (row : List (List Bool)) where
  -- While a row of a pass is in the latches, the pin of a compared cell is not a live driver.
  dead : (x : ℕ) (pass : List Ctl) → slice_get passes x ≡ Some pass →
      (n d : ℕ) (s : Sees board pass n d) (j : ℕ) (c : Compared board (holds pass) n s.net) →
      IsDead board (code_row board passes pass j) (record { part = c.k; bit = c.bit })
  dead x pass is_there n d s j c before chain h =
      let same : c.driver ≡ d = some_same (sym c.observing_is ∙ s.observing) in
      let ne : c.place
      ≢ d = λ q. both_ways (c.driver == c.place) c.other
      (ap (λ (y : ℕ). c.driver == y) (q ∙ sym same) ∙ eq-eqb c.driver c.driver refl) in
      sym (ap (λ (o : Option PinAt). live_where board (pin_states chain) o) c.pin_at)
      ∙ dead_at board (code_row board passes pass j) (plan.safe x pass is_there) n s.net s.rules d
      s.observing before chain h c.place c.pin c.pin_is ne
    where
      some_same : {y z : ℕ} → ◌≡◌ {A = Option ℕ} (Some y) (Some z) → y ≡ z
      some_same e = cc e

  abbrev Reads : List Ctl → (n d : ℕ) (net : Net) (place k cell : ℕ) → Bool → Type 0
  Reads pass n d net place k cell u =
      (j : ℕ) (before : TestRow) (free : Choice) (chain : List ChainPart)
      → InTest board
      (shifted_row board (record { now = code_row board passes pass j; before = before }))
      chain →
      unwrap_or (faults.opened n place)
      (unwrap_or (net_bit board faults (pin_states chain) free.shorts n net)
      ((free.parts k).cells cell)) ≡ u

  -- A compared cell that reads the constant `u` in every row makes some scan wrong, because the code of the cell's net
  -- has the opposite bit in some row.
  constant : (x : ℕ) (pass : List Ctl) → slice_get passes x ≡ Some pass →
      (n d : ℕ) (s : Sees board pass n d) (c : Compared board (holds pass) n s.net) (u : Bool) → IsCovered board n →
      Reads pass n d s.net c.place c.k c.cell u → SomeWrong board faults row (row_scans (code_row board passes) width passes)
  constant x pass is_there n d s c u cov k =
      let j = plan.has n cov (not u) in
      in_passes board faults (code_row board passes) width passes x pass j.0 row is_there j.1
      (λ before now. wrong_if_constant board faults (code_row board passes pass j.0) before now n
      s.net c u (dead x pass is_there n d s j.0 c) (λ free chain h. k j.0 before free chain h)
      (ap (λ (b : Bool). Some b) j.2))

  opened : (x : ℕ) (pass : List Ctl) → slice_get passes x ≡ Some pass →
      (n d : ℕ) (s : Sees board pass n d) (c : Compared board (holds pass) n s.net) (u : Bool) → IsCovered board n →
      faults.opened n c.place ≡ Some u → SomeWrong board faults row (row_scans (code_row board passes) width passes)
  opened x pass is_there n d s c u cov e =
      constant x pass is_there n d s c u cov
      (λ j before free chain h. ap
      (λ (o : Option Bool). unwrap_or o
      (unwrap_or (net_bit board faults (pin_states chain) free.shorts n s.net)
      ((free.parts c.k).cells c.cell))) e)

  -- like `constant`, but for a net that has the constant `u` in every row; the pin of the compared cell may be open
  constant_net : (x : ℕ) (pass : List Ctl) → slice_get passes x ≡ Some pass →
      (n d : ℕ) (s : Sees board pass n d) (c : Compared board (holds pass) n s.net) (u : Bool) → IsCovered board n →
      ((j : ℕ) (before : TestRow) (free : Choice) (chain : List ChainPart)
      → InTest board
      (shifted_row board (record { now = code_row board passes pass j; before = before }))
      chain → net_bit board faults (pin_states chain) free.shorts n s.net ≡ Some u) →
      SomeWrong board faults row (row_scans (code_row board passes) width passes)
  constant_net x pass is_there n d s c u cov k =
      option_cases (faults.opened n c.place)
      (λ e. constant x pass is_there n d s c u cov (λ j before free chain h.
      ap
      (λ (o : Option Bool). unwrap_or o
      (unwrap_or (net_bit board faults (pin_states chain) free.shorts n s.net)
      ((free.parts c.k).cells c.cell))) e
      ∙ ap (λ (o : Option Bool). unwrap_or o ((free.parts c.k).cells c.cell)) (k j before free chain h)))
      (λ y e. opened x pass is_there n d s c y cov e)

  pub stuck : (n : ℕ) (u : Bool) → faults.stuck n ≡ Some u → IsCovered board n →
      SomeWrong board faults row (row_scans (code_row board passes) width passes)
  stuck n u e cov =
      let s = plan.nets n cov in
      constant_net s.0 s.1 s.2 n s.3 s.4 (compared board (holds s.1) n s.4.net s.3 plan.read s.4.rules s.4.observing) u cov
      (λ j before free chain h. ap
      (λ (o : Option Bool). net_bit_by board faults (pin_states chain) free.shorts n s.4.net o
      (faults.short n)) e)

  pub shorted : IsObservable board faults → (n k : ℕ) → faults.short n ≡ Some k →
      SomeWrong board faults row (row_scans (code_row board passes) width passes)
  shorted observable n k e =
      let g = observable.shorts n k e in
      let a : ℕ = g.0 in
      let b : ℕ = g.1 in
      let p = plan.pairs a b g.4 in
      let cov_a : IsCovered board a = observable.is_set.covered a k g.2 in
      let cov_b : IsCovered board b = observable.is_set.covered b k g.3 in
      let c = compared board (holds p.1) a p.4.net p.3 plan.read p.4.rules p.4.observing in
      let d = compared board (holds p.1) b p.6.net p.5 plan.read p.6.rules p.6.observing in
      let j = plan.differ a b g.4 in
      option_cases (faults.opened a c.place)
      (λ oa. option_cases (faults.opened b d.place)
      (λ ob. in_passes board faults (code_row board passes) width passes p.0 p.1 j.0 row p.2 j.1
      (λ before now. wrong_if_shorted board faults (code_row board passes p.1 j.0) before now a b k
      (net_code_bit board passes j.0 b) p.4.net p.6.net c d
      (dead p.0 p.1 p.2 a p.3 p.4 j.0 c) (dead p.0 p.1 p.2 b p.5 p.6 j.0 d) oa ob
      (not_stuck observable.is_set a k g.2) (not_stuck observable.is_set b k g.3) g.2 g.3 (ap (λ (x : Bool). Some x) j.2) refl))
      (λ y ob. opened p.0 p.1 p.2 b p.5 p.6 d y cov_b ob))
      (λ y oa. opened p.0 p.1 p.2 a p.3 p.4 c y cov_a oa)
    where
      not_stuck : IsFaultSet board faults → (x y : ℕ) → faults.short x ≡ Some y → faults.stuck x ≡ None
      not_stuck set x y q =
          option_cases (faults.stuck x) (λ z. z)
          (λ u z. let v : ◌≡◌ {A = Option ℕ} None (Some y) = sym (set.disjoint x u z) ∙ q in cc v)

  pub open_receiver : (n i : ℕ) (u : Bool) → faults.opened n i ≡ Some u → IsTestedReceiver board n i → IsCovered board n →
      SomeWrong board faults row (row_scans (code_row board passes) width passes)
  open_receiver n i u e tested cov =
      let r = plan.receivers n i tested in
      let c = compared_at board (holds r.1) n r.4.net r.3 i r.5 plan.read r.4.rules r.4.observing r.6 r.7 r.8 in
      opened r.0 r.1 r.2 n r.3 r.4 c.0 u cov (ap (λ (x : ℕ). faults.opened n x) c.1 ∙ e)

  -- If a tested driver is open, its net is stuck, in a short, or constant. Each case makes some scan wrong.
  pub open_driver : IsObservable board faults → (n d : ℕ) (u : Bool) → faults.opened n d ≡ Some u → IsTestedDriver board n d →
      IsCovered board n → SomeWrong board faults row (row_scans (code_row board passes) width passes)
  open_driver observable n d u e tested cov =
      let s = plan.drivers n d tested in
      let c = compared board (holds s.1) n s.3.net d plan.read s.3.rules s.3.observing in
      let x : Option Bool = bit_or_else s.3.net.pull (Some u) in
      option_cases (faults.stuck n)
      (λ free. short_cases (faults.short n)
      (λ alone. constant_net s.0 s.1 s.2 n d s.3 c (unwrap_or s.3.net.pull u) cov
      (λ j before choice chain h.
      ap (λ (o : Option Bool). net_bit_by board faults (pin_states chain) choice.shorts n s.3.net o (faults.short n)) free
      ∙ ap (λ (o : Option ℕ). net_bit_by board faults (pin_states chain) choice.shorts n s.3.net None o) alone
      ∙ cut_bit faults d n s.3.net.pull u (net_code_bit board passes j n) (feeding board (pin_states chain) s.3.net) e
      (carries board (code_row board passes s.1 j) (plan.safe s.0 s.1 s.2) n s.3.net s.3.rules d
      s.3.observing before chain h (net_code_bit board passes j n) refl)
      ∙ or_some s.3.net.pull u))
      (λ k q. shorted observable n k q))
      (λ y q. stuck n y q cov)
    where
      or_some : (pull : Option Bool) (u : Bool) → bit_or_else pull (Some u) ≡ Some (unwrap_or pull u)
      or_some None u = refl
      or_some (Some p) u = refl

  driver_covered : (n d : ℕ) → IsTestedDriver board n d → IsCovered board n
  driver_covered n d t = (t.0, t.1, (t.2.0, t.2.1, (d, t.2.2)))

  receiver_covered : (n i : ℕ) → IsTestedReceiver board n i → IsCovered board n
  receiver_covered n i t = (t.0, t.1, (t.2.0, t.2.3, (t.2.2, t.2.7)))

  open_pin : IsObservable board faults → (n i : ℕ) (u : Bool) → faults.opened n i ≡ Some u →
      IsTestedDriver board n i ⊎ IsTestedReceiver board n i → SomeWrong board faults row (row_scans (code_row board passes) width passes)
  open_pin o n i u e (inl t) = open_driver o n i u e t (driver_covered n i t)
  open_pin o n i u e (inr t) = open_receiver n i u e t (receiver_covered n i t)

  pub detected : IsObservable board faults → IsNonempty faults → SomeWrong board faults row (row_scans (code_row board passes) width passes)
  detected o (some_stuck n u e) = stuck n u e (o.stuck n u e)
  detected o (some_open n i u e) = open_pin o n i u e (o.opened n i u e)
  detected o (some_short n k e) = shorted o n k e
