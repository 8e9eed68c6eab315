-- Faults explain a log if and only if the log has the shape of the test and each compared bit in it is the bit that the
-- cell captures. The cells capture while the row of the previous scan is in the latches.
use Rattle.std.proofs.Common.{◌≡◌, ◌↔◌, ℕ, zero, suc, Bool, true, false, cond, ◌⊎◌, inl, inr, List, [], ◌∷◌, ◌++◌, length, map, filter, Option, Some, None, refl, sym, ◌∙◌, ap, subst, arith}
use Rattle.std.specs.Prelude.{slice_get, is_some, option_map, unwrap_or, count_by}
use Rattle.std.specs.List.{AllByRecursion}
use Rattle.std.proofs.lemmas.Bool.{and_parts, and_from, both_ways}
use Rattle.std.proofs.lemmas.List.{length-map}
use Rattle.std.proofs.lemmas.List.Elements.{All-from_recursion}
use Rattle.std.proofs.lemmas.Option.{slice_get-map}
use Rattle.board_defs.specs.declared.board.Ctl.{Ctl}
use Rattle.board_defs.specs.declared.board.PartKind.{PartKind}
use Rattle.board_defs.specs.declared.board.Part.{Part}
use Rattle.board_defs.specs.declared.board.RawBoard.{RawBoard}
use Rattle.tap_defs.specs.chain.Part.{PinState}
use Rattle.tap_defs.specs.board.NetBits.{captured_by}
use Rattle.board_defs.specs.BoardRules.{IsBoard}
use Rattle.board_defs.specs.Pins.{data_bits}
use Rattle.board_defs.specs.Settings.{IsSafe, holds}
use Rattle.board_defs.specs.Passes.{passes_of}
use Rattle.board_defs.proofs.PassesReach.{passes_kept}
use Rattle.tap_defs.specs.chain.Run.{Choice, bit_passes}
use Rattle.tap_defs.specs.chain.Scan.{ScanBit, Scan, joined, compares}
use Rattle.tap_defs.specs.chain.Transport.{scan_passes}
use Rattle.tap_defs.specs.board.FaultSet.{FaultSet, IsFaultSet}
use Rattle.tap_defs.specs.board.OnBoard.{board_wiring}
use Rattle.tap_defs.specs.board.TestRows.{TestRow, quiet_row, code_row, code_width, observed_count}
use Rattle.tap_defs.specs.board.BoardScans.{RowScan, row_bits, scan_of_row, pass_scans, row_scans, is_walked, walk_row, walk_row_scans, svf_row_scans}
use Rattle.tap_defs.specs.board.Explaining.{uncompared, bits_by_log, scans_by_log, compared_scans, HasShape, ExplainedBy, Follow, AreInTurn, IsCapturedBy, AgreeOn}
use Rattle.tap_defs.specs.board.RowCaptures.{row_states, registers, row_captured, CapturesPass, AgreeAt, AgreeWhereCompared, NoOpenShorted}
use Rattle.tap_defs.proofs.chain.ListLemmas.{length-joined, length-filled}
use Rattle.tap_defs.proofs.board.RowScanLemmas.{bits_fit, FitsPins}
use Rattle.tap_defs.proofs.board.EntryLemmas.{quiet_silent}
use Rattle.tap_defs.proofs.board.CaptureLemmas.{silent_compares, log_captured}
use Rattle.tap_defs.proofs.board.LogLemmas.{rows_counted, length-row_bits}
use Rattle.tap_defs.proofs.board.OneResponseLemmas.{one_response}

uncompared_passes : (bits : List ScanBit) (cap : List Bool) → scan_passes (uncompared bits) cap ≡ true
uncompared_passes [] cap = refl
uncompared_passes (b ∷ bits) [] = refl
uncompared_passes (b ∷ bits) (c ∷ cap) = uncompared_passes bits cap

at_bit : (o : Option Bool) (r c : Bool) → bit_passes (cond (is_some o) (Some r) None) c ≡ true → AgreeAt o r c
at_bit None r c h = tt
at_bit (Some v) true true h = refl
at_bit (Some v) true false h = cc h
at_bit (Some v) false true h = cc h
at_bit (Some v) false false h = refl

from_bit : (o : Option Bool) (r c : Bool) → AgreeAt o r c → bit_passes (cond (is_some o) (Some r) None) c ≡ true
from_bit None r c h = refl
from_bit (Some v) true true h = refl
from_bit (Some v) true false h = cc h
from_bit (Some v) false true h = cc h
from_bit (Some v) false false h = refl

agrees : (bits : List ScanBit) (row cap : List Bool) → scan_passes (bits_by_log bits row) cap ≡ true → AgreeWhereCompared bits row cap
agrees [] row cap h = tt
agrees (b ∷ bits) [] cap h = tt
agrees (b ∷ bits) (r ∷ row) [] h = tt
agrees (b ∷ bits) (r ∷ row) (c ∷ cap) h =
    let p = and_parts (bit_passes (cond (is_some b.expect) (Some r) None) c) (scan_passes (bits_by_log bits row) cap) h in
    (at_bit b.expect r c p.0, agrees bits row cap p.1)

passes_by : (bits : List ScanBit) (row cap : List Bool) → AgreeWhereCompared bits row cap → scan_passes (bits_by_log bits row) cap ≡ true
passes_by [] row cap h = refl
passes_by (b ∷ bits) [] cap h = uncompared_passes (b ∷ bits) cap
passes_by (b ∷ bits) (r ∷ row) [] h = refl
passes_by (b ∷ bits) (r ∷ row) (c ∷ cap) h =
    and_from (bit_passes (cond (is_some b.expect) (Some r) None) c)
    (scan_passes (bits_by_log bits row) cap) (from_bit b.expect r c h.0)
    (passes_by bits row cap h.1)

agree_at_same : (o : Option Bool) (x y z : Bool) → AgreeAt o x z → AgreeAt o y z → AgreeAt o x y
agree_at_same None x y z h k = tt
agree_at_same (Some v) x y z h k = h ∙ sym k

agree_same : (bits : List ScanBit) (xs ys zs : List Bool) → length bits ≡ length zs
    → AgreeWhereCompared bits xs zs → AgreeWhereCompared bits ys zs → AgreeWhereCompared bits xs ys
agree_same [] xs ys zs l h k = tt
agree_same (b ∷ bits) [] ys zs l h k = tt
agree_same (b ∷ bits) (x ∷ xs) [] zs l h k = tt
agree_same (b ∷ bits) (x ∷ xs) (y ∷ ys) [] l h k = absurd (omega (arith, l))
agree_same (b ∷ bits) (x ∷ xs) (y ∷ ys) (z ∷ zs) l h k =
    (agree_at_same b.expect x y z h.0 k.0, agree_same bits xs ys zs (omega (arith, l)) h.1 k.1)

module _ (board : RawBoard) (faults : FaultSet) where
  abbrev Captures : RowScan → List Bool → Type 0
  Captures t row = (choice : Choice) → AgreeWhereCompared (joined (row_bits board t)) row (row_captured board faults t.before choice)

  -- for every choice of the free bits, each row of the log agrees with the captured bits wherever the row's scan compares a bit
  abbrev Captured : List RowScan → List (List Bool) → Type 0
  Captured [] log = Unit {0}
  Captured (t ∷ ts) [] = Unit {0}
  Captured (t ∷ ts) (row ∷ log) = Captures t row × Captured ts log

  no_rows : (ts : List RowScan) → Captured ts []
  no_rows [] = tt
  no_rows (t ∷ ts) = tt

  abbrev statement : RowScan → Scan
  statement t = scan_of_row board t

  split : (ts : List RowScan) (row : TestRow) (log : List (List Bool)) → Follow row ts →
      CapturesPass board faults row ts (scans_by_log (map statement ts) log) → Captured (compared_scans board ts) log
  split [] row log follow h = tt
  split (t ∷ ts) row [] follow h = no_rows (compared_scans board (t ∷ ts))
  split (t ∷ ts) row (r ∷ log) follow h = by_test (λ more. split ts t.now more follow.1) (compares (joined (row_bits board t))) h
    where
      by_test :
          ((more : List (List Bool))
          → CapturesPass board faults t.now ts (scans_by_log (map statement ts) more)
          → Captured (compared_scans board ts) more) → (b : Bool) →
          CapturesPass board faults row (t ∷ ts)
          (cond b
          (record { ir = false; bits = bits_by_log (joined (row_bits board t)) r } ∷
          scans_by_log (map statement ts) log)
          (record { ir = false; bits = uncompared (joined (row_bits board t)) } ∷ scans_by_log (map statement ts) (r ∷ log))) →
          Captured (cond b (t ∷ compared_scans board ts) (compared_scans board ts)) (r ∷ log)
      by_test ih true k = (
        λ choice. agrees (joined (row_bits board t)) r (row_captured board faults t.before choice)
            (subst
            (λ (before : TestRow). scan_passes (bits_by_log (joined (row_bits board t)) r)
            (row_captured board faults before choice) ≡ true) (sym follow.0) (k.0 choice)),
        ih log k.1,
      )
      by_test ih false k = ih (r ∷ log) k.1

  merge : (ts : List RowScan) (row : TestRow) (log : List (List Bool)) → Follow row ts → Captured (compared_scans board ts) log →
      CapturesPass board faults row ts (scans_by_log (map statement ts) log)
  merge [] row log follow h = tt
  merge (t ∷ ts) row [] follow h = (
    λ choice. uncompared_passes (joined (row_bits board t))
        (row_captured board faults row choice),
    merge ts t.now [] follow.1 (no_rows (compared_scans board ts)),
  )
  merge (t ∷ ts) row (r ∷ log) follow h = by_test (λ more. merge ts t.now more follow.1) (compares (joined (row_bits board t))) h
    where
      by_test :
          ((more : List (List Bool)) → Captured (compared_scans board ts) more
          → CapturesPass board faults t.now ts (scans_by_log (map statement ts) more)) → (b : Bool)
          →
          Captured (cond b (t ∷ compared_scans board ts) (compared_scans board ts)) (r ∷ log) →
          CapturesPass board faults row (t ∷ ts)
          (cond b
          (record { ir = false; bits = bits_by_log (joined (row_bits board t)) r } ∷
          scans_by_log (map statement ts) log)
          (record { ir = false; bits = uncompared (joined (row_bits board t)) } ∷ scans_by_log (map statement ts) (r ∷ log)))
      by_test ih true k = (
        λ choice. subst
            (λ (before : TestRow). scan_passes (bits_by_log (joined (row_bits board t)) r)
            (row_captured board faults before choice) ≡ true) follow.0
            (passes_by (joined (row_bits board t)) r (row_captured board faults t.before choice) (k.0 choice)),
        ih log k.1,
      )
      by_test ih false k = (λ choice. uncompared_passes (joined (row_bits board t)) (row_captured board faults row choice), ih (r ∷ log) k)

  abbrev Each : List RowScan → List (List Bool) → Type 0
  Each cs log =
      (x : ℕ) (scan : RowScan) (logged : List Bool) → slice_get cs x ≡ Some scan
      → slice_get log x ≡ Some logged → Captures scan logged

  each_of : (cs : List RowScan) (log : List (List Bool)) → Captured cs log → Each cs log
  each_of [] log h x scan logged e f = cc e
  each_of (t ∷ cs) [] h x scan logged e f = cc f
  each_of (t ∷ cs) (r ∷ log) h zero scan logged e f =
      let same : t ≡ scan = cc e in
      let row : r ≡ logged = cc f in
      subst (λ (u : RowScan). Captures u logged) same (subst (λ (l : List Bool). Captures t l) row h.0)
  each_of (t ∷ cs) (r ∷ log) h (suc x) scan logged e f = each_of cs log h.1 x scan logged e f

  of_each : (cs : List RowScan) (log : List (List Bool)) → Each cs log → Captured cs log
  of_each [] log h = tt
  of_each (t ∷ cs) [] h = tt
  of_each (t ∷ cs) (r ∷ log) h = (h 0 t r refl refl, of_each cs log (λ x. h (suc x)))

wiring_fits : (board : RawBoard) (faults : FaultSet) (states : List PinState) (choice : Choice)
    → FitsPins (board_wiring board faults states choice) board.chain
wiring_fits board faults states choice k p device e d =
    ap
    (λ (o : Option Part). length
    (unwrap_or
    (option_map
    (λ q. captured_by board faults states choice.shorts (choice.parts k).cells k
    q.kind) o) [])) e
    ∙ ap (λ (kind : PartKind). length (captured_by board faults states choice.shorts (choice.parts k).cells k kind)) d
    ∙ length-filled device.boundary _

module _ (board : RawBoard) (rules : IsBoard board) (faults : FaultSet) (scans : List RowScan) (follow : Follow quiet_row scans) where
  captured_rows : (log : List (List Bool)) → ExplainedBy board faults scans log → IsCapturedBy board faults scans log
  captured_rows log h x scan logged choice e f =
      each_of board faults (compared_scans board scans) log
      (split board faults scans quiet_row log follow ((log_captured board rules faults scans log).0 h.passes)) x scan logged e f choice

  explained_rows : (log : List (List Bool)) → HasShape board scans log
      → IsCapturedBy board faults scans log → ExplainedBy board faults scans log
  explained_rows log shape h = record {
    shape = shape;
    passes = (log_captured board rules faults scans log).1
        (merge board faults scans quiet_row log follow
        (of_each board faults (compared_scans board scans) log
        (λ x scan logged e f choice. h x scan logged choice e f)));
  }

  pub explained_by_rows : (log : List (List Bool))
      → ExplainedBy board faults scans log
      ↔ (HasShape board scans log × IsCapturedBy board faults scans log)
  explained_by_rows log = (λ h. (h.shape, captured_rows log h), λ h. explained_rows log h.0 h.1)

  captures_all : (t : RowScan) (choice : Choice) → length (joined (row_bits board t)) ≡ length (row_captured board faults t.before choice)
  captures_all t choice =
      length-joined (row_bits board t) (registers (board_wiring board faults (row_states board t.before) choice) board.chain)
      (bits_fit board t 0 board.chain (board_wiring board faults (row_states board t.before) choice)
      (wiring_fits board faults (row_states board t.before) choice))

  abbrev some_choice : Choice
  some_choice =
      record {
        parts = λ k. record
            { ir = λ i. false; cells = λ i. false; latches = λ i. false; tdo = false; other = false };
        shorts = λ k. false;
        tdi = false;
      }

  pub logs_agree : (log other : List (List Bool)) → ExplainedBy board faults scans log
      → ExplainedBy board faults scans other → AgreeOn board scans log other
  logs_agree log other h k x scan logged second e f g =
      agree_same (joined (row_bits board scan)) logged second
      (row_captured board faults scan.before some_choice) (captures_all scan some_choice)
      (captured_rows log h x scan logged some_choice e f) (captured_rows other k x scan second some_choice e g)

  -- If no open pin is on a shorted net and every compared row has a safe setting, the faults explain some log.
  module _ (is_set : IsFaultSet board faults) (no_open : NoOpenShorted faults)
      (safe : (x : ℕ) (scan : RowScan) → slice_get (compared_scans board scans) x ≡ Some scan
      → IsSafe board scan.before.setting) where
    abbrev captured_log : List (List Bool)
    captured_log = map (λ t. row_captured board faults t.before some_choice) (compared_scans board scans)

    log_shape : HasShape board scans captured_log
    log_shape = record {
      rows = length-map (compared_scans board scans) (λ t. row_captured board faults t.before some_choice) ∙ sym (rows_counted board scans);
      bits = All-from_recursion (λ (row : List Bool). length row ≡ data_bits board) captured_log (all_long (compared_scans board scans));
    }
      where
        all_long : (cs : List RowScan)
            → AllByRecursion (λ (row : List Bool). length row ≡ data_bits board)
            (map (λ t. row_captured board faults t.before some_choice) cs)
        all_long [] = tt
        all_long (t ∷ cs) = (sym (captures_all t some_choice) ∙ length-row_bits board t, all_long cs)

    pub some_log : (log : List (List Bool)) × ExplainedBy board faults scans log
    some_log = (captured_log, explained_rows captured_log log_shape captures)
      where
        captures : IsCapturedBy board faults scans captured_log
        captures x scan logged choice e f =
            let row : Some (row_captured board faults scan.before some_choice) ≡ Some logged =
            sym (ap (λ (o : Option RowScan). option_map (λ t. row_captured board faults t.before some_choice) o) e)
            ∙ sym (slice_get-map (λ t. row_captured board faults t.before some_choice) (compared_scans board scans) x) ∙ f in
            let same : row_captured board faults scan.before some_choice ≡ logged = cc row in
            subst
            (λ (l : List Bool). AgreeWhereCompared (joined (row_bits board scan)) l
            (row_captured board faults scan.before choice)) same
            (one_response board faults scan rules is_set no_open (safe x scan e) some_choice choice)

-- the row that the last of these scans shifted in, or the given row if there are no scans
abbrev last_row : List RowScan → TestRow → TestRow
last_row [] row = row
last_row (t ∷ ts) row = last_row ts t.now

follow_append : (ts us : List RowScan) (row : TestRow) → Follow row ts → Follow (last_row ts row) us → Follow row (ts ++ us)
follow_append [] us row h k = k
follow_append (t ∷ ts) us row h k = (h.0, follow_append ts us t.now h.1 k)

pass_follows : (rows : ℕ → TestRow) (more j : ℕ) (before : TestRow)
    → Follow before (pass_scans rows more j before)
    × (last_row (pass_scans rows more j before) before ≡ quiet_row)
pass_follows rows zero j before = ((refl, tt), refl)
pass_follows rows (suc more) j before = let r = pass_follows rows more (suc j) (rows j) in ((refl, r.0), r.1)

rows_follow : (rows : List Ctl → ℕ → TestRow) (width : ℕ) (passes : List (List Ctl)) → Follow quiet_row (row_scans rows width passes)
rows_follow rows width [] = tt
rows_follow rows width (p ∷ ps) =
    let r = pass_follows (rows p) width 0 quiet_row in
    follow_append (pass_scans (rows p) width 0 quiet_row) (row_scans rows width ps) quiet_row r.0
    (subst (λ (row : TestRow). Follow row (row_scans rows width ps)) (sym r.1) (rows_follow rows width ps))

kept_each : {A : Type 0} (test : A → Bool) (P : A → Type 0) (xs : List A)
    → ((i : ℕ) (x : A) → slice_get xs i ≡ Some x → test x ≡ true → P x) →
    (j : ℕ) (x : A) → slice_get (filter test xs) j ≡ Some x → P x
kept_each test P [] h j x e = cc e
kept_each {A} test P (y ∷ xs) h j x e = by_test (kept_each test P xs (λ i. h (suc i))) (test y) refl j e
  where
    by_test : ((j : ℕ) (x : A) → slice_get (filter test xs) j ≡ Some x → P x) → (b : Bool) → test y ≡ b →
        (j : ℕ) → slice_get (cond b (y ∷ filter test xs) (filter test xs)) j ≡ Some x → P x
    by_test ih true q zero f = let same : y ≡ x = cc f in subst P same (h 0 y refl q)
    by_test ih true q (suc k) f = ih k x f
    by_test ih false q k f = ih k x f

-- If the rows of all passes have safe settings, each scan of the test compares the quiet row or a row with a safe
-- setting.
module _ (board : RawBoard) (rows : List Ctl → ℕ → TestRow) (width : ℕ) where
  abbrev Before : RowScan → Type 0
  Before t = (t.before ≡ quiet_row) ⊎ IsSafe board t.before.setting

  abbrev AllBefore : List RowScan → Type 0
  AllBefore ts = AllByRecursion Before ts

  each_append : (ts us : List RowScan) → AllBefore ts → AllBefore us → AllBefore (ts ++ us)
  each_append [] us h k = k
  each_append (t ∷ ts) us h k = (h.0, each_append ts us h.1 k)

  each_at : (ts : List RowScan) → AllBefore ts → (i : ℕ) (t : RowScan) → slice_get ts i ≡ Some t → Before t
  each_at [] h i t e = cc e
  each_at (u ∷ ts) h zero t e = let same : u ≡ t = cc e in subst Before same h.0
  each_at (u ∷ ts) h (suc i) t e = each_at ts h.1 i t e

  in_pass : (pass : List Ctl) → ((j : ℕ) → IsSafe board (rows pass j).setting)
      → (more j : ℕ) (before : TestRow) → (before ≡ quiet_row) ⊎ IsSafe board before.setting →
      AllBefore (pass_scans (rows pass) more j before)
  in_pass pass safe zero j before h = (h, tt)
  in_pass pass safe (suc more) j before h = (h, in_pass pass safe more (suc j) (rows pass j) (inr (safe j)))

  in_passes : (passes : List (List Ctl))
      → ((x : ℕ) (pass : List Ctl) → slice_get passes x ≡ Some pass → (j : ℕ)
      → IsSafe board (rows pass j).setting) →
      AllBefore (row_scans rows width passes)
  in_passes [] safe = tt
  in_passes (p ∷ ps) safe =
      each_append (pass_scans (rows p) width 0 quiet_row) (row_scans rows width ps)
      (in_pass p (safe 0 p refl) width 0 quiet_row (inl refl))
      (in_passes ps (λ x. safe (suc x)))

  pub in_turn : (passes : List (List Ctl))
      → ((x : ℕ) (pass : List Ctl) → slice_get passes x ≡ Some pass → (j : ℕ)
      → IsSafe board (rows pass j).setting) →
      AreInTurn board (row_scans rows width passes)
  in_turn passes safe = record {
    follow = rows_follow rows width passes;
    safe = kept_each (λ t. compares (joined (row_bits board t))) (λ t. IsSafe board t.before.setting) (row_scans rows width passes)
        (λ i t e on. elim (each_at (row_scans rows width passes) (in_passes passes safe) i t e) [
          | inl quiet ↦ absurd
              (both_ways (compares (joined (row_bits board t))) (silent t quiet) on)
          | inr s ↦ s
        ]);
  }
    where
      silent : (t : RowScan) → t.before ≡ quiet_row → compares (joined (row_bits board t)) ≡ false
      silent t e =
          ap (λ (row : TestRow). compares (joined (row_bits board (record { now = t.now; before = row })))) e
          ∙ silent_compares (joined (row_bits board (record { now = t.now; before = quiet_row }))) (quiet_silent board t.now 0 board.chain)

pub passes_in_turn : (board : RawBoard) (passes : List (List Ctl)) (width : ℕ) →
    ((x : ℕ) (pass : List Ctl) → slice_get passes x ≡ Some pass → IsSafe board (holds pass))
    → AreInTurn board (row_scans (code_row board passes) width passes)
passes_in_turn board passes width safe = in_turn board (code_row board passes) width passes (λ x pass e j. safe x pass e)

pub walk_in_turn : (board : RawBoard) (walk : List Ctl) → IsSafe board (holds walk) → AreInTurn board (walk_row_scans board walk)
walk_in_turn board walk safe =
    in_turn board (walk_row board) (count_by (is_walked board walk) board.nets) (walk ∷ [])
    (λ x pass e j. only x pass e)
  where
    only : (x : ℕ) (pass : List Ctl) → slice_get (walk ∷ []) x ≡ Some pass → IsSafe board (holds pass)
    only zero pass e = let same : walk ≡ pass = cc e in subst (λ (q : List Ctl). IsSafe board (holds q)) same safe
    only (suc x) pass e = cc e

pub own_in_turn : (board : RawBoard) → IsBoard board → AreInTurn board (svf_row_scans board)
own_in_turn board rules =
    passes_in_turn board (passes_of board) (code_width (observed_count board (passes_of board)))
    (passes_kept board rules).safe
