-- The suspects of a log are the numbers of the single faults that may explain it. The lemmas say that every single fault that explains the
-- log is among them, so a search among the suspects finds all these faults.
use Rattle.std.proofs.Common.{◌≡◌, ℕ, zero, suc, Bool, true, false, ◌==◌, ◌&&◌, List, length, Result, Ok, Err, Some, ◌⊎◌, inl, inr, get_or, ◌<◌, refl, sym, ap, ◌∙◌, subst}
use Rattle.std.specs.Prelude.{filter, filter_map, slice_get, All, IfOk}
use Rattle.std.specs.List.{list_any}
use Rattle.std.proofs.lemmas.Option.{slice_get_within, slice_get-get_or}
use Rattle.std.proofs.lemmas.Bool.{and_parts, and_from, eqb-true, eq-eqb}
use Rattle.board_defs.specs.declared.board.PinRef.{PinRef}
use Rattle.board_defs.specs.declared.board.RawBoard.{RawBoard}
use Rattle.board_defs.specs.declared.fault.Kind.{Kind}
use Rattle.board_defs.specs.declared.fault.Kind.TheVariants.{And, Or, First, Second}
use Rattle.board_defs.specs.declared.fault.Single.{Single}
use Rattle.board_defs.specs.declared.fault.Single.TheVariants.{StuckNet, OpenPin, Short}
use Rattle.board_defs.specs.declared.board.NetPin.{NetPin}
use Rattle.board_defs.specs.declared.board.Net.{Net}
use Rattle.board_defs.specs.BoardRules.{IsBoard}
use Rattle.board_defs.specs.Coverage.{IsTestedDriver, IsTestedReceiver}
use Rattle.board_defs.specs.Faults.{singles, IsSingle, kind_rank}
use Rattle.board_defs.specs.Pins.{is_same}
use Rattle.board_defs.proofs.Members.{Has, has_filter, filter_has, any_has, has_any, has_at, has_contains}
use Rattle.board_defs.proofs.SingleFaults.{single_is}
use Rattle.board_defs.proofs.SameBits.{same_of_is_same, is_same_refl}
use Rattle.tap_defs.specs.board.Explaining.{Explains}
use Rattle.plan_tables.specs.declared.tables.PlanTables.{PlanTables}
use Rattle.fault_sim.specs.declared.fault_lists.FaultLists.{FaultLists}
use Rattle.fault_sim.specs.Laws.{SuspectsSuffice}
use Rattle.fault_sim.specs.Places.{fault_at}
use Rattle.fault_sim.specs.Suspects.{AreSuspects}
use Rattle.diagnoser.specs.Diagnosis.{AreExplaining, IsFaultOnBoard}
use Rattle.fault_sim.specs.Diagnosis.{Picks}
use Rattle.side_by_side.specs.Pieces.{items_between}
use Rattle.side_by_side.proofs.RangeLemmas.{range_whole}
use Rattle.fault_sim.proofs.MatchLemmas.{nets_there}
use Rattle.diagnoser.proofs.ThoseLemmas.{those_hold, hold_those, those_filter, filter_those}

abbrev kind_of : ℕ → Kind
kind_of zero = And
kind_of (suc zero) = Or
kind_of (suc (suc zero)) = First
kind_of (suc (suc (suc n))) = Second

kind_back : (kind : Kind) → kind_of (kind_rank kind) ≡ kind
kind_back And = refl
kind_back Or = refl
kind_back First = refl
kind_back Second = refl

-- returns true if and only if the two faults are equal
abbrev same_single : Single → Single → Bool
same_single (StuckNet n v) (StuckNet m w) = (n == m) && is_same v w
same_single (StuckNet n v) (OpenPin q w) = false
same_single (StuckNet n v) (Short c d l) = false
same_single (OpenPin p v) (StuckNet m w) = false
same_single (OpenPin p v) (OpenPin q w) = (p.net == q.net) && ((p.place == q.place) && is_same v w)
same_single (OpenPin p v) (Short c d l) = false
same_single (Short a b k) (StuckNet m w) = false
same_single (Short a b k) (OpenPin q w) = false
same_single (Short a b k) (Short c d l) = (a == c) && ((b == d) && (kind_rank k == kind_rank l))

same_one : (s t : Single) → same_single s t ≡ true → s ≡ t
same_one (StuckNet n v) (StuckNet m w) e =
    let h = and_parts (n == m) (is_same v w) e in
    ap (λ k. StuckNet k v) (eqb-true n m h.0) ∙ ap (λ b. StuckNet m b) (same_of_is_same v w h.1)
same_one (StuckNet n v) (OpenPin q w) e = cc e
same_one (StuckNet n v) (Short c d l) e = cc e
same_one (OpenPin p v) (StuckNet m w) e = cc e
same_one (OpenPin p v) (OpenPin q w) e =
    let h = and_parts (p.net == q.net) ((p.place == q.place) && is_same v w) e in
    let i = and_parts (p.place == q.place) (is_same v w) h.1 in
    let net : p
    ≡ record { net = q.net; place = p.place } = ap
    (λ (n : ℕ). let r : PinRef = record { net = n; place = p.place } in r)
    (eqb-true p.net q.net h.0) in
    let place : record { net = q.net; place = p.place }
    ≡ q = ap (λ (n : ℕ). let r : PinRef = record { net = q.net; place = n } in r)
    (eqb-true p.place q.place i.0) in
    ap (λ r. OpenPin r v) (net ∙ place) ∙ ap (λ b. OpenPin q b) (same_of_is_same v w i.1)
same_one (OpenPin p v) (Short c d l) e = cc e
same_one (Short a b k) (StuckNet m w) e = cc e
same_one (Short a b k) (OpenPin q w) e = cc e
same_one (Short a b k) (Short c d l) e =
    let h = and_parts (a == c) ((b == d) && (kind_rank k == kind_rank l)) e in
    let i = and_parts (b == d) (kind_rank k == kind_rank l) h.1 in
    let kind : k ≡ l = sym (kind_back k) ∙ (ap kind_of (eqb-true (kind_rank k) (kind_rank l) i.1) ∙ kind_back l) in
    ap (λ n. Short n b k) (eqb-true a c h.0) ∙ (ap (λ n. Short c n k) (eqb-true b d i.0) ∙ ap (λ q. Short c d q) kind)

one_same : (s : Single) → same_single s s ≡ true
one_same (StuckNet n v) = and_from (n == n) (is_same v v) (eq-eqb n n refl) (is_same_refl v)
one_same (OpenPin p v) =
    and_from (p.net == p.net) ((p.place == p.place) && is_same v v) (eq-eqb p.net p.net refl)
    (and_from (p.place == p.place) (is_same v v) (eq-eqb p.place p.place refl) (is_same_refl v))
one_same (Short a b k) =
    and_from (a == a) ((b == b) && (kind_rank k == kind_rank k)) (eq-eqb a a refl)
    (and_from (b == b) (kind_rank k == kind_rank k) (eq-eqb b b refl)
    (eq-eqb (kind_rank k) (kind_rank k) refl))

module _ (board : RawBoard) (rules : IsBoard board) (plan : PlanTables) (lists : FaultLists)
    (log : List (List Bool)) (suspects : List ℕ) (are : AreSuspects board plan lists log suspects)
    (suffice : SuspectsSuffice) where
  abbrev candidates : List Single
  candidates = filter_map (fault_at board) suspects

  has_candidate : (single : Single) → Has (singles board) single → Explains board single log → Has candidates single
  has_candidate single listed explains =
      let test : Single → Bool = λ other. same_single other single in
      let kept = suffice board plan lists log suspects rules are test
      (λ other is on. subst (λ (s : Single). Explains board s log)
      (sym (same_one other single on)) explains) in
      (filter_has test candidates single
      (subst (λ (l : List Single). Has l single) kept
      (has_filter test (singles board) single listed (one_same single)))).0

  pub candidates_explain : (faults : List Single)
      → Picks (λ single. Explains board single log) candidates faults
      → AreExplaining board log faults
  candidates_explain faults those =
      subst (λ (l : List Single). AreExplaining board log l) whole
      (filter_those (λ single. Explains board single log) test (singles board)
      (λ single listed on. only single on)
      (λ single listed explains. all single (has_candidate single listed explains) explains))
    where
      test : Single → Bool
      test single = list_any (λ other. same_single other single) faults

      only : (single : Single) → test single ≡ true → Explains board single log
      only single on =
          let r = any_has (λ other. same_single other single) faults on in
          subst (λ (s : Single). Explains board s log) (same_one r.0 single r.2)
          (those_hold (λ s. Explains board s log) candidates faults r.0 those r.1).1

      all : (single : Single) → Has candidates single → Explains board single log → test single ≡ true
      all single candidate explains =
          has_any (λ other. same_single other single) faults single
          (hold_those (λ s. Explains board s log) candidates faults single those candidate explains)
          (one_same single)

      whole : filter test (singles board) ≡ faults
      whole =
          suffice board plan lists log suspects rules are test (λ single is on. only single on)
          ∙ those_filter (λ single. Explains board single log) test candidates faults
          (λ single candidate on. only single on)
          (λ single candidate explains. all single candidate explains) those

  -- If a search returns exactly those suspects' faults that explain the log, it returns exactly those single faults of the board that
  -- explain the log.
  pub all_found : {V E : Type 0} (view : V → List Single) (result : Result V E)
      → IfOk result
      (λ v. Picks (λ single. Explains board single log)
      (filter_map (fault_at board) (items_between suspects 0 (length suspects))) (view v))
      → IfOk result (λ v. AreExplaining board log (view v))
  all_found view (Err e) found = tt
  all_found view (Ok v) found =
      candidates_explain (view v)
      (subst
      (λ (l : List ℕ). Picks (λ single. Explains board single log)
      (filter_map (fault_at board) l) (view v)) (range_whole suspects) found)

pub single_named : (board : RawBoard) (single : Single) → IsSingle board single → IsFaultOnBoard board single
single_named board (StuckNet net value) is = (nets_there board (StuckNet net value) is).0
single_named board (OpenPin pin value) is = ((nets_there board (OpenPin pin value) is).0, by_use is)
  where
    within : (v : Net) (p : NetPin) → slice_get board.nets pin.net ≡ Some v
        → slice_get v.pins pin.place ≡ Some p → (net : Net)
        → slice_get board.nets pin.net ≡ Some net → pin.place < length net.pins
    within v p here stands net at =
        let two : Some v ≡ Some net = sym here ∙ at in
        let same : v ≡ net = cc two in
        subst (λ (n : Net). pin.place < length n.pins) same (slice_get_within v.pins pin.place p stands)

    by_use : IsTestedDriver board pin.net pin.place ⊎ IsTestedReceiver board pin.net pin.place
        → (net : Net) → slice_get board.nets pin.net ≡ Some net → pin.place < length net.pins
    by_use (inl (setting, safe, (v, en, o))) = within v o.pin en o.stands
    by_use (inr (setting, safe, (v, q, driver, en, ep, reads, ne, o))) = within v q en ep
single_named board (Short a b kind) is = nets_there board (Short a b kind) is

pub all_named : (board : RawBoard) → IsBoard board → (log : List (List Bool))
    → {V E : Type 0} (view : V → List Single) (result : Result V E) →
    IfOk result (λ v. AreExplaining board log (view v)) → IfOk result (λ v. All (IsFaultOnBoard board) (view v))
all_named board rules log view (Err e) explaining = tt
all_named board rules log view (Ok v) explaining = λ k d less.
    let faults = view v in
    let single = get_or faults k d in
    let has : Has faults single = has_at faults k single (slice_get-get_or faults k d less) in
    let listed = (those_hold (λ s. Explains board s log) (singles board) faults single explaining has).0 in
    single_named board single (single_is board rules single (has_contains (singles board) single listed))
