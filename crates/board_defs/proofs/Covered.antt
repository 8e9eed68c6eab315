-- The tests of `Decided.antt` agree with the terms of coverage.
use Rattle.std.proofs.Common.{◌≡◌, ◌≢◌, ℕ, ◌<◌, true, false, not, ◌&&◌, ◌||◌, length, Option, Some, None, refl, sym, ◌∙◌, ap, subst, ◌⊎◌, inl, inr}
use Rattle.std.specs.Prelude.{slice_get}
use Rattle.std.specs.List.{list_any}
use Rattle.std.proofs.lemmas.Bool.{both_ways, not-true, not_from_false, and_parts, and_from, or_left, or_right, or_cases}
use Rattle.std.proofs.lemmas.Option.{slice_get_within}
use Rattle.lists.proofs.Booleans.{true_of_or_false}
use Rattle.board_defs.specs.declared.board.NetPin.{NetPin}
use Rattle.board_defs.specs.declared.board.Net.{Net}
use Rattle.board_defs.specs.declared.board.RawBoard.{RawBoard}
use Rattle.board_defs.specs.declared.board.Ctl.{Ctl}
use Rattle.board_defs.specs.declared.board.Drive.{Drive}
use Rattle.board_defs.specs.declared.board.Drive.TheVariants.{AlwaysOn, OneSided, By}
use Rattle.board_defs.specs.Pins.{drive, receives, receives_of, guarded}
use Rattle.board_defs.specs.Settings.{Enabling, same_ctl, just, both, enables, IsSafe, ObservesBy}
use Rattle.board_defs.specs.BoardRules.{IsBoard}
use Rattle.board_defs.specs.Decided.{any_below, any_other, is_by, is_safe_alone, can_enable, place_drive, drive_in, is_tested_driver, is_tested_receiver, is_covered, are_compatible, are_paired_at, are_paired, tests_by_at, tests_by, is_useful}
use Rattle.board_defs.proofs.ControlOrder.{same_equal, same_refl}
use Rattle.board_defs.proofs.Places.{Found, any_place, any_at, FoundBelow, below_place, below_at, FoundElsewhere, other_place, other_at}
use Rattle.board_defs.specs.Coverage.{IsCovered, ArePaired, IsTestedDriver, IsTestedReceiver, IsUseful}
use Rattle.board_defs.proofs.Driving.{View, no_driver, always_on, by_control, one_sided, view, by_true, is_by_drive}
use Rattle.board_defs.proofs.Pairwise.{safe_within}
use Rattle.board_defs.proofs.SafeSettings.{safe_from_nets, one_sided_off, alone_safe, safe_alone, together_safe, safe_together}

-- the setting without controls
abbrev pub nothing : Enabling
nothing c = false

pub nothing_safe : (board : RawBoard) → IsBoard board → IsSafe board nothing
nothing_safe board rules = safe_from_nets board nothing rules (record {
  apart = λ n net i j p q c d en ei ej ne dp dq (sc : false ≡ true) sd. cc sc;
  opened = λ n net i p c en ei d (on : false ≡ true). cc on;
}) (λ at cell control pinned e k o (on : false ≡ true). cc on)

abbrev pub needed : Option Drive → Enabling
needed None = nothing
needed (Some AlwaysOn) = nothing
needed (Some OneSided) = nothing
needed (Some (By c)) = just c

abbrev pub either : Enabling → Enabling → Enabling
either s t c = s c || t c

pub can_enable_of : (board : RawBoard) (s : Enabling) (n : ℕ) (net : Net) (i : ℕ) (p : NetPin)
    → IsBoard board → IsSafe board s → slice_get board.nets n ≡ Some net
    → slice_get net.pins i ≡ Some p → enables board s p ≡ true →
    (can_enable board (drive board net p) ≡ true) × ((c : Ctl) → needed (drive board net p) c ≡ true → s c ≡ true)
can_enable_of board s n net i p rules safe en ei e = from (view board net p)
  where
    within : (d : Option Drive) → d ≡ Some AlwaysOn → (can_enable board d ≡ true) × ((c : Ctl) → needed d c ≡ true → s c ≡ true)
    within None h = cc h
    within (Some AlwaysOn) h = (refl, λ c (k : false ≡ true). cc k)
    within (Some OneSided) h = cc h
    within (Some (By a)) h = cc h

    by : (b : Ctl) → s b ≡ true → (d : Option Drive) → d ≡ Some (By b)
        → (can_enable board d ≡ true) × ((c : Ctl) → needed d c ≡ true → s c ≡ true)
    by b on None h = cc h
    by b on (Some AlwaysOn) h = cc h
    by b on (Some OneSided) h = cc h
    by b on (Some (By a)) h =
        let ab : a ≡ b = cc in
        let sa : s a ≡ true = ap s ab ∙ on in
        let grow : (c : Ctl) → just a c ≡ true → s c ≡ true = λ c k. ap s (same_equal c a k) ∙ sa in
        (safe_alone board a (safe_within board (just a) s grow safe), grow)

    from : View board net p → (can_enable board (drive board net p) ≡ true) × ((c : Ctl) → needed (drive board net p) c ≡ true → s c ≡ true)
    from (no_driver d f) = absurd (both_ways (enables board s p) (f s) e)
    from (always_on d f) = within (drive board net p) d
    from (by_control b d f) = by b (sym (f s) ∙ e) (drive board net p) d
    from (one_sided at cell control pa x k o w d f) =
        absurd
        (one_sided_off board s rules safe.own n net i p (record { on_board = en; in_net = ei }) at
        cell control pa x k o w (sym (f s) ∙ e))

pub needed_safe : (board : RawBoard) (d : Option Drive) → IsBoard board → can_enable board d ≡ true → IsSafe board (needed d)
needed_safe board None rules h = cc h
needed_safe board (Some AlwaysOn) rules h = nothing_safe board rules
needed_safe board (Some OneSided) rules h = cc h
needed_safe board (Some (By c)) rules h = alone_safe board c rules h

pub needed_enables : (board : RawBoard) (net : Net) (p : NetPin) (s : Enabling)
    → can_enable board (drive board net p) ≡ true
    → ((c : Ctl) → needed (drive board net p) c ≡ true → s c ≡ true) → enables board s p ≡ true
needed_enables board net p s h within = from (view board net p)
  where
    from : View board net p → enables board s p ≡ true
    from (no_driver d f) = let wrong : false ≡ true = sym (ap (can_enable board) d) ∙ h in cc wrong
    from (always_on d f) = f s
    from (by_control b d f) = f s ∙ within b (ap (λ w. needed w b) d ∙ same_refl b)
    from (one_sided at cell control pa x k o w d f) = let wrong : false ≡ true = sym (ap (can_enable board) d) ∙ h in cc wrong

-- Suppose that a safe setting observes the net by the driver at `place`. Then the test `is_tested_driver`
-- passes. The setting also has the control that the driver needs, if the driver needs one.
pub tested_driver_of : (board : RawBoard) (s : Enabling) (n : ℕ) (net : Net) (place : ℕ)
    → IsBoard board → IsSafe board s → slice_get board.nets n ≡ Some net
    → ObservesBy board s net place →
    (is_tested_driver board net place ≡ true) × ((c : Ctl) → needed (place_drive board net place) c ≡ true → s c ≡ true)
tested_driver_of board s n net place rules safe en o =
    let at_place : place_drive board net place ≡ drive board net o.pin = ap (drive_in board net) o.stands in
    let k : (can_enable board (drive board net o.pin) ≡ true) ×
    ((c : Ctl) → needed (drive board net o.pin) c ≡ true → s c ≡ true) = can_enable_of board s n
    net place o.pin rules safe en o.stands o.enabled in (
      and_from (not (guarded board net) && can_enable board (place_drive board net place)) (any_other (receives board) place net.pins)
          (and_from (not (guarded board net)) (can_enable board (place_drive board net place))
          (not_from_false (guarded board net) o.open_net)
          (ap (can_enable board) at_place ∙ k.0))
          (other_at (receives board) place net.pins o.other o.reader o.reader_stands o.another o.reads),
      λ c h. k.1 c (ap (λ w. needed w c) (sym at_place) ∙ h),
    )

pub drives_pin : (board : RawBoard) (net : Net) (pin : Option NetPin)
    → can_enable board (drive_in board net pin) ≡ true → (p : NetPin) × (pin ≡ Some p)
drives_pin board net None h = cc h
drives_pin board net (Some p) h = (p, refl)

pub observes_of : (board : RawBoard) (s : Enabling) (net : Net) (place : ℕ)
    → is_tested_driver board net place ≡ true
    → ((c : Ctl) → needed (place_drive board net place) c ≡ true → s c ≡ true)
    → ObservesBy board s net place
observes_of board s net place h within =
    let first : (not (guarded board net) && can_enable board (place_drive board net place))
    ≡ true =
    (and_parts (not (guarded board net) && can_enable board (place_drive board net place))
    (any_other (receives board) place net.pins) h).0 in
    let can : can_enable board (place_drive board net place)
    ≡ true =
    (and_parts (not (guarded board net)) (can_enable board (place_drive board net place))
    first).1 in
    let r : FoundElsewhere (receives board) place net.pins = other_place (receives board) place
    net.pins
    ((and_parts (not (guarded board net) && can_enable board (place_drive board net place))
    (any_other (receives board) place net.pins) h).1) in
    let q : (p : NetPin) × (slice_get net.pins place ≡ Some p) = drives_pin board net (slice_get net.pins place) can in
    let at_place : place_drive board net place ≡ drive board net q.0 = ap (drive_in board net) q.1 in
    record {
      pin = q.0;
      stands = q.1;
      enabled =
          needed_enables board net q.0 s (ap (can_enable board) (sym at_place) ∙ can)
          (λ c k. within c (ap (λ w. needed w c) at_place ∙ k));
      open_net =
          not-true (guarded board net)
          ((and_parts (not (guarded board net)) (can_enable board (place_drive board net place))
          first).0);
      other = r.place;
      reader = r.item;
      reader_stands = r.stands;
      another = r.elsewhere;
      reads = r.passes;
    }

pub tested_can : (board : RawBoard) (net : Net) (place : ℕ)
    → is_tested_driver board net place ≡ true
    → can_enable board (place_drive board net place) ≡ true
tested_can board net place h =
    (and_parts (not (guarded board net)) (can_enable board (place_drive board net place))
    ((and_parts (not (guarded board net) && can_enable board (place_drive board net place))
    (any_other (receives board) place net.pins) h).0)).1

pub net_same : (board : RawBoard) (n : ℕ) (net other : Net) → slice_get board.nets n ≡ Some net
    → slice_get board.nets n ≡ Some other → other ≡ net
net_same board n net other e f = let two : Some net ≡ Some other = sym e ∙ f in let same : net ≡ other = cc in sym same

pub tested_driver_true : (board : RawBoard) (n : ℕ) (net : Net) (place : ℕ) → IsBoard board
    → slice_get board.nets n ≡ Some net → IsTestedDriver board n place
    → is_tested_driver board net place ≡ true
tested_driver_true board n net place rules en (s, safe, (other, eo, o)) =
    let same : other ≡ net = net_same board n net other en eo in
    let P : Net → Type 0 = λ v. is_tested_driver board v place ≡ true in
    subst P same ((tested_driver_of board s n other place rules safe eo o).0)

pub tested_driver_is : (board : RawBoard) (n : ℕ) (net : Net) (place : ℕ) → IsBoard board
    → slice_get board.nets n ≡ Some net → is_tested_driver board net place ≡ true
    → IsTestedDriver board n place
tested_driver_is board n net place rules en h = (
  needed (place_drive board net place),
  needed_safe board (place_drive board net place) rules (tested_can board net place h),
  (net, en, observes_of board (needed (place_drive board net place)) net place h (λ c k. k)),
)

pub tested_below : (board : RawBoard) (net : Net) (place : ℕ) → is_tested_driver board net place ≡ true → place < length net.pins
tested_below board net place h =
    let q : (p : NetPin)
    × (slice_get net.pins place ≡ Some p) = drives_pin board net (slice_get net.pins place)
    (tested_can board net place h) in
    slice_get_within net.pins place q.0 q.1

pub covered_true : (board : RawBoard) (n : ℕ) (net : Net) → IsBoard board
    → slice_get board.nets n ≡ Some net → IsCovered board n → is_covered board net ≡ true
covered_true board n net rules en (s, safe, (other, eo, (place, o))) =
    let same : other ≡ net = net_same board n net other en eo in
    let h : is_tested_driver board other place ≡ true = (tested_driver_of board s n other place rules safe eo o).0 in
    let P : Net → Type 0 = λ v. is_covered board v ≡ true in
    subst P same (below_at (length other.pins) (is_tested_driver board other) place (tested_below board other place h) h)

pub covered_is : (board : RawBoard) (n : ℕ) (net : Net) → IsBoard board
    → slice_get board.nets n ≡ Some net → is_covered board net ≡ true → IsCovered board n
covered_is board n net rules en h =
    let r : FoundBelow (length net.pins) (is_tested_driver board net) = below_place (length net.pins) (is_tested_driver board net) h in
    let d : Option Drive = place_drive board net r.number in (
      needed d,
      needed_safe board d rules (tested_can board net r.number r.passes),
      (net, en, (r.number, observes_of board (needed d) net r.number r.passes (λ c k. k))),
    )

pub compatible_safe : (board : RawBoard) (d e : Option Drive) → IsBoard board
    → are_compatible board d e ≡ true → IsSafe board (either (needed d) (needed e))
compatible_safe board None e rules h = cc h
compatible_safe board (Some OneSided) e rules h = cc h
compatible_safe board (Some AlwaysOn) e rules h = needed_safe board e rules h
compatible_safe board (Some (By c)) None rules h = cc h
compatible_safe board (Some (By c)) (Some OneSided) rules h = cc h
compatible_safe board (Some (By c)) (Some AlwaysOn) rules h =
    safe_within board (either (just c) nothing) (just c) (λ a k. true_of_or_false (same_ctl a c) k)
    (alone_safe board c rules h)
compatible_safe board (Some (By c)) (Some (By b)) rules h = together_safe board c b rules h

pub safe_compatible : (board : RawBoard) (s : Enabling) (d e : Option Drive) → IsSafe board s
    → can_enable board d ≡ true → can_enable board e ≡ true
    → ((c : Ctl) → needed d c ≡ true → s c ≡ true) → ((c : Ctl) → needed e c ≡ true → s c ≡ true)
    → are_compatible board d e ≡ true
safe_compatible board s None e safe cd ce wd we = cd
safe_compatible board s (Some OneSided) e safe cd ce wd we = cd
safe_compatible board s (Some AlwaysOn) e safe cd ce wd we = ce
safe_compatible board s (Some (By c)) None safe cd ce wd we = ce
safe_compatible board s (Some (By c)) (Some OneSided) safe cd ce wd we = ce
safe_compatible board s (Some (By c)) (Some AlwaysOn) safe cd ce wd we = cd
safe_compatible board s (Some (By c)) (Some (By b)) safe cd ce wd we =
    safe_together board c b
    (safe_within board (both c b) s (λ a k. by_or a (or_cases (same_ctl a c) (same_ctl a b) k)) safe)
  where
    by_or : (a : Ctl) → (same_ctl a c ≡ true) ⊎ (same_ctl a b ≡ true) → s a ≡ true
    by_or a (inl k) = wd a k
    by_or a (inr k) = we a k

pub paired_true : (board : RawBoard) (m n : ℕ) (a b : Net) → IsBoard board
    → slice_get board.nets m ≡ Some a → slice_get board.nets n ≡ Some b → ArePaired board m n
    → are_paired board a b ≡ true
paired_true board m n a b rules ea eb (ne, (s, safe, ((one, eo, (i, oi)), (two, et, (j, oj))))) =
    let same : one ≡ a = net_same board m a one ea eo in
    let also : two ≡ b = net_same board n b two eb et in
    let x : (is_tested_driver board one i ≡ true)
    × ((c : Ctl) → needed (place_drive board one i) c ≡ true → s c ≡ true) = tested_driver_of
    board s m one i rules safe eo oi in
    let y : (is_tested_driver board two j ≡ true)
    × ((c : Ctl) → needed (place_drive board two j) c ≡ true → s c ≡ true) = tested_driver_of
    board s n two j rules safe et oj in
    let here : are_paired_at board one two i j ≡ true =
    and_from (is_tested_driver board one i && is_tested_driver board two j)
    (are_compatible board (place_drive board one i) (place_drive board two j))
    (and_from (is_tested_driver board one i) (is_tested_driver board two j) x.0 y.0)
    (safe_compatible board s (place_drive board one i) (place_drive board two j) safe
    (tested_can board one i x.0) (tested_can board two j y.0) x.1 y.1)
    in
    let inner : any_below (length two.pins) (are_paired_at board one two i)
    ≡ true = below_at (length two.pins) (are_paired_at board one two i) j
    (tested_below board two j y.0) here in
    let found : are_paired board one two
    ≡ true = below_at (length one.pins)
    (λ k. any_below (length two.pins) (are_paired_at board one two k)) i
    (tested_below board one i x.0) inner in
    let P : Net → Type 0 = λ v. are_paired board v two ≡ true in
    let Q : Net → Type 0 = λ v. are_paired board a v ≡ true in
    subst Q also (subst P same found)

pub paired_is : (board : RawBoard) (m n : ℕ) (a b : Net) → IsBoard board
    → slice_get board.nets m ≡ Some a → slice_get board.nets n ≡ Some b → m ≢ n
    → are_paired board a b ≡ true → ArePaired board m n
paired_is board m n a b rules ea eb ne h =
    let r : FoundBelow (length a.pins) (λ k. any_below (length b.pins) (are_paired_at board a b k))
    = below_place (length a.pins) (λ k. any_below (length b.pins) (are_paired_at board a b k)) h
    in
    let i : ℕ = r.number in
    let t : FoundBelow (length b.pins) (are_paired_at board a b i) = below_place (length b.pins) (are_paired_at board a b i) r.passes in
    let j : ℕ = t.number in
    let d : Option Drive = place_drive board a i in
    let e : Option Drive = place_drive board b j in
    let first : (is_tested_driver board a i && is_tested_driver board b j) ≡ true =
    (and_parts (is_tested_driver board a i && is_tested_driver board b j)
    (are_compatible board d e) t.passes).0 in (
      ne,
      (
        either (needed d) (needed e),
        compatible_safe board d e rules
            ((and_parts (is_tested_driver board a i && is_tested_driver board b j)
            (are_compatible board d e) t.passes).1),
        (
          (
            a,
            ea,
            (
              i,
              observes_of board (either (needed d) (needed e)) a i
                  (and_parts (is_tested_driver board a i) (is_tested_driver board b j) first).0
                  (λ c k. or_left (needed d c) (needed e c) k),
            ),
          ),
          (
            b,
            eb,
            (
              j,
              observes_of board (either (needed d) (needed e)) b j
                  (and_parts (is_tested_driver board a i) (is_tested_driver board b j) first).1
                  (λ c k. or_right (needed d c) (needed e c) k),
            ),
          ),
        ),
      ),
    )

pub tested_receiver_true : (board : RawBoard) (n : ℕ) (net : Net) (place : ℕ) → IsBoard board
    → slice_get board.nets n ≡ Some net → IsTestedReceiver board n place
    → is_tested_receiver board net place ≡ true
tested_receiver_true board n net place rules en (s, safe, (other, pin, driver, eo, ep, reads, ne, o)) =
    let same : other ≡ net = net_same board n net other en eo in
    let k : can_enable board (drive board other o.pin)
    ≡ true = (can_enable_of board s n other driver o.pin rules safe eo o.stands o.enabled).0 in
    let P : Net → Type 0 = λ v. is_tested_receiver board v place ≡ true in
    subst P same
    (and_from (not (guarded board other) && receives_of board (slice_get other.pins place))
    (any_other (λ (p : NetPin). can_enable board (drive board other p)) place other.pins)
    (and_from (not (guarded board other)) (receives_of board (slice_get other.pins place))
    (not_from_false (guarded board other) o.open_net) (ap (receives_of board) ep ∙ reads))
    (other_at (λ (p : NetPin). can_enable board (drive board other p)) place other.pins driver o.pin o.stands ne k))

receives_pin : (board : RawBoard) (pin : Option NetPin) → receives_of board pin ≡ true
    → (p : NetPin) × (pin ≡ Some p) × (receives board p ≡ true)
receives_pin board None h = cc h
receives_pin board (Some p) h = (p, refl, h)

pub tested_receiver_is : (board : RawBoard) (n : ℕ) (net : Net) (place : ℕ) → IsBoard board
    → slice_get board.nets n ≡ Some net → is_tested_receiver board net place ≡ true
    → IsTestedReceiver board n place
tested_receiver_is board n net place rules en h =
    let first : (not (guarded board net) && receives_of board (slice_get net.pins place))
    ≡ true =
    (and_parts (not (guarded board net) && receives_of board (slice_get net.pins place))
    (any_other (λ (p : NetPin). can_enable board (drive board net p)) place net.pins) h).0 in
    let q : (p : NetPin) × (slice_get net.pins place ≡ Some p)
    × (receives board p ≡ true) = receives_pin board (slice_get net.pins place)
    ((and_parts (not (guarded board net)) (receives_of board (slice_get net.pins place)) first).1)
    in
    let r : FoundElsewhere (λ (p : NetPin). can_enable board (drive board net p)) place net.pins =
    other_place (λ (p : NetPin). can_enable board (drive board net p)) place net.pins
    ((and_parts (not (guarded board net) && receives_of board (slice_get net.pins place))
    (any_other (λ (p : NetPin). can_enable board (drive board net p)) place net.pins) h).1) in
    let d : Option Drive = drive board net r.item in (
      needed d,
      needed_safe board d rules r.passes,
      (
        net,
        q.0,
        r.place,
        en,
        q.1,
        q.2,
        r.elsewhere,
        record {
          pin = r.item;
          stands = r.stands;
          enabled = needed_enables board net r.item (needed d) r.passes (λ c k. k);
          open_net =
              not-true (guarded board net)
              ((and_parts (not (guarded board net)) (receives_of board (slice_get net.pins place))
              first).0);
          other = place;
          reader = q.0;
          reader_stands = q.1;
          another = λ e. r.elsewhere (sym e);
          reads = q.2;
        },
      ),
    )

pub useful_true : (board : RawBoard) (c : Ctl) → IsBoard board → IsUseful board c → is_useful board c ≡ true
useful_true board c rules (safe, n, net, place, pin, en, ep, d, t) =
    and_from (is_safe_alone board c) (list_any (tests_by board c) board.nets) (safe_alone board c safe)
    (any_at (tests_by board c) board.nets n net en
    (below_at (length net.pins) (tests_by_at board c net) place (slice_get_within net.pins place pin ep)
    (and_from (is_by c (place_drive board net place)) (is_tested_driver board net place)
    (is_by_drive c (place_drive board net place) (ap (drive_in board net) ep ∙ d))
    (tested_driver_true board n net place rules en t))))

pub useful_is : (board : RawBoard) (c : Ctl) → IsBoard board → is_useful board c ≡ true → IsUseful board c
useful_is board c rules h =
    let r : Found (tests_by board c) board.nets = any_place (tests_by board c) board.nets
    ((and_parts (is_safe_alone board c) (list_any (tests_by board c) board.nets) h).1) in
    let t : FoundBelow (length r.item.pins) (tests_by_at board c r.item) = below_place
    (length r.item.pins) (tests_by_at board c r.item) r.passes in
    let tested : is_tested_driver board r.item t.number
    ≡ true =
    (and_parts (is_by c (place_drive board r.item t.number))
    (is_tested_driver board r.item t.number) t.passes).1 in
    let q : (p : NetPin) × (slice_get r.item.pins t.number ≡ Some p) = drives_pin board r.item
    (slice_get r.item.pins t.number) (tested_can board r.item t.number tested) in (
      alone_safe board c rules ((and_parts (is_safe_alone board c) (list_any (tests_by board c) board.nets) h).0),
      r.place,
      r.item,
      t.number,
      q.0,
      r.stands,
      q.1,
      sym (ap (drive_in board r.item) q.1)
          ∙ by_true c (place_drive board r.item t.number)
          ((and_parts (is_by c (place_drive board r.item t.number))
          (is_tested_driver board r.item t.number) t.passes).0),
      tested_driver_is board r.place r.item t.number rules r.stands tested,
    )
