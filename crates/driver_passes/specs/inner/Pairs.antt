-- The pairs of nets for which a pass is needed. Two nets are paired if one safe setting enables a tested
-- driver of each. A pass shows a net if it enables a tested driver of the net. A control is useful if it is
-- safe alone and enables a tested driver.
use Rattle.std.specs.Prelude.{◌≡◌, ◌≤◌, ◌<◌, ◌⊎◌, ◌+◌, ◌/◌, ℕ, Bool, true, not, ◌&&◌, List, drop, length, map, None}
use Rattle.board_defs.specs.declared.board.Ctl.{Ctl}
use Rattle.board_defs.specs.declared.board.RawBoard.{RawBoard}
use Rattle.board_defs.specs.declared.board.Drive.{Drive}
use Rattle.board_defs.specs.Passes.{add_for_nets, are_shown, drivers_by_net, first_pair, useful_controls}
use Rattle.net_classes.specs.Pairs.{drivers_at, pairs_with}
use Rattle.net_classes.specs.inner.Pairs.{IsUsefulDriver}
use Rattle.driver_passes.specs.declared.pairs.Pairing.{Pairing}
use Rattle.driver_passes.specs.inner.NumberSets.{is_in}
use Rattle.driver_passes.specs.inner.Progress.{EnableTested}
use Rattle.driver_passes.specs.Useful.{HoldUseful}
use Rattle.driver_passes.specs.inner.Shown.{AreShownRows, AreShownByAll, IsColumn}

-- The state of a `Pairing`. The passes so far enable each tested driver and have only useful controls. Each row has the nets that its
-- pass shows, and the column has one word of each row. `always` has the nets that all passes show, and `left` has room for each net.
pub record ArePairing (board : RawBoard) (pairing : Pairing) : Type 0 where
  pub rows : AreShownRows board pairing.passes.items pairing.rows.items
  pub column : IsColumn pairing.rows.items pairing.column
  pub tested : EnableTested board pairing.passes.items
  pub useful : HoldUseful board pairing.passes.items
  pub left_length : length pairing.left ≡ length board.nets / 64 + 1
  pub always : AreShownByAll board pairing.passes.items pairing.always

-- For each net n from net `a` on, `left` contains net n if and only if no pass shows both net `a` and net n. Nets before net `a` may be in
-- `left` or not.
abbrev pub AreLeft : RawBoard → List (List Ctl) → ℕ → List ℕ → Type 0
AreLeft board passes a left =
    (n : ℕ) → a ≤ n → n < length board.nets
    → is_in left n ≡ not (are_shown passes (drivers_at board a) (drivers_at board n))

-- The state of a `Pairing` while passes are added for net `a`, the current net. `left` says which nets from net `a` on still have no pass
-- that shows them together with net `a`.
pub record LooksAt (board : RawBoard) (pairing : Pairing) (a : ℕ) : Type 0 where
  pub are : ArePairing board pairing
  pub net : a < length board.nets
  pub left : AreLeft board pairing.passes.items a pairing.left

-- the net is in `left` and paired with net `a`
abbrev pub is_wanted : RawBoard → List ℕ → ℕ → ℕ → Bool
is_wanted board left a n = is_in left n && pairs_with board a n

-- no pass is needed for the two nets: some pass shows both, or no safe setting enables a tested driver of each
abbrev pub NeedsNoPass : RawBoard → List (List Ctl) → ℕ → ℕ → Type 0
NeedsNoPass board passes a b =
    (are_shown passes (drivers_at board a) (drivers_at board b) ≡ true)
    ⊎ (first_pair board (drivers_at board a) (drivers_at board b) ≡ None)

-- for each net n after net `a` and before net `b`, no pass is needed for nets `a` and n
abbrev pub IsDoneTo : RawBoard → List (List Ctl) → ℕ → ℕ → Type 0
IsDoneTo board passes a b = (n : ℕ) → a < n → n < b → NeedsNoPass board passes a n

-- for each net m before net `a` and each net n after net m, no pass is needed for nets m and n
abbrev pub AreDone : RawBoard → List (List Ctl) → ℕ → Type 0
AreDone board passes a = (m : ℕ) → m < a → IsDoneTo board passes m (length board.nets)

-- if no pass is needed for two nets after the passes `before`, none is needed for them after the passes `after`
abbrev pub StaysDone : RawBoard → List (List Ctl) → List (List Ctl) → Type 0
StaysDone board before after = (m n : ℕ) → NeedsNoPass board before m n → NeedsNoPass board after m n

-- each of the two drivers is always on or one-sided, or a useful control enables it
abbrev pub IsUsefulPair : RawBoard → Drive × Drive → Type 0
IsUsefulPair board pair = IsUsefulDriver board pair.0 × IsUsefulDriver board pair.1

-- for each net from net `b` on, in net order, the tested drivers of net `a` and of that net
abbrev pub pairs_from : RawBoard → ℕ → ℕ → List (List Drive × List Drive)
pairs_from board a b = map (λ others. (drivers_at board a, others)) (drop b (drivers_by_net board))

-- the passes, followed by a pass for the two nets if the nets are paired and no pass shows both
abbrev pub observing : RawBoard → List (List Ctl) → List Drive × List Drive → List (List Ctl)
observing board = add_for_nets board (useful_controls board)
