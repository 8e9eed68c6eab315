-- A list of nets closes net `n` if net `n` is covered and each tested driver of net `n` has a control with a driver on a net in the list.
-- Let the list have the nets that control `c` shares with other controls. If it closes net `n`, a safe setting with `c` enables no tested
-- driver of net `n` except the drivers that `c` controls.
use Rattle.std.specs.Prelude.{◌≡◌, ℕ, Bool, true, false, ◌&&◌, ◌||◌, List, [], ◌∷◌, filter, length, nat_lt, slice_get, Contains}
use Rattle.std.specs.Bool.{Decides}
use Rattle.std.specs.List.{list_any, list_all, flat_map}
use Rattle.board_defs.specs.declared.board.Ctl.{Ctl}
use Rattle.board_defs.specs.declared.board.RawBoard.{RawBoard}
use Rattle.board_defs.specs.declared.board.Drive.{Drive}
use Rattle.board_defs.specs.declared.board.Drive.TheVariants.{AlwaysOn, OneSided, By}
use Rattle.board_defs.specs.Pins.{IsCell}
use Rattle.board_defs.specs.Decided.{is_by}
use Rattle.net_classes.specs.declared.closed_nets.ClosedNets.{ClosedNets}
use Rattle.net_classes.specs.declared.control_sets.ControlSet.{ControlSet}
use Rattle.net_classes.specs.inner.Known.{KnownBoard, driven_in}
use Rattle.net_classes.specs.inner.ControlSets.{IsSet, has_control}
use Rattle.net_facts.specs.Kept.{drives_there}
use Rattle.net_classes.specs.Pairs.{drivers_at}

-- control `c` has a driver on one of these nets
abbrev pub drives_some : RawBoard → List ℕ → Ctl → Bool
drives_some board nets c = list_any (λ n. drives_there board c (slice_get board.nets n)) nets

-- the driver is neither always on nor one-sided, and `passes` is true of its control
abbrev pub is_by_one : (Ctl → Bool) → Drive → Bool
is_by_one passes AlwaysOn = false
is_by_one passes OneSided = false
is_by_one passes (By c) = passes c

-- there are drivers, and each satisfies `is_by_one`
abbrev pub are_by_some : (Ctl → Bool) → List Drive → Bool
are_by_some passes [] = false
are_by_some passes (d ∷ ds) = list_all (is_by_one passes) (d ∷ ds)

-- net `n` is covered, and each of its tested drivers has a control with a driver on one of these nets
abbrev pub is_closed_by : RawBoard → List ℕ → ℕ → Bool
is_closed_by board nets n = are_by_some (drives_some board nets) (drivers_at board n)

abbrev pub AreClosed : RawBoard → List ℕ → List ℕ → Type 0
AreClosed board nets closed = (n : ℕ) → Decides (is_closed_by board nets n) (Contains closed n)

-- `c` is the control of the first tested driver of net `n`, and each tested driver of net `n` has a control in the set
abbrev pub closes : RawBoard → ControlSet → Ctl → ℕ → Bool
closes board set c n = is_by c (slice_get (drivers_at board n) 0) && list_all (is_by_one (has_control set)) (drivers_at board n)

-- the nets whose first tested driver has a control in `controls`, and whose tested drivers all have a control in the set
abbrev pub closed_in : KnownBoard → ControlSet → List Ctl → List ℕ
closed_in known set controls = flat_map (λ c. filter (closes known.board set c) (driven_in known c)) controls

-- the control is in one of the two sets
abbrev pub has_either : ControlSet → ControlSet → Ctl → Bool
has_either set others c = has_control set c || has_control others c

-- net `n` is covered, and each of its tested drivers has a control in one of the two sets
abbrev pub closes_beside : RawBoard → ControlSet → ControlSet → ℕ → Bool
closes_beside board set others n =
    nat_lt 0 (length (drivers_at board n))
    && list_all (is_by_one (has_either set others)) (drivers_at board n)

-- the covered nets with a driver of control `c` on which each tested driver has a control in one of the two sets
abbrev pub closed_beside : KnownBoard → ControlSet → ControlSet → Ctl → List ℕ
closed_beside known set others c = filter (closes_beside known.board set others) (driven_in known c)

-- Each control in `others` has a driver on one of the nets. Each control that is not in `set` and has such a driver is in `others`.
pub record AreOthers (board : RawBoard) (set : ControlSet) (nets : List ℕ) (others : ControlSet) : Type 0 where
  pub passes : Ctl → Bool
  pub are_set : IsSet board passes others
  pub drive : (c : Ctl) → passes c ≡ true → drives_some board nets c ≡ true
  pub all : (c : Ctl) → IsCell board c → drives_some board nets c ≡ true → has_control set c ≡ false → passes c ≡ true

-- `set` is a consistent set. Its marks are those of some predicate, and its list of members has each cell
-- that satisfies the predicate.
pub record IsSomeSet (board : RawBoard) (set : ControlSet) : Type 0 where
  pub passes : Ctl → Bool
  pub is_set : IsSet board passes set

-- `closed.nets` are the nets that `closed.by` closes, and `closed.set` has the controls with a driver on a net in `closed.by`.
-- `closed.others` may be any set of controls.
pub record AreClosedNets (board : RawBoard) (closed : ClosedNets) : Type 0 where
  pub set_is : IsSet board (drives_some board closed.by) closed.set
  pub nets_are : AreClosed board closed.by closed.nets
  pub others_are : IsSomeSet board closed.others
