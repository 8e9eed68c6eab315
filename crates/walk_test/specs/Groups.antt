-- Groups of walk nets, and the set of groups that explains a log of the walking test. A group consists of
-- walk nets that are shorted together. The walk nets are the nets that the walking test observes.
use Rattle.std.specs.Prelude.{ℕ, suc, ◌<◌, ◌≤◌, ◌==◌, Bool, if◌then◌else◌, List, [], ◌∷◌, length, Option, Some, None, slice_index_or, All, AllPairs, Contains, MatchOption}
use Rattle.std.specs.List.{list_any}
use Rattle.board_defs.specs.declared.board.RawBoard.{RawBoard}
use Rattle.tap_defs.specs.board.FaultSet.{Or, FaultSet, no_faults}
use Rattle.tap_defs.specs.board.Explaining.{ExplainedBy}
use Rattle.walk_test.specs.WalkTest.{walk_nets, walk_row_list}

-- each number is less than the later numbers
abbrev pub Rise : List ℕ → Type 0
Rise numbers = AllPairs (λ a b. a < b) numbers

-- the lowest net of a group, which is the group's first net; 0 for a group without nets
abbrev pub least_of : List ℕ → ℕ
least_of group = slice_index_or group 0 0

-- A set of groups as a list. Each group has two or more walk nets, in net order. No net is in two groups. The groups are in the order of
-- their lowest nets.
pub record AreGroups (board : RawBoard) (groups : List (List ℕ)) : Type 0 where
  pub several : All (λ group. 2 ≤ length group) groups
  pub walked : All (λ group. All (λ n. Contains (walk_nets board) n) group) groups
  pub rise : All Rise groups
  pub disjoint : AllPairs (λ one other. (n : ℕ) → Contains one n → Contains other n → ⊥) groups
  pub order : AllPairs (λ one other. least_of one < least_of other) groups

-- The number of the group that has the net, if there is such a group. The groups of the list are numbered from `k` on.
abbrev pub group_from : ℕ → List (List ℕ) → ℕ → Option ℕ
group_from k [] n = None
group_from k (group ∷ groups) n = if list_any (λ m. m == n) group then Some k else group_from (suc k) groups n

abbrev pub group_of : List (List ℕ) → ℕ → Option ℕ
group_of groups n = group_from 0 groups n

-- the Or shorts of the groups, and no other fault
abbrev pub or_shorts : List (List ℕ) → FaultSet
or_shorts groups = record no_faults { short = group_of groups; kind = λ k. Or }

-- `groups` is a set of groups of the board, and it explains the log: the log has the shape of a log of the
-- walking test, and in every run of the test with the Or shorts of these groups and no other fault, each
-- compared bit that an SDR statement captures is the log's bit.
pub record Explain (board : RawBoard) (log : List (List Bool)) (groups : List (List ℕ)) : Type 0 where
  pub are : AreGroups board groups
  pub explained : ExplainedBy board (or_shorts groups) (walk_row_list board) log

-- `found` is the set of groups that explains the log, or `None` if no set does
abbrev pub AreFound : RawBoard → List (List Bool) → Option (List (List ℕ)) → Type 0
AreFound board log found = MatchOption found ((groups : List (List ℕ)) → Explain board log groups → ⊥) (λ groups. Explain board log groups)

-- the nets of a group are on the board
abbrev pub IsGroupOnBoard : RawBoard → List ℕ → Type 0
IsGroupOnBoard board group = All (λ n. n < length board.nets) group

-- if a list of groups is given, the nets of each group are on the board
abbrev pub AreNamed : RawBoard → Option (List (List ℕ)) → Type 0
AreNamed board groups = MatchOption groups (Unit {0}) (λ list. All (IsGroupOnBoard board) list)
