-- The labels that a log gives the walk nets, the groups of nets with equal labels, and the bits that agree with labels. A net's label is
-- the place, in the list of walk nets, of the first walk net whose 1 the net reads.
use Rattle.std.specs.Prelude.{◌≡◌, ℕ, suc, ◌<◌, ◌≤◌, ◌==◌, nat_le, nat_lt, ◌^◌, Bool, true, false, if◌then◌else◌, ◌&&◌, ◌||◌, List, [], ◌∷◌, length, fold, replicate, Option, Some, None, slice_get, slice_index_or, All, Contains}
use Rattle.std.specs.List.{list_all, flat_map, range_with_len}
use Rattle.board_defs.specs.Pins.{is_same}
use Rattle.tap_defs.specs.board.NetBits.{is_in_short}
use Rattle.plan_tables.specs.Assigned.{assigned}
use Rattle.response_log.specs.LogRows.{bit_in}
use Rattle.walk_test.specs.declared.tables.NetCells.{NetCells}
use Rattle.walk_test.specs.Groups.{group_of}

-- two nets are in the same group; each net is given by the number of its group, or `None` if it is in no group
abbrev pub is_one_group : Option ℕ → Option ℕ → Bool
is_one_group None other = false
is_one_group (Some k) other = is_in_short other k

-- `a` and `b` are equal, or they are nets of one group
abbrev pub are_joined : List (List ℕ) → ℕ → ℕ → Bool
are_joined groups a b = (a == b) || is_one_group (group_of groups a) (group_of groups b)

-- the first row with a 1 at this position, or the number of rows if there is none
abbrev pub first_one : List (List Bool) → ℕ → ℕ
first_one [] at = 0
first_one (row ∷ log) at = if slice_index_or row at false then 0 else suc (first_one log at)

-- The label of a walk net: the first row in which the net's first compared cell reads 1, or the number of rows if there is no such row. Row
-- j is the row in which the walk net at place j carries 1, so a label below the number of rows is the place of a walk net.
abbrev pub label_of : List (List Bool) → NetCells → ℕ
label_of log cells = first_one log (slice_index_or cells.compared 0 0)

-- the first compared position of a net, or 0 if there is none
abbrev pub first_at : NetCells → ℕ
first_at cells = slice_index_or cells.compared 0 0

-- the item of `firsts` at the net's first compared position: the first row in which this position reads 1, or `none` for no row
abbrev pub first_in : ℕ → List ℕ → NetCells → ℕ
first_in none firsts cells = slice_index_or firsts (first_at cells) none

-- all compared positions of a net have the same row in `firsts`
abbrev pub is_even : ℕ → List ℕ → NetCells → Bool
is_even none firsts cells = list_all (λ at. slice_index_or firsts at none == first_in none firsts cells) cells.compared

-- writes a 1 at each compared position of the net
abbrev pub with_compared : List Bool → NetCells → List Bool
with_compared bits cells = assigned (λ at. at) (λ at. true) bits cells.compared

abbrev pub compared_bits : ℕ → List NetCells → List Bool
compared_bits len nets = fold with_compared (replicate len false) nets

-- `mask` has a 1 exactly at the compared positions of the nets, and each net has a compared position
pub record AreCompared (nets : List NetCells) (mask : List Bool) : Type 0 where
  pub all : (i at : ℕ) (net : NetCells) → slice_get nets i ≡ Some net → Contains net.compared at → slice_index_or mask at false ≡ true
  pub only : (at : ℕ) → slice_index_or mask at false ≡ true
      → (i : ℕ) × (net : NetCells) × (slice_get nets i ≡ Some net) × Contains net.compared at
  pub some : (i : ℕ) (net : NetCells) → slice_get nets i ≡ Some net → 0 < length net.compared

-- the net has compared positions, and each is within a row of `len` bits
pub record HasPlaces (len : ℕ) (net : NetCells) : Type 0 where
  pub some : 0 < length net.compared
  pub within : All (λ at. at < len) net.compared

-- a log, the nets whose rows the log has, and the compared positions of a row
pub record LoggedNets : Type 0 where
  pub log : List (List Bool)
  pub nets : List NetCells
  pub mask : List Bool

abbrev pub logged_nets : List (List Bool) → List NetCells → List Bool → LoggedNets
logged_nets log nets mask = record { log = log; nets = nets; mask = mask }

-- The log has one row for each net and fewer than 2^32 rows. Each row is as long as the mask. The mask has a 1 exactly at the compared
-- positions of the nets, and each net has such a position.
pub record AreLoggedNets (it : LoggedNets) : Type 0 where
  pub few : length it.log < 2 ^ 32
  pub rows : length it.log ≡ length it.nets
  pub bits : All (λ row. length row ≡ length it.mask) it.log
  pub compared : AreCompared it.nets it.mask

-- two rows read the same at every compared position
abbrev pub ReadTheSame : List (List Bool) → List Bool → ℕ → ℕ → Type 0
ReadTheSame log mask j other = (at : ℕ) → slice_index_or mask at false ≡ true → bit_in log j at ≡ bit_in log other at

-- A group starts in row j with the net whose first compared position is `own`: this position is compared and reads 1 in row j, and no
-- compared position that reads 1 in row j has a row in `firsts` yet.
pub record StartsGroup (log : List (List Bool)) (mask : List Bool) (j own none : ℕ) (firsts : List ℕ) : Type 0 where
  pub is_read : (slice_index_or mask own false && bit_in log j own) ≡ true
  pub fresh : (at : ℕ) → slice_index_or mask at false ≡ true → bit_in log j at ≡ true → slice_index_or firsts at none ≡ none

-- if a compared position reads 1 in row j, its item in `new` is j; each other compared position has the same item in `new` as in `old`
pub record AreStarted (log : List (List Bool)) (mask : List Bool) (j none : ℕ) (old new : List ℕ) : Type 0 where
  pub marked : (at : ℕ) → slice_index_or mask at false ≡ true → bit_in log j at ≡ true → slice_index_or new at none ≡ j
  pub kept : (at : ℕ) → slice_index_or mask at false ≡ true → bit_in log j at ≡ false
      → slice_index_or new at none ≡ slice_index_or old at none

-- `row` if it is less than j, and otherwise `none`
abbrev pub below : ℕ → ℕ → ℕ → ℕ
below j none row = if nat_lt row j then row else none

-- The first row of a position is the first row in which it reads 1. The first row of position `own` is row k or an earlier row. A compared
-- position reads 1 in row k if and only if it has the same first row as position `own`.
pub record IsRowRight (log : List (List Bool)) (mask : List Bool) (k own : ℕ) : Type 0 where
  pub low : first_one log own ≤ k
  pub reads : (at : ℕ) → slice_index_or mask at false ≡ true → bit_in log k at ≡ (first_one log at == first_one log own)

-- Each of the first j rows satisfies `IsRowRight` for the first compared position of the net that carries 1
-- in this row. For each compared position, `firsts` has the first of these rows in which the position reads
-- 1, or `none` if there is no such row.
pub record AreRead (log : List (List Bool)) (mask : List Bool) (nets : List NetCells) (none j : ℕ) (firsts : List ℕ) : Type 0 where
  pub right : (k : ℕ) (net : NetCells) → k < j → slice_get nets k ≡ Some net → IsRowRight log mask k (first_at net)
  pub found : (at : ℕ) → slice_index_or mask at false ≡ true → slice_index_or firsts at none ≡ below j none (first_one log at)

-- In row j, all compared cells of the net at place i read 1 if the nets at places i and j have the same label, and otherwise 0.
abbrev pub net_shows : List (List Bool) → List ℕ → ℕ → ℕ → NetCells → Bool
net_shows log labels j i cells =
    list_all
    (λ at. is_same (bit_in log j at) (slice_index_or labels i 0 == slice_index_or labels j 0))
    cells.compared

-- in row j, each compared cell of each net i reads 1 if nets i and j have the same label, and otherwise 0
abbrev pub ShowsLabelsIn : List (List Bool) → List ℕ → List NetCells → ℕ → Type 0
ShowsLabelsIn log labels cells j = (i : ℕ) (net : NetCells) → slice_get cells i ≡ Some net → net_shows log labels j i net ≡ true

abbrev pub ShowsLabels : List (List Bool) → List ℕ → List NetCells → Type 0
ShowsLabels log labels cells = (j : ℕ) → j < length cells → ShowsLabelsIn log labels cells j

-- the nets with label k, in the order of `nets`; nets without a label are left out
abbrev pub members : List ℕ → List ℕ → ℕ → List ℕ
members [] labels k = []
members (n ∷ nets) [] k = []
members (n ∷ nets) (label ∷ labels) k = if label == k then n ∷ members nets labels k else members nets labels k

-- the nets as a group if there are two or more, and otherwise no group
abbrev pub where_several : List ℕ → List (List ℕ)
where_several nets = if nat_le 2 (length nets) then nets ∷ [] else []

-- the nets with label k as a group if there are two or more, and otherwise no group
abbrev pub group_at : List ℕ → List ℕ → ℕ → List (List ℕ)
group_at nets labels k = if nat_le 2 (length (members nets labels k)) then members nets labels k ∷ [] else []

-- the groups of nets with equal labels, in the order of their labels; labels that are not places of nets are ignored
abbrev pub groups_by : List ℕ → List ℕ → List (List ℕ)
groups_by nets labels = flat_map (group_at nets labels) (range_with_len 0 (length labels))
