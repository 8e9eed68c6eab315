-- The rules V5 to V7 on instruction codes and patterns. The first symbol of a code is nearest TDO. If a rule needs one
-- exact code, X counts as 0. The old edition of the standard is any edition before that of 2001.
use Rattle.std.specs.Prelude.{ℕ, ◌==◌, zip, List, [], ◌∷◌, length, map, replicate, Bool, true, false, ◌&&◌, ◌||◌, not, if◌then◌else◌, Option, Some, None, codes, find, option_and_then}
use Rattle.std.specs.List.{list_any, list_all}
use Rattle.std.specs.Str.{bytes_eq}
use Rattle.board_defs.specs.declared.device.Symbol.{Symbol}
use Rattle.board_defs.specs.declared.device.Symbol.TheVariants.{Zero, One, Any}
use Rattle.board_defs.specs.declared.device.Edition.{Edition}
use Rattle.board_defs.specs.declared.device.Edition.TheVariants.{Old, Of2001}
use Rattle.board_defs.specs.DeviceRules.{bit_of}
use Rattle.bsdl_strings.specs.declared.values.Opcode.{Opcode}
use Rattle.first_places.specs.Items.{first_break, or_else}

abbrev pub has_length : ℕ → List Symbol → Bool
has_length n code = length code == n

abbrev pub is_called : List ℕ → Opcode → Bool
is_called name op = bytes_eq op.name name

abbrev pub breaks_opcode : ℕ → List Opcode → Opcode → Bool
breaks_opcode ir before op = list_any (is_called op.name) before || not (list_all (has_length ir) op.codes)

-- V5: the number of the first wrong opcode, counted from 1. An opcode is wrong if an earlier opcode
-- has the same name, or if one of its codes does not have `ir` symbols, one for each bit of the
-- instruction register.
unfoldable pub v5 : ℕ → List Opcode → Option ℕ
v5 ir ops = first_break (breaks_opcode ir) ops

-- the symbol matches a 1; X matches both bits
abbrev pub fits_one : Symbol → Bool
fits_one One = true
fits_one Any = true
fits_one Zero = false

abbrev pub fits_zero : Symbol → Bool
fits_zero Zero = true
fits_zero Any = true
fits_zero One = false

abbrev pub first_of : List (List Symbol) → Option (List Symbol)
first_of [] = None
first_of (code ∷ codes) = Some code

abbrev pub opcode_called : List ℕ → List Opcode → Option Opcode
opcode_called name ops = find (is_called name) ops

abbrev pub first_code : List ℕ → List Opcode → Option (List Symbol)
first_code name ops = option_and_then (λ op. first_of op.codes) (opcode_called name ops)

-- the first code of PRELOAD if the description follows the 2001 edition and lists PRELOAD, or
-- otherwise the first code of SAMPLE
abbrev pub listed_preload_code : Edition → List Opcode → Option (List Symbol)
listed_preload_code Old ops = first_code (codes "SAMPLE") ops
listed_preload_code Of2001 ops = or_else (first_code (codes "PRELOAD") ops) (first_code (codes "SAMPLE") ops)

abbrev pub is_all_ones : List Symbol → Bool
is_all_ones code = list_all bit_of code

abbrev pub is_all_zeros : List Symbol → Bool
is_all_zeros code = not (list_any bit_of code)

-- there is a code, at least one of its symbols is 0 or X, and in the old edition at least one of its
-- symbols is 1
abbrev pub may_preload : Edition → Option (List Symbol) → Bool
may_preload edition None = false
may_preload Old (Some code) = not (is_all_zeros code) && not (is_all_ones code)
may_preload Of2001 (Some code) = not (is_all_ones code)

abbrev pub same_bit : Bool → Bool → Bool
same_bit true bit = bit
same_bit false bit = not bit

-- the codes have the same length and the same bits, if X counts as 0
abbrev pub same_code : List Symbol → List Symbol → Bool
same_code a b = (length a == length b) && list_all (λ pair. same_bit (bit_of pair.0) (bit_of pair.1)) (zip a b)

abbrev pub is_given_code : List Symbol → Option (List Symbol) → Bool
is_given_code code None = false
is_given_code code (Some other) = same_code code other

-- there is an EXTEST code, at least one of its symbols is 0 or X, and it differs from the preload code
abbrev pub may_extest : Option (List Symbol) → Option (List Symbol) → Bool
may_extest None preload = false
may_extest (Some code) preload = not (is_all_ones code) && not (is_given_code code preload)

-- the instruction is not listed, or all symbols of one of its codes pass the test `fits`
abbrev pub has_code : (Symbol → Bool) → Option Opcode → Bool
has_code fits None = true
has_code fits (Some op) = list_any (λ code. list_all fits code) op.codes

abbrev pub extest_holds : Edition → List Opcode → Bool
extest_holds Old ops = has_code fits_zero (opcode_called (codes "EXTEST") ops)
extest_holds Of2001 ops = may_extest (first_code (codes "EXTEST") ops) (listed_preload_code Of2001 ops)

-- V6: the first instruction without a usable code: 1 for the preload instruction (`may_preload`), 2
-- for EXTEST (`extest_holds`), and 3 for BYPASS, which needs a code that matches all ones if it is
-- listed
unfoldable pub v6 : Edition → List Opcode → Option ℕ
v6 edition ops =
    if not (may_preload edition (listed_preload_code edition ops)) then Some 1 else
    if not (extest_holds edition ops) then Some 2 else
    if has_code fits_one (opcode_called (codes "BYPASS") ops) then None else Some 3

-- the two symbols nearest TDO are 01
abbrev pub ends_in_01 : List Symbol → Bool
ends_in_01 (One ∷ Zero ∷ symbols) = true
ends_in_01 symbols = false

abbrev pub may_be_idcode : Option (List Symbol) → Bool
may_be_idcode None = true
may_be_idcode (Some code) = has_length 32 code

-- V7: 1 if the capture pattern does not have `ir` symbols or its two symbols nearest TDO are not
-- 01; otherwise 2 if there is an IDCODE pattern that does not have 32 symbols, and None if the rule holds
unfoldable pub v7 : ℕ → List Symbol → Option (List Symbol) → Option ℕ
v7 ir capture idcode =
    if not (has_length ir capture && ends_in_01 capture) then Some 1 else
    if may_be_idcode idcode then None else Some 2

-- the symbol, with 0 in place of X
abbrev pub settled : Symbol → Symbol
settled One = One
settled Zero = Zero
settled Any = Zero

abbrev pub settled_code : Option (List Symbol) → List Symbol
settled_code None = []
settled_code (Some code) = map settled code

-- the preload code, with 0 in place of each X; it has no symbols if the description lists no preload code
unfoldable pub preload : Edition → List Opcode → List Symbol
preload edition ops = settled_code (listed_preload_code edition ops)

-- The EXTEST code, with 0 in place of each X. In the old edition it consists of `ir` zeros. In the
-- 2001 edition it is the first EXTEST code that the description lists, or has no symbols if there is none.
unfoldable pub extest : Edition → ℕ → List Opcode → List Symbol
extest Old ir ops = replicate ir Zero
extest Of2001 ir ops = settled_code (first_code (codes "EXTEST") ops)
