-- Samples of the sources that break rule V1, worked out by hand from the table of the attributes. A source is an
-- attribute or the pin map of the package.
use Rattle.std.proofs.Common.{◌≡◌, ℕ, List, [], ◌∷◌, ◌++◌, map, filter, Option, Some, None, codes, refl}
use Rattle.std.specs.List.{range_with_len}
use Rattle.bsdl_parser.specs.declared.entity.Attr.{Attr}
use Rattle.bsdl_parser.specs.declared.entity.AttrValue.{AttrValue}
use Rattle.bsdl_parser.specs.declared.entity.AttrValue.TheVariants.{Plain, Port, Number, Text}
use Rattle.bsdl_parser.specs.declared.entity.Constant.{Constant}
use Rattle.bsdl_parser.specs.declared.entity.Entity.{Entity}
use Rattle.device_check.specs.NumberedSources.{breaks_source}

abbrev attribute : ℕ → AttrValue → Attr
attribute number value = record { number = number; value = value }

-- the ten attributes that an entity must have, with these lengths of the instruction register and of the boundary register
abbrev needed : ℕ → ℕ → List Attr
needed instruction boundary =
    attribute 1 Plain ∷ attribute 2 (Port (codes "TDI")) ∷ attribute 3 (Port (codes "TDO"))
    ∷ attribute 4 (Port (codes "TMS")) ∷ attribute 5 (Port (codes "TCK"))
    ∷ attribute 6 (Number instruction) ∷ attribute 7 (Text (codes "SAMPLE (10)"))
    ∷ attribute 8 (Text (codes "01")) ∷ attribute 9 (Number boundary)
    ∷ attribute 10 (Text (codes "0 (BC_1, Q, OUTPUT2, X)")) ∷ []

-- the four optional attributes; the last one names this edition
abbrev optional : List ℕ → List Attr
optional edition =
    attribute 11 (Port (codes "TRST")) ∷ attribute 12 (Text (codes "X"))
    ∷ attribute 13 (Text (codes "(Q) (1)")) ∷ attribute 14 (Text edition) ∷ []

abbrev pin_map : List ℕ → Constant
pin_map name = record { name = name; text = codes "Q:1" }

-- an entity with these attributes, the pin maps P and R, and P as its default package
abbrev entity : List Attr → Entity
entity attributes = record {
  name = codes "E";
  fallback = Some (codes "P");
  ports = [];
  uses = [];
  constants = pin_map (codes "P") ∷ pin_map (codes "R") ∷ [];
  attributes = attributes;
}

-- the numbers of the sources that break V1
abbrev broken : Entity → Option (List ℕ) → List ℕ
broken e given = filter (breaks_source e given) (range_with_len 0 20)

abbrev broken_with : List Attr → List ℕ
broken_with attributes = broken (entity attributes) None

-- an entity without attributes breaks V1 only at the ten mandatory attributes
none_given : broken_with [] ≡ 1 ∷ 2 ∷ 3 ∷ 4 ∷ 5 ∷ 6 ∷ 7 ∷ 8 ∷ 9 ∷ 10 ∷ []
none_given = refl

-- the optional attributes may be missing, and the order of the attributes does not matter
given_once : broken_with (needed 2 1) ∷ broken_with (optional (codes "STD_1149_1_1990") ++ needed 2 1) ∷ [] ≡ [] ∷ [] ∷ []
given_once = refl

-- no attribute may be given twice, even with the same value
given_twice : broken_with (needed 2 1 ++ optional (codes "STD_1149_1_1993") ++ needed 2 1 ++ optional (codes "STD_1149_1_1993"))
    ≡ 1 ∷ 2 ∷ 3 ∷ 4 ∷ 5 ∷ 6 ∷ 7 ∷ 8 ∷ 9 ∷ 10 ∷ 11 ∷ 12 ∷ 13 ∷ 14 ∷ []
given_twice = refl

-- the instruction register has 2 to 255 bits, and the boundary register has 1 to 65,535 cells
lengths : broken_with (needed 1 0) ∷ broken_with (needed 255 65535) ∷ broken_with (needed 256 65536) ∷ []
    ≡ (6 ∷ 9 ∷ []) ∷ [] ∷ (6 ∷ 9 ∷ []) ∷ []
lengths = refl

-- an entity may name one of three editions, and the name must match exactly
editions : map (λ name. broken_with (needed 2 1 ++ optional name))
    (codes "STD_1149_1_1990" ∷ codes "STD_1149_1_1993" ∷ codes "STD_1149_1_2001"
    ∷ codes "STD_1149_1_1994" ∷ codes "STD_1149_1_199" ∷ codes "STD_1149_1_2001 " ∷ [])
    ≡ [] ∷ [] ∷ [] ∷ (14 ∷ []) ∷ (14 ∷ []) ∷ (14 ∷ []) ∷ []
editions = refl

-- a package that the caller gives is used instead of the default, even if it has no pin map
given_package : map (λ name. broken (entity (needed 2 1)) (Some name)) (codes "P" ∷ codes "R" ∷ codes "S" ∷ []) ≡ [] ∷ [] ∷ (15 ∷ []) ∷ []
given_package = refl

-- without a default the caller must give a package
no_default : map (broken (record (entity (needed 2 1)) { fallback = None })) (None ∷ Some (codes "R") ∷ []) ≡ (15 ∷ []) ∷ [] ∷ []
no_default = refl

-- an entity must have exactly one pin map for the package
pin_maps : map (λ constants. broken (record (entity (needed 2 1)) { constants = constants }) None)
    ([] ∷ (pin_map (codes "R") ∷ []) ∷ (pin_map (codes "P") ∷ pin_map (codes "R") ∷ pin_map (codes "P") ∷ []) ∷ [])
    ≡ (15 ∷ []) ∷ (15 ∷ []) ∷ (15 ∷ []) ∷ []
pin_maps = refl
