-- The rule on the test access port and the compliance patterns.
use Rattle.std.specs.Prelude.{ℕ, List, [], ◌∷◌, ◌++◌, length, Bool, true, false, ◌&&◌, ◌||◌, ◌==◌, not, Option, Some, None, is_none, is_some}
use Rattle.std.specs.List.{list_any, list_all}
use Rattle.std.specs.Str.{bytes_eq}
use Rattle.board_defs.specs.declared.device.Mode.{Mode}
use Rattle.board_defs.specs.declared.device.Mode.TheVariants.{Inward, Outward, Both, Buffer, Linkage}
use Rattle.bsdl_parser.specs.declared.entity.Attribute.TheVariants.{TapScanIn, TapScanOut, TapScanMode, TapScanClock, TapScanReset, CompliancePatterns}
use Rattle.bsdl_parser.specs.declared.entity.Port.{Port}
use Rattle.bsdl_parser.specs.AttributeNumbers.{attribute_number}
use Rattle.bsdl_strings.specs.declared.values.Compliance.{Compliance}
use Rattle.device_rules.specs.declared.draft.TapPorts.{TapPorts}
use Rattle.first_places.specs.Items.{or_else, broken_by}
use Rattle.device_rules.specs.Ports.{port_of, bit_number}

abbrev pub is_inward : Mode → Bool
is_inward Inward = true
is_inward Outward = false
is_inward Both = false
is_inward Buffer = false
is_inward Linkage = false

abbrev pub is_outward : Mode → Bool
is_outward Outward = true
is_outward Inward = false
is_outward Both = false
is_outward Buffer = false
is_outward Linkage = false

-- there is a port, it has type bit, and its mode passes the test `mode`
abbrev pub is_plain_port : (Mode → Bool) → Option Port → Bool
is_plain_port mode None = false
is_plain_port mode (Some port) = is_none port.range && mode port.mode

abbrev pub is_named_among : List (List ℕ) → List ℕ → Bool
is_named_among names name = list_any (bytes_eq name) names

-- a TAP attribute that names the port `name` breaks V3: the name is one of `before`, no port of
-- type bit has this name, or the port's mode does not pass the test `mode`
abbrev pub breaks_tap : (Mode → Bool) → List Port → List (List ℕ) → List ℕ → Bool
breaks_tap mode ports before name = is_named_among before name || not (is_plain_port mode (port_of ports name))

-- like `breaks_tap` with mode in, but for TRST*, which a device need not have
abbrev pub reset_breaks : List Port → List (List ℕ) → Option (List ℕ) → Bool
reset_breaks ports before None = false
reset_breaks ports before (Some name) = breaks_tap is_inward ports before name

-- the names of TDI, TDO, TMS and TCK, in the order of their attributes
abbrev pub four_taps : TapPorts → List (List ℕ)
four_taps taps = taps.scan_in ∷ taps.scan_out ∷ taps.mode ∷ taps.clock ∷ []

abbrev pub listed_name : Option (List ℕ) → List (List ℕ)
listed_name None = []
listed_name (Some name) = name ∷ []

-- the names of the TAP ports: TDI, TDO, TMS, TCK and, if the device has one, TRST*
abbrev pub tap_names : TapPorts → List (List ℕ)
tap_names taps = four_taps taps ++ listed_name taps.reset

-- the number of the first TAP attribute that breaks the rule, in the order TAP_SCAN_IN, TAP_SCAN_OUT,
-- TAP_SCAN_MODE, TAP_SCAN_CLOCK, TAP_SCAN_RESET; None if each keeps it
abbrev pub wrong_tap : List Port → TapPorts → Option ℕ
wrong_tap ports taps =
    or_else (broken_by (attribute_number TapScanIn) (breaks_tap is_inward ports [] taps.scan_in))
    (or_else (broken_by (attribute_number TapScanOut) (breaks_tap is_outward ports (taps.scan_in ∷ []) taps.scan_out))
    (or_else (broken_by (attribute_number TapScanMode) (breaks_tap is_inward ports (taps.scan_in ∷ taps.scan_out ∷ []) taps.mode))
    (or_else
    (broken_by (attribute_number TapScanClock)
    (breaks_tap is_inward ports (taps.scan_in ∷ taps.scan_out ∷ taps.mode ∷ []) taps.clock))
    (broken_by (attribute_number TapScanReset) (reset_breaks ports (four_taps taps) taps.reset)))))

-- There are no compliance patterns. Or each word in their list of ports names a port bit, and each pattern has one
-- symbol for each of these words.
abbrev pub complies : List Port → Option Compliance → Bool
complies ports None = true
complies ports (Some compliance) =
    list_all (λ word. is_some (bit_number ports word)) compliance.ports
    && list_all (λ pattern. length pattern == length compliance.ports) compliance.patterns

-- V3: the number of the first TAP attribute that breaks the rule; if there is none, the number of COMPLIANCE_PATTERNS if this
-- attribute breaks the rule
unfoldable pub v3 : List Port → TapPorts → Option Compliance → Option ℕ
v3 ports taps compliance =
    or_else (wrong_tap ports taps)
    (broken_by (attribute_number CompliancePatterns) (not (complies ports compliance)))
