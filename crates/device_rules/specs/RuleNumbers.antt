-- The numbers of the rules, and the report of a rule that is broken.
use Rattle.std.specs.Prelude.{ℕ}
use Rattle.device_rules.specs.declared.broken.Rule.{Rule}
use Rattle.device_rules.specs.declared.broken.Rule.TheVariants.{Mandatory, Ports, TestPort, PinMap, Opcodes, Instructions, Patterns, Cells, Places, Controls, DisableValues, Stages, Drivers, Modes}
use Rattle.device_rules.specs.declared.broken.Broken.{Broken}

-- the rule's number, by which a report names the rule
abbrev pub rule_number : Rule → ℕ
rule_number Mandatory = 1
rule_number Ports = 2
rule_number TestPort = 3
rule_number PinMap = 4
rule_number Opcodes = 5
rule_number Instructions = 6
rule_number Patterns = 7
rule_number Cells = 8
rule_number Places = 9
rule_number Controls = 10
rule_number DisableValues = 11
rule_number Stages = 12
rule_number Drivers = 13
rule_number Modes = 14

-- the report that `item` is the first item that breaks this rule
abbrev pub broken_at : Rule → ℕ → Broken
broken_at rule item = record { rule = rule_number rule; item = item }
