-- Lemmas about the two lists in parentheses of a compliance string: the port bits and the patterns.
use Rattle.std.proofs.Common.{◌≡◌, ℕ, ◌<◌, Bool, true, false, List, [], ◌∷◌, ◌++◌, length, Option, Some, None, inl, inr, refl, sym, ◌∙◌, ap}
use Rattle.board_defs.specs.declared.device.Symbol.{Symbol}
use Rattle.grammars.specs.Turn.{turn_of}
use Rattle.grammars.specs.inner.Reader.{found, refused, Outcome}
use Rattle.grammars.specs.Grammar.{turns, reader_of_grammar}
use Rattle.grammars.proofs.Grammars.{TakesToken, EachTurnTakes, goes_on, ends, stops, turn_shrinks}
use Rattle.grammars.proofs.ListReaders.{each_takes, read_front, found_front, value_of_list, no_value}
use Rattle.bsdl_strings.specs.declared.values.PortWord.{PortWord}
use Rattle.bsdl_strings.specs.declared.stop.Stop.{Stop}
use Rattle.bsdl_strings.specs.declared.stop.Stop.TheVariants.{Memory, At}
use Rattle.bsdl_strings.specs.Pieces.{pieces}
use Rattle.bsdl_strings.specs.inner.Reading.{StopsOn}
use Rattle.bsdl_strings.specs.Faults.{stop_fault, NamesEntry}
use Rattle.bsdl_strings.specs.Strings.{bit_behind, bit, bit_turn, first_parenthesis, second_parenthesis, compliance, IsCompliance, HasFirstParenthesis, IsNoCompliance}
use Rattle.bsdl_strings.specs.inner.Takes.{can_group, code_takes}

bit_of_takes : (name : List ℕ) (next : Option Bool) → EachTurnTakes (bit_behind name next)
bit_of_takes name (Some more) = tt
bit_of_takes name None = (tt, λ i. (tt, λ u. (tt, λ more. tt)))

bit_takes : TakesToken bit × EachTurnTakes bit
unfolding bit
bit_takes = (inl tt, (tt, λ name. (tt, λ next. bit_of_takes name next)))

pub turn_takes : (before : List PortWord) → TakesToken (bit_turn before) × EachTurnTakes (bit_turn before)
unfolding bit_turn
turn_takes before = (inl bit_takes.0, (bit_takes.1, λ one. tt))

first_takes : EachTurnTakes first_parenthesis
unfolding first_parenthesis
first_takes = (tt, λ u. λ before. turn_takes before)

second_takes : EachTurnTakes second_parenthesis
unfolding second_parenthesis
second_takes = (tt, λ u. (each_takes (can_group code_takes), λ patterns. (tt, λ v. tt)))

pub compliance_takes : EachTurnTakes compliance
unfolding compliance
compliance_takes = (first_takes, λ ports. (second_takes, λ patterns. tt))

turn_reads : (before : List PortWord) (one : PortWord × Bool) (tokens rest : List (List ℕ))
    → reader_of_grammar bit tokens ≡ found one rest
    → reader_of_grammar (bit_turn before) tokens ≡ found (turn_of one.1 (before ++ one.0 ∷ [])) rest
unfolding bit_turn
turn_reads before one tokens rest e = rw e refl

turn_refuses : (before : List PortWord) (tokens rest : List (List ℕ))
    → reader_of_grammar bit tokens ≡ refused rest
    → reader_of_grammar (bit_turn before) tokens ≡ refused rest
unfolding bit_turn
turn_refuses before tokens rest e = rw e refl

pub another_bit : (before all : List PortWord) (one : PortWord × Bool) (tokens rest : List (List ℕ))
    (outcome : Outcome (List ℕ) (List PortWord))
    → reader_of_grammar (turns bit_turn before) tokens ≡ outcome
    → reader_of_grammar bit tokens ≡ found one rest → one.1 ≡ true → all ≡ before ++ one.0 ∷ []
    → reader_of_grammar (turns bit_turn all) rest ≡ outcome
another_bit before all one tokens rest outcome so_far e more pushed =
    ap (λ xs. reader_of_grammar (turns bit_turn xs) rest) pushed
    ∙ goes_on bit_turn turn_takes before (before ++ one.0 ∷ []) tokens rest outcome so_far
    (turn_reads before one tokens rest e
    ∙ ap (λ b. found (turn_of b (before ++ one.0 ∷ [])) rest) more)

pub last_bit : (before all : List PortWord) (one : PortWord × Bool) (tokens rest : List (List ℕ))
    (outcome : Outcome (List ℕ) (List PortWord))
    → reader_of_grammar (turns bit_turn before) tokens ≡ outcome
    → reader_of_grammar bit tokens ≡ found one rest → one.1 ≡ false → all ≡ before ++ one.0 ∷ [] → outcome ≡ found all rest
last_bit before all one tokens rest outcome so_far e more pushed =
    ends bit_turn turn_takes before (before ++ one.0 ∷ []) tokens rest outcome so_far
    (turn_reads before one tokens rest e
    ∙ ap (λ b. found (turn_of b (before ++ one.0 ∷ [])) rest) more)
    ∙ ap (λ xs. found xs rest) (sym pushed)

pub bits_stop : (before : List PortWord) (stop : Stop) (tokens : List (List ℕ))
    (outcome : Outcome (List ℕ) (List PortWord))
    → reader_of_grammar (turns bit_turn before) tokens ≡ outcome
    → StopsOn stop (reader_of_grammar bit tokens) → StopsOn stop outcome
bits_stop before (Memory error) tokens outcome so_far e = tt
bits_stop before (At rest) tokens outcome so_far e =
    stops bit_turn turn_takes before tokens (pieces rest.now) outcome so_far
    (turn_refuses before tokens (pieces rest.now) e)

pub fewer_bits : (before : List PortWord) (one : PortWord × Bool) (tokens rest : List (List ℕ))
    → reader_of_grammar bit tokens ≡ found one rest → length rest < length tokens
fewer_bits before one tokens rest e =
    turn_shrinks bit_turn turn_takes before (turn_of one.1 (before ++ one.0 ∷ [])) tokens rest
    (turn_reads before one tokens rest e)

reads_compliance : (text : List ℕ) (mid : List (List ℕ)) (ports : List PortWord)
    (patterns : List (List Symbol))
    → reader_of_grammar first_parenthesis (pieces text) ≡ found ports mid
    → reader_of_grammar second_parenthesis mid ≡ found patterns []
    → reader_of_grammar compliance (pieces text) ≡ found (record { ports = ports; patterns = patterns }) []
unfolding compliance
reads_compliance text mid ports patterns e f = rw (e, f) refl

pub is_compliance : (text : List ℕ) (mid : List (List ℕ)) (ports : List PortWord)
    (patterns : List (List Symbol))
    → reader_of_grammar first_parenthesis (pieces text) ≡ found ports mid
    → reader_of_grammar second_parenthesis mid ≡ found patterns []
    → IsCompliance text (record { ports = ports; patterns = patterns })
is_compliance text mid ports patterns e f =
    value_of_list compliance compliance_takes (pieces text)
    (record { ports = ports; patterns = patterns }) (reads_compliance text mid ports patterns e f)

refuses_first : (text : List ℕ) (rest : List (List ℕ))
    → reader_of_grammar first_parenthesis (pieces text) ≡ refused rest
    → reader_of_grammar compliance (pieces text) ≡ refused rest
unfolding compliance
refuses_first text rest e = rw e refl

refuses_second : (text : List ℕ) (mid rest : List (List ℕ)) (ports : List PortWord)
    → reader_of_grammar first_parenthesis (pieces text) ≡ found ports mid
    → reader_of_grammar second_parenthesis mid ≡ refused rest
    → reader_of_grammar compliance (pieces text) ≡ refused rest
unfolding compliance
refuses_second text mid rest ports e f = rw (e, f) refl

no_first : (text : List ℕ) (rest : List (List ℕ))
    → reader_of_grammar first_parenthesis (pieces text) ≡ refused rest → HasFirstParenthesis text
    → ⊥
no_first text rest e h = let k = found_front first_parenthesis first_takes (pieces text) h.front h.back h.value h.split h.first in cc (e, k)

has_first : (text : List ℕ) (mid : List (List ℕ)) (ports : List PortWord)
    → reader_of_grammar first_parenthesis (pieces text) ≡ found ports mid → HasFirstParenthesis text
has_first text mid ports e =
    let k = read_front first_parenthesis first_takes (pieces text) ports mid e in
    record
    { front = k.front; back = mid; value = ports; split = k.split; first = k.whole; next = tt }

pub wrong_first : (text : List ℕ) (stop : Stop)
    → StopsOn stop (reader_of_grammar first_parenthesis (pieces text))
    → NamesEntry (IsNoCompliance text) (stop_fault stop 0)
wrong_first text (Memory error) e = tt
wrong_first text (At rest) e =
    record {
      no_value = no_value compliance compliance_takes (pieces text) (pieces rest.now)
          (refuses_first text (pieces rest.now) e);
      place = inl
          (refl, no_first text (pieces rest.now) e);
    }

pub wrong_second : (text : List ℕ) (mid : List (List ℕ)) (ports : List PortWord) (stop : Stop)
    → reader_of_grammar first_parenthesis (pieces text) ≡ found ports mid
    → StopsOn stop (reader_of_grammar second_parenthesis mid)
    → NamesEntry (IsNoCompliance text) (stop_fault stop 1)
wrong_second text mid ports (Memory error) e f = tt
wrong_second text mid ports (At rest) e f =
    record {
      no_value = no_value compliance compliance_takes (pieces text) (pieces rest.now)
          (refuses_second text mid (pieces rest.now) ports e f);
      place = inr
          (refl, has_first text mid ports e);
    }
