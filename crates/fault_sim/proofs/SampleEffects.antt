-- Samples of the bits that drivers give their nets and of the bits of compared cells under faults, row by row. The values are
-- worked by hand.
use Rattle.std.proofs.Common.{◌≡◌, Bool, true, false, [], ◌∷◌, map, Option, Some, None, refl}
use Rattle.board_defs.specs.declared.fault.Kind.{Kind}
use Rattle.board_defs.specs.declared.fault.Kind.TheVariants.{And, Or, First, Second}
use Rattle.fault_sim.specs.declared.feed.Source.TheVariants.{Code, Fixed}
use Rattle.fault_sim.specs.declared.feed.Feed.{Feed}
use Rattle.fault_sim.specs.declared.effect.Effect.TheVariants.{AtPin, Shorted}
use Rattle.fault_sim.specs.Effects.{feed_bit, effect_bit}

-- the feed of a net with code 2, that is, the bits that the net gets from its driver: 0 in row 0 and 1 in row 1
abbrev driven : Feed
driven = record { source = Code 2; off = None }

-- the feed of a driver that holds 1 in all rows
abbrev high : Feed
high = record { source = Fixed true; off = None }

-- the bit that a cell of two shorted nets reads in row 0 if 1 is expected
abbrev short_bit : Option Feed → Option Feed → Option Bool → Kind → Bool
short_bit first second pull kind = effect_bit (Shorted kind first second pull) 0 0 true

-- if both nets are driven, the bit depends on the kind of their short
both_driven : map (short_bit (Some driven) (Some high) None) (And ∷ Or ∷ First ∷ Second ∷ []) ≡ false ∷ true ∷ false ∷ true ∷ []
both_driven = refl

-- if only one net is driven, the cell reads the bit of this net
one_driven : short_bit (Some driven) None (Some true) Second ≡ false
one_driven = refl

-- if neither net is driven, the cell reads the pull
none_driven : short_bit None None (Some false) First ≡ false
none_driven = refl

-- a driver that a 0 in its own cell switches off and that carries code 2 is off in row 0 and on in row 1
switching : map (feed_bit (Some (record { source = Code 2; off = Some false }))) (0 ∷ 1 ∷ []) ≡ None ∷ Some true ∷ []
switching = refl

-- the value of an open pin is read only by the cells of this pin
open_pin : map (λ place. effect_bit (AtPin 3 false) 0 place true) (3 ∷ 2 ∷ []) ≡ false ∷ true ∷ []
open_pin = refl
