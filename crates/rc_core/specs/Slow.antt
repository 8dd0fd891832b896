-- Plain vectors as the versions of the definitions.
use Rattle.std.specs.Prelude.{◌≡◌, ◌↔◌, Bool, IsTrue, List, [], ◌∷◌, Option}
use Rattle.std.specs.Option.{MatchOption, option_to_list}
use Rattle.rc_position.specs.declared.positions.Pos.{Pos}
use Rattle.rc_core.specs.declared.entries.ChainKind.{ChainKind}
use Rattle.rc_core.specs.declared.slow.PlainVersion.{PlainVersion}
use Rattle.rc_core.specs.declared.slow.Seen.{Seen}
use Rattle.rc_core.specs.declared.slow.Side.{Side}
use Rattle.rc_core.specs.declared.slow.Side.TheVariants as side
use Rattle.rc_core.specs.Chain.{IsKnown, has_flag, states_at}
use Rattle.rc_core.specs.SpotState.{SpotState, spot_state}
use Rattle.rc_core.specs.Version.{Spot, On, Behind, Version}

-- a version of plain vectors
abbrev pub plain : PlainVersion → Version
plain v = record { pt = v.pt; statics = v.statics; static_flag = v.static_flag; entries = v.entries.items; phase = v.phase }

-- a position, or the gap right behind it
abbrev pub spot_at : Side → Pos → Spot
spot_at side.On x = On x
spot_at side.Behind x = Behind x

-- what is seen, as a state
abbrev pub seen_state : Seen → SpotState
seen_state s = spot_state s.flag (s.row ∷ []) (option_to_list s.tomb)

-- what is answered of a position by what is seen of it alone: whether it is known, or none where the gap behind it decides
abbrev pub IsDecidedBy : ChainKind → List Version → Pos → Option Bool → Type 0
IsDecidedBy kind versions x answer = MatchOption answer ((b : Bool) → b ≡ has_flag kind (states_at (Behind x) versions) → IsTrue b ↔ IsKnown kind versions x) (λ b. IsTrue b ↔ IsKnown kind versions x)
