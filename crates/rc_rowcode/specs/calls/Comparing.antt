-- Positions that are compared in place: what the components' codes hold that are still to be read.
use Rattle.std.specs.Prelude.{ℕ, zero, suc, List, [], ◌∷◌}
use Rattle.std.specs.Option.{option_map, unwrap_or}
use Rattle.rc_position.specs.declared.comps.Comp.{Comp}
use Rattle.rc_position.specs.declared.positions.Pos.{Pos}
use Rattle.rc_rowcode.specs.calls.Reading.{parse_component}
use Rattle.rc_rowcode.specs.declared.compare.Comps.{Comps}
use Rattle.rc_rowcode.specs.declared.compare.Comps.TheVariants as comps
use Rattle.rc_rowcode.specs.declared.compare.PosView.{PosView}

-- so many components, as far as their codes can be read
unfoldable pub listed_comps : ℕ → List ℕ → List Comp
listed_comps zero bytes = []
listed_comps (suc n) bytes = unwrap_or (option_map (λ x. x.0 ∷ listed_comps n x.1) (parse_component bytes)) []

-- the components as a list
abbrev pub seen_comps : Comps → List Comp
seen_comps (comps.Coded count bytes) = listed_comps count bytes.now
seen_comps (comps.Plain items) = items.now

-- the position that a view shows
abbrev pub seen_pos : PosView → Pos
seen_pos x = record { prefix = seen_comps x.comps; weight = x.weight }
