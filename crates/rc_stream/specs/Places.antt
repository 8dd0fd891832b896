-- Positions along a stream.
use Rattle.std.specs.Prelude.{cond, List, [], ◌∷◌, Option, Some, None, Result, Ok, Err, ⊤, IsTrue}
use Rattle.std.specs.Ordering.{is_le}
use Rattle.rc_position.specs.declared.positions.Pos.{Pos}
use Rattle.rc_position.specs.Position.{pos_cmp}
use Rattle.rc_mutation.specs.declared.fragments.Frag.{Frag}
use Rattle.rc_stream.specs.declared.streams.StreamErr.{StreamErr}
use Rattle.rc_stream.specs.Merging.{place_of}

-- x is not before the position
abbrev pub Reaches : Pos → Pos → Type 0
Reaches to x = IsTrue (is_le (pos_cmp to x))

-- x is not before the fragment that was given, if one was
abbrev pub Passes : Result (Option Frag) StreamErr → Pos → Type 0
Passes (Ok (Some f)) x = Reaches (place_of f).0 x
Passes (Ok None) x = ⊤
Passes (Err e) x = ⊤

-- the nearer of a position and that of the first of fragments
abbrev pub bound_of : Pos → List Frag → Pos
bound_of x [] = x
bound_of x (f ∷ fs) = cond (is_le (pos_cmp x (place_of f).0)) x (place_of f).0
