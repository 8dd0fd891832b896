-- Steps up until the tree is balanced.
use Rattle.std.proofs.Common.{◌≡◌, ℕ, suc, ◌<◌, List, length, Some, None, refl, subst, arith}
use Rattle.lsa_region.specs.Ref.{Ref}
use Rattle.lsa_region.specs.declared.end.End.{End}
use Rattle.lsa_region.specs.Region.{View, link_of, IsWell, IsSummed, live_bytes}
use Rattle.lsa_shape.specs.Shapes.{TreeShape, IsIn}
use Rattle.lsa_shape.specs.Ways.{Fork, hole}
use Rattle.lsa_shape.specs.laws.Readings.{steps_up}
use Rattle.lsa_tree.specs.Entries.{balance_of}
use Rattle.lsa_tree.specs.calls.Placing.{IsPlaced, PlaceIn, IsTreeChanged, IsTipped, IsStepped, IsSettled}
use Rattle.lsa_tree.proofs.Placed.{formed-up}
use Rattle.lsa_tree.proofs.Changed.{changed-same, changed-then}

-- how many entries are above an end
abbrev pub above_end : View → End → ℕ
above_end v at = steps_up (live_bytes v) (link_of v) at

-- from a place at the start so far up
pub record IsUnderWay (v w : View) (start at : End) (p : PlaceIn v start) (way : List Fork) (shape : TreeShape) (here there : ℕ) : Type 0 where
  pub place : IsPlaced p.tree w p.refs way shape here there p.depth
  pub end : hole p.tree.top way ≡ at
  pub up : p.here ≡ suc p.there → here ≡ suc there
  pub down : p.there ≡ suc p.here → there ≡ suc here
  pub changed : IsTreeChanged v w p.tree p.refs
  pub leaning : p.here ≡ suc p.there → IsTipped v p.shape p.here → IsTipped w shape here
  pub within : (z : Ref) → IsIn z p.shape → IsIn z shape
  pub level : p.here ≡ suc p.there → IsTipped v p.shape p.here → (z : Ref) → IsIn z p.shape → balance_of v z ≡ 0 → balance_of w z ≡ 0

-- as one value
abbrev pub IsUnderWayAt : (v : View) → View → (start : End) → End → PlaceIn v start → Type 0
IsUnderWayAt v w start at p = (way : List Fork) × (shape : TreeShape) × (here : ℕ) × (there : ℕ) × IsUnderWay v w start at p way shape here there

pub way-start : (v : View) (start : End) (p : PlaceIn v start) → IsUnderWayAt v v start start p
way-start v start p = (
  p.way,
  p.shape,
  p.here,
  p.there,
  record {
    place = p.is;
    end = p.end;
    up = λ e. e;
    down = λ e. e;
    changed = changed-same v p.tree p.refs;
    leaning = λ g l. l;
    within = λ z i. i;
    level = λ g l z i zero_z. zero_z;
  },
)

module _ (v w : View) (start at : End) (p : PlaceIn v start) (way : List Fork) (shape : TreeShape) (here there : ℕ) (u : IsUnderWay v w start at p way shape here there) where
  -- the place that was come to
  abbrev pub place-now : PlaceIn w at
  place-now = record { tree = p.tree; refs = p.refs; way = way; shape = shape; here = here; there = there; depth = p.depth; is = u.place; end = u.end }

  module _ (x : View) where
    pub settled-now : IsStepped w x at place-now None → IsSettled v x start p
    settled-now s = record {
      changed = changed-then v w p.tree p.refs x u.changed s.changed;
      done = s.done refl;
      level = λ grown leaning z i zero_z. s.level (u.up grown) (u.leaning grown leaning) z (u.within z i) (u.level grown leaning z i zero_z);
    }

    pub way-on : (end : End) → IsStepped w x at place-now (Some end) → IsUnderWayAt v x start end p
    way-on end s = let o = s.on end refl in (
      o.0,
      o.1,
      o.2,
      o.3,
      record {
        place = o.4;
        end = o.5;
        up = λ grown. o.7.0 (u.up grown);
        down = λ sunk. o.7.1 (u.down sunk);
        changed = changed-then v w p.tree p.refs x u.changed s.changed;
        leaning = λ grown leaning. o.9 (u.up grown) (u.leaning grown leaning);
        within = λ z i. o.8 z (u.within z i);
        level = λ grown leaning z i zero_z. s.level (u.up grown) (u.leaning grown leaning) z (u.within z i) (u.level grown leaning z i zero_z);
      },
    )

    pub way-less : (end : End) → IsStepped w x at place-now (Some end) → IsWell w → IsSummed w → IsWell x → IsSummed x → above_end x end < above_end w at
    way-less end s well summed well_x summed_x =
        let o = s.on end refl in
        let first : above_end w at ≡ length way = subst (λ e. above_end w e ≡ length way) u.end (formed-up p.tree w p.refs well summed way shape u.place.form) in
        let next : above_end x end ≡ length o.0 = subst (λ e. above_end x e ≡ length o.0) o.5 (formed-up p.tree x p.refs well_x summed_x o.0 o.1 o.4.form) in
        omega (arith, first, next, o.6)
