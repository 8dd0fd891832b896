-- Over readings that say what writes say, a cached stream at its beginning is led by these writes.
use Rattle.std.specs.Prelude.{◌≡◌, true, false, cond, List, [], ◌∷◌, Option, Some, None, IfSome, pos}
use Rattle.std.proofs.Common.{refl, sym, ap, ◌∙◌}
use Rattle.std.specs.declared.cmp.Ordering.{Ordering}
use Rattle.std.specs.declared.cmp.Ordering.TheVariants.{Less, Equal, Greater}
use Rattle.std.specs.Ordering.{is_gt, is_le}
use Rattle.rc_cell.specs.declared.rows.Row.{Row}
use Rattle.rc_cell.specs.declared.writes.Tomb.{Tomb}
use Rattle.rc_cell.specs.Winner.{empty_row}
use Rattle.rc_position.specs.declared.positions.Pos.{Pos}
use Rattle.rc_position.specs.Position.{pos_cmp}
use Rattle.rc_position.specs.laws.Bounds.{first_pos-least}
use Rattle.rc_mutation.specs.declared.fragments.Frag.TheVariants as frag
use Rattle.rc_mutation.specs.declared.mutations.Mutation.{Mutation}
use Rattle.rc_mutation.specs.Source.{source_at_static}
use Rattle.rc_stream.specs.Places.{Reaches}
use Rattle.rc_stream.specs.Snapshot.{There}
use Rattle.rc_stream.specs.Stream.{Stream, force}
use Rattle.rc_cacheread.specs.declared.readers.Stage.{Stage}
use Rattle.rc_cacheread.specs.Reading.{said_at}
use Rattle.rc_cacheread.specs.Sharing.{Fits, Leads}
use Rattle.rc_snapshots.specs.Streams.{first_position}
use Rattle.rc_cached.specs.Below.{LiesBelow, MayLieUnread}
use Rattle.rc_cached.specs.Streams.{SaysFrom}

from_first : (r : Ordering) → is_gt r ≡ false → is_le r ≡ true
from_first Less h = refl
from_first Equal h = refl
from_first Greater h = absurd (cc)

pub first_reaches : (x : Pos) → Reaches first_position x
first_reaches x = from_first (pos_cmp first_position x) (first_pos-least x)

-- this static row, and this tombstone in force from the first of all positions on
abbrev marked : Row → Option Tomb → Stream
marked row u = record { head = record { pt = None; statics = row }; tomb = None; left = frag.Change first_position u ∷ [] }

may_lie : (row : Row) (u : Option Tomb) → MayLieUnread (marked row u)
may_lie row u = record { whole = (refl, (tt, tt, tt)); apart = tt; first = refl }

marked_says : (y : Pos) (u : Option Tomb) → said_at y None (frag.Change first_position u ∷ []) ≡ said_at y u []
marked_says y u = ap (λ b. ((said_at y u []).0, cond b (force y u []) None)) (first_reaches y)

some_tomb : Tomb
some_tomb = record { ts = pos 0; dt = 0 }

-- what may lie unread says no one thing at any position
no_one_thing : (P : Stream → Type 0) (y : Pos) (v : There) → ((t : Stream) → MayLieUnread t → P t) → ((t : Stream) → MayLieUnread t → P t → v ≡ said_at y t.tomb t.left) → ⊥
no_one_thing P y v fits h =
    let one = may_lie empty_row None in
    let other = may_lie empty_row (Some some_tomb) in
    let a : v ≡ (empty_row, None) = h (marked empty_row None) one (fits (marked empty_row None) one) ∙ marked_says y None in
    let b : v ≡ (empty_row, Some some_tomb) = h (marked empty_row (Some some_tomb)) other (fits (marked empty_row (Some some_tomb)) other) ∙ marked_says y (Some some_tomb) in
    let e : None ≡ Some some_tomb = ap (λ (w : There). w.1) (sym a ∙ b) in
    absurd (cc)

pub leads : (writes : List Mutation) (o : Option Stream) (a : Stage) (x to : Pos) (u : Option Tomb) → ((t : Stream) → LiesBelow o t → Fits a x u t) → IfSome o (SaysFrom writes x to) → Leads writes (LiesBelow o) a x to u
leads writes None a x to u fits says = record {
  each = λ y v k b h. absurd (no_one_thing (Fits a x u) y v fits h);
  static_row = λ row h. (let m = may_lie (source_at_static writes) None in sym (h (marked (source_at_static writes) None) m (fits (marked (source_at_static writes) None) m)));
}
leads writes (Some s) a x to u fits says = record {
  each = λ y v k b h. says.each y k b ∙ sym (h s refl (fits s refl));
  static_row = λ row h. says.static_row ∙ sym (h s refl (fits s refl));
}
