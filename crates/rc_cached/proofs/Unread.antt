-- What may lie below while nothing was read: it fits where each whole stream does, says no one thing anywhere, and may say anything.
use Rattle.std.specs.Prelude.{◌≡◌, true, false, cond, List, [], ◌∷◌, Option, Some, None, pos}
use Rattle.std.proofs.Common.{refl, sym, ap, ◌∙◌, subst}
use Rattle.std.specs.declared.cmp.Ordering.{Ordering}
use Rattle.std.specs.declared.cmp.Ordering.TheVariants.{Less, Equal, Greater}
use Rattle.std.specs.Ordering.{is_gt, is_le, nat_cmp, ordering_then}
use Rattle.rc_cell.specs.declared.rows.Row.{Row}
use Rattle.rc_cell.specs.declared.writes.Tomb.{Tomb}
use Rattle.rc_cell.specs.Winner.{empty_row}
use Rattle.rc_position.specs.declared.positions.Pos.{Pos}
use Rattle.rc_position.specs.declared.positions.Weight.TheVariants.{Before, At}
use Rattle.rc_position.specs.Position.{pos_cmp}
use Rattle.rc_position.specs.laws.Bounds.{first_pos-least}
use Rattle.rc_position.specs.laws.Orders.{pos_cmp_same}
use Rattle.rc_mutation.specs.declared.fragments.Frag.{Frag}
use Rattle.rc_mutation.specs.declared.fragments.Frag.TheVariants as frag
use Rattle.rc_stream.specs.Merging.{IsOrdered, StandsBefore, place_of, rows_here}
use Rattle.rc_stream.specs.Places.{Reaches}
use Rattle.rc_stream.specs.Showing.{IsFromStart}
use Rattle.rc_stream.specs.Snapshot.{There}
use Rattle.rc_stream.specs.Stream.{Stream, force}
use Rattle.rc_stream.specs.laws.Ordered.{Lt, before-through}
use Rattle.rc_stream.specs.laws.Says.{le_le}
use Rattle.rc_cacheread.specs.declared.readers.Stage.{Stage}
use Rattle.rc_cacheread.specs.declared.readers.Stage.TheVariants.{Away, Sought, Within}
use Rattle.rc_cacheread.specs.Reading.{AreRowsApart, StandFrom, row_of_these, said_at}
use Rattle.rc_cacheread.specs.Sharing.{Fits}
use Rattle.rc_snapshots.specs.Streams.{first_position}
use Rattle.rc_cached.specs.Below.{BeginsFirst, MayLieUnread}

-- ---- the first of all positions

from-first : (r : Ordering) → is_gt r ≡ false → is_le r ≡ true
from-first Less h = refl
from-first Equal h = refl
from-first Greater h = absurd (cc)

pub first-reaches : (x : Pos) → Reaches first_position x
first-reaches x = from-first (pos_cmp first_position x) (first_pos-least x)

through : (x y z : Pos) → Reaches x y → Reaches y z → Reaches x z
through x y z h k = le_le x y z (pos_cmp x y) (pos_cmp y z) refl refl h k

-- each fragment stands from there on
all-from : (x : Pos) → Reaches x first_position → (fs : List Frag) → StandFrom x fs
all-from x h [] = tt
all-from x h (f ∷ fs) = (through x first_position (place_of f).0 h (first-reaches (place_of f).0), all-from x h fs)

-- ---- where it fits, each whole stream does

begins-from : (x : Pos) (fs : List Frag) → BeginsFirst fs → StandFrom x fs → Reaches x first_position
begins-from x [] b h = absurd b
begins-from x (f ∷ fs) b h = subst (Reaches x) b h.0

pub fits-whole : (a : Stage) (x : Pos) (u : Option Tomb) (t s : Stream) → MayLieUnread t → Fits a x u t → IsFromStart s → AreRowsApart s.left → Fits a x u s
fits-whole Away x u t s m f w d = (w.1, d)
fits-whole Sought x u t s m f w d = (w.1, d, all-from x (begins-from x t.left m.first f.2) s.left, w.0)
fits-whole Within x u t s m f w d = (w.1, d, all-from x (begins-from x t.left m.first f.2) s.left, w.0 ∙ sym m.whole.0 ∙ f.3)

-- ---- a change at the first of all positions before what is to be said

-- this static row, and this tombstone in force before fragments
abbrev pub marked : Row → Option Tomb → List Frag → Stream
marked row u fs = record { head = record { pt = None; statics = row }; tomb = None; left = frag.Change first_position u ∷ fs }

pub marked-says : (y : Pos) (u : Option Tomb) (fs : List Frag) → said_at y None (frag.Change first_position u ∷ fs) ≡ said_at y u fs
marked-says y u fs = ap (λ b. ((said_at y u fs).0, cond b (force y u fs) None)) (first-reaches y)

pub may-marked : (row : Row) (u : Option Tomb) (fs : List Frag) → IsOrdered fs → AreRowsApart fs → StandsBefore (first_position, 0) fs → MayLieUnread (marked row u fs)
may-marked row u fs o a b = record { whole = (refl, (tt, b, o)); apart = a; first = refl }

-- ---- any fragments in order may be said there

-- a stream that may lie there says what fragments say where this tombstone is in force before them, and has this static row
pub record MaySay (row : Row) (u : Option Tomb) (fs : List Frag) : Type 0 where
  pub stream : Stream
  pub may : MayLieUnread stream
  pub says : (y : Pos) → said_at y stream.tomb stream.left ≡ said_at y u fs
  pub static_row : stream.head.statics ≡ row

with_mark : (row : Row) (u : Option Tomb) (fs : List Frag) → IsOrdered fs → AreRowsApart fs → StandsBefore (first_position, 0) fs → MaySay row u fs
with_mark row u fs o a b = record { stream = marked row u fs; may = may-marked row u fs o a b; says = λ y. marked-says y u fs; static_row = refl }

-- a fragment in order at the first of all positions is a change, so nothing is in force before it
no-force : (u : Option Tomb) (f : Frag) (fs : List Frag) → IsOrdered (f ∷ fs) → (place_of f).0 ≡ first_position → (y : Pos) → said_at y None (f ∷ fs) ≡ said_at y u (f ∷ fs)
no-force u (frag.Start pt) fs o e y = absurd o.0
no-force u (frag.Static row) fs o e y = absurd o.0
no-force u (frag.Row key row) fs o e y = (let w : At ≡ Before = ap (λ (p : Pos). p.weight) e in absurd (cc))
no-force u (frag.Change from tomb) fs o e y =
    let passed : Reaches from y = subst (λ p. Reaches p y) (sym e) (first-reaches y) in
    ap (λ b. (row_of_these (rows_here y fs), cond b (force y tomb fs) None)) passed ∙ sym (ap (λ b. (row_of_these (rows_here y fs), cond b (force y tomb fs) u)) passed)
no-force u frag.End fs o e y = absurd o.0

pub may-say : (row : Row) (u : Option Tomb) (fs : List Frag) → IsOrdered fs → AreRowsApart fs → MaySay row u fs
may-say row u [] o a = with_mark row u [] o a tt
may-say row u (f ∷ fs) o a =
    elim (pos_cmp first_position (place_of f).0) as (λ r. pos_cmp first_position (place_of f).0 ≡ r → MaySay row u (f ∷ fs)) [
      | Less ↦ λ e. (let b : Lt (first_position, 0) (place_of f) = ap (λ r. ordering_then r (nat_cmp 0 (place_of f).1)) e in with_mark row u (f ∷ fs) o a (b, before-through (first_position, 0) (place_of f) fs b o.1))
      | Equal ↦ λ e. (let at : (place_of f).0 ≡ first_position = sym (pos_cmp_same first_position (place_of f).0 e) in record {
        stream = record { head = record { pt = None; statics = row }; tomb = None; left = f ∷ fs };
        may = record { whole = (refl, o); apart = a; first = at };
        says = no-force u f fs o at;
        static_row = refl;
      })
      | Greater ↦ λ e. (let none : true ≡ false = sym (ap is_gt e) ∙ first_pos-least (place_of f).0 in absurd (cc))
    ] refl

-- ---- and no one thing is said by all

-- some tombstone
abbrev some_tomb : Tomb
some_tomb = record { ts = pos 0; dt = 0 }

-- where each stream fits that may lie there, they say no one thing at any position
pub no-one-thing : (P : Stream → Type 0) (y : Pos) (v : There) → ((t : Stream) → MayLieUnread t → P t) → ((t : Stream) → MayLieUnread t → P t → v ≡ said_at y t.tomb t.left) → ⊥
no-one-thing P y v fits h =
    let one = may-marked empty_row None [] tt tt tt in
    let other = may-marked empty_row (Some some_tomb) [] tt tt tt in
    let a : v ≡ (empty_row, None) = h (marked empty_row None []) one (fits (marked empty_row None []) one) ∙ marked-says y None [] in
    let b : v ≡ (empty_row, Some some_tomb) = h (marked empty_row (Some some_tomb) []) other (fits (marked empty_row (Some some_tomb) []) other) ∙ marked-says y (Some some_tomb) [] in
    let e : None ≡ Some some_tomb = ap (λ (w : There). w.1) (sym a ∙ b) in
    absurd (cc)
