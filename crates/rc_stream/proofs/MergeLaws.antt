-- The laws of merging two streams.
use Rattle.std.specs.Prelude.{◌≡◌, List, ◌++◌, Option}
use Rattle.std.specs.Option.{option_to_list}
use Rattle.rc_cell.specs.declared.rows.Row.{Row}
use Rattle.rc_cell.specs.declared.writes.Tomb.{Tomb}
use Rattle.rc_cell.specs.Greatest.{greater}
use Rattle.rc_cell.specs.Orders.{tomb_cmp}
use Rattle.rc_position.specs.declared.positions.Pos.{Pos}
use Rattle.rc_mutation.specs.laws.ByKey.{joined_if_any}
use Rattle.rc_stream.specs.Stream.{Stream, force, says}
use Rattle.rc_stream.specs.Merging.{IsOrdered, IsTelling, joined_head, merged_stream, rows_here}
use Rattle.rc_stream.proofs.Merged.{merged-says}
use Rattle.rc_stream.proofs.Determined.{determined}
use Rattle.std.proofs.Common.{refl, ap, sym, subst, ◌∙◌}

pub head-merged : (s t : Stream) → (merged_stream s t).head ≡ joined_head s.head t.head
unfolding merged_stream
head-merged s t = refl

pub tomb-merged : (s t : Stream) → (merged_stream s t).tomb ≡ greater tomb_cmp s.tomb t.tomb
unfolding merged_stream
tomb-merged s t = refl

pub rows-merged : (s t : Stream) (x : Pos) → IsOrdered s.left → IsOrdered t.left → rows_here x (merged_stream s t).left ≡ option_to_list (joined_if_any (rows_here x s.left ++ rows_here x t.left))
unfolding merged_stream
rows-merged s t x o k = (merged-says s.tomb t.tomb s.left t.left o k).rows x

pub tombs-merged : (s t : Stream) (x : Pos) → IsOrdered s.left → IsOrdered t.left → force x (merged_stream s t).tomb (merged_stream s t).left ≡ greater tomb_cmp (force x s.tomb s.left) (force x t.tomb t.left)
unfolding merged_stream
tombs-merged s t x o k = (merged-says s.tomb t.tomb s.left t.left o k).tombs x

pub ordered-merged : (s t : Stream) → IsOrdered s.left → IsOrdered t.left → IsOrdered (merged_stream s t).left
unfolding merged_stream
ordered-merged s t o k = (merged-says s.tomb t.tomb s.left t.left o k).ordered

pub telling-merged : (s t : Stream) → IsOrdered s.left → IsOrdered t.left → IsTelling (merged_stream s t).tomb (merged_stream s t).left
unfolding merged_stream
telling-merged s t o k = (merged-says s.tomb t.tomb s.left t.left o k).telling

-- canonical streams that say the same are the same
pub determined-stream : (s t : Stream) → IsOrdered s.left → IsOrdered t.left → IsTelling s.tomb s.left → IsTelling t.tomb t.left → s.head ≡ t.head → s.tomb ≡ t.tomb → ((x : Pos) → says x s ≡ says x t) → s ≡ t
determined-stream s t o k c d head tomb same =
    let left : s.left ≡ t.left =
    determined s.tomb s.left t.left o k c (subst (λ u. IsTelling u t.left) (sym tomb) d)
    (λ x. ap (λ (p : List Row × Option Tomb). p.0) (same x))
    (λ x. ap (λ (p : List Row × Option Tomb). p.1) (same x) ∙ ap (λ u. force x u t.left) (sym tomb)) in
    λ i. record { head = head i; tomb = tomb i; left = left i }
