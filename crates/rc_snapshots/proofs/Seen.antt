-- What the stream of a mutation that fits a schema says: over the whole partition what the mutation says.
use Rattle.std.specs.Prelude.{◌≡◌, true, false, List, [], ◌∷◌, None}
use Rattle.std.proofs.Common.{refl, sym, ap, ◌∙◌, subst, append-nil}
use Rattle.std.specs.declared.cmp.Ordering.{Ordering}
use Rattle.std.specs.declared.cmp.Ordering.TheVariants.{Less, Equal, Greater}
use Rattle.std.specs.Ordering.{is_gt, is_le, ordering_reverse}
use Rattle.rc_cell.specs.laws.{joined_row-none, joined_row-one}
use Rattle.rc_cell.specs.Orders.{tomb_cmp}
use Rattle.rc_cell.specs.Winner.{greatest}
use Rattle.rc_position.specs.declared.positions.Pos.{Pos}
use Rattle.rc_position.specs.Position.{pos_cmp}
use Rattle.rc_position.specs.laws.Bounds.{last_pos-greatest}
use Rattle.rc_position.specs.laws.Orders.{pos_cmp_same, pos_cmp_total}
use Rattle.rc_schema.specs.SchemaValue.{SchemaValue}
use Rattle.rc_writes.specs.Allowed.{ChangeFits}
use Rattle.rc_mutation.specs.declared.mutations.Mutation.{Mutation}
use Rattle.rc_mutation.specs.Fragments.{fragments, rows_and_changes}
use Rattle.rc_mutation.specs.Source.{IsMutation, source_at, source_at_head, source_at_static}
use Rattle.rc_core.specs.Version.{end_position}
use Rattle.rc_core.specs.laws.GivenUp.{source_at_end}
use Rattle.rc_core.specs.laws.Losing.{tomb-alone}
use Rattle.rc_core.specs.laws.Merging.{cons_is}
use Rattle.rc_stream.specs.Merging.{IsOrdered}
use Rattle.rc_stream.specs.Places.{Reaches}
use Rattle.rc_stream.specs.Showing.{IsFromStart}
use Rattle.rc_stream.specs.Snapshot.{SayThere}
use Rattle.rc_stream.specs.Stream.{Stream, stream_of}
use Rattle.rc_cacheread.specs.Reading.{Reads, nothing_there}
use Rattle.rc_snapshots.specs.Streams.{first_position}
use Rattle.rc_snapshots.proofs.Fragments.{all-from-first, apart, canonical, each-stands, telling, written}
use Rattle.rc_snapshots.proofs.Said.{said}

-- ---- at the end nothing is said

tied : (r : Ordering) → is_gt r ≡ false → is_le (ordering_reverse r) ≡ true → r ≡ Equal
tied Less g l = absurd (cc)
tied Equal g l = refl
tied Greater g l = absurd (cc)

is-end : (y : Pos) → Reaches end_position y → y ≡ end_position
is-end y h = pos_cmp_same y end_position (tied (pos_cmp y end_position) (last_pos-greatest y) (sym (ap is_le (pos_cmp_total.antisymm end_position y)) ∙ h))

nothing-at-end : (changes : List Mutation) (y : Pos) → Reaches end_position y → source_at changes y ≡ nothing_there
nothing-at-end changes y h = ap (source_at changes) (is-end y h) ∙ source_at_end changes ∙ (λ i. (joined_row-none i, tomb-alone None i))

-- ---- the head

pub head-said : (m : Mutation) → source_at_head (m ∷ []) ≡ m.pt
head-said m = ap (greatest tomb_cmp) (cons_is m.pt [] ∙ append-nil _) ∙ tomb-alone m.pt

pub statics-said : (m : Mutation) → IsMutation m → source_at_static (m ∷ []) ≡ m.statics
statics-said m is = joined_row-one m.statics is.statics

-- ---- the rows and changes

reads-all : (schema : SchemaValue) (m : Mutation) → IsMutation m → ChangeFits schema m → IsOrdered (rows_and_changes m) → Reads (SayThere (m ∷ [])) first_position end_position None (rows_and_changes m)
reads-all schema m is fits o = record {
  ordered = o;
  telling = telling None None (rows_and_changes m) (canonical schema m is fits);
  written = written None None (rows_and_changes m) (canonical schema m is fits);
  apart = apart _ (rows_and_changes m) o (each-stands schema m is fits);
  from = all-from-first (rows_and_changes m);
  within = λ y v a b e. sym e ∙ sym (said m is o y);
  beyond = λ y a b. said m is o y ∙ nothing-at-end (m ∷ []) y b;
}

-- its stream, as it begins
abbrev pub begun : Mutation → Stream
begun m = record { head = record { pt = m.pt; statics = m.statics }; tomb = None; left = rows_and_changes m }

module _ (m : Mutation) (is : IsMutation m) (whole : IsFromStart (stream_of (fragments m))) (are : stream_of (fragments m) ≡ begun m) where
  pub reads-it : (schema : SchemaValue) → ChangeFits schema m → Reads (SayThere (m ∷ [])) first_position end_position None (stream_of (fragments m)).left
  reads-it schema fits = subst (λ (s : Stream). Reads (SayThere (m ∷ [])) first_position end_position None s.left) (sym are) (reads-all schema m is fits (subst (λ (s : Stream). IsOrdered s.left) are whole.1))

  pub pt-is : (stream_of (fragments m)).head.pt ≡ source_at_head (m ∷ [])
  pt-is = ap (λ (s : Stream). s.head.pt) are ∙ sym (head-said m)

  pub statics-are : (stream_of (fragments m)).head.statics ≡ source_at_static (m ∷ [])
  statics-are = ap (λ (s : Stream). s.head.statics) are ∙ sym (statics-said m is)
