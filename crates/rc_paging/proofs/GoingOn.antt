-- A reader that goes on past the row cache.
use Rattle.std.proofs.Common.{◌≡◌, ℕ, List, [], ◌∷◌, Option, Some, None, Result, IfOk, sym, ap, subst, ◌∙◌}
use Rattle.rc_position.specs.declared.slices.Slice.{Slice}
use Rattle.rc_schema.specs.SchemaValue.{SchemaValue}
use Rattle.rc_mutation.specs.declared.mutations.Mutation.{Mutation}
use Rattle.rc_mutation.specs.Fragments.{fragments}
use Rattle.rc_mutation.specs.Source.{IsMutation, source_at_head}
use Rattle.rc_mutation.specs.laws.Sources.{IsJoinOf-none, IsJoinOf-one}
use Rattle.rc_query.specs.declared.lines.OutLine.{OutLine}
use Rattle.rc_stream.specs.Stream.{Stream, stream_of}
use Rattle.rc_opened.specs.declared.behind.OpenedBehind.{OpenedBehind}
use Rattle.rc_opened.specs.declared.opened.Opened.{Opened}
use Rattle.rc_opened.specs.Behind.{AreOver, LeavesBehind, lines_behind}
use Rattle.rc_paging.specs.declared.layers.HeldSnaps.{HeldSnaps}
use Rattle.rc_paging.specs.declared.pages.OpenReader.{OpenReader}
use Rattle.rc_opened.specs.Opened.{AreChangesOf}
use Rattle.rc_paging.specs.Pages.{StandFor}
use Rattle.rc_paging.specs.Past.{lines_past, read_past, slice_past}
use Rattle.rc_core.specs.Chains.{upto}
use Rattle.rc_core.specs.Steps.{pin_at}
use Rattle.rc_memory.specs.Memory.{KeptChain, Memory, chain_at}
use Rattle.rc_cursor.specs.Snapshots.{versions_in, versions_upto}

-- no changes have no partition tombstone
pub no_head : (below : List Mutation) → below ≡ [] → None ≡ source_at_head below
no_head below e = IsJoinOf-none.head ∙ ap source_at_head (sym e)

-- what a snapshot sees, by the version that it pins
pub pinned_versions : (m : Memory) (id pin : ℕ) (k : KeptChain) (j : ℕ) → chain_at m id ≡ Some k → pin_at k.chain.pins pin ≡ Some j → versions_in (chain_at m id) pin ≡ upto k.chain.versions j
pinned_versions m id pin k j there pinned = ap (λ o. versions_in o pin) there ∙ ap (versions_upto k.chain.versions) pinned

-- what is read past the cache is a mutation
pub is_past : (below : List Mutation) (told : Option (List OutLine)) (read : Mutation) → IsMutation read → IsMutation (read_past below told read)
is_past below None read is = is
is_past below (Some kept) read is = record { alone = is.alone; statics = is.statics; rows = is.rows; ranges = is.ranges }

-- what is read past the cache, and the snapshots of what is written
pub over_past : (S : ℕ) (m : Memory) (o : OpenReader) (held : HeldSnaps) (schema : SchemaValue) (below writes later : List Mutation) (told : Option (List OutLine)) (read : Mutation) (tables : Stream) → IsMutation read → AreChangesOf schema writes → AreChangesOf schema later →
    StandFor S m o.held below writes later → held ≡ o.held → tables ≡ stream_of (fragments (read_past below told read)) → AreOver schema (read_past below told read ∷ []) writes later tables m held.written
over_past S m o held schema below writes later told read tables is of_sealed of_active stand e t = subst (λ (h : HeldSnaps). AreOver schema (read_past below told read ∷ []) writes later tables m h.written) (sym e) (record {
  tabled = read_past below told read;
  mutation = is_past below told read is;
  stream = t;
  joined = IsJoinOf-one (read_past below told read) (is_past below told read is);
  of_sealed = of_sealed;
  of_active = of_active;
  sealed = stand.sealed;
  active = stand.active;
})

-- what is left is that of the line that the reader has, in what is left of its slice
pub past_lines : (below : List Mutation) (read : Mutation) (written : List Mutation) (told behind : Option (List OutLine)) (slice left : Slice) → told ≡ behind → left ≡ slice_past told slice → lines_behind told (read_past below told read ∷ written) left ≡ lines_past below read written behind slice
past_lines below read written told behind slice left e f = ap (lines_behind told (read_past below told read ∷ written)) f ∙ ap (λ t. lines_past below read written t slice) e

pub on_past : {E : Type 0} (left : Opened → Memory → List OutLine → Type 0) (m : Memory) (r : Result OpenedBehind E) (a b : List OutLine) → a ≡ b → IfOk r (λ o. LeavesBehind left m o a) → IfOk r (λ o. LeavesBehind left m o b)
on_past left m r a b e h = subst (λ ls. IfOk r (λ o. LeavesBehind left m o ls)) e h
