-- What a reader that was opened holds, and what is left where it could not be.
use Rattle.std.proofs.Common.{◌≡◌, ◌≤◌, ℕ, [], ◌∷◌, List, All, Option, None, Some, Result, Ok, Err, IfOk, refl, sym, ap, subst}
use Rattle.std.specs.Prelude.{◌++◌, IsErr, MatchOption, OnErr}
use Rattle.std.specs.declared.alloc.AllocError.{AllocError}
use Rattle.rc_position.specs.declared.slices.Slice.{Slice}
use Rattle.rc_schema.specs.SchemaValue.{SchemaValue}
use Rattle.rc_mutation.specs.declared.mutations.Mutation.{Mutation}
use Rattle.rc_mutation.specs.Source.{IsJoinOf, IsMutation}
use Rattle.rc_query.specs.declared.lines.OutLine.{OutLine}
use Rattle.rc_query.specs.Answer.{answer}
use Rattle.rc_memory.specs.Memory.{Memory}
use Rattle.rc_chain.specs.declared.chains.Snap.{Snap}
use Rattle.rc_snapshots.specs.declared.snaps.Snaps.{Snaps}
use Rattle.rc_lookup.specs.Unstored.{Unstored}
use Rattle.rc_snapshots.specs.Seeing.{SeesAllOf}
use Rattle.rc_tfile.specs.declared.info.TableInfo.{TableInfo}
use Rattle.rc_opened.specs.Opened.{AreChangesOf}
use Rattle.rc_opened.specs.declared.behind.OpenedBehind.{OpenedBehind}
use Rattle.rc_paging.specs.declared.forms.PartReader.{PartReader}
use Rattle.rc_paging.specs.declared.forms.PartReader.TheVariants as form
use Rattle.rc_paging.specs.declared.layers.HeldSnaps.{HeldSnaps}
use Rattle.rc_paging.specs.declared.pages.OpenReader.{OpenReader}
use Rattle.rc_paging.specs.Pages.{StandFor}
use Rattle.rc_paging.specs.Remainders.{IsRemainderOf}
use Rattle.rc_machine.specs.State.{Reader}
use Rattle.rc_paging.specs.Forms.{held_by}
use Rattle.rc_shard.specs.declared.readers.PartitionReader.{PartitionReader}
use Rattle.rc_shard.specs.declared.readers.Source.{Source}
use Rattle.rc_shard.specs.declared.readers.Source.TheVariants.{Cached, Read}
use Rattle.rc_shard.specs.Readers.{AreHeldThere, IsReadOver}
use Rattle.rc_shard.specs.calls.Looking.{source_snap}
use Rattle.rc_shard.specs.calls.Opened.{AreBothReleased, AreJoined, IsOpenedOver, IsReadSource, IsSourceLetGo, TellsBelow, below_if}
use Rattle.rc_shard.specs.calls.Storing.{KeepsUnstored}
use Rattle.rc_shard.proofs.Joined.{below-beside, both-mutations}

-- nothing is given where it failed
pub none-ok : {A : Type 0} (r : Result A AllocError) (P : A → Type 0) → IsErr r → IfOk r P
none-ok (Ok x) P h = absurd (cc)
none-ok (Err e) P h = tt

pub held-ok : (r : Result PartitionReader AllocError) (u v : Unstored 131072) (held : HeldSnaps) → IfOk r (λ o. held_by o.reader ≡ held) → IfOk r (λ o. v ≡ u) → AreHeldThere u.chains held → IfOk r (λ o. AreHeldThere v.chains (held_by o.reader))
held-ok (Ok o) u v held is same h = subst (AreHeldThere v.chains) (sym is) (subst (λ (x : Unstored 131072). AreHeldThere x.chains held) (sym same) h)
held-ok (Err e) u v held is same h = tt

pub kept-ok : (r : Result PartitionReader AllocError) (u v w : Unstored 131072) → IfOk r (λ o. w ≡ v) → ((schema : SchemaValue) → KeepsUnstored schema u v) → IfOk r (λ o. (schema : SchemaValue) → KeepsUnstored schema u w)
kept-ok (Ok o) u v w same kept = λ schema. subst (KeepsUnstored schema u) (sym same) (kept schema)
kept-ok (Err e) u v w same kept = tt

-- what was read is no snapshot, so none is taken back
read-none : (source : Source) (schema : SchemaValue) (u w : Unstored 131072) → IsReadSource source → KeepsUnstored schema u w → IsSourceLetGo (source_snap source) schema u w
read-none (Cached s) schema u w is kept = absurd is
read-none (Read list) schema u w is kept = (w, kept, refl, refl)

pub let-go-read : (r : Result PartitionReader AllocError) (source : Source) (u v w : Unstored 131072) (snaps : Snaps) → OnErr r (IsReadSource source × AreBothReleased snaps v w) → ((schema : SchemaValue) → AreBothReleased snaps v w → KeepsUnstored schema u w) →
    OnErr r ((schema : SchemaValue) → IsSourceLetGo (source_snap source) schema u w)
let-go-read (Ok o) source u v w snaps back kept = tt
let-go-read (Err e) source u v w snaps back kept = λ schema. read-none source schema u w back.0 (kept schema back.1)

pub released-of : (given snaps : Snaps) (w u v : Unstored 131072) → given ≡ snaps → w ≡ u → AreBothReleased given w v → AreBothReleased snaps u v
released-of given snaps w u v same here h = subst (λ (s : Snaps). AreBothReleased s u v) same (subst (λ (x : Unstored 131072). AreBothReleased given x v) here h)

-- ---- what is left to it

module _ (lines : PartReader → Memory → List Mutation → List OutLine → Type 0) (schema : SchemaValue) (m : Memory) (slice : Slice) (below said writes later : List Mutation) (key : List ℕ) (tables : List TableInfo) where
  pub opened-past : (o : OpenedBehind) → lines (form.Past o) m [] (answer (said ++ (writes ++ later)) slice) → IsOpenedOver lines schema m slice below said writes later (record { key = key; reader = form.Past o; tables = tables })
  opened-past o left = record { left = left; over = λ r a b d e. tt }

  -- over what lies below its snapshot, in place of what is said to lie below one that it may have
  read-over : (o : OpenReader) (snap : Snap) (snaps : Snaps) → o.held ≡ record { cached = Some snap; written = snaps } → o.behind ≡ None → IsRemainderOf slice o.remainder → AreJoined below said → StandFor 131072 m (record { cached = Some snap; written = snaps }) below writes later →
      AreChangesOf schema below → AreChangesOf schema writes → AreChangesOf schema later → (r : Reader) → r.slice ≡ slice → r.settled ≡ 0 → r.said ≡ said → r.writes ≡ writes ++ later → IsReadOver schema below m o r
  read-over o snap snaps held untold of joins stand of_tables of_writes of_later r same none told written = record {
    join = joins.join;
    sealed = writes;
    active = later;
    is = joins.is;
    mutation = joins.mutation;
    joined = subst (IsJoinOf joins.join) (sym told) joins.joined;
    written = written;
    of_tables = of_tables;
    of_sealed = of_writes;
    of_active = of_later;
    stand = subst (λ (h : HeldSnaps). StandFor 131072 m h below writes later) (sym held) stand;
    slice = subst (λ (s : Slice). IsRemainderOf s o.remainder) (sym same) of;
    settled = subst (λ (b : Option (List OutLine)). MatchOption b (r.settled ≡ 0) (λ kept. 1 ≤ r.settled)) (sym untold) none;
  }

  pub opened-cached : (o : OpenReader) (snap : Snap) (snaps : Snaps) → ((mutation : Mutation) (changes : List Mutation) (slice : Slice) → IsJoinOf mutation changes → answer changes slice ≡ answer (mutation ∷ []) slice) → ((writes : List Mutation) → All IsMutation writes → (whole : Mutation) × IsMutation whole × IsJoinOf whole writes) →
      o.held ≡ record { cached = Some snap; written = snaps } → o.behind ≡ None → IsRemainderOf slice o.remainder →
      ((lies : List Mutation) → AreChangesOf schema lies → AreChangesOf schema writes → AreChangesOf schema later → StandFor 131072 m (record { cached = Some snap; written = snaps }) lies writes later → lines (form.Cached o) m lies (answer (lies ++ (writes ++ later)) slice)) →
      AreChangesOf schema writes → AreChangesOf schema later → AreChangesOf schema below → SeesAllOf writes m snaps.sealed → SeesAllOf later m snaps.active → TellsBelow m (Cached snap) below said → IsOpenedOver lines schema m slice below said writes later (record { key = key; reader = form.Cached o; tables = tables })
  opened-cached o snap snaps joined all held untold of left of_writes of_later of_tables seen_writes seen_later tells =
      let joins : AreJoined below said = tells.1 in
      let stand : StandFor 131072 m (record { cached = Some snap; written = snaps }) below writes later = record { cached = tells.0; sealed = seen_writes; active = seen_later } in
      let lies : below_if o.held.cached below ≡ below = ap (λ (h : HeldSnaps). below_if h.cached below) held in
      let same : answer (below ++ (writes ++ later)) slice ≡ answer (said ++ (writes ++ later)) slice = below-beside joined all joins.join below said (writes ++ later) slice joins.is joins.joined joins.mutation (both-mutations schema writes later of_writes of_later) in
      record {
        left = subst (λ (b : List Mutation). lines (form.Cached o) m b (answer (said ++ (writes ++ later)) slice)) (sym lies) (subst (lines (form.Cached o) m below) same (left below of_tables of_writes of_later stand));
        over = λ r a b d e. subst (λ (x : List Mutation). IsReadOver schema x m o r) (sym lies) (read-over o snap snaps held untold of joins stand of_tables of_writes of_later r a b d e);
      }
