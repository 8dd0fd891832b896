-- The calls of what an open reader reads leave chains and store as they are, and the streams are those of the same snapshots.
use Rattle.std.proofs.Common.{◌≡◌, inl, inr, Bool, true, false, List, Option, Some, None, refl, sym, ap, subst, ◌∙◌}
use Rattle.rc_position.specs.declared.positions.Pos.{Pos}
use Rattle.rc_memory.specs.Memory.{Memory}
use Rattle.rc_chain.specs.declared.chains.Snap.{Snap}
use Rattle.rc_stream.specs.declared.merges.Merge.{Merge}
use Rattle.rc_stream.specs.Did.{Call, Deed, InTurn, OfHead, OfSeek, merge_did}
use Rattle.rc_stream.specs.Stream.{Stream}
use Rattle.rc_query.specs.declared.lines.OutLine.{OutLine}
use Rattle.rc_reader.specs.Left.{AreLeft}
use Rattle.rc_reader.specs.Steps.{OneStep, OpenCalls}
use Rattle.rc_opened.specs.declared.no_files.NoFiles.{NoFiles}
use Rattle.rc_snapshots.specs.declared.snaps.Snaps.{Snaps}
use Rattle.rc_opened.specs.declared.written.Written.{Written}
use Rattle.rc_opened.specs.declared.opened.Opened.{Opened}
use Rattle.rc_opened.specs.Opened.{AreStreamsOf, GivesLines, OfSources, SeeSomeChanges, active_stream_of, no_files, sealed_stream_of, snaps_in, snaps_of}
use Rattle.rc_opened.specs.Written.{DidAs, IsStreamOf, OfSnapshot, snap_in}
use Rattle.rc_opened.proofs.Kept.{in_turn, merges}

-- what calls do: of the list of what the tables said, of what is written, of both of that, and of all
abbrev list_did : Deed Stream Memory NoFiles
list_did l h w c ok k g v = (h ≡ g) × (w ≡ v)

abbrev written_did : Deed Written Memory NoFiles
written_did r h w c ok t g v = (g ≡ h) × (v ≡ w) × DidAs r t

abbrev both_did : Deed (Merge Written Written) Memory NoFiles
both_did = merge_did written_did written_did

abbrev pub sources_did : Deed OfSources Memory NoFiles
sources_did = merge_did list_did both_did

-- both streams are those of the same snapshots
abbrev KeepBoth : Merge Written Written → Merge Written Written → Type 0
KeepBoth s t = DidAs s.ours.stream t.ours.stream × DidAs s.theirs.stream t.theirs.stream

did_more : (a b c : Written) → DidAs a b → DidAs b c → DidAs a c
did_more a b c g h snap is = h snap (g snap is)

both : (s : Merge Written Written) (h : Memory) (w : NoFiles) (c : Call) (ok : Bool) (t : Merge Written Written) (g : Memory) (v : NoFiles) → both_did s h w c ok t g v → KeepBoth s t × (g ≡ h) × (v ≡ w)
both s h w c ok t g v d =
    let k = merges written_did written_did DidAs DidAs (λ a snap is. is) did_more (λ a snap is. is) did_more (λ a h w c ok b g v d. (d.2, d.0, d.1)) (λ a h w c ok b g v d. (d.2, d.0, d.1)) s h w c ok t g v d in
    ((k.0, k.1), k.2, k.3)

-- what an open reader reads, with chains and a store
abbrev pub Three : Type 0
Three = OfSources × Memory × NoFiles

-- they keep its streams, and these are as they were
abbrev pub Keep : OfSources × Memory × NoFiles → OfSources × Memory × NoFiles → Type 0
Keep s t = KeepBoth s.0.theirs.stream t.0.theirs.stream × (t.1 ≡ s.1) × (t.2 ≡ s.2)

keep_more : (s t u : OfSources × Memory × NoFiles) → Keep s t → Keep t u → Keep s u
keep_more s t u g h = ((did_more _ _ _ g.0.0 h.0.0, did_more _ _ _ g.0.1 h.0.1), h.1 ∙ g.1, h.2 ∙ g.2)

one : (c : Call) (ok : Bool) (s t : OfSources × Memory × NoFiles) → OneStep sources_did c ok s t → Keep s t
one c ok s t d =
    let k = merges list_did both_did (λ _ _. Unit {0}) KeepBoth (λ _. tt) (λ _ _ _ _ _. tt) (λ a. ((λ snap is. is), (λ snap is. is))) (λ a b c g h. (did_more _ _ _ g.0 h.0, did_more _ _ _ g.1 h.1))
    (λ a h w c ok b g v d. (tt, sym d.0, sym d.1)) both s.0 s.1 s.2 c ok t.0 t.1 t.2 d in
    (k.1, k.2, k.3)

pub called : (c : Call) (ok : Bool) (s t : OfSources × Memory × NoFiles) → InTurn (OneStep sources_did c) ok s t → Keep s t
called c ok s t h = in_turn (OneStep sources_did c) Keep (λ s. (((λ snap is. is), (λ snap is. is)), refl, refl)) keep_more (one c) ok s t h

pub opened : (x : Pos) (ok : Bool) (s t : OfSources × Memory × NoFiles) → OpenCalls sources_did x ok s t → Keep s t
opened x true s t h = keep_more s h.0 t (one OfHead true s h.0 h.1) (one (OfSeek x) true h.0 t h.2)
opened x false s t (inl h) = one OfHead false s t h
opened x false s t (inr h) = elim h.2 as (λ _. Keep s t) [
  | inl same ↦ subst (Keep s) same (one OfHead true s h.0 h.1)
  | inr last ↦ keep_more s h.0 t (one OfHead true s h.0 h.1) (one (OfSeek x) false h.0 t last)
]

-- the snapshot of a stream is the one that it is of
of_snap : (snap : Option Snap) (r : Option OfSnapshot) → IsStreamOf snap r → snap_in r ≡ snap
of_snap None None is = refl
of_snap None (Some r) is = absurd is
of_snap (Some s) None is = absurd is
of_snap (Some s) (Some r) is = ap Some is.snap

-- so the snapshots are the same, and the streams are theirs
pub same_snaps : (s t : OfSources × Memory × NoFiles) → Keep s t → AreStreamsOf (snaps_in s.0) s.0 → snaps_in t.0 ≡ snaps_in s.0
same_snaps s t k are =
    let sealed = of_snap (snap_in (sealed_stream_of s.0).stream) (sealed_stream_of t.0).stream (k.0.0 (snap_in (sealed_stream_of s.0).stream) are.sealed) in
    let active = of_snap (snap_in (active_stream_of s.0).stream) (active_stream_of t.0).stream (k.0.1 (snap_in (active_stream_of s.0).stream) are.active) in
    λ i. record { sealed = sealed i; active = active i }

pub same_streams : (s t : OfSources × Memory × NoFiles) → Keep s t → AreStreamsOf (snaps_in s.0) s.0 → AreStreamsOf (snaps_in t.0) t.0
same_streams s t k are =
    subst (λ snaps. AreStreamsOf snaps t.0) (sym (same_snaps s t k are))
    (record { sealed = k.0.0 (snap_in (sealed_stream_of s.0).stream) are.sealed; active = k.0.1 (snap_in (active_stream_of s.0).stream) are.active })

-- the snapshots of streams that are those of some are these
pub own_snaps : (snaps : Snaps) (s : OfSources) → AreStreamsOf snaps s → snaps_in s ≡ snaps
own_snaps snaps s are =
    let sealed = of_snap snaps.sealed (sealed_stream_of s).stream are.sealed in
    let active = of_snap snaps.active (active_stream_of s).stream are.active in
    λ i. record { sealed = sealed i; active = active i }

pub own_streams : (snaps : Snaps) (s : OfSources) → AreStreamsOf snaps s → AreStreamsOf (snaps_in s) s
own_streams snaps s are = subst (λ those. AreStreamsOf those s) (sym (own_snaps snaps s are)) are

-- over the same chains the same snapshots see what some changes say
pub still-see : (m n : Memory) (snaps those : Snaps) → n ≡ m → those ≡ snaps → SeeSomeChanges m snaps → SeeSomeChanges n those
still-see m n snaps those e f see = subst (λ x. SeeSomeChanges x those) (sym e) (subst (SeeSomeChanges m) (sym f) see)

-- what is left over a store that is the one of no files
pub gives-at : (ready : OfSources → Memory → NoFiles → Type 0) (seen : OfSources → Memory → NoFiles → Stream → Type 0) (m : Memory) (o : Opened) (lines : List OutLine) (store : NoFiles) → store ≡ no_files → ready o.reader.stream m store → AreLeft seen o.reader m store lines →
    AreStreamsOf (snaps_of o) o.reader.stream → SeeSomeChanges m (snaps_of o) → GivesLines ready seen m o lines
gives-at ready seen m o lines store e may left streams see = record { may = subst (ready o.reader.stream m) e may; left = subst (λ x. AreLeft seen o.reader m x lines) e left; streams = streams; see = see }
