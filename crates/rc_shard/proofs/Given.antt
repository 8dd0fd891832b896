-- What a reader gave lines, and what that left, from its place on.
use Rattle.std.proofs.Common.{◌≡◌, ◌==◌, ◌≤◌, ◌+◌, ◌*◌, ℕ, List, Option, Some, None, inl, inr, drop, length, position, get_or, set, refl, sym, ap, subst, ◌∙◌, arith}
use Rattle.std.specs.Prelude.{Bool, IfSome, IsSomeAnd}
use Rattle.std.specs.Option.{option_map_or}
use Rattle.std.specs.Map.{lookup}
use Rattle.rc_outside.specs.Files.{Files}
use Rattle.rc_writes.specs.Allowed.{ChangeFits}
use Rattle.rc_mutation.specs.declared.mutations.Mutation.{Mutation}
use Rattle.rc_mutation.specs.Source.{IsJoinOf, IsMutation}
use Rattle.rc_query.specs.declared.lines.OutLine.{OutLine}
use Rattle.rc_folder.specs.declared.counts.Answered.{Answered}
use Rattle.rc_lines.specs.declared.commands.Command.{Command}
use Rattle.rc_lines.specs.declared.commands.Command.TheVariants as commands
use Rattle.rc_lines.specs.declared.commands.Command.TheVariants.{Read}
use Rattle.rc_lines.specs.declared.commands.Reply.{Reply}
use Rattle.rc_lines.specs.declared.commands.Reply.TheVariants as replies
use Rattle.rc_memory.specs.Memory.{Memory}
use Rattle.rc_chain.specs.declared.chains.Snap.{Snap}
use Rattle.rc_stream.specs.Snapshot.{NoneLost}
use Rattle.rc_tables.specs.Tables.{listing}
use Rattle.lsa_pool.specs.Room.{live_sum}
use Rattle.rc_lookup.specs.Crowding.{LosesWhereCrowded, versions_of}
use Rattle.rc_lookup.specs.Crowds.{loses-same}
use Rattle.rc_lookup.specs.Entries.{AreEntries}
use Rattle.rc_lookup.specs.Fillers.{losses}
use Rattle.rc_lookup.specs.Found.{entry_number}
use Rattle.rc_lookup.specs.NoMore.{counts-same, counts-then}
use Rattle.rc_lookup.specs.Touched.{AreTouched, IsEntryOfGiven}
use Rattle.rc_paging.specs.declared.forms.PartReader.{PartReader}
use Rattle.rc_paging.specs.declared.forms.PartReader.TheVariants.{Cached, Past}
use Rattle.rc_paging.specs.Forms.{held_by}
use Rattle.rc_machine.specs.State.{Reader, State, reader_of}
use Rattle.rc_folder.specs.Tabled.{IsSaidByFirst}
use Rattle.rc_machine.specs.Serving.{Stops, Takes}
use Rattle.rc_machine.specs.Steps.{reader_past}
use Rattle.rc_shard.specs.declared.readers.PartitionReader.{PartitionReader}
use Rattle.rc_shard.specs.declared.shard.Shard.{Shard}
use Rattle.rc_shard.specs.Filling.{IsCachedByReader, IsFilledAsTold, IsHeldByReader, MayRefill}
use Rattle.rc_shard.specs.Knowing.{IsCachedWhere, IsCachedWhole, IsKnownStill, IsPartitionListed, IsPastNow, IsReaderTouched, IsTouchedAsGiven, StaysKnown}
use Rattle.rc_shard.specs.Readers.{cached_of}
use Rattle.rc_shard.specs.Stands.{Stands}
use Rattle.rc_shard.specs.calls.Caching.{LeavesCache}
use Rattle.rc_shard.specs.calls.Keeping.{CountsStay, StandsForTheSame}
use Rattle.rc_shard.specs.calls.Looking.{KeepsOver}
use Rattle.rc_shard.specs.calls.Reading.{IsSparedPast, IsBesideChains, IsGoneOn, IsGonePastAt, IsPaged, IsPagedBeside, IsPastReader, IsPutPast, IsReadOfFirst, IsRefilled, IsTouchedPast, with_reader}
use Rattle.rc_shard.proofs.Caching.{leaves-itself}
use Rattle.rc_shard.proofs.Closing.{lost-past, past-rest}
use Rattle.rc_shard.proofs.Known.{AreGone, back-known, known-then, known-where}
use Rattle.rc_folder.specs.laws.Listed.{fewer_listed}
use Rattle.rc_shard.proofs.Places.{IsPlace, one-of, own-place, place-of, position-set, set-place}
use Rattle.rc_shard.proofs.Rereading.{reader-at, same-some, touched-as-given}
use Rattle.rc_shard.proofs.Taking.{found-at, to-files}

-- ---- places

pub paged-place : (k k' : Shard) (id at : ℕ) → IsPagedBeside at k k' → position (λ o. o.0 == id) k.readers.items ≡ Some at → position (λ o. o.0 == id) k'.readers.items ≡ Some at
paged-place k k' id at b e =
    let p = place-of id k.readers.items at e in
    let d = get_or k.readers.items at (one-of id k.readers.items at p) in
    let here : get_or k.readers.items at d ≡ d = own-place id k.readers.items at (one-of id k.readers.items at p) p in
    subst (λ (os : List (ℕ × PartitionReader)). position (λ o. o.0 == id) os ≡ Some at) (sym b.readers)
    (position-set id k.readers.items at b.reader d ((b.kept d here).0 ∙ ap (λ (o : ℕ × PartitionReader). o.0) (sym here)) ∙ e)

pub gone-place : (k k' : Shard) (id at : ℕ) (d : ℕ × PartitionReader) → get_or k.readers.items at d ≡ d → IsGonePastAt at d k k' → position (λ o. o.0 == id) k.readers.items ≡ Some at → position (λ o. o.0 == id) k'.readers.items ≡ Some at
gone-place k k' id at d here g e =
    subst (λ (os : List (ℕ × PartitionReader)). position (λ o. o.0 == id) os ≡ Some at) (sym g.readers) (position-set id k.readers.items at g.reader d (g.id ∙ ap (λ (o : ℕ × PartitionReader). o.0) (sym here)) ∙ e)

pub there-now : (k k' : Shard) (id at : ℕ) (x : ℕ × PartitionReader) → IsPlace id k.readers.items at → k'.readers.items ≡ set k.readers.items at x → get_or k'.readers.items at x ≡ x
there-now k k' id at x p items = subst (λ (os : List (ℕ × PartitionReader)). get_or os at x ≡ x) (sym items) (set-place id k.readers.items at x p)

-- the reader at a place
abbrev pub reader-in : (k : Shard) (id at : ℕ) → position (λ o. o.0 == id) k.readers.items ≡ Some at → ℕ × PartitionReader
reader-in k id at e = get_or k.readers.items at (one-of id k.readers.items at (place-of id k.readers.items at e))

pub is-there : (k : Shard) (id at : ℕ) (e : position (λ o. o.0 == id) k.readers.items ≡ Some at) → get_or k.readers.items at (reader-in k id at e) ≡ reader-in k id at e
is-there k id at e = let p = place-of id k.readers.items at e in own-place id k.readers.items at (one-of id k.readers.items at p) p

-- ---- what a page leaves once its rows are the most recent ones

pub record IsGiven (d : ℕ × PartitionReader) (lines : List OutLine) (k k' : Shard) : Type 0 where
  pub cache : k'.cache ≡ k.cache
  pub answered : k'.answered ≡ k.answered
  pub segments : k'.segments ≡ k.segments
  pub asked : k'.asked ≡ k.asked
  pub counts : k'.unstored.chains.counts ≡ k.unstored.chains.counts
  pub left : LeavesCache k.unstored.chains k'.unstored.chains
  pub touched : AreTouched (IsEntryOfGiven (entry_number k.cache.entries d.1.key) lines) k.unstored.chains k'.unstored.chains

pub given-of : (k q k' : Shard) (id at : ℕ) (d : ℕ × PartitionReader) (lines : List OutLine) → IsPlace id k.readers.items at → get_or k.readers.items at d ≡ d → IsPagedBeside at k q → IsBesideChains q k' →
    ((o : ℕ × PartitionReader) → get_or q.readers.items at o ≡ o → AreTouched (IsEntryOfGiven (entry_number q.cache.entries o.1.key) lines) q.unstored.chains k'.unstored.chains) → LeavesCache q.unstored.chains k'.unstored.chains → IsGiven d lines k k'
given-of k q k' id at d lines p here b g touches left =
    let x = b.reader in
    let kept = b.kept d here in
    let own = ap (λ u. u.chains) b.unstored in
    let t = touches x (there-now k q id at x p b.readers) in
    let same = subst (λ (m : Memory). AreTouched (IsEntryOfGiven (entry_number q.cache.entries x.1.key) lines) m k'.unstored.chains) own t in
    record {
      cache = g.cache ∙ b.cache;
      answered = g.answered ∙ b.answered;
      segments = g.segments ∙ b.segments;
      asked = g.asked ∙ b.asked;
      counts = ap (λ (m : Memory). m.counts) same.same;
      left = subst (λ (m : Memory). LeavesCache m k'.unstored.chains) own left;
      touched = subst (λ (es : List (List ℕ × ℕ)). AreTouched (IsEntryOfGiven (entry_number es d.1.key) lines) k.unstored.chains k'.unstored.chains) (ap (λ c. c.entries) b.cache)
          (subst (λ (key : List ℕ). AreTouched (IsEntryOfGiven (entry_number q.cache.entries key) lines) k.unstored.chains k'.unstored.chains) kept.1 same);
    }

-- a page that was not given leaves all
pub record IsUntold (k k' : Shard) : Type 0 where
  pub cache : k'.cache ≡ k.cache
  pub unstored : k'.unstored ≡ k.unstored
  pub folder : k'.folder ≡ k.folder
  pub answered : k'.answered ≡ k.answered
  pub segments : k'.segments ≡ k.segments
  pub asked : k'.asked ≡ k.asked

pub untold-of : (at : ℕ) (k k' : Shard) → IsPagedBeside at k k' → IsUntold k k'
untold-of at k k' b = record { cache = b.cache; unstored = b.unstored; folder = b.folder; answered = b.answered; segments = b.segments; asked = b.asked }

pub untold-counts : (k k' : Shard) → IsUntold k k' → CountsStay k k'
untold-counts k k' u = record { answered = u.answered; segments = u.segments; asked = u.asked; none_fell = counts-same k.unstored.chains k'.unstored.chains (ap (λ v. v.chains.counts) u.unstored) (ap (λ v. v.chains.region.moved) u.unstored) }

pub given-counts : (d : ℕ × PartitionReader) (lines : List OutLine) (k k' : Shard) → IsGiven d lines k k' → CountsStay k k'
given-counts d lines k k' g = record { answered = g.answered; segments = g.segments; asked = g.asked; none_fell = counts-same k.unstored.chains k'.unstored.chains g.counts g.touched.objects.moved }

pub given-loses : (d : ℕ × PartitionReader) (lines : List OutLine) (k k' : Shard) → IsGiven d lines k k' → LosesWhereCrowded 131072 0 k.unstored.chains k'.unstored.chains
given-loses d lines k k' g = loses-same 131072 k.unstored.chains k'.unstored.chains (ap length g.touched.objects.usages) (ap live_sum g.touched.objects.usages) (ap versions_of g.touched.same) g.counts

-- a reader went on past the row cache
pub gone-counts : (at : ℕ) (d : ℕ × PartitionReader) (k l : Shard) → IsGonePastAt at d k l → CountsStay k l
gone-counts at d k l g = record { answered = g.answered; segments = g.segments; asked = g.asked; none_fell = (past-rest (cached_of d.1) k.unstored.chains l.unstored.chains g.past).fell }

pub counts-after : (k l k' : Shard) → CountsStay k l → CountsStay l k' → CountsStay k k'
counts-after k l k' a b = record { answered = b.answered ∙ a.answered; segments = b.segments ∙ a.segments; asked = b.asked ∙ a.asked; none_fell = counts-then k.unstored.chains l.unstored.chains k'.unstored.chains a.none_fell b.none_fell }

-- ---- what is known

-- what is known is known of the same chains
pub untold-known : (k k' : Shard) → IsUntold k k' → (key : List ℕ) → IsKnownStill key k k'
untold-known k k' u key = known-where k k' key (λ P on. subst (λ v. IsCachedWhere P (record k' { unstored = v }) key) (sym u.unstored) (subst (λ c. IsCachedWhere P (record k' { cache = c; unstored = k.unstored }) key) (sym u.cache) on))

pub untold-back : (k k' : Shard) → IsUntold k k' → (key : List ℕ) → IsKnownStill key k' k
untold-back k k' u key = untold-known k' k (record { cache = sym u.cache; unstored = sym u.unstored; folder = sym u.folder; answered = sym u.answered; segments = sym u.segments; asked = sym u.asked }) key

listed-in : (k k' : Shard) (key : List ℕ) → IsUntold k k' → IsPartitionListed k key → IsPartitionListed k' key
listed-in k k' key u h = subst (λ v. IsPartitionListed (record k' { unstored = v }) key) (sym u.unstored) (subst (λ c. IsPartitionListed (record k' { cache = c; unstored = k.unstored }) key) (sym u.cache) h)

-- behind a page that was not given it is as in front of it
pub stays-behind : (id count : ℕ) (k q k' : Shard) → IsUntold k q → StaysKnown (Read id count) q k' → StaysKnown (Read id count) k k'
stays-behind id count k q k' u stays none key listed =
    known-then k q k' key (untold-known k q u key) (stays (subst (λ v. NoneLost (losses v.chains) (losses k'.unstored.chains)) (sym u.unstored) none) key (listed-in k q key u listed))

pub stays-given : (id count : ℕ) (d : ℕ × PartitionReader) (lines : List OutLine) (k k' : Shard) → AreEntries k.cache.entries k.unstored.chains → AreGone k.unstored.chains → IsGiven d lines k k' → StaysKnown (Read id count) k k'
stays-given id count d lines k k' are gone g none key listed = back-known None k k' k.unstored.chains key are gone g.cache refl g.left none (inl listed)

-- so it is once a reader went on past the row cache, of partitions of other chains and of those of which something could be evicted
pub known-gone : (at : ℕ) (d x : ℕ × PartitionReader) (lines : List OutLine) (k l k' : Shard) (key : List ℕ) → AreEntries k.cache.entries k.unstored.chains → AreGone k.unstored.chains → IsGonePastAt at d k l → IsGiven x lines l k' → IsSparedPast (cached_of d.1) k key → NoneLost (losses k.unstored.chains) (losses k'.unstored.chains) → IsKnownStill key k k'
known-gone at d x lines k l k' key are gone p g apart none =
    let rest = past-rest (cached_of d.1) k.unstored.chains l.unstored.chains p.past in
    back-known (cached_of d.1) k k' l.unstored.chains key are gone (g.cache ∙ p.cache) p.past g.left (lost-past k.unstored.chains l.unstored.chains k'.unstored.chains rest.counts none) apart

pub known-past : (at : ℕ) (d : ℕ × PartitionReader) (k l k' : Shard) (key : List ℕ) → AreEntries k.cache.entries k.unstored.chains → AreGone k.unstored.chains → IsGonePastAt at d k l → IsUntold l k' → IsSparedPast (cached_of d.1) k key → NoneLost (losses k.unstored.chains) (losses k'.unstored.chains) → IsKnownStill key k k'
known-past at d k l k' key are gone p u apart none =
    let rest = past-rest (cached_of d.1) k.unstored.chains l.unstored.chains p.past in
    back-known (cached_of d.1) k k' l.unstored.chains key are gone (u.cache ∙ p.cache) p.past (subst (λ v. LeavesCache l.unstored.chains v.chains) (sym u.unstored) (leaves-itself l.unstored.chains))
    (lost-past k.unstored.chains l.unstored.chains k'.unstored.chains rest.counts none) apart

-- ---- what was touched

as-given : (id count : ℕ) (lines : List OutLine) (more : Bool) (reply : Reply) (k k' : Shard) → reply ≡ replies.Given lines more → IfSome (lookup (λ q. q == id) k.readers.items) (λ o. IsReaderTouched id lines o k k') → IsTouchedAsGiven (Read id count) reply k k'
as-given id count lines more reply k k' is h = subst (λ (r : Reply). IsTouchedAsGiven (Read id count) r k k') (sym is) h

pub touches-given : (id count at : ℕ) (d : ℕ × PartitionReader) (lines : List OutLine) (more : Bool) (reply : Reply) (k k' : Shard) → IsPlace id k.readers.items at → get_or k.readers.items at d ≡ d → reply ≡ replies.Given lines more → IsGiven d lines k k' → IsTouchedAsGiven (Read id count) reply k k'
touches-given id count at d lines more reply k k' p here is g =
    let touched : AreTouched (IsEntryOfGiven (entry_number k'.cache.entries d.1.key) lines) k.unstored.chains k'.unstored.chains =
    subst (λ (es : List (List ℕ × ℕ)). AreTouched (IsEntryOfGiven (entry_number es d.1.key) lines) k.unstored.chains k'.unstored.chains) (sym (ap (λ c. c.entries) g.cache)) g.touched in
    as-given id count lines more reply k k' is (touched-as-given id at d lines k k' p here (record { read = k.unstored.chains; before = inl (g.cache, refl); touched = touched }))

-- so they are where the reader reads past the row cache now
pub touched-past : (id : ℕ) (d x : ℕ × PartitionReader) (lines : List OutLine) (more : Bool) (reply : Reply) (l k' : Shard) → reply ≡ replies.Given lines more → x.1.key ≡ d.1.key → IsPastNow id k' → IsGiven x lines l k' → IsTouchedPast id d.1 reply k'
touched-past id d x lines more reply l k' is key past g =
    let touched : AreTouched (IsEntryOfGiven (entry_number k'.cache.entries d.1.key) lines) l.unstored.chains k'.unstored.chains =
    subst (λ (q : List ℕ). AreTouched (IsEntryOfGiven (entry_number k'.cache.entries q) lines) l.unstored.chains k'.unstored.chains) key
    (subst (λ (es : List (List ℕ × ℕ)). AreTouched (IsEntryOfGiven (entry_number es x.1.key) lines) l.unstored.chains k'.unstored.chains) (sym (ap (λ c. c.entries) g.cache)) g.touched) in
    subst (λ (r : Reply). IsTouchedPast id d.1 r k') (sym is) (past, (l.unstored.chains, touched))

-- behind a page that was not given, and whatever was filled, it is as in front of it
pub touches-past : (id count at : ℕ) (d : ℕ × PartitionReader) (x : PartitionReader) (reply : Reply) (k k' : Shard) → IsPlace id k.readers.items at → get_or k.readers.items at d ≡ d → x.key ≡ d.1.key → IsTouchedPast id x reply k' → IsTouchedAsGiven (Read id count) reply k k'
touches-past id count at d x replies.Nothing k k' p here key t = tt
touches-past id count at d x replies.Fine k k' p here key t = tt
touches-past id count at d x replies.Going k k' p here key t = tt
touches-past id count at d x replies.Done k k' p here key t = tt
touches-past id count at d x (replies.Stats f) k k' p here key t = tt
touches-past id count at d x (replies.Refused r) k k' p here key t = tt
touches-past id count at d x (replies.Given lines more) k k' p here key t =
    touched-as-given id at d lines k k' p here (record { read = t.1.0; before = inr t.0; touched = subst (λ (q : List ℕ). AreTouched (IsEntryOfGiven (entry_number k'.cache.entries q) lines) t.1.0 k'.unstored.chains) key t.1.1 })

-- the reader of an id, past the row cache
pub past-of : (id at : ℕ) (y : ℕ × PartitionReader) (q k' : Shard) → IsPlace id q.readers.items at → get_or q.readers.items at y ≡ y → IsPastReader y.1.reader → k'.readers ≡ q.readers → IsPastNow id k'
past-of id at y q k' p here past same =
    subst (λ rs. IsSomeAnd (lookup (λ i. i == id) rs.items) (λ o. IsPastReader o.reader)) (sym same)
    (subst (λ (o : Option PartitionReader). IsSomeAnd o (λ z. IsPastReader z.reader)) (sym (reader-at id at y q.readers.items p here)) past)

pub past-was : (id at : ℕ) (y : ℕ × PartitionReader) (q k' : Shard) → IsPlace id q.readers.items at → get_or q.readers.items at y ≡ y → k'.readers ≡ q.readers → IsPastNow id k' → IsPastReader y.1.reader
past-was id at y q k' p here same now =
    subst (λ (o : Option PartitionReader). IsSomeAnd o (λ z. IsPastReader z.reader)) (reader-at id at y q.readers.items p here)
    (subst (λ rs. IsSomeAnd (lookup (λ i. i == id) rs.items) (λ o. IsPastReader o.reader)) same now)

-- ---- what is filled

never-holds : (p : PartReader) (s : Snap) → (held_by p).cached ≡ Some s → IsPastReader p → ⊥
never-holds (Cached c) s e past = past
never-holds (Past o) s e past = cc e

-- where a page was given nothing was missing
pub filled-given : (id count at : ℕ) (d : ℕ × PartitionReader) (lines : List OutLine) (more : Bool) (reply : Reply) (n : ℕ) (k k' : Shard) → IsPlace id k.readers.items at → get_or k.readers.items at d ≡ d → reply ≡ replies.Given lines more → (IsPastNow id k' → IsPastReader d.1.reader) → IsFilledAsTold (Read id count) reply n n k k'
filled-given id count at d lines more reply n k k' p here is over = subst (λ (r : Reply). IsFilledAsTold (Read id count) r n n k k') (sym is) (λ none o found holds how.
    let same : o ≡ d.1 = same-some o d.1 _ found (reader-at id at d k.readers.items p here) in
    absurd (elim how [ inl less ↦ omega (arith, less) | inr past ↦ never-holds d.1.reader holds.snap (sym (ap (λ (x : PartitionReader). cached_of x) same) ∙ holds.held) (over past) ]))

-- where something was, the row cache knows all of the partition
pub filled-past : (id count at : ℕ) (d : ℕ × PartitionReader) (x : PartitionReader) (reply : Reply) (before now : ℕ) (k q k' : Shard) → IsPlace id k.readers.items at → get_or k.readers.items at d ≡ d → IsUntold k q → x.key ≡ d.1.key → x.tables ≡ d.1.tables → cached_of x ≡ cached_of d.1 → IsPutPast x reply q k' → IsFilledAsTold (Read id count) reply before now k k'
filled-past id count at d x replies.Nothing before now k q k' p here u key tables snap put = tt
filled-past id count at d x replies.Fine before now k q k' p here u key tables snap put = tt
filled-past id count at d x replies.Going before now k q k' p here u key tables snap put = tt
filled-past id count at d x replies.Done before now k q k' p here u key tables snap put = tt
filled-past id count at d x (replies.Stats f) before now k q k' p here u key tables snap put = tt
filled-past id count at d x (replies.Refused r) before now k q k' p here u key tables snap put = tt
filled-past id count at d x (replies.Given lines more) before now k q k' p here u key tables snap put = λ none o found may how.
    let same : o ≡ d.1 = same-some o d.1 _ found (reader-at id at d k.readers.items p here) in
    let own : x.key ≡ o.key = key ∙ sym (ap (λ (y : PartitionReader). y.key) same) in
    let first : x.tables ≡ o.tables = tables ∙ sym (ap (λ (y : PartitionReader). y.tables) same) in
    let may-now : MayRefill q.folder.infos x = record {
      snap = may.snap;
      held = snap ∙ sym (ap (λ (y : PartitionReader). cached_of y) same) ∙ may.held;
      latest = (λ i. listing (own i) (drop (length (first i)) (u.folder i).infos)) ∙ may.latest;
    } in
    subst (λ (w : List ℕ). IsCachedWhole k' w) own (put (subst (λ v. NoneLost (losses v.chains) (losses k'.unstored.chains)) (sym u.unstored) none) may-now)

pub put-past : (o : PartitionReader) (reply : Reply) (k k' : Shard) → (NoneLost (losses k.unstored.chains) (losses k'.unstored.chains) → MayRefill k.folder.infos o → IsCachedWhole k' o.key) → IsPutPast o reply k k'
put-past o replies.Nothing k k' h = tt
put-past o replies.Fine k k' h = tt
put-past o replies.Going k k' h = tt
put-past o replies.Done k k' h = tt
put-past o (replies.Stats f) k k' h = tt
put-past o (replies.Refused r) k k' h = tt
put-past o (replies.Given lines more) k k' h = h

-- what is told of answers is told of the same shard
module _ (before now : ℕ) (k l : Shard) (answered : Answered) where
  abbrev counted : Shard
  counted = record l { answered = answered }

  cached-counted : (id : ℕ) (key : List ℕ) → IsCachedByReader id key l → IsCachedByReader id key counted
  cached-counted id key h = record { reader = h.reader; found = h.found; of_key = h.of_key; holds = h.holds; latest = h.latest }

  held-counted : (id : ℕ) (key : List ℕ) → IsHeldByReader id key l → IsHeldByReader id key counted
  unfolding cached-counted
  held-counted id key h = record { reads = cached-counted id key h.reads; head = h.head }

  pub filled-counted : (command : Command) (reply : Reply) → IsFilledAsTold command reply before now k l → IsFilledAsTold command reply before now k counted
  filled-counted commands.Nothing reply h = tt
  filled-counted (commands.SetSchema schema) reply h = tt
  filled-counted (commands.Put w) reply h = tt
  filled-counted (commands.OpenRead id key slice) replies.Nothing h = tt
  filled-counted (commands.OpenRead id key slice) replies.Fine h = ((λ none. cached-counted id key (h.0 none)), (λ none. let f = h.1 none in record { held = held-counted id key f.held; whole = f.whole }))
  filled-counted (commands.OpenRead id key slice) replies.Going h = tt
  filled-counted (commands.OpenRead id key slice) replies.Done h = tt
  filled-counted (commands.OpenRead id key slice) (replies.Stats f) h = tt
  filled-counted (commands.OpenRead id key slice) (replies.Refused r) h = tt
  filled-counted (commands.OpenRead id key slice) (replies.Given lines more) h = tt
  filled-counted (commands.Read id count) replies.Nothing h = tt
  filled-counted (commands.Read id count) replies.Fine h = tt
  filled-counted (commands.Read id count) replies.Going h = tt
  filled-counted (commands.Read id count) replies.Done h = tt
  filled-counted (commands.Read id count) (replies.Stats f) h = tt
  filled-counted (commands.Read id count) (replies.Refused r) h = tt
  filled-counted (commands.Read id count) (replies.Given lines more) h = h
  filled-counted (commands.Close id) reply h = tt
  filled-counted commands.Flush reply h = tt
  filled-counted commands.FlushBegin reply h = tt
  filled-counted (commands.FlushStep count) reply h = tt
  filled-counted (commands.Evict count) reply h = tt
  filled-counted (commands.Compact count) reply h = tt
  filled-counted (commands.Clean count) reply h = tt
  filled-counted commands.Stats reply h = tt

-- a partition is apart from the reader's chain behind the filling, where something of it could be evicted before
pub apart-refilled : (o : PartitionReader) (k f : Shard) (key : List ℕ) → IsRefilled o k f → IsPartitionListed k key → IsSparedPast (cached_of o) f key
apart-refilled o k f key (inl same) listed = inl (subst (λ (x : Shard). IsPartitionListed x key) (sym same.1) listed)
apart-refilled o k f key (inr put) listed = inr (subst (λ (s : Option Snap). IfSome s (λ t. entry_number f.cache.entries key ≡ Some t.chain → ⊥)) (sym put.held) (put.apart key))

-- what was filled is known once the reader went past the row cache
pub whole-past : (o : PartitionReader) (k f k' : Shard) → IsRefilled o k f → MayRefill k.folder.infos o → NoneLost (losses k.unstored.chains) (losses f.unstored.chains) → (IsSparedPast (cached_of o) f o.key → IsKnownStill o.key f k') → IsCachedWhole k' o.key
whole-past o k f k' (inl same) holds none stays = absurd (same.0 holds)
whole-past o k f k' (inr put) holds none stays =
    (stays (inr (subst (λ (s : Option Snap). IfSome s (λ t. entry_number f.cache.entries o.key ≡ Some t.chain → ⊥)) (sym put.held) (put.apart o.key)))).whole (put.whole none)

-- ---- how often the store is asked

module _ (lines : PartReader → Memory → List Mutation → List OutLine → Type 0) where
  -- what its tables are asked for is no more than what lists its partition
  pub asks-within : (files : Option Files) (k : Shard) (m : State) (id at : ℕ) (d : ℕ × PartitionReader) (before after : ℕ) → IsPlace id k.readers.items at → get_or k.readers.items at d ≡ d → Stands lines files k m → after ≤ before + 2 * listing d.1.key d.1.tables →
      after ≤ before + option_map_or (λ (r : Reader). 2 * listing r.key m.infos) (reader_of id m) 0
  asks-within files k m id at d before after p here s asked =
      let f = found-at lines files k m id at d s p here in
      let o = f.served.opened in
      let fewer : listing d.1.key d.1.tables ≤ listing d.1.key m.infos = fewer_listed d.1.key d.1.tables o.later m.infos o.are in
      let within : after ≤ before + 2 * listing d.1.key m.infos = omega (arith, asked, fewer) in
      subst (λ (r : Option Reader). after ≤ before + option_map_or (λ (q : Reader). 2 * listing q.key m.infos) r 0) (sym f.found) (subst (λ (key : List ℕ). after ≤ before + 2 * listing key m.infos) f.served.key within)

  -- a page was given, and its rows became the most recent ones
  pub paged-kept : (files : Option Files) (id count : ℕ) (m : State) (gave : List OutLine × Bool) (q k' : Shard) → StandsForTheSame (Stands lines) q k' → IsPaged (Stands lines) files id count m gave q → IsPaged (Stands lines) files id count m gave k'
  paged-kept files id count m gave q k' keeps p = record { reader = p.reader; found = p.found; lines = p.lines; more = p.more; stands = keeps files (with_reader id (reader_past count p.reader) m) p.stands }

  -- memory ran out: it is as it was
  pub stops-same : (files files' : Option Files) (k k' : Shard) (id count : ℕ) → files' ≡ files → StandsForTheSame (Stands lines) k k' → Stops (Stands lines) files k (Read id count) files' k'
  stops-same files files' k k' id count still keeps = λ m s. (m, inl refl, subst (λ told. Stands lines told k' m) (sym still) (keeps files m s))

  -- it ran out once the reader was told anew
  pub stops-anew : (files files' : Option Files) (k l k' : Shard) (id count : ℕ) → files' ≡ files → ((m : State) → Stands lines files k m → IsGoneOn (Stands lines) files id m l) → StandsForTheSame (Stands lines) l k' → Stops (Stands lines) files k (Read id count) files' k'
  stops-anew files files' k l k' id count still told keeps = λ m s.
      let t = told m s in
      let now : Reader = record (t.reader) { said = t.said } in
      (with_reader id now m, inr (t.reader, t.said, t.found, t.resaid, refl), subst (λ f. Stands lines f k' (with_reader id now m)) (sym still) (keeps files (with_reader id now m) t.stands))

  -- behind calls that keep what stands a step is one in front of them
  pub takes-behind : (files files' : Option Files) (k q k' : Shard) (id count : ℕ) (reply : Reply) → KeepsOver (Stands lines) files k q → Takes (Stands lines) files q (Read id count) reply files' k' → Takes (Stands lines) files k (Read id count) reply files' k'
  takes-behind files files' k q k' id count reply keeps takes = λ m s. takes m (keeps m s)

  pub stops-behind : (files files' : Option Files) (k q k' : Shard) (id count : ℕ) → KeepsOver (Stands lines) files k q → Stops (Stands lines) files q (Read id count) files' k' → Stops (Stands lines) files k (Read id count) files' k'
  stops-behind files files' k q k' id count keeps stops = λ m s. stops m (keeps m s)

  -- memory ran out, and what stands does so still
  pub stops-over : (files files' : Option Files) (k k' : Shard) (id count : ℕ) → files' ≡ files → KeepsOver (Stands lines) files k k' → Stops (Stands lines) files k (Read id count) files' k'
  stops-over files files' k k' id count still keeps = λ m s. (m, inl refl, subst (λ told. Stands lines told k' m) (sym still) (keeps m s))

  pub stops-to : (files files' : Option Files) (k k' : Shard) (id count : ℕ) → files' ≡ files → Stops (Stands lines) files k (Read id count) files k' → Stops (Stands lines) files k (Read id count) files' k'
  stops-to files files' k k' id count still stops = subst (λ told. Stops (Stands lines) files k (Read id count) told k') (sym still) stops

  pub takes-told : (files files' : Option Files) (k k' : Shard) (id count : ℕ) (reply given : Reply) → reply ≡ given → files' ≡ files → Takes (Stands lines) files k (Read id count) given files k' → Takes (Stands lines) files k (Read id count) reply files' k'
  takes-told files files' k k' id count reply given is still t = subst (λ (r : Reply). Takes (Stands lines) files k (Read id count) r files' k') (sym is) (to-files lines files k k' files' (Read id count) given still t)

  -- a reader went on over what was read of the tables of its opening
  pub told-by : (files : Option Files) (k l : Shard) (at : ℕ) (d : ℕ × PartitionReader) (read : Mutation) → get_or k.readers.items at d ≡ d → IsReadOfFirst files k.folder d.1 read →
      ((id : ℕ) (files : Option Files) (m : State) (o : ℕ × PartitionReader) (said : List Mutation) → Stands lines files k m → position (λ reader. reader.0 == id) k.readers.items ≡ Some at → get_or k.readers.items at o ≡ o → IsSaidByFirst m o.1.tables o.1.key said → IsJoinOf read said → IsMutation read → ChangeFits k.folder.schema read → IsGoneOn (Stands lines) files id m l) →
      (id : ℕ) → position (λ reader. reader.0 == id) k.readers.items ≡ Some at → (m : State) → Stands lines files k m → IsGoneOn (Stands lines) files id m l
  told-by files k l at d read here h past id place m s =
      let f = found-at lines files k m id at d s (place-of id k.readers.items at place) here in
      let o = f.served.opened in
      let said = h.said m o.later s.over (sym s.over.infos ∙ o.are) in
      past id files m d said.0 s place here said.1 said.2 h.mutation h.fits

  -- what was read of them was put into the row cache
  pub keeps-by : (files : Option Files) (k f : Shard) (id at : ℕ) (d : ℕ × PartitionReader) (read : Mutation) → get_or k.readers.items at d ≡ d → position (λ reader. reader.0 == id) k.readers.items ≡ Some at → IsReadOfFirst files k.folder d.1 read →
      ((id : ℕ) (files : Option Files) (m : State) (o : ℕ × PartitionReader) (said : List Mutation) → Stands lines files k m → position (λ reader. reader.0 == id) k.readers.items ≡ Some at → get_or k.readers.items at o ≡ o → IsSaidByFirst m o.1.tables o.1.key said → IsJoinOf read said → Stands lines files f m) → KeepsOver (Stands lines) files k f
  keeps-by files k f id at d read here place h keeps = λ m s.
      let found = found-at lines files k m id at d s (place-of id k.readers.items at place) here in
      let o = found.served.opened in
      let said = h.said m o.later s.over (sym s.over.infos ∙ o.are) in
      keeps id files m d said.0 s place here said.1 said.2
