-- The steps that a shard takes.
use Rattle.std.proofs.Common.{◌≡◌, ◌==◌, ℕ, ◌<◌, ◌≤◌, inl, inr, Bool, true, false, cond, List, [], ◌∷◌, ◌++◌, length, take, drop, get_or, set, Option, Some, None, nat_lt, refl, sym, ap, subst, ◌∙◌, arith}
use Rattle.std.specs.Prelude.{Err, IfOk, Ok, Result, ⊤}
use Rattle.std.specs.declared.alloc.AllocError.{AllocError}
use Rattle.std.specs.Global.{Vec}
use Rattle.std.specs.Map.{lookup, set_value}
use Rattle.std.proofs.lemmas.Bool.Decides.{nat_tests}
use Rattle.rc_outside.specs.Files.{Files}
use Rattle.rc_position.specs.declared.slices.Slice.{Slice}
use Rattle.rc_schema.specs.SchemaValue.{SchemaValue}
use Rattle.rc_mutation.specs.declared.mutations.Mutation.{Mutation}
use Rattle.rc_mutation.specs.declared.mutations.Write.{Write}
use Rattle.rc_mutation.specs.Source.{IsMutation}
use Rattle.rc_query.specs.declared.lines.OutLine.{OutLine}
use Rattle.rc_outside.specs.Faults.{Rose}
use Rattle.rc_stream.specs.Causes.{Caused}
use Rattle.rc_stream.specs.declared.streams.StreamErr.{StreamErr}
use Rattle.rc_stream.specs.declared.streams.StreamErr.TheVariants as stream_err
use Rattle.rc_tfile.specs.declared.info.TableInfo.{TableInfo}
use Rattle.rc_tables.specs.Tables.{IsDamageAmong, IsDamageOf}
use Rattle.rc_lines.specs.Fits.{CommandFits}
use Rattle.rc_lines.specs.declared.commands.Command.TheVariants.{Put, OpenRead, Read, Close}
use Rattle.rc_lines.specs.declared.commands.Command.{Command}
use Rattle.rc_lines.specs.declared.commands.Reply.{Reply}
use Rattle.rc_lines.specs.declared.commands.Reply.TheVariants as replies
use Rattle.rc_lines.specs.declared.commands.Refusal.TheVariants.{NoReader, ReaderInUse, TooManyReaders, ReadFault, Damaged, Full}
use Rattle.rc_memory.specs.Memory.{Memory}
use Rattle.rc_chain.specs.declared.chains.Snap.{Snap}
use Rattle.rc_lookup.specs.Unstored.{Unstored}
use Rattle.rc_lookup.specs.Footprint.{cache_snapshots}
use Rattle.rc_lookup.specs.LetGo.{TakesNoMore}
use Rattle.rc_lookup.specs.NoMore.{no-more-itself}
use Rattle.rc_paging.specs.declared.forms.PartReader.{PartReader}
use Rattle.rc_paging.specs.declared.forms.PartReader.TheVariants.{Cached, Past}
use Rattle.rc_paging.specs.declared.layers.HeldSnaps.{HeldSnaps}
use Rattle.rc_paging.specs.Forms.{ByForm, held_by}
use Rattle.rc_machine.specs.State.{Reader, State, rest_of}
use Rattle.rc_machine.specs.Standing.{IsOver}
use Rattle.rc_machine.specs.Steps.{IsSaid, most_readers, reader_past, reader_with}
use Rattle.rc_machine.specs.Serving.{FaultsAreCounted, OnFaulty, Takes}
use Rattle.rc_machine.specs.laws.Reading.{rest_past}
use Rattle.rc_shard.specs.declared.readers.PartitionReader.{PartitionReader}
use Rattle.rc_shard.specs.declared.readers.Source.{Source}
use Rattle.rc_shard.specs.declared.shard.Shard.{Shard}
use Rattle.rc_shard.specs.Readers.{AreHeldThere, IsReadOver, IsServed, WasOpened, cached_of, cached_readers, number_of_snaps, lies_below}
use Rattle.rc_shard.specs.Stands.{AreFor, Stands}
use Rattle.rc_shard.specs.calls.Keeping.{StandsForTheSame, TellsOf}
use Rattle.rc_shard.specs.calls.Caching.{IsFull}
use Rattle.rc_shard.specs.calls.Looking.{KeepsOver}
use Rattle.rc_shard.specs.calls.Reading.{IsGoneOn, IsPaged, IsPagedBeside, with_reader}
use Rattle.rc_shard.specs.calls.Staying.{Staying}
use Rattle.rc_shard.specs.calls.Storing.{KeepsUnstored, TakesWrite}
use Rattle.rc_shard.proofs.OfItsKey.{of-at, of-same, of-set}
use Rattle.rc_shard.proofs.Places.{IsNowhere, IsPlace, in-range, one-of}
use Rattle.rc_shard.proofs.Served.{IsFound, cached-set, few-cached, look-none, look-some, same-two, served-count, set-kept, set-served}
use Rattle.rc_shard.proofs.Standing.{kept-for, may-be-full, reading-for, written-for}

fewer : (n : ℕ) → n < most_readers → nat_lt n most_readers ≡ true
fewer n h = grind (arith, nat_tests, h)

as-many : (n : ℕ) → most_readers ≤ n → nat_lt n most_readers ≡ false
as-many n h = grind (arith, nat_tests, h)

-- nothing is let go in memory that is as it was
pub no-more-same : (m n : Memory) → n ≡ m → TakesNoMore m n
no-more-same m n e = subst (TakesNoMore m) (sym e) (no-more-itself m)

module _ (T : Type 0) where
  not-less : (e : StreamErr) (files : Option Files) (before now : ℕ) → Caused {T = T} (Err e) files before now → before ≤ now
  not-less stream_err.Fault files before now c = c.0
  not-less (stream_err.Damaged file offset) files before now c = c.0
  not-less stream_err.NoMemory files before now c = c

  -- its reply tells a fault only where the store's count of faults rose
  told-faults : (files : Option Files) (e : StreamErr) (before now : ℕ) (reply : Reply) → Caused {T = T} (Err e) files before now → TellsOf e reply → OnFaulty reply (Rose before now)
  told-faults files stream_err.Fault before now reply c told = subst (λ q. OnFaulty q (Rose before now)) (sym told) c.1
  told-faults files (stream_err.Damaged file offset) before now reply c told = subst (λ q. OnFaulty q (Rose before now)) (sym told) tt
  told-faults files stream_err.NoMemory before now reply c told = absurd told

  each-told : (files : Option Files) (e : StreamErr) (before now : ℕ) (r : Result Reply AllocError) → Caused {T = T} (Err e) files before now → IfOk r (TellsOf e) → IfOk r (λ reply. OnFaulty reply (Rose before now))
  each-told files e before now (Ok reply) c told = told-faults files e before now reply c told
  each-told files e before now (Err x) c told = tt

  pub unread-faults : (files : Option Files) (e : StreamErr) (before now : ℕ) (r : Result Reply AllocError) → Caused {T = T} (Err e) files before now → IfOk r (TellsOf e) → FaultsAreCounted r before now
  unread-faults files e before now r c told = (not-less e files before now c, each-told files e before now r c told)

-- damage of the first tables is damage of all
pub damage-later : (schema : SchemaValue) (key : List ℕ) (first later : List TableInfo) (file offset : ℕ) → IsDamageAmong schema key first file offset → IsDamageAmong schema key (first ++ later) file offset
damage-later schema key [] later file offset h = absurd h
damage-later schema key (i ∷ is) later file offset (inl here) = inl here
damage-later schema key (i ∷ is) later file offset (inr there) = inr (damage-later schema key is later file offset there)

-- ---- a reader in place of another one of the same id

same-some : {X : Type 0} {x y : X} → Some x ≡ Some y → x ≡ y
same-some e = cc

looked-at : (id : ℕ) (now : Reader) (q : ℕ × Reader) (rs : List (ℕ × Reader)) (r : Reader) (b : Bool) → (q.0 == id) ≡ b → (lookup (λ k. k == id) rs ≡ Some r → lookup (λ k. k == id) (set_value (λ k. k == id) rs now) ≡ Some now) → cond b (Some q.1) (lookup (λ k. k == id) rs) ≡ Some r →
    lookup (λ k. k == id) (cond b ((q.0, now) ∷ rs) (q ∷ set_value (λ k. k == id) rs now)) ≡ Some now
looked-at id now q rs r true e more found = ap (λ (c : Bool). cond c (Some now) (lookup (λ k. k == id) rs)) e
looked-at id now q rs r false e more found = ap (λ (c : Bool). cond c (Some q.1) (lookup (λ k. k == id) (set_value (λ k. k == id) rs now))) e ∙ more found

looked : (id : ℕ) (now : Reader) (rs : List (ℕ × Reader)) (r : Reader) → lookup (λ k. k == id) rs ≡ Some r → lookup (λ k. k == id) (set_value (λ k. k == id) rs now) ≡ Some now
looked id now [] r e = absurd (cc)
looked id now (q ∷ rs) r e = looked-at id now q rs r (q.0 == id) refl (λ found. looked id now rs r found) e

set-at : (id : ℕ) (one two : Reader) (q : ℕ × Reader) (rs : List (ℕ × Reader)) (b : Bool) → (q.0 == id) ≡ b → set_value (λ k. k == id) (set_value (λ k. k == id) rs one) two ≡ set_value (λ k. k == id) rs two →
    set_value (λ k. k == id) (cond b ((q.0, one) ∷ rs) (q ∷ set_value (λ k. k == id) rs one)) two ≡ cond b ((q.0, two) ∷ rs) (q ∷ set_value (λ k. k == id) rs two)
set-at id one two q rs true e more = ap (λ (c : Bool). cond c ((q.0, two) ∷ rs) ((q.0, one) ∷ set_value (λ k. k == id) rs two)) e
set-at id one two q rs false e more = ap (λ (c : Bool). cond c ((q.0, two) ∷ set_value (λ k. k == id) rs one) (q ∷ set_value (λ k. k == id) (set_value (λ k. k == id) rs one) two)) e ∙ ap (λ (ts : List (ℕ × Reader)). q ∷ ts) more

set-twice : (id : ℕ) (one two : Reader) (rs : List (ℕ × Reader)) → set_value (λ k. k == id) (set_value (λ k. k == id) rs one) two ≡ set_value (λ k. k == id) rs two
set-twice id one two [] = refl
set-twice id one two (q ∷ rs) = set-at id one two q rs (q.0 == id) refl (set-twice id one two rs)

-- as many hold a snapshot of the row cache
pub many-same : (at : ℕ) (d x : ℕ × PartitionReader) (os : List (ℕ × PartitionReader)) → at < length os → held_by x.1.reader ≡ held_by (get_or os at d).1.reader → cached_readers (set os at x) ≡ cached_readers os
many-same at d x os l same = let sum = cached-set at d x os l in let e = ap (λ (g : HeldSnaps). number_of_snaps g.cached) same in omega (arith, sum, e)

-- a reader that holds the same over the row cache
module _ (below : ℕ → List Mutation) (schema : SchemaValue) (m : Memory) where
  pub over-past : (count : ℕ) (p q : PartReader) (r : Reader) → held_by q ≡ held_by p → ((below : List Mutation) (r : Reader) → ByForm (λ c. IsReadOver schema below m c r) (λ _. ⊤) p → ByForm (λ c. IsReadOver schema below m c (reader_past count r)) (λ _. ⊤) q) →
      ByForm (λ c. IsReadOver schema (lies_below below c.held.cached) m c r) (λ _. ⊤) p → ByForm (λ c. IsReadOver schema (lies_below below c.held.cached) m c (reader_past count r)) (λ _. ⊤) q
  over-past count (Past a) (Past b) r same goes h = tt
  over-past count (Past a) (Cached b) r same goes h = goes (lies_below below b.held.cached) r tt
  over-past count (Cached a) (Past b) r same goes h = tt
  over-past count (Cached a) (Cached b) r same goes h = subst (λ (o : Option Snap). IsReadOver schema (lies_below below o) m b (reader_past count r)) (sym (ap (λ (g : HeldSnaps). g.cached) same)) (goes (lies_below below a.held.cached) r h)

  pub over-same : (p q : PartReader) (r : Reader) → held_by q ≡ held_by p → ((below : List Mutation) (r : Reader) → ByForm (λ c. IsReadOver schema below m c r) (λ _. ⊤) p → ByForm (λ c. IsReadOver schema below m c r) (λ _. ⊤) q) →
      ByForm (λ c. IsReadOver schema (lies_below below c.held.cached) m c r) (λ _. ⊤) p → ByForm (λ c. IsReadOver schema (lies_below below c.held.cached) m c r) (λ _. ⊤) q
  over-same (Past a) (Past b) r same goes h = tt
  over-same (Past a) (Cached b) r same goes h = goes (lies_below below b.held.cached) r tt
  over-same (Cached a) (Past b) r same goes h = tt
  over-same (Cached a) (Cached b) r same goes h = subst (λ (o : Option Snap). IsReadOver schema (lies_below below o) m b r) (sym (ap (λ (g : HeldSnaps). g.cached) same)) (goes (lies_below below a.held.cached) r h)

module _ (lines : PartReader → Memory → List Mutation → List OutLine → Type 0) where
  pub moved : (files : Option Files) (k k' : Shard) (u : Unstored 131072) (os : List (ℕ × PartitionReader)) (m : State) → k'.folder ≡ k.folder → k'.unstored ≡ u → k'.cache.entries ≡ k.cache.entries → k'.segments ≡ k.segments → k'.readers.items ≡ os → AreFor lines files k.folder u k.cache.entries os k.segments 0 m → Stands lines files k' m
  moved files k k' u os m folder unst cache segs items h =
      subst (λ os. AreFor lines files k'.folder k'.unstored k'.cache.entries os k'.segments 0 m) (sym items)
      (subst (λ n. AreFor lines files k'.folder k'.unstored k'.cache.entries os n 0 m) (sym segs)
      (subst (λ es. AreFor lines files k'.folder k'.unstored es os k.segments 0 m) (sym cache)
      (subst (λ v. AreFor lines files k'.folder v k.cache.entries os k.segments 0 m) (sym unst)
      (subst (λ f. AreFor lines files f u k.cache.entries os k.segments 0 m) (sym folder) h))))

  -- it stands for the same where there is room for one more reader
  pub stands-reserved : (files : Option Files) (k : Shard) (readers : Vec (ℕ × PartitionReader)) (m : State) → readers.items ≡ k.readers.items → Stands lines files k m → Stands lines files (record k { readers = readers }) m
  stands-reserved files k readers m items s = moved files k (record k { readers = readers }) k.unstored k.readers.items m refl refl refl refl items s

  pub to-files : (files : Option Files) (k k' : Shard) (files' : Option Files) (command : Command) (reply : Reply) → files' ≡ files → Takes (Stands lines) files k command reply files k' → Takes (Stands lines) files k command reply files' k'
  to-files files k k' files' command reply e t = subst (λ now. Takes (Stands lines) files k command reply now k') (sym e) t

  pub keeps-files : (files files' : Option Files) (k : Shard) (m : State) → files' ≡ files → Stands lines files k m → Stands lines files' k m
  keeps-files files files' k m e s = subst (λ told. Stands lines told k m) (sym e) s

  -- the machine's reader of an id, where the shard's stands at a place
  pub found-at : (files : Option Files) (k : Shard) (m : State) (id at : ℕ) (d : ℕ × PartitionReader) (s : Stands lines files k m) → IsPlace id k.readers.items at → get_or k.readers.items at d ≡ d → IsFound lines s.cached.below m k.unstored.chains id d m.readers
  found-at files k m id at d s p here = subst (λ (o : ℕ × PartitionReader). IsFound lines s.cached.below m k.unstored.chains id o m.readers) here (look-some lines s.cached.below m k.unstored.chains id at d k.readers.items m.readers s.served p)

  -- ---- steps that change nothing

  look-shut : (files : Option Files) (k : Shard) (m : State) (id : ℕ) → Stands lines files k m → IsNowhere id k.readers.items → lookup (λ q. q == id) m.readers ≡ None
  look-shut files k m id s none = look-none lines s.cached.below m k.unstored.chains id k.readers.items m.readers s.served none

  count-open : (files : Option Files) (k : Shard) (m : State) → Stands lines files k m → length m.readers ≡ length k.readers.items
  count-open files k m s = served-count lines s.cached.below m k.unstored.chains k.readers.items m.readers s.served

  pub takes-in-use : (files : Option Files) (k : Shard) (id at : ℕ) (key : List ℕ) (slice : Slice) → IsPlace id k.readers.items at → Takes (Stands lines) files k (OpenRead id key slice) (replies.Refused ReaderInUse) files k
  takes-in-use files k id at key slice p = λ m s.
      let f = look-some lines s.cached.below m k.unstored.chains id at (one-of id k.readers.items at p) k.readers.items m.readers s.served p in
      (m, rw (f.found) (refl, refl), s)

  few-open : (files : Option Files) (k : Shard) (m : State) → Stands lines files k m → length k.readers.items < most_readers → nat_lt (length m.readers) most_readers ≡ true
  few-open files k m s h = fewer (length m.readers) (subst (λ n. n < most_readers) (sym (count-open files k m s)) h)

  pub takes-too-many : (files : Option Files) (k : Shard) (id : ℕ) (key : List ℕ) (slice : Slice) → IsNowhere id k.readers.items → most_readers ≤ length k.readers.items → Takes (Stands lines) files k (OpenRead id key slice) (replies.Refused TooManyReaders) files k
  takes-too-many files k id key slice none many = λ m s.
      (m, rw (look-shut files k m id s none, as-many (length m.readers) (subst (λ n. most_readers ≤ n) (sym (count-open files k m s)) many)) (refl, refl), s)

  pub takes-fault : (files : Option Files) (k k' : Shard) (id : ℕ) (key : List ℕ) (slice : Slice) → IsNowhere id k.readers.items → length k.readers.items < most_readers → KeepsOver (Stands lines) files k k' → Takes (Stands lines) files k (OpenRead id key slice) (replies.Refused ReadFault) files k'
  takes-fault files k k' id key slice none h keeps = λ m s. (m, rw (look-shut files k m id s none, few-open files k m s h) (inr (inl (refl, refl))), keeps m s)

  damage-of : (m : State) (k : Shard) (key : List ℕ) (file offset : ℕ) (files : Option Files) → IsOver files k.folder.schema k.folder.infos m → IsDamageOf k.folder.schema key k.folder.infos (stream_err.Damaged file offset) → IsDamageOf m.schema key m.infos (stream_err.Damaged file offset)
  damage-of m k key file offset files over damage =
      subst (λ (schema : SchemaValue). IsDamageOf schema key m.infos (stream_err.Damaged file offset)) (sym over.schema)
      (subst (λ (infos : List TableInfo). IsDamageOf k.folder.schema key infos (stream_err.Damaged file offset)) (sym over.infos) damage)

  pub takes-damaged : (files : Option Files) (k k' : Shard) (id : ℕ) (key : List ℕ) (slice : Slice) (file offset : ℕ) → IsNowhere id k.readers.items → length k.readers.items < most_readers →
      files ≡ None → IsDamageOf k.folder.schema key k.folder.infos (stream_err.Damaged file offset) → KeepsOver (Stands lines) files k k' → Takes (Stands lines) files k (OpenRead id key slice) (replies.Refused (Damaged file offset)) files k'
  takes-damaged files k k' id key slice file offset none h untold damage keeps = λ m s.
      (m, rw (look-shut files k m id s none, few-open files k m s h) (inr (inr (file, offset, s.over.files ∙ untold, damage-of m k key file offset files s.over damage, (refl, refl)))), keeps m s)

  -- what the tables say could not be read
  pub unread-of : (files files' : Option Files) (k k' : Shard) (id : ℕ) (key : List ℕ) (slice : Slice) (e : StreamErr) (before now : ℕ) (r : Result Reply AllocError) → files' ≡ files → IsNowhere id k.readers.items → length k.readers.items < most_readers → KeepsOver (Stands lines) files k k' →
      IsDamageOf k.folder.schema key k.folder.infos e → Caused {T = Source} (Err e) files before now → IfOk r (TellsOf e) → IfOk r (λ reply. Takes (Stands lines) files k (OpenRead id key slice) reply files' k')
  unread-of files files' k k' id key slice e before now (Err x) still none h keeps damage cause told = tt
  unread-of files files' k k' id key slice stream_err.Fault before now (Ok reply) still none h keeps damage cause told =
      subst (λ q. Takes (Stands lines) files k (OpenRead id key slice) q files' k') (sym told) (to-files files k k' files' (OpenRead id key slice) (replies.Refused ReadFault) still (takes-fault files k k' id key slice none h keeps))
  unread-of files files' k k' id key slice (stream_err.Damaged file offset) before now (Ok reply) still none h keeps damage cause told =
      subst (λ q. Takes (Stands lines) files k (OpenRead id key slice) q files' k') (sym told)
      (to-files files k k' files' (OpenRead id key slice) (replies.Refused (Damaged file offset)) still (takes-damaged files k k' id key slice file offset none h cause.1 damage keeps))
  unread-of files files' k k' id key slice stream_err.NoMemory before now (Ok reply) still none h keeps damage cause told = absurd told

  pub takes-no-read : (files : Option Files) (k : Shard) (id count : ℕ) → IsNowhere id k.readers.items → Takes (Stands lines) files k (Read id count) (replies.Refused NoReader) files k
  takes-no-read files k id count none = λ m s. (m, rw (look-shut files k m id s none) (refl, refl), s)

  pub takes-no-close : (files : Option Files) (k : Shard) (id : ℕ) → IsNowhere id k.readers.items → Takes (Stands lines) files k (Close id) (replies.Refused NoReader) files k
  takes-no-close files k id none = λ m s. (m, rw (look-shut files k m id s none) (refl, refl), s)

  -- ---- readers

  -- what was answered of an opening
  pub opened-of : (files files' : Option Files) (k k' : Shard) (id : ℕ) (key : List ℕ) (slice : Slice) (r : Result Reply AllocError) → files' ≡ files → IsNowhere id k.readers.items → length k.readers.items < most_readers → IfOk r (λ reply. reply ≡ replies.Fine) →
      ((m : State) → Stands lines files k m → (said : List Mutation) × IsSaid m key said × IfOk r (λ _. Stands lines files k' (record m { readers = m.readers ++ (id, reader_with m key slice said) ∷ [] }))) →
      IfOk r (λ reply. Takes (Stands lines) files k (OpenRead id key slice) reply files' k')
  opened-of files files' k k' id key slice (Ok reply) still none few fine made =
      let takes : Takes (Stands lines) files k (OpenRead id key slice) replies.Fine files k' = λ m s.
      (let all = made m s in (
        record m { readers = m.readers ++ (id, reader_with m key slice all.0) ∷ [] },
        rw (look-shut files k m id s none, few-open files k m s few) (inl (all.0, all.1, (refl, refl))),
        all.2,
      )) in
      subst (λ q. Takes (Stands lines) files k (OpenRead id key slice) q files' k') (sym fine) (to-files files k k' files' (OpenRead id key slice) replies.Fine still takes)
  opened-of files files' k k' id key slice (Err e) still none few fine made = tt

  -- a page was given: the machine's reader gives it
  pub takes-paged : (files : Option Files) (k k' : Shard) (id count : ℕ) (gave : List OutLine) (more : Bool) → ((m : State) → Stands lines files k m → IsPaged (Stands lines) files id count m (gave, more) k') → Takes (Stands lines) files k (Read id count) (replies.Given gave more) files k'
  takes-paged files k k' id count gave more paged = λ m s.
      let p = paged m s in
      let r : Reader = p.reader in
      let reply : replies.Given gave more ≡ replies.Given (take count (rest_of r)) (nat_lt count (length (rest_of r))) = λ i. replies.Given (p.lines i) (p.more i) in
      (with_reader id (reader_past count r) m, rw (p.found) (inl (r.said, inl refl, (reply, refl))), p.stands)

  -- it was given once the reader had been told anew
  pub takes-anew : (files : Option Files) (k l k' : Shard) (id count : ℕ) (gave : List OutLine) (more : Bool) → ((m : State) → Stands lines files k m → IsGoneOn (Stands lines) files id m l) → ((m : State) → Stands lines files l m → IsPaged (Stands lines) files id count m (gave, more) k') →
      Takes (Stands lines) files k (Read id count) (replies.Given gave more) files k'
  takes-anew files k l k' id count gave more told paged = λ m s.
      let t = told m s in
      let now : Reader = record (t.reader) { said = t.said } in
      let p = paged (with_reader id now m) t.stands in
      let is : p.reader ≡ now = same-some (sym p.found ∙ looked id now m.readers t.reader t.found) in
      let reply : replies.Given gave more ≡ replies.Given (take count (rest_of now)) (nat_lt count (length (rest_of now))) =
      λ i. replies.Given ((p.lines ∙ ap (λ (r : Reader). take count (rest_of r)) is) i) ((p.more ∙ ap (λ (r : Reader). nat_lt count (length (rest_of r))) is) i) in
      let twice : with_reader id (reader_past count p.reader) (with_reader id now m) ≡ with_reader id (reader_past count now) m =
      ap (λ (r : Reader). with_reader id (reader_past count r) (with_reader id now m)) is ∙ ap (λ (rs : List (ℕ × Reader)). record m { readers = rs }) (set-twice id now (reader_past count now) m.readers) in
      (with_reader id (reader_past count now) m, rw (t.found) (inl (t.said, t.resaid, (reply, refl))), subst (Stands lines files k') twice p.stands)

  -- what a reader's tables say could not be read: nothing changes
  pub takes-unread : (files files' : Option Files) (k : Shard) (id count : ℕ) (at : ℕ) (d : ℕ × PartitionReader) (e : StreamErr) (before now : ℕ) (r : Result Reply AllocError) → IsPlace id k.readers.items at → get_or k.readers.items at d ≡ d → files' ≡ files →
      IsDamageOf k.folder.schema d.1.key d.1.tables e → Caused {T = Mutation} (Err e) files before now → IfOk r (TellsOf e) → IfOk r (λ reply. Takes (Stands lines) files k (Read id count) reply files' k)
  takes-unread files files' k id count at d e before now (Err x) p here still damage cause told = tt
  takes-unread files files' k id count at d stream_err.Fault before now (Ok reply) p here still damage cause told =
      let takes : Takes (Stands lines) files k (Read id count) (replies.Refused ReadFault) files k = λ m s. (let f = found-at files k m id at d s p here in (m, rw (f.found) (inr (inl (refl, refl))), s)) in
      subst (λ q. Takes (Stands lines) files k (Read id count) q files' k) (sym told) (to-files files k k files' (Read id count) (replies.Refused ReadFault) still takes)
  takes-unread files files' k id count at d (stream_err.Damaged file offset) before now (Ok reply) p here still damage cause told =
      let takes : Takes (Stands lines) files k (Read id count) (replies.Refused (Damaged file offset)) files k = λ m s.
      (let f = found-at files k m id at d s p here in
      let key = f.served.key in
      let o = f.served.opened in
      let first : IsDamageOf m.schema f.reader.key d.1.tables (stream_err.Damaged file offset) =
      subst (λ (q : List ℕ). IsDamageOf m.schema q d.1.tables (stream_err.Damaged file offset)) key
      (subst (λ (schema : SchemaValue). IsDamageOf schema d.1.key d.1.tables (stream_err.Damaged file offset)) (sym s.over.schema) damage) in
      let all : IsDamageOf m.schema f.reader.key m.infos (stream_err.Damaged file offset) = subst (λ (infos : List TableInfo). IsDamageOf m.schema f.reader.key infos (stream_err.Damaged file offset)) (sym o.are) (damage-later m.schema f.reader.key d.1.tables o.later file offset first) in
      (m, rw (f.found) (inr (inr (file, offset, s.over.files ∙ cause.1, all, (refl, refl)))), s)) in
      subst (λ q. Takes (Stands lines) files k (Read id count) q files' k) (sym told) (to-files files k k files' (Read id count) (replies.Refused (Damaged file offset)) still takes)
  takes-unread files files' k id count at d stream_err.NoMemory before now (Ok reply) p here still damage cause told = absurd told

  module _ (stays : Staying lines) where
    -- a reader gave a page: it goes on behind it
    pub paged-at : (files : Option Files) (k k' : Shard) (id count at : ℕ) (d : ℕ × PartitionReader) (gave : List OutLine × Bool) (m : State) → IsPlace id k.readers.items at → get_or k.readers.items at d ≡ d → (b : IsPagedBeside at k k') →
        ((r : Reader) (below : List Mutation) → lines d.1.reader k.unstored.chains below (rest_of r) → (gave.0 ≡ take count (rest_of r)) × (gave.1 ≡ nat_lt count (length (rest_of r))) × lines b.reader.1.reader k.unstored.chains below (drop count (rest_of r))) →
        ((below : List Mutation) (r : Reader) → ByForm (λ c. IsReadOver m.schema below k.unstored.chains c r) (λ _. ⊤) d.1.reader → ByForm (λ c. IsReadOver m.schema below k.unstored.chains c (reader_past count r)) (λ _. ⊤) b.reader.1.reader) →
        Stands lines files k m → IsPaged (Stands lines) files id count m gave k'
    paged-at files k k' id count at d gave m p here b gives over s =
        let f = found-at files k m id at d s p here in
        let r : Reader = f.reader in
        let x = b.reader in
        let kept = b.kept d here in
        let h = f.served in
        let snap : cached_of x.1 ≡ cached_of d.1 = ap (λ (g : HeldSnaps). g.cached) kept.3 in
        let g = gives r (lies_below s.cached.below (cached_of d.1)) h.left in
        let left : lines x.1.reader k.unstored.chains (lies_below s.cached.below (cached_of x.1)) (rest_of (reader_past count r)) =
        subst (λ (o : Option Snap). lines x.1.reader k.unstored.chains (lies_below s.cached.below o) (rest_of (reader_past count r))) (sym snap) (subst (lines x.1.reader k.unstored.chains (lies_below s.cached.below (cached_of d.1))) (sym (rest_past count r)) g.2) in
        let now : (q : ℕ × Reader) → q.0 ≡ x.0 → IsServed lines s.cached.below m k.unstored.chains x (q.0, reader_past count r) = λ q same. record {
          id = sym same;
          key = kept.1 ∙ h.key;
          left = left;
          over = over-past s.cached.below m.schema k.unstored.chains count d.1.reader x.1.reader r kept.3 over h.over;
          held = subst (AreHeldThere k.unstored.chains) (sym kept.3) h.held;
          opened = subst (λ (first : List TableInfo). WasOpened m first (reader_past count r)) (sym kept.2) (record { later = h.opened.later; are = h.opened.are; listed = h.opened.listed; said = h.opened.said });
        } in
        let same : x.0 ≡ (get_or k.readers.items at d).0 = kept.0 ∙ ap (λ (o : ℕ × PartitionReader). o.0) (sym here) in
        let held : held_by x.1.reader ≡ held_by (get_or k.readers.items at d).1.reader = kept.3 ∙ ap (λ (o : ℕ × PartitionReader). held_by o.1.reader) (sym here) in
        let served = set-served lines s.cached.below m k.unstored.chains id at d x (reader_past count r) k.readers.items m.readers now same p s.served in
        let pairs = same-two id at d x k.readers.items p same held s.two in
        let new = reading-for lines stays files k.folder k.unstored k.cache.entries k.readers.items (set k.readers.items at x) k.segments 0 m (set_value (λ q. q == id) m.readers (reader_past count r)) s (many-same at d x k.readers.items (in-range id k.readers.items at p) held) served pairs
        (of-set k.cache.entries k.readers.items at x (of-same k.cache.entries x d snap kept.1 (of-at k.cache.entries k.readers.items at d (in-range id k.readers.items at p) here s.apart)) s.apart) in
        record {
          reader = r;
          found = f.found;
          lines = g.0;
          more = g.1;
          stands = moved files k k' k.unstored (set k.readers.items at x) (with_reader id (reader_past count r) m) b.folder b.unstored (ap (λ c. c.entries) b.cache) b.segments b.readers new;
        }

    -- a reader gave none, for want of memory or since something is missing
    pub unpaged-at : (k k' : Shard) (id at : ℕ) (d : ℕ × PartitionReader) → IsPlace id k.readers.items at → get_or k.readers.items at d ≡ d → (b : IsPagedBeside at k k') →
        ((ls : List OutLine) (below : List Mutation) → lines d.1.reader k.unstored.chains below ls → lines b.reader.1.reader k.unstored.chains below ls) →
        ((schema : SchemaValue) (below : List Mutation) (r : Reader) → ByForm (λ c. IsReadOver schema below k.unstored.chains c r) (λ _. ⊤) d.1.reader → ByForm (λ c. IsReadOver schema below k.unstored.chains c r) (λ _. ⊤) b.reader.1.reader) →
        StandsForTheSame (Stands lines) k k'
    unpaged-at k k' id at d p here b left over = λ files m s.
        let x = b.reader in
        let kept = b.kept d here in
        let snap : cached_of x.1 ≡ cached_of d.1 = ap (λ (g : HeldSnaps). g.cached) kept.3 in
        let now : (q : ℕ × Reader) → IsServed lines s.cached.below m k.unstored.chains d q → IsServed lines s.cached.below m k.unstored.chains x q = λ q h. record {
          id = kept.0 ∙ h.id;
          key = kept.1 ∙ h.key;
          left = subst (λ (o : Option Snap). lines x.1.reader k.unstored.chains (lies_below s.cached.below o) (rest_of q.1)) (sym snap) (left (rest_of q.1) (lies_below s.cached.below (cached_of d.1)) h.left);
          over = over-same s.cached.below m.schema k.unstored.chains d.1.reader x.1.reader q.1 kept.3 (over m.schema) h.over;
          held = subst (AreHeldThere k.unstored.chains) (sym kept.3) h.held;
          opened = subst (λ (first : List TableInfo). WasOpened m first q.1) (sym kept.2) h.opened;
        } in
        let same : x.0 ≡ (get_or k.readers.items at d).0 = kept.0 ∙ ap (λ (o : ℕ × PartitionReader). o.0) (sym here) in
        let held : held_by x.1.reader ≡ held_by (get_or k.readers.items at d).1.reader = kept.3 ∙ ap (λ (o : ℕ × PartitionReader). held_by o.1.reader) (sym here) in
        let served = set-kept lines s.cached.below m k.unstored.chains id at d x k.readers.items m.readers (λ q h. now q (subst (λ (o : ℕ × PartitionReader). IsServed lines s.cached.below m k.unstored.chains o q) here h)) p s.served in
        let pairs = same-two id at d x k.readers.items p same held s.two in
        let new = reading-for lines stays files k.folder k.unstored k.cache.entries k.readers.items (set k.readers.items at x) k.segments 0 m m.readers s (many-same at d x k.readers.items (in-range id k.readers.items at p) held) served pairs
        (of-set k.cache.entries k.readers.items at x (of-same k.cache.entries x d snap kept.1 (of-at k.cache.entries k.readers.items at d (in-range id k.readers.items at p) here s.apart)) s.apart) in
        moved files k k' k.unstored (set k.readers.items at x) m b.folder b.unstored (ap (λ c. c.entries) b.cache) b.segments b.readers new

    -- ---- a write

    pub takes-put : (files : Option Files) (k k' : Shard) (w : Write) → CommandFits k.folder.schema (Put w) → IsMutation w.change → k'.folder ≡ k.folder → k'.cache.entries ≡ k.cache.entries → k'.segments ≡ k.segments → k'.readers.items ≡ k.readers.items → TakesWrite k.folder.schema w k.unstored k'.unstored → Takes (Stands lines) files k (Put w) replies.Fine files k'
    takes-put files k k' w fits is folder cache segs items put = λ m s. (
      record m { log = m.log ++ w ∷ [] },
      inl (refl, refl),
      moved files k k' k'.unstored k.readers.items (record m { log = m.log ++ w ∷ [] }) folder refl cache segs items (written-for lines stays files k.folder k.unstored k'.unstored k.cache.entries k.readers.items k.segments 0 m w fits is put s),
    )

    pub takes-full : (files : Option Files) (k k' : Shard) (w : Write) → k'.folder ≡ k.folder → k'.cache.entries ≡ k.cache.entries → k'.segments ≡ k.segments → k'.readers.items ≡ k.readers.items → KeepsUnstored k.folder.schema k.unstored k'.unstored →
        IsFull k'.unstored.chains → Takes (Stands lines) files k (Put w) (replies.Refused Full) files k'
    takes-full files k k' w folder cache segs items kept full = λ m s.
        let new = kept-for lines stays files k.folder k.unstored k'.unstored k.cache.entries k.readers.items k.segments 0 m kept s in
        let live = full.live new.cached.one new.cached.used in
        let taken : cache_snapshots k'.unstored.chains ≤ length m.readers = (let a = new.taken in let b = count-open files k m s in let c = few-cached k.readers.items in omega (arith, a, b, c)) in
        (m, inr (may-be-full k'.unstored.chains m new.sound taken live full.crowded, (refl, refl)), moved files k k' k'.unstored k.readers.items m folder refl cache segs items new)

    -- what was written stays, and so does what snapshots see
    pub keeps-kept : (k k' : Shard) → k'.folder ≡ k.folder → k'.cache.entries ≡ k.cache.entries → k'.segments ≡ k.segments → k'.readers.items ≡ k.readers.items → ((schema : SchemaValue) → schema ≡ k.folder.schema → KeepsUnstored schema k.unstored k'.unstored) → StandsForTheSame (Stands lines) k k'
    keeps-kept k k' folder cache segs items kept = λ files m s.
        moved files k k' k'.unstored k.readers.items m folder refl cache segs items (kept-for lines stays files k.folder k.unstored k'.unstored k.cache.entries k.readers.items k.segments 0 m (kept k.folder.schema refl) s)
