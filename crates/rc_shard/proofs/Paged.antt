-- A page of a reader at its place.
use Rattle.std.proofs.Common.{◌≡◌, ◌≤◌, ◌+◌, ◌-◌, ℕ, Bool, List, Option, Some, None, IsSome, Result, Ok, Err, IfOk, length, take, get_or, set, nat_lt, sym, subst, arith}
use Rattle.std.specs.Prelude.{⊤, MatchOption, OnErr}
use Rattle.rc_outside.specs.Files.{Files}
use Rattle.rc_position.specs.declared.slices.Slice.{Slice}
use Rattle.rc_schema.specs.SchemaValue.{SchemaValue}
use Rattle.rc_mutation.specs.declared.mutations.Mutation.{Mutation}
use Rattle.rc_query.specs.declared.lines.OutLine.{OutLine}
use Rattle.rc_memory.specs.Memory.{Memory}
use Rattle.rc_paging.specs.declared.forms.PartReader.{PartReader}
use Rattle.rc_paging.specs.declared.forms.PartReader.TheVariants.{Cached, Past}
use Rattle.rc_paging.specs.declared.layers.HeldSnaps.{HeldSnaps}
use Rattle.rc_paging.specs.declared.pages.PageErr.{PageErr}
use Rattle.rc_paging.specs.Forms.{ByForm, IsFormKept, held_by}
use Rattle.rc_paging.specs.Pages.{StandFor, left_on}
use Rattle.rc_paging.specs.Remainders.{IsRemainderOf}
use Rattle.rc_machine.specs.State.{Reader, State, rest_of}
use Rattle.rc_machine.specs.Steps.{reader_past}
use Rattle.rc_shard.specs.declared.readers.PartitionReader.{PartitionReader}
use Rattle.rc_shard.specs.declared.shard.Shard.{Shard}
use Rattle.rc_shard.specs.Readers.{IsReadOver}
use Rattle.rc_shard.specs.Stands.{Stands}
use Rattle.rc_shard.specs.calls.Keeping.{StandsForTheSame}
use Rattle.rc_shard.specs.calls.Reading.{IsPaged, IsPagedBeside, IsPastReader}
use Rattle.rc_shard.specs.calls.Staying.{Staying}
use Rattle.rc_shard.proofs.Places.{IsPlace, same-there}
use Rattle.rc_shard.proofs.Taking.{paged-at, unpaged-at}

some-settled : (o : Option (List OutLine)) (n : ℕ) → IsSome o → 1 ≤ n → MatchOption o (n ≡ 0) (λ kept. 1 ≤ n)
some-settled None n on h = absurd (cc)
some-settled (Some ls) n on h = h

-- over the row cache it holds the same, and was told of a line, or that there is none
over-paged : (schema : SchemaValue) (below : List Mutation) (m : Memory) (count : ℕ) (p q : PartReader) (gave : List OutLine × Bool) (r : Reader) → IsFormKept {T = List OutLine × Bool} (Ok gave) p q → ((slice : Slice) → ByForm (λ o. IsRemainderOf slice o.remainder) (λ _. ⊤) p → ByForm (λ o. IsRemainderOf slice o.remainder) (λ _. ⊤) q) →
    ByForm (λ c. IsReadOver schema below m c r) (λ _. ⊤) p → ByForm (λ c. IsReadOver schema below m c (reader_past count r)) (λ _. ⊤) q
over-paged schema below m count (Past a) (Past b) gave r goes of h = tt
over-paged schema below m count (Past a) (Cached b) gave r goes of h = absurd goes
over-paged schema below m count (Cached a) (Past b) gave r goes of h = tt
over-paged schema below m count (Cached a) (Cached b) gave r goes of h = record {
  join = h.join;
  sealed = h.sealed;
  active = h.active;
  is = h.is;
  mutation = h.mutation;
  joined = h.joined;
  written = h.written;
  of_tables = h.of_tables;
  of_sealed = h.of_sealed;
  of_active = h.of_active;
  stand = subst (λ (held : HeldSnaps). StandFor 131072 m held below h.sealed h.active) (sym goes.0) h.stand;
  slice = of r.slice h.slice;
  settled = some-settled b.behind (r.settled - 1 + count + 1) goes.1 (omega arith);
}

-- it is as it was, where it gave none
over-unpaged : (schema : SchemaValue) (below : List Mutation) (m : Memory) (p q : PartReader) (e : PageErr) (r : Reader) → IsFormKept {T = List OutLine × Bool} (Err e) p q → ((slice : Slice) → ByForm (λ o. IsRemainderOf slice o.remainder) (λ _. ⊤) p → ByForm (λ o. IsRemainderOf slice o.remainder) (λ _. ⊤) q) →
    ByForm (λ c. IsReadOver schema below m c r) (λ _. ⊤) p → ByForm (λ c. IsReadOver schema below m c r) (λ _. ⊤) q
over-unpaged schema below m (Past a) (Past b) e r goes of h = tt
over-unpaged schema below m (Past a) (Cached b) e r goes of h = absurd goes
over-unpaged schema below m (Cached a) (Past b) e r goes of h = tt
over-unpaged schema below m (Cached a) (Cached b) e r goes of h = record {
  join = h.join;
  sealed = h.sealed;
  active = h.active;
  is = h.is;
  mutation = h.mutation;
  joined = h.joined;
  written = h.written;
  of_tables = h.of_tables;
  of_sealed = h.of_sealed;
  of_active = h.of_active;
  stand = subst (λ (held : HeldSnaps). StandFor 131072 m held below h.sealed h.active) (sym goes.0) h.stand;
  slice = of r.slice h.slice;
  settled = subst (λ (o : Option (List OutLine)). MatchOption o (r.settled ≡ 0) (λ kept. 1 ≤ r.settled)) (sym goes.1) h.settled;
}

-- it is past the row cache where it was
pub form-kept : {T : Type 0} (r : Result T PageErr) (p q : PartReader) → IsFormKept r p q → IsPastReader p → IsPastReader q
form-kept (Ok x) (Past a) (Past b) goes past = tt
form-kept (Ok x) (Past a) (Cached b) goes past = absurd goes
form-kept (Ok x) (Cached a) q goes past = absurd past
form-kept (Err e) (Past a) (Past b) goes past = tt
form-kept (Err e) (Past a) (Cached b) goes past = absurd goes
form-kept (Err e) (Cached a) q goes past = absurd past

pub form-back : {T : Type 0} (r : Result T PageErr) (p q : PartReader) → IsFormKept r p q → IsPastReader q → IsPastReader p
form-back (Ok x) (Past a) q goes past = tt
form-back (Ok x) (Cached a) (Past b) goes past = absurd goes
form-back (Ok x) (Cached a) (Cached b) goes past = absurd past
form-back (Err e) (Past a) q goes past = tt
form-back (Err e) (Cached a) (Past b) goes past = absurd goes
form-back (Err e) (Cached a) (Cached b) goes past = absurd past

-- the reader at a place holds what it held, and all else is as it was
abbrev pub paged-beside : (k k' : Shard) (id at : ℕ) (d x : ℕ × PartitionReader) → IsPlace id k.readers.items at → get_or k.readers.items at d ≡ d → k'.readers.items ≡ set k.readers.items at x → x.0 ≡ d.0 → x.1.key ≡ d.1.key → x.1.tables ≡ d.1.tables → held_by x.1.reader ≡ held_by d.1.reader →
    (IsPastReader d.1.reader → IsPastReader x.1.reader) → (IsPastReader x.1.reader → IsPastReader d.1.reader) → k'.unstored ≡ k.unstored → k'.folder ≡ k.folder → k'.cache ≡ k.cache → k'.answered ≡ k.answered → k'.segments ≡ k.segments → k'.asked ≡ k.asked → IsPagedBeside at k k'
paged-beside k k' id at d x p here items ids keys tables held past over unst folder cache answered segs asked = record {
  reader = x;
  readers = items;
  kept = λ o there. subst (λ (q : ℕ × PartitionReader). (x.0 ≡ q.0) × (x.1.key ≡ q.1.key) × (x.1.tables ≡ q.1.tables) × (held_by x.1.reader ≡ held_by q.1.reader)) (same-there id k.readers.items at d o p here there) (ids, keys, tables, held);
  past = λ o there was. past (subst (λ (q : ℕ × PartitionReader). IsPastReader q.1.reader) (sym (same-there id k.readers.items at d o p here there)) was);
  over = λ o there now. subst (λ (q : ℕ × PartitionReader). IsPastReader q.1.reader) (same-there id k.readers.items at d o p here there) (over now);
  unstored = unst;
  folder = folder;
  cache = cache;
  answered = answered;
  segments = segs;
  asked = asked;
}

module _ (lines : PartReader → Memory → List Mutation → List OutLine → Type 0) (stays : Staying lines) (k k' : Shard) (id at count : ℕ) (d : ℕ × PartitionReader) (p : IsPlace id k.readers.items at) (here : get_or k.readers.items at d ≡ d) (b : IsPagedBeside at k k')
    (of : (slice : Slice) → ByForm (λ o. IsRemainderOf slice o.remainder) (λ _. ⊤) d.1.reader → ByForm (λ o. IsRemainderOf slice o.remainder) (λ _. ⊤) b.reader.1.reader) where
  pub if-paged : (r : Result (List OutLine × Bool) PageErr) (files : Option Files) (m : State) → IsFormKept r d.1.reader b.reader.1.reader →
      ((below : List Mutation) (ls : List OutLine) → lines d.1.reader k.unstored.chains below ls → IfOk r (λ gave. gave.0 ≡ take count ls)) → ((below : List Mutation) (ls : List OutLine) → lines d.1.reader k.unstored.chains below ls → IfOk r (λ gave. gave.1 ≡ nat_lt count (length ls))) →
      ((below : List Mutation) (ls : List OutLine) → lines d.1.reader k.unstored.chains below ls → lines b.reader.1.reader k.unstored.chains below (left_on r count ls)) → Stands lines files k m → IfOk r (λ gave. IsPaged (Stands lines) files id count m gave k')
  if-paged (Ok gave) files m goes gives more left s =
      paged-at lines stays files k k' id count at d gave m p here b (λ r below h. (gives below (rest_of r) h, more below (rest_of r) h, left below (rest_of r) h)) (λ below r h. over-paged m.schema below k.unstored.chains count d.1.reader b.reader.1.reader gave r goes of h) s
  if-paged (Err e) files m goes gives more left s = tt

  pub on-unpaged : (r : Result (List OutLine × Bool) PageErr) → IsFormKept r d.1.reader b.reader.1.reader → ((below : List Mutation) (ls : List OutLine) → lines d.1.reader k.unstored.chains below ls → lines b.reader.1.reader k.unstored.chains below (left_on r count ls)) → OnErr r (StandsForTheSame (Stands lines) k k')
  on-unpaged (Ok gave) goes left = tt
  on-unpaged (Err e) goes left = unpaged-at lines stays k k' id at d p here b (λ ls below h. left below ls h) (λ schema below r h. over-unpaged schema below k.unstored.chains d.1.reader b.reader.1.reader e r goes of h)

-- a reader that is as it was stands for the same
pub left-unpaged : (lines : PartReader → Memory → List Mutation → List OutLine → Type 0) → Staying lines → (k k' : Shard) (id at : ℕ) (d : ℕ × PartitionReader) → IsPlace id k.readers.items at → get_or k.readers.items at d ≡ d → (b : IsPagedBeside at k k') → b.reader.1.reader ≡ d.1.reader → StandsForTheSame (Stands lines) k k'
left-unpaged lines stays k k' id at d p here b same = unpaged-at lines stays k k' id at d p here b (λ ls below h. subst (λ (r : PartReader). lines r k.unstored.chains below ls) (sym same) h)
    (λ schema below r h. subst (λ (q : PartReader). ByForm (λ c. IsReadOver schema below k.unstored.chains c r) (λ _. ⊤) q) (sym same) h)
