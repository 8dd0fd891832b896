-- A reader that goes on past the row cache.
use Rattle.std.proofs.Common.{◌≡◌, ◌==◌, ◌++◌, [], ℕ, List, All, Option, Some, None, IfSome, get_or, set, inl, refl, sym, ap, subst, ◌∙◌, arith}
use Rattle.std.specs.Prelude.{⊤}
use Rattle.std.specs.Map.{set_value}
use Rattle.rc_outside.specs.Files.{Files}
use Rattle.rc_schema.specs.SchemaValue.{SchemaValue}
use Rattle.rc_writes.specs.Allowed.{ChangeFits}
use Rattle.rc_mutation.specs.declared.mutations.Mutation.{Mutation}
use Rattle.rc_mutation.specs.Source.{IsJoinOf, IsMutation}
use Rattle.rc_mutation.specs.laws.Sources.{IsJoinOf-one}
use Rattle.rc_query.specs.declared.lines.OutLine.{OutLine}
use Rattle.rc_memory.specs.Memory.{Memory}
use Rattle.rc_chain.specs.declared.chains.Snap.{Snap}
use Rattle.rc_snapshots.specs.declared.snaps.Snaps.{Snaps}
use Rattle.rc_snapshots.specs.Seeing.{AreThere, HasSnap, StillSeeBoth, StillSees}
use Rattle.rc_snapshots.specs.laws.Seeing.{both-same, there-then}
use Rattle.rc_tfile.specs.declared.info.TableInfo.{TableInfo}
use Rattle.rc_lookup.specs.Memtables.{in_chains}
use Rattle.rc_opened.specs.Opened.{AreChangesOf}
use Rattle.rc_opened.specs.declared.behind.OpenedBehind.{OpenedBehind}
use Rattle.rc_paging.specs.declared.forms.PartReader.{PartReader}
use Rattle.rc_paging.specs.declared.forms.PartReader.TheVariants.{Cached, Past}
use Rattle.rc_paging.specs.declared.layers.HeldSnaps.{HeldSnaps}
use Rattle.rc_paging.specs.declared.pages.OpenReader.{OpenReader}
use Rattle.rc_paging.specs.Forms.{ByForm, held_by, lines_gone_past}
use Rattle.rc_paging.specs.Pages.{StandFor}
use Rattle.rc_folder.specs.Tabled.{IsSaidByFirst}
use Rattle.rc_folder.specs.laws.Over.{over_reading}
use Rattle.rc_machine.specs.State.{Reader, State, rest_of}
use Rattle.rc_machine.specs.Steps.{IsResaid}
use Rattle.rc_shard.specs.declared.readers.PartitionReader.{PartitionReader}
use Rattle.rc_shard.specs.declared.shard.Shard.{Shard}
use Rattle.rc_shard.specs.Cached.{HaveCached}
use Rattle.rc_shard.specs.Readers.{AreHeldThere, IsReadOver, IsServed, WasOpened, cached_of, number_of_snaps, lies_below, written_snaps_of}
use Rattle.rc_shard.specs.Releasing.{IsSnapGivenBack}
use Rattle.rc_shard.specs.Stands.{AreFor, Stands}
use Rattle.rc_shard.specs.calls.Reading.{IsGoneOn}
use Rattle.rc_shard.specs.calls.Resaying.{IsJoinBelow, IsReadAnew, IsToldAnew}
use Rattle.rc_shard.specs.calls.Staying.{Staying}
use Rattle.rc_shard.proofs.Closing.{past-rest, writes-past}
use Rattle.rc_shard.proofs.Looking.{Beside}
use Rattle.rc_shard.proofs.OfItsKey.{of-none, of-set}
use Rattle.rc_shard.proofs.Places.{IsPlace, in-range}
use Rattle.rc_shard.proofs.Served.{cached-set, gone-served, gone-two}
use Rattle.rc_shard.proofs.Standing.{opened-reading, sound-less, stands-cached}
use Rattle.rc_shard.proofs.Taking.{found-at, moved}

seen-one : (m n : Memory) (o : Option Snap) → ((t : Snap) → HasSnap m t → StillSees t m n) → IfSome o (HasSnap m) → IfSome o (λ s. StillSees s m n)
seen-one m n None sees h = tt
seen-one m n (Some s) sees h = sees s h

-- snapshots of what is written see what they saw
pub seen-if : (m n : Memory) (snaps : Snaps) → ((t : Snap) → HasSnap m t → StillSees t m n) → AreThere m snaps → StillSeeBoth snaps m n
seen-if m n snaps sees there = record { sealed = seen-one m n snaps.sealed sees there.sealed; active = seen-one m n snaps.active sees there.active }

-- past the row cache nothing of what lies below matters
pub past-any : (lines : PartReader → Memory → List Mutation → List OutLine → Type 0) → Staying lines → (m : Memory) → ((o : OpenedBehind) (below other : List Mutation) (left : List OutLine) → lines (Past o) m below left → lines (Past o) m other left) → (left : List OutLine) (x : PartReader) (below other : List Mutation) → ByForm (λ _. ⊥) (λ _. ⊤) x → lines x m below left → lines x m other left
past-any lines stays m same left (Cached o) below other past h = absurd past
past-any lines stays m same left (Past o) below other past h = same o below other left h

module _ (lines : PartReader → Memory → List Mutation → List OutLine → Type 0) where
  -- what the law says of a reader over the row cache
  abbrev pub Anew : Type 0
  Anew = (m : State) (first : List TableInfo) (memory : Memory) (o : OpenReader) (below : List Mutation) (r : Reader) (read : Mutation) (over : IsReadOver m.schema below memory o r) → lines (Cached o) memory below (rest_of r) → WasOpened m first r → IsJoinBelow m.schema below r.said → IsReadAnew m.schema m first r.key read →
      IsToldAnew m first r (lines_gone_past below read (over.sealed ++ over.active) (Cached o) (rest_of r))

  -- what its going past leaves to it
  abbrev pub GoesPast : Memory → Mutation → PartReader → PartReader → Type 0
  GoesPast m read p x = (schema : SchemaValue) (below writes later : List Mutation) (left : List OutLine) → AreChangesOf schema writes → AreChangesOf schema later → ByForm (λ o. StandFor 131072 m o.held below writes later) (λ _. ⊤) p → lines p m below left → lines x m below (lines_gone_past below read (writes ++ later) p left)

  -- a reader that is told anew
  record IsTold (m : State) (memory : Memory) (first : List TableInfo) (r : Reader) (x : PartReader) : Type 0 where
    said : List Mutation
    resaid : IsResaid m r said
    opened : WasOpened m first (record r { said = said })
    left : lines x memory [] (rest_of (record r { said = said }))

  join-below : (schema : SchemaValue) (below : List Mutation) (m : Memory) (o : OpenReader) (r : Reader) → IsReadOver schema below m o r → IsJoinBelow schema below r.said
  join-below schema below m o r h = record {
    join = h.join;
    mutation = h.mutation;
    fits = subst (λ (b : List Mutation). All (ChangeFits schema) b) h.is h.of_tables.fit 0 h.join (omega arith);
    below_cache = subst (IsJoinOf h.join) (sym h.is) (IsJoinOf-one h.join h.mutation);
    of_tables = h.joined;
  }

  -- past it nothing lies below
  past-left : (x : PartReader) (m : Memory) (below : List Mutation) (left : List OutLine) → ((x : PartReader) (below other : List Mutation) → ByForm (λ _. ⊥) (λ _. ⊤) x → lines x m below left → lines x m other left) → ByForm (λ _. ⊥) (λ _. ⊤) x → lines x m below left → lines x m [] left
  past-left x m below left same past h = same x below [] past h

  told-of : Anew → (m : State) (memory : Memory) (first : List TableInfo) (r : Reader) (below : ℕ → List Mutation) (p x : PartReader) (read : Mutation) (said : List Mutation) → ((left : List OutLine) (x : PartReader) (below other : List Mutation) → ByForm (λ _. ⊥) (λ _. ⊤) x → lines x memory below left → lines x memory other left) →
      GoesPast memory read p x → ByForm (λ _. ⊥) (λ _. ⊤) x → lines p memory (lies_below below (held_by p).cached) (rest_of r) → ByForm (λ c. IsReadOver m.schema (lies_below below c.held.cached) memory c r) (λ _. ⊤) p → WasOpened m first r → IsSaidByFirst m first r.key said → IsJoinOf read said → IsMutation read → ChangeFits m.schema read →
      IsTold m memory first r x
  told-of anew m memory first r below (Past o) x read said same goes past left over opened by join is fits = record {
    said = r.said;
    resaid = inl refl;
    opened = opened;
    left = past-left x memory [] (rest_of r) (same (rest_of r)) past (goes m.schema [] [] [] (rest_of r) (record { mutations = λ i d l. absurd (omega (arith, l)); fit = λ i d l. absurd (omega (arith, l)) }) (record { mutations = λ i d l. absurd (omega (arith, l)); fit = λ i d l. absurd (omega (arith, l)) }) tt left);
  }
  told-of anew m memory first r below (Cached o) x read said same goes past left over opened by join is fits =
      let t = anew m first memory o (lies_below below o.held.cached) r read over left opened (join-below m.schema (lies_below below o.held.cached) memory o r over) (record { told = said; by_first = by; joined = join; mutation = is; fits = fits }) in
      let gone = goes m.schema (lies_below below o.held.cached) over.sealed over.active (rest_of r) over.of_sealed over.of_active over.stand left in
      record {
        said = t.said;
        resaid = t.resaid;
        opened = record { later = opened.later; are = opened.are; listed = opened.listed; said = t.by_first };
        left = past-left x memory (lies_below below o.held.cached) (rest_of (record r { said = t.said })) (same (rest_of (record r { said = t.said }))) past (subst (lines x memory (lies_below below o.held.cached)) t.are gone);
      }

  module _ (stays : Staying lines) (beside : Beside) where
    past-over : (below : ℕ → List Mutation) (schema : SchemaValue) (m : Memory) (x : PartReader) (r : Reader) → ByForm (λ _. ⊥) (λ _. ⊤) x → ByForm (λ c. IsReadOver schema (lies_below below c.held.cached) m c r) (λ _. ⊤) x
    past-over below schema m (Cached o) r past = absurd past
    past-over below schema m (Past o) r past = tt

    past-stays : (x : PartReader) (m n : Memory) (left : List OutLine) → ByForm (λ _. ⊥) (λ _. ⊤) x → StillSeeBoth (held_by x).written m n → lines x m [] left → lines x n [] left
    past-stays (Cached o) m n left past sees h = absurd past
    past-stays (Past o) m n left past sees h = stays.left (Past o) m n [] left tt (both-same m n (held_by (Past o)).written sees) h

    pub gone-at : (files : Option Files) (k k' : Shard) (id at : ℕ) (d x : ℕ × PartitionReader) (read : Mutation) (said : List Mutation) (m : State) → Anew → ((left : List OutLine) (x : PartReader) (below other : List Mutation) → ByForm (λ _. ⊥) (λ _. ⊤) x → lines x k.unstored.chains below left → lines x k.unstored.chains other left) →
        IsPlace id k.readers.items at → get_or k.readers.items at d ≡ d → GoesPast k.unstored.chains read d.1.reader x.1.reader → ByForm (λ _. ⊥) (λ _. ⊤) x.1.reader → held_by x.1.reader ≡ record { cached = None; written = written_snaps_of d.1 } → x.0 ≡ d.0 → x.1.key ≡ d.1.key → x.1.tables ≡ d.1.tables →
        IsSnapGivenBack (cached_of d.1) k.unstored.chains k'.unstored.chains → k'.unstored ≡ in_chains k'.unstored.chains k.unstored → k'.folder ≡ k.folder → k'.cache.entries ≡ k.cache.entries → k'.segments ≡ k.segments → k'.readers.items ≡ set k.readers.items at x →
        IsSaidByFirst m d.1.tables d.1.key said → IsJoinOf read said → IsMutation read → ChangeFits k.folder.schema read → Stands lines files k m → IsGoneOn (Stands lines) files id m k'
    gone-at files k k' id at d x read said m anew same p here goes past held own key tables back unst folder cache segs items by join is fits s =
        let n = k'.unstored.chains in
        let f = found-at lines files k m id at d s p here in
        let r : Reader = f.reader in
        let h = f.served in
        let rest = past-rest (cached_of d.1) k.unstored.chains n back in
        let fits-now : ChangeFits m.schema read = subst (λ (t : SchemaValue). ChangeFits t read) (sym s.over.schema) fits in
        let by-now : IsSaidByFirst m d.1.tables r.key said = subst (λ (q : List ℕ). IsSaidByFirst m d.1.tables q said) h.key by in
        let t = told-of anew m k.unstored.chains d.1.tables r s.cached.below d.1.reader x.1.reader read said same goes past h.left h.over h.opened by-now join is fits-now in
        let now : Reader = record r { said = t.said } in
        let given = set_value (λ q. q == id) m.readers now in
        let new : State = record m { readers = given } in
        let cached : HaveCached k.folder.schema k.cache.entries n new = record {
          limits = s.cached.limits;
          small = s.cached.small;
          below = s.cached.below;
          fit = s.cached.fit;
          says = rest.says k.folder.schema (λ id phase. s.cached.below id) s.cached.says;
          of_tables = λ key id found. (let j = s.cached.of_tables key id found in record { join = j.join; said = j.said; is = j.is; mutation = j.mutation; of_tables = j.of_tables; joined = j.joined });
          are = rest.entries k.cache.entries s.cached.are;
          one = rest.one s.cached.one;
          used = rest.used s.cached.used;
        } in
        let snaps : written_snaps_of x.1 ≡ written_snaps_of d.1 = ap (λ (g : HeldSnaps). g.written) held in
        let none : cached_of x.1 ≡ None = ap (λ (g : HeldSnaps). g.cached) held in
        let seen : StillSeeBoth (written_snaps_of d.1) k.unstored.chains n = seen-if k.unstored.chains n (written_snaps_of d.1) rest.seen h.held.written in
        let sees : StillSeeBoth (written_snaps_of x.1) k.unstored.chains n = subst (λ g. StillSeeBoth g k.unstored.chains n) (sym snaps) seen in
        let opened : WasOpened new x.1.tables now = (opened-reading m given).opened x.1.tables now (subst (λ (first : List TableInfo). WasOpened m first now) (sym tables) t.opened) in
        let one : (q : ℕ × Reader) → q.0 ≡ x.0 → IsServed lines s.cached.below new n x (q.0, now) = λ q e. record {
          id = sym e;
          key = key ∙ h.key;
          left = subst (λ (o : Option Snap). lines x.1.reader n (lies_below s.cached.below o) (rest_of now)) (sym none) (past-stays x.1.reader k.unstored.chains n (rest_of now) past sees t.left);
          over = past-over s.cached.below new.schema n x.1.reader now past;
          held = subst (AreHeldThere n) (sym held) (record { written = there-then k.unstored.chains n (written_snaps_of d.1) h.held.written seen; two = h.held.two; cached = tt });
          opened = opened;
        } in
        let same-id : x.0 ≡ (get_or k.readers.items at d).0 = own ∙ ap (λ (o : ℕ × PartitionReader). o.0) (sym here) in
        let was : held_by (get_or k.readers.items at d).1.reader ≡ held_by d.1.reader = ap (λ (o : ℕ × PartitionReader). held_by o.1.reader) here in
        let served = gone-served lines stays m new (opened-reading m given) k.unstored.chains n s.cached.below (stands-cached lines stays k.folder.schema k.cache.entries n new cached) (held_by d.1.reader)
        (λ t on none. rest.seen t on) rest.pins id at d x now k.readers.items m.readers was one same-id p s.two s.served in
        let pairs = gone-two id at d x k.readers.items p same-id (held ∙ ap (λ (w : _). record { cached = None; written = w }) (ap (λ (g : HeldSnaps). g.written) (sym was))) s.two in
        let sound = sound-less k.unstored.chains n m rest.segments rest.bytes s.sound in
        let made : AreFor lines files k.folder (in_chains n k.unstored) k.cache.entries (set k.readers.items at x) k.segments 0 new = record {
          over = over_reading files k.folder.schema k.folder.infos m given s.over;
          have = record { sealed = s.have.sealed; later = s.have.later; have = writes-past beside (cached_of d.1) k.unstored n rest k.folder.schema s.have.sealed s.have.later s.have.have; are = s.have.are; count = s.have.count };
          whole = s.whole;
          left = s.left;
          budget = s.budget;
          sound = record { mutations = sound.mutations; budget = sound.budget; weigh = sound.weigh };
          cached = cached;
          taken = (
              let a = s.taken in
              let b = rest.snapshots in
              let sum = cached-set at d x k.readers.items (in-range id k.readers.items at p) in
              let e = ap (λ (g : HeldSnaps). number_of_snaps g.cached) was in
              let z = ap number_of_snaps none in
              omega (arith, a, b, sum, e, z));
          served = served;
          two = pairs;
          apart = of-set k.cache.entries k.readers.items at x (of-none k.cache.entries x none) s.apart;
        } in
        record { reader = r; found = f.found; said = t.said; resaid = t.resaid; stands = moved lines files k k' (in_chains n k.unstored) (set k.readers.items at x) new folder unst cache segs items made }
