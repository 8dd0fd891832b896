-- What a reader that is opened is left.
use Rattle.std.proofs.Common.{◌≡◌, ◌==◌, ℕ, zero, suc, List, [], ◌∷◌, ◌++◌, drop, map, filter, Option, Some, None, All, refl, sym, ap, subst, ◌∙◌, arith, append-nil}
use Rattle.std.specs.List.{AllByRecursion, AllZip, position}
use Rattle.std.specs.Ordering.{eq_by_cmp}
use Rattle.std.specs.Prelude.{IfOk, IfSome, Result, cond, true, false, ⊤}
use Rattle.std.specs.declared.alloc.AllocError.{AllocError}
use Rattle.std.proofs.lemmas.List.Elements.{All-cons}
use Rattle.rc_outside.specs.Files.{Files}
use Rattle.rc_position.specs.Position.{bytes_cmp}
use Rattle.rc_position.specs.declared.slices.Slice.{Slice}
use Rattle.rc_schema.specs.SchemaValue.{SchemaValue}
use Rattle.rc_writes.specs.Allowed.{ChangeFits}
use Rattle.rc_mutation.specs.declared.mutations.Mutation.{Mutation}
use Rattle.rc_mutation.specs.declared.mutations.Write.{Write}
use Rattle.rc_mutation.specs.Source.{IsMutation, changes_to}
use Rattle.rc_query.specs.declared.lines.OutLine.{OutLine}
use Rattle.rc_query.specs.Answer.{answer}
use Rattle.rc_lines.specs.Fits.{CommandFits}
use Rattle.rc_lines.specs.declared.commands.Command.TheVariants.{Put}
use Rattle.rc_lines.specs.declared.commands.Reply.{Reply}
use Rattle.rc_memory.specs.Memory.{HasPin, Memory}
use Rattle.rc_chain.specs.declared.chains.Snap.{Snap}
use Rattle.rc_snapshots.specs.Seeing.{AreThere}
use Rattle.rc_tfile.specs.declared.info.TableInfo.{TableInfo}
use Rattle.rc_tables.specs.Tables.{listing}
use Rattle.rc_cached.specs.Stands.{HasCacheSnapshot}
use Rattle.rc_lookup.specs.Unstored.{Unstored}
use Rattle.rc_lookup.specs.Memtables.{HaveWrites, in_chains}
use Rattle.rc_lookup.specs.Entries.{AreEntries}
use Rattle.rc_lookup.specs.Found.{entry_number}
use Rattle.rc_lookup.specs.Readers.{IsNoneOf}
use Rattle.rc_opened.specs.Opened.{AreChangesOf}
use Rattle.rc_paging.specs.declared.forms.PartReader.{PartReader}
use Rattle.rc_paging.specs.declared.forms.PartReader.TheVariants.{Cached, Past}
use Rattle.rc_paging.specs.Forms.{ByForm, held_by}
use Rattle.rc_paging.specs.Pages.{StandsCached}
use Rattle.rc_folder.specs.Tabled.{IsSaidByFirst, Tabled}
use Rattle.rc_machine.specs.State.{Reader, State, rest_of, unstored_writes}
use Rattle.rc_machine.specs.Steps.{IsSaid, reader_with}
use Rattle.rc_shard.specs.declared.readers.Opening.{Opening}
use Rattle.rc_shard.specs.declared.readers.PartitionReader.{PartitionReader}
use Rattle.rc_shard.specs.declared.readers.Source.{Source}
use Rattle.rc_shard.specs.declared.readers.Source.TheVariants as source
use Rattle.rc_shard.specs.declared.shard.Shard.{Shard}
use Rattle.rc_shard.specs.Cached.{HaveCached}
use Rattle.rc_shard.specs.Releasing.{IsSnapGivenBack}
use Rattle.rc_shard.specs.Readers.{AreHeldThere, IsCachedThere, IsOtherSnap, IsReadOver, IsServed, cached_of, number_of_snaps, lies_below, written_snaps_of}
use Rattle.rc_shard.specs.Stands.{AreFor, Stands, StandsBeside}
use Rattle.rc_shard.specs.calls.Looking.{IsSourceIn, source_snap}
use Rattle.rc_shard.specs.calls.Opened.{IsOpenedOver, IsReadWhole, IsSourceLetGo, TellsBelow, below_if}
use Rattle.rc_shard.specs.calls.Staying.{Staying}
use Rattle.rc_shard.specs.calls.Storing.{KeepsUnstored}
use Rattle.rc_shard.proofs.OfItsKey.{of-more}
use Rattle.rc_shard.proofs.Places.{nowhere-of}
use Rattle.rc_shard.proofs.Closing.{IsPastRest, past-rest, writes-past}
use Rattle.rc_shard.proofs.GoneOn.{seen-if}
use Rattle.rc_shard.proofs.Looking.{Beside}
use Rattle.rc_shard.proofs.Served.{cached-beside, cached-more, each-back, first-of, more-served, more-two, same-opened, second-of, still-served}
use Rattle.rc_shard.proofs.Standing.{cached-still, kept-for, reading-more, sound-less, stands-cached}
use Rattle.rc_shard.proofs.Tabled.{said-first}
use Rattle.rc_shard.proofs.Taking.{moved}

-- ---- the writes of a partition are such as a reader needs

abbrev Good : SchemaValue → Write → Type 0
Good schema w = IsMutation w.change × ChangeFits schema w.change

-- of each write of a list
abbrev Goods : SchemaValue → List Write → Type 0
Goods schema [] = Unit {0}
Goods schema (w ∷ ws) = Good schema w × Goods schema ws

goods-of : (schema : SchemaValue) (ws : List Write) → All (λ w. IsMutation w.change) ws → All (λ w. CommandFits schema (Put w)) ws → Goods schema ws
goods-of schema [] is fit = tt
goods-of schema (w ∷ ws) is fit = ((is 0 w (omega arith), (fit 0 w (omega arith)).1), goods-of schema ws (λ k d l. is (suc k) d (omega (arith, l))) (λ k d l. fit (suc k) d (omega (arith, l))))

goods-behind : (schema : SchemaValue) (n : ℕ) (ws : List Write) → Goods schema ws → Goods schema (drop n ws)
goods-behind schema zero ws h = h
goods-behind schema (suc n) [] h = h
goods-behind schema (suc n) (w ∷ ws) h = goods-behind schema n ws h.1

goods-split : (schema : SchemaValue) (xs ys : List Write) → Goods schema (xs ++ ys) → Goods schema xs × Goods schema ys
goods-split schema [] ys h = (tt, h)
goods-split schema (x ∷ xs) ys h = let r = goods-split schema xs ys h.1 in ((h.0, r.0), r.1)

changes-good : (schema : SchemaValue) (key : List ℕ) (ws : List Write) → Goods schema ws → AreChangesOf schema (changes_to key ws)
changes-good schema key [] h = record { mutations = λ i d l. absurd (omega (arith, l)); fit = λ i d l. absurd (omega (arith, l)) }
changes-good schema key (w ∷ ws) h =
    let r = changes-good schema key ws h.1 in
    elim (eq_by_cmp bytes_cmp w.key key) as (λ b. AreChangesOf schema (map (λ (v : Write). v.change) (cond b (w ∷ filter (λ (v : Write). eq_by_cmp bytes_cmp v.key key) ws) (filter (λ (v : Write). eq_by_cmp bytes_cmp v.key key) ws)))) [
      | true ↦ record { mutations = All-cons IsMutation w.change (changes_to key ws) h.0.0 r.mutations; fit = All-cons (ChangeFits schema) w.change (changes_to key ws) h.0.1 r.fit }
      | false ↦ r
    ]

-- the writes that stand in no table
unstored-goods : (schema : SchemaValue) (m : State) (sealed later : List Write) → All (λ w. IsMutation w.change) m.log → All (λ w. CommandFits schema (Put w)) m.log → sealed ++ later ≡ unstored_writes m → Goods schema sealed × Goods schema later
unstored-goods schema m sealed later is fit are = goods-split schema sealed later (subst (Goods schema) (sym are) (goods-behind schema m.stored m.log (goods-of schema m.log is fit)))

-- the changes that stand in no table are those that a reader is told
pub record AreTold (schema : SchemaValue) (key : List ℕ) (sealed later : List Write) (m : State) : Type 0 where
  pub of_sealed : AreChangesOf schema (changes_to key sealed)
  pub of_later : AreChangesOf schema (changes_to key later)
  pub are : changes_to key sealed ++ changes_to key later ≡ changes_to key (unstored_writes m)

pub told-writes : (schema : SchemaValue) (key : List ℕ) (m : State) (sealed later : List Write) → ((writes later : List Write) → changes_to key (writes ++ later) ≡ changes_to key writes ++ changes_to key later) → m.schema ≡ schema → All (λ w. IsMutation w.change) m.log → All (λ w. CommandFits m.schema (Put w)) m.log → sealed ++ later ≡ unstored_writes m →
    AreTold schema key sealed later m
told-writes schema key m sealed later both same is fits are =
    let fit : All (λ w. CommandFits schema (Put w)) m.log = subst (λ (t : SchemaValue). All (λ w. CommandFits t (Put w)) m.log) same fits in
    let goods = unstored-goods schema m sealed later is fit are in
    record { of_sealed = changes-good schema key sealed goods.0; of_later = changes-good schema key later goods.1; are = sym (both sealed later) ∙ ap (changes_to key) are }

-- what lies below the same snapshot
lies-same : (below : ℕ → List Mutation) (o p : Option Snap) → o ≡ p → below_if o (lies_below below p) ≡ lies_below below o
lies-same below None p e = refl
lies-same below (Some s) p e = ap (lies_below below) (sym e)

over-same : (below : ℕ → List Mutation) (schema : SchemaValue) (m : Memory) (q : PartReader) (p : Option Snap) (r : Reader) → (held_by q).cached ≡ p → ByForm (λ c. IsReadOver schema (below_if c.held.cached (lies_below below p)) m c r) (λ _. ⊤) q → ByForm (λ c. IsReadOver schema (lies_below below c.held.cached) m c r) (λ _. ⊤) q
over-same below schema m (Past o) p r e h = tt
over-same below schema m (Cached o) p r e h = subst (λ (b : List Mutation). IsReadOver schema b m o r) (lies-same below o.held.cached p e) h

same-snap : {s t : Snap} → Some s ≡ Some t → s ≡ t
same-snap e = cc

each-none : (os : List (ℕ × PartitionReader)) → AllByRecursion (λ x. Unit {0}) os
each-none [] = tt
each-none (o ∷ os) = (tt, each-none os)

apart-each : (o p : Option Snap) (os : List (ℕ × PartitionReader)) → o ≡ p → IfSome p (λ s. AllByRecursion (λ x. IsOtherSnap (cached_of x.1) s) os) → AllByRecursion (λ x. IfSome o (IsOtherSnap (cached_of x.1))) os
apart-each None p os e h = each-none os
apart-each (Some s) None os e h = absurd (cc)
apart-each (Some s) (Some t) os e h = subst (λ (u : Snap). AllByRecursion (λ x. IsOtherSnap (cached_of x.1) u) os) (same-snap (sym e)) h

-- what tells what the tables say is there, and no reader's
pub source-apart : (k : Shard) (m : State) (key : List ℕ) (source : Source) → IsSourceIn k m key source → IfSome (source_snap source) (λ s. AllByRecursion (λ o. IsOtherSnap (cached_of o.1) s) k.readers.items)
source-apart k m key (source.Read list) is = tt
source-apart k m key (source.Cached t) is = is.apart

-- its chain is no other partition's
pub source-of-key : (k : Shard) (m : State) (key : List ℕ) (source : Source) → IsSourceIn k m key source → AreEntries k.cache.entries k.unstored.chains → IfSome (source_snap source) (λ s. (q : List ℕ) → entry_number k.cache.entries q ≡ Some s.chain → q ≡ key)
source-of-key k m key (source.Read list) is are = tt
source-of-key k m key (source.Cached t) is are = λ q found. are.apart q key t.chain found is.entry

pub source-there : (k : Shard) (m : State) (key : List ℕ) (source : Source) → IsSourceIn k m key source → IsCachedThere k.unstored.chains (source_snap source)
source-there k m key (source.Read list) is = tt
source-there k m key (source.Cached t) is = is.there

pub source-read : (k : Shard) (m : State) (key : List ℕ) (source : Source) → IsSourceIn k m key source → IsReadWhole source
source-read k m key (source.Read list) is = (is.tabled, is.mutation, is.stream)
source-read k m key (source.Cached t) is = tt

module _ (lines : PartReader → Memory → List Mutation → List OutLine → Type 0) where
  -- what the tables say is told to a reader that is opened, by this
  abbrev pub OpensBy : Option Files → State → ℕ → Shard → Result Reply AllocError → Opening → Type 0
  OpensBy files m id k' r o = (said : List Mutation) × IsSaid m o.key said × IfOk r (λ _. Stands lines files k' (record m { readers = m.readers ++ (id, reader_with m o.key o.slice said) ∷ [] }))

  pub opened-by : (files : Option Files) (m : State) (id : ℕ) (k k' : Shard) (r : Result Reply AllocError) (source : Source) (o p : Opening) → o ≡ p → (IsSourceIn k m o.key source → OpensBy files m id k' r o) → IsSourceIn k m p.key source → OpensBy files m id k' r p
  opened-by files m id k k' r source o p e opens = subst (λ (x : Opening). IsSourceIn k m x.key source → OpensBy files m id k' r x) e opens

  pub served-there : (below : ℕ → List Mutation) (st : State) (m : Memory) (os : List (ℕ × PartitionReader)) (rs : List (ℕ × Reader)) → AllZip (IsServed lines below st m) os rs → AllByRecursion (λ o. AreThere m (written_snaps_of o.1)) os
  served-there below st m [] rs h = tt
  served-there below st m (o ∷ os) [] h = absurd h
  served-there below st m (o ∷ os) (r ∷ rs) h = (h.0.held.written, served-there below st m os rs h.1)

module _ (lines : PartReader → Memory → List Mutation → List OutLine → Type 0) (stays : Staying lines) where
  -- a reader that was opened is the machine's
  opened-served : (below : ℕ → List Mutation) (m : State) (mem : Memory) (id : ℕ) (key : List ℕ) (slice : Slice) (x : PartitionReader) (source : Source) (said sealed active : List Mutation) → m.schema ≡ m.schema → cached_of x ≡ source_snap source → x.key ≡ key → x.tables ≡ m.infos → AreHeldThere mem (held_by x.reader) → IsSaid m key said → IsSaidByFirst m m.infos key said →
      changes_to key (unstored_writes m) ≡ sealed ++ active → IsOpenedOver lines m.schema mem slice (lies_below below (source_snap source)) said sealed active x → IsServed lines below m mem (id, x) (id, reader_with m key slice said)
  opened-served below m mem id key slice x source said sealed active schema snap own tables held of first written over =
      let r : Reader = reader_with m key slice said in
      let same : below_if (cached_of x) (lies_below below (source_snap source)) ≡ lies_below below (cached_of x) = lies-same below (cached_of x) (source_snap source) snap in
      record {
        id = refl;
        key = own;
        left = subst (λ (b : List Mutation). lines x.reader mem b (rest_of r)) same (subst (λ (cs : List Mutation). lines x.reader mem (below_if (cached_of x) (lies_below below (source_snap source))) (answer (said ++ cs) slice)) (sym written) over.left);
        over = over-same below m.schema mem x.reader (source_snap source) r snap (over.over r refl refl refl written);
        held = held;
        opened = record { later = []; are = sym (append-nil m.infos) ∙ ap (λ (is : List TableInfo). is ++ []) (sym tables); listed = ap (listing key) (sym tables); said = subst (λ (is : List TableInfo). IsSaidByFirst m is key said) (sym tables) first };
      }

  pub opens-reader : (files : Option Files) (k k' : Shard) (id : ℕ) (key : List ℕ) (slice : Slice) (x : PartitionReader) (source : Source) → ((writes later : List Write) → changes_to key (writes ++ later) ≡ changes_to key writes ++ changes_to key later) →
      position (λ reader. reader.0 == id) k.readers.items ≡ None → k'.folder ≡ k.folder → k'.cache.entries ≡ k.cache.entries → k'.segments ≡ k.segments → k'.readers.items ≡ k.readers.items ++ (id, x) ∷ [] → ((schema : SchemaValue) → KeepsUnstored schema k.unstored k'.unstored) → (said : List Mutation) →
      ((schema : SchemaValue) (writes later : List Write) (below : List Mutation) → HaveWrites schema k.unstored writes later → AreChangesOf schema (changes_to key writes) → AreChangesOf schema (changes_to key later) → AreChangesOf schema below → TellsBelow k'.unstored.chains source below said →
      IsOpenedOver lines schema k'.unstored.chains slice below said (changes_to key writes) (changes_to key later) x) →
      AreHeldThere k'.unstored.chains (held_by x.reader) → cached_of x ≡ source_snap source → x.key ≡ key → x.tables ≡ k.folder.infos → ((s : Snap) → HasPin k.unstored.chains s.chain s.pin → IsNoneOf (written_snaps_of x) s) → IfSome (source_snap source) (λ s. AllByRecursion (λ o. IsOtherSnap (cached_of o.1) s) k.readers.items) →
      IfSome (source_snap source) (λ s. (q : List ℕ) → entry_number k.cache.entries q ≡ Some s.chain → q ≡ key) → (m : State) (s : StandsBeside lines (number_of_snaps (source_snap source)) files k m) → IsSaid m key said → TellsBelow k'.unstored.chains source (lies_below s.cached.below (source_snap source)) said → AreChangesOf k.folder.schema (lies_below s.cached.below (source_snap source)) →
      Stands lines files k' (record m { readers = m.readers ++ (id, reader_with m key slice said) ∷ [] })
  opens-reader files k k' id key slice x source both unused folder cache segs items kept said gives held snap own tables fresh apart of_key m s of tells fits =
      let schema : SchemaValue = k.folder.schema in
      let h = s.have in
      let kept-in : AreFor lines files k.folder k'.unstored k.cache.entries k.readers.items k.segments (number_of_snaps (source_snap source)) m = kept-for lines stays files k.folder k.unstored k'.unstored k.cache.entries k.readers.items k.segments (number_of_snaps (source_snap source)) m (kept schema) s in
      let told = told-writes schema key m h.sealed h.later both s.over.schema s.sound.mutations s.over.fit h.are in
      let r : Reader = reader_with m key slice said in
      let given : List (ℕ × Reader) = m.readers ++ (id, r) ∷ [] in
      let over = gives schema h.sealed h.later (lies_below s.cached.below (source_snap source)) h.have told.of_sealed told.of_later fits tells in
      let new = opened-served s.cached.below m k'.unstored.chains id key slice x source said (changes_to key h.sealed) (changes_to key h.later) refl snap own (tables ∙ sym s.over.infos) held of (said-first files schema k.folder.infos m key said s.over of) (sym told.are)
      (subst (λ (t : SchemaValue). IsOpenedOver lines t k'.unstored.chains slice (lies_below s.cached.below (source_snap source)) said (changes_to key h.sealed) (changes_to key h.later) x) (sym s.over.schema) over) in
      let served = more-served lines s.cached.below m k'.unstored.chains (id, x) (id, r) k.readers.items m.readers kept-in.served new in
      let there = served-there lines s.cached.below m k.unstored.chains k.readers.items m.readers s.served in
      let pairs = more-two k.unstored.chains id (id, x) k.readers.items there (nowhere-of id k.readers.items unused) refl fresh (apart-each (cached_of x) (source_snap source) k.readers.items snap apart) s.two in
      let stands = reading-more lines stays files k.folder k'.unstored k.cache.entries k.readers.items (k.readers.items ++ (id, x) ∷ []) k.segments (number_of_snaps (source_snap source)) 0 m given kept-in
      (let sum = cached-more (id, x) k.readers.items in let e = ap number_of_snaps snap in omega (arith, sum, e)) served pairs
      (of-more k.cache.entries k.readers.items (id, x) (subst (λ (o : Option Snap). IfSome o (λ s. (q : List ℕ) → entry_number k.cache.entries q ≡ Some s.chain → q ≡ x.key)) (sym snap) (subst (λ (q : List ℕ). IfSome (source_snap source) (λ s. (r : List ℕ) → entry_number k.cache.entries r ≡ Some s.chain → r ≡ q)) (sym own) of_key)) s.apart) in
      moved lines files k k' k'.unstored (k.readers.items ++ (id, x) ∷ []) (record m { readers = given }) folder refl cache segs items stands

  -- ---- what tells what the tables say of a partition

  -- it tells this, once calls left the row cache
  pub record IsTelling (schema : SchemaValue) (m : State) (mem : Memory) (key : List ℕ) (source : Source) (below : List Mutation) : Type 0 where
    pub said : List Mutation
    pub of_tables : IsSaid m key said
    pub tells : TellsBelow mem source below said
    pub fits : AreChangesOf schema below

  pub tells-of : (files : Option Files) (k : Shard) (u : Unstored 131072) (m : State) (key : List ℕ) (source : Source) (s : StandsBeside lines (number_of_snaps (source_snap source)) files k m) → KeepsUnstored k.folder.schema k.unstored u → IsSourceIn k m key source → IsTelling k.folder.schema m u.chains key source (lies_below s.cached.below (source_snap source))
  tells-of files k u m key (source.Read list) s kept is = record { said = is.said; of_tables = is.of_tables; tells = (is.tabled, is.mutation, is.stream, is.joined); fits = record { mutations = λ i d l. absurd (omega (arith, l)); fit = λ i d l. absurd (omega (arith, l)) } }
  tells-of files k u m key (source.Cached t) s kept is =
      let schema : SchemaValue = k.folder.schema in
      let j = s.cached.of_tables key t.chain is.entry in
      let cached = cached-still schema k.cache.entries k.unstored.chains u.chains m m (λ key said h. h) kept.cache.left s.cached in
      record {
        said = j.said;
        of_tables = j.of_tables;
        tells = (stands-cached lines stays schema k.cache.entries u.chains m cached t (kept.cache.left.snapshots.each t.chain t.pin is.there), record { join = j.join; is = j.is; mutation = j.mutation; joined = j.joined });
        fits = record { mutations = subst (All IsMutation) (sym j.is) (All-cons IsMutation j.join [] j.mutation (λ i d l. absurd (omega (arith, l)))); fit = s.cached.fit t.chain };
      }

  -- ---- a snapshot that no reader holds was taken back

  module _ (beside : Beside) where
    let-go-served : (below : ℕ → List Mutation) (st : State) (m n : Memory) → ((s : Snap) → HasCacheSnapshot n s.chain s.pin → StandsCached 131072 (below s.chain) n s) → (snap : Option Snap) → IsPastRest snap m n → (os : List (ℕ × PartitionReader)) (rs : List (ℕ × Reader)) → IfSome snap (λ s. AllByRecursion (λ o. IsOtherSnap (cached_of o.1) s) os) →
        AllZip (IsServed lines below st m) os rs → AllZip (IsServed lines below st n) os rs
    let-go-served below st m n stand snap rest [] [] apart h = tt
    let-go-served below st m n stand snap rest [] (r ∷ rs) apart h = absurd h
    let-go-served below st m n stand snap rest (o ∷ os) [] apart h = absurd h
    let-go-served below st m n stand snap rest (o ∷ os) (r ∷ rs) apart h =
        let here : IfSome snap (IsOtherSnap (cached_of o.1)) = first-of snap _ _ apart in
        let there = cached-beside snap m n (cached_of o.1) rest.pins (each-back (cached_of o.1) snap here) h.0.held.cached in
        (still-served lines stays st st (same-opened st) m n below stand o r (seen-if m n (written_snaps_of o.1) rest.seen h.0.held.written) there h.0, let-go-served below st m n stand snap rest os rs (second-of snap _ _ apart) h.1)

    let-go-for : (files : Option Files) (f : Tabled) (u : Unstored 131072) (n : Memory) (entries : List (List ℕ × ℕ)) (readers : List (ℕ × PartitionReader)) (segments : ℕ) (snap : Option Snap) (m : State) → IfSome snap (λ s. AllByRecursion (λ o. IsOtherSnap (cached_of o.1) s) readers) → IsSnapGivenBack snap u.chains n →
        AreFor lines files f u entries readers segments (number_of_snaps snap) m → AreFor lines files f (in_chains n u) entries readers segments 0 m
    let-go-for files f u n entries readers segments snap m apart back s =
        let rest = past-rest snap u.chains n back in
        let cached : HaveCached f.schema entries n m = record {
          limits = s.cached.limits;
          small = s.cached.small;
          below = s.cached.below;
          fit = s.cached.fit;
          says = rest.says f.schema (λ id phase. s.cached.below id) s.cached.says;
          of_tables = s.cached.of_tables;
          are = rest.entries entries s.cached.are;
          one = rest.one s.cached.one;
          used = rest.used s.cached.used;
        } in
        record {
          over = s.over;
          have = record { sealed = s.have.sealed; later = s.have.later; have = writes-past beside snap u n rest f.schema s.have.sealed s.have.later s.have.have; are = s.have.are; count = s.have.count };
          whole = s.whole;
          left = s.left;
          budget = s.budget;
          sound = sound-less u.chains n m rest.segments rest.bytes s.sound;
          cached = cached;
          taken = (let a = s.taken in let b = rest.snapshots in omega (arith, a, b));
          served = let-go-served s.cached.below m u.chains n (stands-cached lines stays f.schema entries n m cached) snap rest readers m.readers apart s.served;
          two = s.two;
          apart = s.apart;
        }

    pub not-opened : (files : Option Files) (k k' : Shard) (m : State) (key : List ℕ) (source : Source) → k'.folder ≡ k.folder → k'.cache.entries ≡ k.cache.entries → k'.segments ≡ k.segments → k'.readers.items ≡ k.readers.items → IsSourceLetGo (source_snap source) k.folder.schema k.unstored k'.unstored → IsSourceIn k m key source →
        StandsBeside lines (number_of_snaps (source_snap source)) files k m → Stands lines files k' m
    not-opened files k k' m key source folder cache segs items went is s =
        let kept = kept-for lines stays files k.folder k.unstored went.0 k.cache.entries k.readers.items k.segments (number_of_snaps (source_snap source)) m went.1 s in
        moved lines files k k' (in_chains k'.unstored.chains went.0) k.readers.items m folder went.3 cache segs items
        (let-go-for files k.folder went.0 k'.unstored.chains k.cache.entries k.readers.items k.segments (source_snap source) m (source-apart k m key source is) went.2 kept)
