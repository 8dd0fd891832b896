-- What a flush does.
use Rattle.std.specs.Prelude.{All, IsTrue}
use Rattle.std.proofs.Common.{◌≡◌, ◌==◌, ℕ, ◌+◌, ◌-◌, ◌≤◌, inl, inr, Bool, true, false, List, [], ◌∷◌, ◌++◌, length, if◌then◌else◌, Option, Some, None, nat_lt, refl, sym, ap, subst, ◌∙◌, arith, append-nil}
use Rattle.std.proofs.lemmas.Bool.Decides.{nat_tests}
use Rattle.std.proofs.lemmas.List.{length-drop}
use Rattle.rc_outside.specs.Files.{Files, IsNoFile}
use Rattle.rc_schema.specs.SchemaValue.{SchemaValue, is_schema}
use Rattle.rc_writes.specs.Allowed.{ChangeFits}
use Rattle.rc_mutation.specs.declared.mutations.Mutation.{Mutation}
use Rattle.rc_mutation.specs.declared.mutations.Partition.{Partition}
use Rattle.rc_mutation.specs.declared.mutations.Write.{Write}
use Rattle.rc_mutation.specs.Fragments.{IsParts}
use Rattle.rc_tfile.specs.TableText.{PartsFit}
use Rattle.rc_query.specs.declared.lines.OutLine.{OutLine}
use Rattle.rc_lines.specs.declared.commands.Command.TheVariants.{Flush}
use Rattle.rc_lines.specs.declared.commands.Reply.{Reply}
use Rattle.rc_lines.specs.declared.commands.Reply.TheVariants as replies
use Rattle.rc_lines.specs.declared.commands.Refusal.TheVariants.{NothingToFlush, NoNumber, WriteFault}
use Rattle.rc_memory.specs.Memory.{Memory}
use Rattle.rc_cached.specs.Stands.{HasCacheSnapshot}
use Rattle.rc_snapshots.specs.Seeing.{AllStillSee}
use Rattle.rc_snapshots.specs.laws.Seeing.{all-see}
use Rattle.rc_lookup.specs.Footprint.{cache_snapshots}
use Rattle.rc_lookup.specs.Saying.{CacheSays}
use Rattle.rc_lookup.specs.Writes.{AreSmall}
use Rattle.rc_lookup.specs.Unstored.{Unstored}
use Rattle.rc_lookup.specs.Memtables.{HaveWrites}
use Rattle.rc_paging.specs.declared.forms.PartReader.{PartReader}
use Rattle.rc_machine.specs.State.{State, numbers, unstored_writes}
use Rattle.rc_machine.specs.Steps.{IsFlushed, last_number, next_number, sealing, with_table, without_sealed}
use Rattle.rc_machine.specs.Serving.{Stops, Takes}
use Rattle.rc_folder.specs.Tabled.{IsTableAdded, IsNextNumber, Tabled}
use Rattle.rc_folder.specs.laws.Fitting.{sealed_parts_fit}
use Rattle.rc_folder.specs.laws.Flushing.{flushes, in_time, is_flushed, later_writes, too_late}
use Rattle.rc_folder.specs.laws.Over.{fresh, over_added, over_let_go, over_sealed}
use Rattle.rc_folder.specs.laws.Sealing.{not_none, sealing_is}
use Rattle.rc_shard.specs.declared.shard.Shard.{Shard}
use Rattle.rc_shard.specs.Readers.{cached_readers}
use Rattle.rc_shard.specs.Stands.{AreFor, AreSound, HaveUnstored, Stands}
use Rattle.rc_shard.specs.calls.Staying.{Staying}
use Rattle.rc_shard.specs.calls.Storing.{IsFlushAnswered, IsTableStored, KeepsUnstored}
use Rattle.rc_shard.proofs.OfItsKey.{fewer-entries}
use Rattle.rc_shard.proofs.Served.{all-served}
use Rattle.rc_lookup.specs.RowCache.{RowCache}
use Rattle.rc_shard.specs.Cached.{HaveCached}
use Rattle.rc_shard.specs.calls.Caching.{Forgets, HasCache, LeavesCache}
use Rattle.rc_shard.proofs.Caching.{leaves-itself}
use Rattle.rc_shard.proofs.Unwritten.{said-still}
use Rattle.rc_shard.proofs.Standing.{cached-still, joined-still, kept-for, opened-sealed, sound-less, stands-cached}
use Rattle.rc_shard.proofs.Tabled.{opened-more}
use Rattle.rc_shard.proofs.Taking.{moved}

-- whether something is to be flushed
left-of : (m : State) → length (unstored_writes m) ≡ length m.log - m.stored
left-of m = length-drop m.stored m.log

all-stored : (m : State) → m.stored ≤ length m.log → unstored_writes m ≡ [] → (m.stored == length m.log) ≡ true
all-stored m h none = let count = left-of m in let e = ap (λ (ws : List Write). length ws) none in grind (arith, nat_tests, count, e, h)

nothing-in : (ws : List Write) → length ws ≡ 0 → ws ≡ []
nothing-in [] e = refl
nothing-in (w ∷ ws) e = absurd (omega (arith, e))

equal-is : (a b : ℕ) → (a == b) ≡ true → a ≡ b
equal-is a b e = grind (arith, nat_tests, e)

pub not-true : (b : Bool) → b ≡ false → b ≡ true → ⊥
not-true b f t = let e : false ≡ true = sym f ∙ t in absurd (cc)

test-of : (b : Bool) → (b ≡ true → ⊥) → b ≡ false
test-of true h = absurd (h refl)
test-of false h = refl

some-left : (m : State) → m.stored ≤ length m.log → (unstored_writes m ≡ [] → ⊥) → (m.stored == length m.log) ≡ false
some-left m h some = test-of (m.stored == length m.log) (λ e. some (nothing-in (unstored_writes m) (let count = left-of m in let same = equal-is m.stored (length m.log) e in omega (arith, count, same))))

-- the writes are sealed, unless some are
have-sealed : (schema : SchemaValue) (u v : Unstored 131072) (m : State) (sealed later : List Write) → HaveWrites schema u sealed later → sealed ++ later ≡ unstored_writes m → m.sealed ≡ m.stored + length sealed → m.stored ≤ length m.log →
    ((others : List Write) → HaveWrites schema u [] others → HaveWrites schema v others []) → ((w : Write) (writes others : List Write) → HaveWrites schema u (w ∷ writes) others → v ≡ u) → HaveUnstored schema v (record m { sealed = sealing m })
have-sealed schema u v m [] later h are count in_log seals keeps = record { sealed = later; later = []; have = seals later h; are = append-nil later ∙ are; count = sealing_is m [] later in_log are count }
have-sealed schema u v m (w ∷ ws) later h are count in_log seals keeps = record {
  sealed = w ∷ ws;
  later = later;
  have = subst (λ (x : Unstored 131072). HaveWrites schema x (w ∷ ws) later) (sym (keeps w ws later h)) h;
  are = are;
  count = sealing_is m (w ∷ ws) later in_log are count ∙ ap (λ (b : Bool). m.stored + length (if b then later else w ∷ ws)) (not_none (length ws));
}

-- what the tables say of what is left in the cache is what they said, once others stand in one more table
abbrev forgotten-still : (schema : SchemaValue) (parts : List Partition) (a b : List (List ℕ × ℕ)) (m n : Memory) (st : State) → Forgets parts a b m n → HaveCached schema a m (record st { sealed = sealing st }) → HaveCached schema b n (without_sealed (with_table st parts))
forgotten-still schema parts a b m n st f h =
    let was : HasCache a m = record { are = h.are; one = h.one; used = h.used } in
    let now = f.has was in
    record {
      limits = h.limits;
      small = h.small;
      below = h.below;
      fit = h.fit;
      says = f.says schema (λ id phase. h.below id) h.says;
      of_tables = λ key id found. (let e = f.found was key id found in joined-still (record st { sealed = sealing st }) (without_sealed (with_table st parts)) key (h.below id) (λ said. said-still st parts key said e.1) (h.of_tables key id e.0));
      are = now.are;
      one = now.one;
      used = now.used;
    }

-- under an equal schema the cache has what it has
abbrev schema-cached : (a b : SchemaValue) (entries : List (List ℕ × ℕ)) (m : Memory) (st : State) → a ≡ b → HaveCached a entries m st → HaveCached b entries m st
schema-cached a b entries m st e h = record {
  limits = subst (λ (t : SchemaValue). IsTrue (is_schema t)) e h.limits;
  small = subst (AreSmall 131072) e h.small;
  below = h.below;
  fit = λ id. subst (λ (t : SchemaValue). All (ChangeFits t) (h.below id)) e (h.fit id);
  says = subst (λ (t : SchemaValue). CacheSays t (λ id phase. h.below id) m) e h.says;
  of_tables = h.of_tables;
  are = h.are;
  one = h.one;
  used = h.used;
}

module _ (lines : PartReader → Memory → List Mutation → List OutLine → Type 0) (stays : Staying lines) where
  in-log : (files : Option Files) (k : Shard) (m : State) → Stands lines files k m → m.stored ≤ length m.log
  in-log files k m s = let a = s.over.stored in let b = s.over.sealed in omega (arith, a, b)

  pub sealed-for : (files : Option Files) (k k' : Shard) (m : State) → k'.folder ≡ k.folder → k'.cache.entries ≡ k.cache.entries → k'.segments ≡ k.segments → k'.readers.items ≡ k.readers.items → k'.unstored.chains ≡ k.unstored.chains →
      ((schema : SchemaValue) (others : List Write) → HaveWrites schema k.unstored [] others → HaveWrites schema k'.unstored others []) → ((schema : SchemaValue) (w : Write) (writes others : List Write) → HaveWrites schema k.unstored (w ∷ writes) others → k'.unstored ≡ k.unstored) →
      Stands lines files k m → Stands lines files k' (record m { sealed = sealing m })
  sealed-for files k k' m folder cache segs items chains seals keeps s =
      let cached = cached-still k.folder.schema k.cache.entries k.unstored.chains k'.unstored.chains m (record m { sealed = sealing m }) (λ key said h. h) (subst (LeavesCache k.unstored.chains) (sym chains) (leaves-itself k.unstored.chains)) s.cached in
      let sealed : AreFor lines files k.folder k'.unstored k.cache.entries k.readers.items k.segments 0 (record m { sealed = sealing m }) = record {
        over = over_sealed files k.folder.schema k.folder.infos m s.over;
        have = have-sealed k.folder.schema k.unstored k'.unstored m s.have.sealed s.have.later s.have.have s.have.are s.have.count (in-log files k m s) (seals k.folder.schema) (keeps k.folder.schema);
        whole = s.whole;
        left = s.left;
        budget = s.budget;
        sound = (let t = subst (λ (x : Memory). AreSound x m) (sym chains) s.sound in record { mutations = t.mutations; budget = t.budget; weigh = t.weigh });
        cached = cached;
        taken = subst (λ (x : Memory). cache_snapshots x ≤ cached_readers k.readers.items + 0) (sym chains) s.taken;
        served = all-served lines stays m (record m { sealed = sealing m }) (opened-sealed m (sealing m)) k.unstored.chains k'.unstored.chains s.cached.below (stands-cached lines stays k.folder.schema k.cache.entries k'.unstored.chains (record m { sealed = sealing m }) cached) k.readers.items m.readers
            (subst (AllStillSee k.unstored.chains) (sym chains) (all-see k.unstored.chains k.unstored.chains (λ t on. record { pin = on; versions = refl; kind = refl }))) (λ id pin h. subst (λ (x : Memory). HasCacheSnapshot x id pin) (sym chains) h) s.served;
        two = s.two;
        apart = s.apart;
      } in
      moved lines files k k' k'.unstored k.readers.items (record m { sealed = sealing m }) folder refl cache segs items sealed

  -- ---- a flush that is refused

  pub takes-no-flush : (files : Option Files) (k : Shard) → ((schema : SchemaValue) (writes later : List Write) → HaveWrites schema k.unstored writes later → writes ++ later ≡ []) → Takes (Stands lines) files k Flush (replies.Refused NothingToFlush) files k
  takes-no-flush files k none = λ m s.
      (m, flushes without_sealed m _ m true (nat_lt last_number (next_number (numbers m.tables))) s.whole (all-stored m (in-log files k m s) (sym s.have.are ∙ none k.folder.schema s.have.sealed s.have.later s.have.have)) refl (refl, refl), s)

  some-here : (files : Option Files) (k : Shard) (m : State) → ((schema : SchemaValue) (writes later : List Write) → HaveWrites schema k.unstored writes later → writes ++ later ≡ [] → ⊥) → Stands lines files k m → (m.stored == length m.log) ≡ false
  some-here files k m some s = some-left m (in-log files k m s) (λ e. some k.folder.schema s.have.sealed s.have.later s.have.have (s.have.are ∙ e))

  pub takes-no-number : (files : Option Files) (k : Shard) → ((schema : SchemaValue) (writes later : List Write) → HaveWrites schema k.unstored writes later → writes ++ later ≡ [] → ⊥) → IsNextNumber k.folder.infos None → Takes (Stands lines) files k Flush (replies.Refused NoNumber) files k
  takes-no-number files k some past = λ m s. (m, flushes without_sealed m _ m false true s.whole (some-here files k m some s) (too_late files k.folder.schema k.folder.infos m s.over past) (refl, refl), s)

  module _ where
    -- want of memory: the writes stay sealed
    pub stops-sealed : (files files' : Option Files) (k l k' : Shard) → ((m : State) → Stands lines files k m → Stands lines files l (record m { sealed = sealing m })) → k'.folder ≡ l.folder → k'.cache.entries ≡ l.cache.entries → k'.segments ≡ l.segments → k'.readers.items ≡ l.readers.items → KeepsUnstored l.folder.schema l.unstored k'.unstored → files' ≡ files →
        Stops (Stands lines) files k Flush files' k'
    stops-sealed files files' k l k' seals folder cache segs items kept still = λ m s.
        let sealed : State = record m { sealed = sealing m } in
        (sealed, inr refl, subst (λ told. Stands lines told k' sealed) (sym still) (moved lines files l k' k'.unstored l.readers.items sealed folder refl cache segs items (kept-for lines stays files l.folder l.unstored k'.unstored l.cache.entries l.readers.items l.segments 0 sealed kept (seals m s))))

    module _ (files files' : Option Files) (k l k' : Shard) (n : ℕ) (some : (schema : SchemaValue) (writes later : List Write) → HaveWrites schema k.unstored writes later → writes ++ later ≡ [] → ⊥) (is : IsNextNumber k.folder.infos (Some n))
        (seals : (m : State) → Stands lines files k m → Stands lines files l (record m { sealed = sealing m })) (segs : k'.segments ≡ l.segments) (items : k'.readers.items ≡ l.readers.items) where
      takes-write-fault : k'.folder ≡ l.folder → k'.cache ≡ l.cache → KeepsUnstored l.folder.schema l.unstored k'.unstored → files' ≡ files → Takes (Stands lines) files k Flush (replies.Refused WriteFault) files' k'
      takes-write-fault folder cache kept still = λ m s.
          let sealed : State = record m { sealed = sealing m } in (
            sealed,
            flushes without_sealed m _ _ false false s.whole (some-here files k m some s) (in_time files k.folder.schema k.folder.infos m n s.over is) (inr (refl, refl)),
            subst (λ told. Stands lines told k' sealed) (sym still) (moved lines files l k' k'.unstored l.readers.items sealed folder refl (ap (λ (x : RowCache). x.entries) cache) segs items (kept-for lines stays files l.folder l.unstored k'.unstored l.cache.entries l.readers.items l.segments 0 sealed kept (seals m s))),
          )

      -- the sealed writes stand in the next table
      module _ (same : l.folder ≡ k.folder) (i : IsTableStored files l n files' k') where
        added-here : IsTableAdded files k.folder n i.parts files' k'.folder
        added-here = subst (λ (f : Tabled). IsTableAdded files f n i.parts files' k'.folder) same i.added

        stands-stored : (m : State) → Stands lines files k m → Stands lines files' k' (without_sealed (with_table m i.parts))
        stands-stored m s =
            let t = seals m s in
            let parts = i.of_writes l.folder.schema t.have.sealed t.have.later t.have.have in
            let new : State = with_table m i.parts in
            let schema : k'.folder.schema ≡ l.folder.schema = ap (λ (f : Tabled). f.schema) i.added.keeps in
            let plain = forgotten-still l.folder.schema i.parts l.cache.entries k'.cache.entries l.unstored.chains k'.unstored.chains m i.cache t.cached in
            let stored : AreFor lines files' k'.folder k'.unstored k'.cache.entries l.readers.items l.segments 0 (without_sealed new) = record {
              over = over_let_go files' k'.folder.schema k'.folder.infos new (over_added files files' k.folder k'.folder n m i.parts s.over is added-here parts.mutations);
              have = record {
                sealed = [];
                later = t.have.later;
                have = subst (λ (x : SchemaValue). HaveWrites x k'.unstored [] t.have.later) (sym schema) (i.gone l.folder.schema t.have.sealed t.have.later t.have.have);
                are = later_writes m t.have.sealed t.have.later (sealing m) t.have.are t.have.count;
                count = omega arith;
              };
              whole = refl;
              left = refl;
              budget = t.budget;
              sound = (let a = sound-less l.unstored.chains k'.unstored.chains (record m { sealed = sealing m }) i.budget i.cache.bytes t.sound in record { mutations = a.mutations; budget = a.budget; weigh = a.weigh });
              cached = schema-cached l.folder.schema k'.folder.schema k'.cache.entries k'.unstored.chains (without_sealed new) (sym schema) plain;
              taken = (let a = t.taken in let b = i.cache.snapshots.number in omega (arith, a, b));
              served = all-served lines stays (record m { sealed = sealing m }) (without_sealed new) (opened-more files k.folder.schema k.folder.infos m i.parts s.over) l.unstored.chains k'.unstored.chains t.cached.below (stands-cached lines stays l.folder.schema k'.cache.entries k'.unstored.chains (without_sealed new) plain) l.readers.items m.readers i.seen i.cache.snapshots.each t.served;
              two = t.two;
              apart = fewer-entries l.cache.entries k'.cache.entries (λ key id found. (i.cache.found (record { are = t.cached.are; one = t.cached.one; used = t.cached.used }) key id found).0) l.readers.items t.apart;
            } in
            subst (λ os. AreFor lines files' k'.folder k'.unstored k'.cache.entries os k'.segments 0 (without_sealed new)) (sym items) (subst (λ x. AreFor lines files' k'.folder k'.unstored k'.cache.entries l.readers.items x 0 (without_sealed new)) (sym segs) stored)

        takes-stored : Takes (Stands lines) files k Flush replies.Fine files' k'
        takes-stored = λ m s.
            let t = seals m s in
            let flushed : IsFlushed m i.parts = is_flushed files k.folder.schema k.folder.infos m t.have.sealed t.have.later i.parts s.over t.have.are t.have.count (i.of_writes l.folder.schema t.have.sealed t.have.later t.have.have) added-here.is_table in
            (without_sealed (with_table m i.parts), flushes without_sealed m _ _ false false s.whole (some-here files k m some s) (in_time files k.folder.schema k.folder.infos m n s.over is) (inl (i.parts, flushed, (refl, refl))), stands-stored m s)

      -- what was answered of the table
      pub takes-written : (reply : Reply) → l.folder ≡ k.folder → IsFlushAnswered files l n files' k' reply → Takes (Stands lines) files k Flush reply files' k'
      takes-written reply same (inl w) = subst (λ r. Takes (Stands lines) files k Flush r files' k') (sym w.0) (takes-stored same w.1)
      takes-written reply same (inr w) = subst (λ r. Takes (Stands lines) files k Flush r files' k') (sym w.0) (takes-write-fault w.1 w.2 w.3 w.4)

-- the number is no file's
pub no-file : (lines : PartReader → Memory → List Mutation → List OutLine → Type 0) (files : Option Files) (k : Shard) (n : ℕ) → (m : State) × Stands lines files k m → IsNextNumber k.folder.infos (Some n) → IsNoFile files n
no-file lines files k n stands is = fresh files k.folder.schema k.folder.infos stands.0 n stands.1.over is

-- the parts of the sealed writes fit a table
pub parts-of-sealed : (lines : PartReader → Memory → List Mutation → List OutLine → Type 0) (files : Option Files) (k : Shard) (parts : List Partition) → (m : State) × Stands lines files k m → ((schema : SchemaValue) (writes later : List Write) → HaveWrites schema k.unstored writes later → IsParts parts writes) → PartsFit k.folder.schema parts
parts-of-sealed lines files k parts stands are =
    let h = stands.1.have in
    sealed_parts_fit files k.folder.schema k.folder.infos stands.0 h.sealed h.later parts stands.1.over h.are (are k.folder.schema h.sealed h.later h.have)
