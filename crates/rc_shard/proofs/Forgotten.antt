-- What a partition that leaves the row cache leaves of the rest.
use Rattle.std.proofs.Common.{inl, inr, ◌≡◌, ◌≤◌, ◌<◌, ◌+◌, ◌-◌, ℕ, zero, suc, take, drop, slice_index_or, true, false, cond, List, [], ◌∷◌, Option, Some, None, length, refl, sym, ap, ◌∙◌, subst, le_refl, arith}
use Rattle.std.specs.Prelude.{IfSome}
use Rattle.std.specs.Map.{remove_entry}
use Rattle.std.specs.BTreeMap.{is_at}
use Rattle.std.specs.Option.{option_map}
use Rattle.std.specs.Ordering.{eq_by_cmp, is_eq}
use Rattle.std.specs.Cmp.{eq_by_cmp_equiv}
use Rattle.std.specs.declared.cmp.Ordering.{Ordering}
use Rattle.std.specs.declared.cmp.Ordering.TheVariants.{Less, Equal, Greater}
use Rattle.rc_position.specs.Position.{bytes_cmp}
use Rattle.rc_position.specs.laws.Orders.{bytes_cmp_same, bytes_cmp_total}
use Rattle.rc_schema.specs.SchemaValue.{SchemaValue}
use Rattle.rc_mutation.specs.declared.mutations.Partition.{Partition}
use Rattle.rc_mutation.specs.declared.mutations.Write.{Write}
use Rattle.rc_registry.specs.ChainKind.{ChainKind}
use Rattle.rc_registry.specs.ChainKind.TheVariants.{Cache, Memtable}
use Rattle.rc_registry.specs.Registry.{IsNumberIn}
use Rattle.rc_memory.specs.declared.counts.Counts.{Counts}
use Rattle.rc_memory.specs.Kept.{IsSoundChain}
use Rattle.rc_memory.specs.Memory.{KeptChain, Memory, chain_at, on_shown, shown_detached}
use Rattle.rc_memory.specs.laws.Places.{no_some, same_some}
use Rattle.rc_lookup.specs.Writes.{HasWrites, chain_of}
use Rattle.rc_lookup.specs.NoMore.{counts-same, counts-then}
use Rattle.rc_snapshots.specs.Seeing.{NothingIsLost}
use Rattle.rc_snapshots.specs.laws.Seeing.{lost-then}
use Rattle.rc_lookup.specs.Unstored.{Unstored}
use Rattle.rc_lookup.specs.Memtables.{HaveWrites, in_chains}
use Rattle.rc_lookup.specs.Detached.{IsDetached}
use Rattle.rc_lookup.specs.Entries.{AreEntries}
use Rattle.rc_lookup.specs.Found.{DoKeysAscend, entry_number}
use Rattle.rc_lookup.specs.Saying.{Below, CacheSays}
use Rattle.rc_lookup.specs.Footprint.{AreInUse, HaveOneVersion, NoUpdateStands, memtable_bytes}
use Rattle.rc_lookup.specs.Fillers.{losses}
use Rattle.rc_lookup.specs.Staying.{IsEntryStill}
use Rattle.rc_lookup.specs.laws.Staying.{entry-itself, entry-then, same-content}
use Rattle.rc_shard.specs.Releasing.{KeepsSnapshots}
use Rattle.rc_shard.specs.calls.Caching.{AreOthers, AreStillThere, Forgets, HasCache, KeepsCache}
use Rattle.rc_shard.specs.calls.Storing.{KeepsWritten}
use Rattle.rc_shard.proofs.Caching.{all-then, keeps-all, lost-neither}
use Rattle.rc_shard.proofs.Numbered.{chain-beside, either, there-or-not}

-- ---- keys

equal-is : (r : Ordering) → is_eq r ≡ true → r ≡ Equal
equal-is Less e = absurd (cc)
equal-is Equal e = refl
equal-is Greater e = absurd (cc)

pub key-is : (key q : List ℕ) → eq_by_cmp bytes_cmp key q ≡ true → key ≡ q
key-is key q e = bytes_cmp_same key q (equal-is (bytes_cmp key q) e)

pub key-itself : (key : List ℕ) → eq_by_cmp bytes_cmp key key ≡ true
key-itself key = (eq_by_cmp_equiv bytes_cmp_total).refl key

-- keys that differ one way differ the other way
pub differ : (q key : List ℕ) → eq_by_cmp bytes_cmp key q ≡ false → eq_by_cmp bytes_cmp q key ≡ false
differ q key off = either (eq_by_cmp bytes_cmp q key ≡ false) (eq_by_cmp bytes_cmp q key)
    (λ same. let t : false ≡ true = sym off ∙ ap (λ k. eq_by_cmp bytes_cmp key k) (key-is q key same) ∙ key-itself key in absurd (cc)) (λ e. e)

not-both : (kind : ChainKind) → kind ≡ Memtable → kind ≡ Cache → ⊥
not-both kind m c = (let clash : Memtable ≡ Cache = sym m ∙ c in cc)

-- ---- entries

pub entry-still : (key : List ℕ) (es : List (List ℕ × ℕ)) (m n : Memory) → AreStillThere m n → IsEntryStill key es m es n
entry-still key es m n still id e on = (e, λ k there. still id k there (ap (λ (q : KeptChain). q.chain.kind) (same_some k on.kept (sym there ∙ on.there)) ∙ on.kind))

-- ---- none, and one after another

pub forgets-none : (es : List (List ℕ × ℕ)) (m : Memory) → Forgets [] es es m m
forgets-none es m = record { says = λ schema below h. h; has = λ h. h; found = λ h key id e. (e, tt); bytes = le_refl (memtable_bytes m); snapshots = keeps-all m; lost = le_refl (losses m); stays = λ h none key others. entry-itself key es m }

pub forgets-then : (p : Partition) (ps : List Partition) (a b c : List (List ℕ × ℕ)) (m n l : Memory) → Forgets (p ∷ []) a b m n → Forgets ps b c n l → Forgets (p ∷ ps) a c m l
forgets-then p ps a b c m n l f g = record {
  says = λ schema below h. g.says schema below (f.says schema below h);
  has = λ h. g.has (f.has h);
  found = λ h key id e. (let later = g.found (f.has h) key id e in let first = f.found h key id later.0 in (first.0, (first.1.0, later.1)));
  bytes = (let x = f.bytes in let y = g.bytes in omega (arith, x, y));
  snapshots = all-then m n l f.snapshots g.snapshots;
  lost = (let x = f.lost in let y = g.lost in omega (arith, x, y));
  stays = λ h none key others. (
      let u = lost-neither (losses m) (losses n) (losses l) f.lost g.lost none in
      entry-then key a b c m n l (f.stays h u.0 key (others.0, tt)) (g.stays (f.has h) u.1 key others.1));
}

-- behind what keeps the cache
pub forgets-behind : (ps : List Partition) (a b : List (List ℕ × ℕ)) (m n l : Memory) → KeepsCache m n → Forgets ps a b n l → Forgets ps a b m l
forgets-behind ps a b m n l k f =
    let step : HasCache a m → HasCache a n = λ h. record { are = k.left.entries a h.are; one = k.left.one h.one; used = k.left.used h.used } in
    record {
      says = λ schema below h. f.says schema below (k.left.says schema below h);
      has = λ h. f.has (step h);
      found = λ h. f.found (step h);
      bytes = (let x = k.bytes in let y = f.bytes in omega (arith, x, y));
      snapshots = all-then m n l k.left.snapshots f.snapshots;
      lost = (let x = k.left.lost in let y = f.lost in omega (arith, x, y));
      stays = λ h none key others. (
          let u = lost-neither (losses m) (losses n) (losses l) k.left.lost f.lost none in
          entry-then key a a b m n l (entry-still key a m n (k.left.still u.0)) (f.stays (step h) u.1 key others));
    }

pub written-itself : (u : Unstored 131072) → KeepsWritten u u
written-itself u = record { stands = λ schema writes later h. h; seen = λ s on. record { pin = on; versions = refl; kind = refl }; budget = refl; counts = counts-same u.chains u.chains refl refl }

pub written-then : (u v w : Unstored 131072) → KeepsWritten u v → KeepsWritten v w → KeepsWritten u w
written-then u v w f g = record {
  stands = λ schema writes later h. g.stands schema writes later (f.stands schema writes later h);
  seen = lost-then u.chains v.chains w.chains f.seen g.seen;
  budget = g.budget ∙ f.budget;
  counts = counts-then u.chains v.chains w.chains f.counts g.counts;
}

-- ---- one that is no entry

pub forgets-absent : (p : Partition) (es es' : List (List ℕ × ℕ)) (m n : Memory) → entry_number es p.key ≡ None → (es' ≡ es) × (n ≡ m) → Forgets (p ∷ []) es es' m n
forgets-absent p es es' m n none same =
    let made : Forgets (p ∷ []) es es m m = record {
      says = λ schema below h. h;
      has = λ h. h;
      found = λ h key id e. (
        e,
        (
          either (eq_by_cmp bytes_cmp key p.key ≡ false) (eq_by_cmp bytes_cmp key p.key)
              (λ on. absurd (no_some id (sym none ∙ ap (entry_number es) (sym (key-is key p.key on)) ∙ e))) (λ off. off),
          tt,
        ),
      );
      bytes = le_refl (memtable_bytes m);
      snapshots = keeps-all m;
      lost = le_refl (losses m);
      stays = λ h none key others. entry-itself key es m;
    } in
    subst (λ (x : List (List ℕ × ℕ)). Forgets (p ∷ []) es x m n) (sym same.0) (subst (λ (x : Memory). Forgets (p ∷ []) es es m x) (sym same.1) made)

pub written-absent : (u : Unstored 131072) (n : Memory) → n ≡ u.chains → KeepsWritten u (in_chains n u)
written-absent u n same = subst (λ (x : Memory). KeepsWritten u (in_chains x u)) (sym same) (written-itself u)

-- ---- one that is

-- what the laws say of a chain that is detached
pub record DetachLaws : Type 0 where
  pub says : (schema : SchemaValue) (below : Below) (id : ℕ) (old new : Memory) → IsDetached id old new → CacheSays schema below old → CacheSays schema below new
  pub one : (id : ℕ) (old new : Memory) → IsDetached id old new → HaveOneVersion old → HaveOneVersion new
  pub settled : (m : Memory) → ((id : ℕ) (k : KeptChain) → chain_at m id ≡ Some k → IsSoundChain k.chain) → HaveOneVersion m → NoUpdateStands m
  pub used : (id : ℕ) (old new : Memory) → ((k : KeptChain) → chain_at old id ≡ Some k → k.chain.updating ≡ false) → IsDetached id old new → AreInUse old → AreInUse new
  pub bytes : (id : ℕ) (old new : Memory) → IsDetached id old new → memtable_bytes new ≡ memtable_bytes old
  pub snapshots : (id : ℕ) (old new : Memory) → IsDetached id old new → KeepsSnapshots old new
  pub gone : (entries : List (List ℕ × ℕ)) (key q : List ℕ) → DoKeysAscend entries → entry_number (remove_entry (is_at (bytes_cmp key)) entries) q ≡ cond (eq_by_cmp bytes_cmp key q) None (entry_number entries q)

module _ (l : DetachLaws) (p : Partition) (es : List (List ℕ × ℕ)) (id : ℕ) (u : Unstored 131072) (n : Memory) (sound : (i : ℕ) → IfSome (chain_at u.chains i) (λ k. IsSoundChain k.chain)) (told : (i : ℕ) → IsNumberIn u.chains.dropped i → chain_at u.chains i ≡ None)
    (entry : entry_number es p.key ≡ Some id) (d : IsDetached id u.chains n) where
  -- its chain is one of the cache, if it is there
  its-kind : AreEntries es u.chains → (k : KeptChain) → chain_at u.chains id ≡ Some k → k.chain.kind ≡ Cache
  its-kind are k there = elim (are.kept p.key id entry) [
    | inl cached ↦ ap (λ (q : KeptChain). q.chain.kind) (same_some k cached.kept (sym there ∙ cached.there)) ∙ cached.kind
    | inr gone ↦ absurd (no_some k (sym (told id gone) ∙ there))
  ]

  -- another chain is as it was
  other-still : (i : ℕ) → (id ≡ i → ⊥) → chain_at n i ≡ chain_at u.chains i
  other-still i ne = there-or-not _ (chain_at u.chains id)
      (λ none. ap (λ (x : Memory). chain_at x i) (d.gone none))
      (λ at e. chain-beside u.chains n id (option_map (on_shown shown_detached) (chain_at u.chains id)) (d.there at e).2.chains i (λ same. ne (sym same)))

  pub forgets-entry : (es' : List (List ℕ × ℕ)) → es' ≡ remove_entry (is_at (bytes_cmp p.key)) es → (AreEntries es u.chains → AreEntries es' n) → Forgets (p ∷ []) es es' u.chains n
  forgets-entry es' is entries = record {
    says = λ schema below h. l.says schema below id u.chains n d h;
    has = λ h. (let still = l.settled u.chains (λ i k there. subst (λ (o : Option KeptChain). IfSome o (λ q. IsSoundChain q.chain)) there (sound i)) h.one in record {
      are = entries h.are;
      one = l.one id u.chains n d h.one;
      used = l.used id u.chains n (λ k there. still id k there (its-kind h.are k there)) d h.used;
    });
    found = λ h key i e.
        let f = l.gone es p.key key h.are.ascend in
        let at : cond (eq_by_cmp bytes_cmp p.key key) None (entry_number es key) ≡ Some i = sym f ∙ ap (λ (x : List (List ℕ × ℕ)). entry_number x key) (sym is) ∙ e in
        either ((entry_number es key ≡ Some i) × AreOthers key (p ∷ [])) (eq_by_cmp bytes_cmp p.key key)
        (λ on. absurd (no_some i (sym (ap (λ b. cond b None (entry_number es key)) on) ∙ at)))
        (λ off. (sym (ap (λ b. cond b None (entry_number es key)) off) ∙ at, (differ key p.key off, tt)));
    bytes = (let e = l.bytes id u.chains n d in omega (arith, e));
    snapshots = l.snapshots id u.chains n d;
    lost = there-or-not _ (chain_at u.chains id) (λ none. let same = ap losses (d.gone none) in omega (arith, same)) (λ at e. let same = ap (λ (c : Counts). c.evicted + c.skipped) (d.there at e).2.counts in omega (arith, same));
    stays = λ h none key others i e on. (
        let at = ap (λ (x : List (List ℕ × ℕ)). entry_number x key) is ∙ l.gone es p.key key h.are.ascend ∙ ap (λ b. cond b None (entry_number es key)) (differ p.key key others.0) ∙ e in
        (at, λ k there. (k, other-still i (λ own. let t : true ≡ false = sym (key-itself key) ∙ ap (λ x. eq_by_cmp bytes_cmp key x) (h.are.apart key p.key i e (entry ∙ ap (λ j. Some j) own)) ∙ others.0 in absurd (cc)) ∙ there, same-content k)));
  }

  -- a memtable's chain is another one
  beside-detached : (schema : SchemaValue) (keys : List (List ℕ × ℕ)) (writes : List Write) → AreEntries es u.chains → HasWrites schema keys u.chains writes → (key : List ℕ) (i : ℕ) → chain_of keys key ≡ Some i → chain_at n i ≡ chain_at u.chains i
  beside-detached schema keys writes are h key i e = there-or-not _ (chain_at u.chains id)
      (λ none. ap (λ (x : Memory). chain_at x i) (d.gone none))
      (λ at there. let k = h.kept key i e in
      chain-beside u.chains n id (option_map (on_shown shown_detached) (chain_at u.chains id)) (d.there at there).2.chains i
      (λ same. not-both at.chain.kind (ap (λ (x : KeptChain). x.chain.kind) (same_some at k.0 (sym there ∙ ap (chain_at u.chains) (sym same) ∙ k.1)) ∙ k.2.kind) (its-kind are at there)))

  pub written-entry : AreEntries es u.chains → NothingIsLost u.chains n → ((schema : SchemaValue) (writes later : List Write) → ((key : List ℕ) (i : ℕ) → chain_of u.sealed key ≡ Some i → chain_at n i ≡ chain_at u.chains i) → ((key : List ℕ) (i : ℕ) → chain_of u.active key ≡ Some i → chain_at n i ≡ chain_at u.chains i) → HaveWrites schema u writes later → HaveWrites schema (in_chains n u) writes later) → KeepsWritten u (in_chains n u)
  written-entry are seen beside = record {
    stands = λ schema writes later h. beside schema writes later (beside-detached schema u.sealed writes are h.sealed) (beside-detached schema u.active later are h.active) h;
    seen = seen;
    budget = there-or-not _ (chain_at u.chains id) (λ none. ap (λ (x : Memory). length x.region.usages) (d.gone none)) (λ at e. (d.there at e).2.region.budget);
    counts = there-or-not _ (chain_at u.chains id) (λ none. counts-same u.chains n (ap (λ (x : Memory). x.counts) (d.gone none)) (ap (λ (x : Memory). x.region.moved) (d.gone none)))
        (λ at e. counts-same u.chains n (d.there at e).2.counts (d.there at e).2.region.moved);
  }

pub number-or-none : (P : Type 0) (o : Option ℕ) → (o ≡ None → P) → ((id : ℕ) → o ≡ Some id → P) → P
number-or-none P None none some = none refl
number-or-none P (Some id) none some = some id refl

-- ---- the first of several, as the code takes them apart

take-all : (n : ℕ) (ps : List Partition) → length ps ≤ n → take n ps ≡ ps
take-all zero [] h = refl
take-all (suc n) [] h = refl
take-all zero (p ∷ ps) h = absurd (omega (arith, h))
take-all (suc n) (p ∷ ps) h = ap (λ (qs : List Partition). p ∷ qs) (take-all n ps (omega (arith, h)))

pub forgets-next : (left : List Partition) (p : Partition) (a b c : List (List ℕ × ℕ)) (m n l : Memory) → p ≡ slice_index_or left 0 p → 1 ≤ length left → Forgets (p ∷ []) a b m n → Forgets (take (length left - 1) (drop 1 left)) b c n l → Forgets left a c m l
forgets-next [] p a b c m n l is long f g = absurd (omega (arith, long))
forgets-next (q ∷ qs) p a b c m n l is long f g =
    forgets-then q qs a b c m n l (subst (λ (x : Partition). Forgets (x ∷ []) a b m n) is f) (subst (λ (ps : List Partition). Forgets ps b c n l) (take-all (length (q ∷ qs) - 1) qs (omega arith)) g)

pub forgets-end : (left : List Partition) (es : List (List ℕ × ℕ)) (m : Memory) → length left < 1 → Forgets left es es m m
forgets-end [] es m short = forgets-none es m
forgets-end (p ∷ ps) es m short = absurd (omega (arith, short))
