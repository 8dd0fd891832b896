-- A memtable's chain goes, object by object.
use Rattle.std.proofs.Common.{inl, inr, ◌≡◌, ◌⊎◌, ◌<◌, ◌+◌, ℕ, zero, suc, true, false, List, [], ◌∷◌, ◌++◌, Option, Some, None, is_some, length, map, refl, sym, ap, ◌∙◌, subst, slice_index_or, arith}
use Rattle.std.specs.Prelude.{Contains, IsSomeAnd}
use Rattle.std.specs.Option.{option_map}
use Rattle.lsa_region.specs.Region.{live_bytes}
use Rattle.rc_position.specs.declared.positions.Pos.{Pos}
use Rattle.rc_core.specs.declared.entries.ChainKind.TheVariants.{Cache, Memtable}
use Rattle.rc_core.specs.AtPlace.{HasEntryAt}
use Rattle.rc_core.specs.Free.{free_entry, free_statics}
use Rattle.rc_core.specs.Steps.{all_but, number_after_removal, on_version}
use Rattle.rc_core.specs.Version.{IsVersion, Version, end_position}
use Rattle.rc_units.specs.Chained.{objects_of}
use Rattle.rc_partition.specs.laws.Lists.{elem-first, elem-here, elem-later}
use Rattle.rc_registry.specs.Registry.{AreFree, put_at_number}
use Rattle.rc_memory.specs.Kept.{IsSoundChain}
use Rattle.rc_memory.specs.Memory.{KeptChain, Member, Memory, IsVersionAt, chain_at, on_chain, on_shown, on_version_of, renumbered_member, shown_without}
use Rattle.rc_memory.specs.Recency.{IsRecency, MayBeListed}
use Rattle.rc_memory.specs.Changes.{IsUnmoved, IsWithout, OfVersion, member_at}
use Rattle.rc_memory.specs.laws.Dropped.{renumbered-other}
use Rattle.rc_memory.specs.laws.Places.{same_some}
use Rattle.rc_memory.specs.laws.Put.{put-at, put-same}
use Rattle.rc_memory.specs.laws.Versions.{all-but-is}
use Rattle.rc_chain.specs.Lives.{IsEntryFreed, IsLastDropped, IsOneFreed, IsStaticFreed, IsVersionDropped}
use Rattle.rc_memtable.specs.LetGo.{IsGone}
use Rattle.rc_memtable.specs.calls.Steps.{chains_bytes}
use Rattle.rc_memtable.proofs.Grown.{gone-less}
use Rattle.rc_memtable.proofs.Steps.{chain-now}

-- ---- lists

pub put-put : {X : Type 0} (xs : List (Option X)) (n : ℕ) (a b : Option X) → put_at_number n a (put_at_number n b xs) ≡ put_at_number n a xs
put-put [] zero a b = refl
put-put [] (suc n) a b = ap (λ l. None ∷ l) (put-put [] n a b)
put-put (x ∷ xs) zero a b = refl
put-put (x ∷ xs) (suc n) a b = ap (λ l. x ∷ l) (put-put xs n a b)

mapped-same : (g : Member → Member) (ws : List Member) → ((w : Member) → Contains ws w → g w ≡ w) → map g ws ≡ ws
mapped-same g [] same = refl
mapped-same g (w ∷ ws) same = let one = same w (elem-first w ws) in let rest = mapped-same g ws (λ x on. same x (elem-later w x ws on)) in λ i. one i ∷ rest i

free-renumbered : (ps : List (Option ℕ)) → AreFree ps → AreFree (map (option_map (number_after_removal 0)) ps)
free-renumbered [] free j on = absurd on
free-renumbered (None ∷ ps) free j (inl e) = cc e
free-renumbered (Some p ∷ ps) free j (inl e) = free p (inl refl)
free-renumbered (p ∷ ps) free j (inr on) = free-renumbered ps (λ i k. free i (inr k)) j on

first-gone : (vs : List Version) → 0 < length vs → (v : Version) × (rest : List Version) × (vs ≡ v ∷ rest) × (all_but 0 vs ≡ rest)
first-gone [] h = absurd (omega (arith, h))
first-gone (v ∷ vs) h = (v, vs, refl, all-but-is [] v vs 0 refl)

-- what is below one more is below, or is it
pub below-or : (j n : ℕ) → j < n + 1 → (j < n) ⊎ (j ≡ n)
below-or zero zero h = inr refl
below-or zero (suc n) h = inl (omega arith)
below-or (suc j) zero h = absurd (omega (arith, h))
below-or (suc j) (suc n) h = elim (below-or j n (omega (arith, h))) [ inl low ↦ inl (omega (arith, low)) | inr same ↦ inr (ap suc same) ]

-- ---- what is freed

-- how many objects a chain has, where it is there
abbrev pub objects_left : Option KeptChain → ℕ
objects_left None = zero
objects_left (Some k) = objects_of k.chain.versions

-- a memtable's chain that nobody finds or reads
abbrev pub IsLeft : KeptChain → Type 0
IsLeft k = (k.chain.kind ≡ Memtable) × (k.chain.attached ≡ false) × AreFree k.chain.pins

-- the chains are these, and so are the numbers to be told, before it is said how much is live
pub record IsLeaving (those : List (Option KeptChain)) (told : List ℕ) (old new : Memory) : Type 0 where
  pub chains : new.chains ≡ those
  pub dropped : new.dropped ≡ told
  pub recency : new.recency ≡ old.recency
  pub counts : new.counts ≡ old.counts
  pub budget : length new.region.usages ≡ length old.region.usages
  pub moved : new.region.moved ≡ old.region.moved

-- a chain is gone, before it is said how much is live
abbrev pub HasGone : ℕ → Memory → Memory → Type 0
HasGone id old new = IsLeaving (put_at_number id None old.chains) (old.dropped ++ id ∷ []) old new

-- the chain is there with fewer objects, or it is gone
pub record IsThere (id : ℕ) (old now : Memory) : Type 0 where
  pub chain : KeptChain
  pub there : chain_at now id ≡ Some chain
  pub left : IsLeft chain
  pub others : IsLeaving (put_at_number id (Some chain) old.chains) old.dropped old now

abbrev pub IsFreeing : ℕ → Memory → Memory → Type 0
IsFreeing id old now = IsThere id old now ⊎ HasGone id old now

some-chain : (P : KeptChain → Type 0) (o : Option KeptChain) → IsSomeAnd o P → (k : KeptChain) × (o ≡ Some k) × P k
some-chain P None h = absurd h
some-chain P (Some k) h = (k, refl, h)

pub freeing-start : (id : ℕ) (m : Memory) → IsSomeAnd (chain_at m id) IsLeft → IsFreeing id m m
freeing-start id m h = let k = some-chain IsLeft (chain_at m id) h in
    inl (record { chain = k.0; there = k.1; left = k.2; others = record { chains = sym (put-same m.chains id k.0 k.1); dropped = refl; recency = refl; counts = refl; budget = refl; moved = refl } })

-- where the chain is no longer there it is gone
over-left : (id : ℕ) (old now : Memory) → IsFreeing id old now → false ≡ is_some (chain_at now id) → HasGone id old now
over-left id old now (inl t) none = let e : false ≡ true = none ∙ ap is_some t.there in absurd (cc)
over-left id old now (inr gone) none = gone

pub freeing-over : (id : ℕ) (old now : Memory) → live_bytes old.region ≡ chains_bytes old → live_bytes now.region ≡ chains_bytes now → IsFreeing id old now → false ≡ is_some (chain_at now id) → IsGone id old now
freeing-over id old now live live_now freeing none = let g = over-left id old now freeing none in record {
  chains = g.chains;
  dropped = g.dropped;
  recency = g.recency;
  counts = g.counts;
  budget = g.budget;
  moved = g.moved;
  live = let less = gone-less old now id g.chains in omega (arith, less, live, live_now);
}

gone-nothing : (id : ℕ) (old now : Memory) → HasGone id old now → chain_at now id ≡ None
gone-nothing id old now g = ap (λ cs. slice_index_or cs id None) g.chains ∙ put-at old.chains id None

pub freeing-there : (id : ℕ) (old now : Memory) → IsFreeing id old now → true ≡ is_some (chain_at now id) → IsThere id old now
freeing-there id old now (inl t) some = t
freeing-there id old now (inr gone) some = let e : true ≡ false = some ∙ ap is_some (gone-nothing id old now gone) in absurd (cc)

module _ (id : ℕ) (old now : Memory) (t : IsThere id old now) (rule : IsRecency now) where
  -- nothing of it is in the list
  unlisted : (w : Member) → w.chain ≡ id → Contains now.recency w → ⊥
  unlisted w at on =
      let may = some-chain (λ k. MayBeListed k.chain w.version w.position) (chain_at now w.chain) (rule.members w on) in
      let same = same_some may.0 t.chain (sym may.1 ∙ ap (λ i. chain_at now i) at ∙ t.there) in
      let e : Memtable ≡ Cache = sym t.left.0 ∙ ap (λ (k : KeptChain). k.chain.kind) (sym same) ∙ may.2.cached in absurd (cc)

  list-stays : (w : Member) (list : List Member) → w.chain ≡ id → IsWithout w now.recency list → list ≡ now.recency
  list-stays w list at (inl off) = off.1
  list-stays w list at (inr on) = absurd (unlisted w at (subst (λ l. Contains l w) (sym on.2) (elem-here on.0 on.1 w)))

  -- the oldest version
  first : IsSoundChain t.chain.chain → (v : Version) × (rest : List Version) × (t.chain.chain.versions ≡ v ∷ rest) × (all_but 0 t.chain.chain.versions ≡ rest)
  first sound = first-gone t.chain.chain.versions sound.some

  module _ (new : Memory) where
    -- something of the chain changed
    then-there : (f : KeptChain → KeptChain) → IsLeft (f t.chain) → new.chains ≡ on_chain id f now.chains → new.dropped ≡ now.dropped → new.counts ≡ now.counts → new.recency ≡ now.recency → IsUnmoved now.region new.region → IsThere id old new
    then-there f left chains dropped counts list still = record {
      chain = f t.chain;
      there = chain-now now new id f t.chain chains t.there;
      left = left;
      others = record {
        chains = chains ∙ ap (λ o. put_at_number id (option_map f o) now.chains) t.there ∙ ap (put_at_number id (Some (f t.chain))) t.others.chains ∙ put-put old.chains id (Some (f t.chain)) (Some t.chain);
        dropped = dropped ∙ t.others.dropped;
        recency = list ∙ t.others.recency;
        counts = counts ∙ t.others.counts;
        budget = still.budget ∙ t.others.budget;
        moved = still.moved ∙ t.others.moved;
      };
    }

    entry-then : IsEntryFreed id now new → IsThere id old new
    entry-then e = let c = e.changed t.chain t.there in then-there (on_shown (on_version_of 0 (free_entry t.chain.chain.kind e.at))) t.left c.chains c.dropped c.counts (list-stays (member_at id 0 (Some e.at)) new.recency refl e.recency) c.region

    static-then : IsStaticFreed id now new → IsThere id old new
    static-then e = let c = e.changed t.chain t.there in then-there (on_shown (on_version_of 0 (free_statics t.chain.chain.kind))) t.left c.chains c.dropped c.counts (list-stays (member_at id 0 None) new.recency refl e.recency) c.region

    version-then : IsVersionDropped id 0 now new → IsThere id old new
    version-then d = then-there (on_shown (shown_without 0)) (t.left.0, t.left.1, free-renumbered t.chain.chain.pins t.left.2) d.chains d.dropped d.counts
        (d.recency.2 ∙ ap (map (renumbered_member id 0)) (list-stays (member_at id 0 (Some end_position)) d.recency.0 refl d.recency.1)
        ∙ mapped-same (renumbered_member id 0) now.recency (λ w on. renumbered-other id 0 w (λ at. unlisted w at on))) d.region

    last-then : IsLastDropped id now new → HasGone id old new
    last-then d = record {
      chains = d.dropped.chains ∙ ap (put_at_number id None) t.others.chains ∙ put-put old.chains id None (Some t.chain);
      dropped = d.dropped.dropped ∙ ap (λ ns. ns ++ id ∷ []) t.others.dropped;
      recency = d.dropped.recency ∙ list-stays (member_at id 0 (Some end_position)) d.list refl d.recency ∙ t.others.recency;
      counts = d.dropped.counts ∙ t.others.counts;
      budget = d.dropped.region.budget ∙ t.others.budget;
      moved = d.dropped.region.moved ∙ t.others.moved;
    }

    pub freeing-step : IsOneFreed id now new → IsFreeing id old new
    freeing-step (inl e) = inl (entry-then e)
    freeing-step (inr (inl e)) = inl (static-then e)
    freeing-step (inr (inr d)) = elim d.1 [ inl v ↦ inl (version-then v) | inr last ↦ inr (last-then last) ]

    -- fewer objects are left
    module _ (sound : IsSoundChain t.chain.chain) (versions : (i j : ℕ) → OfVersion now i j (λ k v. IsVersion v))
        (entry : (v : Version) (back : List Version) (x : Pos) → HasEntryAt x v.entries → objects_of (free_entry t.chain.chain.kind x v ∷ back) < objects_of (v ∷ back))
        (statics : (v : Version) (back : List Version) → (v.statics ≡ None → ⊥) → objects_of (free_statics t.chain.chain.kind v ∷ back) < objects_of (v ∷ back))
        (version : (v : Version) (back : List Version) → IsVersion v → objects_of back < objects_of (v ∷ back)) where
      at-first : (f : (v : Version) × (rest : List Version) × (t.chain.chain.versions ≡ v ∷ rest) × (all_but 0 t.chain.chain.versions ≡ rest)) → IsVersionAt t.chain.chain.versions 0 f.0
      at-first f = record { older = []; newer = f.1; split = f.2; number = refl }

      before : (f : (v : Version) × (rest : List Version) × (t.chain.chain.versions ≡ v ∷ rest) × (all_but 0 t.chain.chain.versions ≡ rest)) → objects_left (chain_at now id) ≡ objects_of (f.0 ∷ f.1)
      before f = ap objects_left t.there ∙ ap objects_of f.2

      changed-less : (g : Version → Version) → chain_at new id ≡ Some (on_shown (on_version_of 0 g) t.chain) → (f : (v : Version) × (rest : List Version) × (t.chain.chain.versions ≡ v ∷ rest) × (all_but 0 t.chain.chain.versions ≡ rest)) →
          objects_of (g f.0 ∷ f.1) < objects_of (f.0 ∷ f.1) → objects_left (chain_at new id) < objects_left (chain_at now id)
      changed-less g there f less =
          let a : objects_left (chain_at new id) ≡ objects_of (g f.0 ∷ f.1) = ap objects_left there ∙ ap (λ vs. objects_of (on_version 0 g vs)) f.2 in
          let b = before f in omega (arith, a, b, less)

      pub freeing-less : IsOneFreed id now new → objects_left (chain_at new id) < objects_left (chain_at now id)
      unfolding entry-then then-there static-then version-then
      freeing-less (inl e) = let f = first sound in
          changed-less (free_entry t.chain.chain.kind e.at) (entry-then e).there f (entry f.0 f.1 e.at (e.there t.chain f.0 t.there (at-first f)))
      freeing-less (inr (inl e)) = let f = first sound in
          changed-less (free_statics t.chain.chain.kind) (static-then e).there f (statics f.0 f.1 (λ none. let s : false ≡ true = sym (ap is_some none) ∙ e.there t.chain f.0 t.there (at-first f) in absurd (cc)))
      freeing-less (inr (inr d)) = let f = first sound in let less = version f.0 f.1 (versions id 0 t.chain f.0 t.there (at-first f)) in let b = before f in elim d.1 [
        | inl v ↦ (let a : objects_left (chain_at new id) ≡ objects_of f.1 = ap objects_left (version-then v).there ∙ ap objects_of f.3 in omega (arith, a, b, less))
        | inr last ↦ (let a : objects_left (chain_at new id) ≡ 0 = ap objects_left (gone-nothing id old new (last-then last)) in omega (arith, a, b, less))
      ]
