-- One version of one chain changed, or put over the others: what becomes of that chain, and that the others are kept.
use Rattle.std.proofs.Common.{inl, inr, ◌≡◌, ◌⊎◌, ◌<◌, ◌+◌, ◌/◌, ℕ, suc, true, false, List, [], ◌∷◌, ◌++◌, Option, Some, None, length, refl, sym, ap, ◌∙◌, subst, slice_index_or, arith, length-append}
use Rattle.std.specs.Prelude.{Contains, IfSome, IsSomeAnd}
use Rattle.std.specs.Option.{option_map}
use Rattle.rc_position.specs.Position.{Head}
use Rattle.rc_position.specs.declared.positions.Pos.{Pos}
use Rattle.rc_schema.specs.SchemaValue.{SchemaValue}
use Rattle.rc_mutation.specs.declared.mutations.Mutation.{Mutation}
use Rattle.rc_writes.specs.Weight.{weight}
use Rattle.rc_core.specs.declared.entries.ChainKind.{ChainKind}
use Rattle.rc_core.specs.declared.entries.ChainKind.TheVariants.{Memtable}
use Rattle.rc_core.specs.declared.entries.Entry.{Entry}
use Rattle.rc_core.specs.AtPlace.{HasEntryAt}
use Rattle.rc_core.specs.Chains.{IsPinned, at_place, upto}
use Rattle.rc_core.specs.Continuity.{EachOf}
use Rattle.rc_core.specs.Steps.{IsChain, on_version, version_of}
use Rattle.rc_core.specs.declared.entries.Flag.TheVariants.{Inherit}
use Rattle.rc_core.specs.Version.{IsVersion, Version}
use Rattle.rc_core.specs.laws.Memtables.{left-alone}
use Rattle.rc_core.specs.laws.Surgery.{each-of-back}
use Rattle.rc_version.specs.Versions.{version_bytes}
use Rattle.rc_registry.specs.Registry.{put_at_number}
use Rattle.rc_memory.specs.Kept.{IsSoundChain}
use Rattle.rc_memory.specs.Memory.{HasVersion, KeptChain, Member, Memory, IsVersionAt, chain_at, on_chain, on_shown, on_version_of}
use Rattle.rc_memory.specs.Recency.{IsLastInner, IsUnderUpdate}
use Rattle.rc_memory.specs.Room.{FitTogether}
use Rattle.rc_memory.specs.Changes.{FitsChanged, IsRenewed, IsRenewedWhereNone, IsVersionChanged, KeepsLast, LastIsListed, OfVersion, member_at}
use Rattle.rc_memory.specs.laws.At.{number-there}
use Rattle.rc_memory.specs.laws.Listing.{pos_decided}
use Rattle.rc_memory.specs.laws.Places.{same_some}
use Rattle.rc_memory.specs.laws.Put.{put-at, put-beside}
use Rattle.rc_memory.specs.laws.Rules.{below_or_above}
use Rattle.rc_memory.specs.laws.Still.{still-then, still-wider, unmoved-then}
use Rattle.rc_chain.specs.Lives.{IsChainChanged, is_cache, with_version_over}
use Rattle.rc_chain.specs.laws.Numbered.{on-newest}
use Rattle.rc_chain.specs.laws.PlaceBeside.{shown-form}
use Rattle.rc_memtable.specs.Fits.{IsVersionUnder}
use Rattle.rc_memtable.specs.Changes.{KeepsChanges}
use Rattle.rc_memtable.specs.Steps.{AreOthersKept, IsGrown}
use Rattle.rc_memtable.specs.calls.Steps.{IsChangeWritten, chains_bytes}
use Rattle.rc_memtable.specs.calls.Writing.{IsFreeNewest, IsOpened}
use Rattle.rc_memtable.proofs.Grown.{DiffersBy, over-differs, version-differs}
use Rattle.rc_memtable.proofs.Kept.{over-below, over-kept}

-- ---- chains by number

-- what is done to a chain is done to the one of its number
pub chain-now : (m n : Memory) (id : ℕ) (f : KeptChain → KeptChain) (k : KeptChain) → n.chains ≡ on_chain id f m.chains → chain_at m id ≡ Some k → chain_at n id ≡ Some (f k)
chain-now m n id f k is there = ap (λ cs. slice_index_or cs id None) is ∙ put-at m.chains id (option_map f (chain_at m id)) ∙ ap (option_map f) there

pub chain-beside : (m n : Memory) (id : ℕ) (c : Option KeptChain) (i : ℕ) → n.chains ≡ put_at_number id c m.chains → (i ≡ id → ⊥) → chain_at n i ≡ chain_at m i
chain-beside m n id c i is ne = ap (λ cs. slice_index_or cs i None) is ∙ put-beside m.chains id c i ne

-- what holds of each chain holds of this one
pub of-chain : (P : KeptChain → Type 0) (o : Option KeptChain) (k : KeptChain) → o ≡ Some k → IfSome o P → P k
of-chain P o k there h = subst (λ (x : Option KeptChain). IfSome x P) there h

pub if-chain : (P : KeptChain → Type 0) (o : Option KeptChain) (k : KeptChain) → o ≡ Some k → P k → IfSome o P
if-chain P o k there h = subst (λ (x : Option KeptChain). IfSome x P) (sym there) h

pub is-chain : (P : KeptChain → Type 0) (o : Option KeptChain) (k : KeptChain) → o ≡ Some k → P k → IsSomeAnd o P
is-chain P o k there h = subst (λ (x : Option KeptChain). IsSomeAnd x P) (sym there) h

pub chain-is : (P : KeptChain → Type 0) (o : Option KeptChain) (k : KeptChain) → o ≡ Some k → IsSomeAnd o P → P k
chain-is P o k there h = subst (λ (x : Option KeptChain). IsSomeAnd x P) there h

-- ---- versions by number

numbered-each : (P : Version → Type 0) (vs : List Version) → ((j : ℕ) (v : Version) → IsVersionAt vs j v → P v) → EachOf P vs
numbered-each P [] h = tt
numbered-each P (v ∷ vs) h = (h 0 v (record { older = []; newer = vs; split = refl; number = refl }), numbered-each P vs (λ j w at. h (suc j) w (record { older = v ∷ at.older; newer = at.newer; split = ap (λ us. v ∷ us) at.split; number = ap suc at.number })))

pub each-at : (P : Version → Type 0) (vs : List Version) (j : ℕ) (v : Version) → EachOf P vs → IsVersionAt vs j v → P v
each-at P vs j v h at = (each-of-back P at.older (v ∷ at.newer) (subst (EachOf P) at.split h)).0

-- ---- whether a version has an entry at a position

entry-or-not : (x : Pos) (es : List Entry) → HasEntryAt x es ⊎ (HasEntryAt x es → ⊥)
entry-or-not x [] = inr (λ h. h)
entry-or-not x (e ∷ es) = elim (pos_decided e.position x) [
  | inl here ↦ inl (inl here)
  | inr ne ↦ elim (entry-or-not x es) [
    | inl later ↦ inl (inr later)
    | inr off ↦ inr (λ h. elim h [ inl here ↦ ne here | inr later ↦ off later ])
  ]
]

-- in a memtable's chain nothing is put into the list
unlisted : (kind : ChainKind) (w : Member) (old new : List Member) → kind ≡ Memtable → IsRenewed kind w old new → new ≡ old
unlisted kind w old new is h = subst (λ (k : ChainKind). IsRenewed k w old new) is h

twice-kept : (kind : ChainKind) (v : Version) (id j : ℕ) (x : Pos) (old new : List Member) → kind ≡ Memtable → IsRenewedWhereNone kind v (member_at id j (Some x)) old new → new ≡ old
twice-kept kind v id j x old new is h = elim (entry-or-not x v.entries) [ inl there ↦ h.there there | inr off ↦ unlisted kind (member_at id j (Some x)) old new is (h.made off) ]

-- ---- the other chains

pub kept-then : (id : ℕ) (m n o : Memory) → AreOthersKept id m n → AreOthersKept id n o → AreOthersKept id m o
kept-then id m n o a b = record {
  others = λ i ne. b.others i ne ∙ a.others i ne;
  recency = b.recency ∙ a.recency;
  dropped = b.dropped ∙ a.dropped;
  counts = b.counts ∙ a.counts;
  still = still-then (λ w. w.chain ≡ id) m n o a.still b.still;
  region = unmoved-then m.region n.region o.region a.region b.region;
}

changed-kept : (id j : ℕ) (f : Version → Version) (these : Member → Type 0) (m n : Memory) → ((w : Member) → these w → w.chain ≡ id) → IsVersionChanged id j f these m n → n.recency ≡ m.recency → AreOthersKept id m n
changed-kept id j f these m n own h list = record {
  others = λ i ne. chain-beside m n id (option_map (on_shown (on_version_of j f)) (chain_at m id)) i h.chains ne;
  recency = list;
  dropped = h.dropped;
  counts = h.counts;
  still = still-wider these (λ w. w.chain ≡ id) m n own h.still;
  region = h.region;
}

-- ---- a chain and its newest version, which nobody pins

pub grown-then : (a b c : KeptChain) → IsGrown a b → IsGrown b c → IsGrown a c
grown-then a b c g h = record {
  kind = h.kind ∙ g.kind;
  attached = h.attached ∙ g.attached;
  updating = h.updating ∙ g.updating;
  pins = h.pins ∙ g.pins;
  passed = h.passed ∙ g.passed;
  below = λ j on. h.below j (subst (λ (ps : List (Option ℕ)). IsPinned ps j) (sym g.pins) on) ∙ g.below j on;
}

module _ (m : Memory) (id : ℕ) (k : KeptChain) (there : chain_at m id ≡ Some k) (sound : (i : ℕ) → IfSome (chain_at m i) (λ k. IsSoundChain k.chain)) (versions : (i j : ℕ) → OfVersion m i j (λ k v. IsVersion v)) where
  pub its-sound : IsSoundChain k.chain
  its-sound = of-chain (λ k. IsSoundChain k.chain) (chain_at m id) k there (sound id)

  pub its-form : IsChain (at_place Head k.chain)
  its-form = shown-form Head k.chain its-sound (numbered-each IsVersion k.chain.versions (λ j v at. versions id j k v there at))

  module _ (j : ℕ) (newest : suc j ≡ length k.chain.versions) where
    pub its-number : HasVersion m id j
    its-number = is-chain (λ k. j < length k.chain.versions) (chain_at m id) k there (omega (arith, newest))

    -- what a snapshot sees is as it was, where it does not pin the newest version
    pub below-kept : (IsPinned k.chain.pins j → ⊥) → (f : Version → Version) (i : ℕ) → IsPinned k.chain.pins i → upto (on_version j f k.chain.versions) i ≡ upto k.chain.versions i
    below-kept free f i on = ap (λ vs. upto vs i) (on-newest j f k.chain.versions newest) ∙ left-alone (at_place Head k.chain) f j i newest
        (below_or_above i j (λ e. free (subst (IsPinned k.chain.pins) e on)) (suc i < length k.chain.versions) (λ l. omega (arith, l, newest)) (λ l. omega (arith, l, newest, its-sound.pins i on)))

    -- a write is there, and no other chain was touched
    pub written-there : (IsPinned k.chain.pins j → ⊥) → (S : ℕ) (schema : SchemaValue) (write : Mutation) (f : Version → Version) (these : Member → Type 0) (n : Memory) → ((w : Member) → these w → w.chain ≡ id) → IsVersionChanged id j f these m n → n.recency ≡ m.recency →
        ((changes : List Mutation) → KeepsChanges schema k.chain changes → KeepsChanges schema (on_version_of j f k.chain) (changes ++ write ∷ [])) → (more : ℕ) → weight write ≡ 512 + more → EachOf (λ v. DiffersBy more (S / 8) (version_bytes v) (version_bytes (f v))) k.chain.versions →
        IsChangeWritten S schema id write 512 m n
    written-there free S schema write f these n own h list keeps more heavy each = record {
      grown = λ q e. subst (λ (p : KeptChain). (n' : KeptChain) × (chain_at n id ≡ Some n') × IsGrown p n' × ((changes : List Mutation) → KeepsChanges schema p.chain changes → KeepsChanges schema n'.chain (changes ++ write ∷ [])))
          (same_some k q (sym there ∙ e))
          (on_shown (on_version_of j f) k, chain-now m n id (on_shown (on_version_of j f)) k h.chains there, record { kind = refl; attached = refl; updating = refl; pins = refl; passed = refl; below = below-kept free f }, keeps);
      others = changed-kept id j f these m n own h list;
      grows = let grown = both.0 in omega (arith, grown, heavy);
      shrinks = both.1;
    }
      where
        both : DiffersBy more (S / 8) (chains_bytes m) (chains_bytes n)
        both = version-differs m n id j f more (S / 8) k h.chains there each

    its-version : (v : Version) × IsVersionAt k.chain.versions j v
    its-version = number-there k.chain.versions j (omega (arith, newest))

    -- nothing is put into the list
    pub list-kept : k.chain.kind ≡ Memtable → (w : Member) (n : Memory) → OfVersion m id j (λ k v. IsRenewed k.chain.kind w m.recency n.recency) → n.recency ≡ m.recency
    list-kept memtable w n h = unlisted k.chain.kind w m.recency n.recency memtable (h k its-version.0 there its-version.1)

    pub range-list-kept : k.chain.kind ≡ Memtable → (from to : Pos) (n : Memory) →
        OfVersion m id j (λ k v. (mid : List Member) × IsRenewedWhereNone k.chain.kind v (member_at id j (Some from)) m.recency mid × IsRenewedWhereNone k.chain.kind v (member_at id j (Some to)) mid n.recency) → n.recency ≡ m.recency
    range-list-kept memtable from to n h = let r = h k its-version.0 there its-version.1 in
        twice-kept k.chain.kind its-version.0 id j to r.0 n.recency memtable r.2 ∙ twice-kept k.chain.kind its-version.0 id j from m.recency r.0 memtable r.1

    -- what holds of each version of a schema holds of this one
    pub of-fitting : (schema : SchemaValue) (P : Version → Type 0) → EachOf (IsVersionUnder schema) k.chain.versions → ((v : Version) → IsVersionUnder schema v → P v) → OfVersion m id j (λ q v. P v)
    of-fitting schema P fits h q v e at = h v (each-at (IsVersionUnder schema) k.chain.versions j v fits (subst (λ (p : KeptChain). IsVersionAt p.chain.versions j v) (sym (same_some k q (sym there ∙ e))) at))

    -- what fits still does
    pub fits-then : (S : ℕ) (f : Version → Version) → FitTogether S (on_version j f k.chain.versions) → FitsChanged S id j f m
    fits-then S f h = if-chain (λ k. FitTogether S (on_version j f k.chain.versions)) (chain_at m id) k there h

  module _ (settled : k.chain.updating ≡ false) where
    not-under : (j : ℕ) → IsUnderUpdate k.chain j → ⊥
    not-under j u = let e : false ≡ true = sym settled ∙ u.0 in absurd (cc)

    pub last-then : (j : ℕ) (f : Version → Version) → KeepsLast id j f m
    last-then j f = if-chain (λ k. (v : Version) → IsVersionAt k.chain.versions j v → IsUnderUpdate k.chain j → (at : Option Pos) → IsLastInner v at → IsLastInner (f v) at ⊎ Contains m.recency (member_at id j at)) (chain_at m id) k there (λ v at u. absurd (not-under j u))

    pub last-listed : LastIsListed id m
    last-listed q j v at e u = absurd (not-under j (subst (λ (p : KeptChain). IsUnderUpdate p.chain j) (sym (same_some k q (sym there ∙ e))) u))

    -- a version put over the others
    module _ (newest : ℕ) (last : suc newest ≡ length k.chain.versions) (n : Memory) (h : IsChainChanged id (on_shown (with_version_over 0)) m.recency m n) (memtable : k.chain.kind ≡ Memtable) where
      over-grown : IsGrown k (on_shown (with_version_over 0) k)
      over-grown = record { kind = refl; attached = refl; updating = over-settled; pins = refl; passed = refl; below = λ j on. over-below 0 j k.chain (its-sound.pins j on) }
        where
          over-settled : (with_version_over 0 k.chain).updating ≡ k.chain.updating
          over-settled = ap is_cache memtable ∙ sym settled

      over-free : IsFreeNewest (newest + 1) (with_version_over 0 k.chain)
      over-free = (omega (arith, last, length-append k.chain.versions (top ∷ [])), λ on. omega (arith, last, its-sound.pins (newest + 1) on))
        where
          top : Version
          top = version_of Inherit None 0

      pub opened-over : IsOpened id (newest + 1) m n
      opened-over = record {
        grown = λ q e. subst (λ (p : KeptChain). (n' : KeptChain) × (chain_at n id ≡ Some n') × IsGrown p n' × IsFreeNewest (newest + 1) n'.chain × ((schema : SchemaValue) (changes : List Mutation) → KeepsChanges schema p.chain changes → KeepsChanges schema n'.chain changes))
            (same_some k q (sym there ∙ e))
            (on_shown (with_version_over 0) k, chain-now m n id (on_shown (with_version_over 0)) k h.chains there, over-grown, over-free, λ schema changes keeps. over-kept schema k.chain newest last its-form changes keeps 0 settled);
        others = record {
          others = λ i ne. chain-beside m n id (option_map (on_shown (with_version_over 0)) (chain_at m id)) i h.chains ne;
          recency = h.recency;
          dropped = h.dropped;
          counts = h.counts;
          still = still-wider (λ w. ⊥) (λ w. w.chain ≡ id) m n (λ w no. absurd no) h.still;
          region = h.region;
        };
        grows = (over-differs m n id k h.chains there).0;
        keeps = let kept = (over-differs m n id k h.chains there).1 in omega (arith, kept);
      }

-- a write into a chain whose newest version nobody pins
pub opened-written : (S : ℕ) (schema : SchemaValue) (id number : ℕ) (change : Mutation) (m n o : Memory) → IsOpened id number m n → IsChangeWritten S schema id change 512 n o → IsChangeWritten S schema id change 360 m o
opened-written S schema id number change m n o a b = record {
  grown = λ k e. let p = a.grown k e in let q = b.grown p.0 p.1 in (q.0, q.1, grown-then k p.0 q.0 p.2 q.2, λ changes keeps. q.3 changes (p.4 schema changes keeps));
  others = kept-then id m n o a.others b.others;
  grows = let made = a.grows in let written = b.grows in omega (arith, made, written);
  shrinks = let made = a.keeps in let written = b.shrinks in omega (arith, made, written);
}
