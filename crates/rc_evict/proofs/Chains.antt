-- A chain without those of its objects that were evicted, one after another.
use Rattle.std.proofs.Common.{◌≡◌, ◌≢◌, ℕ, suc, ◌<◌, cond, List, [], ◌∷◌, ◌++◌, Option, Some, None, length, inl, inr, refl, sym, ap, ◌∙◌, subst, eq-eqb, ne_eqb, arith}
use Rattle.std.specs.Prelude.{AllPairs, Contains, IsSome, nat_eq}
use Rattle.std.proofs.lemmas.List.{length-append}
use Rattle.lsa_pool.specs.laws.Usages.{decided}
use Rattle.rc_mutation.specs.declared.mutations.Mutation.{Mutation}
use Rattle.rc_position.specs.declared.positions.Pos.{Pos}
use Rattle.rc_position.specs.Position.{Clustered, Place}
use Rattle.rc_core.specs.Chains.{IsChainContinuous, IsPinned, IsUpdating, Shown, at_place, phases, with_versions}
use Rattle.rc_core.specs.Continuity.{EachOf}
use Rattle.rc_core.specs.Steps.{IsChain, on_version}
use Rattle.rc_core.specs.Version.{IsVersion, Version}
use Rattle.rc_core.specs.laws.Evicting.{end-evicted-chain, entry-evicted-chain, statics-evicted-chain}
use Rattle.rc_core.specs.laws.Losing.{each-one}
use Rattle.rc_partition.specs.laws.Lists.{elem-first, elem-later, elem-left, once-cons, once-head, once-none, once-tail}
use Rattle.rc_memory.specs.Memory.{KeptChain, Member, IsVersionAt, on_shown, on_version_of}
use Rattle.rc_memory.specs.Recency.{HasObject, IsUnderUpdate, MayBeListed}
use Rattle.rc_memory.specs.laws.Listed.{one-at}
use Rattle.rc_memory.specs.laws.Recent.{on-at, on-beside, on-is}
use Rattle.rc_memory.specs.laws.Rules.{length-on}
use Rattle.rc_chain.specs.laws.Numbered.{said-alike}
use Rattle.rc_chain.specs.laws.PlaceBeside.{beside-true, updating-or-not}
use Rattle.rc_evict.specs.Evictions.{evicted_at, evicted_of}
use Rattle.rc_evict.proofs.Seen.{EachEvicted, each-itself, each-of-on, each-on, each-then}
use Rattle.rc_evict.proofs.Versions.{before-end, evicted-by, evicted-is, evicted-keeps, evicted-lost, evicted-phase}

-- ---- one object

-- a chain without an object, where it is its own
abbrev pub evicted_one : ℕ → Member → KeptChain → KeptChain
evicted_one id w k = cond (nat_eq w.chain id) (on_shown (on_version_of w.version (evicted_at w.position)) k) k

pub one-own : (id : ℕ) (w : Member) (k : KeptChain) → w.chain ≡ id → evicted_one id w k ≡ on_shown (on_version_of w.version (evicted_at w.position)) k
one-own id w k e = ap (λ b. cond b (on_shown (on_version_of w.version (evicted_at w.position)) k) k) (eq-eqb w.chain id e)

pub one-other : (id : ℕ) (w : Member) (k : KeptChain) → w.chain ≢ id → evicted_one id w k ≡ k
one-other id w k ne = ap (λ b. cond b (on_shown (on_version_of w.version (evicted_at w.position)) k) k) (ne_eqb w.chain id ne)

pub by-one : (P : KeptChain → Type 0) (id : ℕ) (w : Member) (k : KeptChain) → (w.chain ≡ id → P (on_shown (on_version_of w.version (evicted_at w.position)) k)) → (w.chain ≢ id → P k) → P (evicted_one id w k)
by-one P id w k own other = elim (decided w.chain id) [
  | inl e ↦ subst P (sym (one-own id w k e)) (own e)
  | inr ne ↦ subst P (sym (one-other id w k ne)) (other ne)
]

-- ---- what stays of its use

pub record IsSameUse (before now : KeptChain) : Type 0 where
  pub kind : now.chain.kind ≡ before.chain.kind
  pub attached : now.chain.attached ≡ before.chain.attached
  pub updating : now.chain.updating ≡ before.chain.updating
  pub pins : now.chain.pins ≡ before.chain.pins
  pub passed : now.passed ≡ before.passed
  pub count : length now.chain.versions ≡ length before.chain.versions
  pub phases : phases now.chain.versions ≡ phases before.chain.versions

pub same-use : (k : KeptChain) → IsSameUse k k
same-use k = record { kind = refl; attached = refl; updating = refl; pins = refl; passed = refl; count = refl; phases = refl }

same_use_then : (k l m : KeptChain) → IsSameUse k l → IsSameUse l m → IsSameUse k m
same_use_then k l m a b = record {
  kind = b.kind ∙ a.kind;
  attached = b.attached ∙ a.attached;
  updating = b.updating ∙ a.updating;
  pins = b.pins ∙ a.pins;
  passed = b.passed ∙ a.passed;
  count = b.count ∙ a.count;
  phases = b.phases ∙ a.phases;
}

pub use-changed : (j : ℕ) (at : Option Pos) (k : KeptChain) → IsSameUse k (on_shown (on_version_of j (evicted_at at)) k)
use-changed j at k = record {
  kind = refl;
  attached = refl;
  updating = refl;
  pins = refl;
  passed = refl;
  count = length-on j (evicted_at at) k.chain.versions;
  phases = said-alike (λ (v : Version). v.phase) (evicted_at at) (evicted-phase at) j k.chain.versions;
}

pub use-kept : (id : ℕ) (ws : List Member) (k : KeptChain) → IsSameUse k (evicted_of id ws k)
use-kept id [] k = same-use k
use-kept id (w ∷ ws) k = same_use_then k (evicted_one id w k) (evicted_of id ws (evicted_one id w k))
    (by-one (IsSameUse k) id w k (λ e. use-changed w.version w.position k) (λ ne. same-use k))
    (use-kept id ws (evicted_one id w k))

-- ---- lists of objects

pub untouched : (id : ℕ) (ws : List Member) (k : KeptChain) → ((w : Member) → Contains ws w → w.chain ≢ id) → evicted_of id ws k ≡ k
untouched id [] k none = refl
untouched id (w ∷ ws) k none = ap (evicted_of id ws) (one-other id w k (none w (elem-first w ws))) ∙ untouched id ws k (λ x on. none x (elem-later w x ws on))

pub evicted-append : (id : ℕ) (ws vs : List Member) (k : KeptChain) → evicted_of id (ws ++ vs) k ≡ evicted_of id vs (evicted_of id ws k)
evicted-append id [] vs k = refl
evicted-append id (w ∷ ws) vs k = evicted-append id ws vs (evicted_one id w k)

-- ---- its versions

pub record AreLost (before now : List Version) : Type 0 where
  pub are : EachOf IsVersion now
  pub lost : EachEvicted before now

pub versions-lost : (id : ℕ) (ws : List Member) (k : KeptChain) → EachOf IsVersion k.chain.versions → AreLost k.chain.versions (evicted_of id ws k).chain.versions
versions-lost id [] k are = record { are = are; lost = each-itself k.chain.versions }
versions-lost id (w ∷ ws) k are =
    let one = by-one (λ (x : KeptChain). AreLost k.chain.versions x.chain.versions) id w k
    (λ e. record { are = each-of-on w.version (evicted_at w.position) k.chain.versions (evicted-is w.position) are; lost = each-on w.version (evicted_at w.position) k.chain.versions (evicted-lost w.position) are })
    (λ ne. record { are = are; lost = each-itself k.chain.versions }) in
    let rest = versions-lost id ws (evicted_one id w k) one.are in
    record { are = rest.are; lost = each-then k.chain.versions (evicted_one id w k).chain.versions (evicted_of id ws (evicted_one id w k)).chain.versions one.lost rest.lost }

pub form-kept : (p : Place) (id : ℕ) (ws : List Member) (k : KeptChain) → IsChain (at_place p k.chain) → IsChain (at_place p (evicted_of id ws k).chain)
form-kept p id ws k ch =
    let u = use-kept id ws k in record {
      versions = (versions-lost id ws k ch.versions).are;
      pins = λ j on. subst (λ n. j < n) (sym u.count) (ch.pins j (subst (λ ps. IsPinned ps j) u.pins on));
      unpinned = λ up j on. subst (λ n. suc j < n) (sym u.count) (ch.unpinned (subst (λ b. IsUpdating (cond b (Some p) None)) u.updating up) j (subst (λ ps. IsPinned ps j) u.pins on));
    }

-- ---- what may be evicted

-- the object is not the entry at the place of the update that stands in the chain
abbrev pub IsOffPlace : Place → Shown → Member → Type 0
IsOffPlace p c w = (x : Pos) → p ≡ Clustered x → IsUnderUpdate c w.version → w.position ≢ Some x

-- another object is there still, and may be evicted next
may-stay : (c : Shown) (j i : ℕ) (at other : Option Pos) → MayBeListed c j at → MayBeListed c i other → (i ≡ j → other ≢ at) → MayBeListed (on_version_of j (evicted_at at) c) i other
may-stay c j i at other a b apart = elim (decided i j) [
  | inl e ↦
      let same : b.version ≡ a.version = one-at c.versions j b.version a.version (subst (λ n. IsVersionAt c.versions n b.version) e b.number) a.number in record {
        cached = b.cached;
        version = evicted_at at a.version;
        number = subst (λ n. IsVersionAt (on_version j (evicted_at at) c.versions) n (evicted_at at a.version)) (sym e) (on-at c.versions j a.version (evicted_at at) a.number);
        object = evicted-keeps at other a.version (apart e) (subst (λ v. HasObject v other) same b.object);
        settled = λ u. b.settled (u.0, u.1 ∙ length-on j (evicted_at at) c.versions);
      }
  | inr ne ↦ record {
    cached = b.cached;
    version = b.version;
    number = on-beside c.versions j a.version (evicted_at at) a.number i b.version ne b.number;
    object = b.object;
    settled = λ u. b.settled (u.0, u.1 ∙ length-on j (evicted_at at) c.versions);
  }
]

-- ---- one eviction keeps continuity

none_row : {A : Type 0} (o : Option A) → IsSome o → o ≡ None → ⊥
none_row {A} o h e = let u : IsSome {T = A} None = subst IsSome e h in cc u

object_at : (v : Version) (at other : Option Pos) → at ≡ other → HasObject v at → HasObject v other
object_at v at other e h = subst (HasObject v) e h

module _ (below : ℕ → List Mutation) (p : Place) (c : Shown) (j : ℕ) (at : Option Pos) (may : MayBeListed c j at) (is : IsVersion may.version) (off : (x : Pos) → p ≡ Clustered x → IsUnderUpdate c j → at ≢ Some x) (k : IsChainContinuous below (at_place p c)) where
  older : List Version
  older = may.number.older

  newer : List Version
  newer = may.number.newer

  last : may.number.newer ≡ [] → suc j ≡ length c.versions
  last none =
      let long : length c.versions ≡ length (may.number.older ++ (may.version ∷ may.number.newer)) = ap length may.number.split in
      let few : length may.number.newer ≡ 0 = ap length none in
      omega (arith, long, few, length-append may.number.older (may.version ∷ may.number.newer), may.number.number)

  at_place_now : may.number.newer ≡ [] → (x : Pos) → at ≡ Some x → (at_place p c).updating ≡ Some (Clustered x) → ⊥
  at_place_now none x here e = updating-or-not ⊥ c.updating
      (λ u. let s : Some p ≡ Some (Clustered x) = sym (ap (λ b. cond b (Some p) None) u) ∙ e in off x (cc s) (u, last none) here)
      (λ u. let s : ◌≡◌ {A = Option Place} None (Some (Clustered x)) = sym (ap (λ b. cond b (Some p) None) u) ∙ e in cc s)

  abbrev IsKeptWith : Version → Type 0
  IsKeptWith w = IsChainContinuous below (with_versions (may.number.older ++ (w ∷ may.number.newer)) (at_place p c))

  pub one-continuous : IsChainContinuous below (at_place p (on_version_of j (evicted_at at) c))
  one-continuous =
      subst (λ vs. IsChainContinuous below (with_versions vs (at_place p c))) (sym (on-is c.versions j may.version (evicted_at at) may.number))
      (evicted-by IsKeptWith at may.version
      (λ e. statics-evicted-chain below (at_place p c) may.number.older may.number.newer may.version may.number.split k (none_row may.version.statics (object_at may.version at None e may.object)))
      (λ e. end-evicted-chain below (at_place p c) may.number.older may.number.newer may.version may.number.split k (λ none up. may.settled (beside-true c.updating p up, last none) e))
      (λ x e inner. entry-evicted-chain below (at_place p c) may.number.older may.number.newer may.version may.number.split k x is (object_at may.version at (Some x) e may.object) (before-end x inner) (λ none. at_place_now none x e)))

-- ---- all of them

-- the front of a list in which each stands once
pub once-left : (ws vs : List Member) → AllPairs ◌≢◌ (ws ++ vs) → AllPairs ◌≢◌ ws
once-left [] vs once = once-none
once-left (w ∷ ws) vs once = once-cons w ws (λ on. once-head w (ws ++ vs) once (elem-left ws vs w on)) (once-left ws vs (once-tail w (ws ++ vs) once))

version_among : (c : Shown) (j : ℕ) (v : Version) → EachOf IsVersion c.versions → IsVersionAt c.versions j v → IsVersion v
version_among c j v are at = each-one IsVersion at.older at.newer v (subst (EachOf IsVersion) at.split are)

-- objects of a chain may be evicted, none of which is the entry at the update's place
pub record MayGo (p : Place) (id : ℕ) (ws : List Member) (k : KeptChain) : Type 0 where
  pub are : EachOf IsVersion k.chain.versions
  pub may : (w : Member) → Contains ws w → w.chain ≡ id → MayBeListed k.chain w.version w.position
  pub off : (w : Member) → Contains ws w → w.chain ≡ id → IsOffPlace p k.chain w

apart_of : (w x : Member) (id : ℕ) → w.chain ≡ id → x.chain ≡ id → w ≢ x → x.version ≡ w.version → x.position ≢ w.position
apart_of w x id a b ne v same = ne (λ i. record { chain = (a ∙ sym b) i; version = sym v i; position = sym same i })

go_next : (p : Place) (id : ℕ) (w : Member) (ws : List Member) (k : KeptChain) → AllPairs ◌≢◌ (w ∷ ws) → MayGo p id (w ∷ ws) k → MayGo p id ws (evicted_one id w k)
go_next p id w ws k once h = by-one (MayGo p id ws) id w k
    (λ e. record {
      are = each-of-on w.version (evicted_at w.position) k.chain.versions (evicted-is w.position) h.are;
      may = λ x on own. may-stay k.chain w.version x.version w.position x.position (h.may w (elem-first w ws) e) (h.may x (elem-later w x ws on) own)
          (apart_of w x id e own (λ same. once-head w ws once (subst (Contains ws) (sym same) on)));
      off = λ x on own y is up. h.off x (elem-later w x ws on) own y is (up.0, up.1 ∙ length-on w.version (evicted_at w.position) k.chain.versions);
    })
    (λ ne. record {
      are = h.are;
      may = λ x on. h.may x (elem-later w x ws on);
      off = λ x on. h.off x (elem-later w x ws on);
    })

pub all-continuous : (below : ℕ → List Mutation) (p : Place) (id : ℕ) (ws : List Member) (k : KeptChain) → AllPairs ◌≢◌ ws → MayGo p id ws k → IsChainContinuous below (at_place p k.chain) → IsChainContinuous below (at_place p (evicted_of id ws k).chain)
all-continuous below p id [] k once h c = c
all-continuous below p id (w ∷ ws) k once h c =
    all-continuous below p id ws (evicted_one id w k) (once-tail w ws once) (go_next p id w ws k once h)
    (by-one (λ (x : KeptChain). IsChainContinuous below (at_place p x.chain)) id w k
    (λ e. let may = h.may w (elem-first w ws) e in one-continuous below p k.chain w.version w.position may (version_among k.chain w.version may.version h.are may.number) (h.off w (elem-first w ws) e) c)
    (λ ne. c))
