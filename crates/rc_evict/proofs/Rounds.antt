-- Room that is made by moves and evictions, one after another.
use Rattle.std.proofs.Common.{◌≡◌, ℕ, ◌+◌, ◌-◌, ◌*◌, ◌/◌, ◌<◌, ◌≤◌, le_refl, List, [], ◌∷◌, ◌++◌, length, inl, inr, refl, sym, ap, ◌∙◌, subst, slice_index_or, arith}
use Rattle.std.specs.Prelude.{Contains, IfNone, IfSome, IsSomeAnd, Option, Some, None, is_some, sum_by, true}
use Rattle.lsa_pool.specs.Room.{spare_of}
use Rattle.lsa_region.specs.Region.{Renamed, View, live_bytes}
use Rattle.lsa_store.specs.declared.place.Ref.{Ref}
use Rattle.rc_memory.specs.declared.counts.Counts.{Counts}
use Rattle.rc_memory.specs.Memory.{IsUntouched, KeptChain, Member, Memory, chain_at}
use Rattle.rc_memory.specs.Recency.{MayBeListed}
use Rattle.rc_memory.specs.Changes.{member_at}
use Rattle.rc_chain.specs.Lives.{IsIdle}
use Rattle.rc_evict.specs.declared.evicting.Evicted.{Evicted}
use Rattle.rc_evict.specs.Crowding.{IsCrowded, IsNearlyFull, LosesWhereCrowded, version_count, versions_of}
use Rattle.rc_evict.specs.laws.Crowds.{crowded-last, loses-after, loses-nothing, loses-same}
use Rattle.rc_evict.specs.Evictions.{AreEvicted, IsOneEvicted, IsRoomMade}
use Rattle.rc_memory.specs.Kept.{present}
use Rattle.rc_evict.proofs.Together.{both-evicted, none-evicted, some-of}

-- room as it was made since a moment, and that nothing changed where so much was spare
pub record IsRound (S need : ℕ) (old now : Memory) : Type 0 where
  pub room : IsRoomMade S old now
  pub idle : need ≤ spare_of S old.region.usages → now ≡ old

same-memory : (m : Memory) → IsUntouched m m
same-memory m = record { chains = refl; recency = refl; dropped = refl; counts = refl }

pub room-start : (S need : ℕ) (m : Memory) → IsRound S need m m
room-start S need m = record {
  room = record {
    went = [];
    gone = [];
    evicted = none-evicted m m (same-memory m);
    crowded = inl refl;
    loses = loses-nothing S m;
    budget = refl;
    live = le_refl (live_bytes m.region);
    moved = le_refl m.region.moved;
    counted = le_refl m.counts.evicted;
    skipped = refl;
    shrunk = refl;
  };
  idle = λ enough. refl;
}

-- objects moved
evicted_moved : (went : List Member) (gone : List ℕ) (old mid new : Memory) → AreEvicted went gone old mid → IsUntouched mid new → AreEvicted went gone old new
evicted_moved went gone old mid new a u = record {
  recency = a.recency ∙ ap (λ l. went ++ l) (sym u.recency);
  chains = λ id off. ap (λ cs. slice_index_or cs id None) u.chains ∙ a.chains id off;
  absent = λ id on. ap (λ cs. slice_index_or cs id None) u.chains ∙ a.absent id on;
  idle = λ id on. idle_moved id (chain_at old id) (a.idle id on);
  cause = a.cause;
  kept = λ w k on off there i. a.kept w k on off there (record { cached = i.cached; settled = i.settled; unpinned = i.unpinned; unlisted = λ j at listed. i.unlisted j at (subst (λ l. Contains l (member_at w.chain j at)) (sym u.recency) listed) });
  once = a.once;
  dropped = u.dropped ∙ a.dropped;
  counts = u.counts ∙ a.counts;
}
  where
    idle_moved : (id : ℕ) (o : Option KeptChain) → IsSomeAnd o (λ k. IsIdle mid id k.chain) → IsSomeAnd o (λ k. IsIdle new id k.chain)
    idle_moved id None h = h
    idle_moved id (Some k) i = record { cached = i.cached; settled = i.settled; unpinned = i.unpinned; unlisted = λ j at listed. i.unlisted j at (subst (λ l. Contains l (member_at id j at)) u.recency listed) }

moved_sum : (least less a b u v w h i j : ℕ) → least + 152 * u + h < a + less + 152 * (w + 0) + i → b ≡ a → v ≡ u → j ≡ i → least + 152 * v + h < b + less + 152 * (w + 0) + j
moved_sum least less a b u v w h i j c p q r = omega (arith, c, p, q, r)

module _ (S need : ℕ) (old now mid : Memory) (r : IsRound S need old now) (u : IsUntouched now mid) (names : List (Ref × Ref)) (renamed : Renamed now.region mid.region names) (up : now.region.moved ≤ mid.region.moved) where
  moved_loses : LosesWhereCrowded S 0 now mid
  moved_loses = loses-same S now mid renamed.budget renamed.live (ap (λ cs. sum_by version_count (present cs)) u.chains) u.counts

  -- objects moved after the region was crowded
  crowded_moved : IsCrowded S (S / 8) 0 old now → IsCrowded S (S / 8) 0 old mid
  crowded_moved c =
      let live = renamed.live in
      let versions = ap (λ cs. sum_by version_count (present cs)) u.chains in
      let shrunk = ap (λ (c : Counts). c.shrunk) u.counts in
      subst (λ n. 3 * S / 4 * (n - 2) + 152 * versions_of mid + old.counts.shrunk < live_bytes mid.region + S / 8 + 152 * (versions_of old + 0) + mid.counts.shrunk) (sym renamed.budget)
      (moved_sum (3 * S / 4 * (length now.region.usages - 2)) (S / 8) (live_bytes now.region) (live_bytes mid.region) (versions_of now) (versions_of mid) (versions_of old) old.counts.shrunk now.counts.shrunk mid.counts.shrunk c live versions shrunk)

  made_moved : IsRoomMade S old mid
  made_moved = let h = r.room in record {
    went = h.went;
    gone = h.gone;
    evicted = evicted_moved h.went h.gone old now mid h.evicted u;
    crowded = elim h.crowded [ inl none ↦ inl none | inr c ↦ inr (crowded_moved c) ];
    loses = loses-after S 0 old now mid h.loses moved_loses;
    budget = renamed.budget ∙ h.budget;
    live = let same = renamed.live in let less = h.live in omega (arith, same, less);
    moved = let more = h.moved in omega (arith, more, up);
    counted = subst (λ (c : Counts). old.counts.evicted ≤ c.evicted) (sym u.counts) h.counted;
    skipped = ap (λ (c : Counts). c.skipped) u.counts ∙ h.skipped;
    shrunk = ap (λ (c : Counts). c.shrunk) u.counts ∙ h.shrunk;
  }

  pub room-moved : (need ≤ spare_of S now.region.usages → mid ≡ now) → IsRound S need old mid
  room-moved idle = record {
    room = made_moved;
    idle = λ enough. let same = r.idle enough in idle (subst (λ (m : Memory). need ≤ spare_of S m.region.usages) (sym same) enough) ∙ same;
  }

  -- where there is no room then, there was none at first
  pub room-short : (need ≤ spare_of S now.region.usages → mid ≡ now) → spare_of S mid.region.usages < need → need ≤ spare_of S old.region.usages → ⊥
  room-short idle few enough =
      let same : mid ≡ old = (room-moved idle).idle enough in let spare = ap (λ (m : Memory). spare_of S m.region.usages) same in omega (arith, few, enough, spare)

-- what one eviction leaves of the region and of the counts
pub record IsLessThen (old new : Memory) : Type 0 where
  pub budget : length new.region.usages ≡ length old.region.usages
  pub live : live_bytes new.region ≤ live_bytes old.region
  pub moved : new.region.moved ≡ old.region.moved
  pub counted : old.counts.evicted ≤ new.counts.evicted
  pub versions : versions_of new ≤ versions_of old
  pub shrunk : new.counts.shrunk ≡ old.counts.shrunk

fewer_still : (u v : ℕ) → v ≤ u → v ≤ u + 0
fewer_still u v h = omega (arith, h)

same_least : (h i : ℕ) → i ≡ h → h ≤ i
same_least h i e = omega (arith, e)

module _ (S need : ℕ) (old mid new : Memory) (r : IsRound S need old mid) (place : Member) (gone : List ℕ) (e : AreEvicted (place ∷ []) gone mid new) where
  one_loses : IsCrowded S (S / 8) 0 mid new → IsLessThen mid new → LosesWhereCrowded S 0 mid new
  one_loses c less = record { segments = less.budget; versions = fewer_still (versions_of mid) (versions_of new) less.versions; shrunk = same_least mid.counts.shrunk new.counts.shrunk less.shrunk; cause = inr (inl c) }

  pub room-evicted : IsCrowded S (S / 8) 0 mid new → IsLessThen mid new → (need ≤ spare_of S old.region.usages → ⊥) → IsRound S need old new
  room-evicted c less short = let h = r.room in record {
    room = record {
      went = h.went ++ (place ∷ []);
      gone = h.gone ++ gone;
      evicted = both-evicted h.went (place ∷ []) h.gone gone old mid new h.evicted e;
      crowded = inr (crowded-last S 0 0 old mid new h.loses.versions h.loses.shrunk c);
      loses = loses-after S 0 old mid new h.loses (one_loses c less);
      budget = less.budget ∙ h.budget;
      live = let a = h.live in let b = less.live in omega (arith, a, b);
      moved = let a = h.moved in let b = less.moved in omega (arith, a, b);
      counted = let a = h.counted in let b = less.counted in omega (arith, a, b);
      skipped = ap (λ (c : Counts). c.skipped) e.counts ∙ h.skipped;
      shrunk = less.shrunk ∙ h.shrunk;
    };
    idle = λ enough. absurd (short enough);
  }

-- fewer objects are listed then
pub room-smaller : (now mid new : Memory) (place : Member) (gone : List ℕ) → IsUntouched now mid → AreEvicted (place ∷ []) gone mid new → length new.recency < length now.recency
room-smaller now mid new place gone u e = let is : length now.recency ≡ length (place ∷ new.recency) = ap length (sym u.recency ∙ e.recency) in omega (arith, is)

-- ---- one eviction where there is no room

pub if-some : {A : Type 0} (P : A → Type 0) (o : Option A) → is_some o ≡ true → IfSome o P → (x : A) × P x
if-some P None e h = absurd (cc e)
if-some P (Some x) e h = (x, h)

pub one_budget : (sort : Evicted) (old new : Memory) → IsOneEvicted sort old new → length new.region.usages ≡ length old.region.usages
one_budget sort old new e =
    let k = some-of (λ k. MayBeListed k.chain e.place.version e.place.position) (chain_at old e.place.chain) e.taken.listed in elim (e.swept k.0 k.1) [
      | inl gone ↦ gone.1.region.budget ∙ e.taken.changed.region.budget
      | inr stays ↦ ap (λ (m : Memory). length m.region.usages) stays.1 ∙ e.taken.changed.region.budget
    ]

pub one_moved : (sort : Evicted) (old new : Memory) → IsOneEvicted sort old new → new.region.moved ≡ old.region.moved
one_moved sort old new e =
    let k = some-of (λ k. MayBeListed k.chain e.place.version e.place.position) (chain_at old e.place.chain) e.taken.listed in elim (e.swept k.0 k.1) [
      | inl gone ↦ gone.1.region.moved ∙ e.taken.changed.region.moved
      | inr stays ↦ ap (λ (m : Memory). m.region.moved) stays.1 ∙ e.taken.changed.region.moved
    ]

pub eviction-moved : (o : Option Evicted) (old new : Memory) → IfSome o (λ sort. IsOneEvicted sort old new) → IfNone o ((old.recency ≡ []) × (new ≡ old)) → new.region.moved ≡ old.region.moved
eviction-moved None old new some none = ap (λ (m : Memory). m.region.moved) none.1
eviction-moved (Some sort) old new some none = one_moved sort old new some

pub eviction-budget : (o : Option Evicted) (old new : Memory) → IfSome o (λ sort. IsOneEvicted sort old new) → IfNone o ((old.recency ≡ []) × (new ≡ old)) → length new.region.usages ≡ length old.region.usages
eviction-budget None old new some none = ap (λ (m : Memory). length m.region.usages) none.1
eviction-budget (Some sort) old new some none = one_budget sort old new some

crowded_sum : (least old new eighth u v h i : ℕ) → least < old → old + 152 * v ≤ new + eighth + 152 * u → i ≡ h → least + 152 * v + h < new + eighth + 152 * (u + 0) + i
crowded_sum least old new eighth u v h i a b c = omega (arith, a, b, c)

pub eviction-nearly : (S : ℕ) (old : Memory) (region : View) → region ≡ old.region → 3 * S / 4 * (length region.usages - 2) < live_bytes region → IsNearlyFull S old
eviction-nearly S old region same full = subst (λ (v : View). 3 * S / 4 * (length v.usages - 2) < live_bytes v) same full

pub eviction-crowds : (S : ℕ) (old new : Memory) → IsNearlyFull S old → length new.region.usages ≡ length old.region.usages → live_bytes old.region + 152 * versions_of new ≤ live_bytes new.region + S / 8 + 152 * versions_of old → new.counts.shrunk ≡ old.counts.shrunk → IsCrowded S (S / 8) 0 old new
eviction-crowds S old new full budget less shrunk =
    crowded_sum (3 * S / 4 * (length new.region.usages - 2)) (live_bytes old.region) (live_bytes new.region) (S / 8) (versions_of old) (versions_of new) old.counts.shrunk new.counts.shrunk
    (subst (λ n. 3 * S / 4 * (n - 2) < live_bytes old.region) (sym budget) full) less shrunk
