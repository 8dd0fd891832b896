-- What calls on memtables leave of the chains of the cache.
use Rattle.std.proofs.Common.{inl, inr, ◌≡◌, ◌≢◌, ◌<◌, length, arith, ℕ, Bool, true, false, cond, List, [], ◌∷◌, Option, Some, None, map, refl, sym, ap, ◌∙◌, subst, slice_index_or}
use Rattle.std.proofs.lemmas.Map.Keys.{sorted_head, sorted_tail}
use Rattle.std.specs.Cmp.{eq_by_cmp_equiv}
use Rattle.std.specs.List.{AllByRecursion}
use Rattle.std.specs.Ordering.{eq_by_cmp, is_eq}
use Rattle.std.specs.Prelude.{IfSome, IsSome}
use Rattle.std.specs.declared.cmp.Ordering.{Ordering}
use Rattle.std.specs.declared.cmp.Ordering.TheVariants.{Less, Equal, Greater}
use Rattle.rc_position.specs.Position.{Head, bytes_cmp}
use Rattle.rc_position.specs.laws.Orders.{bytes_cmp_same, bytes_cmp_total}
use Rattle.rc_schema.specs.SchemaValue.{SchemaValue}
use Rattle.rc_mutation.specs.declared.mutations.Mutation.{Mutation}
use Rattle.rc_mutation.specs.declared.mutations.Write.{Write}
use Rattle.rc_core.specs.declared.entries.ChainKind.{ChainKind}
use Rattle.rc_core.specs.declared.entries.ChainKind.TheVariants.{Cache, Memtable}
use Rattle.rc_core.specs.Chains.{IsNeeded, IsPinned, IsUpdating, at_place, phase_at, upto}
use Rattle.rc_core.specs.Continuity.{EachOf, HoldNoMore, IsContinuous}
use Rattle.rc_core.specs.Steps.{IsChain, pin_at}
use Rattle.rc_core.specs.Version.{IsVersion}
use Rattle.rc_core.specs.laws.Pins.{pin-is-pinned, pinned-by-number}
use Rattle.rc_registry.specs.Registry.{IsNumberIn}
use Rattle.rc_registry.specs.laws.Numbers.{IsOneOf-front}
use Rattle.rc_memory.specs.Memory.{KeptChain, Memory, chain_at, on_shown, shown_detached, snapshot_number, with_snapshot, without_snapshot}
use Rattle.rc_memory.specs.laws.Places.{same_some}
use Rattle.rc_chain.specs.laws.PlaceBeside.{beside-none}
use Rattle.rc_chain.specs.declared.chains.Snap.{Snap}
use Rattle.rc_cursor.specs.Snapshots.{kind_in, kind_seen}
use Rattle.rc_filler.specs.LetGo.{AreLetGo, IsFreedUnpinned, IsLetGo}
use Rattle.rc_filler.specs.Partitions.{AreAsBefore, IsAsBefore}
use Rattle.rc_filler.specs.Steps.{IsApplied}
use Rattle.rc_filler.specs.Writes.{DoAscend, HasWrites, chain_of}
use Rattle.rc_entries.specs.Opening.{some-and}
use Rattle.rc_snapshots.specs.Seeing.{HasSnap}
use Rattle.rc_filler.specs.Stands.{HoldsRowsOf}
use Rattle.rc_unstored.specs.declared.unstored.Unstored.{Unstored}
use Rattle.rc_unstored.specs.Steps.{IsPutBehind}
use Rattle.rc_unstored.specs.Readers.{IsReleased, IsTakenIf, taken_back}
use Rattle.rc_row_cache.specs.Leaving.{AreCachesSame, IsRoomMadeBeside}
use Rattle.rc_row_cache.specs.Saying.{Below, CacheSays, PinsAlike, SaysBelow}
use Rattle.rc_row_cache.proofs.Cache.{each-says, equal-source, pins-at}
use Rattle.rc_row_cache.proofs.Under.{said-under, said-whole}
use Rattle.rc_row_cache.proofs.Numbered.{chain-beside, chain-here, changed-beside, changed-now, changed-was, here-or-beside, none-is-none, there-or-not}

-- ---- keys

equal-is : (r : Ordering) → is_eq r ≡ true → r ≡ Equal
equal-is Less e = absurd (cc)
equal-is Equal e = refl
equal-is Greater e = absurd (cc)

key-is : (key q : List ℕ) → eq_by_cmp bytes_cmp key q ≡ true → key ≡ q
key-is key q e = bytes_cmp_same key q (equal-is (bytes_cmp key q) e)

key-itself : (key : List ℕ) → eq_by_cmp bytes_cmp key key ≡ true
key-itself key = (eq_by_cmp_equiv bytes_cmp_total).refl key

either : (P : Type 0) (b : Bool) → (b ≡ true → P) → (b ≡ false → P) → P
either P true t f = t refl
either P false t f = f refl

-- ---- the chains of the cache are as they were

pub same-itself : (m : Memory) → AreCachesSame m m
same-itself m = record { stays = λ id k kind e. e; none = λ id k kind e. e; told = λ id on. on }

pub same-then : (old mid new : Memory) → AreCachesSame old mid → AreCachesSame mid new → AreCachesSame old new
same-then old mid new f g = record {
  stays = λ id k kind e. g.stays id k kind (f.stays id k kind e);
  none = λ id k kind e. f.none id k kind (g.none id k kind e);
  told = λ id on. g.told id (f.told id on);
}

pub chains-same : (old new : Memory) → new.chains ≡ old.chains → new.dropped ≡ old.dropped → AreCachesSame old new
chains-same old new chains dropped = record {
  stays = λ id k kind e. ap (λ cs. slice_index_or cs id None) chains ∙ e;
  none = λ id k kind e. sym (ap (λ cs. slice_index_or cs id None) chains) ∙ e;
  told = λ id on. subst (λ ns. IsNumberIn ns id) (sym dropped) on;
}

-- where one number has another chain that was none of the cache's, and is none
pub but-one : (n : ℕ) (old new : Memory) → ((i : ℕ) → i ≢ n → chain_at new i ≡ chain_at old i) → ((k : KeptChain) → chain_at old n ≡ Some k → k.chain.kind ≡ Cache → ⊥) → ((k : KeptChain) → chain_at new n ≡ Some k → k.chain.kind ≡ Cache → ⊥) →
    ((id : ℕ) → IsNumberIn old.dropped id → IsNumberIn new.dropped id) → AreCachesSame old new
but-one n old new others was is told = record {
  stays = λ id. here-or-beside (λ i. (k : KeptChain) → k.chain.kind ≡ Cache → chain_at old i ≡ Some k → chain_at new i ≡ Some k) n id (λ k kind e. absurd (was k e kind)) (λ ne k kind e. others id ne ∙ e);
  none = λ id. here-or-beside (λ i. (k : KeptChain) → k.chain.kind ≡ Cache → chain_at new i ≡ Some k → chain_at old i ≡ Some k) n id (λ k kind e. absurd (is k e kind)) (λ ne k kind e. sym (others id ne) ∙ e);
  told = told;
}

not-both : (kind : ChainKind) → kind ≡ Memtable → kind ≡ Cache → ⊥
not-both kind m c = (let clash : Memtable ≡ Cache = sym m ∙ c in cc)

-- the chain of a number is a memtable's
memtable-at : (m : Memory) (n : ℕ) (k : KeptChain) → chain_at m n ≡ Some k → k.chain.kind ≡ Memtable → (q : KeptChain) → chain_at m n ≡ Some q → q.chain.kind ≡ Cache → ⊥
memtable-at m n k e kind q f cached = not-both k.chain.kind kind (ap (λ (x : KeptChain). x.chain.kind) (same_some k q (sym e ∙ f)) ∙ cached)

-- ---- a write that is put

module _ (S : ℕ) (schema : SchemaValue) (w : Write) (before now : List (List ℕ × ℕ)) (old new : Memory) (writes : List Write) (h : HasWrites schema before old writes) (a : IsApplied S schema w before now old new) where
  was-none : (o : Option ℕ) → chain_of before w.key ≡ o → (k : KeptChain) → chain_at old a.id ≡ Some k → k.chain.kind ≡ Cache → ⊥
  was-none None none k e cached = none-is-none k (sym (a.made none).0 ∙ e)
  was-none (Some n) some k e cached = let c = h.kept w.key n some in memtable-at old n c.0 c.1 c.2.kind k (ap (chain_at old) (a.had n some).0 ∙ e) cached

  is-none : (k : KeptChain) → chain_at new a.id ≡ Some k → k.chain.kind ≡ Cache → ⊥
  is-none k e cached = let c = (a.stands writes h).kept w.key a.id (a.keys w.key ∙ ap (λ b. cond b (Some a.id) (chain_of before w.key)) (key-itself w.key)) in memtable-at new a.id c.0 c.1 c.2.kind k e cached

  pub applied-same : AreCachesSame old new
  applied-same = but-one a.id old new a.others.others (was-none (chain_of before w.key) refl) is-none (λ id on. subst (λ ns. IsNumberIn ns id) (sym a.others.dropped) on)

-- ---- snapshots of memtables' chains

seen-none : (m : Memory) (s : Snap) → kind_seen m s ≡ Memtable → (k : KeptChain) → chain_at m s.chain ≡ Some k → k.chain.kind ≡ Cache → ⊥
seen-none m s seen k e cached = not-both (kind_seen m s) seen (ap kind_in e ∙ cached)

pub taken-same : (old new : Memory) (taken : Option Snap) → IfSome taken (λ s. kind_seen new s ≡ Memtable) → IsTakenIf old new taken → AreCachesSame old new
taken-same old new None seen t = chains-same old new (ap (λ (m : Memory). m.chains) t) (ap (λ (m : Memory). m.dropped) t)
taken-same old new (Some s) seen t =
    let is = ap (λ (m : Memory). m.chains) t.now in
    let more = λ (k : KeptChain). with_snapshot (snapshot_number k.chain) k in
    but-one s.chain old new (changed-beside old new s.chain more is) (λ k e cached. seen-none new s seen (more k) (changed-now old new s.chain more is k e) cached) (seen-none new s seen) (λ id on. subst (λ ns. IsNumberIn ns id) (sym (ap (λ (m : Memory). m.dropped) t.now)) on)

-- a chain of a memtable is taken back from, or goes then
module _ (s : Snap) (old new : Memory) (h : HasSnap old s) where
  back-same : AreCachesSame old (taken_back s old)
  back-same = but-one s.chain old (taken_back s old) (changed-beside old (taken_back s old) s.chain (without_snapshot s.pin) refl) (seen-none old s h.kind)
      (λ k e cached. let was = changed-was old (taken_back s old) s.chain (without_snapshot s.pin) refl k e in seen-none old s h.kind was.0 was.1 (ap (λ (q : KeptChain). q.chain.kind) was.2 ∙ cached)) (λ id on. on)

  back-none : (k : KeptChain) → chain_at (taken_back s old) s.chain ≡ Some k → k.chain.kind ≡ Cache → ⊥
  back-none k e cached = let was = changed-was old (taken_back s old) s.chain (without_snapshot s.pin) refl k e in seen-none old s h.kind was.0 was.1 (ap (λ (q : KeptChain). q.chain.kind) was.2 ∙ cached)

  freed-same : (k : KeptChain) → chain_at (taken_back s old) s.chain ≡ Some k → IsFreedUnpinned s.chain (taken_back s old) new → AreCachesSame (taken_back s old) new
  freed-same k e f = elim (f k e) [
    | inl gone ↦ but-one s.chain (taken_back s old) new (chain-beside (taken_back s old) new s.chain None gone.1.chains) back-none
        (λ q there cached. none-is-none q (sym (chain-here (taken_back s old) new s.chain None gone.1.chains) ∙ there)) (λ id on. subst (λ ns. IsNumberIn ns id) (sym gone.1.dropped) (IsOneOf-front old.dropped (s.chain ∷ []) id on))
    | inr kept ↦ chains-same (taken_back s old) new (ap (λ (m : Memory). m.chains) kept.1) (ap (λ (m : Memory). m.dropped) kept.1)
  ]

  pub released-same : IsReleased s old new → AreCachesSame old new
  released-same r =
      let there = some-and (chain_at old s.chain) (λ k. IsSome (pin_at k.chain.pins s.pin)) h.pin in
      either (AreCachesSame old new) there.0.chain.attached
      (λ found. subst (AreCachesSame old) (sym (r.found there.0 there.1 found)) back-same)
      (λ gone. same-then old (taken_back s old) new back-same (freed-same (without_snapshot s.pin there.0) (changed-now old (taken_back s old) s.chain (without_snapshot s.pin) refl there.0 there.1) (r.freed there.0 there.1 gone)))

-- ---- chains that are let go

-- each key has a chain of a memtable, its own
record AreTheirs (es : List (List ℕ × ℕ)) (m : Memory) : Type 0 where
  ascend : DoAscend es
  kept : (key : List ℕ) (id : ℕ) → chain_of es key ≡ Some id → (k : KeptChain) × (chain_at m id ≡ Some k) × (k.chain.kind ≡ Memtable)
  apart : (key other : List ℕ) (id : ℕ) → chain_of es key ≡ Some id → chain_of es other ≡ Some id → key ≡ other

none-behind : (key : List ℕ) (es : List (List ℕ × ℕ)) → AllByRecursion (λ y. bytes_cmp key y ≡ Less) (map (λ (e : List ℕ × ℕ). e.0) es) → chain_of es key ≡ None
none-behind key [] h = refl
none-behind key (e ∷ es) h = ap (λ r. cond (is_eq r) (Some e.1) (chain_of es key)) h.0 ∙ none-behind key es h.1

module _ (e : List ℕ × ℕ) (es : List (List ℕ × ℕ)) (m n : Memory) (h : AreTheirs (e ∷ es) m) (gone : IsLetGo e.1 m n) where
  first-of : chain_of (e ∷ es) e.0 ≡ Some e.1
  first-of = ap (λ b. cond b (Some e.1) (chain_of es e.0)) (key-itself e.0)

  once : chain_of es e.0 ≡ None
  once = none-behind e.0 es (sorted_head bytes_cmp e.0 (map (λ (d : List ℕ × ℕ). d.0) es) h.ascend)

  later-of : (key : List ℕ) (i : ℕ) → chain_of es key ≡ Some i → chain_of (e ∷ es) key ≡ Some i
  later-of key i f = either (chain_of (e ∷ es) key ≡ Some i) (eq_by_cmp bytes_cmp key e.0)
      (λ same. absurd (none-is-none i (sym once ∙ ap (chain_of es) (sym (key-is key e.0 same)) ∙ f)))
      (λ off. ap (λ b. cond b (Some e.1) (chain_of es key)) off ∙ f)

  mine : (k : KeptChain) × (chain_at m e.1 ≡ Some k) × (k.chain.kind ≡ Memtable)
  mine = h.kept e.0 e.1 first-of

  gone-beside : (i : ℕ) → i ≢ e.1 → chain_at n i ≡ chain_at m i
  gone-beside i ne = elim (gone mine.0 mine.1) [
    | inl freed ↦ chain-beside m n e.1 None freed.1.chains i ne
    | inr kept ↦ changed-beside m n e.1 (on_shown shown_detached) kept.1.chains i ne
  ]

  gone-none : (k : KeptChain) → chain_at n e.1 ≡ Some k → k.chain.kind ≡ Cache → ⊥
  gone-none k there cached = elim (gone mine.0 mine.1) [
    | inl freed ↦ none-is-none k (sym (chain-here m n e.1 None freed.1.chains) ∙ there)
    | inr kept ↦ memtable-at n e.1 (on_shown shown_detached mine.0) (changed-now m n e.1 (on_shown shown_detached) kept.1.chains mine.0 mine.1) mine.2 k there cached
  ]

  gone-told : (id : ℕ) → IsNumberIn m.dropped id → IsNumberIn n.dropped id
  gone-told id on = elim (gone mine.0 mine.1) [
    | inl freed ↦ subst (λ ns. IsNumberIn ns id) (sym freed.1.dropped) (IsOneOf-front m.dropped (e.1 ∷ []) id on)
    | inr kept ↦ subst (λ ns. IsNumberIn ns id) (sym kept.1.dropped) on
  ]

  gone-same : AreCachesSame m n
  gone-same = but-one e.1 m n gone-beside (memtable-at m e.1 mine.0 mine.1 mine.2) gone-none gone-told

  theirs-later : AreTheirs es n
  theirs-later = record {
    ascend = sorted_tail bytes_cmp e.0 (map (λ (d : List ℕ × ℕ). d.0) es) h.ascend;
    kept = λ key id f. (let k = h.kept key id (later-of key id f) in
        (k.0, gone-beside id (λ same. none-is-none id (sym once ∙ ap (chain_of es) (h.apart e.0 key id (first-of ∙ ap Some (sym same)) (later-of key id f)) ∙ f)) ∙ k.1, k.2));
    apart = λ key other id f g. h.apart key other id (later-of key id f) (later-of other id g);
  }

all-gone : (es : List (List ℕ × ℕ)) (m n : Memory) → AreTheirs es m → AreLetGo (map (λ (e : List ℕ × ℕ). e.1) es) m n → AreCachesSame m n
all-gone [] m n h same = chains-same m n (ap (λ (x : Memory). x.chains) same) (ap (λ (x : Memory). x.dropped) same)
all-gone (e ∷ es) m n h (mid, one, rest) = same-then m mid n (gone-same e es m mid h one) (all-gone es mid n (theirs-later e es m mid h one) rest)

pub let-go-same : (schema : SchemaValue) (es : List (List ℕ × ℕ)) (m n : Memory) (writes : List Write) → DoAscend es → HasWrites schema es m writes → AreLetGo (map (λ (e : List ℕ × ℕ). e.1) es) m n → AreCachesSame m n
let-go-same schema es m n writes ascend h = all-gone es m n (record { ascend = ascend; kept = λ key id e. (let k = h.kept key id e in (k.0, k.1, k.2.kind)); apart = h.apart })

-- ---- chains whose snapshots pin what they pinned

pinned-alike : (ps qs : List (Option ℕ)) → ((pin : ℕ) → pin_at qs pin ≡ pin_at ps pin) → (j : ℕ) → IsPinned qs j → IsPinned ps j
pinned-alike ps qs same j on = let i = pinned-by-number qs j on in pin-is-pinned ps i.0 j (sym (same i.0) ∙ i.1)

pub before-says : (schema : SchemaValue) (below : ℕ → List Mutation) (k now : KeptChain) → IsAsBefore k now → SaysBelow schema below k → SaysBelow schema below now
before-says schema below k now b s =
    let settled : now.chain.updating ≡ false = b.updating ∙ s.settled in
    let long : length now.chain.versions ≡ length k.chain.versions = ap length b.versions in
    let pinned = pinned-alike k.chain.pins now.chain.pins b.pins in
    let under = said-under below k.chain s.settled (length k.chain.versions) (omega arith) s.continuous in
    let needed : (j : ℕ) → IsNeeded (at_place Head now.chain) j → IsNeeded (at_place Head k.chain) j = λ j need. elim need [
      | inl on ↦ inl (pinned j on)
      | inr more ↦ elim more [
        | inl newest ↦ inr (inl (sym b.attached ∙ newest.0, newest.1 ∙ long))
        | inr up ↦ absurd (subst IsUpdating (beside-none now.chain.updating Head settled) up.0)
      ]
    ] in
    let form : IsChain (at_place Head now.chain) = record {
      versions = subst (EachOf IsVersion) (sym b.versions) s.form.versions;
      pins = λ j on. subst (λ n. j < n) (sym long) (s.form.pins j (pinned j on));
      unpinned = λ up. absurd (subst IsUpdating (beside-none now.chain.updating Head settled) up);
    } in record {
      settled = settled;
      form = form;
      continuous = said-whole below now.chain settled form (record {
        within = λ j low. subst (λ vs. HoldNoMore (below (phase_at vs j)) (upto vs j)) (sym b.versions) (under.within j (subst (λ n. j < n) long low));
        needed = λ j low need. subst (λ vs. IsContinuous None (below (phase_at vs j)) (upto vs j)) (sym b.versions) (under.needed j (subst (λ n. j < n) long low) (needed j need));
      });
      rows = subst (EachOf (HoldsRowsOf schema)) (sym b.versions) s.rows;
    }

pub as-before-says : (schema : SchemaValue) (below : Below) (old new : Memory) → AreAsBefore old new → CacheSays schema below old → CacheSays schema below new
as-before-says schema below old new b = each-says schema below below old new (λ id now e kind. there-or-not (chain_at old id)
    (λ none. absurd (none-is-none now (sym (b.absent id none) ∙ e)))
    (λ k was. (let n = b.there id k was in let is = same_some n.0 now (sym n.1 ∙ e) in
    (k, was, sym n.2.kind ∙ ap (λ (q : KeptChain). q.chain.kind) is ∙ kind, λ s. subst (SaysBelow schema (below id)) is (before-says schema (below id) k n.0 n.2 s)))))

pub as-before-pins : (below : ℕ → List Mutation) (id pin : ℕ) (old new : Memory) → AreAsBefore old new → PinsAlike below below id pin old new
as-before-pins below id pin old new b = pins-at below id pin old new (λ k j there on. (let n = b.there id k there in (n.0, n.1, n.2.kind, n.2.pins pin ∙ on, equal-source (below (phase_at k.chain.versions j)) (below (phase_at n.0.chain.versions j)) (sym (ap (λ vs. below (phase_at vs j)) n.2.versions)))))

-- ---- room, and then the cache as it was

pub put-beside-cache : (S : ℕ) (schema : SchemaValue) (w : Write) (old new : Unstored S) (writes : List Write) (p : IsPutBehind schema w old new) → HasWrites schema old.active p.mid writes → IsRoomMadeBeside S old.chains new.chains
put-beside-cache S schema w old new writes p h = record { mid = p.mid; room = p.room; same = applied-same S schema w old.active new.active p.mid new.chains writes h p.applied; counts = p.applied.others.counts }
