-- What is left where an entry is opened once there is room, and a snapshot taken of its chain; where no room can be made; and where memory is refused.
use Rattle.std.proofs.Common.{inl, inr, ◌≡◌, ◌≤◌, ◌+◌, ℕ, List, [], ◌∷◌, Option, Some, None, IsSome, length, refl, sym, ap, ◌∙◌, subst, arith}
use Rattle.std.specs.Prelude.{Contains, IfSome, IsTrue}
use Rattle.std.proofs.lemmas.List.Elements.{Contains-append_right}
use Rattle.rc_cell.specs.declared.rows.Row.{Row}
use Rattle.rc_cell.specs.declared.writes.Tomb.{Tomb}
use Rattle.rc_cell.specs.Winner.{empty_row}
use Rattle.rc_core.specs.Chain.{has_flag}
use Rattle.rc_core.specs.Continuity.{static_states}
use Rattle.rc_core.specs.Version.{end_position}
use Rattle.rc_core.specs.declared.entries.ChainKind.TheVariants.{Cache}
use Rattle.rc_core.specs.Steps.{free_number}
use Rattle.rc_core.specs.laws.Pins.{pin-others}
use Rattle.rc_memory.specs.Changes.{member_at}
use Rattle.rc_memory.specs.Lists.{elem-first}
use Rattle.rc_memory.specs.Memory.{HasPin, KeptChain, Memory, chain_at, counts_raised, snapshot_number, with_dropped, with_snapshot}
use Rattle.rc_memory.specs.Recency.{IsRecency}
use Rattle.rc_chain.specs.declared.chains.Snap.{Snap}
use Rattle.rc_cached.specs.Evictions.{IsRoomMade}
use Rattle.rc_cached.specs.Stands.{HasCacheSnapshot}
use Rattle.rc_cached.specs.NoMore.{counts-then}
use Rattle.rc_cached.specs.Filling.{IsEntryOpened, chain_opened, filled_statics, opened_places}
use Rattle.rc_cursor.specs.Snapshots.{kind_in, versions_in}
use Rattle.rc_stream.specs.Snapshot.{NoneLost}
use Rattle.rc_cached.specs.CacheFiller.{CacheFiller}
use Rattle.rc_row_cache.specs.Fillers.{losses}
use Rattle.rc_cached.specs.Fills.{IsCacheFill, Portion.OfRow}
use Rattle.rc_cached.specs.Coming.{AreCountsInRange}
use Rattle.rc_row_cache.specs.Calls.{IsEnterRefused, IsEntered, IsKeptOut}
use Rattle.rc_snapshots.specs.Seeing.{AllStillSee}
use Rattle.rc_row_cache.specs.Footprint.{AreInUse, HaveOneVersion, cache_snapshots, memtable_bytes}
use Rattle.rc_lookup.specs.Known.{KnowsStaticRow}
use Rattle.rc_lookup.specs.Rest.{LeavesBut, LeavesRest}
use Rattle.rc_lookup.specs.laws.Lost.{raised-low}
use Rattle.rc_lookup.proofs.Counted.{room-range, skip-losses, skip-counts}
use Rattle.rc_lookup.proofs.Kept.{here-or-beside}
use Rattle.rc_lookup.proofs.Numbered.{chain-beside, chain-here, changed-beside, changed-now, none-is-none}
use Rattle.rc_lookup.specs.laws.Rest.{rest-none, rest-same, rest-then, rest-told}
use Rattle.rc_lookup.proofs.Rest.{KeepsPins, Pins, none-more, none-pinned}
use Rattle.rc_lookup.proofs.Turns.{FillLaws, told-pins}

-- ---- room is made

-- what room that is made leaves
pub record RoomLaws : Type 0 where
  pub bytes : (S : ℕ) (old new : Memory) → IsRoomMade S old new → memtable_bytes new ≤ memtable_bytes old
  pub one : (S : ℕ) (old new : Memory) → IsRoomMade S old new → HaveOneVersion old → HaveOneVersion new
  pub used : (S : ℕ) (old new : Memory) → IsRoomMade S old new → AreInUse old → AreInUse new
  pub held : (S : ℕ) (old new : Memory) → IsRoomMade S old new → KeepsPins old new
  pub snapshots : (S : ℕ) (old new : Memory) → IsRoomMade S old new → cache_snapshots new ≤ cache_snapshots old

-- with one more skipped fill counted it is what a skipped fill leaves
skipped-fill : (S : ℕ) (f : CacheFiller) (old mid : Memory) → IsRoomMade S old mid → IsCacheFill S f old f (counts_raised 0 1 0 mid)
skipped-fill S f old mid room = record { same = refl; done = inr (mid, OfRow [] empty_row None, room, inr (inr refl, refl)) }

pub rest-made : RoomLaws → FillLaws → (S : ℕ) (old mid : Memory) → IsRecency old → IsRoomMade S old mid → LeavesRest old mid
rest-made laws fills S old mid rule room =
    let f : CacheFiller = record { chain = 0; pin = 0; phase = 0 } in
    let n = counts_raised 0 1 0 mid in
    let d = skipped-fill S f old mid room in
    let skipped = room.skipped in
    record {
      memtables = λ id k. fills.memtable S f f old n id k rule d;
      seen = record {
        see = λ t h. (let v = fills.sees S f f old n t rule d h.pin h.kind in record { pin = fills.pins S f f old n t.chain t.pin d h.pin; versions = v.0; kind = v.1 });
        there = λ t on. fills.pins S f f old n t.chain t.pin d on;
      };
      none_more = none-more old n (told-pins S fills f f old n d);
      segments = room.budget;
      counts = record { evicted = room.counted; moved = room.moved; skipped = omega (arith, skipped) };
      bytes = laws.bytes S old mid room;
      one = laws.one S old mid room;
      used = λ _. laws.used S old mid room;
      pins = laws.held S old mid room;
      snapshots = laws.snapshots S old mid room;
    }

-- ---- an entry is opened

module _ (id : ℕ) (pt : Option Tomb) (statics : Option Row) (phase : ℕ) (old new : Memory) (o : IsEntryOpened id pt statics phase old new) where
  opened-beside : (i : ℕ) → (i ≡ id → ⊥) → chain_at new i ≡ chain_at old i
  opened-beside = chain-beside old new id (Some (chain_opened pt statics phase)) o.chains

  opened-here : chain_at new id ≡ Some (chain_opened pt statics phase)
  opened-here = chain-here old new id (Some (chain_opened pt statics phase)) o.chains

  opened-keeps : (i : ℕ) (k : KeptChain) → chain_at old i ≡ Some k → chain_at new i ≡ Some k
  opened-keeps i k e = here-or-beside id i (λ same. absurd (none-is-none k (sym (ap (chain_at old) same ∙ o.vacant) ∙ e))) (λ ne. opened-beside i ne ∙ e)

  opened-none-more : (t : Snap) → HasPin new t.chain t.pin → HasPin old t.chain t.pin
  opened-none-more = none-more old new (λ i n e. here-or-beside id i
      (λ same. inl (let now : chain_opened pt statics phase ≡ n = cc (sym opened-here ∙ sym (ap (chain_at new) same) ∙ e) in sym (ap (λ (q : KeptChain). q.chain.pins) now)))
      (λ ne. inr (n, sym (opened-beside i ne) ∙ e, refl)))

-- a snapshot is taken of its chain
module _ (S : ℕ) (key : List ℕ) (pt : Option Tomb) (statics : Row) (phase : ℕ) (entries : List (List ℕ × ℕ)) (old new : Memory) (s : Snap) (e : IsEntered S key pt statics phase entries old new s) (room : LeavesRest old e.made) where
  abbrev told : Memory
  told = with_dropped [] e.made

  left : LeavesRest old told
  left = rest-then old e.made told room (rest-told [] e.made)

  abbrev first : KeptChain
  first = chain_opened pt (filled_statics statics) phase

  abbrev entered-chain : KeptChain
  entered-chain = with_snapshot (snapshot_number first.chain) first

  pub entered-here : chain_at new s.chain ≡ Some entered-chain
  entered-here = changed-now e.between new s.chain (λ k. with_snapshot (snapshot_number k.chain) k) (ap (λ (m : Memory). m.chains) e.taken.taken.now) first (opened-here s.chain pt (filled_statics statics) phase told e.between e.opened)

  pub entered-beside : (i : ℕ) → (i ≡ s.chain → ⊥) → chain_at new i ≡ chain_at told i
  entered-beside i ne = changed-beside e.between new s.chain (λ k. with_snapshot (snapshot_number k.chain) k) (ap (λ (m : Memory). m.chains) e.taken.taken.now) i ne ∙ opened-beside s.chain pt (filled_statics statics) phase told e.between e.opened i ne

  pub entered-pin : s.pin ≡ free_number []
  entered-pin = subst (λ (o : Option KeptChain). IfSome o (λ q. s.pin ≡ free_number q.chain.pins)) (opened-here s.chain pt (filled_statics statics) phase told e.between e.opened) e.taken.taken.number

  -- of its chain no other snapshot is there
  no-other : (pin : ℕ) → Pins pin (Some entered-chain) → (pin ≡ s.pin → ⊥) → ⊥
  no-other pin on ne = none-pinned pin (subst (λ (o : Option ℕ). IsSome o) (pin-others (snapshot_number first.chain) [] pin (λ free. ne (free ∙ sym entered-pin))) on)

  pub entered-counts : (new.counts.evicted ≡ told.counts.evicted) × (new.counts.skipped ≡ told.counts.skipped) × (new.region.moved ≡ told.region.moved)
  entered-counts = (
    ap (λ (m : Memory). m.counts.evicted) e.taken.taken.now ∙ ap (λ c. c.evicted) e.opened.counts,
    ap (λ (m : Memory). m.counts.skipped) e.taken.taken.now ∙ ap (λ c. c.skipped) e.opened.counts,
    ap (λ (m : Memory). m.region.moved) e.taken.taken.now ∙ e.opened.region.moved,
  )

  pub entered-but : AllStillSee old new → memtable_bytes new ≤ memtable_bytes old → (HaveOneVersion old → HaveOneVersion new) → (AreInUse old → AreInUse new) → KeepsPins old new → cache_snapshots new ≤ cache_snapshots old + 1 → LeavesBut s old new
  entered-but seen bytes one used pins snapshots =
      let c = entered-counts in
      record {
        memtables = λ id k there kind. (let t = left.memtables id k there kind in here-or-beside s.chain id
            (λ same. absurd (none-is-none k (sym (ap (chain_at told) same ∙ e.opened.vacant) ∙ t)))
            (λ ne. entered-beside id ne ∙ t));
        seen = seen;
        none_more = λ t on. here-or-beside s.chain t.chain
            (λ same. here-or-beside s.pin t.pin (λ pin. inr (same, pin)) (λ ne. absurd (no-other t.pin (subst (Pins t.pin) (ap (chain_at new) same ∙ entered-here) on) ne)))
            (λ ne. inl (left.none_more t (subst (Pins t.pin) (entered-beside t.chain ne) on)));
        segments = ap (λ (m : Memory). length m.region.usages) e.taken.taken.now ∙ e.opened.region.budget ∙ left.segments;
        counts = counts-then old told new left.counts (record { evicted = omega (arith, c.0); moved = omega (arith, c.2); skipped = omega (arith, c.1) });
        bytes = bytes;
        one = one;
        used = λ _. used;
        pins = pins;
        snapshots = snapshots;
      }

  -- its chain was not there
  pub entered-fresh : HasPin old s.chain s.pin → ⊥
  entered-fresh on = subst (Pins s.pin) e.opened.vacant (left.seen.there s on)

  pub entered-apart : (pin : ℕ) → HasCacheSnapshot old s.chain pin → ⊥
  entered-apart pin h = none-is-none (left.pins s.chain pin h).chain (sym e.opened.vacant ∙ (left.pins s.chain pin h).there)

  -- its static row is known
  pub entered-statics : IsTrue (has_flag Cache (static_states first.chain.versions)) → KnowsStaticRow new s
  entered-statics known =
      let at : (n : ℕ) → n ≡ free_number [] → IsTrue (has_flag Cache (static_states (versions_in (Some entered-chain) n))) = λ n is. subst (λ p. IsTrue (has_flag Cache (static_states (versions_in (Some entered-chain) p)))) (sym is) known in
      subst (λ (o : Option KeptChain). IsTrue (has_flag (kind_in o) (static_states (versions_in o s.pin)))) (sym entered-here) (at s.pin entered-pin)

  -- its end dummy is listed
  first-place : (row : Option Row) → Contains (opened_places s.chain row) (member_at s.chain 0 (Some end_position))
  first-place None = elem-first (member_at s.chain 0 (Some end_position)) []
  first-place (Some row) = elem-first (member_at s.chain 0 (Some end_position)) (member_at s.chain 0 None ∷ [])

  pub entered-listed : Contains new.recency (member_at s.chain 0 (Some end_position))
  entered-listed = subst (λ l. Contains l (member_at s.chain 0 (Some end_position))) (sym (ap (λ (m : Memory). m.recency) e.taken.taken.now ∙ e.opened.recency))
      (Contains-append_right told.recency (opened_places s.chain (filled_statics statics)) (member_at s.chain 0 (Some end_position)) (first-place (filled_statics statics)))

-- ---- no room can be made

module _ (S : ℕ) (old new : Memory) (range : AreCountsInRange old.counts) (out : IsKeptOut S old new) where
  pub kept-out-rest : LeavesRest old out.0 → LeavesRest old new
  kept-out-rest room =
      let now = room-range S old out.0 range out.1 in
      rest-then old out.0 new room (subst (LeavesRest out.0) (sym out.3) (rest-same out.0 (counts_raised 0 1 0 (with_dropped [] out.0)) refl refl refl
      (record { evicted = raised-low 0 out.0.counts.evicted now.evicted; moved = omega arith; skipped = raised-low 1 out.0.counts.skipped now.skipped })))

  -- that is counted as lost
  pub kept-out-lost : NoneLost (losses old) (losses new) → ⊥
  kept-out-lost none =
      let same : losses new ≡ losses (counts_raised 0 1 0 out.0) = ap losses out.3 in
      elim (skip-losses S old out.0 range out.1 (counts_raised 0 1 0 out.0) refl) [ inl less ↦ omega (arith, less, same, none.0) | inr top ↦ omega (arith, top, same, none.1) ]

  pub kept-out-skips : NoneLost old.counts.skipped new.counts.skipped → ⊥
  kept-out-skips none =
      let same : new.counts.skipped ≡ (counts_raised 0 1 0 out.0).counts.skipped = ap (λ (m : Memory). m.counts.skipped) out.3 in
      elim (skip-counts S old out.0 range out.1 (counts_raised 0 1 0 out.0) refl) [ inl less ↦ omega (arith, less, same, none.0) | inr top ↦ omega (arith, top, same, none.1) ]

-- ---- memory is refused

pub refused-rest : (S : ℕ) (pt : Option Tomb) (statics : Row) (phase : ℕ) (old new : Memory) → IsEnterRefused S pt statics phase old new → ((made : Memory) → IsRoomMade S old made → LeavesRest old made) → AllStillSee old new →
    memtable_bytes new ≤ memtable_bytes old → (HaveOneVersion old → HaveOneVersion new) → (AreInUse old → AreInUse new) → KeepsPins old new → cache_snapshots new ≤ cache_snapshots old → LeavesRest old new
refused-rest S pt statics phase old new (inl same) make seen bytes one used pins snapshots = subst (LeavesRest old) (sym same) (rest-none old)
refused-rest S pt statics phase old new (inr (made, room, inl slots)) make seen bytes one used pins snapshots =
    let told = with_dropped [] made in
    let evicted : new.counts.evicted ≡ told.counts.evicted = ap (λ (m : Memory). m.counts.evicted) slots.same in
    let skipped : new.counts.skipped ≡ told.counts.skipped = ap (λ (m : Memory). m.counts.skipped) slots.same in
    let moved : new.region.moved ≡ told.region.moved = slots.region.moved in
    rest-then old told new (rest-then old made told (make made room) (rest-told [] made))
    (rest-same told new (ap (λ (m : Memory). m.chains) slots.same) (ap (λ (m : Memory). m.recency) slots.same) (ap length slots.region.usages) (record { evicted = omega (arith, evicted); moved = omega (arith, moved); skipped = omega (arith, skipped) }))
refused-rest S pt statics phase old new (inr (made, room, inr (id, o))) make seen bytes one used pins snapshots =
    let told = with_dropped [] made in
    let left = rest-then old made told (make made room) (rest-told [] made) in
    let evicted : new.counts.evicted ≡ told.counts.evicted = ap (λ c. c.evicted) o.counts in
    let skipped : new.counts.skipped ≡ told.counts.skipped = ap (λ c. c.skipped) o.counts in
    let moved : new.region.moved ≡ told.region.moved = o.region.moved in
    record {
      memtables = λ i k there kind. opened-keeps id pt (filled_statics statics) phase told new o i k (left.memtables i k there kind);
      seen = seen;
      none_more = λ t on. left.none_more t (opened-none-more id pt (filled_statics statics) phase told new o t on);
      segments = o.region.budget ∙ left.segments;
      counts = counts-then old told new left.counts (record { evicted = omega (arith, evicted); moved = omega (arith, moved); skipped = omega (arith, skipped) });
      bytes = bytes;
      one = one;
      used = λ _. used;
      pins = pins;
      snapshots = snapshots;
    }
