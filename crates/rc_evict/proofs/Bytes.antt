-- What is live after an eviction: less by one object, and by what the chain takes that went, of whose versions the end dummies alone were left.
use Rattle.std.proofs.Common.{◌≡◌, ◌≢◌, ℕ, zero, suc, ◌+◌, ◌*◌, ◌/◌, ◌≤◌, le_refl, true, false, cond, List, [], ◌∷◌, ◌++◌, Option, Some, None, length, inl, inr, refl, sym, ap, ◌∙◌, subst, slice_index_or, arith}
use Rattle.std.specs.Prelude.{Contains, IfSome, IsSome, IsSomeAnd, sum_by}
use Rattle.std.proofs.lemmas.List.Sums.{sum_by-cons}
use Rattle.lsa_region.specs.Region.{View, body}
use Rattle.lsa_store.specs.declared.place.Ref.{Ref}
use Rattle.lsa_kinds.specs.declared.kind.Kind.{Kind}
use Rattle.rc_cell.specs.declared.rows.Row.{Row}
use Rattle.rc_cell.specs.laws.{joined_row-one}
use Rattle.rc_cell.specs.Winner.{IsRow}
use Rattle.std.specs.Ordering.{eq_by_cmp}
use Rattle.rc_position.specs.declared.positions.Pos.{Pos}
use Rattle.rc_position.specs.Position.{pos_cmp}
use Rattle.rc_rowcode.specs.Objects.{static_size}
use Rattle.rc_rowcode.specs.Spelling.{IsCodedRow}
use Rattle.rc_core.specs.declared.entries.Entry.{Entry}
use Rattle.rc_core.specs.declared.entries.Mark.{Mark}
use Rattle.rc_core.specs.AtPlace.{HasEntryAt}
use Rattle.rc_core.specs.Change.{drop_at, lose_last_gap, lost_mark, take_out, with_first_gap, with_gap}
use Rattle.rc_core.specs.Steps.{on_version}
use Rattle.rc_core.specs.Version.{Ascend, EndsWithDummy, IsVersion, Version, end_position}
use Rattle.rc_core.specs.laws.Spots.{taken_out}
use Rattle.rc_object.specs.Objects.{SpellsEntry}
use Rattle.rc_version.specs.Versions.{bytes_at, entries_bytes, entry_bytes, statics_bytes, version_bytes}
use Rattle.rc_version.specs.laws.Holding.{bytes-same, bytes-with}
use Rattle.rc_partition.specs.laws.Lists.{elem-cases, elem-first, elem-none, elem-split, sum-middle, sum-without}
use Rattle.rc_registry.specs.Registry.{put_at_number}
use Rattle.rc_memory.specs.Memory.{KeptChain, Memory, IsVersionAt, chain_at, on_shown, on_version_of}
use Rattle.rc_memory.specs.Recency.{HasObject, IsRecency, MustBeListed}
use Rattle.rc_memory.specs.Changes.{OfVersion, member_at}
use Rattle.rc_memory.specs.Room.{FitTogether, chain_bytes}
use Rattle.rc_memory.specs.Kept.{present}
use Rattle.rc_memory.specs.laws.Listing.{pos_decided}
use Rattle.rc_memory.specs.laws.Put.{placed}
use Rattle.rc_memory.specs.laws.Recent.{on-is, there_at}
use Rattle.rc_chain.specs.Lives.{IsIdle}
use Rattle.rc_evict.specs.Evictions.{evicted_at}
use Rattle.rc_chain.specs.Held.{HoldsPlaced}
use Rattle.rc_evict.proofs.Places.{ahead-inner}
use Rattle.rc_evict.proofs.Versions.{evicted-by}

-- ---- one object takes an eighth of a segment at most

module _ (S : ℕ) (versions : List Version) (fit : FitTogether S versions) (v : Version) (among : Contains versions v) where
  row_small : (x : Pos) (row : Row) → IsRow row → ((r : Row) → Contains (row ∷ []) r → (e : Entry) × Contains v.entries e × (e.position ≡ x) × (e.row ≡ Some r)) → bytes_at x (Some row) ≤ S / 8
  row_small x row is has = subst (λ r. bytes_at x (Some r) ≤ S / 8) (joined_row-one row is) (fit.rows x row [] (λ r on. let e = has r on in (v, e.0, among, e.1, e.2, e.3)))

  entry_small : (e : Entry) → Contains v.entries e → IfSome e.row IsCodedRow → entry_bytes e ≤ S / 8
  entry_small e on coded = of e.row refl coded
    where
      of : (o : Option Row) → e.row ≡ o → IfSome o IsCodedRow → bytes_at e.position e.row ≤ S / 8
      of None is k = subst (λ o. bytes_at e.position o ≤ S / 8) (sym is) (fit.positions v e among on)
      of (Some row) is k = subst (λ o. bytes_at e.position o ≤ S / 8) (sym is)
          (row_small e.position row k.ascending (λ r at. (e, on, refl, is ∙ ap (λ z. Some z) (elim (elem-cases row r [] at) [ inl same ↦ same | inr none ↦ absurd (elem-none r none) ]))))

  static_small : (row : Row) → v.statics ≡ Some row → IsCodedRow row → static_size row ≤ S / 8
  static_small row is coded = subst (λ r. static_size r ≤ S / 8) (joined_row-one row coded.ascending)
      (fit.statics row [] (λ r on. (v, among, is ∙ ap (λ z. Some z) (elim (elem-cases row r [] on) [ inl same ↦ same | inr none ↦ absurd (elem-none r none) ]))))

-- ---- what a version takes

lost_bytes : (es : List Entry) → entries_bytes (lose_last_gap es) ≡ entries_bytes es
lost_bytes [] = refl
lost_bytes (e ∷ []) = refl
lost_bytes (e ∷ f ∷ es) = ap (λ n. entry_bytes e + n) (lost_bytes (f ∷ es))

last_position : (front : List Entry) (y : Entry) → EndsWithDummy (front ++ (y ∷ [])) → y.position ≡ end_position
last_position [] y h = h.0
last_position (f ∷ []) y h = h.0
last_position (f ∷ g ∷ front) y h = last_position (g ∷ front) y h

dropped_bytes : (front : List Entry) (y : Entry) (back : List Entry) → Ascend (front ++ (y ∷ back)) → EndsWithDummy (front ++ (y ∷ back)) → y.position ≢ end_position → entries_bytes (front ++ (y ∷ back)) ≡ entry_bytes y + entries_bytes (drop_at y.position (front ++ (y ∷ back)))
dropped_bytes front y [] a h inner = absurd (inner (last_position front y h))
dropped_bytes front y (next ∷ back) a h inner =
    bytes-with front y (next ∷ back) ∙ ap (λ n. entry_bytes y + n) (sym (ap entries_bytes (taken_out lost_mark front y next back a) ∙ bytes-same front next (with_gap lost_mark next) back refl))

spelled_row : (o : Option (Kind × List ℕ)) (y : Entry) → IsSomeAnd o (λ b. SpellsEntry b y) → IfSome y.row IsCodedRow
spelled_row None y h = absurd h
spelled_row (Some b) y h = h.row

static_sum : (head other before eighth : ℕ) → before ≤ eighth → head + (before + other) ≤ head + (0 + other) + eighth
static_sum head other before eighth small = omega (arith, small)

entry_sum : (head statics one all rest eighth : ℕ) → one ≤ eighth → all ≡ one + rest → head + (statics + all) ≤ head + (statics + rest) + eighth
entry_sum head statics one all rest eighth small is = omega (arith, small, is)

pub version-lost : (S : ℕ) (versions : List Version) (fit : FitTogether S versions) (v : Version) → Contains versions v → IsVersion v → (view : View) (r : Ref) (at : Option Pos) → HoldsPlaced view r at v → version_bytes v ≤ version_bytes (evicted_at at v) + S / 8
version-lost S versions fit v among i view r at held = evicted-by (λ w. version_bytes v ≤ version_bytes w + S / 8) at v
    (λ e. let row = subst (λ z. HoldsPlaced view r z v) e held in
    let small : statics_bytes v.statics ≤ S / 8 = subst (λ o. statics_bytes o ≤ S / 8) (sym row.1) (static_small S versions fit v among row.0 row.1 row.2.1) in
    static_sum 64 (entries_bytes v.entries) (statics_bytes v.statics) (S / 8) small)
    (λ e. let same = lost_bytes v.entries in entry_sum 64 (statics_bytes v.statics) 0 (entries_bytes v.entries) (entries_bytes (lose_last_gap v.entries)) (S / 8) (omega arith) (omega (arith, same)))
    (λ x e inner.
    let y = subst (λ z. HoldsPlaced view r z v) e held in
    let s = elem-split v.entries y.0 y.1 in
    let is : entries_bytes v.entries ≡ entry_bytes y.0 + entries_bytes (drop_at x v.entries) =
    subst (λ z. entries_bytes v.entries ≡ entry_bytes y.0 + entries_bytes (drop_at z v.entries)) y.2
    (subst (λ es. entries_bytes es ≡ entry_bytes y.0 + entries_bytes (drop_at y.0.position es)) (sym s.2)
    (dropped_bytes s.0 y.0 s.1 (subst Ascend s.2 i.ascend) (subst EndsWithDummy s.2 i.ends) (λ end. inner (sym y.2 ∙ end)))) in
    entry_sum 64 (statics_bytes v.statics) (entry_bytes y.0) (entries_bytes v.entries) (entries_bytes (drop_at x v.entries)) (S / 8) (entry_small S versions fit v among y.0 y.1 (spelled_row (body view r) y.0 y.3)) is)

-- ---- what is evicted makes no version larger

first_bytes : (m : Mark) (es : List Entry) → entries_bytes (with_first_gap m es) ≡ entries_bytes es
first_bytes m [] = refl
first_bytes m (e ∷ es) = refl

out_bytes : (m : Mark) (x : Pos) (es : List Entry) → entries_bytes (take_out m x es) ≤ entries_bytes es
out_bytes m x [] = le_refl 0
out_bytes m x (e ∷ es) =
    let one = first_bytes m es in let rest = out_bytes m x es in
    elim (eq_by_cmp pos_cmp x e.position) as (λ b. entries_bytes (cond b (with_first_gap m es) (e ∷ take_out m x es)) ≤ entry_bytes e + entries_bytes es) [ true ↦ omega (arith, one) | false ↦ omega (arith, rest) ]

less_statics : (head statics entries : ℕ) → head + (0 + entries) ≤ head + (statics + entries)
less_statics head statics entries = omega arith

less_entries : (head statics before now : ℕ) → now ≤ before → head + (statics + now) ≤ head + (statics + before)
less_entries head statics before now h = omega (arith, h)

pub version-less : (at : Option Pos) (v : Version) → version_bytes (evicted_at at v) ≤ version_bytes v
version-less at v = evicted-by (λ w. version_bytes w ≤ version_bytes v) at v
    (λ e. less_statics 64 (statics_bytes v.statics) (entries_bytes v.entries))
    (λ e. less_entries 64 (statics_bytes v.statics) (entries_bytes v.entries) (entries_bytes (lose_last_gap v.entries)) (let same = lost_bytes v.entries in omega (arith, same)))
    (λ x e inner. less_entries 64 (statics_bytes v.statics) (entries_bytes v.entries) (entries_bytes (drop_at x v.entries)) (out_bytes lost_mark x v.entries))

all_less : (j : ℕ) (at : Option Pos) (vs : List Version) → sum_by version_bytes (on_version j (evicted_at at) vs) ≤ sum_by version_bytes vs
all_less j at [] = le_refl _
all_less zero at (v ∷ vs) = let one = version-less at v in let before = sum_by-cons version_bytes v vs in let now = sum_by-cons version_bytes (evicted_at at v) vs in omega (arith, one, before, now)
all_less (suc j) at (v ∷ vs) = let rest = all_less j at vs in let before = sum_by-cons version_bytes v vs in let now = sum_by-cons version_bytes v (on_version j (evicted_at at) vs) in omega (arith, rest, before, now)

pub chain-less : (j : ℕ) (at : Option Pos) (k : KeptChain) → chain_bytes (on_shown (on_version_of j (evicted_at at)) k) ≤ chain_bytes k
chain-less j at k = all_less j at k.chain.versions

-- ---- what a chain takes

sum_step : (a b c d e : ℕ) → b ≤ d + e → a + (b + c) ≤ a + (d + c) + e
sum_step a b c d e h = omega (arith, h)

pub chain-lost : (k : KeptChain) (j : ℕ) (v : Version) (f : Version → Version) (eighth : ℕ) → IsVersionAt k.chain.versions j v → version_bytes v ≤ version_bytes (f v) + eighth → chain_bytes k ≤ chain_bytes (on_shown (on_version_of j f) k) + eighth
chain-lost k j v f eighth at less =
    let before = ap (sum_by version_bytes) at.split ∙ sum-middle version_bytes at.older at.newer v in
    let after = ap (sum_by version_bytes) (on-is k.chain.versions j v f at) ∙ sum-middle version_bytes at.older at.newer (f v) in
    subst (λ n. n ≤ chain_bytes (on_shown (on_version_of j f) k) + eighth) (sym before)
    (subst (λ n. sum_by version_bytes at.older + (version_bytes v + sum_by version_bytes at.newer) ≤ n + eighth) (sym after)
    (sum_step (sum_by version_bytes at.older) (version_bytes v) (sum_by version_bytes at.newer) (version_bytes (f v)) eighth less))

-- ---- what all chains take

pub put-lost : (cs : List (Option KeptChain)) (id : ℕ) (k l : KeptChain) (eighth : ℕ) → slice_index_or cs id None ≡ Some k → chain_bytes k ≤ chain_bytes l + eighth → sum_by chain_bytes (present cs) ≤ sum_by chain_bytes (present (put_at_number id (Some l) cs)) + eighth
put-lost cs id k l eighth there less =
    let p = placed cs id in
    let before = ap (sum_by chain_bytes) (p.there k there) ∙ sum-middle chain_bytes p.front p.back k in
    let after = ap (sum_by chain_bytes) (p.with_one l) ∙ sum-middle chain_bytes p.front p.back l in
    subst (λ n. n ≤ sum_by chain_bytes (present (put_at_number id (Some l) cs)) + eighth) (sym before)
    (subst (λ n. sum_by chain_bytes p.front + (chain_bytes k + sum_by chain_bytes p.back) ≤ n + eighth) (sym after)
    (sum_step (sum_by chain_bytes p.front) (chain_bytes k) (sum_by chain_bytes p.back) (chain_bytes l) eighth less))

pub put-less : (cs : List (Option KeptChain)) (id : ℕ) (k l : KeptChain) → slice_index_or cs id None ≡ Some k → chain_bytes l ≤ chain_bytes k → sum_by chain_bytes (present (put_at_number id (Some l) cs)) ≤ sum_by chain_bytes (present cs)
put-less cs id k l there less =
    let p = placed cs id in
    let before : sum_by chain_bytes (present cs) ≡ sum_by chain_bytes p.front + (chain_bytes k + sum_by chain_bytes p.back) = ap (sum_by chain_bytes) (p.there k there) ∙ sum-middle chain_bytes p.front p.back k in
    let after : sum_by chain_bytes (present (put_at_number id (Some l) cs)) ≡ sum_by chain_bytes p.front + (chain_bytes l + sum_by chain_bytes p.back) = ap (sum_by chain_bytes) (p.with_one l) ∙ sum-middle chain_bytes p.front p.back l in
    omega (arith, before, after, less)

gone_sum : (a b c : ℕ) → a + (b + c) ≡ a + c + b
gone_sum a b c = omega arith

pub put-gone : (cs : List (Option KeptChain)) (id : ℕ) (k : KeptChain) → slice_index_or cs id None ≡ Some k → sum_by chain_bytes (present cs) ≡ sum_by chain_bytes (present (put_at_number id None cs)) + chain_bytes k
put-gone cs id k there =
    let p = placed cs id in
    ap (sum_by chain_bytes) (p.there k there) ∙ sum-middle chain_bytes p.front p.back k ∙ gone_sum (sum_by chain_bytes p.front) (chain_bytes k) (sum_by chain_bytes p.back)
    ∙ ap (λ n. n + chain_bytes k) (sym (ap (sum_by chain_bytes) p.without ∙ sum-without chain_bytes p.front p.back))

-- ---- a chain of which nothing is listed

no_statics : (o : Option Row) → (IsSome o → ⊥) → statics_bytes o ≡ 0
no_statics None h = refl
no_statics (Some row) h = absurd (h refl)

alone_bytes : (es : List Entry) → Ascend es → EndsWithDummy es → ((x : Pos) → HasEntryAt x es → x ≡ end_position) → entries_bytes es ≡ 88
alone_bytes [] a h only = absurd h
alone_bytes (e ∷ []) a h only = let is : bytes_at e.position e.row ≡ bytes_at end_position None = λ i. bytes_at (h.0 i) (h.1 i) in omega (arith, is)
alone_bytes (e ∷ f ∷ es) a h only = absurd (ahead-inner e f es a h (only e.position (inl refl)))

bare_sum : (statics entries : ℕ) → statics ≡ 0 → entries ≡ 88 → 64 + (statics + entries) ≡ 152
bare_sum statics entries a b = omega (arith, a, b)

each_bare : (vs : List Version) → ((v : Version) → Contains vs v → version_bytes v ≡ 152) → sum_by version_bytes vs ≡ 152 * length vs
each_bare [] bare = refl
each_bare (v ∷ vs) bare =
    let first = bare v (elem-first v vs) in let rest = each_bare vs (λ w on. bare w (later w on)) in let sum = sum_by-cons version_bytes v vs in omega (arith, first, rest, sum)
  where
    later : (w : Version) → Contains vs w → Contains (v ∷ vs) w
    later w on = (suc on.0, omega (arith, on.1), on.2)

module _ (m : Memory) (id : ℕ) (k : KeptChain) (there : chain_at m id ≡ Some k) (rule : IsRecency m) (versions : (i j : ℕ) → OfVersion m i j (λ k v. IsVersion v)) (idle : IsIdle m id k.chain) where
  -- an object that is not the end dummy is listed
  never : (j : ℕ) (v : Version) (at : Option Pos) → IsVersionAt k.chain.versions j v → HasObject v at → at ≢ Some end_position → ⊥
  never j v at number object inner = idle.unlisted j at (rule.complete (member_at id j at) (there_at (λ q. MustBeListed q.chain j at) (chain_at m id) k (record {
    cached = idle.cached;
    version = v;
    number = number;
    object = object;
    inner = inner;
    passed = λ u. absurd (let clash = sym idle.settled ∙ u.0 in cc clash);
  }) there))

  bare_one : (v : Version) → Contains k.chain.versions v → version_bytes v ≡ 152
  bare_one v on =
      let s = elem-split k.chain.versions v on in
      let number : IsVersionAt k.chain.versions (length s.0) v = record { older = s.0; newer = s.1; split = s.2; number = refl } in
      let i = versions id (length s.0) k v there number in
      bare_sum (statics_bytes v.statics) (entries_bytes v.entries)
      (no_statics v.statics (λ row. never (length s.0) v None number row (λ e. cc e)))
      (alone_bytes v.entries i.ascend i.ends (λ x has. elim (pos_decided x end_position) [ inl e ↦ e | inr ne ↦ absurd (never (length s.0) v (Some x) number has (λ e. ne (cc e))) ]))

  pub idle-bytes : chain_bytes k ≡ 152 * length k.chain.versions
  idle-bytes = each_bare k.chain.versions bare_one
