-- What a call on one version asks for, and what is known after it.
use Rattle.std.proofs.Common.{◌≡◌, ◌≤◌, ℕ, List, Some, None, inl, inr, sym, ap, ◌∙◌, subst, map, arith}
use Rattle.std.specs.Prelude.{Contains, IfSome}
use Rattle.std.specs.Option.{option_map}
use Rattle.rc_cell.specs.declared.rows.Row.{Row}
use Rattle.rc_cell.specs.declared.writes.Tomb.{Tomb}
use Rattle.rc_cell.specs.Winner.{IsRow}
use Rattle.rc_position.specs.declared.positions.Pos.{Pos}
use Rattle.rc_rowcode.specs.Objects.{static_size}
use Rattle.rc_rowcode.specs.Spelling.{KeyFits, RowFits}
use Rattle.rc_core.specs.declared.entries.ChainKind.TheVariants.{Cache}
use Rattle.rc_core.specs.AtPlace.{HasEntryAt}
use Rattle.rc_core.specs.Change.{drop_at, entry_changed, gap_split, joined_onto, raised_mark}
use Rattle.rc_core.specs.Continuity.{with_entries, without_statics}
use Rattle.rc_core.specs.Steps.{join_statics, on_version, range_joined, row_joined}
use Rattle.rc_core.specs.Version.{Finding, IsVersion, On, Version, finding_in}
use Rattle.rc_core.specs.laws.Spots.{join_row-there}
use Rattle.rc_version.specs.Versions.{joined_bytes}
use Rattle.rc_memory.specs.Memory.{KeptChain, Member, Memory, HasVersion, IsVersionAt, chain_at, on_chain, on_shown, on_version_of}
use Rattle.rc_memory.specs.Kept.{IsSoundChain}
use Rattle.rc_memory.specs.Changes.{FitsChanged, KeepsLast, IsRenewedWhereNone, IsWithout, KeepsRows, OfVersion, member_at}
use Rattle.rc_memory.specs.Recency.{IsUnderUpdate}
use Rattle.rc_memory.specs.laws.At.{found-version}
use Rattle.rc_memory.specs.laws.Entries.{split-has}
use Rattle.rc_memory.specs.laws.Listed.{one-at}
use Rattle.rc_memory.specs.laws.Places.{same_some}
use Rattle.rc_memory.specs.laws.Recent.{on-at}
use Rattle.rc_memory.specs.laws.Renewed.{without-still}
use Rattle.rc_memory.specs.laws.Rows.{NoPosition, keeps-marks, object-alike, within-alike, within-dropped, within-undone}
use Rattle.rc_chain_guarded.specs.declared.known.Known.{Known}
use Rattle.rc_chain_guarded.specs.Guarded.{HaveCodedParts, IsTracked, HasCodedParts}
use Rattle.rc_chain_guarded.specs.calls.Inner.{IsLastListed, IsLone, IsKnownBeside}
use Rattle.rc_chain_guarded.proofs.Limits.{joined-bytes-small, joined-static-small, limits-fit, limits-joined, limits-split, limits-statics, limits-within, onto-fits, onto-is_row, seen-fits}
use Rattle.rc_chain_guarded.proofs.Listed.{has-decided, last-keeps, renewed-here, where_none-more}
use Rattle.rc_chain_guarded.proofs.Steps.{KeepsEntries, KeepsListed, from-if, from-some, known-changed, limits-on, put_here, to-if, version-among}

-- ---- versions within the limits

module _ (m : Memory) (id j : ℕ) (limits : (i : ℕ) → IfSome (chain_at m i) HaveCodedParts) where
  pub limits-at : OfVersion m id j (λ k v. HasCodedParts v)
  limits-at k v at number = from-if HaveCodedParts (chain_at m id) k (limits id) at v (version-among k.chain.versions j v number)

  pub fits-changed : (f : Version → Version) → ((v : Version) → HasCodedParts v → HasCodedParts (f v)) → FitsChanged 131072 id j f m
  fits-changed f keeps = to-if _ (chain_at m id) (λ k at. limits-fit (on_version j f k.chain.versions) (limits-on j f k keeps (from-if HaveCodedParts (chain_at m id) k (limits id) at)))

  pub row-spare : (x : Pos) (row : Row) (spare : ℕ) → KeyFits x.prefix → RowFits row → IsRow row → 8952 ≤ spare → OfVersion m id j (λ k v. joined_bytes x row v ≤ spare)
  row-spare x row spare fits h is room k v at number = let small = joined-bytes-small x row v fits h is (limits-at k v at number) in omega (arith, small, room)

  pub static-spare : (row : Row) (spare : ℕ) → RowFits row → IsRow row → 8638 ≤ spare → OfVersion m id j (λ k v. static_size (joined_onto v.statics row) ≤ spare)
  static-spare row spare h is room k v at number = let small = joined-static-small row v h is (limits-at k v at number) in omega (arith, small, room)

pub limits-kept : (f : Version → Version) → KeepsRows f → (v : Version) → HasCodedParts v → HasCodedParts (f v)
limits-kept f keeps v h = limits-within NoPosition v (f v) (within-alike v (f v) (keeps v).0 (keeps v).1) (λ y none. absurd none) h

pub limits-dropped : (x : Pos) (v : Version) → HasCodedParts v → HasCodedParts (with_entries (drop_at x v.entries) v)
limits-dropped x v h = limits-within NoPosition v _ (within-dropped x v) (λ y none. absurd none) h

pub limits-undone : (v : Version) → HasCodedParts v → HasCodedParts (without_statics v)
limits-undone v h = limits-within NoPosition v _ (within-undone v) (λ y none. absurd none) h

-- ---- what is known

pub same-listed : (m n : Memory) → n.recency ≡ m.recency → KeepsListed m n
same-listed m n list i l x inner on = subst (λ ws. Contains ws (member_at i l (Some x))) (sym list) on

module _ (m n : Memory) (id j : ℕ) (f : Version → Version) (is : n.chains ≡ on_chain id (on_shown (on_version_of j f)) m.chains) (there : HasVersion m id j) (known new : Known) (h : IsTracked m known)
    (held : new.held ≡ known.held) (full : new.full ≡ known.full) (beside : IsKnownBeside id j known new) where
  -- rows and positions stay, and the list
  pub known-kept : KeepsRows f → n.recency ≡ m.recency → IsTracked n new
  known-kept keeps list = known-changed m n id j f is there known new h held full beside (limits-kept f keeps) (same-listed m n list)
      (λ k v x at number on. inl (object-alike (f v) v (sym (keeps v).0) (sym (keeps v).1) (Some x) on))

  -- the entries stay
  pub known-entries : ((v : Version) → HasCodedParts v → HasCodedParts (f v)) → ((v : Version) → (f v).entries ≡ v.entries) → KeepsListed m n → IsTracked n new
  known-entries limits same listed = known-changed m n id j f is there known new h held full beside limits listed (λ k v x at number on. inl (subst (HasEntryAt x) (same v) on))

-- the static row left the list
pub undone-listed : (m n : Memory) (id j : ℕ) → IsWithout (member_at id j None) m.recency n.recency → KeepsListed m n
undone-listed m n id j without i l x inner on = without-still (member_at id j None) m.recency n.recency without (member_at i l (Some x)) (λ e. let clash : None ≡ Some x = ap (λ (w : Member). w.position) e in cc) on

-- ---- a row that was joined

module _ (m n : Memory) (id j : ℕ) (x : Pos) (row : Row) (is : n.chains ≡ on_chain id (on_shown (on_version_of j (row_joined x row))) m.chains) (there : HasVersion m id j)
    (versions : (i l : ℕ) → OfVersion m i l (λ k v. IsVersion v)) (limits : (i : ℕ) → IfSome (chain_at m i) HaveCodedParts) (fits : RowFits row) (is_row : IsRow row) where
  pub joined-there : (joined : Row) × RowFits joined × IsRow joined × OfVersion n id j (λ k v. (finding_in (On x) v.entries).row ≡ Some joined)
  joined-there =
      let a = found-version m id j there in let old = (finding_in (On x) a.1.entries).row in
      let rows = (limits-at m id j limits a.0 a.1 a.2 a.3).rows in
      (joined_onto old row, onto-fits old row (seen-fits (On x) a.1.entries rows) fits, onto-is_row old row is_row, after a.0 a.1 a.2 a.3)
    where
      after : (k : KeptChain) (v : Version) → chain_at m id ≡ Some k → IsVersionAt k.chain.versions j v → OfVersion n id j (λ q w. (finding_in (On x) w.entries).row ≡ Some (joined_onto (finding_in (On x) v.entries).row row))
      after k v at number q w later number_later =
          let here : chain_at n id ≡ Some (on_shown (on_version_of j (row_joined x row)) k) = put_here m n id _ is ∙ ap (option_map (on_shown (on_version_of j (row_joined x row)))) at in
          let same = same_some q (on_shown (on_version_of j (row_joined x row)) k) (sym later ∙ here) in
          let one : w ≡ row_joined x row v = one-at (on_version j (row_joined x row) k.chain.versions) j w (row_joined x row v) (subst (λ (z : KeptChain). IsVersionAt z.chain.versions j w) same number_later) (on-at k.chain.versions j v (row_joined x row) number) in
          ap (λ (z : Version). (finding_in (On x) z.entries).row) one ∙ ap (λ (z : Finding). z.row) (join_row-there x row v.entries (versions id j k v at number).ends)

-- ---- a range tombstone that was joined

module _ (m n : Memory) (id j : ℕ) (from to : Pos) (tomb : Tomb) (there : HasVersion m id j)
    (renewed : OfVersion m id j (λ k v. (mid : List Member) × IsRenewedWhereNone k.chain.kind v (member_at id j (Some from)) m.recency mid × IsRenewedWhereNone k.chain.kind v (member_at id j (Some to)) mid n.recency)) where
  pub ranged-listed : KeepsListed m n
  ranged-listed i l x inner on =
      let a = found-version m id j there in let r = renewed a.0 a.1 a.2 a.3 in
      where_none-more a.0.chain.kind a.1 (member_at id j (Some to)) r.0 n.recency r.2 (member_at i l (Some x)) (where_none-more a.0.chain.kind a.1 (member_at id j (Some from)) m.recency r.0 r.1 (member_at i l (Some x)) on)

  pub ranged-only : ((i : ℕ) → IfSome (chain_at m i) (λ k. IsSoundChain k.chain)) → KeepsEntries id j (range_joined from to tomb) m n
  ranged-only sound k v x at number on =
      let r = renewed k v at number in let kind = k.chain.kind in
      let cached : IsUnderUpdate k.chain j → kind ≡ Cache = λ u. (from-if (λ (k : KeptChain). IsSoundChain k.chain) (chain_at m id) k (sound id) at).cached u.0 in
      let halves : Version = with_entries (gap_split to (gap_split from v.entries)) v in
      let keeps = keeps-marks (raised_mark (Some tomb)) from to halves in
      elim (split-has to x (gap_split from v.entries) (object-alike (range_joined from to tomb v) halves (sym keeps.0) (sym keeps.1) (Some x) on)) [
        | inl first ↦ elim (split-has from x v.entries first) [
          | inl old ↦ inl old
          | inr same ↦ elim (has-decided from v.entries) [
            | inl old ↦ inl (subst (λ z. HasEntryAt z v.entries) (sym same) old)
            | inr none ↦ inr (λ u. subst (λ z. Contains n.recency (member_at id j (Some z))) (sym same) (where_none-more kind v (member_at id j (Some to)) r.0 n.recency r.2 (member_at id j (Some from))
                (renewed-here (member_at id j (Some from)) m.recency r.0 kind (cached u) (r.1.made none))))
          ]
        ]
        | inr same ↦ elim (has-decided to v.entries) [
          | inl old ↦ inl (subst (λ z. HasEntryAt z v.entries) (sym same) old)
          | inr none ↦ inr (λ u. subst (λ z. Contains n.recency (member_at id j (Some z))) (sym same) (renewed-here (member_at id j (Some to)) r.0 n.recency kind (cached u) (r.2.made none)))
        ]
      ]

pub limits-ranged : (from to : Pos) (tomb : Tomb) (v : Version) → KeyFits from.prefix → KeyFits to.prefix → HasCodedParts v → HasCodedParts (range_joined from to tomb v)
limits-ranged from to tomb v fits fits_to h =
    limits-kept (λ w. with_entries (map (entry_changed (raised_mark (Some tomb)) from to) w.entries) w) (keeps-marks (raised_mark (Some tomb)) from to) (with_entries (gap_split to (gap_split from v.entries)) v)
    (limits-split to (with_entries (gap_split from v.entries) v) fits_to (limits-split from v fits h))

-- ---- a row of another version

-- what `join_like` asks for of the entry of a row that was joined
module _ (m : Memory) (id j : ℕ) (limits : (i : ℕ) → IfSome (chain_at m i) HaveCodedParts) (from_id from_j : ℕ) where
  pub like-fits : (w : Member) (y x : Pos) → w ≡ member_at from_id from_j (Some x) → y ≡ x → (row : Row) → OfVersion m from_id from_j (λ k v. (finding_in (On x) v.entries).row ≡ Some row) → KeyFits x.prefix → RowFits row → IsRow row
      → (spare : ℕ) → 8952 ≤ spare → IsLastListed id j m
      → (row : Row) × OfVersion m w.chain w.version (λ k v. (finding_in (On y) v.entries).row ≡ Some row) × OfVersion m id j (λ k v. joined_bytes y row v ≤ spare) × FitsChanged 131072 id j (row_joined y row) m × KeepsLast id j (row_joined y row) m
  like-fits w y x same position row there key fits is spare room last = (
    row,
    subst (λ (z : Member). OfVersion m z.chain z.version (λ k v. (finding_in (On y) v.entries).row ≡ Some row)) (sym same) (subst (λ p. OfVersion m from_id from_j (λ k v. (finding_in (On p) v.entries).row ≡ Some row)) (sym position) there),
    row-spare m id j limits y row spare (subst (λ (p : Pos). KeyFits p.prefix) (sym position) key) fits is room,
    fits-changed m id j limits (row_joined y row) (λ v h. limits-joined y row v (subst (λ (p : Pos). KeyFits p.prefix) (sym position) key) fits h),
    last-keeps m id j (row_joined y row) last,
  )

  -- and of a static row
  pub static-fits : (row : Row) → IsLone from_id from_j row m → (w : Member) (told : Row) → w ≡ member_at from_id from_j None → OfVersion m w.chain w.version (λ k v. v.statics ≡ Some told) → RowFits row → IsRow row → (spare : ℕ) → 8638 ≤ spare
      → OfVersion m id j (λ k v. static_size (joined_onto v.statics told) ≤ spare) × FitsChanged 131072 id j (join_statics told) m
  static-fits row lone w told same there fits is spare room =
      let a = from-some _ (chain_at m from_id) lone in let b = a.2.1 in
      let here = subst (λ (z : Member). OfVersion m z.chain z.version (λ k v. v.statics ≡ Some told)) same there in
      let one : row ≡ told = same_some row told (sym b.2 ∙ here a.0 b.0 a.1 b.1) in
      subst (λ r. OfVersion m id j (λ k v. static_size (joined_onto v.statics r) ≤ spare) × FitsChanged 131072 id j (join_statics r) m) one
      (static-spare m id j limits row spare fits is room, fits-changed m id j limits (join_statics row) (λ v h. limits-statics row v fits h))
