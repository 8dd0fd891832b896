-- A version that was put over those of a cache chain, and what is made in it first.
use Rattle.std.proofs.Common.{◌≡◌, ◌≢◌, ◌<◌, ℕ, true, false, List, [], ◌∷◌, ◌++◌, Option, Some, None, length, inl, inr, refl, sym, ap, ◌∙◌, subst, slice_index_or}
use Rattle.std.specs.Prelude.{Contains, IsSomeAnd}
use Rattle.std.specs.Option.{option_map}
use Rattle.std.specs.Ordering.{is_gt}
use Rattle.std.specs.declared.cmp.Ordering.{Ordering}
use Rattle.std.specs.declared.cmp.Ordering.TheVariants.{Less, Equal, Greater}
use Rattle.lsa_store.specs.declared.place.Ref.{Ref}
use Rattle.rc_cell.specs.declared.rows.Row.{Row}
use Rattle.rc_position.specs.declared.positions.Pos.{Pos}
use Rattle.rc_position.specs.Position.{IsBefore, pos_cmp}
use Rattle.rc_position.specs.laws.Bounds.{last_pos-greatest}
use Rattle.rc_position.specs.laws.Orders.{pos_cmp_same}
use Rattle.rc_core.specs.declared.entries.ChainKind.TheVariants.{Cache}
use Rattle.rc_core.specs.declared.entries.Entry.{Entry}
use Rattle.rc_core.specs.declared.entries.Flag.{Flag}
use Rattle.rc_core.specs.declared.entries.Flag.TheVariants.{Inherit}
use Rattle.rc_core.specs.AtPlace.{HasEntryAt}
use Rattle.rc_core.specs.Change.{dummy, gap_split, mark, split_by}
use Rattle.rc_core.specs.Continuity.{with_entries}
use Rattle.rc_core.specs.Steps.{join_flagged_statics, on_version, version_of}
use Rattle.rc_core.specs.Version.{EndsWithDummy, IsVersion, Version, end_position}
use Rattle.rc_partition.specs.laws.Lists.{elem-first, elem-split}
use Rattle.rc_memory.specs.Memory.{KeptChain, Member, Memory, HasVersion, IsMemberObject, IsVersionAt, chain_at, on_chain, on_shown, on_version_of}
use Rattle.rc_memory.specs.Changes.{IsRenewedWhereNone, KeepsLast, OfVersion, member_at}
use Rattle.rc_memory.specs.Recency.{HasObject, IsRecency, IsUnderUpdate, MayBeListed, MustBeListed}
use Rattle.rc_memory.specs.laws.At.{number-low}
use Rattle.rc_memory.specs.laws.Listed.{one-at}
use Rattle.rc_memory.specs.laws.Places.{same_some}
use Rattle.rc_memory.specs.laws.Recent.{on-at}
use Rattle.rc_memory.specs.laws.Rules.{length-on}
use Rattle.rc_chain_guarded.specs.calls.Inner.{HasLone, IsBegun, IsLone}
use Rattle.rc_chain_guarded.proofs.Listed.{renewed-here}
use Rattle.rc_chain_guarded.proofs.Steps.{from-some, put_here, to-if, to-some}

no_inner : (front : List Entry) (d e end : Entry) → d ∷ [] ≡ front ++ (e ∷ end ∷ []) → ⊥
no_inner [] d e end clash = cc clash
no_inner (f ∷ []) d e end clash = cc clash
no_inner (f ∷ g ∷ front) d e end clash = cc clash

module _ (m : Memory) (id j phase : ℕ) (fresh : IsBegun id j phase m) where
  abbrev over : Version
  over = version_of Inherit None phase

  found : (k : KeptChain) × (chain_at m id ≡ Some k) × (k.chain.kind ≡ Cache) × IsUnderUpdate k.chain j × IsVersionAt k.chain.versions j over
  found = let f = from-some (λ (k : KeptChain). (k.chain.kind ≡ Cache) × IsUnderUpdate k.chain j × IsVersionAt k.chain.versions j over) (chain_at m id) fresh in (f.0, f.1, f.2.0, f.2.1, f.2.2)

  -- the version is there
  pub fresh-has : HasVersion m id j
  fresh-has = to-some (λ (k : KeptChain). j < length k.chain.versions) (chain_at m id) found.0 found.1 (number-low found.0.chain.versions j over found.4)

  -- which it is
  is_over : (k : KeptChain) (v : Version) → chain_at m id ≡ Some k → IsVersionAt k.chain.versions j v → v ≡ over
  is_over k v at number = let same = same_some found.0 k (sym found.1 ∙ at) in one-at k.chain.versions j v over number (subst (λ (q : KeptChain). IsVersionAt q.chain.versions j over) same found.4)

  -- it has no entry before the end
  pub fresh-last : (f : Version → Version) → KeepsLast id j f m
  fresh-last f = to-if _ (chain_at m id) (λ k at v number u place l. absurd (no_inner l.0 (dummy end_position (mark Inherit None)) l.1 l.2 (ap (λ (w : Version). w.entries) (sym (is_over k v at number)) ∙ l.3)))

  -- the static row that is joined first
  pub fresh-static : (n : Memory) (row : Row) (flag : Flag) → n.chains ≡ on_chain id (on_shown (on_version_of j (join_flagged_statics row flag))) m.chains → IsLone id j row n
  fresh-static n row flag is =
      let f = join_flagged_statics row flag in let k = found.0 in
      to-some _ (chain_at n id) (on_shown (on_version_of j f) k) (put_here m n id _ is ∙ ap (option_map (on_shown (on_version_of j f))) found.1)
      ((found.3.0, found.3.1 ∙ sym (length-on j f k.chain.versions)), (f over, on-at k.chain.versions j over f found.4, refl, (dummy end_position (mark Inherit None), refl)))

  -- the dummy that is made first, before the end
  module _ (x : Pos) (inner : x ≢ end_position) (before : IsBefore x end_position) (n : Memory) (is : n.chains ≡ on_chain id (on_shown (on_version_of j (λ c. with_entries (gap_split x c.entries) c))) m.chains)
      (renewed : OfVersion m id j (λ k v. IsRenewedWhereNone k.chain.kind v (member_at id j (Some x)) m.recency n.recency)) where
    none_there : HasObject over (Some x) → ⊥
    none_there (inl here) = inner (sym here)
    none_there (inr later) = later

    pub fresh-listed : (front : List Member) × (back : List Member) × (n.recency ≡ front ++ (member_at id j (Some x) ∷ back))
    fresh-listed = elem-split n.recency (member_at id j (Some x)) (renewed-here (member_at id j (Some x)) m.recency n.recency found.0.chain.kind found.2 ((renewed found.0 over found.1 found.4).made none_there))

    split_over : gap_split x over.entries ≡ dummy x (mark Inherit None) ∷ dummy end_position (mark Inherit None) ∷ []
    split_over = ap (λ (r : Ordering). split_by r x (dummy end_position (mark Inherit None)) [] []) before

    -- it is the last one, which need not be listed
    pub fresh-free : IsSomeAnd (chain_at n id) (λ k. MustBeListed k.chain j (Some x)) → ⊥
    fresh-free must =
        let f : Version → Version = λ c. with_entries (gap_split x c.entries) c in let k = found.0 in
        let q = from-some (λ (k : KeptChain). MustBeListed k.chain j (Some x)) (chain_at n id) must in
        let here : chain_at n id ≡ Some (on_shown (on_version_of j f) k) = put_here m n id _ is ∙ ap (option_map (on_shown (on_version_of j f))) found.1 in
        let same = same_some q.0 (on_shown (on_version_of j f) k) (sym q.1 ∙ here) in let p = subst (λ (z : KeptChain). MustBeListed z.chain j (Some x)) same q.2 in
        let version : p.version ≡ f over = one-at (on_version j f k.chain.versions) j p.version (f over) p.number (on-at k.chain.versions j over f found.4) in
        p.passed (found.3.0, found.3.1 ∙ sym (length-on j f k.chain.versions))
        ([], dummy x (mark Inherit None), dummy end_position (mark Inherit None), ap (λ (w : Version). w.entries) version ∙ split_over, refl)

-- ---- a static row alone in the list

one_end : (e : Entry) (x : Pos) → EndsWithDummy (e ∷ []) → HasEntryAt x (e ∷ []) → x ≡ end_position
one_end e x ends (inl here) = sym here ∙ ends.0
one_end e x ends (inr later) = absurd later

module _ (m : Memory) (id j : ℕ) (row : Row) (lone : IsLone id j row m) where
  alone : (k : KeptChain) × (chain_at m id ≡ Some k) × IsUnderUpdate k.chain j × ((v : Version) × IsVersionAt k.chain.versions j v × (v.statics ≡ Some row) × ((e : Entry) × (v.entries ≡ e ∷ [])))
  alone = let f = from-some (λ (k : KeptChain). IsUnderUpdate k.chain j × ((v : Version) × IsVersionAt k.chain.versions j v × (v.statics ≡ Some row) × ((e : Entry) × (v.entries ≡ e ∷ [])))) (chain_at m id) lone in (f.0, f.1, f.2.0, f.2.1)

  pub lone-statics : OfVersion m id j (λ k v. v.statics ≡ Some row)
  lone-statics k v at number =
      let same = same_some alone.0 k (sym alone.1 ∙ at) in let there = alone.3 in
      ap (λ (w : Version). w.statics) (one-at k.chain.versions j v there.0 number (subst (λ (q : KeptChain). IsVersionAt q.chain.versions j there.0) same there.1)) ∙ there.2

  -- what is listed of the version
  pub lone-none : IsRecency m → ((i l : ℕ) → OfVersion m i l (λ k v. IsVersion v)) → (at : Option Pos) → Contains m.recency (member_at id j at) → at ≡ None
  lone-none rule versions at on =
      let q = from-some (λ (k : KeptChain). MayBeListed k.chain j at) (chain_at m id) (rule.members (member_at id j at) on) in let there = alone.3 in
      let same = same_some q.0 alone.0 (sym q.1 ∙ alone.1) in let p = subst (λ (z : KeptChain). MayBeListed z.chain j at) same q.2 in
      let version : p.version ≡ there.0 = one-at alone.0.chain.versions j p.version there.0 p.number there.1 in
      of at (subst (λ (w : Version). HasObject w at) version p.object) (p.settled alone.2) (versions id j alone.0 there.0 alone.1 there.1)
    where
      of : (a : Option Pos) → HasObject alone.3.0 a → a ≢ Some end_position → IsVersion alone.3.0 → a ≡ None
      of None h ne is = refl
      of (Some x) h ne is = absurd (ne (ap (λ z. Some z) (one_end alone.3.3.0 x (subst EndsWithDummy alone.3.3.1 is.ends) (subst (HasEntryAt x) alone.3.3.1 h))))

-- a chain that did not change has it still
pub lone-same : (m n : Memory) (id j : ℕ) (row : Row) → n.chains ≡ m.chains → IsLone id j row m → IsLone id j row n
lone-same m n id j row same lone = subst (λ cs. IsSomeAnd (slice_index_or cs id None) (HasLone j row)) (sym same) lone

-- the first object of the list, where it is one of the version
pub home-none : (m : Memory) (r : Ref) (w : Member) (rest : List Member) → m.recency ≡ w ∷ rest → IsMemberObject m r w → (id j : ℕ) (row : Row) → IsLone id j row m → IsRecency m → ((i l : ℕ) → OfVersion m i l (λ k v. IsVersion v)) → w.chain ≡ id → w.version ≡ j
    → IsMemberObject m r (member_at id j None)
home-none m r w rest list here id j row lone rule versions chain version =
    let is : w ≡ member_at id j w.position = λ i. record { chain = chain i; version = version i; position = w.position } in
    let at = lone-none m id j row lone rule versions w.position (subst (Contains m.recency) is (subst (λ l. Contains l w) (sym list) (elem-first w rest))) in
    subst (IsMemberObject m r) (is ∙ ap (member_at id j) at) here

-- what is not the end dummy's position stands before it
pub inner-before : (x : Pos) → x ≢ end_position → IsBefore x end_position
inner-before x inner = elim (pos_cmp x end_position) as (λ r. pos_cmp x end_position ≡ r → r ≡ Less) [
  | Less ↦ λ e. refl
  | Equal ↦ λ e. absurd (inner (pos_cmp_same x end_position e))
  | Greater ↦ λ e. absurd (let clash : true ≡ false = ap is_gt (sym e) ∙ last_pos-greatest x in cc clash)
] refl
