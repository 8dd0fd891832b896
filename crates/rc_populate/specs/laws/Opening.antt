-- A cache chain that is made and whose static row is filled then.
use Rattle.std.proofs.Common.{inl, inr, ◌≡◌, ◌<◌, ◌≤◌, ◌/◌, ℕ, zero, suc, true, false, List, [], ◌∷◌, ◌++◌, Option, Some, None, cond, length, slice_index_or, refl, sym, ap, ◌∙◌, subst, arith}
use Rattle.std.specs.Prelude.{Contains, IfSome, IsSome, IsSomeAnd}
use Rattle.std.specs.Option.{option_map}
use Rattle.std.proofs.lemmas.List.{append_assoc}
use Rattle.rc_cell.specs.declared.rows.Row.{Row}
use Rattle.rc_cell.specs.declared.writes.Tomb.{Tomb}
use Rattle.rc_cell.specs.Orders.{tomb_cmp}
use Rattle.rc_cell.specs.Winner.{IsRow, joined_row}
use Rattle.rc_cell.specs.laws.{joined_row-cons, joined_row-one, joined_row-same}
use Rattle.rc_cell.specs.laws.Greatest.{greatest-none}
use Rattle.rc_rowcode.specs.Objects.{static_size}
use Rattle.rc_mutation.specs.Fragments.{is_written}
use Rattle.rc_core.specs.declared.entries.ChainKind.TheVariants.{Cache}
use Rattle.rc_core.specs.declared.entries.Flag.TheVariants.{Unknown}
use Rattle.rc_core.specs.Continuity.{IsWithin, fill_statics, joined_options}
use Rattle.rc_core.specs.Steps.{on_version, version_of}
use Rattle.rc_core.specs.Version.{Version, end_position, static_state}
use Rattle.rc_partition.specs.laws.Lists.{elem-cases, elem-first, elem-here, elem-later, elem-none}
use Rattle.rc_version.specs.Versions.{statics_bytes}
use Rattle.rc_registry.specs.Registry.{put_at_number}
use Rattle.rc_memory.specs.Memory.{HasVersion, KeptChain, Member, Memory, IsVersionAt, chain_at, on_shown, on_version_of}
use Rattle.rc_memory.specs.Recency.{IsRecency, MayBeListed}
use Rattle.rc_memory.specs.Room.{ChainsFit, FitTogether}
use Rattle.rc_memory.specs.Changes.{AtAlone, FitsChanged, IsVersionChanged, IsWithout, Nowhere, OfVersion, member_at}
use Rattle.rc_memory.specs.laws.Listed.{one-at}
use Rattle.rc_memory.specs.laws.Places.{same_some}
use Rattle.rc_memory.specs.laws.Put.{put-at}
use Rattle.rc_memory.specs.laws.Still.{still-then, still-wider, unmoved-then}
use Rattle.rc_chain.specs.Lives.{IsChainMade, chain_of_new, with_end_listed}
use Rattle.rc_populate.specs.Filling.{IsEntryOpened, IsGivenListed, chain_opened, filled_statics, opened_places}

pub put-put : {X : Type 0} (xs : List (Option X)) (n : ℕ) (a b : Option X) → put_at_number n a (put_at_number n b xs) ≡ put_at_number n a xs
put-put [] zero a b = refl
put-put [] (suc n) a b = ap (λ l. None ∷ l) (put-put [] n a b)
put-put (x ∷ xs) zero a b = refl
put-put (x ∷ xs) (suc n) a b = ap (λ l. x ∷ l) (put-put xs n a b)

-- what holds of what is there
pub some-and : {X : Type 0} (o : Option X) (P : X → Type 0) → IsSomeAnd o P → (x : X) × (o ≡ Some x) × P x
some-and None P h = absurd h
some-and (Some x) P h = (x, refl, h)

none-joined : (g : Option Row) → joined_options None g ≡ g
none-joined None = refl
none-joined (Some r) = refl

-- copies of one row join to it
copies : (row : Row) → IsRow row → (one : Row) (rows : List Row) → ((r : Row) → Contains (one ∷ rows) r → r ≡ row) → joined_row (one ∷ rows) ≡ row
copies row is one [] same = ap (λ r. joined_row (r ∷ [])) (same one (elem-first one [])) ∙ joined_row-one row is
copies row is one (two ∷ rows) same =
    ap (λ r. joined_row (r ∷ two ∷ rows)) (same one (elem-first one (two ∷ rows)))
    ∙ joined_row-cons row (two ∷ rows) is
    ∙ ap (λ r. joined_row (row ∷ r ∷ [])) (copies row is two rows (λ r on. same r (elem-later one r (two ∷ rows) on)))
    ∙ joined_row-same row is

-- what is given of a row is one
pub given-is : (row : Row) → IsRow row → IfSome (filled_statics row) IsRow
given-is row is = elim (is_written row) as (λ b. IfSome (cond b (Some row) None) IsRow) [ true ↦ is | false ↦ tt ]

-- the new version alone, before and after its static row is filled
module _ (pt : Option Tomb) (phase : ℕ) where
  abbrev pub bare : Version
  bare = version_of Unknown pt phase

  pub bare-within : (row : Row) → IsRow row → IsWithin (static_state bare) (row, None)
  bare-within row is = (joined_row-one row is, greatest-none tomb_cmp)

  only : (v w : Version) → Contains (w ∷ []) v → v ≡ w
  only v w on = elim (elem-cases w v [] on) [ inl same ↦ sym same | inr none ↦ absurd (elem-none v none) ]

  pub fits-filled : (S : ℕ) (g : Option Row) → FitTogether S (bare ∷ []) → IfSome g IsRow → statics_bytes g ≤ S / 8 → FitTogether S (fill_statics g bare ∷ [])
  fits-filled S g fit is small = record {
    rows = λ x one rows each. fit.rows x one rows (λ row on. let has = each row on in
        (bare, has.1, elem-first bare [], subst (λ (v : Version). Contains v.entries has.1) (only has.0 (fill_statics g bare) has.2) has.3, has.4, has.5));
    statics = λ one rows each. statics g is small one rows (λ row on. let has = each row on in sym (ap (λ (v : Version). v.statics) (only has.0 (fill_statics g bare) has.1)) ∙ has.2);
    positions = λ v e on in_v. fit.positions bare e (elem-first bare []) (subst (λ (w : Version). Contains w.entries e) (only v (fill_statics g bare) on) in_v);
  }
    where
      statics : (g : Option Row) → IfSome g IsRow → statics_bytes g ≤ S / 8 → (one : Row) (rows : List Row) → ((row : Row) → Contains (one ∷ rows) row → joined_options None g ≡ Some row) → static_size (joined_row (one ∷ rows)) ≤ S / 8
      statics None is small one rows each = let no : None ≡ Some one = each one (elem-first one rows) in absurd (cc)
      statics (Some r) is small one rows each = subst (λ q. static_size q ≤ S / 8) (sym (copies r is one rows (λ q on. same_some q r (sym (each q on))))) small

module _ (id phase : ℕ) (pt : Option Tomb) (old mid : Memory) (made : IsChainMade id Cache pt phase (with_end_listed Cache id 0 old.recency) old mid) where
  made-there : chain_at mid id ≡ Some (chain_of_new Cache pt phase)
  made-there = ap (λ cs. slice_index_or cs id None) made.chains ∙ put-at old.chains id (Some (chain_of_new Cache pt phase))

  made-version : (k : KeptChain) (v : Version) → chain_at mid id ≡ Some k → IsVersionAt k.chain.versions 0 v → v ≡ version_of Unknown pt phase
  made-version k v e at =
      let same : k ≡ chain_of_new Cache pt phase = same_some k (chain_of_new Cache pt phase) (sym e ∙ made-there) in
      one-at (version_of Unknown pt phase ∷ []) 0 v (version_of Unknown pt phase) (subst (λ (q : KeptChain). IsVersionAt q.chain.versions 0 v) same at) (record { older = []; newer = []; split = refl; number = refl })

  pub made-has : HasVersion mid id 0
  made-has = subst (λ (o : Option KeptChain). IsSomeAnd o (λ k. 0 < length k.chain.versions)) (sym made-there) (omega arith)

  pub made-within : (row : Row) → IsRow row → OfVersion mid id 0 (λ k v. IsWithin (static_state v) (row, None))
  made-within row is k v e at = subst (λ w. IsWithin (static_state w) (row, None)) (sym (made-version k v e at)) (bare-within pt phase row is)

  pub made-fits : (S : ℕ) (g : Option Row) → ChainsFit S mid → IfSome g IsRow → statics_bytes g ≤ S / 8 → FitsChanged S id 0 (fill_statics g) mid
  made-fits S g fit is small = subst (λ (o : Option KeptChain). IfSome o (λ k. FitTogether S (on_version 0 (fill_statics g) k.chain.versions))) (sym made-there)
      (fits-filled pt phase S g (subst (λ (o : Option KeptChain). IfSome o (λ k. FitTogether S k.chain.versions)) made-there (fit id)) is small)

  -- its static row is not in the list, since it has none
  static-off : IsRecency mid → Contains mid.recency (member_at id 0 None) → ⊥
  static-off rule on =
      let may = some-and (chain_at mid id) (λ k. MayBeListed k.chain 0 None) (rule.members (member_at id 0 None) on) in
      let no : false ≡ true = subst (λ (v : Version). IsSome v.statics) (made-version may.0 may.2.version may.1 may.2.number) may.2.object in
      absurd (cc)

  module _ (g : Option Row) (new : Memory) (filled : IsVersionChanged id 0 (fill_statics g) (AtAlone (member_at id 0 None)) mid new) (listed : OfVersion mid id 0 (λ k v. IsGivenListed k.chain.kind g (member_at id 0 None) mid.recency new.recency)) (rule : IsRecency mid) where
    opened-chains : new.chains ≡ put_at_number id (Some (chain_opened pt g phase)) old.chains
    opened-chains =
        filled.chains
        ∙ ap (λ o. put_at_number id (option_map (on_shown (on_version_of 0 (fill_statics g))) o) mid.chains) made-there
        ∙ ap (λ cs. put_at_number id (Some (on_shown (on_version_of 0 (fill_statics g)) (chain_of_new Cache pt phase))) cs) made.chains
        ∙ put-put old.chains id (Some (on_shown (on_version_of 0 (fill_statics g)) (chain_of_new Cache pt phase))) (Some (chain_of_new Cache pt phase))
        ∙ ap (λ s. put_at_number id (Some (chain_opened pt s phase)) old.chains) (none-joined g)

    opened-recency : new.recency ≡ old.recency ++ opened_places id g
    opened-recency = by g (listed (chain_of_new Cache pt phase) (version_of Unknown pt phase) made-there (record { older = []; newer = []; split = refl; number = refl }))
      where
        by : (s : Option Row) → IsGivenListed Cache s (member_at id 0 None) mid.recency new.recency → new.recency ≡ old.recency ++ opened_places id s
        by None same = same ∙ made.recency
        by (Some row) renewed = renewed.2 ∙ ap (λ l. l ++ (member_at id 0 None ∷ [])) (rest-is renewed.0 renewed.1 ∙ made.recency) ∙ append_assoc old.recency (member_at id 0 (Some end_position) ∷ []) (member_at id 0 None ∷ [])
          where
            rest-is : (rest : List Member) → IsWithout (member_at id 0 None) mid.recency rest → rest ≡ mid.recency
            rest-is rest out = elim out [ inl same ↦ same.1 | inr split ↦ absurd (static-off rule (subst (λ l. Contains l (member_at id 0 None)) (sym split.2) (elem-here split.0 split.1 (member_at id 0 None)))) ]

    pub entry-opened : IsEntryOpened id pt g phase old new
    entry-opened = record {
      vacant = made.vacant;
      told = made.told;
      chains = opened-chains;
      recency = opened-recency;
      dropped = filled.dropped ∙ made.dropped;
      counts = filled.counts ∙ made.counts;
      still = still-then (λ w. w.chain ≡ id) old mid new
          (still-wider Nowhere (λ w. w.chain ≡ id) old mid (λ w off. absurd off) made.still)
          (still-wider (AtAlone (member_at id 0 None)) (λ w. w.chain ≡ id) mid new (λ w at. ap (λ (x : Member). x.chain) at) filled.still);
      region = unmoved-then old.region mid.region new.region made.region filled.region;
    }
