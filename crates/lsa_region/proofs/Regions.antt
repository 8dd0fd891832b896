-- What every region keeps, after each change.
use Rattle.std.proofs.Common.{◌≡◌, ◌≢◌, ℕ, ◌<◌, inl, inr, List, [], length, get_or, Option, Some, None, sym, ap, ◌∙◌, subst, ◌⊎◌}
use Rattle.std.specs.Prelude.{IsSome, IsSomeAnd}
use Rattle.std.specs.Option.{option_map}
use Rattle.lsa_kinds.specs.declared.kind.Kind.{Kind}
use Rattle.lsa_kinds.specs.Kinds.{links_of}
use Rattle.lsa_store.specs.Usage.{Usage}
use Rattle.lsa_store.specs.Room.{free_count}
use Rattle.lsa_store.specs.Usages.{decided}
use Rattle.lsa_store.specs.Cells.{cell_at, body_at, gap_of}
use Rattle.lsa_store.specs.declared.place.Ref.{Ref}
use Rattle.lsa_store.specs.Objects.{cells_of, body_in, word_in, rounded_size, IsChangedIn}
use Rattle.lsa_store.specs.Stock.{IsGivenBack}
use Rattle.lsa_store.specs.laws.Words.{word-none, word-same, body-same}
use Rattle.lsa_store.specs.laws.Written.{gone-here, gone-unset, gone-others}
use Rattle.lsa_region.specs.declared.end.Root.{Root}
use Rattle.lsa_region.specs.declared.end.End.{End}
use Rattle.lsa_region.specs.declared.end.End.TheVariants.{Obj, Slot}
use Rattle.lsa_region.specs.Codes.{end_of}
use Rattle.lsa_region.specs.Ends.{end_in_slot, swapped_end, slots_in}
use Rattle.lsa_region.specs.calls.Ends.{IsSlotMade}
use Rattle.lsa_region.specs.calls.Ends.{IsSlotDropped}
use Rattle.lsa_region.specs.Layout.{Location}
use Rattle.lsa_region.specs.Paired.{IsTied, IsParted, IsExchanged}
use Rattle.lsa_region.specs.Region.{View, body, link_of, slots_of, IsEnd, IsWell, SameObjects, IsRegion, IsAdded, IsFreed, IsWritten, location_of, IsRootAdded, IsRootDropped}
use Rattle.lsa_region.specs.laws.Refs.{refs_decided}
use Rattle.lsa_region.specs.laws.Ends.{some_and_none, ends_decided}
use Rattle.lsa_region.specs.laws.Exchanges.{exchanged-well, exchanged-from, swapped-holds}
use Rattle.lsa_region.proofs.Wells.{well-tie, well-part}

-- two ends change places, and all stays well
pub well-exchange : (v v' : View) → IsWell v → ((e : End) → IsEnd v e → IsEnd v' e) → (a b : End) → IsExchanged (link_of v) (link_of v') a b → a ≢ b → IsEnd v a → IsEnd v b → IsWell v'
well-exchange v v' well ends a b exchanged differ at bt = record {
  paired = exchanged-well (link_of v) (link_of v') a b differ exchanged well.paired;
  ends = λ x y e. ends y (swapped-holds a b y (IsEnd v) at bt (well.ends (swapped_end a b x) (swapped_end a b y) (exchanged-from (link_of v) (link_of v') a b differ exchanged x y e)));
}

module _ (v v' : View) (region : IsRegion v) (ends : (e : End) → IsEnd v e → IsEnd v' e) (reserve : 0 < free_count v'.usages) (a b : End) where
  pub region-tie : IsTied (link_of v) (link_of v') a b → link_of v a ≡ None → link_of v b ≡ None → a ≢ b → IsEnd v a → IsEnd v b → IsRegion v'
  region-tie tied unset unset' differ at bt = record {
    well = record {
      paired = well-tie (link_of v) (link_of v') a b region.well.paired tied unset unset' differ;
      ends = λ x y e. ends y (elim (ends_decided x a) [
        | inl is ↦ let named : link_of v' x ≡ Some b = ap (link_of v') is ∙ tied.first in let mate : b ≡ y = cc in subst (IsEnd v) mate bt
        | inr no_a ↦ elim (ends_decided x b) [
          | inl is ↦ let named : link_of v' x ≡ Some a = ap (link_of v') is ∙ tied.second in let mate : a ≡ y = cc in subst (IsEnd v) mate at
          | inr no_b ↦ region.well.ends x y (sym (tied.others x no_a no_b) ∙ e)
        ]
      ]);
    };
    reserve = reserve;
  }

  pub region-part : IsParted (link_of v) (link_of v') a b → link_of v a ≡ Some b → IsRegion v'
  region-part parted set = record {
    well = record {
      paired = well-part (link_of v) (link_of v') a b region.well.paired parted set;
      ends = λ x y e. ends y (elim (ends_decided x a) [
        | inl is ↦ let named : link_of v' x ≡ None = ap (link_of v') is ∙ parted.first in let clash = sym named ∙ e in cc
        | inr no_a ↦ elim (ends_decided x b) [
          | inl is ↦ let named : link_of v' x ≡ None = ap (link_of v') is ∙ parted.second in let clash = sym named ∙ e in cc
          | inr no_b ↦ region.well.ends x y (sym (parted.others x no_a no_b) ∙ e)
        ]
      ]);
    };
    reserve = reserve;
  }

  pub region-exchange : IsExchanged (link_of v) (link_of v') a b → a ≢ b → IsEnd v a → IsEnd v b → IsRegion v'
  region-exchange exchanged differ at bt = record { well = well-exchange v v' region.well ends a b exchanged differ at bt; reserve = reserve }

-- links that are as they were stay well, where what is named is there still
pub well-same : (v v' : View) → IsWell v → ((e : End) → link_of v' e ≡ link_of v e) → ((x y : End) → link_of v x ≡ Some y → IsEnd v y → IsEnd v' y) → IsWell v'
well-same v v' well links ends = record {
  paired = record {
    mates = λ x y e. links y ∙ well.paired.mates x y (sym (links x) ∙ e);
    apart = λ x e. well.paired.apart x (sym (links x) ∙ e);
  };
  ends = λ x y e. let was = sym (links x) ∙ e in ends x y was (well.ends x y was);
}

pub region-same : (v v' : View) → IsRegion v → ((e : End) → link_of v' e ≡ link_of v e) → ((x y : End) → link_of v x ≡ Some y → IsEnd v y → IsEnd v' y) → 0 < free_count v'.usages → IsRegion v'
region-same v v' region links ends reserve = record { well = well-same v v' region.well links ends; reserve = reserve }

kept_slot : (v v' : View) (s : Root) → v'.roots ≡ v.roots → IsEnd v (Slot s) → IsEnd v' (Slot s)
kept_slot v v' s roots h = (h.0, ap (λ l. get_or l s.number None) roots ∙ h.1)

kept_object : (v v' : View) (q : Ref) (field : ℕ) → body v' q ≡ body v q → IsEnd v (Obj q field) → IsEnd v' (Obj q field)
kept_object v v' q field same h = subst (λ o. IsSomeAnd o (λ b. field < links_of b.0)) (sym same) h

own_link : (o : Option (Kind × List ℕ)) (kind : Kind) (bytes : List ℕ) (field : ℕ) → o ≡ Some (kind, bytes) → field < links_of kind → IsSomeAnd o (λ b. field < links_of b.0)
own_link o kind bytes field is lt = subst (λ w. IsSomeAnd w (λ b. field < links_of b.0)) (sym is) lt

link_own : (o : Option (Kind × List ℕ)) (kind : Kind) (bytes : List ℕ) (field : ℕ) → o ≡ Some (kind, bytes) → IsSomeAnd o (λ b. field < links_of b.0) → field < links_of kind
link_own o kind bytes field is h = subst (λ w. IsSomeAnd w (λ b. field < links_of b.0)) is h

same_spot : (v v' : View) (q : Ref) → body v' q ≡ body v q → location_of v' q ≡ location_of v q
same_spot v v' q same = ap (option_map (λ (b : Kind × List ℕ). record { segment = q.segment; offset = q.offset })) same

-- an object is added: which ends are there
pub added : (v v' : View) (r : Ref) (kind : Kind) (bytes : List ℕ) → body v r ≡ None → body v' r ≡ Some (kind, bytes) → ((field : ℕ) → link_of v' (Obj r field) ≡ None) → ((q : Ref) → q ≢ r → body v' q ≡ body v q)
    → ((e : End) → link_of v' e ≡ link_of v e) → v'.roots ≡ v.roots → IsAdded v v' r kind bytes
added v v' r kind bytes fresh here unset others links roots = record {
  fresh = fresh;
  here = here;
  unset = unset;
  others = others;
  spots = λ q ne. same_spot v v' q (others q ne);
  links = links;
  own = λ field lt. own_link (body v' r) kind bytes field here lt;
  exact = λ field h. link_own (body v' r) kind bytes field here h;
  ends = λ e. elim e as (λ (o : End). IsEnd v o → IsEnd v' o) [
    | Obj q field ↦ λ h. elim (refs_decided q r) [
      | inl same ↦ absurd (some_and_none (body v q) (λ b. field < links_of b.0) (ap (body v) same ∙ fresh) h)
      | inr ne ↦ kept_object v v' q field (others q ne) h
    ]
    | Slot s ↦ λ h. kept_slot v v' s roots h
  ];
  gone = λ e. elim e as (λ (o : End). ((field : ℕ) → o ≢ Obj r field) → IsEnd v' o → IsEnd v o) [
    | Obj q field ↦ λ other h. elim (refs_decided q r) [
      | inl same ↦ absurd (other field (ap (λ p. Obj p field) same))
      | inr ne ↦ kept_object v' v q field (sym (others q ne)) h
    ]
    | Slot s ↦ λ other h. kept_slot v' v s (sym roots) h
  ];
  slots = ap slots_in roots;
}

-- an object is freed
pub freed : (v v' : View) (r : Ref) → body v' r ≡ None → ((q : Ref) → q ≢ r → body v' q ≡ body v q) → ((e : End) → link_of v' e ≡ link_of v e) → v'.roots ≡ v.roots → IsFreed v v' r
freed v v' r here others links roots = record {
  here = here;
  others = others;
  spots = λ q ne. same_spot v v' q (others q ne);
  links = links;
  lost = λ field h. some_and_none (body v' r) (λ b. field < links_of b.0) here h;
  ends = λ e. elim e as (λ (o : End). ((field : ℕ) → o ≢ Obj r field) → IsEnd v o → IsEnd v' o) [
    | Obj q field ↦ λ other h. elim (refs_decided q r) [
      | inl same ↦ absurd (other field (ap (λ p. Obj p field) same))
      | inr ne ↦ kept_object v v' q field (others q ne) h
    ]
    | Slot s ↦ λ other h. kept_slot v v' s roots h
  ];
  gone = λ e. elim e as (λ (o : End). IsEnd v' o → IsEnd v o) [
    | Obj q field ↦ λ h. elim (refs_decided q r) [
      | inl same ↦ absurd (some_and_none (body v' q) (λ b. field < links_of b.0) (ap (body v') same ∙ here) h)
      | inr ne ↦ kept_object v' v q field (sym (others q ne)) h
    ]
    | Slot s ↦ λ h. kept_slot v' v s (sym roots) h
  ];
  slots = ap slots_in roots;
}

kind_keeps : (o o' : Option (Kind × List ℕ)) (change : List ℕ → List ℕ) (field : ℕ) → IsSomeAnd o (λ b. o' ≡ Some (b.0, change b.1)) → IsSomeAnd o (λ b. field < links_of b.0) → IsSomeAnd o' (λ b. field < links_of b.0)
kind_keeps None o' change field e h = absurd h
kind_keeps (Some b) o' change field e h = subst (λ o. IsSomeAnd o (λ b. field < links_of b.0)) (sym e) h

kind_kept : (o o' : Option (Kind × List ℕ)) (change : List ℕ → List ℕ) (field : ℕ) → IsSomeAnd o (λ b. o' ≡ Some (b.0, change b.1)) → IsSomeAnd o' (λ b. field < links_of b.0) → IsSomeAnd o (λ b. field < links_of b.0)
kind_kept None o' change field e h = absurd e
kind_kept (Some b) o' change field e h = subst (λ o. IsSomeAnd o (λ b. field < links_of b.0)) e h

-- bytes of an object are written
pub written : (v v' : View) (r : Ref) (change : List ℕ → List ℕ) → IsSomeAnd (body v r) (λ b. body v' r ≡ Some (b.0, change b.1)) → ((q : Ref) → q ≢ r → body v' q ≡ body v q)
    → ((e : End) → link_of v' e ≡ link_of v e) → v'.roots ≡ v.roots → v'.usages ≡ v.usages → v'.epoch ≡ v.epoch → v'.moved ≡ v.moved → v'.compacted ≡ v.compacted → IsWritten v v' r change
written v v' r change here others links roots usages epoch moved compacted = record {
  here = here;
  others = others;
  spots = λ q. elim (refs_decided q r) [
    | inl same ↦ ap (location_of v') same ∙ spot_kept (body v r) (body v' r) here ∙ ap (location_of v) (sym same)
    | inr ne ↦ same_spot v v' q (others q ne)
  ];
  links = links;
  ends = λ e. elim e as (λ (o : End). IsEnd v o → IsEnd v' o) [
    | Obj q field ↦ λ h. elim (refs_decided q r) [
      | inl same ↦ subst (λ p. IsSomeAnd (body v' p) (λ b. field < links_of b.0)) (sym same) (kind_keeps (body v r) (body v' r) change field here (subst (λ p. IsSomeAnd (body v p) (λ b. field < links_of b.0)) same h))
      | inr ne ↦ kept_object v v' q field (others q ne) h
    ]
    | Slot s ↦ λ h. kept_slot v v' s roots h
  ];
  gone = λ e. elim e as (λ (o : End). IsEnd v' o → IsEnd v o) [
    | Obj q field ↦ λ h. elim (refs_decided q r) [
      | inl same ↦ subst (λ p. IsSomeAnd (body v p) (λ b. field < links_of b.0)) (sym same) (kind_kept (body v r) (body v' r) change field here (subst (λ p. IsSomeAnd (body v' p) (λ b. field < links_of b.0)) same h))
      | inr ne ↦ kept_object v' v q field (sym (others q ne)) h
    ]
    | Slot s ↦ λ h. kept_slot v' v s (sym roots) h
  ];
  slots = ap slots_in roots;
  usages = usages;
  epoch = epoch;
  moved = moved;
  compacted = compacted;
}
  where
    spot_kept : (o o' : Option (Kind × List ℕ)) → IsSomeAnd o (λ b. o' ≡ Some (b.0, change b.1))
        → ◌≡◌ {A = Option Location} (option_map (λ b. record { segment = r.segment; offset = r.offset }) o') (option_map (λ b. record { segment = r.segment; offset = r.offset }) o)
    spot_kept None o' h = absurd h
    spot_kept (Some b) o' h = ap (option_map (λ (b : Kind × List ℕ). record { segment = r.segment; offset = r.offset })) h

pub region-add : (v v' : View) (r : Ref) (kind : Kind) (bytes : List ℕ) → IsRegion v → IsAdded v v' r kind bytes → 0 < free_count v'.usages → IsRegion v'
region-add v v' r kind bytes region is reserve = region-same v v' region is.links (λ x y _ h. is.ends y h) reserve

pub region-free : (v v' : View) (r : Ref) → IsRegion v → IsFreed v v' r → ((field : ℕ) → link_of v (Obj r field) ≡ None) → 0 < free_count v'.usages → IsRegion v'
region-free v v' r region is unset reserve = region-same v v' region is.links (λ x y named h. is.ends y (λ field same.
    let back = region.well.paired.mates x y named in let none : link_of v y ≡ None = ap (link_of v) same ∙ unset field in let clash = sym none ∙ back in cc) h) reserve

pub region-write : (v v' : View) (r : Ref) (change : List ℕ → List ℕ) → IsRegion v → IsWritten v v' r change → 0 < free_count v'.usages → IsRegion v'
region-write v v' r change region is reserve = region-same v v' region is.links (λ x y _ h. is.ends y h) reserve

-- where nothing stands and there is no root slot, nothing is named
pub none-open : (v : View) → ((n : ℕ) → cells_of v.cells n ≡ []) → v.roots ≡ [] → (e : End) → link_of v e ≡ None
none-open v cells roots (Obj r field) = ap end_of (word-none v.cells r field (ap (λ l. cell_at l r.offset) (cells r.segment)))
none-open v cells roots (Slot s) = ap (λ l. end_in_slot (get_or l s.number None)) roots

pub region-open : (v : View) → ((n : ℕ) → cells_of v.cells n ≡ []) → v.roots ≡ [] → 0 < free_count v.usages → IsRegion v
region-open v cells roots reserve =
    let none = none-open v cells roots in record {
      well = record {
        paired = record { mates = λ a b e. let clash = sym (none a) ∙ e in cc; apart = λ a e. let clash = sym (none a) ∙ e in cc };
        ends = λ a b e. let clash = sym (none a) ∙ e in cc;
      };
      reserve = reserve;
    }

-- ---- a root slot comes or goes

module _ (v v' : View) (cells : v'.cells ≡ v.cells) where
  same_ends : (n : ℕ) → ((m : ℕ) → m ≢ n → get_or v'.roots m None ≡ get_or v.roots m None) → (e : End) → e ≢ Slot (record { number = n }) → IsEnd v e → IsEnd v' e
  same_ends n others (Obj q field) other h = subst (λ l. IsSomeAnd (body_in l q) (λ b. field < links_of b.0)) (sym cells) h
  same_ends n others (Slot s) other h = (h.0, others s.number (λ e. other (ap (λ k. Slot (record { number = k })) e)) ∙ h.1)

  same_links : (n : ℕ) → end_in_slot (get_or v.roots n None) ≡ None → end_in_slot (get_or v'.roots n None) ≡ None → ((m : ℕ) → m ≢ n → get_or v'.roots m None ≡ get_or v.roots m None) → (e : End) → link_of v' e ≡ link_of v e
  same_links n was is others (Obj r field) = ap (λ l. end_of (word_in l r field)) cells
  same_links n was is others (Slot s) = elim (decided s.number n) [
    | inl e ↦ ap (λ k. end_in_slot (get_or v'.roots k None)) e ∙ is ∙ sym (ap (λ k. end_in_slot (get_or v.roots k None)) e ∙ was)
    | inr ne ↦ ap end_in_slot (others s.number ne)
  ]

same_slot : (e : End) (n : ℕ) → (e ≡ Slot (record { number = n })) ⊎ (e ≢ Slot (record { number = n }))
same_slot e n = ends_decided e (Slot (record { number = n }))

pub root-added : (v v' : View) (n : ℕ) → v'.cells ≡ v.cells → IsSlotMade v.roots v'.roots n → IsRootAdded v v' (record { number = n })
root-added v v' n cells made =
    let links = same_links v v' cells n (ap end_in_slot made.fresh) (ap end_in_slot made.here) made.others in
    let back : (e : End) → e ≢ Slot (record { number = n }) → IsEnd v' e → IsEnd v e = same_ends v' v (sym cells) n (λ m ne. sym (made.others m ne)) in
    let fresh : IsEnd v (Slot (record { number = n })) → ⊥ = λ h. let clash = sym made.fresh ∙ h.1 in cc in
    record {
      fresh = fresh;
      here = (None, made.here);
      unset = ap end_in_slot made.here;
      links = links;
      ends = λ e h. elim (same_slot e n) [ inl is ↦ absurd (fresh (subst (IsEnd v) is h)) | inr ne ↦ same_ends v v' cells n made.others e ne h ];
      gone = back;
      there = made.there;
      bound = made.bound;
    }

pub root-dropped : (v v' : View) (n : ℕ) → v'.cells ≡ v.cells → end_in_slot (get_or v.roots n None) ≡ None → IsSlotDropped v.roots v'.roots n → IsRootDropped v v' (record { number = n })
root-dropped v v' n cells unset dropped =
    let links = same_links v v' cells n unset (ap end_in_slot dropped.here) dropped.others in
    let gone : IsEnd v' (Slot (record { number = n })) → ⊥ = λ h. let clash = sym dropped.here ∙ h.1 in cc in
    record {
      here = gone;
      links = links;
      ends = same_ends v v' cells n dropped.others;
      gone = λ e h. elim (same_slot e n) [ inl is ↦ absurd (gone (subst (IsEnd v') is h)) | inr ne ↦ same_ends v' v (sym cells) n (λ m other. sym (dropped.others m other)) e ne h ];
      there = dropped.there;
      bound = dropped.bound;
    }

pub region-root-added : (v v' : View) (r : Root) → IsRegion v → v'.usages ≡ v.usages → IsRootAdded v v' r → IsRegion v'
region-root-added v v' r region usages is =
    region-same v v' region is.links (λ x y _ h. is.ends y h) (subst (λ l. 0 < free_count l) (sym usages) region.reserve)

pub region-root-dropped : (v v' : View) (r : Root) → IsRegion v → v'.usages ≡ v.usages → link_of v (Slot r) ≡ None → IsRootDropped v v' r → IsRegion v'
region-root-dropped v v' r region usages unset is =
    region-same v v' region is.links (λ x y named h. is.ends y (λ same.
    let back = region.well.paired.mates x y named in let none : link_of v y ≡ None = ap (link_of v) same ∙ unset in let clash = sym none ∙ back in cc) h)
    (subst (λ l. 0 < free_count l) (sym usages) region.reserve)

-- links whose numbers are the same name the same
pub links-same : (v v' : View) (e : End) → v'.roots ≡ v.roots → ((q : Ref) (field : ℕ) → word_in v'.cells q field ≡ word_in v.cells q field) → link_of v' e ≡ link_of v e
links-same v v' (Obj q field) roots words = ap end_of (words q field)
links-same v v' (Slot s) roots words = ap (λ l. end_in_slot (get_or l s.number None)) roots

pub bodies-open : (v : View) → ((n : ℕ) → cells_of v.cells n ≡ []) → (r : Ref) → body v r ≡ None
bodies-open v cells r = ap (λ l. body_at l r.offset) (cells r.segment)

-- all but the links is as it was
pub same-objects : (v v' : View) → ((r : Ref) → body v' r ≡ body v r) → ((e : End) → IsEnd v e → IsEnd v' e) → ((e : End) → IsEnd v' e → IsEnd v e) → slots_of v' ≡ slots_of v → v'.usages ≡ v.usages → v'.epoch ≡ v.epoch
    → v'.moved ≡ v.moved → v'.compacted ≡ v.compacted → SameObjects v v'
same-objects v v' bodies ends gone slots usages epoch moved compacted = record {
  bodies = bodies;
  ends = ends;
  gone = gone;
  spots = λ r. same_spot v v' r (bodies r);
  slots = slots;
  usages = usages;
  epoch = epoch;
  moved = moved;
  compacted = compacted;
}

-- an object is freed whose links are unset
pub freed-object : (v v' : View) (r : Ref) → IsSome (body v r) → ((field : ℕ) → link_of v (Obj r field) ≡ None) → IsChangedIn v.cells v'.cells r gap_of → v'.roots ≡ v.roots → IsFreed v v' r
freed-object v v' r some unset w roots =
    freed v v' r (gone-here v.cells v'.cells r some w) (λ q ne. body-same v.cells v'.cells q (gone-others v.cells v'.cells r some w q ne)) links roots
  where
    links : (e : End) → link_of v' e ≡ link_of v e
    links (Slot s) = ap (λ l. end_in_slot (get_or l s.number None)) roots
    links (Obj q field) = elim (refs_decided q r) [
      | inl e ↦ ap (λ p. link_of v' (Obj p field)) e ∙ ap end_of (gone-unset v.cells v'.cells r some w field) ∙ sym (unset field) ∙ ap (λ p. link_of v (Obj p field)) (sym e)
      | inr ne ↦ ap end_of (word-same v.cells v'.cells q field (gone-others v.cells v'.cells r some w q ne))
    ]

-- what of the books stays where an object is freed
pub given-free : (size : ℕ) (v : View) (us : List Usage) (r : Ref) → IsSome (body v r) → IsSomeAnd (body v r) (λ b. IsGivenBack size v.usages us r.segment (rounded_size b.0 (length b.1))) → free_count us ≡ free_count v.usages
given-free size v us r some given = (of (body v r) some given).2
  where
    of : (o : Option (Kind × List ℕ)) → IsSome o → IsSomeAnd o (λ b. IsGivenBack size v.usages us r.segment (rounded_size b.0 (length b.1))) → (k : ℕ) × IsGivenBack size v.usages us r.segment k × (free_count us ≡ free_count v.usages)
    of None some given = absurd given
    of (Some b) some given = (rounded_size b.0 (length b.1), given, given.free)
