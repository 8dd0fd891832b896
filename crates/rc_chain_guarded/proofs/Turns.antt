-- What is listed after calls on the recency list, and what is known after an object was freed and a chain was swept.
use Rattle.std.proofs.Common.{◌≡◌, ◌≢◌, ◌⊎◌, ℕ, true, false, List, [], ◌∷◌, ◌++◌, Option, Some, None, IsSome, inl, inr, refl, sym, ap, subst}
use Rattle.std.specs.Prelude.{Contains, IfSome, IsSomeAnd}
use Rattle.std.specs.List.{AllByRecursion}
use Rattle.rc_core.specs.Steps.{pin_at}
use Rattle.lsa_pool.specs.laws.Usages.{decided}
use Rattle.lsa_store.specs.declared.place.Ref.{Ref}
use Rattle.lsa_region.specs.declared.end.End.TheVariants.{Obj}
use Rattle.lsa_region.specs.Region.{body, IsWell}
use Rattle.rc_position.specs.declared.positions.Pos.{Pos}
use Rattle.rc_core.specs.declared.entries.ChainKind.{ChainKind}
use Rattle.rc_core.specs.declared.entries.ChainKind.TheVariants.{Cache, Memtable}
use Rattle.rc_core.specs.declared.entries.Mark.{Mark}
use Rattle.rc_core.specs.declared.entries.Entry.{Entry}
use Rattle.rc_core.specs.Change.{take_out, with_first_gap, with_gap}
use Rattle.rc_core.specs.Free.{free_entry, free_statics, freed_mark}
use Rattle.rc_core.specs.Version.{Version}
use Rattle.std.specs.Ordering.{eq_by_cmp}
use Rattle.rc_position.specs.Position.{pos_cmp}
use Rattle.std.proofs.Common.{Bool, cond}
use Rattle.rc_partition.specs.laws.Lists.{elem-cases, elem-first, elem-here, elem-later, elem-left, elem-none, elem-replaced}
use Rattle.rc_registry.specs.Registry.{AreFree}
use Rattle.rc_memory.specs.Memory.{KeptChain, Member, Memory, HasPin, HasVersion, IsMemberObject, IsOfVersion, chain_at, listed_as}
use Rattle.rc_memory.specs.Changes.{member_at}
use Rattle.rc_chain.specs.Lives.{IsAtUpTo, IsIdle, IsOneFreed, IsRemainder, IsTouched}
use Rattle.rc_chain_guarded.specs.declared.known.Held.{Held}
use Rattle.rc_chain_guarded.specs.declared.known.Known.{Known}
use Rattle.rc_chain_guarded.specs.declared.known.Numbered.{Numbered}
use Rattle.rc_chain_guarded.specs.Guarded.{IsTracked, HasCodedParts}
use Rattle.rc_chain_guarded.specs.calls.Inner.{IsKnownBeside, IsOther}
use Rattle.rc_chain_guarded.proofs.Wholes.{free-pin, known-put, known-without, some-number}
use Rattle.rc_chain_guarded.proofs.Steps.{KeepsListed, from-if, from-some, known-listed, known-lost, to-if}

-- ---- the list

pub turned-more : (front back : List Member) (w x : Member) → Contains (front ++ (w ∷ back)) x → Contains ((front ++ back) ++ (w ∷ [])) x
turned-more front back w x on = elim (elem-replaced front back w x on) [
  | inl same ↦ subst (Contains ((front ++ back) ++ (w ∷ []))) same (elem-here (front ++ back) [] w)
  | inr beside ↦ elem-left (front ++ back) (w ∷ []) x beside
]

remainder_has : (these : Member → Type 0) (ws rest : List Member) (x : Member) → IsRemainder these ws rest → Contains ws x → these x ⊎ Contains rest x
remainder_has these [] rest x is on = absurd (elem-none x on)
remainder_has these (w ∷ ws) rest x (inl here) on = elim (elem-cases w x ws on) [ inl same ↦ inl (subst these same here.0) | inr later ↦ remainder_has these ws rest x here.1 later ]
remainder_has these (w ∷ ws) rest x (inr left) on = elim (elem-cases w x ws on) [
  | inl same ↦ inr (subst (λ l. Contains l x) (sym left.1.1) (subst (λ y. Contains (w ∷ left.1.0) y) same (elem-first w left.1.0)))
  | inr later ↦ elim (remainder_has these ws left.1.0 x left.1.2 later) [ inl mine ↦ inl mine | inr kept ↦ inr (subst (λ l. Contains l x) (sym left.1.1) (elem-later w x left.1.0 kept)) ]
]

elem_right : (xs ys : List Member) (x : Member) → Contains ys x → Contains (xs ++ ys) x
elem_right [] ys x on = on
elem_right (y ∷ xs) ys x on = elem-later y x (xs ++ ys) (elem_right xs ys x on)

pub touched-more : (these : Member → Type 0) (old new : List Member) (x : Member) → IsTouched these old new → Contains old x → Contains new x
touched-more these old new x is on = subst (λ l. Contains l x) (sym is.split) (elim (remainder_has these old is.rest x is.left on) [
  | inl mine ↦ elem_right is.rest is.touched x (is.all x on mine)
  | inr kept ↦ elem-left is.rest is.touched x kept
])

-- ---- an object that is at a place is there

some_body : {X : Type 0} (P : X → Type 0) (o : Option X) → IsSomeAnd o P → IsSome o
some_body P None h = absurd h
some_body P (Some x) h = refl

pub member-there : (m : Memory) (r : Ref) (w : Member) → IsWell m.region → IsMemberObject m r w → IsSome (body m.region r)
member-there m r w well a = of w.position refl
  where
    of : (at : Option Pos) → w.position ≡ at → IsSome (body m.region r)
    of None e = some_body _ (body m.region r) (well.ends (Obj a.version.object 3) (Obj r 2) (subst (λ p. IsOfVersion m.region a.version p r) e a.object))
    of (Some x) e = some_body _ (body m.region r) (subst (λ p. IsOfVersion m.region a.version p r) e a.object).1

-- ---- an object is freed

first_limits : (mark : Mark) (es : List Entry) (P : Entry → Type 0) → ((e : Entry) → P e → P (with_gap mark e)) → ((e : Entry) → Contains es e → P e) → (e : Entry) → Contains (with_first_gap mark es) e → P e
first_limits mark [] P gap each e on = each e on
first_limits mark (f ∷ es) P gap each e on = elim (elem-cases (with_gap mark f) e es on) [ inl same ↦ subst P same (gap f (each f (elem-first f es))) | inr later ↦ each e (elem-later f e es later) ]

taken_limits : (mark : Mark) (x : Pos) (es : List Entry) (P : Entry → Type 0) → ((e : Entry) → P e → P (with_gap mark e)) → ((e : Entry) → Contains es e → P e) → (e : Entry) → Contains (take_out mark x es) e → P e
taken_limits mark x [] P gap each e on = each e on
taken_limits mark x (f ∷ es) P gap each e on = told (λ later. taken_limits mark x es P gap (λ g inside. each g (elem-later f g es inside)) e later) (eq_by_cmp pos_cmp x f.position) on
  where
    told : (Contains (take_out mark x es) e → P e) → (b : Bool) → Contains (cond b (with_first_gap mark es) (f ∷ take_out mark x es)) e → P e
    told further true there = first_limits mark es P gap (λ g inside. each g (elem-later f g es inside)) e there
    told further false there = elim (elem-cases f e (take_out mark x es) there) [ inl same ↦ subst P same (each f (elem-first f es)) | inr later ↦ further later ]

pub freed-limits : (kind : ChainKind) (x : Pos) (v : Version) → HasCodedParts v → HasCodedParts (free_entry kind x v)
freed-limits kind x v h = record {
  positions = taken_limits (freed_mark kind) x v.entries _ (λ e p. p) h.positions;
  rows = taken_limits (freed_mark kind) x v.entries _ (λ e p. p) h.rows;
  statics = h.statics;
}

pub freed_static-limits : (kind : ChainKind) (v : Version) → HasCodedParts v → HasCodedParts (free_statics kind v)
freed_static-limits kind v h = record { positions = h.positions; rows = h.rows; statics = tt }

-- where it is known no longer which version of a chain is bare
pub beside-chain : (id j : ℕ) (known new : Known) → IfSome new.bare (λ (b : Numbered). (known.bare ≡ Some b) × (b.chain ≡ id → ⊥)) → IsKnownBeside id j known new
beside-chain id j known new h = to-if _ new.bare (λ b e. let told = from-if (λ (b : Numbered). (known.bare ≡ Some b) × (b.chain ≡ id → ⊥)) new.bare b h e in (told.0, λ same number. told.1 same))

module _ (m n : Memory) (id : ℕ) (k : KeptChain) (there : chain_at m id ≡ Some k) (free : AreFree k.chain.pins) (has : HasVersion m id 0) (freed : IsOneFreed id m n) where
  pub known-freed : (known new : Known) → IsTracked m known → new.held ≡ known.held → new.full ≡ None → IfSome new.bare (λ (b : Numbered). (known.bare ≡ Some b) × (b.chain ≡ id → ⊥)) → IsTracked n new
  known-freed known new h held full bare = elim freed [
    | inl entry ↦ known-lost m n id 0 (free_entry k.chain.kind entry.at) (entry.changed k there).chains has known new h held full (beside-chain id 0 known new bare) (freed-limits k.chain.kind entry.at)
    | inr (inl static) ↦ known-lost m n id 0 (free_statics k.chain.kind) (static.changed k there).chains has known new h held full (beside-chain id 0 known new bare) (freed_static-limits k.chain.kind)
    | inr (inr last) ↦ elim last.1 [
      | inl version ↦ known-without m n id 0 version.chains known new h held full (λ b e. from-if _ new.bare b bare e)
      | inr chain ↦ known-put m n id None chain.dropped.chains known new h held full (λ b e. from-if _ new.bare b bare e) tt (λ pin p. free-pin m id pin k there free p)
    ]
  ]

-- ---- a chain is swept, or not

kind_decided : (a : ChainKind) → (a ≡ Cache) ⊎ (a ≢ Cache)
kind_decided Cache = inl refl
kind_decided Memtable = inr (λ e. let clash : Memtable ≡ Cache = e in cc)

bool_decided : (b : Bool) → (b ≡ false) ⊎ (b ≢ false)
bool_decided false = inl refl
bool_decided true = inr (λ e. cc e)

free_decided : (pins : List (Option ℕ)) → AreFree pins ⊎ (AreFree pins → ⊥)
free_decided [] = inl (λ j p. p)
free_decided (None ∷ pins) = elim (free_decided pins) [ inl free ↦ inl (λ j p. elim p [ inl here ↦ cc here | inr later ↦ free j later ]) | inr not ↦ inr (λ free. not (λ j p. free j (inr p))) ]
free_decided (Some j ∷ pins) = inr (λ free. free j (inl refl))

-- whether something of a chain is in the list
listed_of : (id : ℕ) (ws : List Member) → ((j : ℕ) (at : Option Pos) → Contains ws (member_at id j at) → ⊥) ⊎ ((j : ℕ) × (at : Option Pos) × Contains ws (member_at id j at))
listed_of id [] = inl (λ j at on. elem-none (member_at id j at) on)
listed_of id (w ∷ ws) = elim (decided w.chain id) [
  | inl same ↦ inr (w.version, w.position, subst (λ i. Contains (w ∷ ws) (record { chain = i; version = w.version; position = w.position })) same (elem-first w ws))
  | inr ne ↦ elim (listed_of id ws) [
    | inl none ↦ inl (λ j at on. elim (elem-cases w (member_at id j at) ws on) [ inl same ↦ ne (ap (λ (x : Member). x.chain) same) | inr later ↦ none j at later ])
    | inr some ↦ inr (some.0, some.1, elem-later w (member_at id some.0 some.1) ws some.2)
  ]
]

pub idle-decided : (m : Memory) (id : ℕ) (k : KeptChain) → IsIdle m id k.chain ⊎ (IsIdle m id k.chain → ⊥)
idle-decided m id k = elim (kind_decided k.chain.kind) [
  | inr ne ↦ inr (λ idle. ne idle.cached)
  | inl cached ↦ elim (bool_decided k.chain.updating) [
    | inr ne ↦ inr (λ idle. ne idle.settled)
    | inl settled ↦ elim (free_decided k.chain.pins) [
      | inr not ↦ inr (λ idle. not idle.unpinned)
      | inl free ↦ elim (listed_of id m.recency) [
        | inl none ↦ inl (record { cached = cached; settled = settled; unpinned = free; unlisted = none })
        | inr some ↦ inr (λ idle. idle.unlisted some.0 some.1 some.2)
      ]
    ]
  ]
]

-- an object went to the back
pub turned-listed : (m n : Memory) (w : Member) (front back : List Member) → m.recency ≡ front ++ (w ∷ back) → n.recency ≡ (front ++ back) ++ (w ∷ []) → KeepsListed m n
turned-listed m n w front back is list i l x inner on = subst (λ ws. Contains ws (member_at i l (Some x))) (sym list) (turned-more front back w (member_at i l (Some x)) (subst (λ ws. Contains ws (member_at i l (Some x))) is on))

-- the first object went to the back
pub turned : (m n : Memory) (found : Option Ref) (r : Ref) → found ≡ Some r → IfSome found (λ r. (w : Member) × (rest : List Member) × (m.recency ≡ w ∷ rest) × IsMemberObject m r w) → (known : Known) → IsTracked m known
    → ((w : Member) (front back : List Member) → m.recency ≡ front ++ (w ∷ back) → IsMemberObject m r w → n ≡ listed_as ((front ++ back) ++ (w ∷ [])) n.region m) → IsTracked n known
turned m n found r is first known h touched =
    let f = from-if (λ r. (w : Member) × (rest : List Member) × (m.recency ≡ w ∷ rest) × IsMemberObject m r w) found r first is in let t = touched f.0 [] f.1 f.2 f.3 in
    known-listed m n (ap (λ (x : Memory). x.chains) t) known (turned-listed m n f.0 [] f.1 f.2 (ap (λ (x : Memory). x.recency) t)) h

-- the entries at a key went to the back
pub keyed : (m n : Memory) (id pin : ℕ) (x : Pos) → HasPin m id pin
    → ((k : KeptChain) (j : ℕ) → chain_at m id ≡ Some k → pin_at k.chain.pins pin ≡ Some j → (list : List Member) × IsTouched (IsAtUpTo id j x) m.recency list × (n ≡ listed_as list n.region m)) → (known : Known) → IsTracked m known → IsTracked n known
keyed m n id pin x has touched known h =
    let k = from-some (λ (k : KeptChain). IsSome (pin_at k.chain.pins pin)) (chain_at m id) has in let j = some-number (pin_at k.0.chain.pins pin) k.2 in let t = touched k.0 j.0 k.1 j.1 in
    known-listed m n (ap (λ (y : Memory). y.chains) t.2) known
    (λ i l y inner on. subst (λ ws. Contains ws (member_at i l (Some y))) (sym (ap (λ (z : Memory). z.recency) t.2)) (touched-more (IsAtUpTo id j.0 x) m.recency t.0 (member_at i l (Some y)) t.1 on)) h

-- a snapshot is another one than those of a list
pub others : (one : Held) (held : List Held) → AllByRecursion (IsOther one) held → (other : Held) → Contains held other → IsOther one other
others one [] all other on = absurd (elem-none other on)
others one (h ∷ held) all other on = elim (elem-cases h other held on) [ inl same ↦ subst (IsOther one) same all.0 | inr later ↦ others one held all.1 other later ]
