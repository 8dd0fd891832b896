-- Whether a chain is to be dropped can be told.
use Rattle.std.proofs.Common.{◌≡◌, ◌≢◌, ◌⊎◌, ℕ, Bool, true, false, List, [], ◌∷◌, Option, Some, None, inl, inr, refl, sym, ap, ◌∙◌, subst}
use Rattle.std.specs.Prelude.{Contains}
use Rattle.lsa_pool.specs.laws.Usages.{decided}
use Rattle.rc_position.specs.declared.positions.Pos.{Pos}
use Rattle.rc_core.specs.declared.entries.ChainKind.{ChainKind}
use Rattle.rc_core.specs.declared.entries.ChainKind.TheVariants.{Cache, Memtable}
use Rattle.rc_core.specs.Chains.{Shown}
use Rattle.rc_registry.specs.Registry.{AreFree}
use Rattle.rc_partition.specs.laws.Lists.{elem-cases, elem-first, elem-later, elem-none}
use Rattle.rc_memory.specs.Memory.{KeptChain, Member, Memory}
use Rattle.rc_memory.specs.Changes.{member_at}
use Rattle.rc_chain.specs.Lives.{IsIdle}
use Rattle.rc_evict.proofs.Chains.{IsSameUse}

-- one of these objects is of a chain, or none is
pub own-or-none : (ws : List Member) (id : ℕ) → ((w : Member) × Contains ws w × (w.chain ≡ id)) ⊎ ((w : Member) → Contains ws w → w.chain ≢ id)
own-or-none [] id = inr (λ w on. absurd (elem-none w on))
own-or-none (x ∷ ws) id = elim (decided x.chain id) [
  | inl e ↦ inl (x, elem-first x ws, e)
  | inr ne ↦ elim (own-or-none ws id) [
    | inl k ↦ inl (k.0, elem-later x k.0 ws k.1, k.2)
    | inr none ↦ inr (λ w on. elim (elem-cases x w ws on) [ inl same ↦ (λ e. ne (ap (λ (y : Member). y.chain) same ∙ e)) | inr later ↦ none w later ])
  ]
]

free_decided : (ps : List (Option ℕ)) → AreFree ps ⊎ (AreFree ps → ⊥)
free_decided [] = inl (λ j on. on)
free_decided (Some j ∷ ps) = inr (λ free. free j (inl refl))
free_decided (None ∷ ps) = elim (free_decided ps) [
  | inl free ↦ inl (λ j on. elim on [ inl e ↦ cc e | inr later ↦ free j later ])
  | inr pinned ↦ inr (λ free. pinned (λ j on. free j (inr on)))
]

cached_decided : (kind : ChainKind) → (kind ≡ Cache) ⊎ (kind ≢ Cache)
cached_decided Cache = inl refl
cached_decided Memtable = inr (λ e. cc e)

settled_decided : (b : Bool) → (b ≡ false) ⊎ (b ≢ false)
settled_decided true = inr (λ e. cc e)
settled_decided false = inl refl

-- the member at a place
pub of-chain : (ws : List Member) (w : Member) (id : ℕ) → w.chain ≡ id → Contains ws w → Contains ws (member_at id w.version w.position)
of-chain ws w id e on = subst (Contains ws) (λ i. record { chain = e i; version = w.version; position = w.position }) on

pub idle-decided : (m : Memory) (id : ℕ) (c : Shown) → IsIdle m id c ⊎ (IsIdle m id c → ⊥)
idle-decided m id c = elim (cached_decided c.kind) [
  | inr other ↦ inr (λ i. other i.cached)
  | inl cached ↦ elim (settled_decided c.updating) [
    | inr under ↦ inr (λ i. under i.settled)
    | inl settled ↦ elim (free_decided c.pins) [
      | inr pinned ↦ inr (λ i. pinned i.unpinned)
      | inl free ↦ elim (own-or-none m.recency id) [
        | inl k ↦ inr (λ i. i.unlisted k.0.version k.0.position (of-chain m.recency k.0 id k.2 k.1))
        | inr none ↦ inl (record { cached = cached; settled = settled; unpinned = free; unlisted = λ j at on. none (member_at id j at) on refl })
      ]
    ]
  ]
]

-- it counts what is listed, and the chain's use
pub idle-alike : (m n : Memory) (id : ℕ) (k l : KeptChain) → IsSameUse k l → ((j : ℕ) (at : Option Pos) → Contains n.recency (member_at id j at) → Contains m.recency (member_at id j at)) → IsIdle m id l.chain → IsIdle n id k.chain
idle-alike m n id k l u fewer i = record {
  cached = sym u.kind ∙ i.cached;
  settled = sym u.updating ∙ i.settled;
  unpinned = subst AreFree u.pins i.unpinned;
  unlisted = λ j at on. i.unlisted j at (fewer j at on);
}

pub idle-again : (m n : Memory) (id : ℕ) (k l : KeptChain) → IsSameUse k l → ((j : ℕ) (at : Option Pos) → Contains n.recency (member_at id j at) → Contains m.recency (member_at id j at)) → IsIdle m id k.chain → IsIdle n id l.chain
idle-again m n id k l u fewer i = record {
  cached = u.kind ∙ i.cached;
  settled = u.updating ∙ i.settled;
  unpinned = subst AreFree (sym u.pins) i.unpinned;
  unlisted = λ j at on. i.unlisted j at (fewer j at on);
}
