-- What leaves the chains of the cache, and so the entries.
use Rattle.std.proofs.Common.{inl, inr, ◌≡◌, ◌⊎◌, ℕ, List, [], ◌∷◌, Option, Some, None, refl, sym, ap, ◌∙◌, subst, slice_index_or}
use Rattle.std.specs.Option.{option_map}
use Rattle.rc_core.specs.declared.entries.ChainKind.TheVariants.{Cache}
use Rattle.rc_core.specs.Version.{Version}
use Rattle.rc_registry.specs.Registry.{IsNumberIn}
use Rattle.rc_registry.specs.laws.Numbers.{IsOneOf-back, IsOneOf-front}
use Rattle.rc_memory.specs.Memory.{KeptChain, Member, Memory, IsSnapshotTaken, IsUntouched, chain_at, on_chain, on_shown, snapshot_number, with_chains, with_snapshot, without_snapshot}
use Rattle.rc_chain.specs.Lives.{IsChainDropped}
use Rattle.rc_populate.specs.Filling.{on_newest_of}
use Rattle.rc_entries.specs.Found.{DoKeysAscend, entry_number}
use Rattle.rc_entries.specs.Entries.{AreEntries, AreSettled, IsCached, IsUsedAlike, LeavesCached}
use Rattle.rc_entries.proofs.Ways.{none-is-none, same-some}
use Rattle.rc_entries.proofs.Numbered.{chain-beside, chain-here, changed-now, changed-was, here-or-beside}

-- a chain that is the same in another memory
pub cached-same : (old new : Memory) (id : ℕ) → chain_at new id ≡ chain_at old id → IsCached old id → IsCached new id
cached-same old new id same c = record { kept = c.kept; there = same ∙ c.there; kind = c.kind; attached = c.attached }

told-same : (old new : Memory) → new.dropped ≡ old.dropped → (id : ℕ) → IsNumberIn old.dropped id → IsNumberIn new.dropped id
told-same old new same id on = subst (λ ns. IsNumberIn ns id) (sym same) on

-- ---- entries

pub empty-entries : (entries : List (List ℕ × ℕ)) (m : Memory) → DoKeysAscend entries → entries ≡ [] → ((id : ℕ) → IsCached m id → ⊥) → AreEntries entries m
empty-entries entries m ascend empty none = record {
  ascend = ascend;
  apart = λ key other id e f. absurd (nothing key id e);
  kept = λ key id e. absurd (nothing key id e);
  all = λ id c. absurd (none id c);
}
  where
    nothing : (key : List ℕ) (id : ℕ) → entry_number entries key ≡ Some id → ⊥
    nothing key id e = none-is-none id (sym (ap (λ (es : List (List ℕ × ℕ)). entry_number es key) empty) ∙ e)

pub leaves-entries : (entries : List (List ℕ × ℕ)) (old new : Memory) → LeavesCached old new → AreEntries entries old → AreEntries entries new
leaves-entries entries old new l h = record {
  ascend = h.ascend;
  apart = h.apart;
  kept = λ key id e. elim (h.kept key id e) [ inl c ↦ l.cached id c | inr on ↦ inr (l.told id on) ];
  all = λ id c. h.all id (l.none id c);
}

pub leaves-settled : (entries : List (List ℕ × ℕ)) (old new : Memory) → new.dropped ≡ old.dropped → AreSettled entries old → AreSettled entries new
leaves-settled entries old new same h key id e on = h key id e (subst (λ ns. IsNumberIn ns id) same on)

pub settled-there : (entries : List (List ℕ × ℕ)) (m : Memory) (key : List ℕ) (id : ℕ) → AreEntries entries m → AreSettled entries m → entry_number entries key ≡ Some id → IsCached m id
settled-there entries m key id h settled e = elim (h.kept key id e) [ inl c ↦ c | inr on ↦ absurd (settled key id e on) ]

-- ---- chains

pub leaves-itself : (m : Memory) → LeavesCached m m
leaves-itself m = record { cached = λ id c. inl c; told = λ id on. on; none = λ id c. c }

pub leaves-then : (old mid new : Memory) → LeavesCached old mid → LeavesCached mid new → LeavesCached old new
leaves-then old mid new f g = record {
  cached = λ id c. elim (f.cached id c) [ inl d ↦ g.cached id d | inr on ↦ inr (g.told id on) ];
  told = λ id on. g.told id (f.told id on);
  none = λ id c. f.none id (g.none id c);
}

pub same-leaves : (old new : Memory) → new.chains ≡ old.chains → new.dropped ≡ old.dropped → LeavesCached old new
same-leaves old new chains dropped = record {
  cached = λ id c. inl (cached-same old new id (ap (λ cs. slice_index_or cs id None) chains) c);
  told = told-same old new dropped;
  none = λ id c. cached-same new old id (ap (λ cs. slice_index_or cs id None) (sym chains)) c;
}

pub moved-leaves : (old new : Memory) → IsUntouched old new → LeavesCached old new
moved-leaves old new h = same-leaves old new h.chains h.dropped

pub beside-leaves : (old new : Memory) → ((id : ℕ) (k : KeptChain) → k.chain.kind ≡ Cache → chain_at old id ≡ Some k → chain_at new id ≡ Some k) → ((id : ℕ) (k : KeptChain) → k.chain.kind ≡ Cache → chain_at new id ≡ Some k → chain_at old id ≡ Some k) →
    ((id : ℕ) → IsNumberIn old.dropped id → IsNumberIn new.dropped id) → LeavesCached old new
beside-leaves old new on back told = record {
  cached = λ id c. inl (record { kept = c.kept; there = on id c.kept c.kind c.there; kind = c.kind; attached = c.attached });
  told = told;
  none = λ id c. record { kept = c.kept; there = back id c.kept c.kind c.there; kind = c.kind; attached = c.attached };
}

-- the chain of a cached one is cached, or its number is to be told
used-cached : (old new : Memory) (id : ℕ) (c : IsCached old id) → IsUsedAlike new id c.kept ⊎ IsNumberIn new.dropped id → IsCached new id ⊎ IsNumberIn new.dropped id
used-cached old new id c (inl u) = inl (record { kept = u.now; there = u.there; kind = u.kind ∙ c.kind; attached = u.attached ∙ c.attached })
used-cached old new id c (inr on) = inr on

-- and one that is cached then was
cached-used : (old new : Memory) (id : ℕ) (was : Option KeptChain) → chain_at old id ≡ was → ((k : KeptChain) → was ≡ Some k → IsUsedAlike new id k ⊎ IsNumberIn new.dropped id) → (was ≡ None → chain_at new id ≡ None) → (IsNumberIn new.dropped id → chain_at new id ≡ None) → IsCached new id → IsCached old id
cached-used old new id None e used none gone c = absurd (none-is-none c.kept (sym (none refl) ∙ c.there))
cached-used old new id (Some k) e used none gone c = elim (used k refl) [
  | inl u ↦ (let same : c.kept ≡ u.now = same-some c.kept u.now (sym c.there ∙ u.there) in record {
    kept = k;
    there = e;
    kind = sym u.kind ∙ ap (λ (q : KeptChain). q.chain.kind) (sym same) ∙ c.kind;
    attached = sym u.attached ∙ ap (λ (q : KeptChain). q.chain.attached) (sym same) ∙ c.attached;
  })
  | inr on ↦ absurd (none-is-none c.kept (sym (gone on) ∙ c.there))
]

pub several-leaves : (old new : Memory) → ((id : ℕ) (k : KeptChain) → chain_at old id ≡ Some k → IsUsedAlike new id k ⊎ IsNumberIn new.dropped id) → ((id : ℕ) → chain_at old id ≡ None → chain_at new id ≡ None) →
    ((id : ℕ) → IsNumberIn old.dropped id → IsNumberIn new.dropped id) → ((id : ℕ) → IsNumberIn new.dropped id → chain_at new id ≡ None) → LeavesCached old new
several-leaves old new used none told gone = record {
  cached = λ id c. used-cached old new id c (used id c.kept c.there);
  told = told;
  none = λ id c. cached-used old new id (chain_at old id) refl (used id) (none id) (gone id) c;
}

pub changed-leaves : (id : ℕ) (f : KeptChain → KeptChain) (old new : Memory) → new.chains ≡ on_chain id f old.chains → new.dropped ≡ old.dropped → ((k : KeptChain) → ((f k).chain.kind ≡ k.chain.kind) × ((f k).chain.attached ≡ k.chain.attached)) → LeavesCached old new
changed-leaves id f old new is dropped keeps = record {
  cached = λ i. here-or-beside (λ n. IsCached old n → IsCached new n ⊎ IsNumberIn new.dropped n) id i
      (λ c. inl (record { kept = f c.kept; there = changed-now old new id f is c.kept c.there; kind = (keeps c.kept).0 ∙ c.kind; attached = (keeps c.kept).1 ∙ c.attached }))
      (λ ne c. inl (cached-same old new i (chain-beside old new id (option_map f (chain_at old id)) is i ne) c));
  told = told-same old new dropped;
  none = λ i. here-or-beside (λ n. IsCached new n → IsCached old n) id i
      (λ c. let was = changed-was old new id f is c.kept c.there in record {
        kept = was.0;
        there = was.1;
        kind = sym (keeps was.0).0 ∙ ap (λ (k : KeptChain). k.chain.kind) was.2 ∙ c.kind;
        attached = sym (keeps was.0).1 ∙ ap (λ (k : KeptChain). k.chain.attached) was.2 ∙ c.attached;
      })
      (λ ne c. cached-same new old i (sym (chain-beside old new id (option_map f (chain_at old id)) is i ne)) c);
}

pub pinned-leaves : (id pin phase : ℕ) (old new : Memory) → IsSnapshotTaken old new id pin phase → LeavesCached old new
pinned-leaves id pin phase old new h = changed-leaves id (λ k. with_snapshot (snapshot_number k.chain) k) old new (ap (λ (m : Memory). m.chains) h.now) (ap (λ (m : Memory). m.dropped) h.now) (λ k. (refl, refl))

pub released-leaves : (id pin : ℕ) (m : Memory) → LeavesCached m (with_chains (on_chain id (without_snapshot pin) m.chains) m)
released-leaves id pin m = changed-leaves id (without_snapshot pin) m (with_chains (on_chain id (without_snapshot pin) m.chains) m) refl refl (λ k. (refl, refl))

pub filled-leaves : (id : ℕ) (f : Version → Version) (old new : Memory) → new.chains ≡ on_chain id (on_shown (on_newest_of f)) old.chains → new.dropped ≡ old.dropped → LeavesCached old new
filled-leaves id f old new is dropped = changed-leaves id (on_shown (on_newest_of f)) old new is dropped (λ k. (refl, refl))

pub dropped-leaves : (id : ℕ) (list : List Member) (old new : Memory) → IsChainDropped id list old new → LeavesCached old new
dropped-leaves id list old new h = record {
  cached = λ i. here-or-beside (λ n. IsCached old n → IsCached new n ⊎ IsNumberIn new.dropped n) id i
      (λ c. inr (subst (λ ns. IsNumberIn ns id) (sym h.dropped) (IsOneOf-back old.dropped (id ∷ []) id (inl refl))))
      (λ ne c. inl (cached-same old new i (chain-beside old new id None h.chains i ne) c));
  told = λ i on. subst (λ ns. IsNumberIn ns i) (sym h.dropped) (IsOneOf-front old.dropped (id ∷ []) i on);
  none = λ i. here-or-beside (λ n. IsCached new n → IsCached old n) id i
      (λ c. absurd (none-is-none c.kept (sym (chain-here old new id None h.chains) ∙ c.there)))
      (λ ne c. cached-same new old i (sym (chain-beside old new id None h.chains i ne)) c);
}
