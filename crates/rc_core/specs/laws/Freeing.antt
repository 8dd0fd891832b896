-- One object freed of a chain that nobody finds or reads.
use Rattle.std.specs.Prelude.{◌≡◌, ◌⊎◌, ◌<◌, ℕ, suc, true, false, List, [], ◌∷◌, ◌++◌, None, Some, length}
use Rattle.std.proofs.Common.{refl, sym, ap, ◌∙◌, subst, ⊎_elim, inl, inr, arith}
use Rattle.rc_position.specs.declared.positions.Pos.{Pos}
use Rattle.rc_position.specs.Position.{IsBefore}
use Rattle.rc_mutation.specs.declared.mutations.Mutation.{Mutation}
use Rattle.rc_core.specs.declared.entries.ChainKind.{ChainKind}
use Rattle.rc_core.specs.declared.entries.ChainKind.TheVariants.{Memtable, Cache}
use Rattle.rc_core.specs.declared.entries.Flag.TheVariants.{Inherit}
use Rattle.rc_core.specs.Version.{Spot, Version, IsVersion, state_at, state_of, finding_of, end_position}
use Rattle.rc_core.specs.Change.{mark}
use Rattle.rc_core.specs.Continuity.{EachOf, HoldNoMore}
use Rattle.rc_core.specs.Chains.{Chain, upto, phase_at, IsNeeded, IsUpdating, AllInherit, IsChainContinuous, IsMemtableChain, with_versions}
use Rattle.rc_core.specs.Steps.{IsChain}
use Rattle.rc_core.specs.Free.{IsAbandoned, freed_mark, free_entry, free_statics}
use Rattle.rc_core.specs.laws.Spots.{take_out-seen}
use Rattle.rc_core.specs.laws.Losing.{each-one, each-other, entry-evicted, statics-evicted}
use Rattle.rc_core.specs.laws.Keeping.{each_less, dropped-within, evicted-chain}
use Rattle.rc_core.specs.laws.Standing.{Stand, stand, above, above-is, older_or_from, length-cons, stand-older, stand-from}

left_unneeded : (c : Chain) → IsAbandoned c → (j : ℕ) → IsNeeded c j → ⊥
left_unneeded c l j need = ⊎_elim
    (λ p. l.unpinned j p)
    (λ h. ⊎_elim (λ a. let u : false ≡ true = sym l.detached ∙ a.0 in cc) (λ u. subst IsUpdating l.settled u.0) h)
    need

-- ---- a cache chain

pub entry-freed : (below : ℕ → List Mutation) (c : Chain) (front back : List Version) (v : Version) (x : Pos) → c.versions ≡ front ++ v ∷ back → IsAbandoned c → IsVersion v → IsBefore x end_position →
    IsChainContinuous below c → IsChainContinuous below (with_versions (front ++ free_entry Cache x v ∷ back) c)
entry-freed below c front back v x vs l i b k = evicted-chain below c front back v (free_entry Cache x v) vs (entry-evicted v x i b) refl (λ p e. let u : None ≡ Some p = sym l.settled ∙ e in absurd (cc)) k

pub statics-freed : (below : ℕ → List Mutation) (c : Chain) (front back : List Version) (v : Version) → c.versions ≡ front ++ v ∷ back → IsAbandoned c → IsChainContinuous below c → IsChainContinuous below (with_versions (front ++ free_statics Cache v ∷ back) c)
statics-freed below c front back v vs l k = evicted-chain below c front back v (free_statics Cache v) vs (statics-evicted v) refl (λ p e. let u : None ≡ Some p = sym l.settled ∙ e in absurd (cc)) k

pub version-freed : (below : ℕ → List Mutation) (c : Chain) (front back : List Version) (v : Version) → c.versions ≡ front ++ v ∷ back → IsAbandoned c → IsChainContinuous below c → IsChainContinuous below (with_versions (front ++ back) c)
version-freed below c front back v vs l k = record {
  within = λ j lt. ⊎_elim
      (λ o. subst (λ (s : Stand). HoldNoMore (below s.0) s.1) (ap (λ us. stand us j) vs ∙ stand-older j front (v ∷ back) o ∙ sym (stand-older j front back o)) (k.within j (omega (arith, lt, lengths))))
      (λ n. from n.0 j n.1 lt)
      (older_or_from j (length front));
  needed = λ j reach has need. absurd (left_unneeded (with_versions (front ++ back) c) (record { detached = l.detached; settled = l.settled; unpinned = l.unpinned }) j need);
  ahead = λ p e. let u : None ≡ Some p = sym l.settled ∙ e in absurd (cc);
}
  where
    lengths : length c.versions ≡ suc (length (front ++ back))
    lengths = ap length vs ∙ more front
      where
        more : (us : List Version) → length (us ++ v ∷ back) ≡ suc (length (us ++ back))
        more [] = refl
        more (u ∷ us) = ap suc (more us)

    from : (m j : ℕ) → j ≡ above (length front) m → j < length (front ++ back) → HoldNoMore (below (phase_at (front ++ back) j)) (upto (front ++ back) j)
    from m j e lt =
        subst (λ (s : Stand). HoldNoMore (below s.0) s.1) (sym (ap (stand (front ++ back)) e ∙ stand-from m front back))
        (dropped-within (below (phase_at back m)) front (upto back m) v
        (subst (λ (s : Stand). HoldNoMore (below s.0) s.1) (ap (λ us. stand us (above (length front) (suc m))) vs ∙ stand-from (suc m) front (v ∷ back))
        (k.within (above (length front) (suc m)) (omega (arith, lt, e, lengths, above-is (length front) m, above-is (length front) (suc m))))))

-- ---- a memtable's

left_memtable : (c : Chain) (versions : List Version) → IsAbandoned c → EachOf AllInherit versions → IsMemtableChain (with_versions versions c)
left_memtable c versions l f = record {
  flags = f;
  even = λ j need. absurd (⊎_elim (λ p. l.unpinned j p) (λ a. let u : false ≡ true = sym l.detached ∙ a.0 in cc) need);
}

freed_inherits : (v : Version) (x : Pos) → IsVersion v → IsBefore x end_position → AllInherit v → AllInherit (free_entry Memtable x v)
freed_inherits v x i b a = record {
  statics = a.statics;
  clustered = λ s. ⊎_elim (λ e. ap (λ f. (state_of f).flag) e ∙ a.clustered s) (λ e. ap (λ f. (state_of f).flag) e) (take_out-seen (mark Inherit None) s x v.entries i.ascend i.ends b);
}

pub entry-freed-memtable : (c : Chain) (front back : List Version) (v : Version) (x : Pos) → c.versions ≡ front ++ v ∷ back → IsAbandoned c → IsVersion v → IsBefore x end_position → IsMemtableChain c → IsMemtableChain (with_versions (front ++ free_entry Memtable x v ∷ back) c)
entry-freed-memtable c front back v x vs l i b k = let f = subst (EachOf AllInherit) vs k.flags in
    left_memtable c (front ++ free_entry Memtable x v ∷ back) l (each-other AllInherit front back v (free_entry Memtable x v) f (freed_inherits v x i b (each-one AllInherit front back v f)))

pub statics-freed-memtable : (c : Chain) (front back : List Version) (v : Version) → c.versions ≡ front ++ v ∷ back → IsAbandoned c → IsMemtableChain c → IsMemtableChain (with_versions (front ++ free_statics Memtable v ∷ back) c)
statics-freed-memtable c front back v vs l k = let f = subst (EachOf AllInherit) vs k.flags in
    left_memtable c (front ++ free_statics Memtable v ∷ back) l (each-other AllInherit front back v (free_statics Memtable v) f (record { statics = refl; clustered = (each-one AllInherit front back v f).clustered }))

pub version-freed-memtable : (c : Chain) (front back : List Version) (v : Version) → c.versions ≡ front ++ v ∷ back → IsAbandoned c → IsMemtableChain c → IsMemtableChain (with_versions (front ++ back) c)
version-freed-memtable c front back v vs l k = left_memtable c (front ++ back) l (each_less AllInherit front back v (subst (EachOf AllInherit) vs k.flags))

-- ---- what is said where an object was freed

pub freed-state : (kind : ChainKind) (v : Version) (x : Pos) → IsVersion v → IsBefore x end_position → (s : Spot) → (state_at s (free_entry kind x v) ≡ state_at s v) ⊎ (state_at s (free_entry kind x v) ≡ state_of (finding_of (freed_mark kind) None))
freed-state kind v x i b s = ⊎_elim (λ e. inl (ap state_of e)) (λ e. inr (ap state_of e)) (take_out-seen (freed_mark kind) s x v.entries i.ascend i.ends b)

-- ---- one version replaced

pub replaced-form : (c : Chain) (front back : List Version) (v w : Version) → c.versions ≡ front ++ v ∷ back → IsVersion w → IsChain c → IsChain (with_versions (front ++ w ∷ back) c)
replaced-form c front back v w vs i ch = record {
  versions = each-other IsVersion front back v w (subst (EachOf IsVersion) vs ch.versions) i;
  pins = λ j p. omega (arith, ch.pins j p, lengths);
  unpinned = λ u j p. omega (arith, ch.unpinned u j p, lengths);
}
  where
    lengths : length c.versions ≡ length (front ++ w ∷ back)
    lengths = ap length vs ∙ length-cons front v back ∙ sym (length-cons front w back)
