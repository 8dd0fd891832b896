-- What a snapshot of a memtable's chain sees is said still where newest versions get another phase.
use Rattle.std.proofs.Common.{◌≡◌, ℕ, suc, List, [], ◌∷◌, Option, Some, None, IsSome, map, take, refl, sym, ap, ◌∙◌, subst}
use Rattle.std.specs.List.{take-map}
use Rattle.std.specs.Prelude.{IsSomeAnd, IsTrue}
use Rattle.rc_position.specs.declared.positions.Pos.{Pos}
use Rattle.rc_mutation.specs.declared.mutations.Mutation.{Mutation}
use Rattle.rc_core.specs.declared.entries.ChainKind.{ChainKind}
use Rattle.rc_core.specs.Chain.{IsBare, IsKnown, content, has_flag, states_at}
use Rattle.rc_core.specs.Chains.{AllInherit, upto}
use Rattle.rc_core.specs.Continuity.{EachOf}
use Rattle.rc_core.specs.StandsFor.{StandsFor}
use Rattle.rc_core.specs.Steps.{pin_at, with_phase}
use Rattle.rc_core.specs.Version.{Behind, On, Spot, Version, state_at}
use Rattle.rc_core.specs.laws.Written.{alike-stands}
use Rattle.rc_memory.specs.Memory.{KeptChain, Memory, chain_at}
use Rattle.rc_chain.specs.declared.chains.Snap.{Snap}
use Rattle.rc_cursor.specs.Snapshots.{AreReadable, kind_in, kind_seen, versions_in, versions_seen, versions_upto}
use Rattle.rc_entries.specs.Invalidated.{AreSameButPhases, KeepsReaders}
use Rattle.rc_snapshots.specs.Streams.{SeesChanges}
use Rattle.rc_row_cache.proofs.Numbered.{number-there}
use Rattle.rc_row_cache.proofs.Taking.{has-pin}

bare-states : (s : Spot) (vs : List Version) → states_at s (map (with_phase 0) vs) ≡ states_at s vs
bare-states s [] = refl
bare-states s (v ∷ vs) = ap (λ cs. state_at s v ∷ cs) (bare-states s vs)

bare-inherit : (vs : List Version) → EachOf AllInherit vs → EachOf AllInherit (map (with_phase 0) vs)
bare-inherit [] h = tt
bare-inherit (v ∷ vs) h = (record { statics = h.0.statics; clustered = h.0.clustered }, bare-inherit vs h.1)

inherit-bare : (vs : List Version) → EachOf AllInherit (map (with_phase 0) vs) → EachOf AllInherit vs
inherit-bare [] h = tt
inherit-bare (v ∷ vs) h = (record { statics = h.0.statics; clustered = h.0.clustered }, inherit-bare vs h.1)

module _ (before now : List Version) (same : AreSameButPhases before now) where
  same-states : (s : Spot) → states_at s now ≡ states_at s before
  same-states s = sym (bare-states s now) ∙ ap (states_at s) same ∙ bare-states s before

  same-inherit : EachOf AllInherit before → EachOf AllInherit now
  same-inherit h = inherit-bare now (subst (EachOf AllInherit) (sym same) (bare-inherit before h))

  module _ (kind : ChainKind) (x : Pos) where
    was-bare : IsBare now x → IsBare before x
    was-bare b = record { inside = b.inside; no_row = ap (λ cs. (content cs).0) (sym (same-states (On x))) ∙ b.no_row }

    is-bare : IsBare before x → IsBare now x
    is-bare b = record { inside = b.inside; no_row = ap (λ cs. (content cs).0) (same-states (On x)) ∙ b.no_row }

    was-known : IsKnown kind now x → IsKnown kind before x
    was-known k = record {
      at = subst (λ cs. IsTrue (has_flag kind cs)) (same-states (On x)) k.at;
      gap = λ b. subst (λ cs. IsTrue (has_flag kind cs)) (same-states (Behind x)) (k.gap (is-bare b));
    }

  same-readable : (kind : ChainKind) → AreReadable kind before → AreReadable kind now
  same-readable kind r = record {
    even = λ x bare known. ap (λ cs. (content cs).1) (same-states (On x)) ∙ r.even x (was-bare kind x bare) (was-known kind x known) ∙ ap (λ cs. (content cs).1) (sym (same-states (Behind x)));
    keys = λ x known some. r.keys x (was-known kind x known) (λ e. some (ap (λ cs. (content cs).0) (same-states (On x)) ∙ e));
  }

not-there : (o : Option ℕ) → o ≡ None → IsSome o → ⊥
not-there None e on = cc
not-there (Some j) e on = cc

pub kept-sees : (changes : List Mutation) (s : Snap) (old new : Memory) → ((k : KeptChain) → chain_at old s.chain ≡ Some k → (now : KeptChain) × (chain_at new s.chain ≡ Some now) × KeepsReaders k now) → SeesChanges changes old s → SeesChanges changes new s
kept-sees changes s old new keeps h =
    let k = has-pin old s.chain s.pin h.pin in
    let n = keeps k.0 k.1 in
    let kind : kind_seen new s ≡ kind_seen old s = ap kind_in n.1 ∙ n.2.kind ∙ sym (ap kind_in k.1) in
    number-there (pin_at k.0.chain.pins s.pin)
    (λ none. absurd (not-there (pin_at k.0.chain.pins s.pin) none k.2))
    (λ j on. (let was : versions_seen old s ≡ upto k.0.chain.versions j = ap (λ o. versions_in o s.pin) k.1 ∙ ap (versions_upto k.0.chain.versions) on in
    let is : versions_seen new s ≡ upto n.0.chain.versions j = ap (λ o. versions_in o s.pin) n.1 ∙ ap (λ ps. versions_upto n.0.chain.versions (pin_at ps s.pin)) n.2.pins ∙ ap (versions_upto n.0.chain.versions) on in
    let same : AreSameButPhases (upto k.0.chain.versions j) (upto n.0.chain.versions j) = sym (take-map (with_phase 0) (suc j) n.0.chain.versions) ∙ ap (take (suc j)) n.2.same ∙ take-map (with_phase 0) (suc j) k.0.chain.versions in
    record {
      pin = subst (λ (o : Option KeptChain). IsSomeAnd o (λ q. IsSome (pin_at q.chain.pins s.pin))) (sym n.1) (subst (λ ps. IsSome (pin_at ps s.pin)) (sym n.2.pins) k.2);
      kind = kind ∙ h.kind;
      inherit = subst (EachOf AllInherit) (sym is) (same-inherit (upto k.0.chain.versions j) (upto n.0.chain.versions j) same (subst (EachOf AllInherit) was h.inherit));
      stands = subst (StandsFor changes) (sym is) (alike-stands changes (upto k.0.chain.versions j) (upto n.0.chain.versions j) (n.2.seen j) (subst (StandsFor changes) was h.stands));
      readable = subst (λ q. AreReadable q (versions_seen new s)) (sym kind) (subst (AreReadable (kind_seen old s)) (sym is) (same-readable (upto k.0.chain.versions j) (upto n.0.chain.versions j) same (kind_seen old s) (subst (AreReadable (kind_seen old s)) was h.readable)));
    }))
