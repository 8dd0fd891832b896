-- What a snapshot sees, by the chain and the number that it pins.
use Rattle.std.proofs.Common.{◌≡◌, ℕ, true, false, List, [], Some, refl, sym, ap, ◌∙◌, subst}
use Rattle.std.specs.declared.cmp.Ordering.{Ordering}
use Rattle.std.specs.declared.cmp.Ordering.TheVariants.{Less, Equal, Greater}
use Rattle.std.specs.Ordering.{is_lt}
use Rattle.rc_position.specs.declared.comps.Comp.{Comp}
use Rattle.rc_position.specs.declared.positions.Pos.{Pos}
use Rattle.rc_position.specs.declared.positions.Weight.TheVariants.{After}
use Rattle.rc_position.specs.Position.{IsBefore, pos_cmp}
use Rattle.rc_core.specs.Chains.{upto}
use Rattle.rc_core.specs.declared.entries.ChainKind.{ChainKind}
use Rattle.rc_core.specs.declared.parts.Part.{Part}
use Rattle.rc_core.specs.Parts.{IsFirstPart}
use Rattle.rc_core.specs.Steps.{pin_at}
use Rattle.rc_core.specs.Version.{Version, end_position}
use Rattle.rc_memory.specs.Memory.{KeptChain, Memory, chain_at}
use Rattle.rc_chain.specs.declared.chains.Snap.{Snap}
use Rattle.rc_cursor.specs.Snapshots.{kind_seen, versions_seen}

-- a snapshot that is there sees the versions of its chain up to the one that it pins
pub record IsSight (m : Memory) (s : Snap) : Type 0 where
  pub chain : KeptChain
  pub number : ℕ
  pub there : chain_at m s.chain ≡ Some chain
  pub pinned : pin_at chain.chain.pins s.pin ≡ Some number
  pub versions : versions_seen m s ≡ upto chain.chain.versions number
  pub kind : kind_seen m s ≡ chain.chain.kind

-- so what holds of these holds of what it sees
pub seen-as : (P : ChainKind → List Version → Type 0) (m : Memory) (s : Snap) → IsSight m s → ((k : KeptChain) (j : ℕ) → chain_at m s.chain ≡ Some k → pin_at k.chain.pins s.pin ≡ Some j → P k.chain.kind (upto k.chain.versions j)) → P (kind_seen m s) (versions_seen m s)
seen-as P m s w h = subst (λ q. P q (versions_seen m s)) (sym w.kind) (subst (P w.chain.chain.kind) (sym w.versions) (h w.chain w.number w.there w.pinned))

less-of : (r : Ordering) → true ≡ is_lt r → r ≡ Less
less-of Less t = refl
less-of Equal t = absurd (cc)
less-of Greater t = absurd (cc)

pub before-bound : (x : Pos) (p : List Comp) → p ≡ [] → true ≡ is_lt (pos_cmp x (record { prefix = p; weight = After })) → IsBefore x end_position
before-bound x p e t = subst (λ q. IsBefore x (record { prefix = q; weight = After })) e (less-of (pos_cmp x (record { prefix = p; weight = After })) t)

pub over-bound : (x : Pos) (p : List Comp) → p ≡ [] → false ≡ is_lt (pos_cmp x (record { prefix = p; weight = After })) → IsBefore x end_position → ⊥
over-bound x p e f l = let u : false ≡ true = f ∙ ap is_lt (subst (λ q. IsBefore x (record { prefix = q; weight = After })) (sym e) l) in cc

-- what was got is the first part of what it sees
pub first-of : (m : Memory) (s : Snap) → IsSight m s → (x : Pos) (p : List Comp) → p ≡ [] → (q : Part) →
    ((k : KeptChain) (j : ℕ) → chain_at m s.chain ≡ Some k → pin_at k.chain.pins s.pin ≡ Some j → IsFirstPart k.chain.kind (upto k.chain.versions j) x (record { prefix = p; weight = After }) q) → IsFirstPart (kind_seen m s) (versions_seen m s) x end_position q
first-of m s w x p e q h = subst (λ r. IsFirstPart (kind_seen m s) (versions_seen m s) x (record { prefix = r; weight = After }) q) e (seen-as (λ kind vs. IsFirstPart kind vs x (record { prefix = p; weight = After }) q) m s w h)
