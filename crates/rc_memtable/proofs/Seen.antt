-- What a snapshot of a memtable's chain sees: the versions up to the one that it pins.
use Rattle.std.proofs.Common.{◌≡◌, ℕ, List, [], Option, Some, None, IsSome, refl, sym, ap, ◌∙◌, subst}
use Rattle.rc_core.specs.declared.entries.ChainKind.{ChainKind}
use Rattle.rc_core.specs.declared.entries.ChainKind.TheVariants.{Memtable}
use Rattle.rc_core.specs.Chains.{upto}
use Rattle.rc_core.specs.Steps.{pin_at}
use Rattle.rc_core.specs.Version.{Version}
use Rattle.rc_memory.specs.Memory.{HasPin, KeptChain, Memory, chain_at}
use Rattle.rc_memtable.specs.calls.Reading.{IsSeenBy}
use Rattle.rc_memtable.proofs.Steps.{is-chain}

-- the versions up to the one of a number; none, where there is no number
abbrev upto-pin : List Version → Option ℕ → List Version
upto-pin versions None = []
upto-pin versions (Some j) = upto versions j

-- the versions of a chain up to the one that a snapshot pins
abbrev pub seen-in : Option KeptChain → ℕ → List Version
seen-in None pin = []
seen-in (Some k) pin = upto-pin k.chain.versions (pin_at k.chain.pins pin)

pub seen-is : (m : Memory) (id pin : ℕ) (versions : List Version) → IsSeenBy m id pin versions → seen-in (chain_at m id) pin ≡ versions
seen-is m id pin versions s =
    ap (λ (o : Option KeptChain). seen-in o pin) s.there
    ∙ ap (upto-pin s.kept.chain.versions) s.pinned
    ∙ s.seen

pub pin-there : (m : Memory) (id pin : ℕ) (versions : List Version) → IsSeenBy m id pin versions → HasPin m id pin
pin-there m id pin versions s = is-chain (λ k. IsSome (pin_at k.chain.pins pin)) (chain_at m id) s.kept s.there (subst IsSome (sym s.pinned) refl)

-- what is said of the versions that a snapshot sees is said of these
pub said-of : (P : ChainKind → List Version → Type 0) (m : Memory) (id pin : ℕ) (versions : List Version) → IsSeenBy m id pin versions →
    ((k : KeptChain) (j : ℕ) → chain_at m id ≡ Some k → pin_at k.chain.pins pin ≡ Some j → P k.chain.kind (upto k.chain.versions j)) → P Memtable versions
said-of P m id pin versions s h = subst (P Memtable) s.seen (subst (λ kind. P kind (upto s.kept.chain.versions s.number)) s.kind (h s.kept s.number s.there s.pinned))
