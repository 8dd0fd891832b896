-- What the snapshots of one chain see, where something is done to it.
use Rattle.std.proofs.Common.{inl, inr, ◌≡◌, ℕ, true, false, List, Option, Some, None, IsSome, is_some, refl, sym, ap, ◌∙◌, subst}
use Rattle.std.specs.Prelude.{IfSome, IsSomeAnd}
use Rattle.std.specs.Option.{option_map}
use Rattle.rc_core.specs.Steps.{free_number, pin_at, pins_with, pins_without}
use Rattle.rc_core.specs.laws.Pins.{pin-freed, pin-is-pinned, pin-kept, pin-others, pin-was-free}
use Rattle.rc_registry.specs.Registry.{AreFree}
use Rattle.rc_memory.specs.Memory.{KeptChain, Memory, chain_at, on_shown, shown_detached, snapshot_number, with_snapshot, without_snapshot}
use Rattle.rc_snapshots.specs.Snapshots.{kind_in, versions_in, versions_upto}
use Rattle.rc_memtable.specs.Steps.{IsGrown}
use Rattle.rc_snapshots.specs.Seeing.{AreSameSnapshots, NothingIsLost}
use Rattle.rc_unstored.proofs.Chains.{same-or-not}

-- a snapshot of a number is of a chain
abbrev pub PinIn : Option KeptChain → ℕ → Type 0
PinIn o pin = IsSomeAnd o (λ k. IsSome (pin_at k.chain.pins pin))

-- it is there as before, and sees the same
abbrev pub SeenIn : ℕ → Option KeptChain → Option KeptChain → Type 0
SeenIn pin o n = PinIn o pin → PinIn n pin × (versions_in n pin ≡ versions_in o pin) × (kind_in n ≡ kind_in o)

-- so is each
abbrev pub KeptIn : Option KeptChain → Option KeptChain → Type 0
KeptIn o n = (pin : ℕ) → SeenIn pin o n

pub in-then : (pin : ℕ) (a b c : Option KeptChain) → SeenIn pin a b → SeenIn pin b c → SeenIn pin a c
in-then pin a b c f g on = let x = f on in let y = g x.0 in (y.0, y.1 ∙ x.1, y.2 ∙ x.2)

pub same-in : (o n : Option KeptChain) → n ≡ o → KeptIn o n
same-in o n e pin on = (subst (λ (q : Option KeptChain). PinIn q pin) (sym e) on, ap (λ q. versions_in q pin) e, ap kind_in e)

pub nothing-in : (o n : Option KeptChain) → o ≡ None → KeptIn o n
nothing-in None n e pin on = absurd on
nothing-in (Some k) n e pin on = absurd (cc)

-- ---- a chain that got more

seen-grown : (k n : KeptChain) → IsGrown k n → (pin : ℕ) (o : Option ℕ) → pin_at k.chain.pins pin ≡ o → versions_upto n.chain.versions o ≡ versions_upto k.chain.versions o
seen-grown k n g pin None e = refl
seen-grown k n g pin (Some j) e = g.below j (pin-is-pinned k.chain.pins pin j e)

grown-in : (k n : KeptChain) → IsGrown k n → KeptIn (Some k) (Some n)
grown-in k n g pin on = (
  subst (λ (ps : List (Option ℕ)). IsSome (pin_at ps pin)) (sym g.pins) on,
  ap (λ (ps : List (Option ℕ)). versions_upto n.chain.versions (pin_at ps pin)) g.pins ∙ seen-grown k n g pin (pin_at k.chain.pins pin) refl,
  g.kind,
)

pub more-in : (o n : Option KeptChain) → ((k : KeptChain) → o ≡ Some k → (q : KeptChain) × (n ≡ Some q) × IsGrown k q) → KeptIn o n
more-in None n h pin on = absurd on
more-in (Some k) n h pin on = let g = h k refl in subst (λ (q : Option KeptChain). SeenIn pin (Some k) q) (sym g.1) (grown-in k g.0 g.2 pin) on

-- ---- a snapshot more

-- a number that is free is no snapshot's
pub not-free : (ps : List (Option ℕ)) (pin : ℕ) → IsSome (pin_at ps pin) → pin ≡ free_number ps → ⊥
not-free ps pin on same = let e : false ≡ true = sym (ap is_some (ap (pin_at ps) same ∙ pin-was-free ps)) ∙ on in absurd (cc)

abbrev pub with_one : KeptChain → KeptChain
with_one k = with_snapshot (snapshot_number k.chain) k

pub taken-in : (o : Option KeptChain) → KeptIn o (option_map with_one o)
taken-in None pin on = absurd on
taken-in (Some k) pin on = let e = pin-others (snapshot_number k.chain) k.chain.pins pin (not-free k.chain.pins pin on) in
    (subst (λ (o : Option ℕ). IsSome o) (sym e) on, ap (versions_upto k.chain.versions) e, refl)

-- ---- a snapshot less

pub fewer-in : (o : Option KeptChain) (gone pin : ℕ) → (pin ≡ gone → ⊥) → SeenIn pin o (option_map (without_snapshot gone) o)
fewer-in None gone pin ne on = absurd on
fewer-in (Some k) gone pin ne on = let e = pin-kept gone pin k.chain.pins ne in
    (subst (λ (o : Option ℕ). IsSome o) (sym e) on, ap (versions_upto k.chain.versions) e, refl)

-- the one that was taken back is gone
pub gone-in : (o : Option KeptChain) (pin : ℕ) → PinIn (option_map (without_snapshot pin) o) pin → ⊥
gone-in None pin on = absurd on
gone-in (Some k) pin on = let e : false ≡ true = sym (ap is_some (pin-freed pin k.chain.pins)) ∙ on in absurd (cc)

-- ---- one that was taken is given back

pins-back : (version : ℕ) (ps : List (Option ℕ)) (i : ℕ) → pin_at (pins_without (free_number ps) (pins_with version ps)) i ≡ pin_at ps i
pins-back version ps i = elim (same-or-not i (free_number ps)) [
  | inl same ↦ subst (λ (j : ℕ). pin_at (pins_without (free_number ps) (pins_with version ps)) j ≡ pin_at ps j) (sym same) (pin-freed (free_number ps) (pins_with version ps) ∙ sym (pin-was-free ps))
  | inr ne ↦ pin-kept (free_number ps) i (pins_with version ps) ne ∙ pin-others version ps i ne
]

pub same-back : (k : KeptChain) (pin : ℕ) → pin ≡ free_number k.chain.pins → (i : ℕ) → pin_at (without_snapshot pin (with_one k)).chain.pins i ≡ pin_at k.chain.pins i
same-back k pin e i = ap (λ (j : ℕ). pin_at (pins_without j (pins_with (snapshot_number k.chain) k.chain.pins)) i) e ∙ pins-back (snapshot_number k.chain) k.chain.pins i

pub back-in : (o : Option KeptChain) (pin : ℕ) → IfSome o (λ k. pin ≡ free_number k.chain.pins) → KeptIn o (option_map (without_snapshot pin) (option_map with_one o))
back-in None pin number i on = absurd on
back-in (Some k) pin number i on = let e = same-back k pin number i in
    (subst (λ (o : Option ℕ). IsSome o) (sym e) on, ap (versions_upto k.chain.versions) e, refl)

pub none-in : (o : Option KeptChain) (pin : ℕ) → IfSome o (λ k. pin ≡ free_number k.chain.pins) → (i : ℕ) → PinIn (option_map (without_snapshot pin) (option_map with_one o)) i → PinIn o i
none-in None pin number i on = absurd on
none-in (Some k) pin number i on = subst (λ (o : Option ℕ). IsSome o) (same-back k pin number i) on

-- ---- a chain that was let go

pub detached-in : (o : Option KeptChain) → KeptIn o (option_map (on_shown shown_detached) o)
detached-in None pin on = absurd on
detached-in (Some k) pin on = (on, refl, refl)

unpinned : (ps : List (Option ℕ)) → AreFree ps → (pin : ℕ) (o : Option ℕ) → pin_at ps pin ≡ o → IsSome o → ⊥
unpinned ps free pin None e on = absurd (cc)
unpinned ps free pin (Some j) e on = free j (pin-is-pinned ps pin j e)

-- a chain that nobody pins has no snapshot
pub free-in : (o n : Option KeptChain) (k : KeptChain) → o ≡ Some k → AreFree k.chain.pins → KeptIn o n
free-in None n k e free pin on = absurd on
free-in (Some q) n k e free pin on = absurd (unpinned q.chain.pins (subst (λ (o : Option KeptChain). IfSome o (λ x. AreFree x.chain.pins)) (sym e) free) pin (pin_at q.chain.pins pin) refl on)

-- ---- all chains

pub all-seen : (m n : Memory) → ((id : ℕ) → KeptIn (chain_at m id) (chain_at n id)) → NothingIsLost m n
all-seen m n h s on = let x = h s.chain s.pin on in record { pin = x.0; versions = x.1; kind = x.2 }

-- the chains are as they were
pub chains-same : (m n : Memory) → ((id : ℕ) → chain_at n id ≡ chain_at m id) → AreSameSnapshots m n
chains-same m n same = record { alike = all-seen m n (λ id. same-in (chain_at m id) (chain_at n id) (same id)); none_more = λ s on. subst (λ (q : Option KeptChain). PinIn q s.pin) (same s.chain) on }
