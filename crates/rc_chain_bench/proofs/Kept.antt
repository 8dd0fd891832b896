-- What the calls leave of a partition.
use Rattle.std.proofs.Common.{◌≡◌, ◌⊎◌, ℕ, ◌<◌, ◌≤◌, ◌-◌, Bool, true, false, List, [], ◌∷◌, ◌++◌, length, Option, Some, None, IsSome, refl, sym, ap, ◌∙◌, subst, arith, slice_index_or}
use Rattle.std.specs.Prelude.{Contains, IfSome, IsSomeAnd}
use Rattle.std.specs.List.{AllByRecursion}
use Rattle.std.specs.Option.{option_map}
use Rattle.std.proofs.lemmas.List.Elements.{All-from_recursion}
use Rattle.rc_cell.specs.declared.rows.Row.{Row}
use Rattle.rc_cell.specs.declared.writes.Tomb.{Tomb}
use Rattle.rc_position.specs.declared.comps.Comp.{Comp}
use Rattle.rc_position.specs.declared.positions.Pos.{Pos}
use Rattle.rc_position.specs.Position.{row_pos}
use Rattle.rc_rowcode.specs.Spelling.{CompFits, IsCodedRow, KeyFits}
use Rattle.rc_core.specs.declared.entries.ChainKind.{ChainKind}
use Rattle.rc_core.specs.declared.entries.ChainKind.TheVariants.{Memtable}
use Rattle.rc_core.specs.declared.entries.Flag.{Flag}
use Rattle.rc_core.specs.declared.entries.Flag.TheVariants.{Inherit}
use Rattle.rc_core.specs.Chains.{Shown}
use Rattle.rc_core.specs.Steps.{free_number, on_version, pin_at, pins_with, row_joined, version_of}
use Rattle.rc_core.specs.Version.{Version}
use Rattle.rc_version.specs.Versions.{joined_bytes}
use Rattle.lsa_pool.specs.Room.{spare_of}
use Rattle.rc_registry.specs.Registry.{put_at_number}
use Rattle.rc_memory.specs.Changes.{FitsChanged, KeepsLast, OfVersion, member_at}
use Rattle.rc_memory.specs.Kept.{IsSoundChain}
use Rattle.rc_memory.specs.Recency.{IsLastInner, IsUnderUpdate}
use Rattle.rc_memory.specs.Room.{FitTogether}
use Rattle.rc_memory.specs.Memory.{KeptChain, Member, Memory, HasChain, HasPin, HasVersion, IsSnapshotTaken, IsUntouched, IsVersionAt, chain_at, on_chain, on_shown, on_version_of, snapshot_number, with_snapshot}
use Rattle.rc_memory.specs.laws.Put.{put-at}
use Rattle.rc_chain.specs.Lives.{IsChainMade, chain_of_new, flag_of_new, is_cache, with_version_over}
use Rattle.rc_chain_bench.specs.Partition.{IsCodedMemtable, IsCodedVersion, IsPartition, IsRowJoined, with_row_joined}
use Rattle.rc_chain_bench.proofs.Coded.{JoinedCoded, all-pushed, fit-coded, joined-small, on-coded}

pub some-and : {X : Type 0} (P : X → Type 0) (o : Option X) → IsSomeAnd o P → (x : X) × (o ≡ Some x) × P x
some-and P None h = absurd h
some-and P (Some x) h = (x, refl, h)

pub and-some : {X : Type 0} (P : X → Type 0) (o : Option X) (x : X) → o ≡ Some x → P x → IsSomeAnd o P
and-some P o x e h = subst (λ q. IsSomeAnd q P) (sym e) h

-- all chains are as they were
pub partition-untouched : (old new : Memory) (id : ℕ) → IsUntouched old new → IsPartition old id → IsPartition new id
partition-untouched old new id same h = subst (λ cs. IsSomeAnd (slice_index_or cs id None) (λ (k : KeptChain). IsCodedMemtable k.chain)) (sym same.chains) h

-- something was done to the chain that leaves it a partition
mapped : (f : Shown → Shown) → ((c : Shown) → IsCodedMemtable c → IsCodedMemtable (f c)) → (o : Option KeptChain) → IsSomeAnd o (λ k. IsCodedMemtable k.chain) → IsSomeAnd (option_map (on_shown f) o) (λ k. IsCodedMemtable k.chain)
mapped f keeps None h = absurd h
mapped f keeps (Some k) h = keeps k.chain h

pub partition-on : (old new : Memory) (id : ℕ) (f : Shown → Shown) → new.chains ≡ on_chain id (on_shown f) old.chains → ((c : Shown) → IsCodedMemtable c → IsCodedMemtable (f c)) → IsPartition old id → IsPartition new id
partition-on old new id f e keeps h =
    subst (λ (o : Option KeptChain). IsSomeAnd o (λ k. IsCodedMemtable k.chain)) (sym (ap (λ cs. slice_index_or cs id None) e ∙ put-at old.chains id (option_map (on_shown f) (chain_at old id)))) (mapped f keeps (chain_at old id) h)

-- what two functions do alike to the chain that is there
pub on-alike : (cs : List (Option KeptChain)) (id : ℕ) (k : KeptChain) (f g : Shown → Shown) → slice_index_or cs id None ≡ Some k → f k.chain ≡ g k.chain → on_chain id (on_shown f) cs ≡ on_chain id (on_shown g) cs
on-alike cs id k f g e same = ap (λ o. put_at_number id o cs) (ap (option_map (on_shown f)) e ∙ ap (λ c. Some (record { chain = c; passed = k.passed })) same ∙ sym (ap (option_map (on_shown g)) e))

-- what holds of the chain that is there
pub partition-at : (m : Memory) (id : ℕ) → IsPartition m id → (k : KeptChain) → chain_at m id ≡ Some k → IsCodedMemtable k.chain
partition-at m id h k e = subst (λ (o : Option KeptChain). IsSomeAnd o (λ q. IsCodedMemtable q.chain)) e h

pub partition-there : (m : Memory) (id : ℕ) → IsPartition m id → HasChain m id
partition-there m id h = let k = some-and (λ (q : KeptChain). IsCodedMemtable q.chain) (chain_at m id) h in subst (λ (o : Option KeptChain). IsSome o) (sym k.1) refl

if-some : {X : Type 0} (P : X → Type 0) (o : Option X) → ((x : X) → o ≡ Some x → P x) → IfSome o P
if-some P None each = tt
if-some P (Some x) each = each x refl

all-here : {X : Type 0} (P : X → Type 0) (older newer : List X) (x : X) → AllByRecursion P (older ++ (x ∷ newer)) → P x
all-here P [] newer x h = h.0
all-here P (y ∷ older) newer x h = all-here P older newer x h.1

no_both : (b : Bool) → b ≡ false → b ≡ true → ⊥
no_both b f t = cc

-- A row may be joined to the newest version of a partition where there is room for the largest entry.
module _ (law : JoinedCoded) (m : Memory) (id newest : ℕ) (h : IsPartition m id) (sound : IfSome (chain_at m id) (λ k. IsSoundChain k.chain)) (is : (k : KeptChain) → chain_at m id ≡ Some k → newest ≡ length k.chain.versions - 1) where
  pub newest-there : HasVersion m id newest
  newest-there =
      let k = some-and (λ (q : KeptChain). IsCodedMemtable q.chain) (chain_at m id) h in let some = (subst (λ (o : Option KeptChain). IfSome o (λ q. IsSoundChain q.chain)) k.1 sound).some in let number = is k.0 k.1 in
      and-some (λ (q : KeptChain). newest < length q.chain.versions) (chain_at m id) k.0 k.1 (omega (arith, some, number))

  module _ (key : List Comp) (fits : KeyFits key) (row : Row) (coded : IsCodedRow row) where
    pub join-room : 8952 ≤ spare_of 131072 m.region.usages → OfVersion m id newest (λ k v. joined_bytes (row_pos key) row v ≤ spare_of 131072 m.region.usages)
    join-room room k v e at =
        let small = joined-small law (row_pos key) fits row coded v (all-here IsCodedVersion at.older at.newer v (subst (AllByRecursion IsCodedVersion) at.split (partition-at m id h k e).coded)) in omega (arith, small, room)

    pub join-fits : FitsChanged 131072 id newest (row_joined (row_pos key) row) m
    join-fits = if-some (λ (k : KeptChain). FitTogether 131072 (on_version newest (row_joined (row_pos key) row) k.chain.versions)) (chain_at m id)
        (λ k e. fit-coded law (on_version newest (row_joined (row_pos key) row) k.chain.versions) (on-coded law (row_pos key) fits row coded newest k.chain.versions (partition-at m id h k e).coded))

    pub join-last : KeepsLast id newest (row_joined (row_pos key) row) m
    join-last = if-some (λ (k : KeptChain). (v : Version) → IsVersionAt k.chain.versions newest v → IsUnderUpdate k.chain newest → (at : Option Pos) → IsLastInner v at → IsLastInner (row_joined (row_pos key) row v) at ⊎ Contains m.recency (member_at id newest at)) (chain_at m id)
        (λ k e v there under at last. absurd (no_both k.chain.updating (partition-at m id h k e).settled under.0))

    -- it is joined as it is said to be
    pub join-said : (old new : Memory) → IsUntouched old m → new.chains ≡ on_chain id (on_shown (on_version_of newest (row_joined (row_pos key) row))) m.chains → IsRowJoined id key row old new
    join-said old new same e =
        let k = some-and (λ (q : KeptChain). IsCodedMemtable q.chain) (chain_at m id) h in
        e ∙ on-alike m.chains id k.0 (on_version_of newest (row_joined (row_pos key) row)) (with_row_joined key row) k.1 (ap (λ n. on_version_of n (row_joined (row_pos key) row) k.0.chain) (is k.0 k.1))
        ∙ ap (λ cs. on_chain id (on_shown (with_row_joined key row)) cs) same.chains

module _ (law : JoinedCoded) (key : List Comp) (fits : KeyFits key) (row : Row) (coded : IsCodedRow row) where
  pub joined-keeps : (j : ℕ) (c : Shown) → IsCodedMemtable c → IsCodedMemtable (on_version_of j (row_joined (row_pos key) row) c)
  joined-keeps j c h = record { kind = h.kind; attached = h.attached; settled = h.settled; coded = on-coded law (row_pos key) fits row coded j c.versions h.coded }

covered : (kind : ChainKind) → kind ≡ Memtable → is_cache kind ≡ false
covered kind e = ap is_cache e

-- a version of its end dummy alone
end-fits : KeyFits []
end-fits = (omega arith, All-from_recursion CompFits [] tt)

new-coded : (flag : Flag) (pt : Option Tomb) (phase : ℕ) → IsCodedVersion (version_of flag pt phase)
new-coded flag pt phase = (refl, ((end-fits, tt), tt))

pub cover-keeps : (phase : ℕ) (c : Shown) → IsCodedMemtable c → IsCodedMemtable (with_version_over phase c)
cover-keeps phase c h = record { kind = h.kind; attached = h.attached; settled = covered c.kind h.kind; coded = all-pushed IsCodedVersion c.versions h.coded (version_of Inherit None phase) (new-coded Inherit None phase) }

-- a new memtable's chain is a partition
pub new-partition : (old new : Memory) (id phase : ℕ) (pt : Option Tomb) (list : List Member) → IsChainMade id Memtable pt phase list old new → IsPartition new id
new-partition old new id phase pt list made =
    and-some (λ (k : KeptChain). IsCodedMemtable k.chain) (chain_at new id) (chain_of_new Memtable pt phase) (ap (λ cs. slice_index_or cs id None) made.chains ∙ put-at old.chains id (Some (chain_of_new Memtable pt phase)))
    (record { kind = refl; attached = refl; settled = refl; coded = (new-coded (flag_of_new Memtable) pt phase, tt) })

-- a partition can be seen by a snapshot
pub partition-attached : (m : Memory) (id : ℕ) → IsPartition m id → IsSomeAnd (chain_at m id) (λ k. k.chain.attached ≡ true)
partition-attached m id h = let k = some-and (λ (k : KeptChain). IsCodedMemtable k.chain) (chain_at m id) h in and-some (λ (k : KeptChain). k.chain.attached ≡ true) (chain_at m id) k.0 k.1 k.2.attached

-- a snapshot that was taken is there
pinned-there : (ps : List (Option ℕ)) (v : ℕ) → IsSome (pin_at (pins_with v ps) (free_number ps))
pinned-there [] v = refl
pinned-there (None ∷ ps) v = refl
pinned-there (Some p ∷ ps) v = pinned-there ps v

pub taken-there : (old new : Memory) (id pin phase : ℕ) → IsPartition old id → IsSnapshotTaken old new id pin phase → HasPin new id pin
taken-there old new id pin phase h taken =
    let there = some-and (λ (k : KeptChain). IsCodedMemtable k.chain) (chain_at old id) h in
    let k = there.0 in
    let number : pin ≡ free_number k.chain.pins = subst (λ (o : Option KeptChain). IfSome o (λ q. pin ≡ free_number q.chain.pins)) there.1 taken.number in
    let at : chain_at new id ≡ Some (with_snapshot (snapshot_number k.chain) k) =
    ap (λ (m : Memory). chain_at m id) taken.now ∙ put-at old.chains id (option_map (λ q. with_snapshot (snapshot_number q.chain) q) (chain_at old id)) ∙ ap (option_map (λ q. with_snapshot (snapshot_number q.chain) q)) there.1 in
    and-some (λ (q : KeptChain). IsSome (pin_at q.chain.pins pin)) (chain_at new id) (with_snapshot (snapshot_number k.chain) k) at (subst (λ n. IsSome (pin_at (pins_with (snapshot_number k.chain) k.chain.pins) n)) (sym number) (pinned-there k.chain.pins (snapshot_number k.chain)))
