-- What is sealed of a partition and what is written since, as one.
use Rattle.std.proofs.Common.{◌≡◌, ℕ, true, false, cond, List, [], ◌∷◌, ◌++◌, Option, Some, None, map, filter, refl, ap}
use Rattle.std.specs.Prelude.{◌||◌}
use Rattle.std.specs.Ordering.{eq_by_cmp}
use Rattle.rc_position.specs.Position.{bytes_cmp}
use Rattle.rc_mutation.specs.declared.mutations.Write.{Write}
use Rattle.rc_mutation.specs.Source.{changes_to}
use Rattle.rc_memory.specs.Memory.{Memory}
use Rattle.rc_evict.specs.Snap.{Snap}
use Rattle.rc_memtable.specs.Writes.{names}
use Rattle.rc_snapshots.specs.Seeing.{SeesAllOf}
use Rattle.rc_unstored.specs.Readers.{IsSnapshotOfKey}

-- the writes to a key
abbrev of_key : List ℕ → List Write → List Write
of_key key writes = filter (λ (u : Write). eq_by_cmp bytes_cmp u.key key) writes

pub changes-both : (key : List ℕ) (writes later : List Write) → changes_to key (writes ++ later) ≡ changes_to key writes ++ changes_to key later
changes-both key [] later = refl
changes-both key (v ∷ vs) later = elim (eq_by_cmp bytes_cmp v.key key) as
    (λ b. map (λ (u : Write). u.change) (cond b (v ∷ of_key key (vs ++ later)) (of_key key (vs ++ later))) ≡ map (λ (u : Write). u.change) (cond b (v ∷ of_key key vs) (of_key key vs)) ++ changes_to key later) [
      | true ↦ ap (λ cs. v.change ∷ cs) (changes-both key vs later)
      | false ↦ changes-both key vs later
    ]

pub names-both : (key : List ℕ) (writes later : List Write) → names key (writes ++ later) ≡ names key writes || names key later
names-both key [] later = refl
names-both key (v ∷ vs) later = elim (eq_by_cmp bytes_cmp v.key key) as (λ b. (b || names key (vs ++ later)) ≡ ((b || names key vs) || names key later)) [
  | true ↦ refl
  | false ↦ names-both key vs later
]

-- nothing is written of a key that no write names
unnamed : (key : List ℕ) (writes : List Write) → names key writes ≡ false → changes_to key writes ≡ []
unnamed key [] h = refl
unnamed key (v ∷ vs) h = elim (eq_by_cmp bytes_cmp v.key key) as (λ b. (b || names key vs) ≡ false → map (λ (u : Write). u.change) (cond b (v ∷ of_key key vs) (of_key key vs)) ≡ []) [
  | true ↦ λ e. absurd (cc)
  | false ↦ λ e. unnamed key vs e
] h

pub key-sees : (key : List ℕ) (writes : List Write) (m n : Memory) (found : Option Snap) → IsSnapshotOfKey key writes m n found → SeesAllOf (changes_to key writes) n found
key-sees key writes m n None h = unnamed key writes h
key-sees key writes m n (Some s) h = h.1
