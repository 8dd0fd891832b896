-- What is known inside of a call: of a version that was just put over the others, of snapshots, and of the version under update.
use Rattle.std.specs.Prelude.{◌≡◌, ℕ, List, [], ◌∷◌, Option, Some, None, IfSome, IsSomeAnd, Contains}
use Rattle.rc_cell.specs.declared.rows.Row.{Row}
use Rattle.rc_position.specs.declared.positions.Pos.{Pos}
use Rattle.rc_core.specs.declared.entries.ChainKind.TheVariants.{Cache}
use Rattle.rc_core.specs.declared.entries.Entry.{Entry}
use Rattle.rc_core.specs.declared.entries.Flag.TheVariants.{Inherit}
use Rattle.rc_core.specs.Steps.{version_of}
use Rattle.rc_core.specs.Version.{Version}
use Rattle.rc_memory.specs.Memory.{KeptChain, Memory, IsVersionAt, chain_at}
use Rattle.rc_memory.specs.Changes.{member_at}
use Rattle.rc_memory.specs.Recency.{IsLastInner, IsUnderUpdate}
use Rattle.rc_chain_guarded.specs.declared.known.Held.{Held}
use Rattle.rc_chain_guarded.specs.declared.known.Known.{Known}
use Rattle.rc_chain_guarded.specs.declared.known.Numbered.{Numbered}

-- the newest version of a cache chain, which is under update, and of which the end dummy alone is there
abbrev pub IsBegun : ℕ → ℕ → ℕ → Memory → Type 0
IsBegun id j phase m = IsSomeAnd (chain_at m id) (λ k. (k.chain.kind ≡ Cache) × IsUnderUpdate k.chain j × IsVersionAt k.chain.versions j (version_of Inherit None phase))

-- a version that is under update, of which the end dummy and a static row alone are there
abbrev pub HasLone : ℕ → Row → KeptChain → Type 0
HasLone j row k = IsUnderUpdate k.chain j × ((v : Version) × IsVersionAt k.chain.versions j v × (v.statics ≡ Some row) × ((e : Entry) × (v.entries ≡ e ∷ [])))

-- so of a chain
abbrev pub IsLone : ℕ → ℕ → Row → Memory → Type 0
IsLone id j row m = IsSomeAnd (chain_at m id) (HasLone j row)

-- a snapshot is another one
abbrev pub IsOther : Held → Held → Type 0
IsOther one other = other.chain ≡ one.chain → other.pin ≡ one.pin → ⊥

-- where a version is under update, its last entry before the end is in the recency list
abbrev pub IsLastListed : ℕ → ℕ → Memory → Type 0
IsLastListed id j m = (k : KeptChain) (v : Version) (at : Option Pos) → chain_at m id ≡ Some k → IsUnderUpdate k.chain j → IsVersionAt k.chain.versions j v → IsLastInner v at → Contains m.recency (member_at id j at)

-- what is known no longer of a version that was bare: which version is bare is as it was, or unknown where it is this one
abbrev pub IsKnownBeside : ℕ → ℕ → Known → Known → Type 0
IsKnownBeside id j old new = IfSome new.bare (λ (b : Numbered). (old.bare ≡ Some b) × (b.chain ≡ id → b.version ≡ j → ⊥))
