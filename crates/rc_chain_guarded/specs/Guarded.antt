-- What is known of a shard's chains from one guarded call to the next.
use Rattle.std.specs.Prelude.{◌≡◌, ◌≢◌, ℕ, List, Some, IfSome, IsSomeAnd, Contains}
use Rattle.rc_position.specs.declared.positions.Pos.{Pos}
use Rattle.rc_rowcode.specs.Spelling.{KeyFits, RowFits}
use Rattle.rc_core.specs.declared.entries.Entry.{Entry}
use Rattle.rc_core.specs.AtPlace.{HasEntryAt}
use Rattle.rc_core.specs.Version.{Version, end_position}
use Rattle.rc_memory.specs.Memory.{KeptChain, Member, Memory, HasPin, IsVersionAt, chain_at}
use Rattle.rc_memory.specs.Changes.{member_at}
use Rattle.rc_memory.specs.Recency.{IsUnderUpdate}
use Rattle.rc_chain.specs.Lives.{IsEndAlone}
use Rattle.rc_chain_guarded.specs.declared.known.Held.{Held}
use Rattle.rc_chain_guarded.specs.declared.known.Known.{Known}

-- positions and rows of a version are within the limits of their codes
pub record HasCodedParts (v : Version) : Type 0 where
  pub positions : (e : Entry) → Contains v.entries e → KeyFits e.position.prefix
  pub rows : (e : Entry) → Contains v.entries e → IfSome e.row RowFits
  pub statics : IfSome v.statics RowFits

-- so is each version of a chain
abbrev pub HaveCodedParts : KeptChain → Type 0
HaveCodedParts k = (v : Version) → Contains k.chain.versions v → HasCodedParts v

-- each entry of the version of a chain that is under update is in a list, but the end dummy
abbrev pub IsListedWhole : ℕ → List Member → KeptChain → Type 0
IsListedWhole id list k = (j : ℕ) (v : Version) (x : Pos) → IsUnderUpdate k.chain j → IsVersionAt k.chain.versions j v → HasEntryAt x v.entries → x ≢ end_position → Contains list (member_at id j (Some x))

-- of a version of a chain its end dummy alone is left
abbrev pub HasBare : ℕ → KeptChain → Type 0
HasBare j k = (v : Version) × IsVersionAt k.chain.versions j v × IsEndAlone v

-- what holds of the chains from one call to the next
pub record IsTracked (m : Memory) (known : Known) : Type 0 where
  pub limits : (id : ℕ) → IfSome (chain_at m id) HaveCodedParts
  pub held : (h : Held) → Contains known.held.items h → HasPin m h.chain h.pin
  pub full : IfSome known.full (λ id. IfSome (chain_at m id) (IsListedWhole id m.recency))
  pub bare : IfSome known.bare (λ b. IsSomeAnd (chain_at m b.chain) (HasBare b.version))
