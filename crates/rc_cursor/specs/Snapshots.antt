-- What a snapshot sees of its chain.
--     versions_seen, kind_seen    the versions up to the one that it pins, and what stands below them
--     Knows, IsHeadSeen           what it knows at a position, and what it sees at the head
--     IsReadable                  what it knows at a position it knows over the gap that is read from there on
use Rattle.std.specs.Prelude.{◌≡◌, ◌≢◌, ℕ, List, [], Option, Some, None}
use Rattle.rc_cell.specs.Orders.{tomb_cmp}
use Rattle.rc_cell.specs.Winner.{empty_row, greatest}
use Rattle.rc_position.specs.declared.positions.Pos.{Pos}
use Rattle.rc_position.specs.Position.{row_pos}
use Rattle.rc_mutation.specs.declared.fragments.HeadAt.{HeadAt}
use Rattle.rc_core.specs.Chain.{IsEvenAt, IsKnown, content, has_flag, states_at}
use Rattle.rc_core.specs.Chains.{upto}
use Rattle.rc_core.specs.Continuity.{static_states, version_tombs}
use Rattle.rc_core.specs.declared.entries.ChainKind.{ChainKind}
use Rattle.rc_core.specs.declared.entries.ChainKind.TheVariants.{Cache}
use Rattle.rc_core.specs.Steps.{pin_at}
use Rattle.rc_core.specs.Version.{On, Version}
use Rattle.rc_chain.specs.Memory.{KeptChain, Memory, chain_at}
use Rattle.rc_chain.specs.declared.chains.Snap.{Snap}
use Rattle.rc_stream.specs.Snapshot.{There}

-- the versions up to the one of a number; none, where there is no number
abbrev pub versions_upto : List Version → Option ℕ → List Version
versions_upto versions None = []
versions_upto versions (Some j) = upto versions j

-- the versions of a chain up to the one that the snapshot of a number pins
abbrev pub versions_in : Option KeptChain → ℕ → List Version
versions_in None pin = []
versions_in (Some k) pin = versions_upto k.chain.versions (pin_at k.chain.pins pin)

-- the versions that a snapshot sees, the oldest first
abbrev pub versions_seen : Memory → Snap → List Version
versions_seen m s = versions_in (chain_at m s.chain) s.pin

-- the kind of a chain
abbrev pub kind_in : Option KeptChain → ChainKind
kind_in None = Cache
kind_in (Some k) = k.chain.kind

-- what stands below the versions that a snapshot sees
abbrev pub kind_seen : Memory → Snap → ChainKind
kind_seen m s = kind_in (chain_at m s.chain)

-- a position is known in versions, and this is there: the row, empty where there is none, and the range tombstone in force
pub record IsKnownAs (kind : ChainKind) (versions : List Version) (x : Pos) (v : There) : Type 0 where
  pub known : IsKnown kind versions x
  pub there : content (states_at (On x) versions) ≡ v

-- the snapshot knows a position, and this is there
abbrev pub Knows : Memory → Snap → Pos → There → Type 0
Knows m s = IsKnownAs (kind_seen m s) (versions_seen m s)

-- this is at the head of versions: the greatest partition tombstone, the static row, empty where there is none, and whether that is known
pub record IsHeadOf (kind : ChainKind) (versions : List Version) (h : HeadAt) : Type 0 where
  pub pt : h.head.pt ≡ greatest tomb_cmp (version_tombs versions)
  pub statics : h.head.statics ≡ (content (static_states versions)).0
  pub known : h.known ≡ has_flag kind (static_states versions)

-- the snapshot sees this at the head
abbrev pub IsHeadSeen : Memory → Snap → HeadAt → Type 0
IsHeadSeen m s = IsHeadOf (kind_seen m s) (versions_seen m s)

-- versions can be read by their parts: where a position is known its tombstone is that of the gap behind it if no row is there, and a row is at its key's position
pub record AreReadable (kind : ChainKind) (versions : List Version) : Type 0 where
  pub even : (x : Pos) → IsEvenAt kind versions x
  pub keys : (x : Pos) → IsKnown kind versions x → (content (states_at (On x) versions)).0 ≢ empty_row → x ≡ row_pos x.prefix

-- what a snapshot sees can be read by its parts
abbrev pub IsReadable : Memory → Snap → Type 0
IsReadable m s = AreReadable (kind_seen m s) (versions_seen m s)
