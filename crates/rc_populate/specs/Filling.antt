-- What is filled into a cache chain from below, and what that makes of all chains.
--     MayFill          a snapshot populates the cache
--     OfPinned         what holds of the chain of a snapshot, and of the version that it pins
--     filled_statics   a static row as it is filled: none where nothing is written in it
--     gap_need         how many bytes a filled gap takes at most
--     on_newest_of     something done to the newest version of a chain
--     IsFilled         something was filled into the newest version of a chain
--     IsEntryOpened    a chain came to be whose head is known
use Rattle.std.specs.Prelude.{◌≡◌, ◌+◌, ◌-◌, ℕ, true, false, List, [], ◌∷◌, ◌++◌, Option, Some, None, IsSomeAnd, cond}
use Rattle.rc_cell.specs.declared.rows.Row.{Row}
use Rattle.rc_cell.specs.declared.writes.Tomb.{Tomb}
use Rattle.rc_position.specs.declared.positions.Pos.{Pos}
use Rattle.rc_position.specs.Position.{Head}
use Rattle.rc_rowcode.specs.Objects.{dummy_size}
use Rattle.lsa_region.specs.Region.{live_bytes}
use Rattle.rc_mutation.specs.Fragments.{is_written}
use Rattle.rc_core.specs.declared.entries.ChainKind.{ChainKind}
use Rattle.rc_core.specs.declared.entries.ChainKind.TheVariants.{Cache}
use Rattle.rc_core.specs.Chains.{Shown, at_place}
use Rattle.rc_core.specs.Steps.{MayPopulate, on_newest, opened_version, pin_at}
use Rattle.rc_core.specs.Version.{Version, end_position}
use Rattle.rc_registry.specs.Registry.{IsNumberIn, put_at_number}
use Rattle.rc_memory.specs.Memory.{KeptChain, Member, Memory, IsVersionAt, chain_at, counts_raised, on_chain, on_shown, shown_with}
use Rattle.rc_memory.specs.Changes.{IsRenewed, IsRenewedWhereNone, IsUnmoved, StandStill, member_at}

-- the snapshot of a number pins the newest version of a chain that is found by its key and is not under update
abbrev pub MayFill : Memory → ℕ → ℕ → Type 0
MayFill m id pin = IsSomeAnd (chain_at m id) (λ k. IsSomeAnd (pin_at k.chain.pins pin) (MayPopulate (at_place Head k.chain)))

-- what holds of the chain of a snapshot, of the number of the version that it pins, and of that version
abbrev pub OfPinned : Memory → ℕ → ℕ → (KeptChain → ℕ → Version → Type 0) → Type 0
OfPinned m id pin P = (k : KeptChain) (j : ℕ) (v : Version) → chain_at m id ≡ Some k → pin_at k.chain.pins pin ≡ Some j → IsVersionAt k.chain.versions j v → P k j v

-- a static row as it is filled: none where nothing is written in it
abbrev pub filled_statics : Row → Option Row
filled_statics row = cond (is_written row) (Some row) None

-- how many bytes a filled gap takes at most: a dummy at both ends
abbrev pub gap_need : Pos → Pos → ℕ
gap_need from to = dummy_size from + dummy_size to

-- the chain with something done to its newest version
abbrev pub on_newest_of : (Version → Version) → Shown → Shown
on_newest_of f c = shown_with (on_newest f c.versions) c

-- something was done to the newest version of a chain: all else is as it was, objects stand where they stood but at these places, and the bytes by which less is live then are counted as those by which chains became smaller
pub record IsFilled (id : ℕ) (f : Version → Version) (these : Member → Type 0) (old new : Memory) : Type 0 where
  pub chains : new.chains ≡ on_chain id (on_shown (on_newest_of f)) old.chains
  pub dropped : new.dropped ≡ old.dropped
  pub counts : new.counts ≡ (counts_raised 0 0 (live_bytes old.region - live_bytes new.region) old).counts
  pub still : StandStill these old new
  pub region : IsUnmoved old.region new.region

-- what becomes of the recency list where a static row is filled: its object was made anew; where none was given the list is as it was
abbrev pub IsGivenListed : ChainKind → Option Row → Member → List Member → List Member → Type 0
IsGivenListed kind None w old new = new ≡ old
IsGivenListed kind (Some row) w old new = IsRenewed kind w old new

-- what becomes of the recency list where a gap is filled: at each of its ends, first at the lower one, a dummy was made where the version has no entry there
abbrev pub AreBoundsListed : ChainKind → Version → Member → Member → List Member → List Member → Type 0
AreBoundsListed kind v from to old new = (mid : List Member) × IsRenewedWhereNone kind v from old mid × IsRenewedWhereNone kind v to mid new

-- a cache chain of one version, whose head is given, and of which all else is Unknown; found by its key, not under update, pinned by nobody
abbrev pub chain_opened : Option Tomb → Option Row → ℕ → KeptChain
chain_opened pt statics phase = record { chain = record { kind = Cache; versions = opened_version pt statics phase ∷ []; attached = true; updating = false; pins = [] }; passed = false }

-- the objects of such a chain that are in the recency list: its end dummy, and then its static row, where there is one
abbrev pub opened_places : ℕ → Option Row → List Member
opened_places id None = member_at id 0 (Some end_position) ∷ []
opened_places id (Some row) = member_at id 0 (Some end_position) ∷ member_at id 0 None ∷ []

-- such a chain came to be, whose number no other chain has, nor one that is to be told; its objects are the most recent ones
pub record IsEntryOpened (id : ℕ) (pt : Option Tomb) (statics : Option Row) (phase : ℕ) (old new : Memory) : Type 0 where
  pub vacant : chain_at old id ≡ None
  pub told : IsNumberIn old.dropped id → ⊥
  pub chains : new.chains ≡ put_at_number id (Some (chain_opened pt statics phase)) old.chains
  pub recency : new.recency ≡ old.recency ++ opened_places id statics
  pub dropped : new.dropped ≡ old.dropped
  pub counts : new.counts ≡ old.counts
  pub still : StandStill (λ w. w.chain ≡ id) old new
  pub region : IsUnmoved old.region new.region
