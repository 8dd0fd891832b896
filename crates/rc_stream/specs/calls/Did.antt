-- One call of a stream, as a chain of calls.
use Rattle.std.specs.Prelude.{◌≡◌, ◌⊎◌, Bool}
use Rattle.rc_stream.specs.Did.{Call, Deed}

-- a call that was made, or was not needed
abbrev pub OnceDid : {S H W : Type 0} → Deed S H W → S → H → W → Call → Bool → S → H → W → Type 0
OnceDid did s h w c ok t g v = ((s ≡ t) × (h ≡ g) × (w ≡ v)) ⊎ did s h w c ok t g v
