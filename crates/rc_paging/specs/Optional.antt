-- A stream, where there is one.
--     WithBoth      both are there and this holds of them; or neither is, and that holds
--     DidIfAny      what a call did, if there is a stream
use Rattle.std.specs.Prelude.{◌≡◌, Option, Some, None}
use Rattle.rc_stream.specs.Did.{Deed}
use Rattle.rc_paging.specs.declared.optional.Optional.{Optional}

-- both are there, and this holds of them; or neither is, and that holds
abbrev pub WithBoth : {X Y : Type 0} → (X → Y → Type 0) → Type 0 → Option X → Option Y → Type 0
WithBoth P neither None None = neither
WithBoth P neither None (Some y) = ⊥
WithBoth P neither (Some x) None = ⊥
WithBoth P neither (Some x) (Some y) = P x y

-- what a call did: what one of the stream does, where there is one; else home and store are as they were
abbrev pub DidIfAny : {A H W : Type 0} → Deed A H W → Deed (Optional A) H W
DidIfAny did r h w c ok t g v = WithBoth (λ a b. did a h w c ok b g v) ((g ≡ h) × (v ≡ w)) r.stream t.stream
