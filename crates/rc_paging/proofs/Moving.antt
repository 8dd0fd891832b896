-- Calls that leave home and store as they are leave what stands over them.
use Rattle.std.proofs.Common.{◌≡◌, ℕ, zero, suc, inl, inr, sym, subst, ◌∙◌}
use Rattle.rc_stream.specs.Moving.{Either, Keeps, KeepsSeen, Moved, Moves, Once}
use Rattle.rc_stream.specs.Stream.{Stream}

-- calls leave home and store as they are
abbrev pub Stay : {H W : Type 0} → (H → W → H → W → Type 0) → Type 0
Stay {H} {W} moves = (h : H) (w : W) (g : H) (v : W) → moves h w g v → (g ≡ h) × (v ≡ w)

pub keeps : {H W X : Type 0} (moves : H → W → H → W → Type 0) (stands : X → H → W → Type 0) → Stay moves → Keeps moves stands
keeps moves stands stay t h w g v d s = (let e = stay h w g v d in subst (λ k. stands t k v) (sym e.0) (subst (stands t h) (sym e.1) s))

pub keeps_seen : {H W X : Type 0} (moves : H → W → H → W → Type 0) (seen : X → H → W → Stream → Type 0) → Stay moves → KeepsSeen moves seen
keeps_seen moves seen stay t s h w g v d z = (let e = stay h w g v d in subst (λ k. seen t k v s) (sym e.0) (subst (λ u. seen t h u s) (sym e.1) z))

pub once : {H W : Type 0} (P : H → W → H → W → Type 0) → Stay P → Stay (Once P)
once P stay h w g v (inl same) = (sym same.0, sym same.1)
once P stay h w g v (inr d) = stay h w g v d

many : {H W : Type 0} (P : H → W → H → W → Type 0) → Stay P → (n : ℕ) (h : H) (w : W) (g : H) (v : W) → Moves P n h w g v → (g ≡ h) × (v ≡ w)
many P stay zero h w g v d = (sym d.0, sym d.1)
many P stay (suc n) h w g v d = (let e = stay h w d.0 d.1 d.2 in let f = many P stay n d.0 d.1 g v d.3 in (f.0 ∙ e.0, f.1 ∙ e.1))

either : {H W : Type 0} (P Q : H → W → H → W → Type 0) → Stay P → Stay Q → Stay (Either P Q)
either P Q p q h w g v (inl d) = p h w g v d
either P Q p q h w g v (inr d) = q h w g v d

pub moved : {H W : Type 0} (P Q : H → W → H → W → Type 0) → Stay P → Stay Q → Stay (Moved P Q)
moved P Q p q h w g v d = many (Either P Q) (either P Q p q) d.0 h w g v d.1
