-- A value that is read where its code stands.
use Rattle.std.proofs.Common.{◌≡◌, ℕ, List, [], ◌++◌, length, take, drop, Some, None, refl, sym, ap, ◌∙◌, append-nil}
use Rattle.std.proofs.lemmas.List.{take_at, take-append-drop}
use Rattle.rc_rowcode.specs.calls.Reading.{Parser}
use Rattle.rc_rowcode.specs.laws.Fields.{Codec}
use Rattle.rc_rowcode.specs.laws.Read.{one_spelling}
use Rattle.rc_rowcode.specs.Spelling.{ReadsPrefix}

module _ {X : Type 0} (code : X → List ℕ) (is : X → Type 0) (x : X) (bytes : List ℕ) (fits : is x) (coded : bytes ≡ code x) where
  -- the whole of the code is read
  pub always-read : ReadsPrefix code is bytes None → ⊥
  always-read none = none x (length (code x)) fits (ap (take (length (code x))) (coded ∙ sym (append-nil (code x))) ∙ take_at (code x) [] (length (code x)) refl)

  -- and as no other value
  pub same-read : (read : Parser X) → Codec code is read → (found : X × ℕ) → ReadsPrefix code is bytes (Some found) → found.0 ≡ x
  same-read read codec found reads =
      (one_spelling codec found.0 x (drop found.1 bytes) [] reads.0 fits (ap (λ t. t ++ drop found.1 bytes) (sym reads.1) ∙ take-append-drop found.1 bytes ∙ coded ∙ sym (append-nil (code x)))).0
