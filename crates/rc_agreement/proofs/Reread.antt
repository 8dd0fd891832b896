-- A value that is read where its code stands.
use Rattle.std.proofs.Common.{◌≡◌, ℕ, List, [], ◌++◌, length, take, drop, Some, None, refl, sym, ap, ◌∙◌, append-nil}
use Rattle.std.proofs.lemmas.List.{take_at, take-append-drop}
use Rattle.std.specs.Prelude.{IsSomeAnd}
use Rattle.std.proofs.Common.{Option}
use Rattle.lsa_kinds.specs.declared.kind.Kind.{Kind}
use Rattle.lsa_store.specs.declared.place.Ref.{Ref}
use Rattle.lsa_region.specs.Region.{View, body}
use Rattle.rc_position.specs.declared.positions.Pos.{Pos}
use Rattle.rc_rowcode.specs.laws.Codecs.{pos_codec}
use Rattle.rc_rowcode.specs.laws.Read.{one_spelling}
use Rattle.rc_rowcode.specs.Spelling.{IsPos, ReadsPrefix, pos_code}
use Rattle.rc_core.specs.declared.entries.Entry.{Entry}
use Rattle.rc_object.specs.Objects.{HoldsEntry, SpellsEntry}

place_in : (o : Option (Kind × List ℕ)) (e : Entry) → IsSomeAnd o (λ b. SpellsEntry b e) → IsPos e.position
place_in None e h = absurd h
place_in (Some b) e h = h.position

-- the position of an entry that an object holds has a code
pub place-coded : (v : View) (r : Ref) (e : Entry) → HoldsEntry v r e → IsPos e.position
place-coded v r e h = place_in (body v r) e h

module _ (x : Pos) (bytes : List ℕ) (fits : IsPos x) (coded : bytes ≡ pos_code x) where
  -- the whole of the code is read
  pub always-read : ReadsPrefix pos_code IsPos bytes None → ⊥
  always-read none = none x (length (pos_code x)) fits (ap (take (length (pos_code x))) (coded ∙ sym (append-nil (pos_code x))) ∙ take_at (pos_code x) [] (length (pos_code x)) refl)

  -- and as no other position
  pub same-read : (found : Pos × ℕ) → ReadsPrefix pos_code IsPos bytes (Some found) → found.0 ≡ x
  same-read found reads = (one_spelling pos_codec found.0 x (drop found.1 bytes) [] reads.0 fits (ap (λ t. t ++ drop found.1 bytes) (sym reads.1) ∙ take-append-drop found.1 bytes ∙ coded ∙ sym (append-nil (pos_code x)))).0
