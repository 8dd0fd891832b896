-- Of which kind the object is whose row is joined.
use Rattle.std.proofs.Common.{◌≡◌, ℕ, List, Option, Some, None, IsSome, is_some, inl, inr, ◌⊎◌, refl, sym, ap, ◌∙◌, subst}
use Rattle.std.specs.Prelude.{IsSomeAnd}
use Rattle.rc_cell.specs.declared.rows.Row.{Row}
use Rattle.rc_position.specs.Position.{IsBefore}
use Rattle.lsa_kinds.specs.declared.kind.Kind.{Kind}
use Rattle.lsa_kinds.specs.declared.kind.Kind.TheVariants.{Version as VersionKind, RowEntry, Dummy, Static}
use Rattle.lsa_store.specs.declared.place.Ref.{Ref}
use Rattle.lsa_region.specs.Region.{View, body}
use Rattle.lsa_path.specs.laws.Renamed.{some-there}
use Rattle.rc_core.specs.declared.entries.Entry.{Entry}
use Rattle.rc_core.specs.Version.{Version, end_position}
use Rattle.rc_object.specs.Objects.{HoldsEntry, HoldsStatic, SpellsEntry, entry_kind}
use Rattle.rc_version.specs.Versions.{CanJoin, CanJoinLike, CanJoinStatics}

-- what is asked for where it is an entry, and where it is a static row
abbrev pub CanJoinEntry : ℕ → View → ℕ → Ref → Ref → Type 0
CanJoinEntry S v space n e = (y : Entry) × (row : Row) × (refs : List Ref) × (c : Version) × HoldsEntry v e y × (y.row ≡ Some row) × IsBefore y.position end_position × CanJoin S v space n y.position row refs c

abbrev pub CanJoinRow : ℕ → View → ℕ → Ref → Ref → Type 0
CanJoinRow S v space n e = (row : Row) × (refs : List Ref) × (c : Version) × HoldsStatic v e row × CanJoinStatics S v space n row refs c

row_kind : (o : Option (Kind × List ℕ)) (y : Entry) (row : Row) → IsSomeAnd o (λ b. SpellsEntry b y) → y.row ≡ Some row → IsSomeAnd o (λ b. b.0 ≡ RowEntry)
row_kind None y row h is = absurd h
row_kind (Some b) y row h is = h.kind ∙ ap entry_kind is

pub entry-row : (v : View) (e : Ref) (y : Entry) (row : Row) → HoldsEntry v e y → y.row ≡ Some row → IsSomeAnd (body v e) (λ b. b.0 ≡ RowEntry)
entry-row v e y row h is = row_kind (body v e) y row h is

pub static-row : (v : View) (e : Ref) (row : Row) → HoldsStatic v e row → IsSomeAnd (body v e) (λ b. b.0 ≡ Static)
static-row v e row h = subst (λ (o : Option (Kind × List ℕ)). IsSomeAnd o (λ b. b.0 ≡ Static)) (sym h.0) refl

pub one-kind : (o : Option (Kind × List ℕ)) (a b : Kind) → IsSomeAnd o (λ b. b.0 ≡ a) → IsSomeAnd o (λ c. c.0 ≡ b) → a ≡ b
one-kind None a b h k = absurd h
one-kind (Some c) a b h k = sym h ∙ k

module _ (S : ℕ) (v : View) (space : ℕ) (n e : Ref) (can : CanJoinLike S v space n e) where
  pub like-there : IsSome (body v e)
  like-there = elim can [ inl k ↦ some-there _ (body v e) k.4 | inr k ↦ ap is_some k.3.0 ]

  pub like-kind : (kind : Kind) → IsSomeAnd (body v e) (λ b. b.0 ≡ kind) → (kind ≡ RowEntry) ⊎ (kind ≡ Static)
  like-kind kind is = elim can [ inl k ↦ inl (one-kind (body v e) kind RowEntry is (entry-row v e k.0 k.1 k.4 k.5)) | inr k ↦ inr (one-kind (body v e) kind Static is (static-row v e k.0 k.3)) ]

  pub like-entry : IsSomeAnd (body v e) (λ b. b.0 ≡ RowEntry) → CanJoinEntry S v space n e
  like-entry is = elim can [ inl k ↦ k | inr k ↦ absurd (let clash : RowEntry ≡ Static = one-kind (body v e) RowEntry Static is (static-row v e k.0 k.3) in cc) ]

  pub like-static : IsSomeAnd (body v e) (λ b. b.0 ≡ Static) → CanJoinRow S v space n e
  like-static is = elim can [ inl k ↦ absurd (let clash : Static ≡ RowEntry = one-kind (body v e) Static RowEntry is (entry-row v e k.0 k.1 k.4 k.5) in cc) | inr k ↦ k ]

  pub like-no_version : IsSomeAnd (body v e) (λ b. b.0 ≡ VersionKind) → ⊥
  like-no_version is = elim (like-kind VersionKind is) [ inl k ↦ (let clash : VersionKind ≡ RowEntry = k in cc) | inr k ↦ (let clash : VersionKind ≡ Static = k in cc) ]

  pub like-no_dummy : IsSomeAnd (body v e) (λ b. b.0 ≡ Dummy) → ⊥
  like-no_dummy is = elim (like-kind Dummy is) [ inl k ↦ (let clash : Dummy ≡ RowEntry = k in cc) | inr k ↦ (let clash : Dummy ≡ Static = k in cc) ]

pub not-both : (v : View) (e : Ref) (y : Entry) (row : Row) → HoldsEntry v e y → y.row ≡ Some row → IsSomeAnd (body v e) (λ b. b.0 ≡ Static) → ⊥
not-both v e y row h is k = let clash : RowEntry ≡ Static = one-kind (body v e) RowEntry Static (entry-row v e y row h is) k in cc

pub no-static : (v : View) (e : Ref) (row : Row) → HoldsStatic v e row → IsSomeAnd (body v e) (λ b. b.0 ≡ RowEntry) → ⊥
no-static v e row h k = let clash : Static ≡ RowEntry = one-kind (body v e) Static RowEntry (static-row v e row h) k in cc
