-- What objects of a version hold: of which kind they are, and where entries stand.
use Rattle.std.proofs.Common.{◌≡◌, ℕ, ◌+◌, List, length, Option, Some, None, inl, inr, refl, sym, ap, ◌∙◌, subst, arith}
use Rattle.std.specs.Prelude.{IsSomeAnd}
use Rattle.rc_cell.specs.declared.rows.Row.{Row}
use Rattle.lsa_kinds.specs.declared.kind.Kind.{Kind}
use Rattle.lsa_kinds.specs.declared.kind.Kind.TheVariants.{Version, RowEntry, Dummy, Static}
use Rattle.lsa_kinds.specs.Kinds.{up8}
use Rattle.rc_position.specs.declared.positions.Pos.{Pos}
use Rattle.rc_rowcode.specs.Spelling.{pos_code, row_code}
use Rattle.lsa_store.specs.declared.place.Ref.{Ref}
use Rattle.lsa_store.specs.Objects.{rounded_size}
use Rattle.lsa_region.specs.Region.{View, body}
use Rattle.lsa_region.specs.Layout.{object_extent}
use Rattle.lsa_tree.specs.Entries.{IsEntryKind, IsEntryAtPosition, IsAlike, SpellsEntryAt}
use Rattle.rc_core.specs.declared.entries.Entry.{Entry}
use Rattle.rc_object.specs.declared.heads.Head.{Head}
use Rattle.rc_object.specs.Objects.{SpellsHead, SpellsEntry, HoldsHead, HoldsEntry, HoldsStatic, entry_kind, row_part}
use Rattle.rc_object.specs.laws.OneValue.{entries_same, heads_same, level_kept, statics_same}
use Rattle.rc_object.specs.laws.Spelled.{entry_long, position_there}
use Rattle.rc_version.specs.Versions.{bytes_at, entry_bytes}

-- ---- kinds

entry_row : (row : Option Row) → IsEntryKind (entry_kind row)
entry_row None = inr refl
entry_row (Some row) = inl refl

head_in : (o : Option (Kind × List ℕ)) (h : Head) → IsSomeAnd o (λ b. SpellsHead b h) → IsSomeAnd o (λ b. b.0 ≡ Version)
head_in None h k = absurd k
head_in (Some b) h k = k.kind

pub head-kind : (v : View) (r : Ref) (h : Head) → HoldsHead v r h → IsSomeAnd (body v r) (λ b. b.0 ≡ Version)
head-kind v r h k = head_in (body v r) h k

entry_in : (o : Option (Kind × List ℕ)) (e : Entry) → IsSomeAnd o (λ b. SpellsEntry b e) → IsSomeAnd o (λ b. IsEntryKind b.0)
entry_in None e k = absurd k
entry_in (Some b) e k = subst IsEntryKind (sym k.kind) (entry_row e.row)

pub holds-kind : (v : View) (r : Ref) (e : Entry) → HoldsEntry v r e → IsSomeAnd (body v r) (λ b. IsEntryKind b.0)
holds-kind v r e k = entry_in (body v r) e k

pub made-kind : (v : View) (r : Ref) (e : Entry) (kind : Kind) (bytes : List ℕ) → HoldsEntry v r e → body v r ≡ Some (kind, bytes) → IsEntryKind kind
made-kind v r e kind bytes k is = subst (λ (o : Option (Kind × List ℕ)). IsSomeAnd o (λ b. IsEntryKind b.0)) is (holds-kind v r e k)

pub not_static : (kind : Kind) → IsEntryKind kind → kind ≡ Static → ⊥
not_static kind (inl d) e = let clash : RowEntry ≡ Static = sym d ∙ e in cc
not_static kind (inr d) e = let clash : Dummy ≡ Static = sym d ∙ e in cc

-- a static row is no version, and no entry
pub static-no_version : (v : View) (s : Ref) (row : Row) → HoldsStatic v s row → IsSomeAnd (body v s) (λ b. b.0 ≡ Version) → ⊥
static-no_version v s row h k = let clash : Static ≡ Version = subst (λ (o : Option (Kind × List ℕ)). IsSomeAnd o (λ b. b.0 ≡ Version)) h.0 k in cc

pub static-no_entry : (v : View) (s : Ref) (row : Row) → HoldsStatic v s row → IsSomeAnd (body v s) (λ b. IsEntryKind b.0) → ⊥
static-no_entry v s row h k = not_static Static (subst (λ (o : Option (Kind × List ℕ)). IsSomeAnd o (λ b. IsEntryKind b.0)) h.0 k) refl

-- ---- what the crate below says

stands_in : (o : Option (Kind × List ℕ)) (e : Entry) → IsSomeAnd o (λ b. SpellsEntry b e) → IsSomeAnd o (λ b. SpellsEntryAt b e.position)
stands_in None e k = absurd k
stands_in (Some b) e k = record { kind = subst IsEntryKind (sym k.kind) (entry_row e.row); inside = omega (arith, entry_long b e k, k.size); place = k.position; code = position_there b e k }

pub holds-stands : (v : View) (r : Ref) (e : Entry) → HoldsEntry v r e → IsEntryAtPosition v r e.position
holds-stands v r e h = stands_in (body v r) e h

pub holds-alike : (v w : View) (r : Ref) (e : Entry) → HoldsEntry v r e → IsAlike (body v r) (body w r) → HoldsEntry w r e
holds-alike v w r e h same = level_kept (body v r) (body w r) e h same

row_extent : (row : Option Row) (x : Pos) (n : ℕ) → n ≡ 32 + (length (pos_code x) + length (row_part row)) → rounded_size (entry_kind row) n ≡ bytes_at x row
row_extent None x n is = let long : 48 + n ≡ 80 + length (pos_code x) = omega (arith, is) in ap up8 long
row_extent (Some row) x n is = let long : 48 + n ≡ 80 + (length (pos_code x) + length (row_code row)) = omega (arith, is) in ap up8 long

extent_in : (o : Option (Kind × List ℕ)) (e : Entry) → IsSomeAnd o (λ b. SpellsEntry b e) → object_extent o ≡ entry_bytes e
extent_in None e k = absurd k
extent_in (Some b) e k = ap (λ kind. rounded_size kind (length b.1)) k.kind ∙ row_extent e.row e.position (length b.1) (entry_long b e k)

pub holds-extent : (v : View) (r : Ref) (e : Entry) → HoldsEntry v r e → object_extent (body v r) ≡ entry_bytes e
holds-extent v r e h = extent_in (body v r) e h

head_extent : (o : Option (Kind × List ℕ)) (h : Head) → IsSomeAnd o (λ b. SpellsHead b h) → object_extent o ≡ 64
head_extent None h k = absurd k
head_extent (Some b) h k = ap (λ kind. rounded_size kind (length b.1)) k.kind ∙ ap (λ n. rounded_size Version n) k.long

pub head-extent : (v : View) (r : Ref) (h : Head) → HoldsHead v r h → object_extent (body v r) ≡ 64
head-extent v r h k = head_extent (body v r) h k

pub holds-same : (v w : View) (r : Ref) (e : Entry) → body w r ≡ body v r → HoldsEntry v r e → HoldsEntry w r e
holds-same v w r e same h = subst (λ (o : Option (Kind × List ℕ)). IsSomeAnd o (λ b. SpellsEntry b e)) (sym same) h

pub head-same : (v w : View) (r : Ref) (h : Head) → body w r ≡ body v r → HoldsHead v r h → HoldsHead w r h
head-same v w r h same k = subst (λ (o : Option (Kind × List ℕ)). IsSomeAnd o (λ b. SpellsHead b h)) (sym same) k

pub static-same : (v w : View) (s : Ref) (row : Row) → body w s ≡ body v s → HoldsStatic v s row → HoldsStatic w s row
static-same v w s row same h = (same ∙ h.0, h.1)

pub entry-once : (v : View) (r : Ref) (x y : Entry) → HoldsEntry v r x → HoldsEntry v r y → x ≡ y
entry-once v r x y h k = entries_same (body v r) x y h k

pub head-once : (v : View) (r : Ref) (x y : Head) → HoldsHead v r x → HoldsHead v r y → x ≡ y
head-once v r x y h k = heads_same (body v r) x y h k

pub static-once : (v : View) (s : Ref) (x y : Row) → HoldsStatic v s x → HoldsStatic v s y → x ≡ y
static-once v s x y h k = statics_same (body v s) x y h.0 k.0 h.1 k.1
