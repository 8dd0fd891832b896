-- What an object holds stays where another one is made.
use Rattle.std.proofs.Common.{◌≡◌, ℕ, List, Option, Some, None, refl, sym, ap, ◌∙◌, subst}
use Rattle.std.specs.Prelude.{IsSomeAnd}
use Rattle.rc_cell.specs.declared.rows.Row.{Row}
use Rattle.rc_rowcode.specs.Spelling.{row_code}
use Rattle.lsa_kinds.specs.declared.kind.Kind.{Kind}
use Rattle.lsa_kinds.specs.declared.kind.Kind.TheVariants.{Static}
use Rattle.lsa_region.specs.Ref.{Ref}
use Rattle.lsa_region.specs.Region.{View, body}
use Rattle.rc_object.specs.Objects.{HoldsStatic, IsMade}

none_and : {X : Type 0} (o : Option X) (P : X → Type 0) → o ≡ None → IsSomeAnd o P → ⊥
none_and None P e h = h
none_and (Some x) P e h = cc

-- a body that is there is as it was
pub made-body : (S : ℕ) (old new : View) (q r : Ref) (size : ℕ) (P : Kind × List ℕ → Type 0) → IsMade S old new r size → IsSomeAnd (body old q) P → body new q ≡ body old q
made-body S old new q r size P made h =
    let added = made.object.2.added in added.others q (λ e. none_and (body old q) P (ap (body old) e ∙ added.fresh) h)

pub made-holds : (S : ℕ) (old new : View) (q r : Ref) (size : ℕ) (P : Kind × List ℕ → Type 0) → IsMade S old new r size → IsSomeAnd (body old q) P → IsSomeAnd (body new q) P
made-holds S old new q r size P made h = let Q : Option (Kind × List ℕ) → Type 0 = λ o. IsSomeAnd o P in subst Q (sym (made-body S old new q r size P made h)) h

pub made-statics : (S : ℕ) (old new : View) (q r : Ref) (size : ℕ) (row : Row) → IsMade S old new r size → HoldsStatic old q row → HoldsStatic new q row
made-statics S old new q r size row made h =
    let P : Kind × List ℕ → Type 0 = λ b. b ≡ (Static, row_code row) in
    let Q : Option (Kind × List ℕ) → Type 0 = λ o. IsSomeAnd o P in
    let there : Q (body old q) = subst Q (sym h.0) refl in
    (made-body S old new q r size P made there ∙ h.0, h.1)
