-- What changes join to says the same beside others.
use Rattle.std.proofs.Common.{◌≡◌, [], ◌∷◌, ◌++◌, List, All, ap, sym, ◌∙◌}
use Rattle.std.proofs.lemmas.List.Elements.{All-cons, All-append}
use Rattle.rc_position.specs.declared.slices.Slice.{Slice}
use Rattle.rc_schema.specs.SchemaValue.{SchemaValue}
use Rattle.rc_mutation.specs.declared.mutations.Mutation.{Mutation}
use Rattle.rc_mutation.specs.Source.{IsJoinOf, IsMutation}
use Rattle.rc_mutation.specs.laws.Sources.{IsJoinOf-first}
use Rattle.rc_query.specs.Answer.{answer}
use Rattle.rc_opened.specs.Opened.{AreChangesOf}

module _ (joined : (mutation : Mutation) (changes : List Mutation) (slice : Slice) → IsJoinOf mutation changes → answer changes slice ≡ answer (mutation ∷ []) slice) (all : (writes : List Mutation) → All IsMutation writes → (whole : Mutation) × IsMutation whole × IsJoinOf whole writes) where
  pub joined-beside : (first : Mutation) (changes written : List Mutation) (slice : Slice) → IsJoinOf first changes → IsMutation first → All IsMutation written → answer (first ∷ written) slice ≡ answer (changes ++ written) slice
  joined-beside first changes written slice j is mutations =
      let whole = all (first ∷ written) (All-cons IsMutation first written is mutations) in
      joined whole.0 (first ∷ written) slice whole.2 ∙ sym (joined whole.0 (changes ++ written) slice (IsJoinOf-first first whole.0 changes written j whole.2))

  -- also where it is all that lies below
  pub below-beside : (first : Mutation) (below changes written : List Mutation) (slice : Slice) → below ≡ first ∷ [] → IsJoinOf first changes → IsMutation first → All IsMutation written → answer (below ++ written) slice ≡ answer (changes ++ written) slice
  below-beside first below changes written slice is j mutation mutations = ap (λ (b : List Mutation). answer (b ++ written) slice) is ∙ joined-beside first changes written slice j mutation mutations

-- changes of two lists are such as a reader needs
pub both-mutations : (schema : SchemaValue) (xs ys : List Mutation) → AreChangesOf schema xs → AreChangesOf schema ys → All IsMutation (xs ++ ys)
both-mutations schema xs ys a b = All-append IsMutation xs ys a.mutations b.mutations
