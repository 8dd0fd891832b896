-- What tables and both memtables say joins to one mutation; and no changes to none.
use Rattle.std.proofs.Common.{◌≡◌, List, [], ◌∷◌, ◌++◌, map as list_map, None, refl, sym, ap, ◌∙◌}
use Rattle.std.proofs.lemmas.List.Elements.{All-nil}
use Rattle.rc_cell.specs.Winner.{empty_row}
use Rattle.rc_mutation.specs.declared.mutations.Mutation.{Mutation}
use Rattle.rc_mutation.specs.Fragments.{fragments, rows_and_changes}
use Rattle.rc_mutation.specs.Source.{IsJoinOf, IsMutation}
use Rattle.rc_mutation.specs.laws.FragMerge.{fragment_of, merge-in_order, merge-nil}
use Rattle.rc_mutation.specs.laws.Rebuilt.{whole-of}
use Rattle.rc_mutation.specs.laws.Sources.{IsJoinOf-first, IsJoinOf-none, IsJoinOf-same, IsJoinOf-swap}
use Rattle.rc_stream.specs.Stream.{stream_of}

-- the later of two that were joined says what changes say
second_said : (a b r : Mutation) (xs ys : List Mutation) → IsJoinOf b ys → IsJoinOf r (xs ++ b ∷ []) → IsJoinOf r (xs ++ ys)
second_said a b r xs ys j k = IsJoinOf-swap r ys xs (IsJoinOf-first b r ys xs j (IsJoinOf-swap r xs (b ∷ []) k))

-- both of two that were joined say what changes say
both_said : (a b r : Mutation) (xs ys : List Mutation) → IsJoinOf a xs → IsJoinOf b ys → IsJoinOf r (a ∷ b ∷ []) → IsJoinOf r (xs ++ ys)
both_said a b r xs ys i j k = second_said a b r xs ys j (IsJoinOf-first a r xs (b ∷ []) i k)

pub all_said : (sealed active written tables all : Mutation) (below writes later : List Mutation) → IsJoinOf sealed writes → IsJoinOf active later → IsJoinOf written (sealed ∷ active ∷ []) → IsJoinOf tables below → IsJoinOf all (written ∷ tables ∷ []) → IsJoinOf all (below ++ (writes ++ later))
all_said sealed active written tables all below writes later s a w t j = IsJoinOf-swap all (writes ++ later) below (both_said written tables all (writes ++ later) below (both_said sealed active written writes later s a w) t j)

-- no changes
abbrev pub no_change : Mutation
no_change = record { pt = None; statics = empty_row; rows = []; ranges = [] }

pub is_no_change : IsMutation no_change
is_no_change = record { alone = refl; statics = refl; rows = record { ascend = refl; written = All-nil _; by_column = All-nil _ }; ranges = tt }

nothing_between : rows_and_changes no_change ≡ []
nothing_between = sym (merge-in_order [] [] refl refl) ∙ ap (list_map fragment_of) (merge-nil [])

pub says_nothing : (m : Mutation) → IsMutation m → IsJoinOf m [] → stream_of (fragments m) ≡ record { head = record { pt = None; statics = empty_row }; tomb = None; left = [] }
says_nothing m is j =
    ap (λ (n : Mutation). stream_of (fragments n)) (IsJoinOf-same m no_change [] is is_no_change j IsJoinOf-none)
    ∙ ap stream_of (whole-of no_change [] nothing_between)
