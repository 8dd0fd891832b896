-- The fragments of what is written within the limits are within them.
use Rattle.std.proofs.Common.{true, false, [], ◌∷◌, ◌++◌, cond}
use Rattle.std.specs.Prelude.{All}
use Rattle.std.specs.List.{AllByRecursion}
use Rattle.rc_cell.specs.declared.rows.Row.{Row}
use Rattle.rc_mutation.specs.declared.fragments.Frag.TheVariants as frag
use Rattle.rc_mutation.specs.declared.mutations.Mutation.{Mutation}
use Rattle.rc_mutation.specs.Source.{IsMutation}
use Rattle.rc_mutation.specs.Fragments.{fragments, static_fragment, is_written, rows_and_changes}
use Rattle.rc_writes.specs.Limits.{IsWithinLimits}
use Rattle.rc_tfile.specs.calls.Limits.{FragFits}
use Rattle.rc_tfile.specs.laws.Follows.{all_of, all_append}
use Rattle.rc_tfile.specs.laws.Standing.{clustered_so}

statics_fit : (row : Row) → AllByRecursion FragFits (static_fragment row)
statics_fit row = elim (is_written row) as (λ b. AllByRecursion FragFits (cond b (frag.Static row ∷ []) [])) [ true ↦ (tt, tt) | false ↦ tt ]

pub fragments_fit : (m : Mutation) → IsMutation m → IsWithinLimits m → All FragFits (fragments m)
unfolding fragments
fragments_fit m is h =
    let front = frag.Start m.pt ∷ static_fragment m.statics in
    let mid = rows_and_changes m in
    let middle : AllByRecursion FragFits mid = clustered_so FragFits m is h.rows (λ k d lt. (let q = h.ranges k d lt in (λ tomb. q.0, λ tomb. q.1))) in
    all_of FragFits ((front ++ mid) ++ frag.End ∷ []) (all_append FragFits (front ++ mid) (frag.End ∷ []) (all_append FragFits front mid (tt, statics_fit m.statics) middle) (tt, tt))
