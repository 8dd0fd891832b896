use Rattle.std.proofs.Common.{◌≡◌, ℕ, Bool, true, false, List, [], ◌∷◌, ◌++◌, Some, None, cond, length, refl, sym, ap, ◌∙◌, subst}
use Rattle.std.specs.Option.{option_to_list}
use Rattle.rc_cell.specs.declared.rows.Row.{Row}
use Rattle.rc_cell.specs.Winner.{IsRow, joined_row}
use Rattle.rc_cell.specs.laws.{IsRow-joined_row, joined_row-none, joined_row-one}
use Rattle.rc_position.specs.Position.{Place}
use Rattle.rc_mutation.specs.declared.mutations.Mutation.{Mutation}
use Rattle.rc_mutation.specs.Fragments.{is_written}
use Rattle.rc_mutation.specs.Source.{source_at, source_at_static, static_rows}
use Rattle.rc_mutation.specs.laws.Written.{unwritten}
use Rattle.rc_core.specs.Chains.{IsChainContinuous, Shown, at_place, phase_at, upto}
use Rattle.rc_core.specs.Continuity.{HoldNoMore, IsWithin}
use Rattle.rc_core.specs.Version.{On, Version, state_at, static_state}
use Rattle.rc_core.specs.laws.Losing.{each-one}
use Rattle.rc_core.specs.laws.Standing.{Stand, above-zero, stand-at}
use Rattle.rc_memory.specs.Memory.{IsVersionAt}
use Rattle.rc_memory.specs.laws.At.{number-low}
use Rattle.rc_populate.specs.Filling.{filled_statics}
use Rattle.rc_populate.proofs.laws.what_the_source_says_may_be_filled.Goals as goal

pub returns : goal.returns
returns c = record {
  statics = λ below p d j v at k. each-one (λ w. IsWithin (static_state w) (source_at_static (below (phase_at d.versions j)), None)) at.older [] v (held below p d j v at k).statics;
  clustered = λ below p d j v x at k. each-one (λ w. IsWithin (state_at (On x) w) (source_at (below (phase_at d.versions j)) x)) at.older [] v ((held below p d j v at k).clustered x);
  given = λ writes. joined (source_at_static writes) (IsRow-joined_row (static_rows writes)) (is_written (source_at_static writes)) refl;
}
  where
    held : (below : ℕ → List Mutation) (p : Place) (d : Shown) (j : ℕ) (v : Version) (at : IsVersionAt d.versions j v) → IsChainContinuous below (at_place p d) → HoldNoMore (below (phase_at d.versions j)) (at.older ++ v ∷ [])
    held below p d j v at k = subst (HoldNoMore (below (phase_at d.versions j)))
        (ap (λ us. upto us j) at.split ∙ ap (λ (s : Stand). s.1) (stand-at j at.older at.newer v (sym at.number ∙ sym (above-zero (length at.older)))))
        (k.within j (number-low d.versions j v at))

    joined : (row : Row) → IsRow row → (b : Bool) → is_written row ≡ b → joined_row (option_to_list (filled_statics row)) ≡ row
    joined row is true e = subst (λ (b : Bool). joined_row (option_to_list (cond b (Some row) None)) ≡ row) (sym e) (joined_row-one row is)
    joined row is false e = subst (λ (b : Bool). joined_row (option_to_list (cond b (Some row) None)) ≡ row) (sym e) (joined_row-none ∙ sym (unwritten row e))
