-- Which snapshots can be read by their parts, and what they see.
use Rattle.std.proofs.Common.{◌≡◌, ℕ, List, Option, None, Some, IsSome, refl, sym, ap, ◌∙◌}
use Rattle.std.specs.Prelude.{◌≢◌, IsSomeAnd}
use Rattle.rc_cell.specs.declared.rows.Row.{Row}
use Rattle.rc_cell.specs.declared.writes.Tomb.{Tomb}
use Rattle.rc_cell.specs.laws.{joined_row-none}
use Rattle.rc_cell.specs.Winner.{empty_row, joined_row}
use Rattle.rc_position.specs.declared.comps.Comp.{Comp}
use Rattle.rc_position.specs.declared.positions.Pos.{Pos}
use Rattle.rc_position.specs.declared.positions.Weight.{Weight}
use Rattle.rc_position.specs.declared.positions.Weight.TheVariants.{Before, At, After}
use Rattle.rc_position.specs.Position.{row_pos}
use Rattle.rc_mutation.specs.declared.mutations.Mutation.{Mutation}
use Rattle.rc_mutation.specs.Source.{all_rows, source_at}
use Rattle.rc_core.specs.Continuity.{IsContinuous}
use Rattle.rc_core.specs.declared.entries.ChainKind.TheVariants.{Cache}
use Rattle.rc_core.specs.laws.Written.{no_rows_off}
use Rattle.rc_core.specs.Steps.{pin_at}
use Rattle.rc_core.specs.Version.{Version}
use Rattle.rc_chain.specs.Memory.{KeptChain}
use Rattle.rc_cursor.specs.Snapshots.{AreReadable}

-- a snapshot's chain and the number of its version
pub found : (o : Option KeptChain) (pin : ℕ) → IsSomeAnd o (λ k. IsSome (pin_at k.chain.pins pin)) → (k : KeptChain) × (j : ℕ) × (o ≡ Some k) × (pin_at k.chain.pins pin ≡ Some j)
found None pin h = absurd h
found (Some k) pin h = let w = number (pin_at k.chain.pins pin) h in (k, w.0, refl, w.1)
  where
    number : (o : Option ℕ) → IsSome o → (j : ℕ) × (o ≡ Some j)
    number None h = absurd (cc)
    number (Some j) h = (j, refl)

-- writes have rows at the positions of keys alone
written_at_key : (writes : List Mutation) (x : Pos) → (source_at writes x).0 ≢ empty_row → x ≡ row_pos x.prefix
written_at_key writes x some = by x.weight refl
  where
    off : ((k : List Comp) → x ≡ row_pos k → ⊥) → ⊥
    off h = some (ap joined_row (no_rows_off x h (all_rows writes)) ∙ joined_row-none)

    by : (w : Weight) → x.weight ≡ w → x ≡ row_pos x.prefix
    by At e = λ i. record { prefix = x.prefix; weight = e i }
    by Before e = absurd (off (λ k d. let u : Before ≡ At = sym e ∙ ap (λ (y : Pos). y.weight) d in cc))
    by After e = absurd (off (λ k d. let u : After ≡ At = sym e ∙ ap (λ (y : Pos). y.weight) d in cc))

pub continuous-readable : (writes : List Mutation) (versions : List Version) → IsContinuous None writes versions → AreReadable Cache versions
continuous-readable writes versions k = record {
  even = λ x. k.even x tt;
  keys = λ x known some. written_at_key writes x (λ e. some (ap (λ (a : Row × Option Tomb). a.0) (k.clustered x tt known.at) ∙ e));
}
