-- What fits a schema is within the limits of the byte codes.
use Rattle.std.specs.Prelude.{◌≡◌, Bool, true, false, ◌&&◌, zero, suc, List, [], ◌∷◌, All, IsTrue}
use Rattle.std.proofs.Common.{refl, arith}
use Rattle.std.specs.List.{list_all}
use Rattle.rc_schema.specs.SchemaValue.{SchemaValue, is_schema}
use Rattle.rc_schema.specs.laws.Fitting.{key_fits, cells_fit, key_passes, cells_pass}
use Rattle.rc_mutation.specs.declared.mutations.Mutation.{Mutation}
use Rattle.rc_writes.specs.Allowed.{ChangeFits}
use Rattle.rc_writes.specs.Limits.{IsWithinLimits}

both : (b c : Bool) → b && c ≡ true → (b ≡ true) × (c ≡ true)
both true c h = (refl, h)
both false c h = absurd (cc)

-- what holds of each element that passes a test holds of all, where all pass it
pub all_within : {X : Type 0} (P : X → Type 0) (p : X → Bool) (xs : List X) → ((x : X) → p x ≡ true → P x) → list_all p xs ≡ true → All P xs
all_within P p [] f h k d lt = absurd (omega arith)
all_within P p (x ∷ xs) f h zero d lt = f x (both (p x) (list_all p xs) h).0
all_within P p (x ∷ xs) f h (suc k) d lt = all_within P p xs f (both (p x) (list_all p xs) h).1 k d (omega arith)

-- what is written of a partition and fits a schema is within the limits of the byte codes
pub change-within : (schema : SchemaValue) (m : Mutation) → IsTrue (is_schema schema) → ChangeFits schema m → IsWithinLimits m
change-within schema m is fits = record {
  statics = cells_fit true schema m.statics.cells is (cells_pass true schema m.statics.cells fits.statics.2);
  rows = λ k d lt. (let row = fits.rows k d lt in (key_fits true schema _ is (key_passes true schema _ row.0), cells_fit false schema _ is (cells_pass false schema _ row.1)));
  ranges = λ k d lt. (let range = fits.ranges k d lt in (key_fits false schema _ is (key_passes false schema _ range.0.1), key_fits false schema _ is (key_passes false schema _ range.1.1)));
}
