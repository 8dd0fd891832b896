-- Segments emptied one after another, as many as were asked for, or until none is sparse.
use Rattle.std.proofs.Common.{◌≡◌, ◌≤◌, ◌<◌, ◌+◌, ◌-◌, ℕ, suc, Option, None, Some, refl, ◌∙◌, arith}
use Rattle.std.specs.Prelude.{IfSome, false, is_some}
use Rattle.lsa_region.specs.Stock.{sparse_of}
use Rattle.lsa_move.specs.Room.{IsCompacted}
use Rattle.rc_memory.specs.Memory.{IsUntouched, Memory}
use Rattle.rc_shard.specs.Compacting.{AreEmptied, AreSparseEmptied}

-- of so many that were asked for these are left
pub record IsCompacting (count left : ℕ) (old new : Memory) : Type 0 where
  rounds : ℕ
  emptied : AreEmptied rounds old.region new.region
  asked : rounds + left ≡ count
  untouched : IsUntouched old new

pub compacting-none : (count : ℕ) (m : Memory) → IsCompacting count count m m
compacting-none count m = record { rounds = 0; emptied = refl; asked = omega arith; untouched = record { chains = refl; recency = refl; dropped = refl; counts = refl } }

-- what is sparse, and what is not
none-sparse : (o : Option ℕ) → is_some o ≡ false → o ≡ None
none-sparse None e = refl
none-sparse (Some n) e = absurd (cc)

some-sparse : (o : Option ℕ) (P : ℕ → Type 0) → (is_some o ≡ false → ⊥) → IfSome o P → (n : ℕ) × P n
some-sparse None P some h = absurd (some refl)
some-sparse (Some n) P some h = (n, h)

module _ (count left : ℕ) (old mid : Memory) (is : IsCompacting count left old mid) where
  pub one-emptied : (new : Memory) → 1 ≤ left → (is_some (sparse_of 131072 mid.region.usages) ≡ false → ⊥) → IfSome (sparse_of 131072 mid.region.usages) (IsCompacted 131072 mid.region new.region) → IsUntouched mid new → IsCompacting count (left - 1) old new
  one-emptied new more sparse compacted same =
      let n = some-sparse (sparse_of 131072 mid.region.usages) (IsCompacted 131072 mid.region new.region) sparse compacted in
      let asked = is.asked in
      record {
        rounds = suc is.rounds;
        emptied = (mid.region, n.0, is.emptied, n.1);
        asked = omega (arith, asked, more);
        untouched = record { chains = same.chains ∙ is.untouched.chains; recency = same.recency ∙ is.untouched.recency; dropped = same.dropped ∙ is.untouched.dropped; counts = same.counts ∙ is.untouched.counts };
      }

  -- none is left that is sparse
  pub none-left : is_some (sparse_of 131072 mid.region.usages) ≡ false → AreSparseEmptied count old mid
  none-left none = (let asked = is.asked in record { rounds = is.rounds; emptied = is.emptied; most = omega (arith, asked); tight = λ fewer. none-sparse (sparse_of 131072 mid.region.usages) none; untouched = is.untouched })

  -- as many as were asked for are done
  pub all-done : left < 1 → AreSparseEmptied count old mid
  all-done done = (let asked = is.asked in record { rounds = is.rounds; emptied = is.emptied; most = omega (arith, asked); tight = λ fewer. absurd (omega (arith, asked, done, fewer)); untouched = is.untouched })
