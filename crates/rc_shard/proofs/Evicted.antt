-- Evictions, one after another, as many as were asked for, or all that there were.
use Rattle.std.proofs.Common.{◌≡◌, ◌≤◌, ◌+◌, ◌-◌, ℕ, List, [], ◌∷◌, ◌++◌, length, length-append, refl, ap, ◌∙◌, arith}
use Rattle.std.specs.Prelude.{min}
use Rattle.rc_memory.specs.Memory.{IsUntouched, Member, Memory}
use Rattle.rc_memory.specs.declared.counts.Counts.{Counts}
use Rattle.rc_lookup.specs.Evictions.{AreEvicted, evictions_counted, one_eviction_more}
use Rattle.rc_shard.specs.Evicting.{AreFirstEvicted}

-- of so many that were asked for these are left
abbrev pub IsUnderway : ℕ → ℕ → Memory → Memory → Type 0
IsUnderway count left old new = (went : List Member) × (gone : List ℕ) × AreEvicted went gone old new × (length went + left ≡ count)

-- one after another
abbrev pub Follow : Type 0
Follow = (went more : List Member) (gone others : List ℕ) (old mid new : Memory) → AreEvicted went gone old mid → AreEvicted more others mid new → AreEvicted (went ++ more) (gone ++ others) old new

pub nothing-moved : (m : Memory) → IsUntouched m m
nothing-moved m = record { chains = refl; recency = refl; dropped = refl; counts = refl }

one-less : (n left count : ℕ) → 1 ≤ left → n + left ≡ count → (n + 1) + (left - 1) ≡ count
one-less n left count some e = omega (arith, some, e)

pub one-further : Follow → (count left : ℕ) (old mid new : Memory) → 1 ≤ left → IsUnderway count left old mid → (place : Member) × (gone : List ℕ) × AreEvicted (place ∷ []) gone mid new → IsUnderway count (left - 1) old new
one-further follow count left old mid new some u one = (
  u.0 ++ (one.0 ∷ []),
  u.1 ++ one.1,
  follow u.0 (one.0 ∷ []) u.1 one.1 old mid new u.2 one.2,
  ap (λ n. n + (left - 1)) (length-append u.0 (one.0 ∷ [])) ∙ one-less (length u.0) left count some u.3,
)

listed-sum : (went rest old : List Member) → old ≡ went ++ rest → length old ≡ length went + length rest
listed-sum went rest old e = ap length e ∙ length-append went rest

all-sum : (n rest count all : ℕ) → n ≡ count → all ≡ n + rest → n ≡ min count all
all-sum n rest count all e sum = omega (arith, e, sum)

end-sum : (n left count all : ℕ) → n + left ≡ count → all ≡ n + 0 → n ≡ min count all
end-sum n left count all e sum = omega (arith, e, sum)

-- where as many went as were asked for
pub all-went : (count left : ℕ) (old new : Memory) → left ≡ 0 → IsUnderway count left old new → AreFirstEvicted count old new
all-went count left old new zero u = (u.0, u.1, u.2, all-sum (length u.0) (length new.recency) count (length old.recency) (let sum = u.3 in omega (arith, sum, zero)) (listed-sum u.0 new.recency old.recency u.2.recency))

-- where none is left
pub none-left : (count left : ℕ) (old new : Memory) → new.recency ≡ [] → IsUnderway count left old new → AreFirstEvicted count old new
none-left count left old new none u = (u.0, u.1, u.2, end-sum (length u.0) left count (length old.recency) u.3 (listed-sum u.0 new.recency old.recency u.2.recency ∙ ap (λ (l : List Member). length u.0 + length l) none))

-- evictions skip no fill
skipped-counted : (went : List Member) (c : Counts) → (evictions_counted went c).skipped ≡ c.skipped
skipped-counted [] c = refl
skipped-counted (w ∷ ws) c = skipped-counted ws (one_eviction_more c)

pub none-skipped : (count : ℕ) (old new : Memory) → AreFirstEvicted count old new → new.counts.skipped ≡ old.counts.skipped
none-skipped count old new (went, gone, evicted, long) = ap (λ (c : Counts). c.skipped) evicted.counts ∙ skipped-counted went old.counts
