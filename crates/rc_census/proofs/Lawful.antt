-- What becomes of the census as chains come, change and go.
use Rattle.std.proofs.Common.{◌≡◌, ℕ, Bool, true, false, List, [], ◌∷◌, Option, Some, None, refl, ap, ◌∙◌, subst, cond, slice_index_or, sum_by, arith}
use Rattle.std.specs.Prelude.{◌&&◌, is_none, is_some}
use Rattle.rc_cell.specs.declared.rows.Row.{Row}
use Rattle.rc_core.specs.declared.entries.ChainKind.TheVariants.{Memtable}
use Rattle.rc_core.specs.declared.entries.Entry.{Entry}
use Rattle.rc_core.specs.Version.{EndsWithDummy, IsVersion, Version}
use Rattle.rc_registry.specs.Registry.{put_at_number}
use Rattle.rc_memory.specs.Memory.{KeptChain, Memory, chain_at}
use Rattle.rc_chain.specs.Lives.{IsEndAlone, is_cache}
use Rattle.rc_census.specs.Census.{census_of, census_raised, chain_dummies, chain_rows, dummy_count, is_in_cache, row_count}
use Rattle.rc_census.specs.calls.Weights.{dummies_added, partitions_added, rows_added}
use Rattle.rc_census.proofs.Sums.{added_by, sum-put, through-alike}
use Rattle.rc_census.proofs.Weighed.{census-is, census_in, dummies-told, partitions-told, put-census, rows-told, same-census}

-- ---- other chains

-- a chain that does not count adds nothing
pub record AddsNothing (o : Option KeptChain) : Type 0 where
  pub partitions : added_by partitions_added o ≡ 0
  pub rows : added_by rows_added o ≡ 0
  pub dummies : added_by dummies_added o ≡ 0

pub none-adds : (o : Option KeptChain) → o ≡ None → AddsNothing o
none-adds o e = record { partitions = ap (added_by partitions_added) e; rows = ap (added_by rows_added) e; dummies = ap (added_by dummies_added) e }

pub off-adds : (k : KeptChain) → is_in_cache k ≡ false → AddsNothing (Some k)
off-adds k e = record { partitions = ap (λ b. cond b 1 0) e; rows = ap (λ b. cond b (chain_rows k) 0) e; dummies = ap (λ b. cond b (chain_dummies k) 0) e }

pub off-memtable : (k : KeptChain) → k.chain.kind ≡ Memtable → is_in_cache k ≡ false
off-memtable k e = ap (λ kind. is_cache kind && k.chain.attached) e

pub off-detached : (k : KeptChain) → k.chain.attached ≡ false → is_in_cache k ≡ false
off-detached k e = ap (λ b. is_cache k.chain.kind && b) e ∙ never (is_cache k.chain.kind)
  where
    never : (b : Bool) → b && false ≡ false
    never true = refl
    never false = refl

-- where what adds nothing gives way to what adds nothing the census stays
pub put-nothing : (chains : List (Option KeptChain)) (id : ℕ) (c : Option KeptChain) → AddsNothing (slice_index_or chains id None) → AddsNothing c → census_in (put_at_number id c chains) ≡ census_in chains
put-nothing chains id c was is = put-census chains id c (census_in chains) 0 0 0
    (omega (arith, was.partitions, is.partitions)) (omega (arith, was.rows, is.rows)) (omega (arith, was.dummies, is.dummies)) (omega arith) (omega arith) (omega arith)

-- two memories with the same chains of the cache that are found by their keys
pub beside-census : (old new : Memory) → ((id : ℕ) (k : KeptChain) → is_in_cache k ≡ true → chain_at old id ≡ Some k → chain_at new id ≡ Some k) → ((id : ℕ) (k : KeptChain) → is_in_cache k ≡ true → chain_at new id ≡ Some k → chain_at old id ≡ Some k) → census_of new ≡ census_of old
beside-census old new there back = same-census old.chains new.chains (λ n. record {
  partitions = through-alike is_in_cache (λ k. 1) (chain_at old n) (chain_at new n) (there n) (back n);
  rows = through-alike is_in_cache chain_rows (chain_at old n) (chain_at new n) (there n) (back n);
  dummies = through-alike is_in_cache chain_dummies (chain_at old n) (chain_at new n) (there n) (back n);
})

-- ---- a chain that counts

-- it adds itself, its rows and its dummies
pub record AddsOwn (k : KeptChain) : Type 0 where
  pub partitions : partitions_added k ≡ 1
  pub rows : rows_added k ≡ chain_rows k
  pub dummies : dummies_added k ≡ chain_dummies k

pub on-adds : (k : KeptChain) → is_in_cache k ≡ true → AddsOwn k
on-adds k e = record { partitions = ap (λ b. cond b 1 0) e; rows = ap (λ b. cond b (chain_rows k) 0) e; dummies = ap (λ b. cond b (chain_dummies k) 0) e }

-- where nothing stood it comes in
pub put-own : (chains : List (Option KeptChain)) (id : ℕ) (k : KeptChain) → slice_index_or chains id None ≡ None → is_in_cache k ≡ true → census_in (put_at_number id (Some k) chains) ≡ census_raised 1 (chain_rows k) (chain_dummies k) (census_in chains)
put-own chains id k vacant counts = let was = none-adds (slice_index_or chains id None) vacant in let own = on-adds k counts in
    put-census chains id (Some k) (census_raised 1 (chain_rows k) (chain_dummies k) (census_in chains)) 1 (chain_rows k) (chain_dummies k)
    (omega (arith, was.partitions, own.partitions)) (omega (arith, was.rows, own.rows)) (omega (arith, was.dummies, own.dummies)) refl refl refl

-- where what adds nothing takes its place it goes out
pub take-own : (chains : List (Option KeptChain)) (id : ℕ) (k : KeptChain) (c : Option KeptChain) → slice_index_or chains id None ≡ Some k → is_in_cache k ≡ true → AddsNothing c → census_raised 1 (chain_rows k) (chain_dummies k) (census_in (put_at_number id c chains)) ≡ census_in chains
take-own chains id k c there counts nothing = let own = on-adds k counts in
    let p : added_by partitions_added (slice_index_or chains id None) ≡ partitions_added k = ap (added_by partitions_added) there in
    let r : added_by rows_added (slice_index_or chains id None) ≡ rows_added k = ap (added_by rows_added) there in
    let d : added_by dummies_added (slice_index_or chains id None) ≡ dummies_added k = ap (added_by dummies_added) there in
    census-is chains (census_raised 1 (chain_rows k) (chain_dummies k) (census_in (put_at_number id c chains)))
    (omega (arith, p, own.partitions, nothing.partitions, partitions-told (put_at_number id c chains), sum-put partitions_added id c chains))
    (omega (arith, r, own.rows, nothing.rows, rows-told (put_at_number id c chains), sum-put rows_added id c chains))
    (omega (arith, d, own.dummies, nothing.dummies, dummies-told (put_at_number id c chains), sum-put dummies_added id c chains))

-- ---- the end dummy alone

-- one entry without a row
alone-counts : (es : List Entry) (e : Entry) → es ≡ e ∷ [] → EndsWithDummy es → (row_count es ≡ 0) × (dummy_count es ≡ 1)
alone-counts es e is ends =
    let bare : e.row ≡ None = (subst EndsWithDummy is ends).1 in
    let row : Option Row → ℕ = λ o. cond (is_some o) 1 0 in
    let no_row : Option Row → ℕ = λ o. cond (is_none o) 1 0 in
    let rows : row_count es ≡ row_count (e ∷ []) = ap row_count is in
    let dummies : dummy_count es ≡ dummy_count (e ∷ []) = ap dummy_count is in
    (omega (arith, rows, ap row bare), omega (arith, dummies, ap no_row bare))

pub alone-rows : (k : KeptChain) (v : Version) → k.chain.versions ≡ v ∷ [] → IsVersion v → IsEndAlone v → (chain_rows k ≡ 0) × (chain_dummies k ≡ 1)
alone-rows k v is version alone =
    let counts = alone-counts v.entries alone.alone.0 alone.alone.1 version.ends in
    let rows : chain_rows k ≡ sum_by (λ (w : Version). row_count w.entries) (v ∷ []) = ap (λ vs. sum_by (λ (w : Version). row_count w.entries) vs) is in
    let dummies : chain_dummies k ≡ sum_by (λ (w : Version). dummy_count w.entries) (v ∷ []) = ap (λ vs. sum_by (λ (w : Version). dummy_count w.entries) vs) is in
    (omega (arith, rows, counts.0), omega (arith, dummies, counts.1))
