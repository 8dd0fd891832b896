-- A census by what each chain adds to it.
use Rattle.std.proofs.Common.{◌≡◌, ◌≤◌, ◌<◌, ◌+◌, ℕ, Bool, true, false, List, [], ◌∷◌, Option, Some, None, length, refl, sym, ◌∙◌, cond, slice_index_or, sum_by, arith}
use Rattle.std.specs.Prelude.{filter, is_none, is_some}
use Rattle.std.specs.Option.{option_map}
use Rattle.std.proofs.lemmas.List.Sums.{count_by-le-length, length-filter, sum_by-cons}
use Rattle.rc_core.specs.declared.entries.Entry.{Entry}
use Rattle.rc_core.specs.Version.{Version}
use Rattle.rc_partition.specs.Partitions.{version_objects}
use Rattle.rc_registry.specs.Registry.{put_at_number}
use Rattle.rc_memory.specs.Kept.{present}
use Rattle.rc_memory.specs.Memory.{KeptChain, on_chain}
use Rattle.rc_memory.specs.Room.{chain_objects}
use Rattle.rc_census.specs.declared.figures.Census.{Census}
use Rattle.rc_census.specs.Census.{chain_dummies, chain_rows, dummy_count, is_in_cache, row_count}
use Rattle.rc_census.specs.calls.Weights.{dummies_added, partitions_added, rows_added}
use Rattle.rc_census.proofs.Sums.{added_by, sum-alike, sum-filter, sum-put, sum-under}

-- ---- a census is three sums

-- the census of the chains of a list
abbrev pub census_in : List (Option KeptChain) → Census
census_in chains = record { partitions = length (filter is_in_cache (present chains)); rows = sum_by chain_rows (filter is_in_cache (present chains)); dummies = sum_by chain_dummies (filter is_in_cache (present chains)) }

module _ (chains : List (Option KeptChain)) where
  pub partitions-told : (census_in chains).partitions ≡ sum_by partitions_added (present chains)
  partitions-told = length-filter is_in_cache (present chains)

  pub rows-told : (census_in chains).rows ≡ sum_by rows_added (present chains)
  rows-told = sum-filter is_in_cache chain_rows (present chains)

  pub dummies-told : (census_in chains).dummies ≡ sum_by dummies_added (present chains)
  dummies-told = sum-filter is_in_cache chain_dummies (present chains)

  -- whatever has these sums is the census
  pub census-is : (c : Census) → c.partitions ≡ sum_by partitions_added (present chains) → c.rows ≡ sum_by rows_added (present chains) → c.dummies ≡ sum_by dummies_added (present chains) → c ≡ census_in chains
  census-is c partitions rows dummies = λ i. record { partitions = (partitions ∙ sym partitions-told) i; rows = (rows ∙ sym rows-told) i; dummies = (dummies ∙ sym dummies-told) i }

-- ---- two censuses

-- what stands at a number adds the same
pub record AddAlike (o q : Option KeptChain) : Type 0 where
  pub partitions : added_by partitions_added o ≡ added_by partitions_added q
  pub rows : added_by rows_added o ≡ added_by rows_added q
  pub dummies : added_by dummies_added o ≡ added_by dummies_added q

-- so at each number: the census is the same
pub same-census : (old new : List (Option KeptChain)) → ((n : ℕ) → AddAlike (slice_index_or old n None) (slice_index_or new n None)) → census_in new ≡ census_in old
same-census old new h = census-is old (census_in new)
    (partitions-told new ∙ sym (sum-alike partitions_added old new (λ n. (h n).partitions)))
    (rows-told new ∙ sym (sum-alike rows_added old new (λ n. (h n).rows)))
    (dummies-told new ∙ sym (sum-alike dummies_added old new (λ n. (h n).dummies)))

-- the chain of a number is another thing, which adds so much more
pub put-census : (chains : List (Option KeptChain)) (id : ℕ) (c : Option KeptChain) (now : Census) (partitions rows dummies : ℕ)
    → added_by partitions_added c ≡ added_by partitions_added (slice_index_or chains id None) + partitions → added_by rows_added c ≡ added_by rows_added (slice_index_or chains id None) + rows
    → added_by dummies_added c ≡ added_by dummies_added (slice_index_or chains id None) + dummies
    → now.partitions ≡ (census_in chains).partitions + partitions → now.rows ≡ (census_in chains).rows + rows → now.dummies ≡ (census_in chains).dummies + dummies → census_in (put_at_number id c chains) ≡ now
put-census chains id c now partitions rows dummies p r d np nr nd = sym (census-is (put_at_number id c chains) now
    (omega (arith, np, p, partitions-told chains, sum-put partitions_added id c chains))
    (omega (arith, nr, r, rows-told chains, sum-put rows_added id c chains))
    (omega (arith, nd, d, dummies-told chains, sum-put dummies_added id c chains)))

-- something was done to a chain that leaves what it adds
pub on-census : (chains : List (Option KeptChain)) (id : ℕ) (f : KeptChain → KeptChain) → ((k : KeptChain) → partitions_added (f k) ≡ partitions_added k) → ((k : KeptChain) → rows_added (f k) ≡ rows_added k) → ((k : KeptChain) → dummies_added (f k) ≡ dummies_added k)
    → census_in (on_chain id f chains) ≡ census_in chains
on-census chains id f p r d = put-census chains id (option_map f (slice_index_or chains id None)) (census_in chains) 0 0 0
    (omega (arith, mapped partitions_added p (slice_index_or chains id None))) (omega (arith, mapped rows_added r (slice_index_or chains id None))) (omega (arith, mapped dummies_added d (slice_index_or chains id None)))
    (omega arith) (omega arith) (omega arith)
  where
    mapped : (w : KeptChain → ℕ) → ((k : KeptChain) → w (f k) ≡ w k) → (o : Option KeptChain) → added_by w (option_map f o) ≡ added_by w o
    mapped w h None = refl
    mapped w h (Some k) = h k

-- ---- a chain has at least as many objects as it adds

pub rows-few : (k : KeptChain) → chain_rows k ≤ chain_objects k
rows-few k = sum-under (λ (v : Version). row_count v.entries) version_objects (λ v. omega (arith, count_by-le-length (λ (e : Entry). is_some e.row) v.entries)) k.chain.versions

pub dummies-few : (k : KeptChain) → chain_dummies k ≤ chain_objects k
dummies-few k = sum-under (λ (v : Version). dummy_count v.entries) version_objects (λ v. omega (arith, count_by-le-length (λ (e : Entry). is_none e.row) v.entries)) k.chain.versions

at-most : (b : Bool) (n most : ℕ) → n ≤ most → cond b n 0 ≤ most
at-most true n most h = h
at-most false n most h = omega arith

pub rows-added-few : (k : KeptChain) → rows_added k ≤ chain_objects k
rows-added-few k = at-most (is_in_cache k) (chain_rows k) (chain_objects k) (rows-few k)

pub dummies-added-few : (k : KeptChain) → dummies_added k ≤ chain_objects k
dummies-added-few k = at-most (is_in_cache k) (chain_dummies k) (chain_objects k) (dummies-few k)

-- a chain with a version has an object
some-objects : (vs : List Version) → 0 < length vs → 1 ≤ sum_by version_objects vs
some-objects [] some = absurd (omega (arith, some))
some-objects (v ∷ vs) some = omega (arith, sum_by-cons version_objects v vs)

pub partitions-added-few : (k : KeptChain) → 0 < length k.chain.versions → partitions_added k ≤ chain_objects k
partitions-added-few k some = at-most (is_in_cache k) 1 (chain_objects k) (some-objects k.chain.versions some)
