-- The versions of one chain, counted one after another.
use Rattle.std.proofs.Common.{◌≡◌, ◌≤◌, ◌+◌, ℕ, length, ◌∙◌, take, sum_by, arith}
use Rattle.rc_core.specs.Version.{Version}
use Rattle.rc_memory.specs.Memory.{KeptChain, IsVersionAt}
use Rattle.rc_census.specs.declared.sorts.Sorts.{Sorts}
use Rattle.rc_census.specs.Census.{chain_dummies, chain_rows, dummy_count, row_count}
use Rattle.rc_census.proofs.Numbered.{sum-next, sum-room, sum-whole}

-- the rows and the dummies of a version
abbrev pub rows_in : Version → ℕ
rows_in v = row_count v.entries

abbrev pub dummies_in : Version → ℕ
dummies_in v = dummy_count v.entries

-- the versions of a chain below a number are counted
pub record AreVersionsCounted (k : KeptChain) (number : ℕ) (sorts : Sorts) : Type 0 where
  pub rows : sorts.rows ≡ sum_by rows_in (take number k.chain.versions)
  pub dummies : sorts.dummies ≡ sum_by dummies_in (take number k.chain.versions)

module _ (k : KeptChain) (number : ℕ) (sorts : Sorts) (h : AreVersionsCounted k number sorts) where
  module _ (v : Version) (at : IsVersionAt k.chain.versions number v) (more : Sorts) (rows : more.rows ≡ rows_in v) (dummies : more.dummies ≡ dummies_in v) where
    -- there is room for one more
    pub rows-under : sorts.rows + more.rows ≤ chain_rows k
    rows-under = let so_far = h.rows in omega (arith, so_far, rows, sum-room rows_in k.chain.versions number v at)

    pub dummies-under : sorts.dummies + more.dummies ≤ chain_dummies k
    dummies-under = let so_far = h.dummies in omega (arith, so_far, dummies, sum-room dummies_in k.chain.versions number v at)

    -- it is counted
    pub versions-more : (now : Sorts) → now.rows ≡ sorts.rows + more.rows → now.dummies ≡ sorts.dummies + more.dummies → AreVersionsCounted k (number + 1) now
    versions-more now r d = let rows_so_far = h.rows in let dummies_so_far = h.dummies in record {
      rows = omega (arith, r, rows_so_far, rows, sum-next rows_in k.chain.versions number v at);
      dummies = omega (arith, d, dummies_so_far, dummies, sum-next dummies_in k.chain.versions number v at);
    }

  -- behind the last number all are counted
  pub versions-rows : length k.chain.versions ≤ number → sorts.rows ≡ chain_rows k
  versions-rows long = h.rows ∙ sum-whole rows_in k.chain.versions number long

  pub versions-dummies : length k.chain.versions ≤ number → sorts.dummies ≡ chain_dummies k
  versions-dummies long = h.dummies ∙ sum-whole dummies_in k.chain.versions number long
