-- What segments hold, and how much room is left: sums over the list of the segments' usages, by number.
use Rattle.std.specs.Prelude.{ℕ, ◌+◌, ◌-◌, ◌*◌, ◌/◌, Bool, true, false, not, ◌&&◌, ◌||◌, nat_le, List, slice_index_or, Option, count_by, sum_by}
use Rattle.std.specs.List.{list_all, position}
use Rattle.std.specs.Option.{option_map_or}
use Rattle.lsa_pool.specs.declared.State.{State}
use Rattle.lsa_pool.specs.declared.State.TheVariants.{Free, Active, Closed}
use Rattle.lsa_pool.specs.declared.Usage.{Usage}

-- the state is Free
abbrev pub is_state_free : State → Bool
is_state_free Free = true
is_state_free Active = false
is_state_free Closed = false

-- the state is Active
abbrev pub is_state_active : State → Bool
is_state_active Free = false
is_state_active Active = true
is_state_active Closed = false

-- the state is Closed
abbrev pub is_state_closed : State → Bool
is_state_closed Free = false
is_state_closed Active = false
is_state_closed Closed = true

-- a free segment holds nothing
abbrev pub nothing : Usage
nothing = record { state = Free; used = 0; live = 0 }

-- what the n-th segment holds
abbrev pub usage_of : List Usage → ℕ → Usage
usage_of us n = slice_index_or us n nothing

-- how many segments are free
abbrev pub free_count : List Usage → ℕ
free_count us = count_by (λ u. is_state_free u.state) us

-- how many bytes of objects live in the segments
abbrev pub live_sum : List Usage → ℕ
live_sum us = sum_by (λ u. u.live) us

-- the number of the active segment
abbrev pub active_of : List Usage → Option ℕ
active_of us = position (λ u. is_state_active u.state) us

-- how many bytes of the active segment, of size bytes, are not used
abbrev pub active_room : ℕ → List Usage → ℕ
active_room size us = option_map_or (λ n. size - (usage_of us n).used) (active_of us) 0

-- closed, and three quarters of its size bytes are live at most
abbrev pub is_sparse : ℕ → Usage → Bool
is_sparse size u = is_state_closed u.state && nat_le u.live (3 * size / 4)

-- how many segments are sparse
abbrev pub sparse_count : ℕ → List Usage → ℕ
sparse_count size us = count_by (is_sparse size) us

-- How many bytes may surely still be taken, whatever the sizes of the objects, each of size / 8 at most: one free segment is
-- held in reserve, and up to an eighth of a segment may be lost at its end.
abbrev pub spare_of : ℕ → List Usage → ℕ
spare_of size us = (free_count us - 1) * (7 * size / 8) + (active_room size us - size / 8)

-- closed, and no closed segment of the list has less live
abbrev pub is_sparsest : List Usage → Usage → Bool
is_sparsest us u = is_state_closed u.state && list_all (λ other. not (is_state_closed other.state) || nat_le u.live other.live) us

-- the closed segment with least live, the first of such
abbrev pub sparsest_of : List Usage → Option ℕ
sparsest_of us = position (is_sparsest us) us
