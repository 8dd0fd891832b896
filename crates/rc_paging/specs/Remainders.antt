-- What is left of a slice behind the lines that were given of it.
--     given_before    how many lines at the front of its answer were given before
--     IsRemainderOf   it is what is left of this slice
--     IsPlacedIn      whether the static line was given is told by what writes say, once a line was given
use Rattle.std.specs.Prelude.{◌≡◌, ◌||◌, Bool, true, false, ℕ, List, is_some}
use Rattle.rc_position.specs.declared.slices.Slice.{Slice}
use Rattle.rc_mutation.specs.declared.mutations.Mutation.{Mutation}
use Rattle.rc_mutation.specs.Source.{source_at_head, static_rows}
use Rattle.rc_query.specs.Answer.{static_line}
pub use Rattle.rc_opened.specs.Behind.{begins_static}
use Rattle.rc_paging.specs.declared.remainders.Remainder.{Remainder}

-- of the answer in a remainder the static line was given before, and the first row line
abbrev pub count_given : Bool → Bool → ℕ
count_given false false = 0
count_given false true = 1
count_given true false = 1
count_given true true = 2

-- how many lines at the front of the answer in a remainder were given before
abbrev pub given_before : Remainder → ℕ
given_before r = count_given r.static_given r.row_given

-- once a line was given, the static line was exactly where writes have one
abbrev pub IsPlacedIn : List Mutation → Remainder → Type 0
IsPlacedIn writes r = (r.static_given || r.row_given) ≡ true → r.static_given ≡ is_some (static_line (source_at_head writes) (static_rows writes))

-- what is left of a slice ends where the slice does, and begins where it does until the line of a row was given
pub record IsRemainderOf (slice : Slice) (r : Remainder) : Type 0 where
  pub to : r.slice.to ≡ slice.to
  pub from : r.row_given ≡ false → r.slice.from ≡ slice.from
