-- Stores in memory whose calls fail where their maker lists it.
use Rattle.std.specs.Prelude.{ℕ, ◌-◌, ◌==◌, Bool, true, false, ◌&&◌, if◌then◌else◌, List, ◌++◌, [], map, Option, None, Some, Result, Err, is_ok, option_map, refl}
use Rattle.std.specs.List.{list_any}
use Rattle.std.specs.Coded.{Coded, code_by, coded×, coded_ℕ, coded_list}
use Rattle.std.specs.FinMap as finite
use Rattle.rc_outside.specs.declared.stores.StoreErr.{StoreErr}
use Rattle.rc_outside.specs.declared.stores.StoreErr.TheVariants.{Fault}
use Rattle.rc_outside.specs.declared.calls.StoreCall.{StoreCall}
use Rattle.rc_outside.specs.declared.calls.StoreCall.TheVariants.{Numbers, Size, ReadAt, Begin, Append, Finish}
use Rattle.rc_outside.specs.contracts.calls.StoreCall.{the_row}
use Rattle.rc_outside.specs.Faults.{raised_count}
use Rattle.rc_outside.specs.Files.{Files, Draft, unless_refused}
use Rattle.rc_outside.specs.States.{StoreState, store_code}

-- calls that are to fail: of each its kind, and how many calls of that kind are to come until it; 1 is the next one, and
-- 0 is past
abbrev pub Failures : Type 0
Failures = List (StoreCall × ℕ)

-- two kinds of calls are the same
abbrev pub same_call : StoreCall → StoreCall → Bool
same_call Numbers Numbers = true
same_call Size Size = true
same_call ReadAt ReadAt = true
same_call Begin Begin = true
same_call Append Append = true
same_call Finish Finish = true
same_call _ _ = false

-- the next call of this kind is to fail
abbrev pub is_due : StoreCall → Failures → Bool
is_due call fails = list_any (λ f. same_call f.0 call && (f.1 == 1)) fails

-- a listed failure after a call of this kind: it is one call nearer where it is of this kind
abbrev pub one_call_nearer : StoreCall → StoreCall × ℕ → StoreCall × ℕ
one_call_nearer call (kind, nth) = (kind, if same_call kind call then nth - 1 else nth)

-- a store in memory: its files, the file that is being built, how many ranges of files were asked for so far, the calls
-- that are to fail, and how many have failed so far
pub record MemState : Type 0 where
  pub files : Files
  pub building : Option Draft
  pub asks : ℕ
  pub fails : Failures
  pub faults : ℕ

-- a state is stored as that of a store that never fails, beside the other two fields
abbrev pub mem_code : Coded MemState
mem_code =
    code_by (StoreState × (Failures × ℕ)) (coded× store_code (coded× (coded_list (coded× the_row.coded coded_ℕ)) coded_ℕ))
    (λ s. (record { files = s.files; building = s.building; asks = s.asks }, (s.fails, s.faults)))
    (λ p. record { files = p.0.files; building = p.0.building; asks = p.0.asks; fails = p.1.0; faults = p.1.1 }) (λ _. refl)

-- the store after a call of this kind was counted, and failed where it was due
abbrev pub store_after_call : StoreCall → MemState → MemState
store_after_call call s = record s { fails = map (one_call_nearer call) s.fails; faults = if is_due call s.fails then raised_count s.faults else s.faults }

-- the answer is a fault
abbrev pub is_fault : {T : Type 0} → Result T StoreErr → Bool
is_fault (Err Fault) = true
is_fault _ = false

-- the store after `read_at`: a range was asked for
abbrev pub after_read_at : MemState → MemState
after_read_at s = let now = store_after_call ReadAt s in record now { asks = raised_count s.asks }

-- the store after `begin`
abbrev pub after_begin : MemState → ℕ → Result (Unit {0}) StoreErr → MemState
after_begin s n result = let now = store_after_call Begin s in record now { building = unless_refused result (Some (n, [])) }

-- the store after `append`
abbrev pub after_append : MemState → List ℕ → Result (Unit {0}) StoreErr → MemState
after_append s piece result =
    let now = store_after_call Append s in record now { building = unless_refused result (option_map (λ draft. (draft.0, draft.1 ++ piece)) s.building) }

-- the files with a finished one among them
abbrev pub with_finished : Files → Option Draft → Files
with_finished files (Some draft) = finite.insert files draft.0 draft.1
with_finished files None = files

-- the store after `finish`
abbrev pub after_finish : MemState → Result (Unit {0}) StoreErr → MemState
after_finish s result =
    let now = store_after_call Finish s in record now { files = if is_ok result then with_finished s.files s.building else s.files; building = None }
