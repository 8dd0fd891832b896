-- What contracts see of the ends in memory, and what a call makes of it.
use Rattle.std.specs.Prelude.{◌++◌, ℕ, List, drop, Option, Result, Ok, Err, refl}
use Rattle.std.specs.Coded.{Coded, code_by, coded×, coded_ℕ, coded_list, coded_option}
use Rattle.std.specs.FinMap as map
use Rattle.rc_outside.specs.declared.sources.Failed.{Failed as SourceFailed}
use Rattle.rc_outside.specs.declared.sinks.SinkErr.{SinkErr}
use Rattle.rc_outside.specs.declared.sinks.SinkErr.TheVariants.{Failed, NoMemory}
use Rattle.rc_outside.specs.Faults.{raised_count}
use Rattle.rc_outside.specs.Files.{Files, Draft}

-- a source in memory: the bytes that are left, the numbers of the calls that are to fail, how many calls there were
-- so far, and how many of them failed
pub record SourceState : Type 0 where
  pub left : List ℕ
  pub fails : List ℕ
  pub calls : ℕ
  pub faults : ℕ

-- a sink in memory: the bytes that were written, and the same three
pub record SinkState : Type 0 where
  pub written : List ℕ
  pub fails : List ℕ
  pub calls : ℕ
  pub faults : ℕ

-- a store that never fails: its files, the file that is being built, and how many ranges of files were asked for so far
pub record StoreState : Type 0 where
  pub files : Files
  pub building : Option Draft
  pub asks : ℕ

-- a state of a store is stored as the tuple of its fields
abbrev pub store_code : Coded StoreState
store_code =
    code_by (Files × (Option Draft × ℕ)) (coded× (map.code coded_ℕ (coded_list coded_ℕ)) (coded× (coded_option (coded× coded_ℕ (coded_list coded_ℕ))) coded_ℕ))
    (λ s. (s.files, (s.building, s.asks))) (λ p. record { files = p.0; building = p.1.0; asks = p.1.1 }) (λ _. refl)

-- a pull that gives k bytes takes them; one that fails takes nothing and is counted as a fault
abbrev pub after_pull : SourceState → Result ℕ SourceFailed → SourceState
after_pull s (Ok k) = record s { left = drop k s.left; calls = raised_count s.calls }
after_pull s (Err _) = record s { calls = raised_count s.calls; faults = raised_count s.faults }

-- a push writes the piece, or fails, writes nothing and is counted as a fault; at want of memory the sink is as it was
abbrev pub after_push : SinkState → List ℕ → Result (Unit {0}) SinkErr → SinkState
after_push s piece (Ok _) = record s { written = s.written ++ piece; calls = raised_count s.calls }
after_push s _ (Err Failed) = record s { calls = raised_count s.calls; faults = raised_count s.faults }
after_push s _ (Err NoMemory) = s
