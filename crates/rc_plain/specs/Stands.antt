-- What the plain program keeps, and for which state of the machine it stands.
use Rattle.std.specs.Prelude.{◌≡◌, ℕ, ◌+◌, ◌-◌, false, List, ◌++◌, length, map as list_map, Option}
use Rattle.rc_outside.specs.Files.{Files}
use Rattle.rc_schema.specs.SchemaValue.{SchemaValue}
use Rattle.rc_mutation.specs.declared.mutations.Write.{Write}
use Rattle.rc_query.specs.declared.lines.OutLine.{OutLine}
use Rattle.rc_tfile.specs.declared.info.TableInfo.{TableInfo}
use Rattle.rc_lines.specs.declared.commands.Figures.{Figures}
use Rattle.rc_folder.specs.declared.counts.Answered.{Answered}
use Rattle.rc_machine.specs.State.{State, Reader, rest_of, unstored_writes}
use Rattle.rc_machine.specs.Standing.{IsOver}

-- the schema; what is known of each table; the writes that stand in no table: those that are sealed, and the later ones; of each open reader the
-- lines that it has not given yet; the budget, in segments, of which none is taken; the counts of answers; and how often the store had been asked
-- when the program was opened
pub record Keeping : Type 0 where
  pub schema : SchemaValue
  pub infos : List TableInfo
  pub sealed : List Write
  pub active : List Write
  pub readers : List (ℕ × List OutLine)
  pub segments : ℕ
  pub answered : Answered
  pub asked : ℕ

-- what open readers have not given yet
abbrev pub rests : List (ℕ × Reader) → List (ℕ × List OutLine)
rests readers = list_map (λ r. (r.0, rest_of r.1)) readers

-- over a store with these files the program stands for the state: a flush is whole, so nothing that is written is left to the cache
pub record PlainStands (told : Option Files) (k : Keeping) (m : State) : Type 0 where
  pub over : IsOver told k.schema k.infos m
  pub log : k.sealed ++ k.active ≡ unstored_writes m
  pub sealed : m.sealed ≡ m.stored + length k.sealed
  pub whole : m.written ≡ false
  pub left : m.left ≡ 0
  pub readers : rests m.readers ≡ k.readers
  pub budget : m.segments ≡ k.segments

-- what it tells of itself, where the store was asked so often: it has no segment and no object, and no cache
abbrev pub plain_figures : Keeping → ℕ → Figures
plain_figures k asks = record {
  segments = 0;
  free = k.segments;
  objects = 0;
  live = 0;
  partitions = 0;
  rows = 0;
  dummies = 0;
  hits = k.answered.hits;
  misses = k.answered.misses;
  evicted = 0;
  moved = 0;
  skipped = 0;
  asks = asks - k.asked;
}
