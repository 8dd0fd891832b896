-- The parts of writes that fit a schema fit a table of it.
use Rattle.std.specs.Prelude.{ℕ, All, List, map as list_map, slice_index_or}
use Rattle.std.specs.Ordering.{eq_by_cmp}
use Rattle.std.specs.FinMap as map
use Rattle.rc_position.specs.Position.{bytes_cmp}
use Rattle.rc_schema.specs.SchemaValue.{SchemaValue}
use Rattle.rc_mutation.specs.declared.mutations.Partition.{Partition}
use Rattle.rc_mutation.specs.declared.mutations.Write.{Write}
use Rattle.rc_mutation.specs.Fragments.{IsParts}
use Rattle.rc_mutation.specs.Source.{changes_to}
use Rattle.rc_lines.specs.declared.commands.Command.TheVariants.{Put}
use Rattle.rc_lines.specs.Fits.{CommandFits}
use Rattle.rc_writes.specs.Allowed.{ChangeFits}
use Rattle.rc_writes.specs.laws.FittingChanges.{same_fits}
use Rattle.rc_writes.specs.laws.FittingValues.{Each, each_filter, each_map, each_of_all, each_so}
use Rattle.rc_tfile.specs.TableText.{PartsFit}
use Rattle.rc_machine.specs.laws.FittingKeys.{ascend_as}

-- ---- what a write that fits says

-- a write that fits the schema
abbrev WriteFits : SchemaValue → Write → Type 0
WriteFits schema w = CommandFits schema (Put w)

-- the changes to a key fit
changes_fit : (schema : SchemaValue) (key : List ℕ) (writes : List Write) → All (WriteFits schema) writes → Each (ChangeFits schema) (changes_to key writes)
changes_fit schema key writes h =
    each_map (ChangeFits schema) (λ w. w.change) _
    (each_filter (λ w. ChangeFits schema w.change) (λ w. eq_by_cmp bytes_cmp w.key key) writes (each_so (WriteFits schema) (λ w. ChangeFits schema w.change) writes (each_of_all (WriteFits schema) writes h) (λ w f. f.1)))

-- ---- the parts

-- the parts of writes that fit a schema are partitions that a table of it can hold
pub parts_fit : (schema : SchemaValue) (parts : List Partition) (writes : List Write) → IsParts parts writes → All (λ w. CommandFits schema (Put w)) writes → PartsFit schema parts
parts_fit schema parts writes is h = record {
  ascend = ascend_as bytes_cmp (λ p. p.key) (λ p. p.change) parts (map.from_entries {R = bytes_cmp} (list_map (λ w. (w.key, w.change)) writes)) is.keys;
  each = λ k d lt. (let p = slice_index_or parts k d in same_fits schema p.change (changes_to p.key writes) (is.mutations k d lt) (is.changes k d lt) (changes_fit schema p.key writes h));
}
