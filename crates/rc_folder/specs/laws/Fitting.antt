-- The writes that stand in no table fit the schema, and so the parts of the first of them fit a table of it.
use Rattle.std.proofs.Common.{◌≡◌, List, ◌++◌, length, Option, All, sym, subst}
use Rattle.std.proofs.Math.Seq.{take-append_seam}
use Rattle.std.proofs.lemmas.List.Elements.{All-drop, All-take}
use Rattle.rc_outside.specs.Files.{Files}
use Rattle.rc_schema.specs.SchemaValue.{SchemaValue}
use Rattle.rc_mutation.specs.declared.mutations.Partition.{Partition}
use Rattle.rc_mutation.specs.declared.mutations.Write.{Write}
use Rattle.rc_mutation.specs.Fragments.{IsParts}
use Rattle.rc_tfile.specs.declared.info.TableInfo.{TableInfo}
use Rattle.rc_tfile.specs.TableText.{PartsFit}
use Rattle.rc_lines.specs.Fits.{CommandFits}
use Rattle.rc_lines.specs.declared.commands.Command.TheVariants.{Put}
use Rattle.rc_machine.specs.State.{State, unstored_writes}
use Rattle.rc_machine.specs.Standing.{IsOver}
use Rattle.rc_machine.specs.laws.FittingParts.{parts_fit}

-- the first of the writes that stand in no table
first_fit : (schema : SchemaValue) (first later : List Write) → All (λ w. CommandFits schema (Put w)) (first ++ later) → All (λ w. CommandFits schema (Put w)) first
first_fit schema first later all =
    subst (All (λ w. CommandFits schema (Put w))) (take-append_seam first later) (All-take (λ w. CommandFits schema (Put w)) (length first) (first ++ later) all)

pub writes_fit : (told : Option Files) (schema : SchemaValue) (infos : List TableInfo) (m : State) (sealed later : List Write) → IsOver told schema infos m → sealed ++ later ≡ unstored_writes m → All (λ w. CommandFits schema (Put w)) sealed
writes_fit told schema infos m sealed later over log =
    subst (λ schema. All (λ w. CommandFits schema (Put w)) sealed) over.schema
    (first_fit m.schema sealed later (subst (All (λ w. CommandFits m.schema (Put w))) (sym log) (All-drop (λ w. CommandFits m.schema (Put w)) m.stored m.log over.fit)))

pub sealed_parts_fit : (told : Option Files) (schema : SchemaValue) (infos : List TableInfo) (m : State) (sealed later : List Write) (parts : List Partition) → IsOver told schema infos m → sealed ++ later ≡ unstored_writes m → IsParts parts sealed
    → PartsFit schema parts
sealed_parts_fit told schema infos m sealed later parts over log are = parts_fit schema parts sealed are (writes_fit told schema infos m sealed later over log)
