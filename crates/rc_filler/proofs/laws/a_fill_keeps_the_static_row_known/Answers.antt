use Rattle.std.proofs.Common.{sym, subst, arith}
use Rattle.rc_cell.specs.declared.rows.Row.{Row}
use Rattle.rc_populate.specs.Filling.{MayFill}
use Rattle.rc_filler.specs.Fillers.{FillerKnowsStatics}
use Rattle.rc_filler.proofs.Still.{HeadLaws, done-may, done-static}
use Rattle.rc_filler.proofs.laws.a_fill_keeps_the_static_row_known.Goals as goal

pub returns : goal.returns
returns c =
    let laws : HeadLaws = record {
      here = c.a_fill_changes_the_newest_version_alone.ensures.here;
      none = c.evictions_spare_memtables_and_readers.ensures.none;
      room = c.room_leaves_a_snapshot.ensures.may;
      gap = λ d j from to tomb may. (c.a_filled_gap_keeps_what_is_said.ensures.head d j from to tomb may).1;
      row = λ d j x row tomb may. (c.a_filled_row_keeps_what_is_said.ensures.head d j x row tomb may).1;
      statics = c.a_filled_static_row_keeps_what_is_said.ensures.known;
    } in record {
      may = λ S f g m n did may. subst (λ h. MayFill n h.chain h.pin) (sym did.same) (done-may laws S f.chain f.pin m n did.done may);
      known = λ S f g m n did evicted skipped lost row known.
          subst (λ h. (now : Row) × FillerKnowsStatics n h now) (sym did.same) (done-static laws S f m n (record { evicted = omega (arith, evicted); skipped = omega (arith, skipped) }) did.done lost row known);
    }
