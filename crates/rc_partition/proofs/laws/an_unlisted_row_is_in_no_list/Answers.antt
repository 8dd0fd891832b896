use Rattle.std.proofs.Common.{◌≡◌, Some, None, sym, ◌∙◌, arith}
use Rattle.lsa_region.specs.declared.end.End.TheVariants.{Obj, Slot}
use Rattle.lsa_region.specs.Region.{link_of}
use Rattle.lsa_path.specs.laws.Passing.{path-entered}
use Rattle.rc_partition.proofs.laws.an_unlisted_row_is_in_no_list.Goals as goal

pub returns-clause-unlisted : goal.returns-clause-unlisted
returns-clause-unlisted c = λ slots v partitions listed r h w off. h.unlisted r w off

pub returns-clause-listed : goal.returns-clause-listed
returns-clause-listed c = λ slots v partitions listed r well h unset on.
    let a = path-entered 0 1 (link_of v) (Slot slots.front) listed (Some (Slot slots.back)) h.list.path r on in let clash : None ≡ Some a.0 = sym (unset 0 (omega arith)) ∙ well.paired.mates a.0 (Obj r 0) a.1 in cc
