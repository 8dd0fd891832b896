use Rattle.std.proofs.Common.{[], subst, ap, ◌∙◌, arith}
use Rattle.lsa_pool.specs.Room.{live_sum}
use Rattle.lsa_region.specs.declared.end.End.TheVariants.{Slot}
use Rattle.lsa_region.specs.Region.{IsEnd}
use Rattle.rc_partition.specs.laws.Roots.{stands-with_empty}
use Rattle.rc_chain_tests.proofs.Opened.{none-stands}
use Rattle.rc_chain_tests.proofs.reading.opened.Goals as goal

pub link-requires : goal.link-requires
link-requires c =
    let f = c.in_ok-front.ensures.added in let b = c.in_ok-back.ensures.added in let front = c.in_ok-front.front in let back = c.in_ok-back.back in
    (omega arith, (b.ends (Slot front) f.here, (b.here, (b.links (Slot front) ∙ f.unset, (b.unset, λ e. b.fresh (subst (IsEnd c.add_root.new.self) e f.here))))))

pub returns-clause-stands : goal.returns-clause-stands
returns-clause-stands c =
    let usages = c.link.ensures.objects.usages ∙ c.in_ok-back.ensures.same.usages ∙ c.in_ok-front.ensures.same.usages in
    stands-with_empty _ c.link.new.self _ [] [] c.in_ok-root.root [] c.in_ok-root.ensures.added c.in_ok-root.ensures.same c.link.ensures.well
    (none-stands (record { front = c.in_ok-front.front; back = c.in_ok-back.back }) c.link.new.self c.link.ensures.tied.first (ap live_sum usages ∙ c.requires.none))
