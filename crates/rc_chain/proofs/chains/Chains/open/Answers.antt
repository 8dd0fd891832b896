use Rattle.std.proofs.Common.{refl, sym, ap, ◌∙◌, subst, arith}
use Rattle.lsa_pool.specs.Room.{free_count, live_sum, spare_of}
use Rattle.lsa_region.specs.declared.end.End.TheVariants.{Slot}
use Rattle.lsa_region.specs.Region.{IsEnd, live_bytes}
use Rattle.std.proofs.Common.{◌+◌, length}
use Rattle.rc_memory.specs.Memory.{IsEmpty, Memory}
use Rattle.rc_memory.specs.laws.One.{kept-is}
use Rattle.rc_rowcode.specs.Space.{Space}
use Rattle.rc_chain.proofs.Opening.{opened, opened-memory, two-roots}
use Rattle.rc_chain.proofs.chains.Chains.open.Goals as goal

pub link-requires : goal.link-requires
link-requires g c =
    let f = c.in_ok-front.ensures.added in let b = c.in_ok-back.ensures.added in let front = c.in_ok-front.front in let back = c.in_ok-back.back in
    (omega arith, (b.ends (Slot front) f.here, (b.here, (b.links (Slot front) ∙ f.unset, (b.unset, λ e. b.fresh (subst (IsEnd c.add_root.new.self) e f.here))))))

pub invariant_of-result : goal.invariant_of-result
invariant_of-result g c =
    let usages = c.link.ensures.objects.usages ∙ c.in_ok-back.ensures.same.usages ∙ c.in_ok-front.ensures.same.usages in
    ((opened c.link.new.self, ∣ opened-memory g.row.S _ c.link.new.self c.new-3.result c.link.ensures.well c.link.ensures.tied.first (ap live_sum usages ∙ c.in_ok-region.ensures.live) (two-roots c.in_ok-region.region c.add_root.new.self c.add_root-2.new.self c.link.new.self c.in_ok-region.ensures.roots c.in_ok-front.ensures.added.there c.in_ok-back.ensures.added.there c.link.ensures.objects.slots) c.new-3.ensures ∣₁), tt)

pub invariant_of-result-2 : goal.invariant_of-result-2
invariant_of-result-2 g c =
    let usages = c.link.ensures.objects.usages ∙ c.in_ok-back.ensures.same.usages ∙ c.in_ok-front.ensures.same.usages in
    (opened c.link.new.self, opened-memory g.row.S _ c.link.new.self c.new-3.result c.link.ensures.well c.link.ensures.tied.first (ap live_sum usages ∙ c.in_ok-region.ensures.live) (two-roots c.in_ok-region.region c.add_root.new.self c.add_root-2.new.self c.link.new.self c.in_ok-region.ensures.roots c.in_ok-front.ensures.added.there c.in_ok-back.ensures.added.there c.link.ensures.objects.slots) c.new-3.ensures, ap (λ (x : Space). x.size) c.in_ok-scratch.ensures, ap (λ (x : Space). x.size) c.in_ok-other.ensures, c.requires.small)

pub returns-clause-empty : goal.returns-clause-empty
returns-clause-empty g c =
    let usages = c.link.ensures.objects.usages ∙ c.in_ok-back.ensures.same.usages ∙ c.in_ok-front.ensures.same.usages in
    let is = kept-is g.row.S _ c.link.new.self c.new-3.result _ c.result-1.given.0 (opened c.link.new.self) (opened-memory g.row.S _ c.link.new.self c.new-3.result c.link.ensures.well c.link.ensures.tied.first (ap live_sum usages ∙ c.in_ok-region.ensures.live) (two-roots c.in_ok-region.region c.add_root.new.self c.add_root-2.new.self c.link.new.self c.in_ok-region.ensures.roots c.in_ok-front.ensures.added.there c.in_ok-back.ensures.added.there c.link.ensures.objects.slots) c.new-3.ensures).held in
    subst IsEmpty (sym is) (record { chains = refl; recency = refl; dropped = refl; evicted = refl; skipped = refl; shrunk = refl })

pub returns-clause-spare : goal.returns-clause-spare
returns-clause-spare g c =
    let usages = c.link.ensures.objects.usages ∙ c.in_ok-back.ensures.same.usages ∙ c.in_ok-front.ensures.same.usages in
    let is = kept-is g.row.S _ c.link.new.self c.new-3.result _ c.result-1.given.0 (opened c.link.new.self) (opened-memory g.row.S _ c.link.new.self c.new-3.result c.link.ensures.well c.link.ensures.tied.first (ap live_sum usages ∙ c.in_ok-region.ensures.live) (two-roots c.in_ok-region.region c.add_root.new.self c.add_root-2.new.self c.link.new.self c.in_ok-region.ensures.roots c.in_ok-front.ensures.added.there c.in_ok-back.ensures.added.there c.link.ensures.objects.slots) c.new-3.ensures).held in
    ap (λ (m : Memory). spare_of g.row.S m.region.usages) is ∙ ap (spare_of g.row.S) usages ∙ c.in_ok-region.ensures.spare

pub returns-clause-free : goal.returns-clause-free
returns-clause-free g c =
    let usages = c.link.ensures.objects.usages ∙ c.in_ok-back.ensures.same.usages ∙ c.in_ok-front.ensures.same.usages in
    let is = kept-is g.row.S _ c.link.new.self c.new-3.result _ c.result-1.given.0 (opened c.link.new.self) (opened-memory g.row.S _ c.link.new.self c.new-3.result c.link.ensures.well c.link.ensures.tied.first (ap live_sum usages ∙ c.in_ok-region.ensures.live) (two-roots c.in_ok-region.region c.add_root.new.self c.add_root-2.new.self c.link.new.self c.in_ok-region.ensures.roots c.in_ok-front.ensures.added.there c.in_ok-back.ensures.added.there c.link.ensures.objects.slots) c.new-3.ensures).held in
    ap (λ (m : Memory). free_count m.region.usages + 1) is ∙ ap (λ us. free_count us + 1) usages ∙ c.in_ok-region.ensures.free

pub returns-clause-budget : goal.returns-clause-budget
returns-clause-budget g c =
    let usages = c.link.ensures.objects.usages ∙ c.in_ok-back.ensures.same.usages ∙ c.in_ok-front.ensures.same.usages in
    let is = kept-is g.row.S _ c.link.new.self c.new-3.result _ c.result-1.given.0 (opened c.link.new.self) (opened-memory g.row.S _ c.link.new.self c.new-3.result c.link.ensures.well c.link.ensures.tied.first (ap live_sum usages ∙ c.in_ok-region.ensures.live) (two-roots c.in_ok-region.region c.add_root.new.self c.add_root-2.new.self c.link.new.self c.in_ok-region.ensures.roots c.in_ok-front.ensures.added.there c.in_ok-back.ensures.added.there c.link.ensures.objects.slots) c.new-3.ensures).held in
    ap (λ (m : Memory). length m.region.usages) is ∙ ap (λ us. length us) usages ∙ c.in_ok-region.ensures.budget

pub returns-clause-live : goal.returns-clause-live
returns-clause-live g c =
    let usages = c.link.ensures.objects.usages ∙ c.in_ok-back.ensures.same.usages ∙ c.in_ok-front.ensures.same.usages in
    let is = kept-is g.row.S _ c.link.new.self c.new-3.result _ c.result-1.given.0 (opened c.link.new.self) (opened-memory g.row.S _ c.link.new.self c.new-3.result c.link.ensures.well c.link.ensures.tied.first (ap live_sum usages ∙ c.in_ok-region.ensures.live) (two-roots c.in_ok-region.region c.add_root.new.self c.add_root-2.new.self c.link.new.self c.in_ok-region.ensures.roots c.in_ok-front.ensures.added.there c.in_ok-back.ensures.added.there c.link.ensures.objects.slots) c.new-3.ensures).held in
    ap (λ (m : Memory). live_bytes m.region) is ∙ ap live_sum usages ∙ c.in_ok-region.ensures.live

pub returns-clause-numbers : goal.returns-clause-numbers
returns-clause-numbers g c =
    let usages = c.link.ensures.objects.usages ∙ c.in_ok-back.ensures.same.usages ∙ c.in_ok-front.ensures.same.usages in
    let is = kept-is g.row.S _ c.link.new.self c.new-3.result _ c.result-1.given.0 (opened c.link.new.self) (opened-memory g.row.S _ c.link.new.self c.new-3.result c.link.ensures.well c.link.ensures.tied.first (ap live_sum usages ∙ c.in_ok-region.ensures.live) (two-roots c.in_ok-region.region c.add_root.new.self c.add_root-2.new.self c.link.new.self c.in_ok-region.ensures.roots c.in_ok-front.ensures.added.there c.in_ok-back.ensures.added.there c.link.ensures.objects.slots) c.new-3.ensures).held in
    let counts = c.in_ok-region.ensures.counts in let l = c.link.ensures.objects in let b = c.in_ok-back.ensures.same in let f = c.in_ok-front.ensures.same in (
      ap (λ (m : Memory). m.region.epoch) is ∙ l.epoch ∙ b.epoch ∙ f.epoch ∙ counts.0,
      ap (λ (m : Memory). m.region.moved) is ∙ l.moved ∙ b.moved ∙ f.moved ∙ counts.1,
      ap (λ (m : Memory). m.region.compacted) is ∙ l.compacted ∙ b.compacted ∙ f.compacted ∙ counts.2,
    )
