use Rattle.std.proofs.Common.{inl, inr, refl, sym, ◌∙◌, arith}
use Rattle.rc_evict.proofs.Places.{held-body, held-dummy, held-entry, held-row, held-static}
use Rattle.rc_evict.proofs.evicting.sort_of.Goals as goal

pub kind-requires : goal.kind-requires
kind-requires g c = (omega arith, held-body c.args.chains.now c.args.r c.requires.0 c.region-region.result.now c.region-region.ensures (c.known.ensures.held c.args.r c.requires.0 c.requires.1))

pub position_code-requires : goal.position_code-requires
position_code-requires g c =
    (omega arith, held-entry c.args.chains.now c.args.r c.requires.0 c.region-region.result.now c.region-region.ensures (c.known.ensures.held c.args.r c.requires.0 c.requires.1) c.known.ensures.versions _ c.in-Dummy.ensures refl)

pub returns-in-RowEntry : goal.returns-in-RowEntry
returns-in-RowEntry g c =
    λ w here. held-row c.args.chains.now c.args.r w c.region-region.result.now c.region-region.ensures (c.known.ensures.held c.args.r w here) c.known.ensures.versions _ c.in-RowEntry.ensures refl

pub returns-in-Static : goal.returns-in-Static
returns-in-Static g c =
    λ w here. held-static c.args.chains.now c.args.r w c.region-region.result.now c.region-region.ensures (c.known.ensures.held c.args.r w here) c.known.ensures.versions c.kind.result c.kind.ensures
    (λ e. elim c.in-Static.is [ inl a ↦ cc (sym a ∙ e) | inr a ↦ cc (sym a ∙ e) ])
    (λ e. elim c.in-Static.is [ inl a ↦ cc (sym a ∙ e) | inr a ↦ cc (sym a ∙ e) ])

pub returns-in-Dummy : goal.returns-in-Dummy
returns-in-Dummy g c =
    λ w here. held-dummy c.args.chains.now c.args.r w c.region-region.result.now c.region-region.ensures (c.known.ensures.held c.args.r w here) c.known.ensures.versions _ c.in-Dummy.ensures refl
    c.position_code.result.now c.position_code.ensures c.dummy_sort.result c.dummy_sort.ensures.end c.dummy_sort.ensures.inner c.dummy_sort.ensures.only
