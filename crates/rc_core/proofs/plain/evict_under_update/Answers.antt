use Rattle.std.specs.Prelude.{◌≡◌, false, true}
use Rattle.std.proofs.Common.{arith, sym, ap, ◌∙◌, ⊎_elim}
use Rattle.rc_core.specs.declared.entries.Entry.{Entry}
use Rattle.rc_core.specs.Continuity.{with_entries}
use Rattle.rc_core.specs.Slow.{plain}
use Rattle.rc_core.proofs.Dropping.{evicted_kept, next_in}
use Rattle.rc_core.proofs.plain.evict_under_update.Goals as goal

pub returns-clause-place : goal.returns-clause-place
returns-clause-place c =
    evicted_kept c.args.place.now (plain c.args.version.now) c.drop_entry.new.entries.items c.args.index c.index.result.now
    (next_in c.args.index _ c.requires (λ e. c.if-index-len.false (omega (arith, e, c.len.ensures, c.args.version.now.entries.ok.0))))
    c.index.ensures
    (λ d. let u : true ≡ false = sym (c.eq.ensures.same.1 d) ∙ c.if-eq.false in cc)
    (λ a. c.drop_entry.ensures.dropped a c.index.result.now)

pub returns-clause-only : goal.returns-clause-only
returns-clause-only c = (
  λ u. let t : true ≡ false = u in absurd (cc),
  λ s. absurd (⊎_elim
      (λ e. c.if-index-len.false (omega (arith, e, c.len.ensures, c.args.version.now.entries.ok.0)))
      (λ h. let d = ap (λ (e : Entry). e.position) c.index.ensures ∙ h c.index.result.now in let t : true ≡ false = sym (c.eq.ensures.same.1 d) ∙ c.if-eq.false in cc)
      s),
)

pub returns-clause-goes : goal.returns-clause-goes
returns-clause-goes c = λ t a r. ap (λ es. with_entries es (plain c.args.version.now)) (c.drop_entry.ensures.dropped a r)
