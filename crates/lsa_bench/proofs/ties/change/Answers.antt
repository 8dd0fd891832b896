use Rattle.std.proofs.Common.{◌≡◌, inl, inr, sym, ap, ◌∙◌}
use Rattle.lsa_region.specs.declared.end.End.{End}
use Rattle.lsa_region.specs.Region.{link_of}
use Rattle.lsa_region.specs.laws.Ends.{ends_decided}
use Rattle.lsa_bench.proofs.ties.change.Goals as goal

pub returns-clause-links : goal.returns-clause-links
returns-clause-links c = λ e.
    let old = link_of c.args.region.now in let new = link_of c.unlink.new.self in let a = c.args.a in let b = c.args.b in let t = c.link.ensures.tied in let p = c.unlink.ensures.parted in
    let named = sym c.unlink.ensures.mate ∙ t.first in let mate : c.unlink.result ≡ b = cc in
    elim (ends_decided e a) [
      | inl same ↦ ap new same ∙ p.first ∙ sym (ap old same ∙ c.requires.first_unset)
      | inr no_a ↦ elim (ends_decided e b) [
        | inl same ↦ ap new same ∙ ap new (sym mate) ∙ p.second ∙ sym (ap old same ∙ c.requires.second_unset)
        | inr no_b ↦ p.others e no_a (λ is. no_b (is ∙ mate)) ∙ t.others e no_a no_b
      ]
    ]
