use Rattle.std.proofs.Common.{◌∙◌, arith}
use Rattle.lsa_region.specs.declared.end.End.TheVariants.{Obj, Slot}
use Rattle.lsa_tree_tests.proofs.rooms.begin.Goals as goal

pub returns-clause-stands : goal.returns-clause-stands
returns-clause-stands c = λ top.
    let t = c.link.ensures.tied in record {
      chained = t.others (Slot c.args._chain) (λ e. c.requires.front (cc)) (λ e. c.requires.back (cc)) ∙ c.requires.unset (Slot c.args._chain);
      kinds = λ r h. absurd (omega (arith, h.1));
      ordered = t.others (Obj top 2) (λ e. cc) (λ e. cc) ∙ c.requires.unset (Obj top 2);
      dummies = λ r h. absurd (omega (arith, h.1));
      list = record { path = t.first; recent = tt };
      front = c.requires.front;
      back = c.requires.back;
    }

pub returns-clause-chain : goal.returns-clause-chain
returns-clause-chain c = λ h. c.link.ensures.objects.ends (Slot c.args._chain) h

pub link-requires : goal.link-requires
link-requires c = let u = c.requires.unset in
    (omega arith, (c.requires.first, (c.requires.second, (u (Slot c.args.list.front), (u (Slot c.args.list.back), (λ e. c.requires.differ (cc)))))))
