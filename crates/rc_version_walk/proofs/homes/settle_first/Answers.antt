use Rattle.std.proofs.Common.{[], ◌∷◌, arith, ◌∙◌}
use Rattle.lsa_region.specs.declared.end.End.TheVariants.{Slot}
use Rattle.rc_version_walk.proofs.Pairs.{first-settled, version-end}
use Rattle.rc_version_walk.proofs.homes.settle_first.Goals as goal

pub link-requires : goal.link-requires
link-requires c =
    let n = c.new_version-v.result in let mid = c.new_version-v.new.region in let k = c.new_version-v.ensures in
    (omega arith, (k.kept.roots c.args.other c.requires.other_there, (version-end mid n (k.made.0 ∷ [], _, k.made.1) 1 (omega arith), (k.kept.links (Slot c.args.other) tt ∙ c.requires.unset (Slot c.args.other), (k.unlisted n k.fresh 1 (omega arith), (λ e. cc))))))

pub returns-clause-half : goal.returns-clause-half
returns-clause-half c =
    let n = c.new_version-v.result in let mid = c.new_version-v.new.region in let k = c.new_version-v.ensures in
    (n, first-settled c.args.this c.args.other c.args.region.now mid c.link.new.self n _ k.fresh k.unlisted k.kept (k.made.0 ∷ [], _, k.made.1) c.requires.differ c.requires.there c.requires.unset c.link.ensures.tied c.link.ensures.objects)
