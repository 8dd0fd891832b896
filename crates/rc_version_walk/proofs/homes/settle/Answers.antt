use Rattle.std.proofs.Common.{[], ◌∷◌, arith, ◌∙◌}
use Rattle.lsa_region.specs.declared.end.End.TheVariants.{Slot}
use Rattle.rc_version_walk.proofs.Pairs.{half-settled, version-end}
use Rattle.rc_version_walk.proofs.homes.settle.Goals as goal

pub link-requires : goal.link-requires
link-requires c =
    let n = c.new_version-v.result in let mid = c.new_version-v.new.region in let k = c.new_version-v.ensures in let m = c.requires.half.0 in let h = c.requires.half.1 in
    (omega arith, (k.kept.roots c.args.this h.slot, (version-end mid n (k.made.0 ∷ [], _, k.made.1) 1 (omega arith), (k.kept.links (Slot c.args.this) tt ∙ h.unset, (k.unlisted n k.fresh 1 (omega arith), (λ e. cc))))))

pub returns : goal.returns
returns c =
    let n = c.new_version-v.result in let mid = c.new_version-v.new.region in let k = c.new_version-v.ensures in let m = c.requires.half.0 in let h = c.requires.half.1 in
    (n, m, half-settled c.args.this c.args._other c.args.region.now mid c.link.new.self n _ k.fresh k.unlisted k.kept (k.made.0 ∷ [], _, k.made.1) c.link.ensures.tied c.link.ensures.objects m h)
