use Rattle.std.proofs.Common.{[], ◌∷◌, Some, refl, arith}
use Rattle.rc_core.specs.declared.entries.Flag.TheVariants.{Known}
use Rattle.rc_core.specs.Steps.{version_of}
use Rattle.rc_partition.specs.Partitions.{standing}
use Rattle.rc_chain_tests.proofs.reading.is_seen.Goals as goal

pub add_version-requires : goal.add_version-requires
add_version-requires c = (omega arith, ((c.args._recency, [], [], [], [], c.requires.stands), (omega arith, c.requires.spare)))

pub is_head-requires : goal.is_head-requires
is_head-requires c = let k = c.add_version.ensures.added c.args._recency [] [] [] [] c.requires.stands in let s = standing c.add_version.result (k.0 ∷ []) (version_of Known (Some c.args.tomb) 7) in
    (s ∷ [], record { slots = c.args._recency; front = []; older = []; last = s; newer = []; back = []; listed = []; stands = k.1; below = refl; are = refl })

pub is_bare-requires : goal.is_bare-requires
is_bare-requires c = let k = c.add_version.ensures.added c.args._recency [] [] [] [] c.requires.stands in let s = standing c.add_version.result (k.0 ∷ []) (version_of Known (Some c.args.tomb) 7) in
    (s ∷ [], record { slots = c.args._recency; front = []; older = []; last = s; newer = []; back = []; listed = []; stands = k.1; below = refl; are = refl })
