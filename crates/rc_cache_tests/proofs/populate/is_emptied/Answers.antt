use Rattle.std.proofs.Common.{◌≡◌, [], None, refl, sym, subst, arith}
use Rattle.rc_position.specs.declared.positions.Pos.{Pos}
use Rattle.rc_position.specs.declared.positions.Weight.TheVariants.{After, Before}
use Rattle.rc_position.specs.Position.{IsBefore, pos_cmp}
use Rattle.rc_core.specs.declared.entries.ChainKind.TheVariants.{Cache}
use Rattle.rc_chain.specs.Lives.{chain_of_new}
use Rattle.rc_cache_tests.proofs.Snaps.{found-is, made-at, taken-there}
use Rattle.rc_cache_tests.proofs.populate.is_emptied.Goals as goal

pub snapshot-requires : goal.snapshot-requires
snapshot-requires c = (omega arith, found-is c.new_chain.new.self c.in_ok-id.id (chain_of_new Cache None 7) (made-at _ c.new_chain.new.self c.in_ok-id.id 7 None _ c.in_ok-id.ensures.made) refl)

pub fill_between-requires-clause-pin : goal.fill_between-requires-clause-pin
fill_between-requires-clause-pin c = let t = c.in_ok-snap.ensures.taken in
    taken-there c.new_chain.new.self c.snapshot.new.self c.in_ok-id.id c.in_ok-snap.snap.chain c.in_ok-snap.snap.pin c.in_ok-snap.snap.phase (chain_of_new Cache None 7) (made-at _ c.new_chain.new.self c.in_ok-id.id 7 None _ c.in_ok-id.ensures.made) t.0 t.1

-- the beginning of a partition is before its end
begins-first : IsBefore (record { prefix = []; weight = Before }) (record { prefix = []; weight = After })
unfolding pos_cmp
begins-first = refl

ends-ascend : (from to : Pos) → from ≡ record { prefix = []; weight = Before } → to ≡ record { prefix = []; weight = After } → IsBefore from to
ends-ascend from to begins ends = subst (λ (x : Pos). IsBefore x to) (sym begins) (subst (λ (y : Pos). IsBefore (record { prefix = []; weight = Before }) y) (sym ends) begins-first)

pub fill_between-requires-clause-ascend : goal.fill_between-requires-clause-ascend
fill_between-requires-clause-ascend c = ends-ascend c.bare-from.result c.bare-to.result c.bare-from.ensures c.bare-to.ensures

pub is_gap_first-seen-requires-clause-ascend : goal.is_gap_first-seen-requires-clause-ascend
is_gap_first-seen-requires-clause-ascend c = ends-ascend c.bare-from.result c.bare-to.result c.bare-from.ensures c.bare-to.ensures
