use Rattle.std.proofs.Common.{sym, ap, ◌∙◌, subst, arith}
use Rattle.rc_memtable.specs.Partitions.{AreAsBefore}
use Rattle.rc_snapshots.specs.Seeing.{AreSameSnapshots}
use Rattle.rc_snapshots.specs.laws.Seeing.{lost-then}
use Rattle.rc_unstored.specs.calls.Giving.{given_back}
use Rattle.rc_unstored.proofs.Before.{before-of}
use Rattle.rc_unstored.proofs.Keeping.{flipped, on-err, same-keys}
use Rattle.rc_unstored.proofs.Taking.{back-as-before, back-same, key-before, key-then, taken-if, two-chains}
use Rattle.rc_unstored.proofs.unstored.Unstored.snapshot.Goals as goal

pub snapshot_beside-requires-2 : goal.snapshot_beside-requires-2
snapshot_beside-requires-2 g c = let r = c.requires.kept in (omega arith, (r.0, r.2, c.in_ok-sealed.ensures.beside r.3.apart r.0 r.2 r.3.active))

pub returns-in-Ok-clause-sealed : goal.returns-in-Ok-clause-sealed
returns-in-Ok-clause-sealed g c schema writes later h =
    key-then c.args.key.now writes c.args.self.now.chains c.snapshot_beside.new.chains c.snapshot_beside-2.new.chains c.in_ok-sealed.sealed c.a_snapshot_sees_what_it_saw.ensures.sees c.in-Ok.ensures.seen (c.in_ok-sealed.ensures.sees schema writes h.sealed)

pub returns-in-Ok-clause-active : goal.returns-in-Ok-clause-active
returns-in-Ok-clause-active g c schema writes later h =
    key-before c.args.key.now later c.args.self.now.chains c.snapshot_beside.new.chains c.snapshot_beside-2.new.chains c.in-Ok.active c.in_ok-sealed.ensures.seen (c.in-Ok.ensures.sees schema later (c.in_ok-sealed.ensures.beside h.apart schema later h.active))

pub returns-in-Ok-clause-apart : goal.returns-in-Ok-clause-apart
returns-in-Ok-clause-apart g c =
    two-chains c.args.self.now.sealed c.args.self.now.active c.args.key.now c.args.self.now.chains c.snapshot_beside.new.chains c.snapshot_beside.new.chains c.snapshot_beside-2.new.chains c.in_ok-sealed.sealed c.in-Ok.active c.requires.kept.3.apart c.in_ok-sealed.ensures.taken c.in-Ok.ensures.taken

pub returns-in-Ok-clause-stands : goal.returns-in-Ok-clause-stands
returns-in-Ok-clause-stands g c schema writes later h = record {
  sealed = c.in-Ok.ensures.beside (flipped c.args.self.now.sealed c.args.self.now.active h.apart) schema writes (c.in_ok-sealed.ensures.stands schema writes h.sealed);
  active = c.in-Ok.ensures.stands schema later (c.in_ok-sealed.ensures.beside h.apart schema later h.active);
  apart = h.apart;
}

pub returns-in-Ok-clause-seen : goal.returns-in-Ok-clause-seen
returns-in-Ok-clause-seen g c = lost-then c.args.self.now.chains c.snapshot_beside.new.chains c.snapshot_beside-2.new.chains c.in_ok-sealed.ensures.seen c.in-Ok.ensures.seen

pub returns-in-Err-clause-stands : goal.returns-in-Err-clause-stands
returns-in-Err-clause-stands g c schema writes later h = record {
  sealed = c.give_back.ensures.stands schema c.args.self.now.sealed writes (c.in-Err.ensures.beside (flipped c.args.self.now.sealed c.args.self.now.active h.apart) schema writes (c.in_ok-sealed.ensures.stands schema writes h.sealed));
  active = c.give_back.ensures.stands schema c.args.self.now.active later (c.in-Err.ensures.stands schema later (c.in_ok-sealed.ensures.beside h.apart schema later h.active));
  apart = h.apart;
}

pub returns-in-Err-clause-err : goal.returns-in-Err-clause-err
returns-in-Err-clause-err g c =
    subst (AreSameSnapshots c.args.self.now.chains) (sym (c.give_back.ensures.now ∙ ap (given_back c.in_ok-sealed.sealed) c.in-Err.ensures.err))
    (back-same c.args.self.now.chains c.snapshot_beside.new.chains c.args.self.now.sealed c.args.key.now c.in_ok-sealed.sealed c.in_ok-sealed.ensures.taken c.in_ok-sealed.ensures.same)

pub returns-in-Err-clause-seen : goal.returns-in-Err-clause-seen
returns-in-Err-clause-seen g c = (returns-in-Err-clause-err g c).alike

-- what was done to the chains
pub returns-in-Ok-clause-exact : goal.returns-in-Ok-clause-exact
returns-in-Ok-clause-exact g c = (
  c.snapshot_beside.new.chains,
  taken-if c.args.self.now.chains c.snapshot_beside.new.chains c.args.self.now.sealed c.args.key.now c.in_ok-sealed.sealed c.in_ok-sealed.ensures.taken c.in_ok-sealed.ensures.same,
  taken-if c.snapshot_beside.new.chains c.snapshot_beside-2.new.chains c.args.self.now.active c.args.key.now c.in-Ok.active c.in-Ok.ensures.taken c.in-Ok.ensures.same,
)

pub returns-in-Ok-clause-keys : goal.returns-in-Ok-clause-keys
returns-in-Ok-clause-keys g c = same-keys c.args.self.now c.snapshot_beside-2.new.chains

pub returns-in-Err-clause-keys : goal.returns-in-Err-clause-keys
returns-in-Err-clause-keys g c = same-keys c.args.self.now c.give_back.new.chains

pub returns-in-Err-clause-left : goal.returns-in-Err-clause-left
returns-in-Err-clause-left g c =
    subst (AreAsBefore c.args.self.now.chains) (sym (c.give_back.ensures.now ∙ ap (given_back c.in_ok-sealed.sealed) c.in-Err.ensures.err))
    (back-as-before c.args.self.now.chains c.snapshot_beside.new.chains c.args.self.now.sealed c.args.key.now c.in_ok-sealed.sealed c.in_ok-sealed.ensures.taken c.in_ok-sealed.ensures.same)

pub returns-in_err-sealed-clause-keys : goal.returns-in_err-sealed-clause-keys
returns-in_err-sealed-clause-keys g c = same-keys c.args.self.now c.snapshot_beside.new.chains

pub returns-in_err-sealed-clause-left : goal.returns-in_err-sealed-clause-left
returns-in_err-sealed-clause-left g c = on-err c.from_residual.result _ (before-of c.args.self.now.chains c.snapshot_beside.new.chains c.in_err-sealed.ensures.err)
