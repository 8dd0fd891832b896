use Rattle.std.proofs.Common.{◌≡◌, ℕ, List, Some, sym, subst}
use Rattle.rc_memory.specs.Memory.{chain_at}
use Rattle.rc_memtable.specs.Writes.{chain_of}
use Rattle.rc_memtable.proofs.Snapshots.{snapshot-sees, snapshot-stands}
use Rattle.rc_memtable.proofs.memtable.Memtable.snapshot.Goals as goal

pub returns-in_ok-snapshot-in-Some-clause-sees : goal.returns-in_ok-snapshot-in-Some-clause-sees
returns-in_ok-snapshot-in-Some-clause-sees g c schema writes h k there =
    let s = c.in_ok-snapshot-in-Some.field-0 in
    let taken = c.in_ok-snapshot-in-Some.ensures.taken in
    snapshot-sees c.args.chains.now c.snapshot.new.self c.in-Some.id s.pin s.phase taken.1 c.known.ensures.sound schema c.args.self.now c.args.key.now
    (subst (λ (cs : List (List ℕ × ℕ)). chain_of cs c.args.key.now ≡ Some c.in-Some.id) c.self.view_is (sym c.in-Some.ensures)) writes h k (subst (λ (i : ℕ). chain_at c.snapshot.new.self i ≡ Some k) taken.0 there)

pub returns-in_ok-snapshot-in-Some-clause-stands : goal.returns-in_ok-snapshot-in-Some-clause-stands
returns-in_ok-snapshot-in-Some-clause-stands g c schema writes h =
    let s = c.in_ok-snapshot-in-Some.field-0 in
    snapshot-stands c.args.chains.now c.snapshot.new.self c.in-Some.id s.pin s.phase c.in_ok-snapshot-in-Some.ensures.taken.1 c.known.ensures.sound schema c.args.self.now writes h
