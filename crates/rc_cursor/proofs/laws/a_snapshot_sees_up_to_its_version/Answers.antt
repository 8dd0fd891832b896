use Rattle.std.proofs.Common.{ap, ◌∙◌}
use Rattle.rc_chain.specs.Memory.{chain_at}
use Rattle.rc_cursor.specs.Snapshots.{kind_in, versions_in, versions_upto}
use Rattle.rc_cursor.proofs.Readable.{found}
use Rattle.rc_cursor.proofs.laws.a_snapshot_sees_up_to_its_version.Goals as goal

pub returns : goal.returns
returns c = record {
  there = λ m s h. found (chain_at m s.chain) s.pin h;
  versions = λ m s k j e pinned. ap (λ o. versions_in o s.pin) e ∙ ap (versions_upto k.chain.versions) pinned;
  kind = λ m s k e. ap kind_in e;
}
