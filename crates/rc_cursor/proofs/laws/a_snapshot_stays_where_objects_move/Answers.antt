use Rattle.std.proofs.Common.{List, Option, None, IsSome, sym, ap, subst}
use Rattle.std.specs.Prelude.{IsSomeAnd, slice_index_or}
use Rattle.rc_core.specs.Steps.{pin_at}
use Rattle.rc_chain.specs.Memory.{KeptChain}
use Rattle.rc_cursor.specs.Snapshots.{kind_in, versions_in}
use Rattle.rc_cursor.proofs.laws.a_snapshot_stays_where_objects_move.Goals as goal

pub returns : goal.returns
returns c = record {
  pin = λ m n s u h. subst (λ (ks : List (Option KeptChain)). IsSomeAnd (slice_index_or ks s.chain None) (λ k. IsSome (pin_at k.chain.pins s.pin))) (sym u.chains) h;
  versions = λ m n s u. ap (λ (ks : List (Option KeptChain)). versions_in (slice_index_or ks s.chain None) s.pin) u.chains;
  kind = λ m n s u. ap (λ (ks : List (Option KeptChain)). kind_in (slice_index_or ks s.chain None)) u.chains;
}
