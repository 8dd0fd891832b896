use Rattle.std.proofs.Common.{inl, sym, subst}
use Rattle.rc_core.specs.Chains.{phase_at, upto}
use Rattle.rc_core.specs.declared.entries.ChainKind.{ChainKind}
use Rattle.rc_cursor.specs.Snapshots.{AreReadable}
use Rattle.rc_cursor.proofs.Readable.{continuous-readable}
use Rattle.rc_cursor.proofs.laws.a_snapshot_can_be_read.Goals as goal

pub returns : goal.returns
returns c = record {
  cache = λ below p d j kind ch on pinned. subst (λ (q : ChainKind). AreReadable q (upto d.versions j)) (sym kind)
      (continuous-readable (below (phase_at d.versions j)) (upto d.versions j) (c.what_a_snapshot_knows_is_the_source.ensures.continuous below p d j ch on pinned));
  memtable = λ writes p d j kind form stands pinned. subst (λ (q : ChainKind). AreReadable q (upto d.versions j)) (sym kind)
      (record { even = form.even j (inl pinned); keys = λ x known some. c.a_memtable_is_known_everywhere.ensures.row writes (upto d.versions j) x stands some });
}
