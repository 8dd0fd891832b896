use Rattle.std.proofs.Common.{refl, ap}
use Rattle.rc_position.specs.Position.{Head}
use Rattle.rc_memory.specs.Memory.{Memory, on_chain, snapshot_number, with_chains, with_snapshot, without_snapshot}
use Rattle.rc_entries.proofs.Continuous.{beside-continuous, changed-continuous, detached-continuous, dropped-continuous, filled-continuous, forgotten-continuous, moved-continuous, opened-continuous, several-continuous}
use Rattle.rc_entries.proofs.laws.what_entries_know_stays_what_lies_below.Goals as goal

pub returns : goal.returns
returns c = record {
  opened = λ below entries key id pt statics phase old new a absent o head row h.
      opened-continuous below entries key id pt statics phase old new a absent o (c.an_opened_chain_says_what_is_handed_in.ensures.chain (below key) Head pt statics phase head row) h;
  detached = detached-continuous;
  forgotten = forgotten-continuous;
  moved = moved-continuous;
  changed = changed-continuous;
  pinned = λ below entries id pin phase old new sound taken h. changed-continuous below entries id (λ k. with_snapshot (snapshot_number k.chain) k) old new (ap (λ (m : Memory). m.chains) taken.now)
      (λ key k e there knows settled. c.one_more_snapshot_keeps_what_is_said.ensures.chain (below key) Head k (sound k there).0 (sound k there).1 (knows settled)) h;
  released = λ below entries id pin m h. changed-continuous below entries id (without_snapshot pin) m (with_chains (on_chain id (without_snapshot pin) m.chains) m) refl
      (λ key k e there knows settled. c.one_snapshot_less_keeps_what_is_said.ensures.chain (below key) Head pin k (knows settled)) h;
  filled = filled-continuous;
  dropped = dropped-continuous;
  several = several-continuous;
  beside = beside-continuous;
}
