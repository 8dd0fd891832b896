use Rattle.std.proofs.Common.{true, false, refl, ap, ◌∙◌, arith}
use Rattle.rc_cacheread.specs.Did.{reader_state}
use Rattle.rc_snapshots.proofs.Parts.{all-calls}
use Rattle.rc_snapshots.proofs.laws.a_snapshots_stream_changes_nothing.Goals as goal

pub returns-clause-moves : goal.returns-clause-moves
returns-clause-moves g c m w n v d = let u = all-calls _ d.c d.ok (d.s.0, d.s.1, d.s.2, m, w) (d.t.0, d.t.1, d.t.2, n, v) d.calls in (u.2, u.3)

pub returns-clause-did : goal.returns-clause-did
returns-clause-did g c r m w call ok t n v d = let u = all-calls _ call ok (reader_state r m w) (reader_state t n v) d.calls in (u.2, u.3, λ s of. record { snap = u.0 ∙ of.snap; filler = u.1 ∙ of.filler })

pub returns-clause-spends : goal.returns-clause-spends
returns-clause-spends g c asks = record {
  answered = λ r m w call t n v d. (let u = all-calls _ call true (reader_state r m w) (reader_state t n v) d.calls in omega (arith, ap asks u.3));
  refused = λ r m w call t n v d. (let u = all-calls _ call false (reader_state r m w) (reader_state t n v) d.calls in omega (arith, ap asks u.3));
}

pub returns-clause-quiet : goal.returns-clause-quiet
returns-clause-quiet g c asks = record {
  quiet = λ r m w call ok t n v _ d. (let u = all-calls _ call ok (reader_state r m w) (reader_state t n v) d.calls in (ap asks u.3, refl));
  head = λ r m w t n v d. refl;
}
