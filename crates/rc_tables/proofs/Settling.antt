-- What was read is the stream that it turned out to stand for.
use Rattle.std.proofs.Common.{arith, refl, ap, sym, subst}
use Rattle.std.specs.Prelude.{◌≡◌, ◌≤◌, ◌+◌, ℕ, Bool, Option, Some, Result, Ok, Err, IfOk, OnOk, IsSome}
use Rattle.rc_position.specs.declared.positions.Pos.{Pos}
use Rattle.rc_mutation.specs.declared.fragments.Frag.{Frag}
use Rattle.rc_mutation.specs.declared.fragments.Head.{Head}
use Rattle.rc_stream.specs.Leaving.{left_by, sought_by}
use Rattle.rc_stream.specs.Stream.{Stream, first_upto, sought_stream, took}
use Rattle.rc_stream.specs.declared.streams.StreamErr.{StreamErr}
use Rattle.rc_tables.specs.Streams.{DidAsk, Lazy, MayBe, Settled, asks_left, to_ask}
use Rattle.rc_tables.specs.Tables.{listing}

module _ (t u : Lazy) (s : Stream) (might : MayBe t s) where
  pub head_settled : (r : Result Head StreamErr) → u.read ≡ Some s → IfOk r (λ h. h ≡ s.head) → IfOk r (λ h. (z : Stream) × Settled t u z z × (h ≡ z.head))
  head_settled (Ok h) read is = (s, record { might = might; read = read }, is)
  head_settled (Err e) read is = tt

  pub seek_settled : (to : Pos) (r : Result (Unit {0}) StreamErr) → u.read ≡ Some (sought_by r to s) → OnOk r ((z : Stream) × Settled t u z (sought_stream to z))
  seek_settled to (Ok x) left = (s, record { might = might; read = left })
  seek_settled to (Err e) left = tt

  pub next_settled : (x : Pos) (r : Result (Option Frag) StreamErr) → u.read ≡ Some (left_by r s) → IfOk r (λ got. got ≡ first_upto x s.left) → IfOk r (λ got. (z : Stream) × Settled t u z (took got z) × (got ≡ first_upto x z.left))
  next_settled x (Ok got) left gives = (s, record { might = might; read = left }, gives)
  next_settled x (Err e) left gives = tt

-- where all is read, nothing is left to ask for
pub did_read : (ok : Bool) (t u : Lazy) (s : Stream) (before now : ℕ) → u.read ≡ Some s → now ≤ before + asks_left t → (IsSome t.read → now ≡ before) → DidAsk ok t before u now
did_read ok t u s before now read most quiet =
    let none : asks_left u ≡ 0 = ap (λ r. to_ask r (listing u.key u.infos)) read in
    let there : IsSome u.read = subst IsSome (sym read) refl in record {
      most = most;
      left = omega (arith, none);
      sum = λ _. omega (arith, none, most);
      read = λ _. there;
      quiet = λ h. (quiet h, there);
    }
