-- What the head of a merge shows.
use Rattle.std.specs.Prelude.{◌≡◌, Option, None, Result, Ok, Err, IfOk}
use Rattle.std.proofs.Common.{refl, sym, ap, subst, ◌∙◌}
use Rattle.rc_cell.specs.declared.writes.Tomb.{Tomb}
use Rattle.rc_cell.specs.Greatest.{greater}
use Rattle.rc_cell.specs.Orders.{tomb_cmp}
use Rattle.rc_mutation.specs.declared.fragments.Head.{Head}
use Rattle.rc_stream.specs.declared.holding.Held.{Held}
use Rattle.rc_stream.specs.declared.streams.StreamErr.{StreamErr}
use Rattle.rc_stream.specs.Merging.{IsOrdered, joined_head, merged_stream}
use Rattle.rc_stream.specs.Moving.{IsPutBack, nothing_held}
use Rattle.rc_stream.specs.Showing.{MergesTwo, ShowsOne}
use Rattle.rc_stream.specs.Stream.{Stream}
use Rattle.rc_stream.proofs.MergeLaws.{head-merged, ordered-merged, tomb-merged}

-- of a stream with no tombstone before its first nothing is held
pub alone : (P : Stream → Type 0) (s : Stream) → P s → s.tomb ≡ None → IsOrdered s.left → IsPutBack P nothing_held s
alone P s p e o = record {
  stream = s;
  stands = p;
  fits = record { ordered = o; tomb = e; over = tt };
  same = ap (λ (z : Option Tomb). record { head = s.head; tomb = z; left = s.left }) e;
}

-- what is shown stays so where what is stood for does
pub shown-on : (might stands now : Stream → Type 0) (head : Head) → ((s : Stream) → stands s → now s) → ShowsOne might stands head → ShowsOne might now head
shown-on might stands now head on s = record { stream = s.stream; possible = s.possible; whole = s.whole; stood = on s.stream s.stood; of_it = s.of_it }

pub shown-answer : (might stands now : Stream → Type 0) (r : Result Head StreamErr) → ((s : Stream) → stands s → now s) → IfOk r (ShowsOne might stands) → IfOk r (ShowsOne might now)
shown-answer might stands now (Ok head) on s = shown-on might stands now head on s
shown-answer might stands now (Err e) on s = tt

-- two heads of parts of which nothing is held show what both show together
pub shown-both : (P S Q T : Stream → Type 0) (h k : Held) → h ≡ nothing_held → k ≡ nothing_held → (a b head : Head) → ShowsOne P S a → ShowsOne Q T b → head ≡ joined_head a b → ShowsOne (MergesTwo P Q) (MergesTwo (IsPutBack S h) (IsPutBack T k)) head
shown-both P S Q T h k e f a b head one other joins =
    let s = one.stream in
    let t = other.stream in
    record {
      stream = merged_stream s t;
      possible = record { ours = s; theirs = t; first = one.possible; second = other.possible; joins = refl };
      whole = (tomb-merged s t ∙ (λ i. greater tomb_cmp (one.whole.0 i) (other.whole.0 i)), ordered-merged s t one.whole.1 other.whole.1);
      stood = record {
        ours = s;
        theirs = t;
        first = subst (λ z. IsPutBack S z s) (sym e) (alone S s one.stood one.whole.0 one.whole.1);
        second = subst (λ z. IsPutBack T z t) (sym f) (alone T t other.stood other.whole.0 other.whole.1);
        joins = refl;
      };
      of_it = joins ∙ (λ i. joined_head (one.of_it i) (other.of_it i)) ∙ sym (head-merged s t);
    }
