-- What an answered call leaves while the stream below answers none.
use Rattle.std.specs.Prelude.{◌≡◌, ◌⊎◌, true, Result, Ok, Err, OnOk}
use Rattle.std.proofs.Common.{sym, ◌∙◌, subst, inl, inr}
use Rattle.rc_position.specs.declared.positions.Pos.{Pos}
use Rattle.rc_stream.specs.Did.{has_answer}
use Rattle.rc_stream.specs.Places.{Reaches}
use Rattle.rc_stream.specs.Snapshot.{SameKnown, There}
use Rattle.rc_stream.specs.declared.streams.StreamErr.{StreamErr}
use Rattle.rc_cacheread.specs.declared.readers.CacheReader.{CacheReader}
use Rattle.rc_cacheread.specs.Did.{AnswersBelow, CallsSnapshotAlone, Unanswered, reader_state}
use Rattle.rc_cacheread.specs.Passing.{IsKnownOver}
use Rattle.rc_cacheread.specs.Sharing.{OfBelow, OfKnown}
use Rattle.rc_cacheread.specs.Spots.{stand}
use Rattle.rc_cacheread.specs.laws.Passing.{over-over}
use Rattle.rc_cacheread.proofs.Lists.{untrue}
use Rattle.rc_cacheread.proofs.Passed.{over-still}

-- what holds once there is an answer holds where there is one
pub of-answer : {T : Type 0} (r : Result T StreamErr) (A : Type 0) → has_answer r ≡ true → OnOk r A → A
of-answer (Ok value) A e a = a
of-answer (Err error) A e a = untrue (sym e)

-- what follows of that follows of it once there is an answer
pub on-answer : {T : Type 0} (r : Result T StreamErr) (A B : Type 0) → (A → B) → OnOk r A → OnOk r B
on-answer (Ok value) A B f a = f a
on-answer (Err error) A B f a = a

pub same-itself : (knows : Pos → There → Type 0) → SameKnown knows knows
same-itself knows x v = (λ d. d, λ d. d)

-- a stream that answers now answered before, if a call that was answered left it as it was or was a call of it
pub answers-before : {F H W : Type 0} (be : OfBelow F H W) (f t : F) (w u : W) → AnswersBelow be f w ⊎ ((t ≡ f) × (u ≡ w)) → AnswersBelow be t u → AnswersBelow be f w
answers-before be f t w u (inl d) a = d
answers-before {F} {H} {W} be f t w u (inr e) a = subst (λ (z : F × W). AnswersBelow be z.0 z.1) (λ i. (e.0 i, e.1 i)) a

module _ {K F P H W : Type 0} (kn : OfKnown K H) (be : OfBelow F H W) where
  -- a part was read, whose place was known
  pub unanswered-part : (r m n : CacheReader K F P) (h g : H) (w u : W) (x : Pos) (A : Type 0) → m.known ≡ r.known → m.below ≡ r.below → (AnswersBelow be r.below w → ⊥) → AnswersBelow be m.below w ⊎ ((v : There) × kn.knows m.known h x v) → ((v : There) → kn.knows m.known h x v → CallsSnapshotAlone kn true (reader_state m h w) (reader_state n g u)) → ((v : There) → kn.knows m.known h x v → SameKnown (kn.knows m.known h) (kn.knows n.known g)) → ((v : There) → kn.knows m.known h x v → A) → Unanswered kn r h w n g u A
  unanswered-part r m n h g w u x A k b mute (inl d) alone same passed = absurd (mute (subst (λ f. AnswersBelow be f w) b d))
  unanswered-part r m n h g w u x A k b mute (inr d) alone same passed =
      let q = alone d.0 d.1 in
      record { below = q.1 ∙ b; store = q.3; same = subst (λ l. SameKnown (kn.knows l h) (kn.knows n.known g)) k (same d.0 d.1); now = passed d.0 d.1 }

  -- one stretch after another
  pub unanswered-then : (r n m : CacheReader K F P) (h g i : H) (w v u : W) → Reaches (stand r.spot) (stand n.spot) → (AnswersBelow be r.below w → ⊥) → Unanswered kn r h w n g v (IsKnownOver (kn.knows n.known g) (stand r.spot) (stand n.spot)) → ((AnswersBelow be n.below v → ⊥) → Unanswered kn n g v m i u (IsKnownOver (kn.knows m.known i) (stand n.spot) (stand m.spot))) → Unanswered kn r h w m i u (IsKnownOver (kn.knows m.known i) (stand r.spot) (stand m.spot))
  unanswered-then r n m h g i w v u on mute a next =
      let b = next (λ d. mute (subst (λ (z : F × W). AnswersBelow be z.0 z.1) (λ j. (a.below j, a.store j)) d)) in
      record {
        below = b.below ∙ a.below;
        store = b.store ∙ a.store;
        same = λ x v. (λ d. (b.same x v).0 ((a.same x v).0 d), λ d. (a.same x v).1 ((b.same x v).1 d));
        now = over-over (kn.knows m.known i) (stand r.spot) (stand n.spot) (stand m.spot) on (over-still (kn.knows n.known g) (kn.knows m.known i) (λ x v. (b.same x v).0) (stand r.spot) (stand n.spot) a.now) b.now;
      }
