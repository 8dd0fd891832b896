-- The cached stream of an open reader, as it is made and sought to where a slice begins.
use Rattle.std.proofs.Common.{◌≡◌, ◌++◌, ℕ, Bool, true, Option, Some, None, [], ◌∷◌, cond, Result, Ok, Err, refl, sym, subst}
use Rattle.std.specs.Option.{IfSome}
use Rattle.std.specs.Prelude.{OnOk}
use Rattle.rc_position.specs.declared.positions.Pos.{Pos}
use Rattle.rc_memory.specs.Memory.{Memory}
use Rattle.rc_chain.specs.declared.chains.Snap.{Snap}
use Rattle.rc_mutation.specs.declared.fragments.Frag.TheVariants as frag
use Rattle.rc_stream.specs.Did.{Call.OfSeek}
use Rattle.rc_stream.specs.Merging.{same_tomb}
use Rattle.rc_stream.specs.Places.{Reaches}
use Rattle.rc_cacheread.specs.Spots.{again_due, change_place, front, past_row, row_due, stand}
use Rattle.rc_snapshots.specs.Streams.{first_position}
use Rattle.rc_cached.specs.declared.readings.Readings.{Readings}
use Rattle.rc_cached.specs.Streams.{IsNewCached, OfCache}
use Rattle.rc_paging.specs.Optional.{WithBoth}
use Rattle.rc_paging.specs.calls.Layers.{IsNewCacheLayer}
use Rattle.rc_paging.proofs.Called.{CallLaws, cached_did}
use Rattle.rc_paging.proofs.Unread.{first_reaches}

pub on_ok : {A B : Type 0} (P : Type 0) (r : Result A B) → ((a : A) → r ≡ Ok a → P) → OnOk r P
on_ok P (Ok a) h = h a refl
on_ok P (Err e) h = tt

pub of_ok : {A B : Type 0} (P : Type 0) (r : Result A B) (a : A) → r ≡ Ok a → OnOk r P → P
of_ok P (Ok b) a e h = h
of_ok P (Err x) a e h = absurd (cc)

module _ (S : ℕ) (laws : CallLaws S) (z : Pos) where
  -- a seek leaves chains and readings as they are
  pub seek_same : (r t : Option OfCache) (m : Memory) (w : Readings) (ok : Bool) (n : Memory) (v : Readings) → WithBoth (λ a b. cached_did S a m w (OfSeek z) ok b n v) ((n ≡ m) × (v ≡ w)) r t → (n ≡ m) × (v ≡ w)
  seek_same None None m w ok n v d = d
  seek_same None (Some b) m w ok n v d = absurd d
  seek_same (Some a) None m w ok n v d = absurd d
  seek_same (Some a) (Some b) m w ok n v d = (let e = laws.known a m w (OfSeek z) ok b n v d tt in (e.0, e.1))

  -- nothing is due at a new stream, which stands at the first of all positions
  new_front : (s : Snap) (a : OfCache) → IsNewCached s a → front a.spot ≡ []
  new_front s a new = λ i. again_due (new.again i) (new.told i) ++ (cond (same_tomb (new.told i) (new.tomb i)) [] (frag.Change (change_place a.spot) (new.tomb i) ∷ []) ++ row_due (new.row i) a.spot.place.prefix)

  new_stand : (s : Snap) (a : OfCache) → IsNewCached s a → stand a.spot ≡ first_position
  new_stand s a new = λ i. past_row (new.row i) (new.place i)

  -- an answered seek goes where it is sent
  pub seek_placed : (snap : Option Snap) (r t : Option OfCache) (m : Memory) (w : Readings) (ok : Bool) (n : Memory) (v : Readings) → ok ≡ true → IsNewCacheLayer snap r → WithBoth (λ a b. cached_did S a m w (OfSeek z) ok b n v) ((n ≡ m) × (v ≡ w)) r t → IfSome t (λ b. stand b.spot ≡ z)
  seek_placed None None None m w ok n v answered new d = tt
  seek_placed None None (Some b) m w ok n v answered new d = absurd d
  seek_placed None (Some a) t m w ok n v answered new d = absurd new
  seek_placed (Some s) None t m w ok n v answered new d = absurd new
  seek_placed (Some s) (Some a) None m w ok n v answered new d = absurd d
  seek_placed (Some s) (Some a) (Some b) m w ok n v answered new d =
      let e = subst (λ o. cached_did S a m w (OfSeek z) o b n v) answered d in
      e.gone.idle (new_front s a new) (subst (λ u. Reaches u z) (sym (new_stand s a new)) (first_reaches z))
