-- The stream below is sought to the place.
use Rattle.std.specs.Prelude.{◌≡◌, ◌++◌, Option, Some, None}
use Rattle.std.proofs.Common.{refl, sym, ap, subst}
use Rattle.rc_cell.specs.declared.writes.Tomb.{Tomb}
use Rattle.rc_position.specs.declared.positions.Pos.{Pos}
use Rattle.rc_stream.specs.Places.{Reaches}
use Rattle.rc_stream.specs.Snapshot.{There}
use Rattle.rc_stream.specs.Stream.{Stream, sought_stream}
use Rattle.rc_cacheread.specs.declared.readers.Stage.{Stage}
use Rattle.rc_cacheread.specs.declared.readers.Stage.TheVariants.{Sought}
use Rattle.rc_cacheread.specs.declared.spots.Spot.{Spot}
use Rattle.rc_cacheread.specs.calls.Below.{sought_stage}
use Rattle.rc_cacheread.specs.Sharing.{Fits}
use Rattle.rc_cacheread.specs.Spots.{front, stand}
use Rattle.rc_cacheread.specs.calls.Spots.{HasNothingDue}
use Rattle.rc_cacheread.proofs.Idle.{idle-front, idle-stand}
use Rattle.rc_cacheread.proofs.Outcomes.{Outcome, carries-same}
use Rattle.rc_cacheread.proofs.Streams.{fits-sought, sought-fits, sought-says}

settled : (x : Pos) (tomb : Option Tomb) (b : Stage) (t : Stream) → b ≡ sought_stage tomb → Fits Sought x None t → Fits b x tomb t
settled x None b t e f = subst (λ c. Fits c x None t) (sym e) f
settled x (Some u) b t e f = subst (λ c. Fits c x (Some u) t) (sym e) f

pub sought-outcome : (S : Pos → There → Type 0) (seen now : Stream → Type 0) (to : Pos) (s : Spot) → HasNothingDue s → (a b : Stage) → b ≡ sought_stage s.tomb → ((t : Stream) → seen t → now (sought_stream s.place t)) → Outcome S seen now to a (stand s) s.tomb b (stand s) s.tomb (front s)
sought-outcome S seen now to s i a b e on = record {
  carries = record {
    each = λ t p f.
        let o = fits-sought s.place a (stand s) s.tomb None t f in
        let x : s.place ≡ stand s = sym (idle-stand s i) in
        (sought_stream s.place t, on t p, settled (stand s) s.tomb b (sought_stream s.place t) e (subst (λ z. Fits Sought z None (sought_stream s.place t)) x (sought-fits s.place t o.0 o.1)), λ z h. sought-says s.place z t (subst (λ y. Reaches y z) (sym x) h), refl);
  };
  advance = λ fs t r p f q. record { left = fs; begins = ap (λ l. l ++ fs) (sym (idle-front s i)); reads = r; says = λ z h. refl };
}

-- nothing changes
pub idle-outcome : (S : Pos → There → Type 0) (seen now : Stream → Type 0) (to : Pos) (s : Spot) → HasNothingDue s → (a : Stage) → ((t : Stream) → seen t → now t) → Outcome S seen now to a (stand s) s.tomb a (stand s) s.tomb (front s)
idle-outcome S seen now to s i a on = record {
  carries = carries-same seen now a (stand s) s.tomb on;
  advance = λ fs t r p f q. record { left = fs; begins = ap (λ l. l ++ fs) (sym (idle-front s i)); reads = r; says = λ z h. refl };
}
