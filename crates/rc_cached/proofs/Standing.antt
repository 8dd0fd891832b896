-- A cached stream is ready where what lies below says what writes say, and stands for what these leave.
use Rattle.std.specs.Prelude.{◌≡◌, ℕ, List, [], Option, Some, None, IfSome}
use Rattle.std.proofs.Common.{refl, sym, ◌∙◌, subst, inr}
use Rattle.rc_cell.specs.declared.rows.Row.{Row}
use Rattle.rc_cell.specs.declared.writes.Tomb.{Tomb}
use Rattle.rc_position.specs.declared.positions.Pos.{Pos}
use Rattle.rc_mutation.specs.declared.fragments.Frag.{Frag}
use Rattle.rc_mutation.specs.declared.mutations.Mutation.{Mutation}
use Rattle.rc_mutation.specs.Source.{source_at, source_at_static}
use Rattle.rc_memory.specs.Memory.{Memory}
use Rattle.rc_chain.specs.declared.chains.Snap.{Snap}
use Rattle.rc_stream.specs.Snapshot.{SayThere}
use Rattle.rc_stream.specs.Stream.{Stream}
use Rattle.rc_cacheread.specs.declared.readers.Stage.{Stage}
use Rattle.rc_cacheread.specs.declared.spots.Spot.{Spot}
use Rattle.rc_cacheread.specs.Reading.{Reads}
use Rattle.rc_cacheread.specs.Sharing.{Fits, IsPlaceAt, IsReaderOf, IsReady, IsSaidBelow, Leads, Sees}
use Rattle.rc_cacheread.specs.Spots.{stand}
use Rattle.rc_filler.specs.Fillers.{IsFillerReady}
use Rattle.rc_filler.specs.Stands.{StandsForWrites}
use Rattle.rc_cached.specs.declared.readings.Readings.{Readings}
use Rattle.rc_cached.specs.Below.{LiesBelow}
use Rattle.rc_cached.specs.calls.Parts.{of_its_filler, of_snapshot, of_underlying}
use Rattle.rc_cached.specs.Streams.{IsOfCached, IsRestOf, OfCache, SaysFrom, StillSays, filler_for, read_below}
use Rattle.rc_cached.proofs.Sharing.{KnownLaws, fit-of, pair, shares}
use Rattle.rc_cached.proofs.Unread.{marked, may-marked, may-say, no-one-thing}

-- what may lie below, if it fits, leads to what writes say
pub leads-of : (writes : List Mutation) (o : Option Stream) (a : Stage) (x to : Pos) (u : Option Tomb) → ((t : Stream) → LiesBelow o t → Fits a x u t) → IfSome o (SaysFrom writes x to) → Leads writes (LiesBelow o) a x to u
leads-of writes None a x to u fits says = record {
  each = λ y v k b h. absurd (no-one-thing (Fits a x u) y v fits h);
  static_row = λ row h. (
      let m = may-marked (source_at_static writes) None [] tt tt tt in
      let t = marked (source_at_static writes) None [] in
      sym (h t m (fits t m))
      );
}
leads-of writes (Some s) a x to u fits says = record {
  each = λ y v k b h. says.each y k b ∙ sym (h s refl (fits s refl));
  static_row = λ row h. says.static_row ∙ sym (h s refl (fits s refl));
}

-- and says what these leave
pub said-of : (writes : List Mutation) (o : Option Stream) (a : Stage) (to : Pos) (s : Spot) (fs : List Frag) (row : Row) → ((t : Stream) → LiesBelow o t → Fits a (stand s) s.tomb t) → IfSome o (SaysFrom writes (stand s) to) → Reads (SayThere writes) (stand s) to s.tomb fs → source_at_static writes ≡ row → IsSaidBelow (LiesBelow o) a to s fs row
said-of writes None a to s fs row fits says reads e =
    let m = may-say row s.tomb fs reads.ordered reads.apart in
    record { stream = m.stream; stands = m.may; fits = fits m.stream m.may; says = λ y k b. m.says y; static_row = m.static_row }
said-of writes (Some t) a to s fs row fits says reads e = record {
  stream = t;
  stands = refl;
  fits = fits t refl;
  says = λ y k b. sym (says.each y k b) ∙ reads.within y (source_at writes y) k b refl;
  static_row = sym says.static_row ∙ e;
}

-- a stream, of a snapshot whatever its own says
abbrev pub with_snap : Snap → OfCache → OfCache
with_snap s r = record { known = record { snap = s; cursor = r.known.cursor }; below = r.below; filler = filler_for s; to = r.to; spot = r.spot; stage = r.stage; lags = r.lags }

pub is-with : (s : Snap) (r : OfCache) → IsOfCached s r → r ≡ with_snap s r
is-with s r of = λ i. record { known = record { snap = of.snap i; cursor = r.known.cursor }; below = r.below; filler = of.filler i; to = r.to; spot = r.spot; stage = r.stage; lags = r.lags }

module _ (S : ℕ) (laws : KnownLaws S) (s : Snap) (r : OfCache) (m : Memory) (w : Readings) (writes : List Mutation) (of : IsOfCached s r) (stands : StandsForWrites S m s.chain s.pin writes) (said : StillSays writes w r) where
  abbrev q : OfCache
  q = with_snap s r

  reads-q : IsReaderOf of_snapshot of_underlying (of_its_filler S) writes q m w
  reads-q = record { stands = stands; covered = inr (leads-of writes (read_below r w) r.stage (stand r.spot) r.to r.spot.tomb said.fits said.says) }

  -- it is a reader of these writes
  pub reads-of : IsReaderOf of_snapshot of_underlying (of_its_filler S) writes r m w
  reads-of = subst (λ p. IsReaderOf of_snapshot of_underlying (of_its_filler S) writes p m w) (sym (is-with s r of)) reads-q

  pub ready-of : IsFillerReady S (filler_for s).filler m → IsPlaceAt r.lags (of_snapshot.place r.known) (stand r.spot) → IsReady of_snapshot of_underlying (of_its_filler S) r m w
  ready-of ready place = subst (λ p. IsReady of_snapshot of_underlying (of_its_filler S) p m w) (sym (is-with s r of)) (record {
    fit = fit-of S laws q.known q.below q.filler m w writes (pair S laws q.known) ready stands;
    shares = shares S laws;
    writes = writes;
    reads = reads-q;
    ahead = λ x _. tt;
    place = place;
  })

  pub sees-of : (t : Stream) → IsRestOf writes r t → Sees of_snapshot of_underlying (of_its_filler S) r m w t
  sees-of t d = subst (λ p. Sees of_snapshot of_underlying (of_its_filler S) p m w t) (sym (is-with s r of)) (record {
    writes = writes;
    reads = reads-q;
    says = record {
      rest = d.rest;
      tomb = d.tomb;
      left = d.left;
      reads = d.reads;
      pt = λ at h. h.pt ∙ laws.head m (filler_for s).filler writes stands ∙ d.pt;
      static_row = d.static_row;
      below = inr (said-of writes (read_below r w) r.stage r.to r.spot d.rest t.head.statics said.fits said.says d.reads d.static_row);
    };
  })
