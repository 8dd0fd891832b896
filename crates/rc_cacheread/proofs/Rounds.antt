-- What calls of a reader did, one after another.
use Rattle.std.specs.Prelude.{ℕ, Bool, true, false}
use Rattle.std.proofs.Common.{refl, sym, ◌∙◌}
use Rattle.rc_position.specs.declared.positions.Pos.{Pos}
use Rattle.rc_stream.specs.Did.{OfNext}
use Rattle.rc_stream.specs.Showing.{FileSpots, IsNamed}
use Rattle.rc_stream.specs.declared.streams.StreamErr.{StreamErr}
use Rattle.rc_stream.specs.declared.streams.StreamErr.TheVariants.{Fault, Damaged, NoMemory}
use Rattle.rc_cacheread.specs.declared.readers.CacheReader.{CacheReader}
use Rattle.rc_cacheread.specs.Did.{KnownStep, ReaderCall, ReaderDid, reader_state}
use Rattle.rc_cacheread.specs.Passing.{IsKnownOver}
use Rattle.rc_cacheread.specs.Sharing.{OfBelow, OfFiller, OfKnown}
use Rattle.rc_cacheread.specs.Spots.{stand}
use Rattle.rc_cacheread.proofs.Chains.{chain-after, chain-none, chain-stop}
use Rattle.rc_cacheread.proofs.Filled.{filled-over, filled-still}
use Rattle.rc_cacheread.specs.laws.Passing.{over-nothing}
use Rattle.rc_cacheread.specs.laws.Orders.{reach-through}
use Rattle.rc_cacheread.proofs.Lists.{untrue}
use Rattle.rc_cacheread.proofs.Orders.{reach-itself}
use Rattle.rc_cacheread.proofs.Unanswered.{same-itself, unanswered-then}

-- a refusal that names a spot names one that could be named before
pub named-on : (spots now : FileSpots) (e : StreamErr) → ((file offset : ℕ) → now file offset → spots file offset) → IsNamed now e → IsNamed spots e
named-on spots now Fault l n = n
named-on spots now (Damaged file offset) l n = l file offset n
named-on spots now NoMemory l n = n

module _ {K F P H W : Type 0} (kn : OfKnown K H) (be : OfBelow F H W) (fi : OfFiller P H) where
  pub did-after : (r n m : CacheReader K F P) (h g f : H) (w v u : W) (y : Pos) (ok : Bool) → ReaderDid kn be fi r h w (OfNext y) true n g v → ReaderDid kn be fi n g v (OfNext y) ok m f u → ReaderDid kn be fi r h w (OfNext y) ok m f u
  did-after r n m h g f w v u y ok a b = record {
    calls = chain-after (ReaderCall kn be fi (OfNext y)) ok (reader_state r h w) (reader_state n g v) (reader_state m f u) a.calls b.calls;
    on = reach-through (stand r.spot) (stand n.spot) (stand m.spot) a.on b.on;
    gone = tt;
    to = b.to ∙ a.to;
    quiet = λ k.
        let x = a.quiet k in
        let z = b.quiet x.1 in
        ((chain-after (KnownStep kn.did) ok (r.known, h) (n.known, g) (m.known, f) x.0.0 z.0.0, z.0.1 ∙ x.0.1, z.0.2 ∙ x.0.2, z.0.3 ∙ x.0.3), z.1);
    filled = filled-over kn fi r.known n.known m.known r.filler n.filler m.filler h g f (stand r.spot) (stand n.spot) (stand m.spot) a.on a.filled b.filled;
    unanswered = λ e mute. unanswered-then kn be r n m h g f w v u a.on mute (a.unanswered refl mute) (b.unanswered e);
    stays = λ writes d. b.stays writes (a.stays writes d);
  }

  pub did-stopped : (r n : CacheReader K F P) (h g : H) (w v : W) (y : Pos) → ReaderDid kn be fi r h w (OfNext y) true n g v → ReaderDid kn be fi r h w (OfNext y) false n g v
  did-stopped r n h g w v y a = record {
    calls = chain-stop (ReaderCall kn be fi (OfNext y)) (reader_state r h w) (reader_state n g v) a.calls;
    on = a.on;
    gone = tt;
    to = a.to;
    quiet = λ k. (let x = a.quiet k in ((chain-stop (KnownStep kn.did) (r.known, h) (n.known, g) x.0.0, x.0.1, x.0.2, x.0.3), x.1));
    filled = a.filled;
    unanswered = λ e mute. untrue (sym e);
    stays = a.stays;
  }

  pub did-nothing : (r : CacheReader K F P) (h : H) (w : W) (y : Pos) → ReaderDid kn be fi r h w (OfNext y) true r h w
  did-nothing r h w y = record {
    calls = chain-none (ReaderCall kn be fi (OfNext y)) true (reader_state r h w);
    on = reach-itself (stand r.spot);
    gone = tt;
    to = refl;
    quiet = λ k. ((chain-none (KnownStep kn.did) true (r.known, h), refl, refl, refl), k);
    filled = filled-still kn fi r.known r.filler h (IsKnownOver (kn.knows r.known h) (stand r.spot) (stand r.spot)) (over-nothing (kn.knows r.known h) (stand r.spot) (stand r.spot) refl);
    unanswered = λ e mute. record { below = refl; store = refl; same = same-itself (kn.knows r.known h); now = over-nothing (kn.knows r.known h) (stand r.spot) (stand r.spot) refl };
    stays = λ writes d. d;
  }
