-- What calls of the snapshot, and fills, leave of the other parts.
use Rattle.std.specs.Prelude.{◌↔◌, Bool, true}
use Rattle.std.proofs.Common.{refl, ◌∙◌, arith}
use Rattle.rc_mutation.specs.declared.fragments.HeadAt.{HeadAt}
use Rattle.rc_stream.specs.Did.{InTurn}
use Rattle.rc_stream.specs.Stream.{Stream}
use Rattle.rc_cacheread.specs.calls.Below.{Filling, Fillings}
use Rattle.rc_cacheread.specs.Did.{KnownStep}
use Rattle.rc_cacheread.specs.Sharing.{Fit, Kept, OfBelow, OfFiller, OfKnown, Shares, StillStands}
use Rattle.rc_cacheread.proofs.Chains.{chain-keeps}
use Rattle.rc_cacheread.proofs.Passed.{between}

pub both-ways : {A B C : Type 0} → A ↔ B → B ↔ C → A ↔ C
both-ways p q = (λ a. q.0 (p.0 a), λ c. p.1 (q.1 c))

module _ {K F P H W : Type 0} (kn : OfKnown K H) (be : OfBelow F H W) (fi : OfFiller P H) where
  pub kept-same : (k : K) (p : P) (h : H) → Kept kn fi k p h k p h
  kept-same k p h = record {
    pts = λ at a. (at, a, refl);
    may = λ m. m;
    lost = omega arith;
    static_row = λ m e d. d;
  }

  pub kept-kept : (k l m : K) (p q r : P) (h g f : H) → Kept kn fi k p h l q g → Kept kn fi l q g m r f → Kept kn fi k p h m r f
  kept-kept k l m p q r h g f a b = record {
    pts = λ at d. (let y = b.pts at d in let z = a.pts y.0 y.1 in (z.0, z.1, z.2 ∙ y.2));
    may = λ d. b.may (a.may d);
    lost = omega (arith, a.lost, b.lost);
    static_row = λ y e d. (let u = between (fi.lost h) (fi.lost g) (fi.lost f) a.lost b.lost e in b.static_row (a.may y) u.1 (a.static_row y u.0 d));
  }

  -- what calls of the snapshot leave
  pub record KnownLeft (b : F) (p : P) (w : W) (s t : K × H) : Type 0 where
    pub fit : Fit kn be fi t.0 b p t.1 w
    pub kept : Kept kn fi s.0 p s.1 t.0 p t.1
    pub stands : StillStands fi p s.1 p t.1
    pub heads : (at : HeadAt) → kn.heads t.0 t.1 at → kn.heads s.0 s.1 at
    pub seen : (x : Stream) → be.seen b s.1 w x → be.seen b t.1 w x

  abbrev LeavesKnown : F → P → W → K × H → K × H → Type 0
  LeavesKnown b p w s t = Fit kn be fi s.0 b p s.1 w → KnownLeft b p w s t

  -- what fills leave
  pub record FillsLeft (k : K) (b : F) (w : W) (s t : P × H) : Type 0 where
    pub fit : Fit kn be fi k b t.0 t.1 w
    pub kept : Kept kn fi k s.0 s.1 k t.0 t.1
    pub seen : (x : Stream) → be.seen b s.1 w x → be.seen b t.1 w x

  abbrev LeavesFills : K → F → W → P × H → P × H → Type 0
  LeavesFills k b w s t = Fit kn be fi k b s.0 s.1 w → FillsLeft k b w s t

  abbrev FillStep : Bool → P × H → P × H → Type 0
  FillStep ok s t = Filling fi.fills s t

  module _ (shares : Shares kn be fi) where
    known-same : (b : F) (p : P) (w : W) (s : K × H) → LeavesKnown b p w s s
    known-same b p w s f = record { fit = f; kept = kept-same s.0 p s.1; stands = λ writes a. a; heads = λ at a. a; seen = λ x a. a }

    known-through : (b : F) (p : P) (w : W) (s t u : K × H) → LeavesKnown b p w s t → LeavesKnown b p w t u → LeavesKnown b p w s u
    known-through b p w s t u a c f =
        let x = a f in
        let y = c x.fit in
        record {
          fit = y.fit;
          kept = kept-kept s.0 t.0 u.0 p p p s.1 t.1 u.1 x.kept y.kept;
          stands = λ writes d. y.stands writes (x.stands writes d);
          heads = λ at d. x.heads at (y.heads at d);
          seen = λ z d. y.seen z (x.seen z d);
        }

    known-step : (b : F) (p : P) (w : W) (ok : Bool) (s t : K × H) → KnownStep kn.did ok s t → LeavesKnown b p w s t
    known-step b p w ok s t d f =
        let r = shares.after_known s.0 b p s.1 w d.0 ok t.0 t.1 f d.1 in
        record { fit = r.0; kept = r.1; stands = r.2; heads = r.3; seen = r.4 }

    pub known-left : (b : F) (p : P) (w : W) (ok : Bool) (s t : K × H) → InTurn (KnownStep kn.did) ok s t → Fit kn be fi s.0 b p s.1 w → KnownLeft b p w s t
    known-left b p w ok s t c = chain-keeps (KnownStep kn.did) (LeavesKnown b p w) (known-same b p w) (known-through b p w) (known-step b p w) ok s t c

    fills-same : (k : K) (b : F) (w : W) (s : P × H) → LeavesFills k b w s s
    fills-same k b w s f = record { fit = f; kept = kept-same k s.0 s.1; seen = λ x a. a }

    fills-through : (k : K) (b : F) (w : W) (s t u : P × H) → LeavesFills k b w s t → LeavesFills k b w t u → LeavesFills k b w s u
    fills-through k b w s t u a c f =
        let x = a f in
        let y = c x.fit in
        record {
          fit = y.fit;
          kept = kept-kept k k k s.0 t.0 u.0 s.1 t.1 u.1 x.kept y.kept;
          seen = λ z d. y.seen z (x.seen z d);
        }

    fills-step : (k : K) (b : F) (w : W) (ok : Bool) (s t : P × H) → FillStep ok s t → LeavesFills k b w s t
    fills-step k b w ok s t d f =
        let r = shares.after_fill k b s.0 s.1 w t.0 t.1 f d in
        record { fit = r.0; kept = r.1; seen = r.2 }

    pub fills-left : (k : K) (b : F) (w : W) (s t : P × H) → Fillings fi.fills s.0 s.1 t.0 t.1 → Fit kn be fi k b s.0 s.1 w → FillsLeft k b w s t
    fills-left k b w s t c = chain-keeps FillStep (LeavesFills k b w) (fills-same k b w) (fills-through k b w) (fills-step k b w) true s t c
