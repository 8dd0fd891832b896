-- The newest version of a chain before something is done to it, and after; and what is known where no update stands in the chain.
use Rattle.std.proofs.Common.{◌≡◌, ◌<◌, ℕ, zero, suc, List, [], ◌∷◌, ◌++◌, Option, Some, None, length, refl, sym, ap, ◌∙◌, subst, arith}
use Rattle.rc_position.specs.declared.positions.Pos.{Pos}
use Rattle.rc_position.specs.Position.{Place}
use Rattle.rc_core.specs.declared.entries.ChainKind.TheVariants.{Cache}
use Rattle.rc_core.specs.Chain.{IsKnown}
use Rattle.rc_core.specs.Chains.{IsCarried, upto}
use Rattle.rc_core.specs.Continuity.{EachOf}
use Rattle.rc_core.specs.Steps.{on_newest, pinned_by_snapshot}
use Rattle.rc_core.specs.Version.{IsVersion, Version}
use Rattle.rc_core.specs.laws.Losing.{each-one}
use Rattle.rc_core.specs.laws.Standing.{Newest, Stand, above-zero, newest-is, on_newest-parts, stand-at}

module _ (f : Version → Version) (versions : List Version) (j : ℕ) (e : suc j ≡ length versions) where
  pub newest : Newest versions j
  newest = newest-is versions j e

  last : (v : Version) → upto (newest.older ++ v ∷ []) j ≡ newest.older ++ v ∷ []
  last v = ap (λ (s : Stand). s.1) (stand-at j newest.older [] v (sym newest.number ∙ sym (above-zero (length newest.older))))

  now : on_newest f versions ≡ newest.older ++ f newest.newest ∷ []
  now = ap (on_newest f) newest.parts ∙ on_newest-parts f newest.older newest.newest

  -- the versions up to the newest are all of them
  pub before : upto versions j ≡ newest.older ++ newest.newest ∷ []
  before = ap (λ us. upto us j) newest.parts ∙ last newest.newest

  pub after : upto (on_newest f versions) j ≡ newest.older ++ f newest.newest ∷ []
  after = ap (λ us. upto us j) now ∙ last (f newest.newest)

  pub all-before : upto versions j ≡ versions
  all-before = before ∙ sym newest.parts

  pub all-after : upto (on_newest f versions) j ≡ on_newest f versions
  all-after = after ∙ sym now

  pub is-version : EachOf IsVersion versions → IsVersion newest.newest
  is-version h = each-one IsVersion newest.older [] newest.newest (subst (EachOf IsVersion) newest.parts h)

-- the versions up to an older one are as they were
pub older-same : (f : Version → Version) (versions : List Version) (i : ℕ) → suc i < length versions → upto (on_newest f versions) i ≡ upto versions i
older-same f [] i l = refl
older-same f (v ∷ []) i l = absurd (omega (arith, l))
older-same f (v ∷ w ∷ vs) zero l = refl
older-same f (v ∷ w ∷ vs) (suc i) l = ap (λ us. v ∷ us) (older-same f (w ∷ vs) i (omega (arith, l)))

-- where no update stands in a chain, a position is carried where it is known
pub known-of : (u : Option Place) (versions : List Version) (x : Pos) → u ≡ None → IsCarried u (pinned_by_snapshot u versions) versions x → IsKnown Cache versions x
known-of None versions x e h = h
known-of (Some p) versions x e h = absurd (cc)

pub carried-of : (u : Option Place) (versions : List Version) (x : Pos) → u ≡ None → IsKnown Cache versions x → IsCarried u (pinned_by_snapshot u versions) versions x
carried-of None versions x e h = h
carried-of (Some p) versions x e h = absurd (cc)
