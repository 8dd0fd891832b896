-- What an idle place comes to.
use Rattle.std.proofs.Common.{refl, sym, ap, ◌∙◌, subst, inl, inr}
use Rattle.std.specs.Ordering.{is_gt, is_lt}
use Rattle.rc_position.specs.Position.{IsBefore}
use Rattle.rc_stream.specs.Places.{Reaches}
use Rattle.rc_stream.specs.Stream.{first_upto}
use Rattle.rc_cacheread.proofs.Orders.{is-gt, not-lt}
use Rattle.rc_cacheread.proofs.Idle.{closed-front, idle-front, idle-stand, not-none, none-of, unsame}
use Rattle.rc_cacheread.proofs.spots.Spot.turn_here.Goals as goal

pub returns-then-is_gt : goal.returns-then-is_gt
returns-then-is_gt c =
    let s = c.args.self.now in (
      record { due = refl; from = refl; told = refl; tomb = refl },
      (
        ap (first_upto c.args.upto.now) (idle-front s c.requires),
        λ _. inl (subst (λ z. IsBefore c.args.upto.now z) (sym (idle-stand s c.requires)) (is-gt s.place c.args.upto.now (ap is_gt (sym c.cmp.ensures) ∙ sym c.is_gt.ensures ∙ c.if-is_gt.true))),
      ),
    )

pub returns-then-is_none : goal.returns-then-is_none
returns-then-is_none c =
    let s = c.args.self.now in (
      record { due = refl; from = refl; told = refl; tomb = refl },
      (
        ap (first_upto c.args.upto.now) (idle-front s c.requires),
        λ _. inr (
          subst (λ z. Reaches c.args.to.now z) (sym (idle-stand s c.requires)) (not-lt s.place c.args.to.now (ap is_lt (sym c.cmp-2.ensures) ∙ sym c.is_lt.ensures ∙ c.if-is_lt.false)),
          none-of s.tomb c.if-is_none.ensures,
        ),
      ),
    )

pub returns : goal.returns
returns c =
    let s = c.args.self.now in (
      idle-front s c.requires,
      subst (λ z. Reaches c.args.to.now z) (sym (idle-stand s c.requires)) (not-lt s.place c.args.to.now (ap is_lt (sym c.cmp-2.ensures) ∙ sym c.is_lt.ensures ∙ c.if-is_lt.false)),
      refl,
      refl,
      refl,
      closed-front s c.requires (not-none s.tomb c.is_none.result c.is_none.ensures c.if-is_none.false),
      unsame s.tomb (not-none s.tomb c.is_none.result c.is_none.ensures c.if-is_none.false),
    )
