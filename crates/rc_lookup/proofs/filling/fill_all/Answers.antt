-- How far the fragments are filled at each round, and at the end.
use Rattle.std.proofs.Common.{◌≡◌, ◌∷◌, None, sym, subst, arith}
use Rattle.std.specs.Prelude.{◌-◌, drop, length, take}
use Rattle.rc_cached.specs.calls.Parts.{of_its_filler}
use Rattle.rc_core.specs.Version.{end_position}
use Rattle.rc_position.specs.declared.positions.Pos.{Pos}
use Rattle.rc_rowcode.specs.Spelling.{KeyFits}
use Rattle.rc_row_cache.specs.Crowds.{loses-after, loses-nothing}
use Rattle.rc_lookup.specs.calls.Filling.{FragmentsFit, IsFilling, NoEmptyRows, SaysAll, SaysNone, past}
use Rattle.rc_lookup.proofs.Limits.{none-fits, none-left, past-fits}
use Rattle.rc_lookup.proofs.Fills.{filled-then, filling-more, filling-none, known-gap, known-then, split-first}
use Rattle.rc_lookup.proofs.filling.fill_all.Goals as goal

pub loop-left-init : goal.loop-left-init
loop-left-init g c = (
  subst (λ x. IsFilling (of_its_filler g.row.S) c.args.frags.now c.args.filler.now c.args.home.now c.args.filler.now c.args.home.now x None c.args.frags.now) (sym c.bare.ensures)
      (filling-none (of_its_filler g.row.S) c.args.frags.now c.args.filler.now c.args.home.now c.requires.ready c.requires.written),
  λ fit. (subst (λ (x : Pos). KeyFits x.prefix) (sym c.bare.ensures) none-fits, fit, loses-nothing g.row.S c.args.home.now),
)

pub returns-in-Err-clause-filled : goal.returns-in-Err-clause-filled
returns-in-Err-clause-filled g c =
    filled-then (of_its_filler g.row.S) c.args.filler.now c.args.home.now c.args.filler.now c.loop-left.home c.args.filler.now c.fill_one.new.home c.loop-left.invariant.0.filled c.fill_one.ensures.filled

pub returns-clause-filled : goal.returns-clause-filled
returns-clause-filled g c =
    filled-then (of_its_filler g.row.S) c.args.filler.now c.args.home.now c.args.filler.now c.loop-left.home c.args.filler.now c.fill_gap.new.home c.loop-left.invariant.0.filled c.fill_gap.ensures.filled

pub returns-clause-known : goal.returns-clause-known
returns-clause-known g c = λ m none.
    let i = c.loop-left.invariant.0 in
    known-then (of_its_filler g.row.S) c.args.filler.now c.args.home.now c.args.filler.now c.loop-left.home c.args.filler.now c.fill_gap.new.home _ _ _ i.filled c.fill_gap.ensures.filled i.known
    (known-gap (of_its_filler g.row.S) c.args.filler.now c.loop-left.home c.args.filler.now c.fill_gap.new.home c.loop-left.reached.at c.bare-end.result end_position c.loop-left.reached.tomb c.bare-end.ensures c.fill_gap.ensures.filled c.fill_gap.ensures.known)
    (λ on here k. k here) m none

pub loop-left-preserved : goal.loop-left-preserved
loop-left-preserved g c =
    let i = c.loop-left.invariant.0 in
    let x = c.loop-left.reached.at in
    let tomb = c.loop-left.reached.tomb in
    let f = c.frag-item.result in
    let left = c.loop-left.left.now in
    let more = take (length left - 1) (drop 1 left) in
    let split : left ≡ f ∷ more = split-first left f _ c.in-len1-up.len_at_least c.frag-item.is in
    let now = filling-more (of_its_filler g.row.S) c.args.frags.now c.args.filler.now c.args.home.now c.args.filler.now c.loop-left.home c.args.filler.now c.fill_one.new.home x tomb f more (subst (λ fs. IsFilling (of_its_filler g.row.S) c.args.frags.now c.args.filler.now c.args.home.now c.args.filler.now c.loop-left.home x tomb fs) split i) c.fill_one.ensures.filled c.in-Ok.ensures.known c.fill_one.ensures.stands in (
      subst (λ y. IsFilling (of_its_filler g.row.S) c.args.frags.now c.args.filler.now c.args.home.now c.args.filler.now c.fill_one.new.home y c.fill_one.new.reached.tomb more) (sym c.in-Ok.ensures.at) (subst (λ t. IsFilling (of_its_filler g.row.S) c.args.frags.now c.args.filler.now c.args.home.now c.args.filler.now c.fill_one.new.home (past x f) t more) (sym c.in-Ok.ensures.tomb) now),
      λ fit.
          let l = c.loop-left.invariant.1 fit in
          let fits = subst FragmentsFit split l.1 in
          let written = subst NoEmptyRows split i.written in (
            subst (λ (p : Pos). KeyFits p.prefix) (sym c.in-Ok.ensures.at) (past-fits x f l.0 fits.0),
            fits.1,
            loses-after g.row.S 0 c.args.home.now c.loop-left.home c.fill_one.new.home l.2 (c.fill_one.ensures.loses l.0 fits.0 written.0),
          ),
    )

pub returns-in-Err-clause-loses : goal.returns-in-Err-clause-loses
returns-in-Err-clause-loses g c = λ fit.
    let i = c.loop-left.invariant.0 in
    let f = c.frag-item.result in
    let left = c.loop-left.left.now in
    let more = take (length left - 1) (drop 1 left) in
    let split : left ≡ f ∷ more = split-first left f _ c.in-len1-up.len_at_least c.frag-item.is in
    let l = c.loop-left.invariant.1 fit in
    let fits = subst FragmentsFit split l.1 in
    let written = subst NoEmptyRows split i.written in
    loses-after g.row.S 0 c.args.home.now c.loop-left.home c.fill_one.new.home l.2 (c.fill_one.ensures.loses l.0 fits.0 written.0)

pub returns-clause-loses : goal.returns-clause-loses
returns-clause-loses g c = λ fit.
    let l = c.loop-left.invariant.1 fit in
    loses-after g.row.S 0 c.args.home.now c.loop-left.home c.fill_gap.new.home l.2 (c.fill_gap.ensures.loses l.0 (subst (λ (x : Pos). KeyFits x.prefix) (sym c.bare-end.ensures) none-fits))

pub fill_gap-requires : goal.fill_gap-requires
fill_gap-requires g c =
    let i = c.loop-left.invariant.0 in
    let source = c.requires.source in
    let now = i.stands source.0 source.1 source.2 in
    let x = c.loop-left.reached.at in
    let tomb = c.loop-left.reached.tomb in
    (omega arith, (i.filled.ready, (source.0, now.0, subst (λ (y : Pos). SaysNone source.0 x y tomb) (sym c.bare-end.ensures) (none-left source.0 x tomb c.loop-left.left.now c.in_default.len_below now.1))))

pub returns-in-Err-clause-stands : goal.returns-in-Err-clause-stands
returns-in-Err-clause-stands g c = λ writes stood says.
    let i = c.loop-left.invariant.0 in
    let f = c.frag-item.result in
    let left = c.loop-left.left.now in
    let more = take (length left - 1) (drop 1 left) in
    let split : left ≡ f ∷ more = split-first left f _ c.in-len1-up.len_at_least c.frag-item.is in
    let now = i.stands writes stood says in
    c.fill_one.ensures.stands writes now.0 (subst (SaysAll writes c.loop-left.reached.at c.loop-left.reached.tomb) split now.1).0

pub returns-clause-stands : goal.returns-clause-stands
returns-clause-stands g c = λ writes stood says.
    let i = c.loop-left.invariant.0 in
    let now = i.stands writes stood says in
    let x = c.loop-left.reached.at in
    let tomb = c.loop-left.reached.tomb in
    c.fill_gap.ensures.stands writes now.0 (subst (λ (y : Pos). SaysNone writes x y tomb) (sym c.bare-end.ensures) (none-left writes x tomb c.loop-left.left.now c.in_default.len_below now.1))
