use Rattle.std.proofs.Common.{sym, ◌∙◌, subst}
use Rattle.rc_position.specs.laws.Orders.{pos_cmp_same}
use Rattle.rc_core.specs.Chain.{content, states_at}
use Rattle.rc_core.specs.Version.{On}
use Rattle.rc_reading.specs.laws.{before-end}
use Rattle.rc_reading.specs.Reading.{IsRowGiven, read_versions}
use Rattle.rc_reading.proofs.Nearest.{upto-before}
use Rattle.rc_reading.proofs.parts.first_part.Goals as goal

pub returns-in-Equal : goal.returns-in-Equal
returns-in-Equal g c = λ read u. pos_cmp_same c.args.x.now c.args.upto.now (sym c.cmp.ensures ∙ c.in-Equal.is)

pub returns-then-not-known : goal.returns-then-not-known
returns-then-not-known g c = λ read u.
    let r = c.in_ok-to.ensures read u in
    (upto-before c.in_ok-to.to c.args.upto.now c.args.x.now r.within r.ahead, λ k. let clash = sym c.if-not-known.true ∙ (c.in_ok-known.ensures.known read u).1 k in cc, r)

pub returns-in_default-row : goal.returns-in_default-row
returns-in_default-row g c = λ read u.
    let r = c.in_ok-to-2.ensures read u in
    let l = upto-before c.in_ok-to-2.to c.args.upto.now c.args.x.now r.within r.ahead in (
      l,
      (c.in_ok-known.ensures.known read u).0 c.if-not-known.false,
      record { inside = before-end c.args.x.now c.args.upto.now l; no_row = subst (λ o. IsRowGiven o (content (states_at (On c.args.x.now) (read_versions read))).0) c.in_default-row.is (c.in_ok-known.ensures.row read u) },
      r,
      sym (c.in_ok-known.ensures.tomb read u),
    )
