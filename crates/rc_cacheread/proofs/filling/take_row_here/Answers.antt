-- The row stands at the place itself, and is not empty; or it says nothing.
use Rattle.rc_stream.specs.Snapshot.{SayThere}
use Rattle.std.specs.Prelude.{◌≡◌, None}
use Rattle.std.proofs.Common.{refl, sym, ap, ◌∙◌, subst, inl, inr}
use Rattle.std.specs.Ordering.{is_eq}
use Rattle.rc_position.specs.Position.{row_pos}
use Rattle.rc_cacheread.specs.calls.Below.{Filling}
use Rattle.rc_cacheread.proofs.Chains.{one}
use Rattle.rc_cacheread.proofs.Lists.{untrue}
use Rattle.rc_cacheread.proofs.Orders.{at-itself, is-eq, reach-itself}
use Rattle.rc_cacheread.specs.Reading.{behind_row}
use Rattle.rc_cacheread.specs.laws.Passing.{over-nothing}
use Rattle.rc_cacheread.proofs.Passed.{over-ends, over-row, same-stand, taken-nothing}
use Rattle.rc_cacheread.specs.Spots.{stand}
use Rattle.rc_cacheread.proofs.filling.take_row_here.Goals as goal
use Rattle.rc_cacheread.proofs.filling.take_row_here.Goals.{then-is_empty-via-then-is_empty, then-is_empty-via-else-is_empty+then-not-is_eq}

pub returns-then-is_empty-clause-took : goal.returns-then-is_empty-clause-took
returns-then-is_empty-clause-took g c =
    record {
      place = c.change_to.ensures.place;
      told = c.change_to.ensures.told;
      again = c.change_to.ensures.again;
      tomb = c.change_to.ensures.tomb;
      since = c.change_to.ensures.since;
      due = inl (
        c.change_to.ensures.row,
        elim c.then-is_empty.branch [
          | then-is_empty-via-then-is_empty w ↦ inl (c.is_empty.ensures.0 w.if-is_empty.true)
          | then-is_empty-via-else-is_empty+then-not-is_eq w ↦ inr (λ e. untrue (sym (at-itself (row_pos c.args.key) c.change_to.new.self.place (e ∙ sym c.change_to.ensures.place)) ∙ ap is_eq (sym w.compare_with_pos.ensures) ∙ sym w.is_eq.ensures ∙ w.if-not-is_eq.true))
        ],
      );
    }

pub row-requires-clause-source : goal.row-requires-clause-source
row-requires-clause-source g c =
    let same : row_pos c.args.key ≡ c.args.spot.now.place = is-eq (row_pos c.args.key) c.change_to.new.self.place (ap is_eq (sym c.compare_with_pos.ensures) ∙ sym c.is_eq.ensures ∙ c.if-not-is_eq.false) ∙ c.change_to.ensures.place in
    let writes = c.requires.source.0 in
    (writes, c.requires.source.1, subst (λ z. SayThere writes z (c.args.row, None)) (sym same) (c.requires.source.2 same))

pub returns-clause-took : goal.returns-clause-took
returns-clause-took g c =
    let same : row_pos c.args.key ≡ c.args.spot.now.place = is-eq (row_pos c.args.key) c.change_to.new.self.place (ap is_eq (sym c.compare_with_pos.ensures) ∙ sym c.is_eq.ensures ∙ c.if-not-is_eq.false) ∙ c.change_to.ensures.place in
    record {
      place = c.change_to.ensures.place;
      told = c.change_to.ensures.told;
      again = c.change_to.ensures.again;
      tomb = c.change_to.ensures.tomb;
      since = c.change_to.ensures.since;
      due = inr (same, λ e. untrue (sym (c.is_empty.ensures.1 e) ∙ c.if-is_empty.false), refl);
    }

pub returns-clause-did : goal.returns-clause-did
returns-clause-did g c = one (λ ok. Filling g.P.Filler.fills) (c.args.filler.now, c.args.home.now) (c.row.new.self, c.row.new.home) c.row.ensures.did

pub returns-then-is_empty-clause-taken : goal.returns-then-is_empty-clause-taken
returns-then-is_empty-clause-taken g c =
    taken-nothing g.P.Filler.may g.P.Filler.lost g.P.Filler.knows c.args.filler.now c.args.home.now c.args.spot.now.place (stand c.change_to.new.self) (same-stand c.args.spot.now c.change_to.new.self c.change_to.ensures.place c.change_to.ensures.row c.requires.unread)

pub returns-clause-taken : goal.returns-clause-taken
returns-clause-taken g c =
    let same : row_pos c.args.key ≡ c.args.spot.now.place = is-eq (row_pos c.args.key) c.change_to.new.self.place (ap is_eq (sym c.compare_with_pos.ensures) ∙ sym c.is_eq.ensures ∙ c.if-not-is_eq.false) ∙ c.change_to.ensures.place in
    let now = g.P.Filler.knows c.row.new.self c.row.new.home in
    let key = c.args.key in
    record {
      still = c.row.ensures.may;
      each = c.row.ensures.keeps;
      now = λ m e. over-ends now (row_pos key) c.args.spot.now.place (behind_row key) (behind_row c.change_to.new.self.place.prefix) (sym same) (ap (λ z. behind_row z.prefix) (c.change_to.ensures.place ∙ sym same)) (over-row now (row_pos key) key c.args.row _ (reach-itself (row_pos key)) (over-nothing now (row_pos key) (row_pos key) refl) (c.row.ensures.known m e) (λ k. untrue (sym (c.is_empty.ensures.1 k) ∙ c.if-is_empty.false)));
    }

pub returns-then-is_empty-clause-stands : goal.returns-then-is_empty-clause-stands
returns-then-is_empty-clause-stands g c = λ writes d t. d

pub returns-clause-stands : goal.returns-clause-stands
returns-clause-stands g c = λ writes d t.
    let same : row_pos c.args.key ≡ c.args.spot.now.place = is-eq (row_pos c.args.key) c.change_to.new.self.place (ap is_eq (sym c.compare_with_pos.ensures) ∙ sym c.is_eq.ensures ∙ c.if-not-is_eq.false) ∙ c.change_to.ensures.place in
    c.row.ensures.stands writes d (subst (λ z. SayThere writes z (c.args.row, None)) (sym same) (t same))
