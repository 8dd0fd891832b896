-- The lines are those of the answer behind the ones that were given before.
use Rattle.std.proofs.Common.{◌≡◌, ◌++◌, arith, refl, length, take, drop, sym, ap, subst, ◌∙◌}
use Rattle.std.specs.Prelude.{IfErr, IfOk, IfSome, OnOk, nat_lt}
use Rattle.rc_paging.specs.declared.layers.HeldSnaps.{HeldSnaps}
use Rattle.rc_paging.specs.declared.pages.PageErr.TheVariants.{NoMemory}
use Rattle.rc_query.specs.Answer.{answer}
use Rattle.rc_paging.specs.Pages.{IsStretchKnown, StandFor, page_end}
use Rattle.rc_paging.specs.Remainders.{given_before}
use Rattle.rc_paging.specs.calls.Remainders.{after_lines}
use Rattle.rc_paging.proofs.OfSlices.{same_of, still_of}
use Rattle.rc_paging.proofs.Paged.{go_on, same_left}
use Rattle.rc_paging.proofs.pages.OpenReader.read.Goals as goal

pub serve-gave-requires : goal.serve-gave-requires
serve-gave-requires g c =
    let l = c.requires.2 in
    (omega arith, (c.requires.0, l.writes, l.later, subst (λ h. StandFor g.row.S c.args.chains.now h c.requires.0 l.writes l.later) (sym c.take_out-held.ensures.taken) l.stand, c.requires.3))

pub returns-in-Ok-go_behind-clause-gives : goal.returns-in-Ok-go_behind-clause-gives
returns-in-Ok-go_behind-clause-gives g c = λ below lines l say.
    let stood = subst (λ h. StandFor g.row.S c.args.chains.now h below l.writes l.later) (sym c.take_out-held.ensures.taken) l.stand in
    let e = subst (λ r. IfOk r (λ gave. gave.0 ≡ take c.args.count (drop (given_before c.args.self.now.remainder) (answer (below ++ (l.writes ++ l.later)) c.args.self.now.remainder.slice)))) c.in-Ok.is (c.serve-gave.ensures.gives l.schema below l.writes l.later l.of_tables l.of_sealed l.of_active stood say) in
    e ∙ ap (take c.args.count) (sym l.are)

pub returns-in-Ok-go_behind-clause-more : goal.returns-in-Ok-go_behind-clause-more
returns-in-Ok-go_behind-clause-more g c = λ below lines l say.
    let stood = subst (λ h. StandFor g.row.S c.args.chains.now h below l.writes l.later) (sym c.take_out-held.ensures.taken) l.stand in
    let e = subst (λ r. IfOk r (λ gave. gave.1 ≡ nat_lt c.args.count (length (drop (given_before c.args.self.now.remainder) (answer (below ++ (l.writes ++ l.later)) c.args.self.now.remainder.slice))))) c.in-Ok.is (c.serve-gave.ensures.more l.schema below l.writes l.later l.of_tables l.of_sealed l.of_active stood say) in
    e ∙ ap (λ ls. nat_lt c.args.count (length ls)) (sym l.are)

pub returns-in-Ok-go_behind-clause-left : goal.returns-in-Ok-go_behind-clause-left
returns-in-Ok-go_behind-clause-left g c = λ below lines l say.
    let stood = subst (λ h. StandFor g.row.S c.args.chains.now h below l.writes l.later) (sym c.take_out-held.ensures.taken) l.stand in
    let stand = subst (λ h. StandFor g.row.S c.serve-gave.new.chains h below l.writes l.later) (sym (c.put_back.ensures ∙ c.serve-gave.ensures.held)) (c.serve-gave.ensures.stand below l.writes l.later stood say) in
    let e = subst (λ r. IfOk r (λ gave. gave.0 ≡ take c.args.count (drop (given_before c.args.self.now.remainder) (answer (below ++ (l.writes ++ l.later)) c.args.self.now.remainder.slice)))) c.in-Ok.is (c.serve-gave.ensures.gives l.schema below l.writes l.later l.of_tables l.of_sealed l.of_active stood say) in
    let k = subst (λ r. IfOk r (λ gave. gave.2 ≡ take 1 (drop c.args.count (drop (given_before c.args.self.now.remainder) (answer (below ++ (l.writes ++ l.later)) c.args.self.now.remainder.slice))))) c.in-Ok.is (c.serve-gave.ensures.behind l.schema below l.writes l.later l.of_tables l.of_sealed l.of_active stood say) in
    go_on g.row.S c.args.chains.now c.serve-gave.new.chains c.args.self.now c.put_back.new.place c.go_behind.new.self below lines c.in-Ok.lines c.in-Ok.behind c.args.count l stand
    (c.in-Ok-go_behind.ensures.ok ∙ ap (λ ls. after_lines ls c.args.self.now.remainder) c.as_slice.ensures)
    (e ∙ ap (take c.args.count) (sym l.are))
    (k ∙ ap (λ ls. take 1 (drop c.args.count ls)) (sym l.are))

pub returns-in-Err-go_behind-clause-left : goal.returns-in-Err-go_behind-clause-left
returns-in-Err-go_behind-clause-left g c = λ below lines l say.
    let stood = subst (λ h. StandFor g.row.S c.args.chains.now h below l.writes l.later) (sym c.take_out-held.ensures.taken) l.stand in
    let stand = subst (λ h. StandFor g.row.S c.serve-gave.new.chains h below l.writes l.later) (sym (c.put_back.ensures ∙ c.serve-gave.ensures.held)) (c.serve-gave.ensures.stand below l.writes l.later stood say) in
    same_left g.row.S c.args.chains.now c.serve-gave.new.chains c.args.self.now c.put_back.new.place c.go_behind.new.self below lines l stand c.in-Err-go_behind.ensures.err

pub returns-in-Err-clause-left : goal.returns-in-Err-clause-left
returns-in-Err-clause-left g c = λ below lines l say.
    let stood = subst (λ h. StandFor g.row.S c.args.chains.now h below l.writes l.later) (sym c.take_out-held.ensures.taken) l.stand in
    let stand = subst (λ h. StandFor g.row.S c.serve-gave.new.chains h below l.writes l.later) (sym (c.put_back.ensures ∙ c.serve-gave.ensures.held)) (c.serve-gave.ensures.stand below l.writes l.later stood say) in
    same_left g.row.S c.args.chains.now c.serve-gave.new.chains c.args.self.now c.put_back.new.place c.args.self.now.remainder below lines l stand refl

pub returns-in-Ok-go_behind-clause-of : goal.returns-in-Ok-go_behind-clause-of
returns-in-Ok-go_behind-clause-of g c = λ slice is.
    still_of slice c.args.self.now.remainder c.go_behind.new.self c.in-Ok.lines (c.in-Ok-go_behind.ensures.ok ∙ ap (λ ls. after_lines ls c.args.self.now.remainder) c.as_slice.ensures) is

pub returns-in-Err-go_behind-clause-of : goal.returns-in-Err-go_behind-clause-of
returns-in-Err-go_behind-clause-of g c = λ slice is. same_of slice c.args.self.now.remainder c.go_behind.new.self c.in-Err-go_behind.ensures.err is

pub returns-in-Err-clause-known : goal.returns-in-Err-clause-known
returns-in-Err-clause-known g c = λ below lines l say known.
    let stood = subst (λ h. StandFor g.row.S c.args.chains.now h below l.writes l.later) (sym c.take_out-held.ensures.taken) l.stand in
    let slice = c.args.self.now.remainder.slice in
    let there = subst (λ ls. IfSome c.args.self.now.held.cached (IsStretchKnown c.args.chains.now slice.from (page_end (drop c.args.count ls) slice))) l.are known in
    let e = c.serve-gave.ensures.known l.schema below l.writes l.later l.of_tables l.of_sealed l.of_active stood say (subst (λ (h : HeldSnaps). IfSome h.cached (IsStretchKnown c.args.chains.now slice.from (page_end (drop c.args.count (drop (given_before c.args.self.now.remainder) (answer (below ++ (l.writes ++ l.later)) slice))) slice))) (sym c.take_out-held.ensures.taken) there) in
    subst (λ r. IfErr r (λ x. x ≡ NoMemory)) c.in-Err.is e

pub returns-in-Ok-go_behind-clause-passed : goal.returns-in-Ok-go_behind-clause-passed
returns-in-Ok-go_behind-clause-passed g c = λ below lines l say none.
    let stood = subst (λ h. StandFor g.row.S c.args.chains.now h below l.writes l.later) (sym c.take_out-held.ensures.taken) l.stand in
    let slice = c.args.self.now.remainder.slice in
    let behind = drop c.args.count (drop (given_before c.args.self.now.remainder) (answer (below ++ (l.writes ++ l.later)) slice)) in
    let e = c.serve-gave.ensures.passed l.schema below l.writes l.later l.of_tables l.of_sealed l.of_active stood say none in
    let f = subst (λ r. OnOk r (IfSome c.take_out-held.result.cached (IsStretchKnown c.args.chains.now slice.from (page_end behind slice)))) c.in-Ok.is e in
    let h = subst (λ (h : HeldSnaps). IfSome h.cached (IsStretchKnown c.args.chains.now slice.from (page_end behind slice))) c.take_out-held.ensures.taken f in
    subst (λ ls. IfSome c.args.self.now.held.cached (IsStretchKnown c.args.chains.now slice.from (page_end (drop c.args.count ls) slice))) (sym l.are) h
