-- The lines are those of the stream for which the layers stand; what they pass is known up to where the page ends.
use Rattle.std.proofs.Common.{◌≡◌, ◌++◌, ◌+◌, refl, sym, ap, subst, ◌∙◌, take, drop, length}
use Rattle.std.proofs.lemmas.List.Elements.{All-append}
use Rattle.std.specs.Prelude.{IfOk, IfSome, nat_lt}
use Rattle.rc_memory.specs.Memory.{Memory}
use Rattle.rc_writes.specs.Allowed.{ChangeFits}
use Rattle.rc_query.specs.Answer.{answer}
use Rattle.rc_cached.specs.declared.readings.Readings.{Readings}
use Rattle.rc_paging.specs.Pages.{IsStretchKnown, page_end}
use Rattle.rc_paging.proofs.Found.{drop_both, found}
use Rattle.rc_paging.proofs.Passing.{begun_passed}
use Rattle.rc_paging.proofs.Quiet.{begun, begun_static}
use Rattle.rc_paging.proofs.Sought.{of_ok}
use Rattle.rc_paging.proofs.paging.paged.Goals as goal

pub returns-in-Ok-clause-gives : goal.returns-in-Ok-clause-gives
returns-in-Ok-clause-gives g c = λ schema below writes later tables fits more stand say.
    let seen = of_ok _ c.layers_from-layers.result.1 c.in-Ok.field-0 c.in-Ok.is (c.layers_from-layers.ensures.seen schema below writes later tables fits more stand say) in
    subst (λ ls. IfOk c.page.result.1 (λ gave. gave.0 ≡ take c.args.count (drop c.args.passed ls))) (seen.2 c.args.slice.now refl) (c.page.ensures.gives seen.0 seen.1)

pub returns-in-Ok-clause-more : goal.returns-in-Ok-clause-more
returns-in-Ok-clause-more g c = λ schema below writes later tables fits more stand say.
    let seen = of_ok _ c.layers_from-layers.result.1 c.in-Ok.field-0 c.in-Ok.is (c.layers_from-layers.ensures.seen schema below writes later tables fits more stand say) in
    subst (λ ls. IfOk c.page.result.1 (λ gave. gave.1 ≡ nat_lt c.args.count (length (drop c.args.passed ls)))) (seen.2 c.args.slice.now refl) (c.page.ensures.more seen.0 seen.1)

pub returns-in-Ok-clause-behind : goal.returns-in-Ok-clause-behind
returns-in-Ok-clause-behind g c = λ schema below writes later tables fits more stand say.
    let seen = of_ok _ c.layers_from-layers.result.1 c.in-Ok.field-0 c.in-Ok.is (c.layers_from-layers.ensures.seen schema below writes later tables fits more stand say) in
    subst (λ ls. IfOk c.page.result.1 (λ gave. gave.2 ≡ take 1 (drop c.args.count (drop c.args.passed ls)))) (seen.2 c.args.slice.now refl) (c.page.ensures.behind seen.0 seen.1)

pub returns-in-Ok-clause-quiet : goal.returns-in-Ok-clause-quiet
returns-in-Ok-clause-quiet g c = λ schema below writes later tables fits more stand say. λ known.
    let seen = of_ok _ c.layers_from-layers.result.1 c.in-Ok.field-0 c.in-Ok.is (c.layers_from-layers.ensures.seen schema below writes later tables fits more stand say) in
    let home = c.layers_from-layers.ensures.home in
    let slice = c.args.slice.now in
    let behind = drop c.args.count (drop c.args.passed (answer (below ++ (writes ++ later)) slice)) in
    let y = page_end behind slice in
    let begins = c.layers_from-layers.ensures.begun in
    let there = subst (λ (z : Memory). IfSome c.args.held.cached (IsStretchKnown z slice.from y)) (sym home) known in
    let end = found c.an_answer_is_cut_behind_each_line.ensures.cut c.the_lines_on_each_side_are_those_of_a_part.ensures.before schema (below ++ (writes ++ later)) (All-append (ChangeFits schema) below (writes ++ later) tables.fit (All-append (ChangeFits schema) writes later fits.fit more.fit)) slice _ seen.0 seen.1 seen.2 (c.args.passed + c.args.count) behind (drop_both c.args.passed c.args.count (answer (below ++ (writes ++ later)) slice)) in
    let quiet = c.page.ensures.quiet y c.args.held.cached end
    (begun g.row.S slice.from y c.args.held.cached c.layers_from-layers.new.chains c.layers_from-layers.new.readings c.layers_from-layers.result.0 begins.layers.cached (of_ok _ c.layers_from-layers.result.1 c.in-Ok.field-0 c.in-Ok.is c.layers_from-layers.ensures.placed) there)
    (begun_static g.row.S slice.from y c.args.held.cached c.layers_from-layers.new.chains c.layers_from-layers.result.0 begins.layers.cached there) in
    (quiet.0.store ∙ c.layers_from-layers.ensures.store, quiet.1)

pub returns-in-Ok-clause-passed : goal.returns-in-Ok-clause-passed
returns-in-Ok-clause-passed g c = λ none.
    let begins = c.layers_from-layers.ensures.begun in
    let unread = begins.unread (ap (λ (w : Readings). w.list) c.layers_from-layers.ensures.store ∙ none) in
    c.page.ensures.passed (begun_passed c.args.slice.now.from c.layers_from-layers.new.chains c.layers_from-layers.new.readings c.args.held.cached c.layers_from-layers.result.0 begins.layers.cached (of_ok _ c.layers_from-layers.result.1 c.in-Ok.field-0 c.in-Ok.is c.layers_from-layers.ensures.placed) unread)
