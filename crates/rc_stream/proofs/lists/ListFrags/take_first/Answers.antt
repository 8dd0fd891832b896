-- The first of the list was taken.
use Rattle.std.proofs.Common.{◌+◌, drop, sym, ap, ◌∙◌}
use Rattle.std.proofs.lemmas.List.{take_rest}
use Rattle.rc_mutation.specs.declared.fragments.Head.{Head}
use Rattle.rc_stream.specs.Stream.{clustered_front, first_upto, start_of, static_of}
use Rattle.rc_stream.proofs.Passing.{stream, taken}
use Rattle.rc_stream.proofs.lists.ListFrags.take_first.Goals as goal

pub returns-in-Some-clause-left : goal.returns-in-Some-clause-left
returns-in-Some-clause-left c =
    let list = c.self.inside.list in
    let n = c.self.inside.taken in
    let head : Head = record { pt = start_of list; statics = static_of list } in
    let lent = sym (ap (λ l. first_upto c.args.upto.now (clustered_front (drop n l))) c.as_slice.ensures) in
    let whole = sym (ap (λ l. first_upto c.args.upto.now (clustered_front l)) (take_rest c.as_slice.result.now n)) in
    ap (λ t. stream head t (clustered_front (drop (n + 1) list))) c.tomb_after.ensures
    ∙ taken head c.args.upto.now c.in-Some.frag list n c.in-Passed.tomb c.self.inside.front c.args.self.now c.in-Passed.is (sym c.self.view_is) (lent ∙ whole ∙ sym c.in_ok-frag-in-Passed.ensures ∙ c.in-Some.is)
