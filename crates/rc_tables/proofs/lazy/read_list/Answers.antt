-- What the tables say joins to one mutation, and so to one stream.
use Rattle.std.proofs.Common.{◌≡◌, ap, sym, ◌∙◌}
use Rattle.rc_mutation.specs.Fragments.{fragments}
use Rattle.rc_mutation.specs.laws.Sources.{IsJoinOf-same}
use Rattle.rc_stream.specs.Stream.{stream_of}
use Rattle.rc_tables.specs.Tables.{changes_at}
use Rattle.rc_tables.proofs.lazy.read_list.Goals as goal

pub returns-in-Ok-clause-stands : goal.returns-in-Ok-clause-stands
returns-in-Ok-clause-stands g c = λ s h.
    let ours = c.in_ok-joined.ensures.joined h.tables h.holds in
    let same : c.in_ok-joined.joined ≡ h.join = IsJoinOf-same c.in_ok-joined.joined h.join (changes_at c.args.key.now h.tables) ours.0 h.joined.0 ours.1 h.joined.1 in
    h.fragments ∙ ap (λ m. stream_of (fragments m)) (sym same) ∙ sym (c.new.ensures ∙ ap stream_of c.in-Ok.ensures)

pub returns-in-Ok-clause-some : goal.returns-in-Ok-clause-some
returns-in-Ok-clause-some g c = record { join = c.in_ok-joined.joined; mutation = c.in_ok-joined.ensures.mutation; some = c.in_ok-joined.ensures.some; fragments = c.new.ensures ∙ ap stream_of c.in-Ok.ensures }
