use Rattle.std.proofs.Common.{◌≡◌, [], Some, None, sym, ap, ◌∙◌, subst, arith}
use Rattle.lsa_region.specs.Region.{View}
use Rattle.rc_core.specs.declared.entries.Flag.TheVariants.{Unknown}
use Rattle.rc_core.specs.Steps.{set_flags, set_tombs}
use Rattle.rc_core.specs.Version.{end_position}
use Rattle.rc_object.specs.Objects.{HoldsEntry}
use Rattle.rc_memory.specs.Memory.{Member, Memory}
use Rattle.rc_evict.specs.Evictions.{evicted_at}
use Rattle.rc_evict.proofs.Losing.{changed-joined, changed-listed, end-entry, end-free, end-written}
use Rattle.rc_evict.proofs.evicting.lose_end.Goals as goal

pub marks-requires : goal.marks-requires
marks-requires g c =
    let y = end-entry c.args.chains.now c.args.end c.requires.0 c.requires.4 (c.known.ensures.held c.args.end c.requires.0 c.requires.3) in
    (omega arith, (y.0, subst (λ (v : View). HoldsEntry v c.args.end y.0) (sym c.region.ensures) y.1))

pub set_tombs-requires : goal.set_tombs-requires
set_tombs-requires g c =
    let s = c.set_flags.ensures.set c.requires.0 end_position c.requires.4 c.requires.3 in
    (omega arith, (c.requires.0, end_position, c.requires.4, s.still.objects c.args.end c.requires.0 (λ none. none) c.requires.3))

pub unlist-requires : goal.unlist-requires
unlist-requires g c =
    let s = c.set_flags.ensures.set c.requires.0 end_position c.requires.4 c.requires.3 in
    let here = s.still.objects c.args.end c.requires.0 (λ none. none) c.requires.3 in
    let t = c.set_tombs.ensures.set c.requires.0 end_position c.requires.4 here in
    (omega arith, (c.requires.0, [], c.requires.1, c.set_tombs.ensures.recency ∙ c.set_flags.ensures.recency ∙ c.requires.2, t.still.objects c.args.end c.requires.0 (λ none. none) here, end-free c.set_tombs.new.self c.requires.0 c.requires.4))

pub returns-clause-lost : goal.returns-clause-lost
returns-clause-lost g c = λ w rest list here.
    let m = c.args.chains.now in
    let one = c.known.ensures.place c.args.end w c.requires.0 here c.requires.3 in
    let at : w.position ≡ Some end_position = ap (λ (x : Member). x.position) one ∙ c.requires.4 in
    let s = c.set_flags.ensures.set w end_position at here in
    let first = s.still.objects c.args.end w (λ none. none) here in
    let t = c.set_tombs.ensures.set w end_position at first in
    let second = t.still.objects c.args.end w (λ none. none) first in
    let off = c.unlist.ensures.unlisted w [] rest (c.set_tombs.ensures.recency ∙ c.set_flags.ensures.recency ∙ list) second in
    let written = end-written m c.args.end w c.marks.result.0 at (c.known.ensures.held c.args.end w here) c.known.ensures.versions (λ y h. (c.marks.ensures y (subst (λ (v : View). HoldsEntry v c.args.end y) (sym c.region.ensures) h)).0) in
    let both = changed-joined (set_flags end_position c.marks.result.0.flag Unknown) (set_tombs end_position c.marks.result.0.tomb None) (evicted_at w.position) w.chain w.version m c.set_flags.new.self c.set_tombs.new.self s t written in
    (ap (λ (x : Memory). x.recency) off, changed-listed w.chain w.version (evicted_at w.position) m c.set_tombs.new.self c.unlist.new.self rest both off c.unlist.ensures.objects c.unlist.ensures.still)
