use Rattle.std.proofs.Common.{Some, refl, ap, arith}
use Rattle.rc_chain_guarded.proofs.Steps.{bare-none, from-if, known-chains, known-lost}
use Rattle.rc_chain_guarded.proofs.Limits.{dummy-small, limits-split}
use Rattle.rc_chain_guarded.proofs.Fresh.{fresh-free, fresh-has, fresh-last, fresh-listed, inner-before}
use Rattle.rc_memory.specs.Memory.{Memory}
use Rattle.rc_memory.specs.Changes.{member_at}
use Rattle.rc_core.specs.Change.{gap_split}
use Rattle.rc_core.specs.Continuity.{with_entries}
use Rattle.rc_core.specs.Version.{Version}
use Rattle.rc_chain_guarded.proofs.lists.unlist_last.Goals as goal

pub split-e-requires : goal.split-e-requires
split-e-requires c =
    let m = c.begin_update.new.chains in let number = c.in-Some.number in let x = c.args.x.now in let id = c.args.id in let fresh = from-if _ c.begin_update.result number c.begin_update.ensures.fresh c.in-Some.is in
    let room = from-if _ c.begin_update.result number c.begin_update.ensures.room c.in-Some.is in let small = dummy-small x c.requires.limits in
    (omega arith, (c.requires.limits, (fresh-has m id number c.args.phase fresh, (omega (arith, small, room), (omega (arith, small), fresh-last m id number c.args.phase fresh (λ v. with_entries (gap_split x v.entries) v))))))

pub unlist-requires : goal.unlist-requires
unlist-requires c =
    let m = c.begin_update.new.chains in let n = c.split-e.new.self in let number = c.in-Some.number in let x = c.args.x.now in let id = c.args.id in let fresh = from-if _ c.begin_update.result number c.begin_update.ensures.fresh c.in-Some.is in let inner = c.is_end.ensures.inner c.if-is_end.false in let f : Version → Version = λ v. with_entries (gap_split x v.entries) v in
    let s = fresh-listed m id number c.args.phase fresh x inner (inner-before x inner) n c.split-e.ensures.changed.chains c.split-e.ensures.recency in
    (omega arith, (member_at id number (Some x), s.0, s.1, s.2, c.split-e.ensures.here, fresh-free m id number c.args.phase fresh x inner (inner-before x inner) n c.split-e.ensures.changed.chains c.split-e.ensures.recency))

pub returns-in-Some : goal.returns-in-Some
returns-in-Some c =
    let m = c.begin_update.new.chains in let n = c.split-e.new.self in let number = c.in-Some.number in let x = c.args.x.now in let id = c.args.id in let fresh = from-if _ c.begin_update.result number c.begin_update.ensures.fresh c.in-Some.is in let inner = c.is_end.ensures.inner c.if-is_end.false in let f : Version → Version = λ v. with_entries (gap_split x v.entries) v in
    let full = from-if _ c.begin_update.result number c.begin_update.ensures.full c.in-Some.is in let bare = from-if _ c.begin_update.result number c.begin_update.ensures.bare c.in-Some.is in let known = c.begin_update.new.known in
    let s = fresh-listed m id number c.args.phase fresh x inner (inner-before x inner) n c.split-e.ensures.changed.chains c.split-e.ensures.recency in
    let e = c.unlist.ensures.unlisted (member_at id number (Some x)) s.0 s.1 s.2 c.split-e.ensures.here in
    known-chains n c.unlist.new.self (ap (λ (x : Memory). x.chains) e) known full
    (known-lost m n id number f c.split-e.ensures.changed.chains (fresh-has m id number c.args.phase fresh) known known c.begin_update.ensures.known refl full (bare-none known known _ bare) (λ v h. limits-split x v c.requires.limits h))
