-- The first of those that are left comes next.
use Rattle.std.proofs.Common.{◌-◌, ◌++◌, List, length, take, drop, subst, append_assoc}
use Rattle.std.specs.List.{flat_map}
use Rattle.std.proofs.lemmas.Result.{err_from_is_err_and}
use Rattle.rc_items.specs.Items.{Item}
use Rattle.rc_items.specs.Blocks.{DirectoryEntry, entry_items}
use Rattle.rc_tfile.specs.calls.Walking.{Awaits}
use Rattle.rc_tfile.specs.laws.Follows.{first_and_rest}
use Rattle.rc_tfile.proofs.walking.check_directory.Goals as goal

pub returns-in_err-check_listed-clause-next : goal.returns-in_err-check_listed-clause-next
returns-in_err-check_listed-clause-next g c =
    let left = first_and_rest c.loop-left.left.now c.listed-item.result c.in-len1-up.len_at_least c.listed-item.is in
    let behind : List DirectoryEntry = take (length c.loop-left.left.now - 1) (drop 1 c.loop-left.left.now) in
    let p = err_from_is_err_and c.from_residual.result c.from_residual.ensures.1 in
    rw (p.1, p.2) (λ schema start more a. c.in_err-check_listed.ensures.next schema start (flat_map entry_items behind ++ more)
    (subst (λ (l : List Item). Awaits (g.W.Store.files c.loop-left.store) schema start l c.loop-left.file) (append_assoc (entry_items c.listed-item.result) (flat_map entry_items behind) more)
    (subst (λ (es : List DirectoryEntry). Awaits (g.W.Store.files c.loop-left.store) schema start (flat_map entry_items es ++ more) c.loop-left.file) left (c.loop-left.invariant.next schema start more a))))
