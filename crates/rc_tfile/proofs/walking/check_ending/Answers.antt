-- The directory, the tail, and nothing else.
use Rattle.std.proofs.Common.{◌≡◌, rules, [], ◌∷◌, ◌++◌, ◌∙◌, List, length, subst, sym, append-nil, Ok, Err}
use Rattle.std.specs.List.{flat_map}
use Rattle.std.proofs.lemmas.Result.{err_from_is_err_and}
use Rattle.rc_items.specs.Items.{Item, TailItem}
use Rattle.rc_items.specs.Blocks.{DirectoryEntry, entry_items}
use Rattle.rc_tfile.specs.calls.Walking.{Awaits, Expects}
use Rattle.rc_tfile.proofs.Awaiting.{both_come, ended_there, ending_is}
use Rattle.rc_tfile.proofs.walking.check_ending.Goals as goal

pub returns-in_err-check_directory-clause-whole : goal.returns-in_err-check_directory-clause-whole
returns-in_err-check_directory-clause-whole g c = λ schema start is a.
    let o = c.args.outline.now in
    let p = err_from_is_err_and c.from_residual.result c.from_residual.ensures.1 in
    let first = subst (λ (es : List DirectoryEntry). Expects (g.W.Store.files c.args.store.now) (g.W.Store.files c.check_directory.new.store) (flat_map entry_items es) (Err c.in_err-check_directory.field-0.0) c.args.file.now c.check_directory.new.file) c.as_slice.ensures.value c.in_err-check_directory.ensures.next in
    rw (p.1, p.2) (first schema start (TailItem o.off (length o.listed.items) ∷ []) (subst (λ (l : List Item). Awaits (g.W.Store.files c.args.store.now) schema start l c.args.file.now) (sym (ending_is start o is)) a))

pub returns-in_err-check_tail-clause-whole : goal.returns-in_err-check_tail-clause-whole
returns-in_err-check_tail-clause-whole g c = λ schema start is a.
    let o = c.args.outline.now in
    let p = err_from_is_err_and c.from_residual-in_err-check_tail.result c.from_residual-in_err-check_tail.ensures.1 in
    let first = subst (λ (es : List DirectoryEntry). Expects (g.W.Store.files c.args.store.now) (g.W.Store.files c.check_directory.new.store) (flat_map entry_items es) (Ok tt) c.args.file.now c.check_directory.new.file) c.as_slice.ensures.value c.in_ok-check_directory.ensures.next in
    let count : c.len.result ≡ length o.listed.items = search rules in
    let second = subst (λ n. Expects (g.W.Store.files c.check_directory.new.store) (g.W.Store.files c.check_tail.new.store) (TailItem o.off n ∷ []) (Err c.in_err-check_tail.field-0.0) c.check_directory.new.file c.check_tail.new.file) count c.in_err-check_tail.ensures.next in
    let all = flat_map entry_items o.listed.items ++ TailItem o.off (length o.listed.items) ∷ [] in
    rw (p.1, p.2) (both_come (g.W.Store.files c.args.store.now) (g.W.Store.files c.check_directory.new.store) (g.W.Store.files c.check_tail.new.store) (flat_map entry_items o.listed.items) (TailItem o.off (length o.listed.items) ∷ []) (Err c.in_err-check_tail.field-0.0)
    c.args.file.now c.check_directory.new.file c.check_tail.new.file first second schema start [] (subst (λ (l : List Item). Awaits (g.W.Store.files c.args.store.now) schema start l c.args.file.now) (sym (append-nil all ∙ ending_is start o is)) a))

pub returns-clause-whole : goal.returns-clause-whole
returns-clause-whole g c = λ schema start is a.
    let o = c.args.outline.now in
    let first = subst (λ (es : List DirectoryEntry). Expects (g.W.Store.files c.args.store.now) (g.W.Store.files c.check_directory.new.store) (flat_map entry_items es) (Ok tt) c.args.file.now c.check_directory.new.file) c.as_slice.ensures.value c.in_ok-check_directory.ensures.next in
    let count : c.len.result ≡ length o.listed.items = search rules in
    let second = subst (λ n. Expects (g.W.Store.files c.check_directory.new.store) (g.W.Store.files c.check_tail.new.store) (TailItem o.off n ∷ []) (Ok tt) c.check_directory.new.file c.check_tail.new.file) count c.in_ok-check_tail.ensures.next in
    let all = flat_map entry_items o.listed.items ++ TailItem o.off (length o.listed.items) ∷ [] in
    ended_there (g.W.Store.files c.check_tail.new.store) (g.W.Store.files c.check_end.new.store) schema start c.check_end.result c.check_tail.new.file c.check_end.new.file
    (both_come (g.W.Store.files c.args.store.now) (g.W.Store.files c.check_directory.new.store) (g.W.Store.files c.check_tail.new.store) (flat_map entry_items o.listed.items) (TailItem o.off (length o.listed.items) ∷ []) (Ok tt)
    c.args.file.now c.check_directory.new.file c.check_tail.new.file first second schema start [] (subst (λ (l : List Item). Awaits (g.W.Store.files c.args.store.now) schema start l c.args.file.now) (sym (append-nil all ∙ ending_is start o is)) a))
    c.check_end.ensures.end
