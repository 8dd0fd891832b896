-- What was read follows what was ahead.
use Rattle.std.proofs.Common.{◌≡◌, ◌++◌, drop, subst, sym, ap, ◌∙◌, arith}
use Rattle.std.proofs.lemmas.List.{take_rest, take_at}
use Rattle.rc_tfile.specs.calls.Windows.{ReadAhead, IsAheadIn}
use Rattle.rc_tfile.specs.Checking.{IsContent}
use Rattle.rc_tfile.proofs.Ahead.{read_on, bytes_told}
use Rattle.rc_tfile.proofs.window.Window.read.Goals as goal

pub returns-clause-told : goal.returns-clause-told
returns-clause-told g c = λ front told content here.
    let is = subst (λ f. IsContent f c.self.inside.number content) c.in_default.ensures.store.0 here in
    let old = (subst (λ (w : ReadAhead). IsAheadIn (g.W.Store.files c.args.store.now) front w) (sym c.self.view_is) told) content is in
    let piece : c.as_slice.result.now ≡ c.read_at.new.into = c.as_slice.ensures.value ∙ take_at c.read_at.new.into _ c.in_ok-piece.piece.len (omega (arith, c.read_at.auto.into, c.as_mut_slice.ensures.len)) in
    let got = bytes_told (g.W.Store.files c.args.store.now) c.self.inside.number c.self.inside.end c.read_at.new.into content is c.in_default.ensures.bytes in
    let ahead = drop c.self.inside.at c.self.inside.bytes.items in
    let more = c.in_default-extend_from_slice.ensures.items ∙ (λ i. (c.in_ok-kept.ensures ∙ take_rest c.deref.result.now c.self.inside.at ∙ ap (drop c.self.inside.at) c.deref.ensures.value) i ++ piece i) in
    read_on content front ahead old.unread c.read_at.new.into c.self.inside.end _ old.whole old.read old.size got (omega (arith, c.read_at.auto.into, c.as_mut_slice.ensures.len, c.in_ok-piece.ensures)) more
