-- Each form leaves its own lines.
use Rattle.std.proofs.Common.{sym, subst}
use Rattle.std.specs.Prelude.{⊤, OnOk}
use Rattle.rc_paging.specs.Forms.{ByForm}
use Rattle.rc_paging.specs.Pages.{IsPageKnown}
use Rattle.rc_paging.specs.Remainders.{IsRemainderOf}
use Rattle.rc_paging.proofs.OfForms.{cached_by, cached_of, past_refused}
use Rattle.rc_paging.proofs.forms.PartReader.read.Goals as goal

pub returns-clause-left : goal.returns-clause-left
returns-clause-left g c = λ below lines l say.
    past_refused _ _ c.args.chains.now c.read-in-Past.new.chains c.args.self.now c.in-Past.reader c.read-in-Past.new.self lines c.args.count c.read-in-Past.result c.in-Err.field-0 c.in-Past.is c.in-Err.is (c.read-in-Past.ensures.left lines) l

pub returns-in-Cached-clause-of : goal.returns-in-Cached-clause-of
returns-in-Cached-clause-of g c = λ slice is. c.read.ensures.of slice (cached_of (λ o. IsRemainderOf slice o.remainder) c.args.self.now c.in-Cached.reader c.in-Cached.is is)

pub returns-in-Cached-clause-known : goal.returns-in-Cached-clause-known
returns-in-Cached-clause-known g c = λ below lines l say known.
    c.read.ensures.known below lines (cached_by _ _ c.args.self.now c.in-Cached.reader c.in-Cached.is l) say (cached_of (λ o. IsPageKnown c.args.chains.now o c.args.count lines) c.args.self.now c.in-Cached.reader c.in-Cached.is known)

pub returns-in-Cached-clause-passed : goal.returns-in-Cached-clause-passed
returns-in-Cached-clause-passed g c = λ below lines l say none.
    subst (λ r. OnOk c.read.result (ByForm (λ o. IsPageKnown c.args.chains.now o c.args.count lines) (λ _. ⊤) r)) (sym c.in-Cached.is) (c.read.ensures.passed below lines (cached_by _ _ c.args.self.now c.in-Cached.reader c.in-Cached.is l) say none)
