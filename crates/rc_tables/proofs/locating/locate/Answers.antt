-- What is read of the directory gives the span.
use Rattle.std.specs.Prelude.{◌≡◌, Option, IfSome}
use Rattle.std.proofs.Common.{◌+◌, ℕ, ap, refl, sym, subst, ◌∙◌, List, length}
use Rattle.rc_outside.specs.Files.{AreBytesOf}
use Rattle.rc_tables.specs.declared.locating.Span.{Span}
use Rattle.rc_tables.specs.Located.{MayLie}
use Rattle.rc_tables.proofs.Spans.{directory_lies, no_span, none_found, span_found}
use Rattle.rc_tables.proofs.locating.locate.Goals as goal

pub read_range-requires : goal.read_range-requires
read_range-requires g c =
    directory_lies (g.W.Store.files c.args.store.now) c.args.n c.args.dir c.args.here.now c.args.later.now (c.args.here.now.dir_len + c.glimpse.result) c.requires (ap (λ k. c.args.here.now.dir_len + k) c.glimpse.ensures)

pub returns-in-Ok-Some-clause-span : goal.returns-in-Ok-Some-clause-span
returns-in-Ok-Some-clause-span g c = λ p is.
    let read : AreBytesOf (g.W.Store.files c.args.store.now) c.args.n c.args.here.now.dir_off c.as_slice.result.now = subst (λ b. AreBytesOf (g.W.Store.files c.args.store.now) c.args.n c.args.here.now.dir_off b) (sym c.as_slice.ensures.value) c.in_ok-piece.ensures.bytes in
    let size = ap (λ (b : List ℕ). length b) c.as_slice.ensures.value ∙ c.in_ok-piece.ensures.size ∙ ap (λ k. c.args.here.now.dir_len + k) c.glimpse.ensures in
    span_found (g.W.Store.files c.args.store.now) c.args.n c.args.dir c.args.here.now c.args.later.now p c.as_slice.result.now c.in-Ok-Some.field-0 c.in-Ok-Some.span is read size c.in-Ok-Some.ensures.span c.in-Ok-Some.field-0-is

pub returns-in-Ok-None-clause-cause : goal.returns-in-Ok-None-clause-cause
returns-in-Ok-None-clause-cause g c =
    let read : AreBytesOf (g.W.Store.files c.args.store.now) c.args.n c.args.here.now.dir_off c.as_slice.result.now = subst (λ b. AreBytesOf (g.W.Store.files c.args.store.now) c.args.n c.args.here.now.dir_off b) (sym c.as_slice.ensures.value) c.in_ok-piece.ensures.bytes in
    let size = ap (λ (b : List ℕ). length b) c.as_slice.ensures.value ∙ c.in_ok-piece.ensures.size ∙ ap (λ k. c.args.here.now.dir_len + k) c.glimpse.ensures in
    (c.in_ok-piece.ensures.cause, none_found (g.W.Store.files c.args.store.now) c.args.n c.args.dir c.args.here.now c.args.later.now c.as_slice.result.now c.in-Ok-None.field-0 c.requires read size c.in-Ok-None.ensures.span c.in-Ok-None.field-0-is)

pub returns-in-Ok-None-clause-damaged : goal.returns-in-Ok-None-clause-damaged
returns-in-Ok-None-clause-damaged g c =
    let size = ap (λ (b : List ℕ). length b) c.as_slice.ensures.value ∙ c.in_ok-piece.ensures.size ∙ ap (λ k. c.args.here.now.dir_len + k) c.glimpse.ensures in
    (refl, refl, no_span c.args.dir c.args.here.now c.args.later.now c.as_slice.result.now c.in-Ok-None.field-0 size c.in-Ok-None.ensures.span c.in-Ok-None.field-0-is)

pub returns-in-Ok-Some-clause-said : goal.returns-in-Ok-Some-clause-said
returns-in-Ok-Some-clause-said g c =
    let size = ap (λ (b : List ℕ). length b) c.as_slice.ensures.value ∙ c.in_ok-piece.ensures.size ∙ ap (λ k. c.args.here.now.dir_len + k) c.glimpse.ensures in
    let found = c.in-Ok-Some.field-0-is in
    record {
      piece = c.as_slice.result.now;
      size = size;
      begins = λ x at. subst (λ (o : Option Span). IfSome o (λ span. x ≡ span.from)) found (c.in-Ok-Some.ensures.begins x at);
      ends = λ x at. subst (λ (o : Option Span). IfSome o (λ span. x ≡ span.to)) found (c.in-Ok-Some.ensures.ends x at);
      order = subst (λ (o : Option Span). IfSome o (λ span. MayLie c.args.dir span.from span.to)) found c.in-Ok-Some.ensures.order;
    }
