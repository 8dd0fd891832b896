-- The span is the partition's, and its bytes give what it says.
use Rattle.std.proofs.Common.{◌≡◌, ◌-◌, ◌∷◌, ℕ, List, length, ap, refl, sym, subst, ◌∙◌, Some, arith, inr}
use Rattle.rc_outside.specs.Files.{LiesInFile, AreBytesOf}
use Rattle.rc_mutation.specs.declared.mutations.Mutation.{Mutation}
use Rattle.rc_tables.proofs.Spans.{decoded, no_part, none_decoded, partition_lies, says, unlocated}
use Rattle.rc_tables.proofs.partition.read_partition.Goals as goal

same : (m n : Mutation) → Some m ≡ Some n → m ≡ n
same m n e = cc

pub read_range-requires : goal.read_range-requires
read_range-requires g c =
    subst (λ f. LiesInFile f c.args.n c.in_ok-span.span.from (c.in_ok-span.span.to - c.in_ok-span.span.from)) (sym c.in_ok-span.ensures.store.0)
    (partition_lies (g.W.Store.files c.args.store.now) c.args.n c.args.dir c.args.here.now c.args.later.now c.in_ok-span.span.from c.in_ok-span.span.to (c.in_ok-span.span.to - c.in_ok-span.span.from) (unlocated (g.W.Store.files c.args.store.now) c.args.schema.now c.args.n c.args.dir (c.args.here.now ∷ c.args.later.now) c.requires) c.in_ok-span.ensures.span (λ i. c.in_ok-span.span.to - c.in_ok-span.span.from))

pub returns-in-Ok-Some-clause-change : goal.returns-in-Ok-Some-clause-change
returns-in-Ok-Some-clause-change g c = λ p is.
    let files = g.W.Store.files c.args.store.now in
    let told : AreBytesOf files c.args.n c.in_ok-span.span.from c.in_ok-bytes.bytes.items = subst (λ f. AreBytesOf f c.args.n c.in_ok-span.span.from c.in_ok-bytes.bytes.items) c.in_ok-span.ensures.store.0 c.in_ok-bytes.ensures.bytes in
    let read : AreBytesOf files c.args.n c.in_ok-span.span.from c.as_slice.result.now = subst (λ b. AreBytesOf files c.args.n c.in_ok-span.span.from b) (sym c.as_slice.ensures.value) told in
    let size = ap (λ (b : List ℕ). length b) c.as_slice.ensures.value ∙ c.in_ok-bytes.ensures.size in
    same c.in-Ok-Some.change p.change
    (sym c.in-Ok-Some.field-0-is ∙ decoded files c.args.schema.now c.args.n c.args.dir c.args.here.now c.args.later.now p c.in_ok-span.span.from c.in_ok-span.span.to c.as_slice.result.now c.in-Ok-Some.field-0 is (c.in_ok-span.ensures.span p is.0) size read c.in-Ok-Some.ensures)

pub returns-in-Ok-None-clause-cause : goal.returns-in-Ok-None-clause-cause
returns-in-Ok-None-clause-cause g c =
    let files = g.W.Store.files c.args.store.now in
    let told : AreBytesOf files c.args.n c.in_ok-span.span.from c.in_ok-bytes.bytes.items = subst (λ f. AreBytesOf f c.args.n c.in_ok-span.span.from c.in_ok-bytes.bytes.items) c.in_ok-span.ensures.store.0 c.in_ok-bytes.ensures.bytes in
    let read : AreBytesOf files c.args.n c.in_ok-span.span.from c.as_slice.result.now = subst (λ b. AreBytesOf files c.args.n c.in_ok-span.span.from b) (sym c.as_slice.ensures.value) told in
    let size = ap (λ (b : List ℕ). length b) c.as_slice.ensures.value ∙ c.in_ok-bytes.ensures.size in
    (omega (arith, c.in_ok-span.ensures.cause, c.in_ok-bytes.ensures.cause), none_decoded files c.args.schema.now c.args.n c.args.dir c.args.here.now c.args.later.now c.in_ok-span.span.from c.in_ok-span.span.to c.as_slice.result.now c.in-Ok-None.field-0 c.requires c.in_ok-span.ensures.span size read c.in-Ok-None.ensures c.in-Ok-None.field-0-is)

pub locate-requires : goal.locate-requires
locate-requires g c = unlocated (g.W.Store.files c.args.store.now) c.args.schema.now c.args.n c.args.dir (c.args.here.now ∷ c.args.later.now) c.requires

pub returns-in-Ok-Some-clause-fits : goal.returns-in-Ok-Some-clause-fits
returns-in-Ok-Some-clause-fits g c = says c.args.schema.now c.args.here.now.key c.as_slice.result.now c.in-Ok-Some.change ((c.in-Ok-Some.ensures c.in-Ok-Some.change).0 c.in-Ok-Some.field-0-is)

pub returns-in-Ok-None-clause-damaged : goal.returns-in-Ok-None-clause-damaged
returns-in-Ok-None-clause-damaged g c =
    let size = ap (λ (b : List ℕ). length b) c.as_slice.ensures.value ∙ c.in_ok-bytes.ensures.size in
    (refl, inr (no_part c.args.schema.now c.args.dir c.args.here.now c.args.later.now c.in_ok-span.span.from c.in_ok-span.span.to c.as_slice.result.now c.in-Ok-None.field-0 c.in_ok-span.ensures.said size c.in-Ok-None.ensures c.in-Ok-None.field-0-is))
