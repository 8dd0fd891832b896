use Rattle.std.proofs.Common.{◌≡◌, ℕ, ◌+◌, ◌^◌, ◌<◌, ◌≤◌, List, Option, Some, None, length, take, ap, ◌∙◌, subst}
use Rattle.std.specs.Prelude.{IsSomeAnd}
use Rattle.lsa_kinds.specs.declared.kind.Kind.{Kind}
use Rattle.lsa_kinds.specs.Fields.{spelled_number, IsPut}
use Rattle.lsa_kinds.specs.laws.Fields.{take-spelled}
use Rattle.lsa_store.specs.Bytes.{overwritten}
use Rattle.lsa_region.specs.Region.{IsWritten, body}
use Rattle.lsa_region.specs.laws.Fields.{number-written}
use Rattle.lsa_region.proofs.region.Region.write_field.Goals as goal

pub returns-clause-written : goal.returns-clause-written
returns-clause-written g c =
    let width = c.args.field.1 in
    let bytes : take width c.as_slice.result.now ≡ spelled_number width c.args.value = ap (take width) (c.as_slice.ensures ∙ c.spell-bytes.ensures) ∙ take-spelled width 8 c.args.value c.requires.width in
    subst (λ l. IsWritten c.args.self.now c.write.new.self c.args.r (λ b. overwritten b c.args.field.0 l)) bytes c.write.ensures.written

put-some : (o : Option (Kind × List ℕ)) (offset width value : ℕ) → IsSomeAnd o (λ b. offset + width ≤ length b.1) → value < 256 ^ width → IsSomeAnd o (λ b. IsPut b.1 (overwritten b.1 offset (spelled_number width value)) offset width value)
put-some None offset width value inside fits = absurd inside
put-some (Some b) offset width value inside fits = number-written b.1 offset width value inside fits

pub returns-clause-put : goal.returns-clause-put
returns-clause-put g c = put-some (body c.args.self.now c.args.r) c.args.field.0 c.args.field.1 c.args.value c.requires.inside c.requires.fits
