use Rattle.std.proofs.Common.{ℕ, ◌<◌, List, Option, Some, None, refl, sym, ap, ◌∙◌}
use Rattle.std.specs.Prelude.{IsSome, IsSomeAnd}
use Rattle.lsa_kinds.specs.declared.kind.Kind.{Kind}
use Rattle.lsa_kinds.specs.Kinds.{links_of}
use Rattle.lsa_region.specs.declared.end.End.TheVariants.{Obj, Slot}
use Rattle.lsa_region.specs.Region.{body}
use Rattle.lsa_bench.proofs.works.held.Goals as goal

there : (o : Option (Kind × List ℕ)) (field : ℕ) → IsSomeAnd o (λ b. field < links_of b.0) → IsSome o
there None field h = absurd h
there (Some b) field h = refl

pub returns-in-Some-Obj-clause-live : goal.returns-in-Some-Obj-clause-live
returns-in-Some-Obj-clause-live c =
    let r = c.in-Some-Obj.r in let field = c.in-Some-Obj._field in
    there (body c.args.region.now r) field (c.known.ensures.well.ends (Slot c.args.slot) (Obj r field) (sym c.root.ensures ∙ c.in-Some-Obj.is ∙ ap (λ x. Some x) c.in-Some-Obj.field-0-is))
