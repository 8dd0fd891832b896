use Rattle.std.proofs.Common.{◌≢◌, [], ◌∷◌, ◌++◌, sym, subst, arith}
use Rattle.std.specs.Prelude.{IsSomeAnd}
use Rattle.lsa_kinds.specs.declared.kind.Kind.TheVariants.{Version, Dummy}
use Rattle.lsa_tests.proofs.Listed.{still, made}
use Rattle.lsa_tests.proofs.list.Beside.add.Goals as goal

differs : Dummy ≢ Version
differs e = cc

pub invariant_of-self : goal.invariant_of-self
invariant_of-self c = let i = c.self.inside in let n = c.ensure.ensures.renamed in still i.list i.region c.ensure.new.region c.known.ensures.well n.0 n.1 c.self.invariant.0 c.self.invariant.1

pub push_back-requires : goal.push_back-requires
push_back-requires c =
    let i = c.self.inside in let n = c.ensure.ensures.renamed in let added = c.alloc_obj-r.ensures.added in
    let s = made i.list i.region c.ensure.new.region c.alloc_obj-r.new.self c.alloc_obj-r.result _ c.known.ensures.well n.0 n.1 c.self.invariant.0 c.self.invariant.1 added in
    (omega arith, (s, (subst (λ o. IsSomeAnd o (λ b. b.0 ≢ Version)) (sym added.here) differs, (added.unset 0, added.unset 1))))

pub invariant_of-self-in_err-push : goal.invariant_of-self-in_err-push
invariant_of-self-in_err-push c =
    let i = c.self.inside in let n = c.ensure.ensures.renamed in let added = c.alloc_obj-r.ensures.added in
    let s = made i.list i.region c.ensure.new.region c.alloc_obj-r.new.self c.alloc_obj-r.result _ c.known.ensures.well n.0 n.1 c.self.invariant.0 c.self.invariant.1 added in
    (s.0 ++ (c.alloc_obj-r.result ∷ []), c.push_back.ensures.pushed s.0 s.1)

pub invariant_of-self-2 : goal.invariant_of-self-2
invariant_of-self-2 c =
    let i = c.self.inside in let n = c.ensure.ensures.renamed in let added = c.alloc_obj-r.ensures.added in
    let s = made i.list i.region c.ensure.new.region c.alloc_obj-r.new.self c.alloc_obj-r.result _ c.known.ensures.well n.0 n.1 c.self.invariant.0 c.self.invariant.1 added in
    (s.0 ++ (c.alloc_obj-r.result ∷ []), c.push_back.ensures.pushed s.0 s.1)
