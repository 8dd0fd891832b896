use Rattle.std.proofs.Common.{◌≢◌, [], ◌∷◌, ◌++◌, refl, sym, ap, ◌∙◌, subst, arith}
use Rattle.std.specs.Prelude.{IsSomeAnd}
use Rattle.std.specs.Option.{option_map}
use Rattle.lsa_kinds.specs.declared.kind.Kind.TheVariants.{Version, Dummy}
use Rattle.lsa_region.specs.declared.end.End.TheVariants.{Obj}
use Rattle.lsa_path.specs.laws.Members.{member-first}
use Rattle.lsa_tree_tests.proofs.Furnished.{kind-end, kind-same, past-elsewhere, stands-added, stands-listed, listed-pushed}
use Rattle.lsa_tree_tests.proofs.rooms.add_entry.Goals as goal

differs : Dummy ≢ Version
differs e = cc

pub push_back-requires : goal.push_back-requires
push_back-requires c =
    let t = c.requires.stands in let a = c.alloc_obj-r.ensures.added in
    let s = stands-added c.args.region.now c.alloc_obj-r.new.self c.known.ensures.well c.alloc_obj-r.result Dummy _ a c.args._chain c.args.list _ c.args.top t.1 t.2 t.3 in
    (omega arith, ((t.2, s.list), (subst (λ o. IsSomeAnd o (λ b. b.0 ≢ Version)) (sym a.here) differs, (a.unset 0, a.unset 1))))

pub insert-requires : goal.insert-requires
insert-requires c =
    let t = c.requires.stands in let a = c.alloc_obj-r.ensures.added in let p = c.push_back.ensures in let r = c.alloc_obj-r.result in
    let mid = c.alloc_obj-r.new.self in let now = c.push_back.new.region in
    let s = stands-added c.args.region.now mid c.known.ensures.well r Dummy _ a c.args._chain c.args.list _ c.args.top t.1 t.2 t.3 in (
      omega arith,
      (
        kind-end now c.args.top Version 2 (kind-same mid now p.objects c.args.top ∙ s.kinds c.args.top (member-first c.args.top (t.0 ∷ []))) (omega arith),
        (
          kind-same mid now p.objects r ∙ ap (option_map (λ b. b.0)) a.here,
          (p.elsewhere (Obj r 3) (past-elsewhere c.args.list mid r 1) ∙ a.unset 3, (p.elsewhere (Obj r 4) (past-elsewhere c.args.list mid r 2) ∙ a.unset 4, ((λ e. cc), (λ e. cc)))),
        ),
      ),
    )

pub returns : goal.returns
returns c =
    let t = c.requires.stands in let a = c.alloc_obj-r.ensures.added in let p = c.push_back.ensures in let r = c.alloc_obj-r.result in
    let mid = c.alloc_obj-r.new.self in let now = c.push_back.new.region in
    let s = stands-added c.args.region.now mid c.known.ensures.well r Dummy _ a c.args._chain c.args.list _ c.args.top t.1 t.2 t.3 in
    let w = stands-listed c.args._chain c.args.list mid now _ c.args.top t.1 t.2 s (t.2 ++ (r ∷ [])) p.elsewhere p.objects (p.pushed t.2 s.list) in
    (t.0, r ∷ t.1, t.2 ++ (r ∷ []), c.insert.ensures.inserted c.args._chain c.args.list _ [] t.1 _ w refl, listed-pushed t.1 t.2 r t.4)
