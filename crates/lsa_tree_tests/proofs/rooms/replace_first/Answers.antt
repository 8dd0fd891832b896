use Rattle.std.proofs.Common.{◌≢◌, [], ◌∷◌, ◌++◌, inl, inr, sym, ap, ◌∙◌, subst, arith}
use Rattle.std.specs.Prelude.{IsSomeAnd, Contains}
use Rattle.std.specs.Option.{option_map}
use Rattle.std.proofs.lemmas.List.Elements.{Contains-append_left}
use Rattle.lsa_kinds.specs.declared.kind.Kind.TheVariants.{Version, Dummy}
use Rattle.lsa_region.specs.declared.end.End.TheVariants.{Obj}
use Rattle.lsa_list.specs.Recency.{IsList}
use Rattle.lsa_path.specs.laws.Members.{member-first, member-later, member-cases, member-split}
use Rattle.lsa_tree_tests.proofs.Furnished.{kind-same, past-elsewhere, stands-added, stands-listed, listed-pushed, fresh-differs, first-once, still-in}
use Rattle.lsa_tree_tests.proofs.rooms.replace_first.Goals as goal

differs : Dummy ≢ Version
differs e = cc

pub push_back-requires : goal.push_back-requires
push_back-requires c =
    let t = c.requires.stands in let a = c.alloc_obj-q.ensures.added in
    let s = stands-added c.args.region.now c.alloc_obj-q.new.self c.known.ensures.well c.alloc_obj-q.result Dummy _ a c.args._chain c.args.list _ c.args.top _ t.2 t.3 in
    (omega arith, ((t.2, s.list), (subst (λ o. IsSomeAnd o (λ b. b.0 ≢ Version)) (sym a.here) differs, (a.unset 0, a.unset 1))))

pub replace-requires : goal.replace-requires
replace-requires c =
    let t = c.requires.stands in let a = c.alloc_obj-q.ensures.added in let p = c.push_back.ensures in let q = c.alloc_obj-q.result in let r = c.args.r in
    let mid = c.alloc_obj-q.new.self in let now = c.push_back.new.region in
    let s = stands-added c.args.region.now mid c.known.ensures.well q Dummy _ a c.args._chain c.args.list _ c.args.top _ t.2 t.3 in
    let w = stands-listed c.args._chain c.args.list mid now _ c.args.top _ t.2 s (t.2 ++ (q ∷ [])) p.elsewhere p.objects (p.pushed t.2 s.list) in (
      omega arith,
      (
        (c.args._chain, c.args.list, _, [], t.1, _, w),
        (
          kind-same mid now p.objects q ∙ ap (option_map (λ b. b.0)) a.here,
          (p.elsewhere (Obj q 3) (past-elsewhere c.args.list mid q 1) ∙ a.unset 3, (p.elsewhere (Obj q 4) (past-elsewhere c.args.list mid q 2) ∙ a.unset 4, fresh-differs c.args.region.now r q Dummy (t.3.dummies r (member-first r t.1)) a.fresh)),
        ),
      ),
    )

pub remove-requires : goal.remove-requires
remove-requires c =
    let t = c.requires.stands in let a = c.alloc_obj-q.ensures.added in let p = c.push_back.ensures in let q = c.alloc_obj-q.result in let r = c.args.r in
    let mid = c.alloc_obj-q.new.self in let now = c.push_back.new.region in
    let s = stands-added c.args.region.now mid c.known.ensures.well q Dummy _ a c.args._chain c.args.list _ c.args.top _ t.2 t.3 in
    let w = stands-listed c.args._chain c.args.list mid now _ c.args.top _ t.2 s (t.2 ++ (q ∷ [])) p.elsewhere p.objects (p.pushed t.2 s.list) in
    let x = c.replace.ensures.replaced c.args._chain c.args.list _ [] t.1 _ w in
    let d = member-split (t.2 ++ (q ∷ [])) r (Contains-append_left t.2 (q ∷ []) r (t.4 r (member-first r t.1))) in
    (omega arith, (d.0, d.1, subst (IsList c.args.list c.replace.new.region) d.2 x.list))

pub free_entry-requires : goal.free_entry-requires
free_entry-requires c =
    let t = c.requires.stands in let r = c.args.r in let v = c.args.region.now in let mid = c.alloc_obj-q.new.self in let now = c.push_back.new.region in let x = c.replace.new.region in let e = c.remove.ensures in
    let s = stands-added v mid c.known.ensures.well c.alloc_obj-q.result Dummy _ c.alloc_obj-q.ensures.added c.args._chain c.args.list _ c.args.top (r ∷ t.1) t.2 t.3 in record {
      dummy = kind-same x c.remove.new.region e.objects r ∙ kind-same now x c.replace.ensures.objects r ∙ kind-same mid now c.push_back.ensures.objects r ∙ s.dummies r (member-first r t.1);
      less = e.first_unset;
      more = e.second_unset;
      left = e.elsewhere (Obj r 3) (past-elsewhere c.args.list x r 1) ∙ c.replace.ensures.left;
      right = e.elsewhere (Obj r 4) (past-elsewhere c.args.list x r 2) ∙ c.replace.ensures.right;
    }

pub returns : goal.returns
returns c =
    let t = c.requires.stands in let a = c.alloc_obj-q.ensures.added in let p = c.push_back.ensures in let q = c.alloc_obj-q.result in let r = c.args.r in
    let mid = c.alloc_obj-q.new.self in let now = c.push_back.new.region in
    let s = stands-added c.args.region.now mid c.known.ensures.well q Dummy _ a c.args._chain c.args.list _ c.args.top _ t.2 t.3 in
    let w = stands-listed c.args._chain c.args.list mid now _ c.args.top _ t.2 s (t.2 ++ (q ∷ [])) p.elsewhere p.objects (p.pushed t.2 s.list) in
    let x = c.replace.ensures.replaced c.args._chain c.args.list _ [] t.1 _ w in
    let d = member-split (t.2 ++ (q ∷ [])) r (Contains-append_left t.2 (q ∷ []) r (t.4 r (member-first r t.1))) in
    let e = c.remove.ensures in
    let y = stands-listed c.args._chain c.args.list c.replace.new.region c.remove.new.region _ c.args.top _ (t.2 ++ (q ∷ [])) x (d.0 ++ d.1) e.elsewhere e.objects (e.removed d.0 d.1 (subst (IsList c.args.list c.replace.new.region) d.2 x.list)) in
    let ne : r ≢ q = fresh-differs c.args.region.now r q Dummy (t.3.dummies r (member-first r t.1)) a.fresh in (
      t.0,
      q ∷ t.1,
      d.0 ++ d.1,
      c.free_entry.ensures c.args._chain c.args.list _ c.args.top (q ∷ t.1) (d.0 ++ d.1) y,
      (λ z h. still-in d.0 d.1 r z (subst (λ l. Contains l z) d.2 (listed-pushed t.1 t.2 q (λ o on. t.4 o (member-later r o t.1 on)) z h))
          (λ same. elim (member-cases q z t.1 h) [ inl is ↦ ne (sym (is ∙ same)) | inr later ↦ first-once c.args.region.now c.known.ensures.well c.args.top r t.1 t.3.ordered z later same ])),
    )
