use Rattle.std.proofs.Common.{Some, [], sym, ◌∙◌, subst, arith}
use Rattle.std.proofs.lemmas.List.{append-nil}
use Rattle.lsa_region.specs.declared.end.End.TheVariants.{Obj, Slot}
use Rattle.lsa_region.specs.Region.{link_of}
use Rattle.lsa_path.specs.Path.{IsPath}
use Rattle.lsa_path.specs.laws.Paths.{same_some}
use Rattle.lsa_path.specs.laws.Steps.{set-unset}
use Rattle.lsa_list.specs.laws.Lists.{fields_differ, recency-ends, recent-append, recent-same, finish-there, last-named, inserted-elsewhere, unset-inserted}
use Rattle.lsa_list.proofs.recency.List.push_back.Goals as goal

pub root-requires : goal.root-requires
root-requires g c = (omega arith, finish-there c.args.region.now c.known.ensures.well (Slot c.args.self.now.front) c.requires.list.0 (Slot c.args.self.now.back) c.requires.list.1.path)

pub insert_behind-requires : goal.insert_behind-requires
insert_behind-requires g c =
    let v = c.args.region.now in let r = c.args.r in let well = c.known.ensures.well in let ends = recency-ends v r c.requires.recency in
    let a = c.in-Some.last in let back = Slot c.args.self.now.back in let set = sym c.root.ensures ∙ c.in-Some.is in let mate = well.paired.mates back a set in (
      omega arith,
      (
        well.ends back a set,
        (
          ends.0,
          (
            ends.1,
            (
              c.requires.first_unset,
              (
                c.requires.second_unset,
                (
                  fields_differ,
                  (set-unset (link_of v) a (Obj r 0) back mate c.requires.first_unset, set-unset (link_of v) a (Obj r 1) back mate c.requires.second_unset),
                ),
              ),
            ),
          ),
        ),
      ),
    )

pub unreachable-requires : goal.unreachable-requires
unreachable-requires g c = let e = sym (last-named c.args.self.now c.args.region.now c.known.ensures.well c.requires.list.0 c.requires.list.1) ∙ sym c.root.ensures ∙ c.in-None.is in cc

pub returns-clause-pushed : goal.returns-clause-pushed
returns-clause-pushed g c = λ xs l.
    let v = c.args.region.now in let front = Slot c.args.self.now.front in let back = Slot c.args.self.now.back in
    record {
      path = c.insert_behind.ensures.path front xs [] (Some back) tt tt (subst (λ zs. IsPath 0 1 (link_of v) front zs (Some back)) (sym (append-nil xs)) l.path)
          (same_some _ c.in-Some.last (sym (last-named c.args.self.now v c.known.ensures.well xs l) ∙ sym c.root.ensures ∙ c.in-Some.is));
      recent = recent-same v c.insert_behind.new.region c.insert_behind.ensures.objects.bodies _ (recent-append v xs c.args.r l.recent c.requires.recency);
    }

pub returns-clause-elsewhere : goal.returns-clause-elsewhere
returns-clause-elsewhere g c =
    let v = c.args.region.now in let xs = c.requires.list.0 in let l = c.requires.list.1 in let well = c.known.ensures.well in
    inserted-elsewhere c.args.self.now v well (link_of c.insert_behind.new.region) xs c.in-Some.last c.args.r l c.requires.recency
    (sym (same_some _ c.in-Some.last (sym (last-named c.args.self.now v well xs l) ∙ sym c.root.ensures ∙ c.in-Some.is))) c.insert_behind.ensures.inserted

pub returns-clause-unset : goal.returns-clause-unset
returns-clause-unset g c = λ e none one two.
    let v = c.args.region.now in let well = c.known.ensures.well in let back = Slot c.args.self.now.back in
    unset-inserted (link_of v) (link_of c.insert_behind.new.region) c.in-Some.last back (Obj c.args.r 0) (Obj c.args.r 1) e well.paired (well.paired.mates back c.in-Some.last (sym c.root.ensures ∙ c.in-Some.is)) c.insert_behind.ensures.inserted none one two
