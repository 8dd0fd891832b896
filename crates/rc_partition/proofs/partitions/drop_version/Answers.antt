use Rattle.std.proofs.Common.{◌≢◌, inl, ◌++◌, ◌∷◌, [], None, is_some, reverse, sym, ap, ◌∙◌, subst, arith, length}
use Rattle.lsa_pool.specs.Room.{spare_of}
use Rattle.lsa_region.specs.declared.end.End.{End}
use Rattle.lsa_region.specs.declared.end.End.TheVariants.{Obj, Slot}
use Rattle.lsa_region.specs.Region.{link_of}
use Rattle.lsa_path.specs.Path.{IsOutside, IsPath, IsTakenOut}
use Rattle.lsa_path.specs.laws.Members.{member-here}
use Rattle.lsa_path.specs.laws.Passing.{path-apart, path-named}
use Rattle.rc_version.specs.laws.Marked.{marked-objects, marked-then}
use Rattle.rc_version.specs.laws.Moving.{version-once}
use Rattle.rc_core.specs.Version.{Version}
use Rattle.rc_version.specs.Versions.{IsKeptBut, IsOutward, IsVersionOf}
use Rattle.rc_version.specs.laws.Staying.{version-outward}
use Rattle.lsa_region.specs.declared.end.Root.{Root}
use Rattle.std.proofs.Common.{◌≤◌}
use Rattle.rc_partition.specs.Partitions.{heads_of, standing}
use Rattle.rc_partition.specs.laws.Apart.{fields_differ}
use Rattle.rc_partition.specs.laws.Lists.{elem-first}
use Rattle.rc_partition.proofs.Dropped.{chain-is, s-stands, stands-dropped, taken-version, taken-unlisted, taken-row}
use Rattle.rc_partition.proofs.Passing.{version-end}
use Rattle.rc_partition.proofs.partitions.drop_version.Goals as goal

pub take_out-requires : goal.take_out-requires
take_out-requires g c =
    let v = c.args.region.now in let n = c.args.n in let well = c.known.ensures.well in let r = c.requires.stands in let root = c.args._root in let s = standing n (r.3 ∷ []) r.4 in
    let path = chain-is r.0 v r.1 root r.2 s r.5 r.6 r.7 r.8 well in let is = s-stands r.0 v r.1 root r.2 s r.5 r.6 r.7 r.8 well in (
      omega arith,
      (
        version-end v n (r.3 ∷ []) r.4 1 (omega arith) is,
        (
          version-end v n (r.3 ∷ []) r.4 0 (omega arith) is,
          (
            ap is_some (path-named 1 0 fields_differ (link_of v) well.paired (Slot root) (reverse (heads_of r.5)) (reverse (heads_of r.2)) n None path),
            ((λ e. cc), path-apart 1 0 fields_differ (link_of v) well.paired (Slot root) _ None tt path n (member-here (reverse (heads_of r.5)) (reverse (heads_of r.2)) n)),
          ),
        ),
      ),
    )

pub free_version-requires : goal.free_version-requires
free_version-requires g c =
    let v = c.args.region.now in let n = c.args.n in let well = c.known.ensures.well in let r = c.requires.stands in let root = c.args._root in let s = standing n (r.3 ∷ []) r.4 in let t = c.take_out.ensures in
    let path = chain-is r.0 v r.1 root r.2 s r.5 r.6 r.7 r.8 well in
    let outside = λ (e : End) (off : IsOutside 1 0 e) (apart : Slot root ≢ e). t.beside (Slot root) (reverse (heads_of r.5)) (reverse (heads_of r.2)) None path e off apart (λ x. cc) in (
      omega arith,
      (
        (
          r.3,
          r.4,
          taken-version r.0 v r.1 root r.2 s r.5 r.6 r.7 r.8 well c.take_out.new.region t.taken outside t.objects,
          r.9,
          taken-row r.0 v r.1 root r.2 s r.5 r.6 r.7 r.8 well c.take_out.new.region t.taken outside t.objects r.3 (inl (elem-first r.3 [])) r.10,
        ),
        taken-unlisted r.0 v r.1 root r.2 s r.5 r.6 r.7 r.8 well c.take_out.new.region t.taken outside t.objects,
      ),
    )

pub returns-clause-dropped : goal.returns-clause-dropped
returns-clause-dropped g c = λ slots front older s newer back listed is h.
    let v = c.args.region.now in let mid = c.take_out.new.region in let new = c.free_version.new.region in let n = c.args.n in let well = c.known.ensures.well in let r = c.requires.stands in let root = c.args._root in let t = c.take_out.ensures in let f = c.free_version.ensures in
    let path = subst (λ m. IsPath 1 0 (link_of v) (Slot root) (reverse (heads_of newer) ++ (m ∷ reverse (heads_of older))) None) is (chain-is slots v front root older s newer back listed h well) in
    let same = version-once v n s.entries (r.3 ∷ []) s.version r.4 (subst (λ m. IsVersionOf v m s.entries s.version) is (s-stands slots v front root older s newer back listed h well)) (s-stands r.0 v r.1 root r.2 (standing n (r.3 ∷ []) r.4) r.5 r.6 r.7 r.8 well) in
    stands-dropped slots v front root older s newer back listed h well mid (subst (λ m. IsTakenOut (link_of v) (link_of mid) (Obj m 1) (Obj m 0)) (sym is) t.taken)
    (λ e off apart. t.beside (Slot root) (reverse (heads_of newer)) (reverse (heads_of older)) None path e off apart (λ x. cc)) t.objects r.3 same.0 (ap (λ (c : Version). c.statics) same.1 ∙ r.9) r.10 new
    (subst (λ m. IsKeptBut m mid new) (sym is) f.kept) f.live
    (t.path (Slot root) (reverse (heads_of newer)) (reverse (heads_of older)) None tt tt path)

pub returns-clause-epoch : goal.returns-clause-epoch
returns-clause-epoch g c = marked-then c.args.region.now c.take_out.new.region c.free_version.new.region (marked-objects c.args.region.now c.take_out.new.region c.take_out.ensures.objects) c.free_version.ensures.kept.epoch

pub returns-clause-gone : goal.returns-clause-gone
returns-clause-gone g c = c.free_version.ensures.head

pub returns-clause-spare : goal.returns-clause-spare
returns-clause-spare g c = c.free_version.ensures.spare ∙ ap (λ us. spare_of g.row.S us) c.take_out.ensures.objects.usages

pub returns-clause-slots : goal.returns-clause-slots
returns-clause-slots g c = c.free_version.ensures.kept.slots ∙ c.take_out.ensures.objects.slots

pub returns-clause-budget : goal.returns-clause-budget
returns-clause-budget g c = c.free_version.ensures.kept.budget ∙ ap (λ us. length us) c.take_out.ensures.objects.usages

pub returns-clause-moved : goal.returns-clause-moved
returns-clause-moved g c = c.free_version.ensures.kept.moved ∙ c.take_out.ensures.objects.moved

pub returns-clause-compacted : goal.returns-clause-compacted
returns-clause-compacted g c = c.free_version.ensures.kept.compacted ∙ c.take_out.ensures.objects.compacted

pub returns-clause-well : goal.returns-clause-well
returns-clause-well g c = c.free_version.ensures.well

far : (root : Root) (e : End) → (IsOutward e → ⊥) → IsOutside 1 0 e × (Slot root ≢ e)
far root (Obj r f) off = (((λ is. off (omega (arith, is))), (λ is. off (omega (arith, is)))), (λ is. cc))
far root (Slot s) off = absurd (off tt)

pub returns-clause-statics : goal.returns-clause-statics
returns-clause-statics g c = λ q refs d ne is.
    let v = c.args.region.now in let mid = c.take_out.new.region in let n = c.args.n in let well = c.known.ensures.well in let r = c.requires.stands in let root = c.args._root in let s = standing n (r.3 ∷ []) r.4 in let t = c.take_out.ensures in
    let path = chain-is r.0 v r.1 root r.2 s r.5 r.6 r.7 r.8 well in
    let outside = λ (e : End) (off : IsOutside 1 0 e) (apart : Slot root ≢ e). t.beside (Slot root) (reverse (heads_of r.5)) (reverse (heads_of r.2)) None path e off apart (λ x. cc) in
    c.free_version.ensures.kept.statics q refs d ne (version-outward v mid q refs d (λ e off. let w = far root e off in outside e w.0 w.1) t.objects.bodies is) ∙ outside (Obj q 3) ((λ e. cc), (λ e. cc)) (λ e. cc)
