use Rattle.std.proofs.Common.{◌∷◌, [], None, reverse, refl, arith, ◌≤◌, ◌+◌, length, sym, subst, ap, ◌∙◌}
use Rattle.lsa_pool.specs.Room.{spare_of}
use Rattle.lsa_region.specs.declared.end.End.TheVariants.{Obj, Slot}
use Rattle.rc_core.specs.Steps.{version_of}
use Rattle.lsa_kinds.specs.declared.kind.Kind.TheVariants.{Version as VersionKind}
use Rattle.lsa_region.specs.Region.{body}
use Rattle.lsa_region.specs.laws.Ends.{some_and_none}
use Rattle.std.specs.Prelude.{◌≡◌, IsSomeAnd}
use Rattle.rc_version.specs.laws.Staying.{version-kind}
use Rattle.rc_version.specs.laws.Marked.{marked-objects, marked-then}
use Rattle.rc_partition.specs.Partitions.{heads_of}
use Rattle.rc_partition.proofs.Added.{mid-path, mid-slot, stands-added, end-unlisted}
use Rattle.rc_partition.proofs.Dropped.{bare-bytes}
use Rattle.rc_partition.proofs.Passing.{version-end}
use Rattle.rc_partition.proofs.partitions.add_version.Goals as goal

pub insert_behind-requires : goal.insert_behind-requires
insert_behind-requires g c =
    let old = c.args.region.now in let mid = c.new_version-n.new.region in let n = c.new_version-n.result in let k = c.new_version-n.ensures in let c' = version_of c.args.flag c.args.pt c.args.phase in (
      omega arith,
      (
        mid-slot c.requires.stands.0 old mid mid c.requires.stands.1 c.args.root c.requires.stands.2 c.requires.stands.3 c.requires.stands.4 c.requires.stands.5 c.known.ensures.well c.known.ensures.summed n k.made.0 c' k.fresh k.kept,
        (
          version-end mid n (k.made.0 ∷ []) c' 1 (omega arith) k.made.1,
          (version-end mid n (k.made.0 ∷ []) c' 0 (omega arith) k.made.1, (k.unlisted n k.fresh 1 (omega arith), (k.unlisted n k.fresh 0 (omega arith), ((λ e. cc), ((λ e. cc), (λ e. cc)))))),
        ),
      ),
    )

pub returns-clause-added : goal.returns-clause-added
returns-clause-added g c = λ slots front versions back listed h.
    let old = c.args.region.now in let mid = c.new_version-n.new.region in let new = c.insert_behind.new.region in let n = c.new_version-n.result in let k = c.new_version-n.ensures in let i = c.insert_behind.ensures in let end = k.made.0 in
    let c' = version_of c.args.flag c.args.pt c.args.phase in let root = c.args.root in
    let before = mid-path slots old mid new front root versions back listed h c.known.ensures.well c.known.ensures.summed n end c' k.fresh k.kept in (
      end,
      stands-added slots old mid new front root versions back listed h c.known.ensures.well c.known.ensures.summed n end c' k.fresh k.kept k.well k.made.1 refl (bare-bytes mid n end c' k.made.1 refl) k.unlisted k.live
          i.inserted (λ e off apart. i.beside (Slot root) [] (reverse (heads_of versions)) None before refl e off apart (λ x. cc)) (i.path (Slot root) [] (reverse (heads_of versions)) None tt tt before refl) i.objects,
      end-unlisted slots old mid new front root versions back listed h c.known.ensures.well c.known.ensures.summed n end c' k.fresh k.kept k.well k.made.1 refl (bare-bytes mid n end c' k.made.1 refl) k.unlisted k.live
          i.inserted (λ e off apart. i.beside (Slot root) [] (reverse (heads_of versions)) None before refl e off apart (λ x. cc)) (i.path (Slot root) [] (reverse (heads_of versions)) None tt tt before refl) i.objects,
    )

pub returns-clause-epoch : goal.returns-clause-epoch
returns-clause-epoch g c = marked-then c.args.region.now c.new_version-n.new.region c.insert_behind.new.region c.new_version-n.ensures.kept.epoch (marked-objects c.new_version-n.new.region c.insert_behind.new.region c.insert_behind.ensures.objects)

pub new_version-n-requires : goal.new_version-n-requires
new_version-n-requires g c = (omega arith, (c.requires.fits, c.requires.spare))

pub returns-clause-fresh : goal.returns-clause-fresh
returns-clause-fresh g c = c.new_version-n.ensures.fresh

pub returns-clause-spare : goal.returns-clause-spare
returns-clause-spare g c = subst (λ us. spare_of g.row.S c.args.region.now.usages ≤ spare_of g.row.S us + 152) (sym c.insert_behind.ensures.objects.usages) c.new_version-n.ensures.spare

pub returns-clause-slots : goal.returns-clause-slots
returns-clause-slots g c = c.insert_behind.ensures.objects.slots ∙ c.new_version-n.ensures.kept.slots

pub returns-clause-budget : goal.returns-clause-budget
returns-clause-budget g c = ap (λ us. length us) c.insert_behind.ensures.objects.usages ∙ c.new_version-n.ensures.kept.budget

pub returns-clause-moved : goal.returns-clause-moved
returns-clause-moved g c = c.insert_behind.ensures.objects.moved ∙ c.new_version-n.ensures.kept.moved

pub returns-clause-compacted : goal.returns-clause-compacted
returns-clause-compacted g c = c.insert_behind.ensures.objects.compacted ∙ c.new_version-n.ensures.kept.compacted

pub returns-clause-well : goal.returns-clause-well
returns-clause-well g c = c.insert_behind.ensures.well

pub returns-clause-statics : goal.returns-clause-statics
returns-clause-statics g c = λ q refs d is.
    let old = c.args.region.now in let mid = c.new_version-n.new.region in let new = c.insert_behind.new.region in let n = c.new_version-n.result in let k = c.new_version-n.ensures in let r = c.requires.stands in let root = c.args.root in
    let before = mid-path r.0 old mid new r.1 root r.2 r.3 r.4 r.5 c.known.ensures.well c.known.ensures.summed n k.made.0 (version_of c.args.flag c.args.pt c.args.phase) k.fresh k.kept in
    c.insert_behind.ensures.beside (Slot root) [] (reverse (heads_of r.2)) None before refl (Obj q 3) ((λ e. cc), (λ e. cc)) (λ e. cc) (λ x. cc)
    ∙ k.kept.statics q refs d (λ same. some_and_none (body old n) _ k.fresh (subst (λ o. IsSomeAnd (body old o) (λ b. b.0 ≡ VersionKind)) same (version-kind old q refs d is))) is
