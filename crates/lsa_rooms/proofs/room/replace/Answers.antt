use Rattle.std.proofs.Common.{None, sym, ap, ◌∙◌, arith}
use Rattle.lsa_kinds.specs.declared.kind.Kind.TheVariants.{Dummy}
use Rattle.lsa_region.specs.declared.end.End.TheVariants.{Obj}
use Rattle.lsa_region.specs.Region.{link_of}
use Rattle.std.specs.Option.{option_map}
use Rattle.lsa_path.specs.Path.{exchanged_end}
use Rattle.lsa_path.specs.laws.Exchanged.{exchanged-toward, exchanged-onward, other-second}
use Rattle.lsa_path.specs.laws.Members.{member-here}
use Rattle.lsa_path.specs.laws.Passing.{path-entered}
use Rattle.lsa_rooms.proofs.Rooms.{kind-end, stands-exchanged, kinds-with, kinds-without, in-longer}
use Rattle.lsa_rooms.proofs.room.replace.Goals as goal

pub exchange_objects-requires : goal.exchange_objects-requires
exchange_objects-requires g c =
    let v = c.args.region.now in let r = c.args.r in let q = c.args.q in let s = c.requires.stands.6 in
    let dummy = s.dummies r (member-here c.requires.stands.3 c.requires.stands.4 r) in (
      omega arith,
      (
        kind-end v r Dummy 3 dummy (omega arith),
        (
          kind-end v r Dummy 4 dummy (omega arith),
          (kind-end v q Dummy 3 c.requires.dummy (omega arith), (kind-end v q Dummy 4 c.requires.dummy (omega arith), ((λ e. cc), c.requires.apart))),
        ),
      ),
    )

pub returns-clause-replaced : goal.returns-clause-replaced
returns-clause-replaced g c = λ chain slots versions xs ys listed s.
    let v = c.args.region.now in let w = c.exchange_objects.new.region in let x = c.exchange_objects.ensures in let top = Obj c.args._top 2 in let q = c.args.q in
    stands-exchanged chain slots v w versions c.args._top _ listed s _ x.beside x.objects
    (x.path top xs ys None ((λ e. cc), (λ e. cc)) tt (λ h. let a = path-entered 3 4 (link_of v) top _ None s.ordered q (in-longer xs ys c.args.r q h) in
    let clash = sym (c.known.ensures.well.paired.mates a.0 (Obj q 3) a.1) ∙ c.requires.left in cc) s.ordered)
    (kinds-with v Dummy xs ys q c.requires.dummy (kinds-without v Dummy xs ys c.args.r s.dummies))

pub returns-clause-left : goal.returns-clause-left
returns-clause-left g c = let r = c.args.r in let q = c.args.q in let w = link_of c.exchange_objects.new.region in
    ap w (sym (exchanged-toward r q c.requires.apart 3 4 (λ e. cc) q ∙ ap (λ y. Obj y 3) (other-second r q c.requires.apart))) ∙ c.exchange_objects.ensures.exchanged (Obj q 3) ∙ ap (option_map (exchanged_end 3 4 r q)) c.requires.left

pub returns-clause-right : goal.returns-clause-right
returns-clause-right g c = let r = c.args.r in let q = c.args.q in let w = link_of c.exchange_objects.new.region in
    ap w (sym (exchanged-onward r q c.requires.apart 3 4 (λ e. cc) q ∙ ap (λ y. Obj y 4) (other-second r q c.requires.apart))) ∙ c.exchange_objects.ensures.exchanged (Obj q 4) ∙ ap (option_map (exchanged_end 3 4 r q)) c.requires.right

pub returns-clause-links : goal.returns-clause-links
returns-clause-links g c = c.exchange_objects.ensures.exchanged
