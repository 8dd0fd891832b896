use Rattle.std.proofs.Common.{◌≡◌, Some, None, sym, ◌∙◌, arith}
use Rattle.lsa_region.specs.declared.end.End.TheVariants.{Obj}
use Rattle.lsa_rooms.proofs.room.newest.Goals as goal

pub root-requires : goal.root-requires
root-requires g c = (omega arith, c.requires)

pub returns-in-Some-Obj-clause-none : goal.returns-in-Some-Obj-clause-none
returns-in-Some-Obj-clause-none g c = λ slots top entries listed s. absurd (let e : None ≡ Some c.in-Some-Obj.field-0 = sym s.chained ∙ sym c.root.ensures ∙ c.in-Some-Obj.is in cc)

pub returns-in-Some-Obj-clause-some : goal.returns-in-Some-Obj-clause-some
returns-in-Some-Obj-clause-some g c = λ slots newer versions top entries listed s. let e : Some (Obj newer 1) ≡ Some c.in-Some-Obj.field-0 = sym s.chained.0 ∙ sym c.root.ensures ∙ c.in-Some-Obj.is in
    let same : Obj newer 1 ≡ c.in-Some-Obj.field-0 = cc in let is = same ∙ c.in-Some-Obj.field-0-is in cc

pub returns-in-Some-Slot-clause-some : goal.returns-in-Some-Slot-clause-some
returns-in-Some-Slot-clause-some g c = λ slots newer versions top entries listed s. let e : Some (Obj newer 1) ≡ Some c.in-Some-Slot.field-0 = sym s.chained.0 ∙ sym c.root.ensures ∙ c.in-Some-Slot.is in
    let same : Obj newer 1 ≡ c.in-Some-Slot.field-0 = cc in let is = same ∙ c.in-Some-Slot.field-0-is in absurd (cc)

pub returns-in-None-clause-some : goal.returns-in-None-clause-some
returns-in-None-clause-some g c = λ slots newer versions top entries listed s. absurd (let e : Some (Obj newer 1) ≡ None = sym s.chained.0 ∙ sym c.root.ensures ∙ c.in-None.is in cc)
