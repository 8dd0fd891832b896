-- An object that is in the list goes to its back.
use Rattle.std.proofs.Common.{◌≡◌, inl, inr, refl, sym, ap, ◌∙◌, List, true, false, arith}
use Rattle.rc_memory.specs.Lists.{elem-split}
use Rattle.rc_memory.specs.Changes.{Nowhere}
use Rattle.rc_memory.specs.Memory.{Member, Memory, listed_as}
use Rattle.rc_memory.specs.laws.Still.{still-itself}
use Rattle.rc_lookup.proofs.Kept.{unchanged}
use Rattle.rc_lookup.proofs.touching.touch_listed.Goals as goal

pub is_listed-requires : goal.is_listed-requires
is_listed-requires g c = (omega arith, c.requires)

pub touch-requires : goal.touch-requires
touch-requires g c =
    let w = c.requires in let on = (c.is_listed.ensures w.0 w.1).0 c.if-is_listed.true in
    let k = elem-split c.args.chains.now.recency w.0 on in (omega arith, (w.0, k.0, k.1, k.2, w.1))

pub returns-then-is_listed : goal.returns-then-is_listed
returns-then-is_listed g c = λ w at.
    let on = (c.is_listed.ensures w at).0 c.if-is_listed.true in
    let k = elem-split c.args.chains.now.recency w on in
    let e = c.touch.ensures.touched w k.0 k.1 k.2 at in
    record {
      recency = inr (on, λ front back is. ap (λ (m : Memory). m.recency) (c.touch.ensures.touched w front back is at));
      same = e ∙ ap (λ (l : List Member). listed_as l c.touch.new.self.region c.args.chains.now) (sym (ap (λ (m : Memory). m.recency) e));
      objects = c.touch.ensures.objects;
      still = c.touch.ensures.still;
    }

pub returns-else-is_listed : goal.returns-else-is_listed
returns-else-is_listed g c = λ w at. record {
  recency = inl ((λ on. (let listed = (c.is_listed.ensures w at).1 on in let clash : true ≡ false = sym listed ∙ c.if-is_listed.false in absurd (cc))), refl);
  same = refl;
  objects = unchanged c.args.chains.now.region;
  still = still-itself Nowhere c.args.chains.now;
}
