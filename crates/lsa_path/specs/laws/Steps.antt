-- What the calls of the region come to.
use Rattle.std.proofs.Common.{◌≡◌, ◌≢◌, Option, Some, None, sym, ap, ◌∙◌}
use Rattle.lsa_region.specs.declared.end.End.{End}
use Rattle.lsa_region.specs.Region.{View, SameObjects}
use Rattle.lsa_region.specs.Paired.{WellPaired, IsTied, IsParted}
use Rattle.lsa_path.specs.Path.{IsInserted, IsTakenOut}

clash : (a : End) (o : Option End) → o ≡ None → o ≡ Some a → ⊥
clash a o none some = let e = sym none ∙ some in cc

same : (a b : End) (o : Option End) → o ≡ Some a → o ≡ Some b → a ≡ b
same a b o x y = let e = sym x ∙ y in cc

-- a set end is none that is unset
pub set-unset : (named : End → Option End) (a p b : End) → named a ≡ Some b → named p ≡ None → a ≢ p
set-unset named a p b set unset e = clash b (named p) unset (ap named (sym e) ∙ set)

pub objects-trans : (u v w : View) → SameObjects u v → SameObjects v w → SameObjects u w
objects-trans u v w x y = record {
  bodies = λ r. y.bodies r ∙ x.bodies r;
  ends = λ e h. y.ends e (x.ends e h);
  gone = λ e h. x.gone e (y.gone e h);
  spots = λ r. y.spots r ∙ x.spots r;
  slots = y.slots ∙ x.slots;
  usages = y.usages ∙ x.usages;
  epoch = y.epoch ∙ x.epoch;
  moved = y.moved ∙ x.moved;
  compacted = y.compacted ∙ x.compacted;
}

-- behind an end that named nothing
pub inserted-last : (old new : End → Option End) (a p q : End) → IsTied old new a p → old a ≡ None → old q ≡ None → a ≢ q → p ≢ q → IsInserted old new a p q
inserted-last old new a p q tied unset unset_q other differ = record {
  front = tied.first;
  back = tied.second;
  rest = tied.others q (λ e. other (sym e)) (λ e. differ (sym e)) ∙ unset_q ∙ sym unset;
  mate = λ e is. absurd (clash e (old a) unset is);
  others = λ e no_a no_p no_q free. tied.others e no_a no_p;
}

module _ (old m n new : End → Option End) (a b p q : End) (well : WellPaired old) (set : old a ≡ Some b) (parted : IsParted old m a b) (unset_p : old p ≡ None) (unset_q : old q ≡ None) where
  back : old b ≡ Some a
  back = well.mates a b set

  pub first-unset : m p ≡ None
  first-unset = parted.others p (λ e. set-unset old a p b set unset_p (sym e)) (λ e. set-unset old b p a back unset_p (sym e)) ∙ unset_p

  pub second-unset : IsTied m n a p → p ≢ q → n q ≡ None
  second-unset tied differ = tied.others q (λ e. set-unset old a q b set unset_q (sym e)) (λ e. differ (sym e)) ∙ parted.others q (λ e. set-unset old a q b set unset_q (sym e)) (λ e. set-unset old b q a back unset_q (sym e)) ∙ unset_q

  pub mate-unset : IsTied m n a p → n b ≡ None
  mate-unset tied = tied.others b (λ e. well.apart a (set ∙ ap (λ x. Some x) e)) (set-unset old b p a back unset_p) ∙ parted.second

  pub mate-differs : q ≢ b
  mate-differs e = set-unset old b q a back unset_q (sym e)

  -- between an end and its mate
  pub inserted-between : IsTied m n a p → IsTied n new q b → p ≢ q → IsInserted old new a p q
  inserted-between tied tied' differ = record {
    front = tied'.others a (set-unset old a q b set unset_q) (λ e. well.apart a (set ∙ ap (λ x. Some x) (sym e))) ∙ tied.first;
    back = tied'.others p differ (λ e. set-unset old b p a back unset_p (sym e)) ∙ tied.second;
    rest = tied'.first ∙ sym set;
    mate = λ e is. ap new (same e b (old a) is set) ∙ tied'.second;
    others = λ e no_a no_p no_q free. let no_b : e ≢ b = λ is. free (set ∙ ap (λ x. Some x) (sym is)) in tied'.others e no_q no_b ∙ tied.others e no_a no_p ∙ parted.others e no_a no_b;
  }

module _ (old m : End → Option End) (a p q : End) (well : WellPaired old) (set : old p ≡ Some a) (parted : IsParted old m p a) (differ : p ≢ q) (apart : old p ≢ Some q) where
  front : old a ≡ Some p
  front = well.mates p a set

  no_q : q ≢ a
  no_q e = apart (set ∙ ap (λ x. Some x) (sym e))

  no_p : p ≢ a
  no_p e = well.apart p (set ∙ ap (λ x. Some x) (sym e))

  pub second-same : m q ≡ old q
  second-same = parted.others q (λ e. differ (sym e)) no_q

  -- the last of a path that ends in nothing
  pub taken-last : m q ≡ None → IsTakenOut old m p q
  taken-last none = record {
    front = parted.first;
    back = none;
    before = λ e is. ap m (same e a (old p) is set) ∙ parted.second ∙ sym none ∙ second-same;
    rest = λ e is. absurd (clash e (old q) (sym second-same ∙ none) is);
    others = λ e ne_p ne_q free free'. parted.others e ne_p (λ is. free (set ∙ ap (λ x. Some x) (sym is)));
  }

  module _ (n new : End → Option End) (b : End) (set' : m q ≡ Some b) (parted' : IsParted m n q b) where
    next : old q ≡ Some b
    next = sym second-same ∙ set'

    p_b : p ≢ b
    p_b e = apart (ap old e ∙ well.mates q b next)

    pub ends-differ : a ≢ b
    ends-differ e = differ (same p q (old a) front (ap old e ∙ well.mates q b next))

    pub before-unset : n a ≡ None
    before-unset = parted'.others a (λ e. no_q (sym e)) ends-differ ∙ parted.second

    -- between its mates
    pub taken-between : IsTied n new a b → IsTakenOut old new p q
    taken-between tied = record {
      front = tied.others p no_p p_b ∙ parted'.others p differ p_b ∙ parted.first;
      back = tied.others q no_q (λ e. well.apart q (next ∙ ap (λ x. Some x) (sym e))) ∙ parted'.first;
      before = λ e is. ap new (same e a (old p) is set) ∙ tied.first ∙ sym next;
      rest = λ e is. ap new (same e b (old q) is next) ∙ tied.second ∙ sym set;
      others = λ e ne_p ne_q free free'. let no_a : e ≢ a = λ is. free (set ∙ ap (λ x. Some x) (sym is)) in let no_b : e ≢ b = λ is. free' (next ∙ ap (λ x. Some x) (sym is)) in
          tied.others e no_a no_b ∙ parted'.others e ne_q no_b ∙ parted.others e ne_p no_a;
    }
