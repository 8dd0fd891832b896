-- The iterator holds the keys that are left.
use Rattle.std.proofs.Common.{◌≡◌, ◌++◌, List, map, All, append-nil, sym, ap, subst, ◌∙◌}
use Rattle.std.specs.BTreeMap.{keys}
use Rattle.std.specs.Map.Iter.{deref}
use Rattle.std.proofs.lemmas.Map.Iter.{rest_more, rest_all}
use Rattle.rc_mutation.specs.declared.mutations.Partition.{Partition}
use Rattle.rc_plain.specs.calls.Index.{IsPartitionOf}
use Rattle.rc_plain.proofs.Listed.{one_more, part_more, parts_are}
use Rattle.rc_plain.proofs.memtable.parts_of.Goals as goal

pub loop-key-preserved : goal.loop-key-preserved
loop-key-preserved c =
    let parts = c.loop-key.parts.items in
    let next = rest_more deref c.loop-key.key-iterator c.next.new.self c.next.result c.in-Some.key c.in-Some.is c.next.ensures.steps in
    record {
      keyed =
          subst (λ (ps : List Partition). map (λ (p : Partition). p.key) ps ++ c.next.new.self ≡ keys c.args.index.now) (sym c.in_ok-push.ensures.items)
          (one_more parts c.in_ok-part.part c.args.writes.now (keys c.args.index.now) c.loop-key.key-iterator c.next.new.self c.in-Some.key.now c.loop-key.invariant.keyed next c.in_ok-part.ensures.key);
      made =
          subst (All (λ p. IsPartitionOf p c.args.writes.now)) (sym c.in_ok-push.ensures.items)
          (part_more parts c.in_ok-part.part c.args.writes.now c.loop-key.invariant.made c.in_ok-part.ensures.change);
    }

pub returns : goal.returns
returns c =
    let parts = c.loop-key.parts.items in
    let none = rest_all deref c.loop-key.key-iterator c.next.new.self c.next.result c.in-None.is c.next.ensures.steps in
    let keyed : map (λ (p : Partition). p.key) parts ≡ keys c.args.index.now =
    sym (append-nil (map (λ (p : Partition). p.key) parts)) ∙ ap (λ ks. map (λ (p : Partition). p.key) parts ++ ks) (sym none) ∙ c.loop-key.invariant.keyed in
    parts_are parts c.args.writes.now c.args.index.now c.requires c.keys-key-items.ensures.ordered keyed c.loop-key.invariant.made
