-- One end names something else: a link of an object, or a root slot.
use Rattle.std.proofs.Common.{◌≡◌, ◌≢◌, ℕ, ◌<◌, inl, inr, List, length, get_or, Option, Some, None, cond, refl, sym, ap, ◌∙◌, subst, arith}
use Rattle.std.specs.Prelude.{count_by, is_some, IfSome, IsSomeAnd}
use Rattle.std.specs.Option.{option_map}
use Rattle.std.proofs.Math.ListN.{set}
use Rattle.std.proofs.lemmas.List.{length-set, get_or-set_same, get_or-set_other}
use Rattle.lsa_kinds.specs.declared.kind.Kind.{Kind}
use Rattle.lsa_kinds.specs.Kinds.{links_of}
use Rattle.lsa_store.specs.Usages.{decided}
use Rattle.lsa_store.specs.Cells.{Cell, size_of, with_link}
use Rattle.lsa_store.specs.Changes.{replaced-sums}
use Rattle.lsa_store.specs.declared.place.Ref.{Ref}
use Rattle.lsa_store.specs.Objects.{cells_of, cell_in, body_in, one_if_live, live_count, IsChangedIn}
use Rattle.lsa_store.specs.Stored.{Stored, IsStored}
use Rattle.lsa_store.specs.laws.Places.{changed-is, changed-here, changed-others, changed-extent, changed-each}
use Rattle.lsa_store.specs.laws.Written.{object-and, set-here, set-others, set-bodies, set-count}
use Rattle.lsa_region.specs.declared.end.Root.{Root}
use Rattle.lsa_region.specs.declared.end.End.{End}
use Rattle.lsa_region.specs.declared.end.End.TheVariants.{Obj, Slot}
use Rattle.lsa_region.specs.Codes.{end_of}
use Rattle.lsa_region.specs.calls.Codes.{link_code, IsCodable}
use Rattle.lsa_region.specs.Ends.{SlotCounts, slots_in, named_in, IsEndIn, end_in_slot}
use Rattle.lsa_region.specs.calls.Ends.{IsSetIn, IsSameShape}
use Rattle.lsa_region.specs.laws.Refs.{refs_decided}
use Rattle.lsa_region.proofs.Codes.{end-code, code-small}
use Rattle.lsa_region.proofs.Vacancies.{there, count-set}

-- ---- the same shape

pub shape-same : (cells : List (List Cell)) → IsSameShape cells cells
shape-same cells = record { bodies = λ r. refl; sizes = λ r. refl; ends = λ n. refl; counts = λ n. refl; count = refl }

pub shape-then : (a b c : List (List Cell)) → IsSameShape a b → IsSameShape b c → IsSameShape a c
shape-then a b c p q = record {
  bodies = λ r. q.bodies r ∙ p.bodies r;
  sizes = λ r. q.sizes r ∙ p.sizes r;
  ends = λ n. q.ends n ∙ p.ends n;
  counts = λ n. q.counts n ∙ p.counts n;
  count = q.count ∙ p.count;
}

-- the ends of objects are those of the same bodies
pub end-kept : (old new : List (List Cell)) (roots roots' : List (Option (Option End))) → ((r : Ref) → body_in new r ≡ body_in old r) → ((root : Root) → IsEndIn old roots (Slot root) → IsEndIn new roots' (Slot root))
    → (e : End) → IsEndIn old roots e → IsEndIn new roots' e
end-kept old new roots roots' bodies slots (Obj r field) h = subst (λ o. IsSomeAnd o (λ (b : Kind × List ℕ). field < links_of b.0)) (sym (bodies r)) h
end-kept old new roots roots' bodies slots (Slot root) h = slots root h

-- ---- a link of an object

module _ (size : ℕ) (s : Stored) (stored : IsStored size s) (new : List (List Cell)) (roots : List (Option (Option End))) (r : Ref) (field : ℕ) (named : Option End) (codable : IfSome named IsCodable)
    (linked : IsSomeAnd (body_in s.cells r) (λ b. field < links_of b.0)) (w : IsChangedIn s.cells new r (with_link field (link_code named))) where
  linked_shape : IsSameShape s.cells new
  linked_shape =
      let f = object-and s.cells r (λ (b : Kind × List ℕ). field < links_of b.0) linked in let x = f.0 in let change = with_link field (link_code named) in
      let is = changed-is s.cells new r change w x.cell x.here in
      let long : size_of (change x.cell) ≡ size_of x.cell = is.size in record {
        bodies = set-bodies size s stored new r field (link_code named) linked w;
        sizes = λ q. elim (refs_decided q r) [
          | inl e ↦
              ap (λ p. option_map (λ (c : Cell). size_of c) (cell_in new p)) e ∙ ap (option_map (λ (c : Cell). size_of c)) (changed-here s.cells new r change w x.cell x.here)
              ∙ ap (λ n. Some n) long ∙ sym (ap (option_map (λ (c : Cell). size_of c)) x.here) ∙ ap (λ p. option_map (λ (c : Cell). size_of c) (cell_in s.cells p)) (sym e)
          | inr ne ↦ ap (option_map (λ (c : Cell). size_of c)) (changed-others s.cells new r change w x.cell x.here q ne)
        ];
        ends = changed-extent s.cells new r change w x.cell x.here;
        counts = changed-each s.cells new r change w x.cell x.here (λ n l. live_count l ≡ live_count (cells_of s.cells n))
            (omega (arith, replaced-sums (cells_of s.cells r.segment) w.after r.offset x.cell (change x.cell) is one_if_live)) (λ n ne. refl);
        count = set-count size s stored new r field (link_code named) linked w;
      }

  pub set-field : IsSetIn s.cells roots new roots (Obj r field) named
  set-field = record {
    here = ap end_of (set-here size s stored new r field (link_code named) linked w (code-small named codable)) ∙ end-code named codable;
    others = λ other. elim other as (λ (o : End). o ≢ Obj r field → named_in new roots o ≡ named_in s.cells roots o) [
      | Obj q g ↦ λ ne. ap end_of (set-others size s stored new r field (link_code named) linked w q g (λ e same. ne (ap (λ p. Obj p g) e ∙ ap (λ k. Obj r k) same)))
      | Slot root ↦ λ ne. refl
    ];
    ends = end-kept s.cells new roots roots linked_shape.bodies (λ root h. h);
    back = end-kept new s.cells roots roots (λ q. sym (linked_shape.bodies q)) (λ root h. h);
    shape = linked_shape;
    slots = refl;
  }

-- ---- a root slot

-- as many slots are there where one that is there names something else
slots-set : (roots : List (Option (Option End))) (n : ℕ) (was named : Option End) → get_or roots n None ≡ Some was → slots_in (set roots n (Some named)) ≡ slots_in roots
slots-set roots n was named known =
    let lt = there roots n was known in
    let one : ◌≡◌ {A = ℕ} (cond (is_some (get_or roots n None)) 1 0) 1 = ap (λ o. cond (is_some o) 1 0) known in
    let counts : count_by (λ s. is_some s) (set roots n (Some named)) ≡ count_by (λ s. is_some s) roots = omega (arith, one, count-set roots n (Some named) lt) in
    let first : slots_in (set roots n (Some named)) ≡ record { there = count_by (λ s. is_some s) roots; bound = length (set roots n (Some named)) } = ap (λ k. record { there = k; bound = length (set roots n (Some named)) }) counts in
    let second : ◌≡◌ {A = SlotCounts} (record { there = count_by (λ s. is_some s) roots; bound = length (set roots n (Some named)) }) (slots_in roots) = ap (λ k. record { there = count_by (λ s. is_some s) roots; bound = k }) (length-set roots n (Some named)) in
    first ∙ second

pub set-root : (cells : List (List Cell)) (roots : List (Option (Option End))) (root : Root) (named : Option End) → IsEndIn cells roots (Slot root)
    → IsSetIn cells roots cells (set roots root.number (Some named)) (Slot root) named
set-root cells roots root named has =
    let n = root.number in let roots' = set roots n (Some named) in let inside = there roots n has.0 has.1 in record {
      here = ap end_in_slot (get_or-set_same roots n (Some named) None inside);
      others = λ other. elim other as (λ (o : End). o ≢ Slot root → named_in cells roots' o ≡ named_in cells roots o) [
        | Obj s g ↦ λ ne. refl
        | Slot other ↦ λ ne. ap end_in_slot (get_or-set_other roots n other.number (Some named) None (λ e. ne (ap (λ k. Slot (record { number = k })) e)))
      ];
      ends = end-kept cells cells roots roots' (λ r. refl) (λ other h. elim (decided other.number n) [
        | inl e ↦ (named, ap (λ k. get_or roots' k None) e ∙ get_or-set_same roots n (Some named) None inside)
        | inr ne ↦ (h.0, get_or-set_other roots n other.number (Some named) None ne ∙ h.1)
      ]);
      back = end-kept cells cells roots' roots (λ r. refl) (λ other h. elim (decided other.number n) [
        | inl e ↦ (has.0, ap (λ k. get_or roots k None) e ∙ has.1)
        | inr ne ↦ (h.0, sym (get_or-set_other roots n other.number (Some named) None ne) ∙ h.1)
      ]);
      shape = shape-same cells;
      slots = slots-set roots n has.0 named has.1;
    }
