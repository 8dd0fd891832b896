-- A region whose objects have other names is renamed by the list that gives each of them its own.
use Rattle.std.proofs.Common.{◌≡◌, ◌≢◌, ℕ, ◌<◌, ◌⊎◌, inl, inr, List, length, get_or, map, Option, Some, None, refl, sym, ap, ◌∙◌, subst, arith}
use Rattle.std.specs.Prelude.{IsSome, IsSomeAnd, Contains, AllPairs}
use Rattle.std.specs.Option.{option_map}
use Rattle.std.proofs.lemmas.Bool.{cases_lt}
use Rattle.std.proofs.lemmas.List.{get_or-map, length-map}
use Rattle.std.proofs.lemmas.List.Elements.{Contains-get_or}
use Rattle.lsa_kinds.specs.declared.kind.Kind.{Kind}
use Rattle.lsa_kinds.specs.Kinds.{links_of}
use Rattle.lsa_store.specs.Room.{nothing, usage_of, live_sum}
use Rattle.lsa_store.specs.declared.place.Ref.{Ref}
use Rattle.lsa_region.specs.declared.end.End.{End}
use Rattle.lsa_region.specs.declared.end.End.TheVariants.{Obj, Slot}
use Rattle.lsa_store.specs.Objects.{body_in}
use Rattle.lsa_store.specs.Stored.{Stored}
use Rattle.lsa_region.specs.Ends.{slots_in, named_in, IsEndIn, named_as, end_as}
use Rattle.lsa_region.specs.calls.Ends.{end_by}
use Rattle.lsa_region.specs.Layout.{Location}
use Rattle.lsa_region.specs.calls.Moves.{view_in, IsRenamedBy}
use Rattle.lsa_region.specs.Region.{View, body, link_of, location_of, IsEnd, IsWell, AreLive, Renamed, IsEmptied}
use Rattle.lsa_region.specs.laws.Ends.{no-end}
use Rattle.lsa_region.specs.laws.Names.{all_refs, are_live, names_of, firsts, seconds, named-by, some_and}

-- the counts of a region play no part in its names
pub renamed-view : (s t : Stored) (roots roots' : List (Option (Option End))) (v w : View) (there back : Ref → Ref) → v.cells ≡ s.cells → w.cells ≡ t.cells → v.roots ≡ roots → w.roots ≡ roots'
    → IsRenamedBy (view_in s roots) (view_in t roots') there back → IsRenamedBy v w there back
renamed-view s t roots roots' v w there back a b c d r = record {
  back_there = r.back_there;
  there_back = r.there_back;
  bodies = λ x. ap (λ l. body_in l (there x)) b ∙ r.bodies x ∙ ap (λ l. body_in l x) (sym a);
  links = λ e h.
      ap (λ l. named_in l w.roots (end_by there e)) b ∙ ap (λ l. named_in t.cells l (end_by there e)) d
      ∙ r.links e (subst (λ l. IsEndIn l roots e) a (subst (λ l. IsEndIn v.cells l e) c h)) ∙ ap (λ l. option_map (end_by there) (named_in s.cells l e)) (sym c) ∙ ap (λ l. option_map (end_by there) (named_in l v.roots e)) (sym a);
  kept = λ x h. let k = r.kept x (h.0, ap (λ l. get_or l x.number None) (sym c) ∙ h.1) in (k.0, ap (λ l. get_or l x.number None) d ∙ k.1);
  known = λ x h. let k = r.known x (h.0, ap (λ l. get_or l x.number None) (sym d) ∙ h.1) in (k.0, ap (λ l. get_or l x.number None) c ∙ k.1);
  slots = ap slots_in d ∙ r.slots ∙ ap slots_in (sym c);
}

linked_or_not : (o : Option (Kind × List ℕ)) (field : ℕ) → IsSomeAnd o (λ b. field < links_of b.0) ⊎ (IsSomeAnd o (λ b. field < links_of b.0) → ⊥)
linked_or_not None field = inr (λ h. h)
linked_or_not (Some b) field = elim (cases_lt field (links_of b.0)) [ inl lt ↦ inl lt | inr le ↦ inr (λ h. omega (arith, h, le)) ]

slot_or_not : (o : Option (Option End)) → ((named : Option End) × (o ≡ Some named)) ⊎ ((named : Option End) × (o ≡ Some named) → ⊥)
slot_or_not None = inr (λ h. let clash = h.1 in cc)
slot_or_not (Some named) = inl (named, refl)

pub ends_or_not : (v : View) (e : End) → IsEnd v e ⊎ (IsEnd v e → ⊥)
ends_or_not v (Obj r field) = linked_or_not (body v r) field
ends_or_not v (Slot s) = slot_or_not (get_or v.roots s.number None)

module _ (v w : View) (there back : Ref → Ref) (renamed : IsRenamedBy v w there back) (well : IsWell v) (well' : IsWell w) where
  ends_back : (e : End) → IsEnd w (end_by there e) → IsEnd v e
  ends_back (Obj r field) h = subst (λ o. IsSomeAnd o (λ (b : Kind × List ℕ). field < links_of b.0)) (renamed.bodies r) h
  ends_back (Slot s) h = renamed.known s h

  -- also what is no end has its name
  pub renamed-all : (e : End) → link_of w (end_by there e) ≡ option_map (end_by there) (link_of v e)
  renamed-all e = elim (ends_or_not v e) [
    | inl h ↦ renamed.links e h
    | inr out ↦ no-end w well' (end_by there e) (λ h. out (ends_back e h)) ∙ sym (ap (option_map (end_by there)) (no-end v well e out))
  ]

abbrev pub list_of : (Ref → Ref) → View → List (Ref × Ref)
list_of there v = names_of there (all_refs v)

-- where an object lies
pub spot-there : (u : View) (r : Ref) (s : Location) → location_of u r ≡ Some s → IsSome (body u r) × (s ≡ record { segment = r.segment; offset = r.offset })
spot-there u r s e = on (body u r) e
  where
    on : (o : Option (Kind × List ℕ)) → option_map (λ b. record { segment = r.segment; offset = r.offset }) o ≡ Some s → IsSome o × (s ≡ record { segment = r.segment; offset = r.offset })
    on None is = cc
    on (Some b) is = (refl, cc)

contains-map : (f : Ref → Ref) (refs : List Ref) (r : Ref) → Contains refs r → Contains (map f refs) (f r)
contains-map f refs r h = (h.0, omega (arith, h.1, length-map refs f), get_or-map f refs h.0 r (f r) h.1 ∙ ap f h.2)

map-contains : (f : Ref → Ref) (refs : List Ref) (q : Ref) → Contains (map f refs) q → (r : Ref) × Contains refs r × (f r ≡ q)
map-contains f refs q h =
    let lt : h.0 < length refs = omega (arith, h.1, length-map refs f) in (get_or refs h.0 q, Contains-get_or refs h.0 q lt, sym (get_or-map f refs h.0 q q lt) ∙ h.2)

once-map : (f g : Ref → Ref) (refs : List Ref) → ((r : Ref) → g (f r) ≡ r) → AllPairs ◌≢◌ refs → AllPairs ◌≢◌ (map f refs)
once-map f g refs back once i j d less lt = λ same.
    let within : j < length refs = omega (arith, lt, length-map refs f) in
    once i j d less within (
    sym (back (get_or refs i d)) ∙ ap g (sym (get_or-map f refs i d d (omega (arith, less, within))) ∙ same ∙ get_or-map f refs j d d within) ∙ back (get_or refs j d))

module _ (v w : View) (there back : Ref → Ref) (renamed : IsRenamedBy v w there back) (well : IsWell v) (well' : IsWell w) where
  abbrev names : List (Ref × Ref)
  names = list_of there v

  live_name : (r : Ref) → IsSome (body v r) → named_as names r ≡ there r
  live_name r some = named-by there (all_refs v) r ((are_live v).each r some)

  live_end : (e : End) → IsEnd v e → end_by there e ≡ end_as names e
  live_end (Obj r field) h = ap (λ q. Obj q field) (sym (live_name r (some_and (body v r) (λ b. field < links_of b.0) h)))
  live_end (Slot s) h = refl

  live_option : (e : End) → option_map (end_by there) (link_of v e) ≡ option_map (end_as names) (link_of v e)
  live_option e = on (link_of v e) (λ y is. live_end y (well.ends e y is))
    where
      on : (o : Option End) → ((y : End) → o ≡ Some y → end_by there y ≡ end_as names y) → option_map (end_by there) o ≡ option_map (end_as names) o
      on None same = refl
      on (Some y) same = ap (λ z. Some z) (same y refl)

  after_live : AreLive w (map there (all_refs v))
  after_live =
      let live = are_live v in record {
        each = λ q some.
            let some_old : IsSome (body v (back q)) = subst IsSome (ap (body w) (sym (renamed.there_back q)) ∙ renamed.bodies (back q)) some in
            subst (Contains (map there (all_refs v))) (renamed.there_back q) (contains-map there (all_refs v) (back q) (live.each (back q) some_old));
        live = λ q h. let m = map-contains there (all_refs v) q h in subst (λ x. IsSome (body w x)) m.2 (subst IsSome (sym (renamed.bodies m.0)) (live.live m.0 m.1));
        once = once-map there back (all_refs v) renamed.back_there live.once;
      }

  pub listed : length w.usages ≡ length v.usages → live_sum w.usages ≡ live_sum v.usages → Renamed v w names
  listed budget live_same = record {
    before = subst (AreLive v) (sym (firsts there (all_refs v))) (are_live v);
    after = subst (AreLive w) (sym (seconds there (all_refs v))) after_live;
    bodies = λ r some. ap (body w) (live_name r some) ∙ renamed.bodies r;
    links = λ r field some. ap (λ q. link_of w (Obj q field)) (live_name r some) ∙ renamed-all v w there back renamed well well' (Obj r field) ∙ live_option (Obj r field);
    roots = λ s. renamed-all v w there back renamed well well' (Slot s) ∙ live_option (Slot s);
    kept = renamed.kept;
    known = renamed.known;
    slots = renamed.slots;
    budget = budget;
    live = live_same;
  }

  pub emptied : (n : ℕ) → length w.usages ≡ length v.usages → live_sum w.usages ≡ live_sum v.usages → ((x : Ref) → IsSome (body v x) → x.segment ≢ n → there x ≡ x) → ((x : Ref) → IsSome (body w x) → x.segment ≢ n)
      → usage_of w.usages n ≡ nothing → (names : List (Ref × Ref)) × IsEmptied v w n names
  emptied n budget live_same stay gone free = (
    names,
    record {
      renamed = listed budget live_same;
      stay = λ r s e ne.
          let at = spot-there v r s e in let same = stay r at.0 (λ is. ne (ap (λ (x : Location). x.segment) at.1 ∙ is)) in
          ap (location_of w) (live_name r at.0 ∙ same) ∙ ap (option_map (λ (b : Kind × List ℕ). record { segment = r.segment; offset = r.offset })) (ap (body w) (sym same) ∙ renamed.bodies r) ∙ e;
      gone = λ r s e is. let at = spot-there w r s e in gone r at.0 (sym (ap (λ (x : Location). x.segment) at.1) ∙ is);
      free = free;
    },
  )
