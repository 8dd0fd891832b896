-- Objects and root slots that are there, after each call of a region.
use Rattle.std.proofs.Common.{◌≡◌, ◌≢◌, ℕ, List, [], ◌∷◌, ◌++◌, length, Option, Some, None, IsSome, is_some, inl, inr, sym, ap, ◌∙◌, subst, arith}
use Rattle.std.specs.Prelude.{Contains}
use Rattle.std.proofs.lemmas.List.{length-append}
use Rattle.std.proofs.lemmas.List.Elements.{Contains-append_cases, All-append, All-cons, All-nil}
use Rattle.lsa_kinds.specs.declared.kind.Kind.{Kind}
use Rattle.lsa_store.specs.declared.place.Ref.{Ref}
use Rattle.lsa_region.specs.declared.end.Root.{Root}
use Rattle.lsa_region.specs.declared.end.End.{End}
use Rattle.lsa_region.specs.declared.end.End.TheVariants.{Obj, Slot}
use Rattle.lsa_region.specs.Region.{View, body, link_of, slots_of, IsEnd, IsWell, SameObjects, IsAdded, IsFreed, IsRootAdded}
use Rattle.lsa_region.specs.laws.Refs.{refs_decided}
use Rattle.lsa_path.specs.laws.Members.{member-cases, member-first, member-later}
use Rattle.lsa_path.specs.laws.Renamed.{some-there}
use Rattle.lsa_tests.specs.Seated.{IsSeated, AllStaySeated, AreSlotsKept, AreSlots, HasSlots, AreSeatedOnce}

clash : (o : Option (Kind × List ℕ)) → o ≡ None → IsSome o → ⊥
clash None none some = cc some
clash (Some b) none some = cc none

module _ (v w : View) where
  pub same-kept : SameObjects v w → AllStaySeated v w
  same-kept same (Obj r field) h = subst IsSome (sym (same.bodies r)) h
  same-kept same (Slot s) h = same.ends (Slot s) h

  pub added-slots : (r : Ref) (kind : Kind) (bytes : List ℕ) → IsAdded v w r kind bytes → AreSlotsKept v w
  added-slots r kind bytes added = λ s h. added.ends (Slot s) h

  pub freed-slots : (r : Ref) → IsFreed v w r → AreSlotsKept v w
  freed-slots r freed = λ s h. freed.ends (Slot s) (λ field e. cc) h

  pub freed-others : (r : Ref) → IsFreed v w r → (q : Ref) → q ≢ r → IsSome (body v q) → IsSome (body w q)
  freed-others r freed q ne h = subst IsSome (sym (freed.others q ne)) h

  pub slots-stay : (slots : List Root) → AreSlotsKept v w → AreSlots v slots → AreSlots w slots
  slots-stay slots kept h = λ k d l. kept _ (h k d l)

  -- one more slot
  pub slots-added : (r : Root) → IsRootAdded v w r → (slots : List Root) → HasSlots v slots → HasSlots w (slots ++ (r ∷ []))
  slots-added r added slots h =
      let there : Root → Type 0 = λ s. IsEnd w (Slot s) in record {
        there = All-append there slots (r ∷ []) (slots-stay slots (λ s e. added.ends (Slot s) e) h.there) (All-cons there r [] added.here (All-nil there));
        all = omega (arith, added.there, h.all, length-append slots (r ∷ []));
      }

-- no slots
pub no-slots : (v : View) (slots : List Root) → (slots_of v).there ≡ 0 → slots ≡ [] → HasSlots v slots
no-slots v slots few none = record { there = subst (AreSlots v) (sym none) (All-nil (λ s. IsEnd v (Slot s))); all = few ∙ sym (ap length none) }

-- what a slot names is there
pub named-there : (v : View) → IsWell v → (s : Root) (r : Ref) (field : ℕ) → link_of v (Slot s) ≡ Some (Obj r field) → IsSome (body v r)
named-there v well s r field is = some-there _ (body v r) (well.ends (Slot s) (Obj r field) is)

-- ---- objects of which none is named twice

pub none-once : (v : View) (refs : List Ref) → refs ≡ [] → AreSeatedOnce v refs
none-once v refs none = subst (AreSeatedOnce v) (sym none) tt

module _ (v w : View) (r : Ref) where
  without : ((q : Ref) → q ≢ r → IsSome (body v q) → IsSome (body w q)) → (refs : List Ref) → (Contains refs r → ⊥) → AreSeatedOnce v refs → AreSeatedOnce w refs
  without others [] out h = tt
  without others (x ∷ refs) out h = (
    others x (λ e. out (subst (Contains (x ∷ refs)) e (member-first x refs))) h.0,
    h.1,
    without others refs (λ on. out (member-later x r refs on)) h.2,
  )

  -- the first of them is freed
  pub once-freed : ((q : Ref) → q ≢ r → IsSome (body v q) → IsSome (body w q)) → (refs : List Ref) → AreSeatedOnce v (r ∷ refs) → AreSeatedOnce w refs
  once-freed others refs h = without others refs h.1 h.2

  -- one more is made
  pub once-added : (kind : Kind) (bytes : List ℕ) → IsAdded v w r kind bytes → (refs : List Ref) → AreSeatedOnce v refs → AreSeatedOnce w (refs ++ (r ∷ []))
  once-added kind bytes added [] h = (ap is_some added.here, (λ on. absurd (omega (arith, on.1))), tt)
  once-added kind bytes added (x ∷ refs) h =
      let other : x ≢ r = λ e. clash (body v x) (ap (body v) e ∙ added.fresh) h.0 in
      let apart : Contains (refs ++ (r ∷ [])) x → ⊥ = λ on. elim (Contains-append_cases refs (r ∷ []) x on) [
        | inl before ↦ h.1 before
        | inr last ↦ elim (member-cases r x [] last) [ inl same ↦ other (sym same) | inr past ↦ absurd (omega (arith, past.1)) ]
      ] in (subst IsSome (sym (added.others x other)) h.0, apart, once-added kind bytes added refs h.2)
