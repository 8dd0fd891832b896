-- How the objects of a region lie.
use Rattle.std.proofs.Common.{◌≡◌, ◌≢◌, ℕ, ◌+◌, ◌<◌, ◌≤◌, ◌⊎◌, inl, inr, List, Option, Some, None, refl, sym, ap, ◌∙◌, arith}
use Rattle.std.specs.Prelude.{is_some, IsSome}
use Rattle.std.specs.Option.{option_map}
use Rattle.lsa_kinds.specs.declared.kind.Kind.{Kind}
use Rattle.lsa_store.specs.Room.{usage_of, free_count}
use Rattle.lsa_store.specs.Cells.{size_of}
use Rattle.lsa_store.specs.declared.place.Ref.{Ref}
use Rattle.lsa_store.specs.Stored.{IsStored}
use Rattle.lsa_store.specs.laws.Words.{object}
use Rattle.lsa_store.specs.laws.Written.{lie-used, lie-apart, lie-size}
use Rattle.lsa_region.specs.Layout.{Location, object_extent}
use Rattle.lsa_region.specs.Region.{View, body, HasLayout}
use Rattle.lsa_region.proofs.Renaming.{spot-there}

module _ (size : ℕ) (v : View) (stored : IsStored size (record { cells = v.cells; usages = v.usages })) where
  -- an object takes what its body says
  takes : (r : Ref) (some : IsSome (body v r)) → size_of (object v.cells r some).cell ≡ object_extent (body v r)
  takes r some = lie-size size (record { cells = v.cells; usages = v.usages }) stored r (object v.cells r some) ∙ sym (ap object_extent ((object v.cells r some).body))

  apart_at : (r q : Ref) (s t : Location) → IsSome (body v r) → IsSome (body v q) → s ≡ record { segment = r.segment; offset = r.offset } → t ≡ record { segment = q.segment; offset = q.offset } → r ≢ q → s.segment ≡ t.segment
      → (s.offset + object_extent (body v r) ≤ t.offset) ⊎ (t.offset + object_extent (body v q) ≤ s.offset)
  apart_at r q s t one other is at ne same =
      let x = object v.cells r one in let y = object v.cells q other in
      elim (lie-apart size (record { cells = v.cells; usages = v.usages }) stored r q x.cell y.cell x.here y.here ne (sym (ap (λ (p : Location). p.segment) is) ∙ same ∙ ap (λ (p : Location). p.segment) at)) [
        | inl le ↦ inl (omega (arith, le, takes r one, ap (λ (p : Location). p.offset) is, ap (λ (p : Location). p.offset) at))
        | inr le ↦ inr (omega (arith, le, takes q other, ap (λ (p : Location). p.offset) is, ap (λ (p : Location). p.offset) at))
      ]

  used_at : (r : Ref) (s : Location) → IsSome (body v r) → s ≡ record { segment = r.segment; offset = r.offset } → s.offset + object_extent (body v r) ≤ (usage_of v.usages s.segment).used
  used_at r s some is =
      let x = object v.cells r some in let used = lie-used size (record { cells = v.cells; usages = v.usages }) stored r x.cell x.here in
      omega (arith, used, takes r some, ap (λ (p : Location). p.offset) is, ap (λ (p : Location). (usage_of v.usages p.segment).used) is)

  pub layout : 0 < free_count v.usages → HasLayout v
  layout reserve = record {
    placed = λ r. same r (body v r);
    used = λ r s e. let at = spot-there v r s e in used_at r s at.0 at.1;
    apart = λ r q s t e d ne same. let at = spot-there v r s e in let to = spot-there v q t d in apart_at r q s t at.0 to.0 at.1 to.1 ne same;
    live = stored.live;
    empty = stored.sound.empty;
    reserve = reserve;
  }
    where
      same : (r : Ref) (o : Option (Kind × List ℕ)) → is_some {T = Location} (option_map (λ b. record { segment = r.segment; offset = r.offset }) o) ≡ is_some o
      same r None = refl
      same r (Some b) = refl
