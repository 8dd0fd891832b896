-- A version that was given a static row.
use Rattle.std.proofs.Common.{◌≡◌, ◌≢◌, ℕ, ◌+◌, ◌≤◌, List, Some, None, IsSome, inl, inr, sym, ap, ◌∙◌, subst, arith}
use Rattle.rc_cell.specs.declared.rows.Row.{Row}
use Rattle.rc_rowcode.specs.Objects.{static_size}
use Rattle.lsa_pool.specs.Room.{live_sum, spare_of}
use Rattle.lsa_store.specs.declared.place.Ref.{Ref}
use Rattle.lsa_region.specs.declared.end.End.{End}
use Rattle.lsa_region.specs.declared.end.End.TheVariants.{Obj}
use Rattle.lsa_region.specs.Paired.{IsTied}
use Rattle.lsa_region.specs.Region.{View, body, link_of, live_bytes, IsEnd, IsWell, SameObjects}
use Rattle.lsa_region.specs.laws.Ends.{some_and_none}
use Rattle.lsa_region.specs.laws.Refs.{refs_decided}
use Rattle.rc_core.specs.declared.entries.Flag.{Flag}
use Rattle.rc_core.specs.Steps.{set_statics}
use Rattle.rc_core.specs.Version.{Version}
use Rattle.rc_object.specs.Objects.{HoldsStatic, IsMade}
use Rattle.rc_version.specs.Versions.{IsVersionOf, IsKeptBeside, IsKeptBut, IsStaticsOf, IsWeighed, HasWhatWasMade, MayChange, entries_bytes, statics_bytes}
use Rattle.rc_version.specs.laws.Objects.{static-same}
use Rattle.rc_version.specs.laws.Marked.{none-there}
use Rattle.rc_version.specs.laws.Staying.{IsStaticStep, kept-then, kept-wider, made-added, made-kept, made-version, static-kept, version-kind}
use Rattle.rc_version.proofs.StaticRows.{static-end, static-kind, static-version, version-end}

three_two : ◌≢◌ {A = ℕ} 3 2
three_two e = cc

fields : (n s : Ref) → Obj n 3 ≡ Obj s 2 → ⊥
fields n s e = three_two (let same : ◌≡◌ {A = ℕ} 3 2 = cc in same)

-- what is live after a row was made, the old one taken out, and the new one put in
heavier : (now out mid old size t e : ℕ) → now ≡ out → out + (64 + (t + e)) ≡ mid + (64 + (0 + e)) → mid ≡ old + size → now + (64 + (t + e)) ≡ old + (64 + (size + e))
heavier now out mid old size t e a b d = omega arith

module _ (S : ℕ) (old mid out new : View) (n s : Ref) (row : Row) (made : IsMade S old mid s (static_size row)) (held : HoldsStatic mid s row) (well_old : IsWell old)
    (links : (e : End) → e ≢ Obj n 3 → link_of mid (Obj n 3) ≢ Some e → link_of out e ≡ link_of mid e) (taken_kept : IsKeptBeside (IsStaticsOf mid n) n mid out)
    (taken : (refs : List Ref) (c : Version) → IsVersionOf mid n refs c → IsVersionOf out n refs (set_statics None c.static_flag c)) where
  -- the version never names what was made
  not_named : link_of mid (Obj n 3) ≢ Some (Obj s 2)
  not_named is = some_and_none (body old s) _ (made-added S old mid s (static_size row) made).fresh (well_old.ends (Obj n 3) (Obj s 2) (sym ((made-added S old mid s (static_size row) made).links (Obj n 3)) ∙ is))

  pub set-held : HoldsStatic out s row
  set-held = static-same mid out s row (taken_kept.bodies s not_named) held

  pub set-alone : link_of out (Obj s 2) ≡ None
  set-alone = links (Obj s 2) (λ e. fields n s (sym e)) not_named ∙ (made-added S old mid s (static_size row) made).unset 2

  pub set-unset : (refs : List Ref) (c : Version) → IsVersionOf old n refs c → link_of out (Obj n 3) ≡ None
  set-unset refs c h = (taken refs c (made-version S old mid s (static_size row) made n refs c h)).statics

  pub set-first : (refs : List Ref) (c : Version) → IsVersionOf old n refs c → IsEnd out (Obj n 3)
  set-first refs c h = let k = taken refs c (made-version S old mid s (static_size row) made n refs c h) in version-end out n 3 (version-kind out n refs (set_statics None c.static_flag c) k) (omega arith)

  pub set-second : IsEnd out (Obj s 2)
  set-second = static-end out s row 2 set-held (omega arith)

  pub set-apart : Obj n 3 ≢ Obj s 2
  set-apart e = fields n s e

  module _ (tied : IsTied (link_of out) (link_of new) (Obj n 3) (Obj s 2)) (objects : SameObjects out new) where
    step : (refs : List Ref) (c : Version) → IsVersionOf old n refs c → IsStaticStep out new n s
    step refs c h = record {
      others = tied.others;
      objects = objects;
      version = version-kind out n refs (set_statics None c.static_flag c) (taken refs c (made-version S old mid s (static_size row) made n refs c h));
      row = static-kind out s row set-held;
    }

    pub set-version : (refs : List Ref) (c : Version) → IsVersionOf old n refs c → IsVersionOf new n refs (set_statics (Some row) c.static_flag c)
    set-version refs c h = static-version out new n s (step refs c h) refs (set_statics None c.static_flag c) (Some row) (s, tied.first, static-same out new s row (objects.bodies s) set-held)
        (taken refs c (made-version S old mid s (static_size row) made n refs c h))

    pub set-kept : (refs : List Ref) (c : Version) → IsVersionOf old n refs c → IsKeptBut n old new
    set-kept refs c h = kept-then (MayChange old n) n old mid new (made-kept S old mid s (static_size row) made (MayChange old n) n (inl (made-added S old mid s (static_size row) made).fresh))
        (kept-then (MayChange old n) n mid out new (kept-wider (IsStaticsOf mid n) (MayChange old n) n mid out (λ r is. inr (inr (inr (sym ((made-added S old mid s (static_size row) made).links (Obj n 3)) ∙ is)))) taken_kept)
        (static-kept out new n s (step refs c h) (MayChange old n)))

    -- nothing but the row was made
    pub set-only : (q : Ref) → body old q ≡ None → IsSome (body new q) → q ≡ s
    set-only q fresh there = elim (refs_decided q s) [
      | inl is ↦ is
      | inr ne ↦ absurd (none-there (body new q) (objects.bodies q ∙ taken_kept.bodies q no_row ∙ (made-added S old mid s (static_size row) made).others q ne ∙ fresh) there)
    ]
      where
        no_row : IsStaticsOf mid n q → ⊥
        no_row named = some_and_none (body old q) _ fresh (well_old.ends (Obj n 3) (Obj q 2) (sym ((made-added S old mid s (static_size row) made).links (Obj n 3)) ∙ named))

    pub set-own : HasWhatWasMade n old new
    set-own q fresh there = inr (inr (subst (IsStaticsOf new n) (sym (set-only q fresh there)) tied.first))

    pub set-spare : spare_of S out.usages ≡ spare_of S mid.usages → spare_of S old.usages ≤ spare_of S new.usages + static_size row
    set-spare same = subst (λ k. spare_of S old.usages ≤ k + static_size row) (sym (ap (spare_of S) objects.usages ∙ same)) made.spare

    pub set-live : (c : Version) → IsWeighed mid out c (set_statics None c.static_flag c) → (flag : Flag) → IsWeighed old new c (set_statics (Some row) flag c)
    set-live c less flag = heavier (live_bytes new) (live_bytes out) (live_bytes mid) (live_bytes old) (static_size row) (statics_bytes c.statics) (entries_bytes c.entries) (ap (λ us. live_sum us) objects.usages) less made.live
