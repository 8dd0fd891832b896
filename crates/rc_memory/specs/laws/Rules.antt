-- What holds of each chain, after one of them changed: that it is sound, and that its rows fit.
use Rattle.std.proofs.Common.{◌≡◌, ◌≢◌, ℕ, zero, suc, ◌<◌, ◌≤◌, ◌/◌, true, false, List, [], ◌∷◌, ◌++◌, Option, Some, None, length, inl, inr, refl, sym, ap, ◌∙◌, subst, slice_index_or, arith}
use Rattle.std.specs.Prelude.{Contains, IfSome}
use Rattle.std.specs.Option.{option_map}
use Rattle.std.proofs.lemmas.List.{length-append}
use Rattle.lsa_pool.specs.laws.Usages.{decided}
use Rattle.rc_cell.specs.declared.rows.Row.{Row}
use Rattle.rc_cell.specs.declared.writes.Tomb.{Tomb}
use Rattle.rc_position.specs.declared.positions.Pos.{Pos}
use Rattle.rc_rowcode.specs.Objects.{dummy_size}
use Rattle.rc_registry.specs.ChainKind.TheVariants.{Cache}
use Rattle.rc_registry.specs.Entry.{Entry}
use Rattle.rc_registry.specs.Flag.{Flag}
use Rattle.rc_registry.specs.Chains.{Shown, IsPinned}
use Rattle.rc_registry.specs.Steps.{all_but, number_after_removal, on_version, pins_with, pins_without, version_of}
use Rattle.rc_registry.specs.Version.{Version, end_position}
use Rattle.rc_registry.specs.Merged.{pin_of}
use Rattle.rc_registry.specs.Pins.{pinned-or-new, released-pin}
use Rattle.rc_partition.specs.laws.Lists.{elem-cases, elem-first, elem-none, elem-pushed}
use Rattle.rc_registry.specs.Registry.{put_at_number}
use Rattle.rc_memory.specs.Memory.{KeptChain, on_chain, on_version_of, shown_detached, shown_pinned, shown_updating, shown_with, shown_without}
use Rattle.rc_memory.specs.Kept.{IsSoundChain}
use Rattle.rc_memory.specs.Room.{FitTogether, HasRowAt, HasStaticRow}
use Rattle.rc_memory.specs.laws.Places.{no_some}
use Rattle.rc_memory.specs.laws.Put.{put-at, put-beside}

-- ---- each chain

module _ (P : KeptChain → Type 0) where
  pub each-put : (cs : List (Option KeptChain)) (id : ℕ) (c : Option KeptChain) → ((n : ℕ) → IfSome (slice_index_or cs n None) P) → IfSome c P → (n : ℕ) → IfSome (slice_index_or (put_at_number id c cs) n None) P
  each-put cs id c all one n = elim (decided n id) [
    | inl e ↦ subst (λ o. IfSome o P) (sym (ap (λ k. slice_index_or (put_at_number id c cs) k None) e ∙ put-at cs id c)) one
    | inr ne ↦ subst (λ o. IfSome o P) (sym (put-beside cs id c n ne)) (all n)
  ]

  on_some : (g : KeptChain → KeptChain) (o : Option KeptChain) → ((k : KeptChain) → o ≡ Some k → P (g k)) → IfSome (option_map g o) P
  on_some g None f = tt
  on_some g (Some k) f = f k refl

  pub each-at : (cs : List (Option KeptChain)) (id : ℕ) (k : KeptChain) → ((n : ℕ) → IfSome (slice_index_or cs n None) P) → slice_index_or cs id None ≡ Some k → P k
  each-at cs id k all e = subst (λ o. IfSome o P) e (all id)

  -- where the rule is kept by what is done to a chain, each chain keeps it
  pub each-on : (cs : List (Option KeptChain)) (id : ℕ) (g : KeptChain → KeptChain) → ((n : ℕ) → IfSome (slice_index_or cs n None) P) → ((k : KeptChain) → slice_index_or cs id None ≡ Some k → P k → P (g k))
      → (n : ℕ) → IfSome (slice_index_or (on_chain id g cs) n None) P
  each-on cs id g all f n = each-put cs id (option_map g (slice_index_or cs id None)) all (on_some g (slice_index_or cs id None) (λ k e. f k e (each-at cs id k all e))) n

-- ---- sound chains

module _ (c : Shown) (h : IsSoundChain c) where
  pub sound-pinned : (version : ℕ) → version < length c.versions → (c.updating ≡ true → suc version < length c.versions) → IsSoundChain (shown_pinned (pins_with version c.pins) c)
  sound-pinned version low inner = record {
    some = h.some;
    pins = λ j on. elim (pinned-or-new version c.pins j on) [ inl before ↦ h.pins j before | inr this ↦ subst (λ n. n < length c.versions) (sym this) low ];
    cached = h.cached;
    attached = h.attached;
    below = h.below;
    unpinned = λ u j on. elim (pinned-or-new version c.pins j on) [ inl before ↦ h.unpinned u j before | inr this ↦ subst (λ n. suc n < length c.versions) (sym this) (inner u) ];
  }

  pub sound-released : (pin : ℕ) → IsSoundChain (shown_pinned (pins_without pin c.pins) c)
  sound-released pin = record {
    some = h.some;
    pins = λ j on. h.pins j (released-pin pin c.pins j on);
    cached = h.cached;
    attached = h.attached;
    below = h.below;
    unpinned = λ u j on. h.unpinned u j (released-pin pin c.pins j on);
  }

  pub sound-detached : IsSoundChain (shown_detached c)
  sound-detached = record { some = h.some; pins = h.pins; cached = λ u. cc u; attached = λ u. cc u; below = λ u. cc u; unpinned = λ u. cc u }

  pub sound-settled : IsSoundChain (shown_updating false c)
  sound-settled = record { some = h.some; pins = h.pins; cached = λ u. cc u; attached = λ u. cc u; below = λ u. cc u; unpinned = λ u. cc u }

  pub sound-updating : c.kind ≡ Cache → c.attached ≡ true → 2 ≤ length c.versions → ((j : ℕ) → IsPinned c.pins j → suc j < length c.versions) → IsSoundChain (shown_updating true c)
  sound-updating kind attached below unpinned = record { some = h.some; pins = h.pins; cached = λ u. kind; attached = λ u. attached; below = λ u. below; unpinned = λ u. unpinned }

  pub sound-more : (v : Version) → IsSoundChain (shown_with (c.versions ++ (v ∷ [])) c)
  sound-more v = record {
    some = omega (arith, length-append c.versions (v ∷ []));
    pins = λ j on. omega (arith, length-append c.versions (v ∷ []), h.pins j on);
    cached = h.cached;
    attached = h.attached;
    below = λ u. omega (arith, length-append c.versions (v ∷ []), h.below u);
    unpinned = λ u j on. omega (arith, length-append c.versions (v ∷ []), h.unpinned u j on);
  }

-- a version changed is no other number of versions
pub length-on : (j : ℕ) (f : Version → Version) (vs : List Version) → length (on_version j f vs) ≡ length vs
length-on j f [] = refl
length-on zero f (v ∷ vs) = refl
length-on (suc j) f (v ∷ vs) = ap suc (length-on j f vs)

pub sound-with : (c : Shown) (vs : List Version) → length vs ≡ length c.versions → IsSoundChain c → IsSoundChain (shown_with vs c)
sound-with c vs same h = record {
  some = subst (λ n. 0 < n) (sym same) h.some;
  pins = λ j on. subst (λ n. j < n) (sym same) (h.pins j on);
  cached = h.cached;
  attached = h.attached;
  below = λ u. subst (λ n. 2 ≤ n) (sym same) (h.below u);
  unpinned = λ u j on. subst (λ n. suc j < n) (sym same) (h.unpinned u j on);
}

pub sound-changed : (c : Shown) (j : ℕ) (f : Version → Version) → IsSoundChain c → IsSoundChain (on_version_of j f c)
sound-changed c j f h = sound-with c (on_version j f c.versions) (length-on j f c.versions) h

-- ---- a version dropped

pub length-but : (j : ℕ) (vs : List Version) → j < length vs → suc (length (all_but j vs)) ≡ length vs
length-but j [] low = absurd (omega (arith, low))
length-but zero (v ∷ vs) low = refl
length-but (suc j) (v ∷ vs) low = ap suc (length-but j vs (omega (arith, low)))

pub renumbered-less : (n k : ℕ) → k ≢ n → (k < n → number_after_removal n k ≡ k) × (n < k → suc (number_after_removal n k) ≡ k)
renumbered-less zero zero ne = absurd (ne refl)
renumbered-less zero (suc k) ne = ((λ l. absurd (omega (arith, l))), (λ l. refl))
renumbered-less (suc n) zero ne = ((λ l. refl), (λ l. absurd (omega (arith, l))))
renumbered-less (suc n) (suc k) ne = let r = renumbered-less n k (λ e. ne (ap suc e)) in ((λ l. ap suc (r.0 (omega (arith, l)))), (λ l. ap suc (r.1 (omega (arith, l)))))

pub below_or_above : (k n : ℕ) → k ≢ n → (P : Type 0) → (k < n → P) → (n < k → P) → P
below_or_above zero zero ne P a b = absurd (ne refl)
below_or_above zero (suc n) ne P a b = a (omega arith)
below_or_above (suc k) zero ne P a b = b (omega arith)
below_or_above (suc k) (suc n) ne P a b = below_or_above k n (λ e. ne (ap suc e)) P (λ l. a (omega (arith, l))) (λ l. b (omega (arith, l)))

-- one that nobody pins, and which is not the only one; nor under update, nor the only one below that
pub sound-fewer : (c : Shown) (j : ℕ) → IsSoundChain c → (IsPinned c.pins j → ⊥) → j < length c.versions → 2 ≤ length c.versions → (c.updating ≡ true → suc j < length c.versions) → (c.updating ≡ true → 3 ≤ length c.versions) → IsSoundChain (shown_without j c)
sound-fewer c j h free low two inner three = record {
  some = omega (arith, length-but j c.versions low, two);
  pins = λ i on. let r = pin_of j i c.pins on in let is = r.is in
      below_or_above r.number j (λ e. free (subst (IsPinned c.pins) e r.pinned)) (i < length (all_but j c.versions))
      (λ l. omega (arith, length-but j c.versions low, is, (renumbered-less j r.number (λ e. free (subst (IsPinned c.pins) e r.pinned))).0 l, l, low))
      (λ l. omega (arith, length-but j c.versions low, is, (renumbered-less j r.number (λ e. free (subst (IsPinned c.pins) e r.pinned))).1 l, h.pins r.number r.pinned));
  cached = h.cached;
  attached = h.attached;
  below = λ u. omega (arith, length-but j c.versions low, three u);
  unpinned = λ u i on. let r = pin_of j i c.pins on in let is = r.is in
      below_or_above r.number j (λ e. free (subst (IsPinned c.pins) e r.pinned)) (suc i < length (all_but j c.versions))
      (λ l. omega (arith, length-but j c.versions low, is, (renumbered-less j r.number (λ e. free (subst (IsPinned c.pins) e r.pinned))).0 l, l, inner u))
      (λ l. omega (arith, length-but j c.versions low, is, (renumbered-less j r.number (λ e. free (subst (IsPinned c.pins) e r.pinned))).1 l, h.unpinned u r.number r.pinned));
}

-- ---- rows that fit

module _ (S : ℕ) where
  -- those of fewer versions
  pub fit-fewer : (vs ws : List Version) → ((v : Version) → Contains ws v → Contains vs v) → FitTogether S vs → FitTogether S ws
  fit-fewer vs ws within h = record {
    rows = λ x one rows each. h.rows x one rows (λ row on. let k = each row on in (k.0, k.1, within k.0 k.2, k.3, k.4, k.5));
    statics = λ one rows each. h.statics one rows (λ row on. let k = each row on in (k.0, within k.0 k.1, k.2));
    positions = λ v e on in_v. h.positions v e (within v on) in_v;
  }

  pub fit-none : FitTogether S []
  fit-none = record {
    rows = λ x one rows each. absurd (let k = each one (elem-first one rows) in elem-none k.0 k.2);
    statics = λ one rows each. absurd (let k = each one (elem-first one rows) in elem-none k.0 k.1);
    positions = λ v e on in_v. absurd (elem-none v on);
  }

  -- and of one more that has its end dummy alone
  pub fit-more : (vs : List Version) (flag : Flag) (pt : Option Tomb) (phase : ℕ) → dummy_size end_position ≤ S / 8 → FitTogether S vs → FitTogether S (vs ++ (version_of flag pt phase ∷ []))
  fit-more vs flag pt phase room h = record {
    rows = λ x one rows each. h.rows x one rows (λ row on. row_of x row (each row on));
    statics = λ one rows each. h.statics one rows (λ row on. static_of row (each row on));
    positions = λ v e on in_v. elim (elem-pushed vs (version_of flag pt phase) v on) [
      | inl before ↦ h.positions v e before in_v
      | inr this ↦ elim (elem-cases _ e [] (subst (λ (w : Version). Contains w.entries e) (sym this) in_v)) [
        | inl same ↦ subst (λ (d : Entry). dummy_size d.position ≤ S / 8) same room
        | inr none ↦ absurd (elem-none e none)
      ]
    ];
  } where
    row_of : (x : Pos) (row : Row) → HasRowAt (vs ++ (version_of flag pt phase ∷ [])) x row → HasRowAt vs x row
    row_of x row k = elim (elem-pushed vs (version_of flag pt phase) k.0 k.2) [
      | inl before ↦ (k.0, k.1, before, k.3, k.4, k.5)
      | inr this ↦ elim (elem-cases _ k.1 [] (subst (λ (w : Version). Contains w.entries k.1) (sym this) k.3)) [
        | inl same ↦ absurd (no_some row (ap (λ (d : Entry). d.row) same ∙ k.5))
        | inr none ↦ absurd (elem-none k.1 none)
      ]
    ]

    static_of : (row : Row) → HasStaticRow (vs ++ (version_of flag pt phase ∷ [])) row → HasStaticRow vs row
    static_of row k = elim (elem-pushed vs (version_of flag pt phase) k.0 k.1) [
      | inl before ↦ (k.0, before, k.2)
      | inr this ↦ absurd (no_some row (ap (λ (w : Version). w.statics) this ∙ k.2))
    ]
