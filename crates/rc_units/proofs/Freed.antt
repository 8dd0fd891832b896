-- Of a chain that nobody finds or reads one object after another is freed: a chain is left, of one object less.
use Rattle.std.specs.Prelude.{◌<◌, ◌≡◌, ◌+◌, List, [], ◌∷◌, ◌++◌, Option, Some, None, cond, length}
use Rattle.std.proofs.Common.{refl, sym, ap, ◌∙◌, subst, ⊎_elim, arith}
use Rattle.std.specs.declared.cmp.Ordering.{Ordering}
use Rattle.std.specs.declared.cmp.Ordering.TheVariants.{Less, Equal, Greater}
use Rattle.std.specs.Ordering.{is_eq}
use Rattle.std.specs.Cmp.{tied_itself}
use Rattle.rc_cell.specs.declared.rows.Row.{Row}
use Rattle.rc_position.specs.declared.positions.Pos.{Pos}
use Rattle.rc_position.specs.Position.{IsBefore, pos_cmp}
use Rattle.rc_position.specs.laws.Orders.{pos_cmp_total}
use Rattle.rc_core.specs.declared.entries.ChainKind.{ChainKind}
use Rattle.rc_core.specs.declared.entries.Entry.{Entry}
use Rattle.rc_core.specs.declared.entries.Mark.{Mark}
use Rattle.rc_core.specs.AtPlace.{HasEntryAt}
use Rattle.rc_core.specs.Chains.{Chain, IsUpdating, with_versions}
use Rattle.rc_core.specs.Change.{take_out, with_first_gap}
use Rattle.rc_core.specs.Continuity.{EachOf}
use Rattle.rc_core.specs.Free.{IsAbandoned, free_entry, free_statics, freed_mark}
use Rattle.rc_core.specs.Steps.{IsChain}
use Rattle.rc_core.specs.Version.{IsVersion, Version, end_position}
use Rattle.rc_core.specs.laws.Freeing.{replaced-form}
use Rattle.rc_core.specs.laws.Keeping.{each_less}
use Rattle.rc_core.specs.laws.Losing.{each-one}
use Rattle.rc_core.specs.laws.Order.{take_out-is}
use Rattle.rc_units.specs.Chained.{objects_of}
use Rattle.rc_units.specs.Clean.{static_units, units_of}
use Rattle.rc_units.proofs.Ending.{some_units}

-- ---- one version

first-length : (m : Mark) (es : List Entry) → length (with_first_gap m es) ≡ length es
first-length m [] = refl
first-length m (e ∷ es) = refl

tied : (r : Ordering) (x y : Pos) → pos_cmp x y ≡ r → y ≡ x → r ≡ Equal
tied r x y k d = sym (subst (λ z. pos_cmp x z ≡ r) d k) ∙ tied_itself pos_cmp_total x

-- one entry less, where one stands there
taken-length : (m : Mark) (x : Pos) (es : List Entry) → HasEntryAt x es → length (take_out m x es) < length es
taken-length m x [] h = absurd h
taken-length m x (e ∷ es) h = elim (pos_cmp x e.position) as (λ r. pos_cmp x e.position ≡ r → length (cond (is_eq r) (with_first_gap m es) (e ∷ take_out m x es)) < length (e ∷ es)) [
  | Less ↦ λ k. ⊎_elim (λ d. let u : Less ≡ Equal = tied Less x e.position k d in absurd (cc)) (λ g. omega (arith, taken-length m x es g)) h
  | Equal ↦ λ _. omega (arith, first-length m es)
  | Greater ↦ λ k. ⊎_elim (λ d. let u : Greater ≡ Equal = tied Greater x e.position k d in absurd (cc)) (λ g. omega (arith, taken-length m x es g)) h
] refl

static-less : (kind : ChainKind) (v : Version) (row : Option Row) → v.statics ≡ row → (row ≡ None → ⊥) → units_of (free_statics kind v) < units_of v
static-less kind v None h some = absurd (some refl)
static-less kind v (Some row) h some = omega (arith, ap static_units h)

-- ---- the whole chain

objects-append : (front rest : List Version) → objects_of (front ++ rest) ≡ objects_of front + objects_of rest
objects-append [] rest = omega arith
objects-append (f ∷ fs) rest = omega (arith, objects-append fs rest)

replaced-less : (front back : List Version) (u v : Version) → units_of u < units_of v → objects_of (front ++ u ∷ back) < objects_of (front ++ v ∷ back)
replaced-less front back u v l = omega (arith, l, objects-append front (u ∷ back), objects-append front (v ∷ back))

pub entry-less : (kind : ChainKind) (front back : List Version) (v : Version) (x : Pos) → HasEntryAt x v.entries → objects_of (front ++ free_entry kind x v ∷ back) < objects_of (front ++ v ∷ back)
entry-less kind front back v x h = replaced-less front back (free_entry kind x v) v (omega (arith, taken-length (freed_mark kind) x v.entries h))

pub statics-less : (kind : ChainKind) (front back : List Version) (v : Version) → (v.statics ≡ None → ⊥) → objects_of (front ++ free_statics kind v ∷ back) < objects_of (front ++ v ∷ back)
statics-less kind front back v some = replaced-less front back (free_statics kind v) v (static-less kind v v.statics refl some)

pub version-less : (front back : List Version) (v : Version) → IsVersion v → objects_of (front ++ back) < objects_of (front ++ v ∷ back)
version-less front back v i = omega (arith, some_units v i, objects-append front back, objects-append front (v ∷ back))

-- ---- a chain is left

module _ (c : Chain) (front back : List Version) (v : Version) (vs : c.versions ≡ front ++ v ∷ back) (ch : IsChain c) where
  is_version : IsVersion v
  is_version = each-one IsVersion front back v (subst (EachOf IsVersion) vs ch.versions)

  pub entry-form : (kind : ChainKind) (x : Pos) → IsBefore x end_position → IsChain (with_versions (front ++ free_entry kind x v ∷ back) c)
  entry-form kind x b = replaced-form c front back v (free_entry kind x v) vs (take_out-is (freed_mark kind) x v b is_version) ch

  pub statics-form : (kind : ChainKind) → IsChain (with_versions (front ++ free_statics kind v ∷ back) c)
  statics-form kind = replaced-form c front back v (free_statics kind v) vs (record { ascend = is_version.ascend; ends = is_version.ends }) ch

  pub version-form : IsAbandoned c → IsChain (with_versions (front ++ back) c)
  version-form l = record {
    versions = each_less IsVersion front back v (subst (EachOf IsVersion) vs ch.versions);
    pins = λ j p. absurd (l.unpinned j p);
    unpinned = λ u. absurd (subst IsUpdating l.settled u);
  }
