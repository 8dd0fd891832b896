-- A version after its link to a static row was set or unset.
use Rattle.std.proofs.Common.{◌≡◌, ◌≢◌, ℕ, zero, suc, ◌+◌, ◌<◌, List, length, Option, Some, None, IsSome, is_some, refl, sym, ap, ◌∙◌, subst, arith}
use Rattle.std.specs.Prelude.{IsSomeAnd}
use Rattle.rc_cell.specs.declared.rows.Row.{Row}
use Rattle.rc_rowcode.specs.Objects.{static_size}
use Rattle.rc_rowcode.specs.Spelling.{row_code}
use Rattle.lsa_kinds.specs.declared.kind.Kind.{Kind}
use Rattle.lsa_kinds.specs.declared.kind.Kind.TheVariants.{Version as VersionKind, Static}
use Rattle.lsa_kinds.specs.Kinds.{links_of}
use Rattle.lsa_pool.specs.Room.{live_sum}
use Rattle.lsa_store.specs.declared.place.Ref.{Ref}
use Rattle.lsa_store.specs.Objects.{rounded_size}
use Rattle.lsa_region.specs.declared.end.End.{End}
use Rattle.lsa_region.specs.declared.end.End.TheVariants.{Obj}
use Rattle.lsa_region.specs.Layout.{object_extent}
use Rattle.lsa_region.specs.Paired.{IsParted}
use Rattle.lsa_region.specs.Region.{View, body, link_of, live_bytes, IsEnd, IsWell, SameObjects, IsFreed, Risen}
use Rattle.lsa_region.specs.laws.Ends.{past-links}
use Rattle.lsa_path.specs.laws.Paths.{same_object}
use Rattle.rc_core.specs.Steps.{set_statics}
use Rattle.rc_core.specs.Version.{Version}
use Rattle.rc_object.specs.Objects.{HoldsStatic}
use Rattle.rc_version.specs.Versions.{version_head, HasStatics, IsVersionOf, IsKeptBeside, IsStaticsOf, IsUnlisted, IsWeighed, IsNoneMade, entries_bytes, statics_bytes, version_bytes}
use Rattle.rc_version.specs.laws.Objects.{head-same, holds-same, static-no_version, static-once, static-same}
use Rattle.rc_version.specs.laws.Holding.{hold-kept}
use Rattle.rc_version.specs.laws.Marked.{none-freed}
use Rattle.rc_version.specs.laws.Staying.{IsStaticStep, freed-kept, freed-version, kept-then, static-kept, static-tree, version-kind}
use Rattle.rc_version.proofs.Taken.{freed-live}

same_row : (s q : Ref) → Some (Obj s 2) ≡ Some (Obj q 2) → s ≡ q
same_row s q e = cc

-- no link of a static row is set that is of no version and in no list
pub static-unset : (v : View) (s : Ref) (row : Row) → IsWell v → HoldsStatic v s row → link_of v (Obj s 2) ≡ None → IsUnlisted v s → (field : ℕ) → link_of v (Obj s field) ≡ None
static-unset v s row well h alone out zero = out 0 (omega arith)
static-unset v s row well h alone out (suc zero) = out 1 (omega arith)
static-unset v s row well h alone out (suc (suc zero)) = alone
static-unset v s row well h alone out (suc (suc (suc field))) = past-links v s Static (row_code row) (suc (suc (suc field))) well h.0 (omega arith)

pub static-extent : (v : View) (s : Ref) (row : Row) → HoldsStatic v s row → object_extent (body v s) ≡ static_size row
static-extent v s row h = ap object_extent h.0

pub static-kind : (v : View) (s : Ref) (row : Row) → HoldsStatic v s row → IsSomeAnd (body v s) (λ b. b.0 ≡ Static)
static-kind v s row h = subst (λ (o : Option (Kind × List ℕ)). IsSomeAnd o (λ b. b.0 ≡ Static)) (sym h.0) refl

module _ (v w : View) (n s : Ref) (step : IsStaticStep v w n s) where
  pub static-version : (refs : List Ref) (c : Version) (row : Option Row) → HasStatics w n row → IsVersionOf v n refs c → IsVersionOf w n refs (set_statics row c.static_flag c)
  static-version refs c row statics h = record {
    head = head-same v w n (version_head c) (step.objects.bodies n) h.head;
    statics = statics;
    tree = static-tree v w n s step n refs (version-kind v n refs c h) h.tree;
    entries = hold-kept v w refs c.entries (λ r e k hold. holds-same v w r e (step.objects.bodies r) hold) h.entries;
    version = record { ascend = h.version.ascend; ends = h.version.ends };
  }

-- ---- the row that the link of a version names

pub statics-named : (v : View) (n : Ref) (row : Option Row) → HasStatics v n row → (e : End) → link_of v (Obj n 3) ≡ Some e → (s : Ref) × (r : Row) × (row ≡ Some r) × (e ≡ Obj s 2) × HoldsStatic v s r
statics-named v n None h e is = absurd (let clash : None ≡ Some e = sym h ∙ is in cc)
statics-named v n (Some r) h e is = (h.0, r, refl, (let both : Some e ≡ Some (Obj h.0 2) = sym is ∙ h.1 in cc), h.2)

-- the object that was read in the link is the one that was parted from it
link_same : (named : Option End) (mate e : End) (s q : Ref) (field : ℕ) → named ≡ Some e → e ≡ Obj s field → named ≡ Some mate → mate ≡ Obj q 2 → q ≡ s
link_same named mate e s q field a b d k = let both : Some (Obj s field) ≡ Some (Obj q 2) = ap (λ x. Some x) (sym b) ∙ sym a ∙ d ∙ ap (λ x. Some x) k in cc

pub record IsNamed (v : View) (n s : Ref) (mate : End) : Type 0 where
  pub is : mate ≡ Obj s 2
  pub link : IsStaticsOf v n s
  pub row : Row
  pub held : HoldsStatic v s row

pub named-row : (v : View) (n : Ref) (refs : List Ref) (c : Version) → IsVersionOf v n refs c → (mate e : End) (s : Ref) (field : ℕ) → link_of v (Obj n 3) ≡ Some e → e ≡ Obj s field → link_of v (Obj n 3) ≡ Some mate → IsNamed v n s mate
named-row v n refs c h mate e s field a b d =
    let named = statics-named v n c.statics h.statics mate d in let same = link_same (link_of v (Obj n 3)) mate e s named.0 field a b d named.3 in
    let is : mate ≡ Obj s 2 = named.3 ∙ ap (λ q. Obj q 2) same in
    record { is = is; link = d ∙ ap (λ x. Some x) is; row = named.1; held = subst (λ q. HoldsStatic v q named.1) same named.4 }

pub row-at-link : (v : View) (n : Ref) (refs : List Ref) (c : Version) → IsVersionOf v n refs c → (e : End) (s : Ref) (field : ℕ) → link_of v (Obj n 3) ≡ Some e → e ≡ Obj s field → (r : Row) × (c.statics ≡ Some r) × HoldsStatic v s r
row-at-link v n refs c h e s field a b =
    let named = statics-named v n c.statics h.statics e a in let ends : Obj named.0 2 ≡ Obj s field = sym named.3 ∙ b in
    (named.1, named.2, subst (λ q. HoldsStatic v q named.1) (same_object named.0 s 2 field ends) named.4)

pub statics-unset : (v : View) (n : Ref) (row : Option Row) → HasStatics v n row → link_of v (Obj n 3) ≡ None → row ≡ None
statics-unset v n None h is = refl
statics-unset v n (Some r) h is = absurd (let clash : None ≡ Some (Obj h.0 2) = sym is ∙ h.1 in cc)

-- a version without one
pub none-version : (v : View) (n : Ref) (refs : List Ref) (c : Version) → link_of v (Obj n 3) ≡ None → IsVersionOf v n refs c → IsVersionOf v n refs (set_statics None c.static_flag c)
none-version v n refs c is h = subst (λ row. IsVersionOf v n refs (set_statics row c.static_flag c)) (statics-unset v n c.statics h.statics is) h

pub none-weighed : (v : View) (n : Ref) (refs : List Ref) (c : Version) → link_of v (Obj n 3) ≡ None → IsVersionOf v n refs c → IsWeighed v v c (set_statics None c.static_flag c)
none-weighed v n refs c is h = ap (λ row. live_bytes v + version_bytes (set_statics row c.static_flag c)) (statics-unset v n c.statics h.statics is)

version_link : (o : Option (Kind × List ℕ)) (field : ℕ) → IsSomeAnd o (λ b. b.0 ≡ VersionKind) → field < 4 → IsSomeAnd o (λ b. field < links_of b.0)
version_link None field h few = absurd h
version_link (Some b) field h few = subst (λ kind. field < links_of kind) (sym h) few

pub version-end : (v : View) (n : Ref) (field : ℕ) → IsSomeAnd (body v n) (λ b. b.0 ≡ VersionKind) → field < 4 → IsEnd v (Obj n field)
version-end v n field h few = version_link (body v n) field h few

static_link : (o : Option (Kind × List ℕ)) (field : ℕ) → IsSomeAnd o (λ b. b.0 ≡ Static) → field < 3 → IsSomeAnd o (λ b. field < links_of b.0)
static_link None field h few = absurd h
static_link (Some b) field h few = subst (λ kind. field < links_of kind) (sym h) few

pub static-end : (v : View) (s : Ref) (row : Row) (field : ℕ) → HoldsStatic v s row → field < 3 → IsEnd v (Obj s field)
static-end v s row field h few = static_link (body v s) field (static-kind v s row h) few

-- ---- one taken out and freed

lighter : (new put old size e : ℕ) → new + size ≡ put → put ≡ old → new + (64 + (size + e)) ≡ old + (64 + (0 + e))
lighter new put old size e a b = omega arith

module _ (S : ℕ) (old put : View) (n s : Ref) (row : Row) (refs : List Ref) (c : Version) (h : IsVersionOf old n refs c) (link : IsStaticsOf old n s) (held : HoldsStatic old s row)
    (parted : IsParted (link_of old) (link_of put) (Obj n 3) (Obj s 2)) (objects : SameObjects old put) (well_put : IsWell put) (unlisted : IsUnlisted old s) where
  pub take-step : IsStaticStep old put n s
  take-step = record { others = parted.others; objects = objects; version = version-kind old n refs c h; row = static-kind old s row held }

  put_held : HoldsStatic put s row
  put_held = static-same old put s row (objects.bodies s) held

  pub take-there : IsSome (body put s)
  take-there = ap is_some put_held.0

  pub take-unset : (field : ℕ) → link_of put (Obj s field) ≡ None
  take-unset = static-unset put s row well_put put_held parted.second (λ field low. (static-kept old put n s take-step (IsStaticsOf old n)).links (Obj s field) low ∙ unlisted field low)

  module _ (new : View) (free : IsFreed put new s) (budget : length new.usages ≡ length put.usages) (moved : new.moved ≡ put.moved) (compacted : new.compacted ≡ put.compacted) (risen : Risen put.epoch new.epoch) where
    no_row : (m : Ref) → IsSomeAnd (body put m) (λ b. b.0 ≡ VersionKind) → m ≢ s
    no_row m kind is = static-no_version put s row put_held (subst (λ q. IsSomeAnd (body put q) (λ b. b.0 ≡ VersionKind)) is kind)

    pub take-kept : IsKeptBeside (IsStaticsOf old n) n old new
    take-kept = kept-then (IsStaticsOf old n) n old put new (static-kept old put n s take-step (IsStaticsOf old n)) (freed-kept put new s well_put free take-unset (IsStaticsOf old n) n link (λ m ne kind. no_row m kind) budget moved compacted risen)

    pub take-none : IsNoneMade old new
    take-none q gone = none-freed put new s free q (objects.bodies q ∙ gone)

    pub take-links : (e : End) → e ≢ Obj n 3 → link_of old (Obj n 3) ≢ Some e → link_of new e ≡ link_of old e
    take-links e ne other = free.links e ∙ parted.others e ne (λ is. other (link ∙ ap (λ x. Some x) (sym is)))

    pub take-gone : (q : Ref) → IsStaticsOf old n q → body new q ≡ None
    take-gone q named = subst (λ z. body new z ≡ None) (let both : Some (Obj s 2) ≡ Some (Obj q 2) = sym link ∙ named in same_row s q both) free.here

    module _ (rs : List Ref) (d : Version) (k : IsVersionOf old n rs d) where
      put_version : IsVersionOf put n rs (set_statics None d.static_flag d)
      put_version = static-version old put n s take-step rs d None parted.first k

      pub take-version : IsVersionOf new n rs (set_statics None d.static_flag d)
      take-version = freed-version put new s well_put free take-unset n rs (set_statics None d.static_flag d) (no_row n (version-kind put n rs (set_statics None d.static_flag d) put_version)) put_version

      pub take-live : IsSomeAnd (body put s) (λ b. live_bytes new + rounded_size b.0 (length b.1) ≡ live_bytes put) → IsWeighed old new d (set_statics None d.static_flag d)
      take-live less =
          let named = statics-named old n d.statics k.statics (Obj s 2) link in
          let same : Some row ≡ d.statics = ap (λ x. Some x) (static-once old s row named.1 held (subst (λ q. HoldsStatic old q named.1) (sym (same_object s named.0 2 2 named.3)) named.4)) ∙ sym named.2 in
          subst (λ r. live_bytes new + (64 + (statics_bytes r + entries_bytes d.entries)) ≡ live_bytes old + (64 + (0 + entries_bytes d.entries))) same
          (lighter (live_bytes new) (live_bytes put) (live_bytes old) (static_size row) (entries_bytes d.entries) (freed-live (body put s) (live_bytes put) (live_bytes new) (static_size row) less (static-extent put s row put_held)) (ap (λ us. live_sum us) objects.usages))
