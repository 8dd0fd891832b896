-- A region renamed twice is renamed once.
use Rattle.std.proofs.Common.{◌≡◌, ◌≢◌, ℕ, ◌<◌, List, [], ◌∷◌, length, get_or, map, Option, Some, None, refl, sym, ap, ◌∙◌, subst, arith}
use Rattle.std.specs.Prelude.{IsSome, IsSomeAnd, Contains, AllPairs}
use Rattle.std.specs.Option.{option_map}
use Rattle.std.proofs.lemmas.List.{get_or-map, length-map}
use Rattle.lsa_kinds.specs.declared.kind.Kind.{Kind}
use Rattle.lsa_kinds.specs.Kinds.{links_of}
use Rattle.lsa_region.specs.Ref.{Ref}
use Rattle.lsa_region.specs.declared.end.End.{End}
use Rattle.lsa_region.specs.declared.end.End.TheVariants.{Obj, Slot}
use Rattle.lsa_region.specs.Ends.{named_as, end_as}
use Rattle.lsa_region.specs.Region.{View, body, link_of, IsEnd, IsWell, AreLive, Renamed}
use Rattle.lsa_region.specs.laws.Names.{none, named-at, place, goes, came, one-to-one}

-- ---- two lists of names

abbrev pub composed : List (Ref × Ref) → List (Ref × Ref) → List (Ref × Ref)
composed second first = map (λ (pair : Ref × Ref). (pair.0, named_as second pair.1)) first

olds : (second first : List (Ref × Ref)) → map (λ (pair : Ref × Ref). pair.0) (composed second first) ≡ map (λ (pair : Ref × Ref). pair.0) first
olds second [] = refl
olds second (pair ∷ first) = ap (λ l. pair.0 ∷ l) (olds second first)

news : (second first : List (Ref × Ref)) → map (λ (pair : Ref × Ref). pair.1) (composed second first) ≡ map (λ (pair : Ref × Ref). named_as second pair.1) first
news second [] = refl
news second (pair ∷ first) = ap (λ l. named_as second pair.1 ∷ l) (news second first)

there : (o : Option (Kind × List ℕ)) (field : ℕ) → IsSomeAnd o (λ b. field < links_of b.0) → IsSome o
there None field h = absurd h
there (Some b) field h = refl

module _ (a b c : View) (first second : List (Ref × Ref)) (ab : Renamed a b first) (bc : Renamed b c second) where
  middle : (j : ℕ) → j < length first → IsSome (body b (get_or first j none).1)
  middle j lt = ab.after.live (get_or first j none).1 (j, omega (arith, lt, length-map first (λ (p : Ref × Ref). p.1)), get_or-map (λ (p : Ref × Ref). p.1) first j none (get_or first j none).1 lt)

  last : (j : ℕ) (d : Ref) → j < length first → get_or (map (λ (pair : Ref × Ref). named_as second pair.1) first) j d ≡ named_as second (get_or first j none).1
  last j d lt = get_or-map (λ (p : Ref × Ref). named_as second p.1) first j none d lt

  long : length (map (λ (pair : Ref × Ref). named_as second pair.1) first) ≡ length first
  long = length-map first (λ (p : Ref × Ref). named_as second p.1)

  wide : length (composed second first) ≡ length first
  wide = length-map {B = Ref × Ref} first (λ (p : Ref × Ref). (p.0, named_as second p.1))

  each : (r : Ref) → IsSome (body c r) → Contains (map (λ (pair : Ref × Ref). named_as second pair.1) first) r
  each r live = let q = came b c second bc r live in let p = came a b first ab q.0 q.1 in let at = place a b first ab p.0 p.1 in
      (at.0, omega (arith, at.1, long), last at.0 r at.1 ∙ ap (named_as second) (at.3 none ∙ p.2) ∙ q.2)

  live : (r : Ref) → Contains (map (λ (pair : Ref × Ref). named_as second pair.1) first) r → IsSome (body c r)
  live r h = let lt : h.0 < length first = omega (arith, h.1, long) in
      subst (λ q. IsSome (body c q)) (sym (last h.0 r lt) ∙ h.2) (goes b c second bc (get_or first h.0 none).1 (middle h.0 lt))

  once : AllPairs ◌≢◌ (map (λ (pair : Ref × Ref). named_as second pair.1) first)
  once i j d less within = λ same. let lt : j < length first = omega (arith, within, long) in let il : i < length first = omega (arith, less, lt) in
      let alike : (get_or first i none).1 ≡ (get_or first j none).1 = one-to-one b c second bc (get_or first i none).1 (get_or first j none).1 (middle i il) (middle j lt) (sym (last i d il) ∙ same ∙ last j d lt) in
      ab.after.once i j d less (omega (arith, lt, length-map first (λ (p : Ref × Ref). p.1)))
      (get_or-map (λ (p : Ref × Ref). p.1) first i none d il ∙ alike ∙ sym (get_or-map (λ (p : Ref × Ref). p.1) first j none d lt))

  before : AreLive a (map (λ pair. pair.0) (composed second first))
  before = subst (AreLive a) (sym (olds second first)) ab.before

  named : (r : Ref) → IsSome (body a r) → named_as (composed second first) r ≡ named_as second (named_as first r)
  named r alive = let at = place a b first ab r alive in
      let pair = get_or-map (λ (p : Ref × Ref). (p.0, named_as second p.1)) first at.0 none none at.1 in
      sym (ap (named_as (composed second first)) (ap (λ (p : Ref × Ref). p.0) pair ∙ at.2 none))
      ∙ named-at (composed second first) at.0 none before.once (omega (arith, at.1, wide))
      ∙ ap (λ (p : Ref × Ref). p.1) pair ∙ ap (named_as second) (at.3 none)

  mapped : (o : Option End) → ((e : End) → o ≡ Some e → IsEnd a e) → option_map (end_as second) (option_map (end_as first) o) ≡ option_map (end_as (composed second first)) o
  mapped None h = refl
  mapped (Some (Obj r field)) h = ap (λ q. Some (Obj q field)) (sym (named r (there (body a r) field (h (Obj r field) refl))))
  mapped (Some (Slot s)) h = refl

  pub renamed-twice : IsWell a → Renamed a c (composed second first)
  renamed-twice well = record {
    before = before;
    after = subst (AreLive c) (sym (news second first)) (record { each = each; live = live; once = once });
    bodies = λ r alive. ap (body c) (named r alive) ∙ bc.bodies (named_as first r) (goes a b first ab r alive) ∙ ab.bodies r alive;
    links = λ r field alive. ap (λ q. link_of c (Obj q field)) (named r alive) ∙ bc.links (named_as first r) field (goes a b first ab r alive)
        ∙ ap (option_map (end_as second)) (ab.links r field alive) ∙ mapped (link_of a (Obj r field)) (λ e is. well.ends (Obj r field) e is);
    roots = λ s. bc.roots s ∙ ap (option_map (end_as second)) (ab.roots s) ∙ mapped (link_of a (Slot s)) (λ e is. well.ends (Slot s) e is);
    kept = λ s h. bc.kept s (ab.kept s h);
    known = λ s h. ab.known s (bc.known s h);
    slots = bc.slots ∙ ab.slots;
    budget = bc.budget ∙ ab.budget;
    live = bc.live ∙ ab.live;
  }
