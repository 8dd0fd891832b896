-- What stands in one region where it is furnished, used and moved.
use Rattle.std.proofs.Common.{◌≡◌, ◌≢◌, ℕ, zero, suc, ◌<◌, ◌≤◌, List, [], ◌∷◌, ◌++◌, Option, Some, None, IsSome, is_some, inl, inr, refl, sym, ap, ◌∙◌, subst, map, arith}
use Rattle.std.specs.Prelude.{IsSomeAnd, IfSome, Contains}
use Rattle.std.specs.Option.{option_map}
use Rattle.std.proofs.lemmas.List.Elements.{Contains-append_left, Contains-append_right, Contains-append_cases}
use Rattle.std.proofs.lemmas.Bool.{cases_lt}
use Rattle.lsa_kinds.specs.declared.kind.Kind.{Kind}
use Rattle.lsa_kinds.specs.declared.kind.Kind.TheVariants.{Version, RowEntry, Dummy, Static}
use Rattle.lsa_kinds.specs.Kinds.{links_of}
use Rattle.lsa_store.specs.declared.place.Ref.{Ref}
use Rattle.lsa_region.specs.declared.end.Root.{Root}
use Rattle.lsa_region.specs.declared.end.End.{End}
use Rattle.lsa_region.specs.declared.end.End.TheVariants.{Obj, Slot}
use Rattle.lsa_region.specs.Ends.{named_as}
use Rattle.lsa_region.specs.Region.{View, body, link_of, IsEnd, IsWell, SameObjects, IsAdded, IsFreed, Renamed}
use Rattle.lsa_region.specs.laws.Ends.{some_and_none, no-end}
use Rattle.lsa_region.specs.laws.Refs.{refs_decided}
use Rattle.lsa_path.specs.Path.{IsPath, AllOnward}
use Rattle.lsa_path.specs.Roles.{role_of, version_role, LessRecent, MoreRecent}
use Rattle.lsa_path.specs.laws.Members.{member-cases, member-first, member-later, member-here, all-from_members}
use Rattle.lsa_path.specs.laws.Passing.{path-entered, path-beside}
use Rattle.lsa_path.specs.laws.Paths.{path-everywhere}
use Rattle.lsa_path.specs.laws.Renamed.{path-renamed}
use Rattle.lsa_list.specs.declared.recency.List.{List as Slots}
use Rattle.lsa_list.specs.Recency.{IsList, IsElsewhere, kind_of}
use Rattle.lsa_list.specs.laws.Lists.{list-unlinked, list-renamed, path-elsewhere, kind_written}
use Rattle.lsa_rooms.specs.Room.{StandsInRegion}
use Rattle.lsa_tree_tests.specs.Furnished.{IsFirst}

-- an object of a kind has its links
has_link : (o : Option (Kind × List ℕ)) (kind : Kind) (f : ℕ) → option_map (λ b. b.0) o ≡ Some kind → f < links_of kind → IsSomeAnd o (λ b. f < links_of b.0)
has_link None kind f is lt = cc is
has_link (Some b) kind f is lt = let same : kind ≡ b.0 = cc in subst (λ k. f < links_of k) same lt

pub kind-end : (v : View) (r : Ref) (kind : Kind) (f : ℕ) → kind_of v r ≡ Some kind → f < links_of kind → IsEnd v (Obj r f)
kind-end v r kind f is lt = has_link (body v r) kind f is lt

pub kind-same : (v w : View) → SameObjects v w → (r : Ref) → kind_of w r ≡ kind_of v r
kind-same v w same r = ap (option_map (λ (b : Kind × List ℕ). b.0)) (same.bodies r)

-- a version's links are none of a recency list, and none past the first two of any kind is
version_roles : (f : ℕ) → (version_role f ≢ LessRecent) × (version_role f ≢ MoreRecent)
version_roles zero = ((λ e. cc), (λ e. cc))
version_roles (suc zero) = ((λ e. cc), (λ e. cc))
version_roles (suc (suc zero)) = ((λ e. cc), (λ e. cc))
version_roles (suc (suc (suc zero))) = ((λ e. cc), (λ e. cc))
version_roles (suc (suc (suc (suc f)))) = ((λ e. cc), (λ e. cc))

version_far : (o : Option (Kind × List ℕ)) (f : ℕ) → option_map (λ b. b.0) o ≡ Some Version → IfSome o (λ b. (role_of b.0 f ≢ LessRecent) × (role_of b.0 f ≢ MoreRecent))
version_far None f is = tt
version_far (Some b) f is = let same : Version ≡ b.0 = cc in subst (λ k. (role_of k f ≢ LessRecent) × (role_of k f ≢ MoreRecent)) same (version_roles f)

past_roles : (kind : Kind) (f : ℕ) → (role_of kind (suc (suc f)) ≢ LessRecent) × (role_of kind (suc (suc f)) ≢ MoreRecent)
past_roles Version f = version_roles (suc (suc f))
past_roles RowEntry zero = ((λ e. cc), (λ e. cc))
past_roles RowEntry (suc zero) = ((λ e. cc), (λ e. cc))
past_roles RowEntry (suc (suc zero)) = ((λ e. cc), (λ e. cc))
past_roles RowEntry (suc (suc (suc f))) = ((λ e. cc), (λ e. cc))
past_roles Dummy zero = ((λ e. cc), (λ e. cc))
past_roles Dummy (suc zero) = ((λ e. cc), (λ e. cc))
past_roles Dummy (suc (suc zero)) = ((λ e. cc), (λ e. cc))
past_roles Dummy (suc (suc (suc f))) = ((λ e. cc), (λ e. cc))
past_roles Static zero = ((λ e. cc), (λ e. cc))
past_roles Static (suc f) = ((λ e. cc), (λ e. cc))

past_far : (o : Option (Kind × List ℕ)) (f : ℕ) → IfSome o (λ b. (role_of b.0 (suc (suc f)) ≢ LessRecent) × (role_of b.0 (suc (suc f)) ≢ MoreRecent))
past_far None f = tt
past_far (Some b) f = past_roles b.0 f

module _ (slots : Slots) (v : View) where
  pub version-elsewhere : (r : Ref) (f : ℕ) → kind_of v r ≡ Some Version → IsElsewhere slots v (Obj r f)
  version-elsewhere r f is = version_far (body v r) f is

  pub past-elsewhere : (r : Ref) (f : ℕ) → IsElsewhere slots v (Obj r (suc (suc f)))
  past-elsewhere r f = past_far (body v r) f

module _ (chain : Root) (slots : Slots) (v w : View) (versions : List Ref) (top : Ref) (entries listed : List Ref) (s : StandsInRegion chain slots v versions top entries listed) where
  pub chain-elsewhere : IsElsewhere slots v (Slot chain)
  chain-elsewhere = (s.front, s.back)

  onward_elsewhere : AllOnward 0 (IsElsewhere slots v) versions
  onward_elsewhere = all-from_members 0 (IsElsewhere slots v) versions (λ r h. version-elsewhere slots v r 0 (s.kinds r h))

  -- the recency list changed
  pub stands-listed : (now : List Ref) → ((e : End) → IsElsewhere slots v e → link_of w e ≡ link_of v e) → SameObjects v w → IsList slots w now → StandsInRegion chain slots w versions top entries now
  stands-listed now same objects list = record {
    chained = path-elsewhere slots v w 1 0 (Slot chain) versions None same chain-elsewhere onward_elsewhere s.chained;
    kinds = λ r h. kind-same v w objects r ∙ s.kinds r h;
    ordered = path-elsewhere slots v w 3 4 (Obj top 2) entries None same (past-elsewhere slots v top 0) (all-from_members 4 (IsElsewhere slots v) entries (λ r h. past-elsewhere slots v r 2)) s.ordered;
    dummies = λ r h. kind-same v w objects r ∙ s.dummies r h;
    list = list;
    front = s.front;
    back = s.back;
  }

-- ---- no link changes

clash : (o : Option End) → o ≡ None → IsSome o → ⊥
clash None none some = cc some
clash (Some e) none some = cc none

module _ (v w : View) (well : IsWell v) where
  member_set : (i o : ℕ) (s : End) (xs : List Ref) (f : Option End) → IsPath i o (link_of v) s xs f → (r : Ref) → Contains xs r → IsSome (link_of v (Obj r i))
  member_set i o s xs f p r h = let a = path-entered i o (link_of v) s xs f p r h in ap is_some (well.paired.mates a.0 (Obj r i) a.1)

  -- where each object with a link that is set keeps its kind
  pub stands-unlinked : (chain : Root) (slots : Slots) (versions : List Ref) (top : Ref) (entries listed : List Ref) → ((e : End) → link_of w e ≡ link_of v e) → ((q : Ref) (f : ℕ) → IsSome (link_of v (Obj q f)) → kind_of w q ≡ kind_of v q)
      → StandsInRegion chain slots v versions top entries listed → StandsInRegion chain slots w versions top entries listed
  stands-unlinked chain slots versions top entries listed links keeps s = record {
    chained = path-everywhere 1 0 (link_of v) (link_of w) (Slot chain) versions None links s.chained;
    kinds = λ r h. keeps r 1 (member_set 1 0 (Slot chain) versions None s.chained r h) ∙ s.kinds r h;
    ordered = path-everywhere 3 4 (link_of v) (link_of w) (Obj top 2) entries None links s.ordered;
    dummies = λ r h. keeps r 3 (member_set 3 4 (Obj top 2) entries None s.ordered r h) ∙ s.dummies r h;
    list = list-unlinked slots v w listed s.list links (λ r h. keeps r 0 (member_set 0 1 (Slot slots.front) listed (Some (Slot slots.back)) s.list.path r h));
    front = s.front;
    back = s.back;
  }

  added_keeps : (r : Ref) (kind : Kind) (bytes : List ℕ) → IsAdded v w r kind bytes → (q : Ref) (f : ℕ) → IsSome (link_of v (Obj q f)) → kind_of w q ≡ kind_of v q
  added_keeps r kind bytes added q f set = ap (option_map (λ (b : Kind × List ℕ). b.0)) (added.others q (λ is.
      clash (link_of v (Obj q f)) (no-end v well (Obj q f) (λ h. some_and_none (body v q) (λ b. f < links_of b.0) (ap (body v) is ∙ added.fresh) h)) set))

  pub stands-added : (r : Ref) (kind : Kind) (bytes : List ℕ) → IsAdded v w r kind bytes → (chain : Root) (slots : Slots) (versions : List Ref) (top : Ref) (entries listed : List Ref) → StandsInRegion chain slots v versions top entries listed → StandsInRegion chain slots w versions top entries listed
  stands-added r kind bytes added chain slots versions top entries listed s = stands-unlinked chain slots versions top entries listed added.links (added_keeps r kind bytes added) s

  pub stands-freed : (r : Ref) → IsFreed v w r → ((f : ℕ) → link_of v (Obj r f) ≡ None) → (chain : Root) (slots : Slots) (versions : List Ref) (top : Ref) (entries listed : List Ref) → StandsInRegion chain slots v versions top entries listed → StandsInRegion chain slots w versions top entries listed
  stands-freed r freed unset chain slots versions top entries listed s = stands-unlinked chain slots versions top entries listed freed.links
      (λ q f set. ap (option_map (λ (b : Kind × List ℕ). b.0)) (freed.others q (λ is. clash (link_of v (Obj q f)) (ap (λ x. link_of v (Obj x f)) is ∙ unset f) set))) s

-- ---- objects moved

map-member : (f : Ref → Ref) (xs : List Ref) (q : Ref) → Contains (map f xs) q → (r : Ref) × Contains xs r × (f r ≡ q)
map-member f [] q h = absurd (omega (arith, h.1))
map-member f (x ∷ xs) q h = elim (member-cases (f x) q (map f xs) h) [
  | inl same ↦ (x, member-first x xs, same)
  | inr later ↦ let w = map-member f xs q later in (w.0, member-later x w.0 xs w.1, w.2)
]

pub map-contains : (f : Ref → Ref) (xs : List Ref) (r : Ref) → Contains xs r → Contains (map f xs) (f r)
map-contains f [] r h = absurd (omega (arith, h.1))
map-contains f (x ∷ xs) r h = elim (member-cases x r xs h) [
  | inl same ↦ subst (λ q. Contains (map f (x ∷ xs)) (f q)) same (member-first (f x) (map f xs))
  | inr later ↦ member-later (f x) (f r) (map f xs) (map-contains f xs r later)
]

-- each of some that is listed is so under its new name
pub listed-moved : (f : Ref → Ref) (xs ys : List Ref) → ((r : Ref) → Contains xs r → Contains ys r) → (q : Ref) → Contains (map f xs) q → Contains (map f ys) q
listed-moved f xs ys h q on = let w = map-member f xs q on in subst (Contains (map f ys)) w.2 (map-contains f ys w.0 (h w.0 w.1))

pub kind_there : (o : Option (Kind × List ℕ)) (kind : Kind) → option_map (λ b. b.0) o ≡ Some kind → IsSome o
kind_there None kind is = cc is
kind_there (Some b) kind is = refl

pub fresh-differs : (v : View) (r q : Ref) (kind : Kind) → kind_of v r ≡ Some kind → body v q ≡ None → r ≢ q
fresh-differs v r q kind is fresh same = clash_body (body v r) (ap (body v) same ∙ fresh) (kind_there (body v r) kind is)
  where
    clash_body : (o : Option (Kind × List ℕ)) → o ≡ None → IsSome o → ⊥
    clash_body None none some = cc some
    clash_body (Some b) none some = cc none

pub stands-moved : (v w : View) (names : List (Ref × Ref)) → Renamed v w names → IsWell v → (chain : Root) (slots : Slots) (versions : List Ref) (top : Ref) (entries listed : List Ref) → Contains versions top → StandsInRegion chain slots v versions top entries listed
    → StandsInRegion chain slots w (map (named_as names) versions) (named_as names top) (map (named_as names) entries) (map (named_as names) listed)
stands-moved v w names renamed well chain slots versions top entries listed on s = record {
  chained = path-renamed v w names renamed well 1 0 (Slot chain) versions None tt s.chained;
  kinds = moved Version versions s.kinds;
  ordered = path-renamed v w names renamed well 3 4 (Obj top 2) entries None (kind_there (body v top) Version (s.kinds top on)) s.ordered;
  dummies = moved Dummy entries s.dummies;
  list = list-renamed slots v w names renamed well listed s.list;
  front = s.front;
  back = s.back;
}
  where
    moved : (kind : Kind) (xs : List Ref) → ((r : Ref) → Contains xs r → kind_of v r ≡ Some kind) → (q : Ref) → Contains (map (named_as names) xs) q → kind_of w q ≡ Some kind
    moved kind xs kinds q h = let m = map-member (named_as names) xs q h in
        subst (λ x. kind_of w x ≡ Some kind) m.2 (ap (option_map (λ (b : Kind × List ℕ). b.0)) (renamed.bodies m.0 (kind_there (body v m.0) kind (kinds m.0 m.1))) ∙ kinds m.0 m.1)

-- ---- what is listed

pub still-in : (us vs : List Ref) (r x : Ref) → Contains (us ++ (r ∷ vs)) x → x ≢ r → Contains (us ++ vs) x
still-in us vs r x h ne = elim (Contains-append_cases us (r ∷ vs) x h) [
  | inl before ↦ Contains-append_left us vs x before
  | inr behind ↦ elim (member-cases r x vs behind) [ inl same ↦ absurd (ne (sym same)) | inr later ↦ Contains-append_right us vs x later ]
]

-- the slot of a chain with a version is there
pub chain-there : (v : View) → IsWell v → (chain : Root) (slots : Slots) (newer : Ref) (versions : List Ref) (top : Ref) (entries listed : List Ref) → StandsInRegion chain slots v (newer ∷ versions) top entries listed → IsEnd v (Slot chain)
chain-there v well chain slots newer versions top entries listed s = well.ends (Obj newer 1) (Slot chain) (well.paired.mates (Slot chain) (Obj newer 1) s.chained.0)

-- an object all of whose links are unset
pub all-unset : (v : View) → IsWell v → (r : Ref) (kind : Kind) → kind_of v r ≡ Some kind → ((f : ℕ) → f < links_of kind → link_of v (Obj r f) ≡ None) → (f : ℕ) → link_of v (Obj r f) ≡ None
all-unset v well r kind is low f = elim (cases_lt f (links_of kind)) [
  | inl lt ↦ low f lt
  | inr le ↦ no-end v well (Obj r f) (λ h. past (body v r) is h le)
]
  where
    past : (o : Option (Kind × List ℕ)) → option_map (λ b. b.0) o ≡ Some kind → IsSomeAnd o (λ b. f < links_of b.0) → links_of kind ≤ f → ⊥
    past None is h le = absurd h
    past (Some b) is h le = let same : kind ≡ b.0 = cc in omega (arith, h, ap links_of same, le)

-- ---- the first entry

pub first-is : (chain : Root) (slots : Slots) (v : View) (top older : Ref) (entries listed : List Ref) → StandsInRegion chain slots v (top ∷ (older ∷ [])) top entries listed → ((r : Ref) → Contains entries r → Contains listed r) → (o : Option Ref) (first : Ref)
    → (StandsInRegion chain slots v (top ∷ (older ∷ [])) top [] listed → o ≡ None) → ((x : Ref) (rest : List Ref) → StandsInRegion chain slots v (top ∷ (older ∷ [])) top (x ∷ rest) listed → o ≡ Some x) → o ≡ Some first → IsFirst chain slots v top first
first-is chain slots v top older [] listed s tagged o first none some is = absurd (let e : None ≡ Some first = sym (none s) ∙ is in cc)
first-is chain slots v top older (x ∷ rest) listed s tagged o first none some is =
    let same : x ≡ first = let e : Some x ≡ Some first = sym (some x rest s) ∙ is in cc in subst (IsFirst chain slots v top) same (older, rest, listed, s, tagged)

-- an entry with another before it, or none, or touched, is listed still
pub listed-pushed : (entries listed : List Ref) (r : Ref) → ((q : Ref) → Contains entries q → Contains listed q) → (q : Ref) → Contains (r ∷ entries) q → Contains (listed ++ (r ∷ [])) q
listed-pushed entries listed r tagged q h = elim (member-cases r q entries h) [
  | inl same ↦ subst (Contains (listed ++ (r ∷ []))) same (member-here listed [] r)
  | inr later ↦ Contains-append_left listed (r ∷ []) q (tagged q later)
]

pub listed-touched : (us vs : List Ref) (r q : Ref) → Contains (us ++ (r ∷ vs)) q → Contains ((us ++ vs) ++ (r ∷ [])) q
listed-touched us vs r q h = elim (refs_decided q r) [
  | inl same ↦ subst (Contains ((us ++ vs) ++ (r ∷ []))) (sym same) (member-here (us ++ vs) [] r)
  | inr ne ↦ Contains-append_left (us ++ vs) (r ∷ []) q (still-in us vs r q h ne)
]

-- the first entry is not among the rest
pub first-once : (v : View) → IsWell v → (top r : Ref) (rest : List Ref) → IsPath 3 4 (link_of v) (Obj top 2) (r ∷ rest) None → (q : Ref) → Contains rest q → q ≢ r
first-once v well top r rest p q h same = path-beside 3 4 (λ e. cc) (link_of v) well.paired (Obj top 2) [] rest r None ((λ e. cc), (λ e. cc)) p (subst (Contains rest) same h)

pub five : (P : ℕ → Type 0) → P 0 → P 1 → P 2 → P 3 → P 4 → (f : ℕ) → f < 5 → P f
five P a b c d e zero lt = a
five P a b c d e (suc zero) lt = b
five P a b c d e (suc (suc zero)) lt = c
five P a b c d e (suc (suc (suc zero))) lt = d
five P a b c d e (suc (suc (suc (suc zero)))) lt = e
five P a b c d e (suc (suc (suc (suc (suc f))))) lt = absurd (omega (arith, lt))

pub written-kinds : (v w : View) (r : Ref) (bytes : Kind × List ℕ → List ℕ) → IsSomeAnd (body v r) (λ b. body w r ≡ Some (b.0, bytes b)) → ((q : Ref) → q ≢ r → body w q ≡ body v q) → (q : Ref) → kind_of w q ≡ kind_of v q
written-kinds v w r bytes here others q = elim (refs_decided q r) [
  | inl same ↦ subst (λ x. kind_of w x ≡ kind_of v x) (sym same) (kind_written (body v r) (body w r) bytes here)
  | inr ne ↦ ap (option_map (λ (b : Kind × List ℕ). b.0)) (others q ne)
]

pub four : (P : ℕ → Type 0) → P 0 → P 1 → P 2 → P 3 → (f : ℕ) → f < 4 → P f
four P a b c d zero lt = a
four P a b c d (suc zero) lt = b
four P a b c d (suc (suc zero)) lt = c
four P a b c d (suc (suc (suc zero))) lt = d
four P a b c d (suc (suc (suc (suc f)))) lt = absurd (omega (arith, lt))
