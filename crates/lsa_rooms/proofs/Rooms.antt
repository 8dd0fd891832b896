-- What stands in one region, after each step of one structure.
use Rattle.std.proofs.Common.{◌≡◌, ◌≢◌, ℕ, zero, suc, ◌<◌, List, [], ◌∷◌, ◌++◌, Option, Some, None, inl, inr, sym, ap, ◌∙◌, subst}
use Rattle.std.specs.Prelude.{IsSomeAnd, IfSome, Contains}
use Rattle.std.specs.Option.{option_map}
use Rattle.std.proofs.lemmas.List.Elements.{Contains-append_left, Contains-append_right, Contains-append_cases}
use Rattle.lsa_kinds.specs.declared.kind.Kind.{Kind}
use Rattle.lsa_kinds.specs.declared.kind.Kind.TheVariants.{Version, Dummy}
use Rattle.lsa_kinds.specs.Kinds.{links_of}
use Rattle.lsa_store.specs.declared.place.Ref.{Ref}
use Rattle.lsa_region.specs.declared.end.Root.{Root}
use Rattle.lsa_region.specs.declared.end.End.{End}
use Rattle.lsa_region.specs.declared.end.End.TheVariants.{Obj, Slot}
use Rattle.lsa_region.specs.Region.{View, body, link_of, IsEnd, IsWell, SameObjects}
use Rattle.lsa_path.specs.Path.{IsPath, IsOutside, IsOutsideOrUnset, IsInserted, IsTakenOut, behind}
use Rattle.lsa_path.specs.Roles.{role_of, version_role, LessRecent, MoreRecent}
use Rattle.lsa_path.specs.laws.Beside.{path-aside}
use Rattle.lsa_path.specs.laws.Members.{member-cases, member-first, member-later, member-here, all-from_members}
use Rattle.lsa_path.specs.laws.Paths.{path-same, path-rest, all_behind}
use Rattle.lsa_list.specs.declared.recency.List.{List as Slots}
use Rattle.lsa_list.specs.Recency.{IsList, IsElsewhere, kind_of}
use Rattle.lsa_list.specs.laws.Lists.{recent-same, list-stays, list-inserted, list-taken}
use Rattle.lsa_rooms.specs.Room.{StandsInRegion}

-- an object of a kind has its links
has_link : (o : Option (Kind × List ℕ)) (kind : Kind) (f : ℕ) → option_map (λ b. b.0) o ≡ Some kind → f < links_of kind → IsSomeAnd o (λ b. f < links_of b.0)
has_link None kind f is lt = cc is
has_link (Some b) kind f is lt = let same : kind ≡ b.0 = cc in subst (λ k. f < links_of k) same lt

pub kind-end : (v : View) (r : Ref) (kind : Kind) (f : ℕ) → kind_of v r ≡ Some kind → f < links_of kind → IsEnd v (Obj r f)
kind-end v r kind f is lt = has_link (body v r) kind f is lt

pub kind-same : (v w : View) → SameObjects v w → (r : Ref) → kind_of w r ≡ kind_of v r
kind-same v w same r = ap (option_map (λ (b : Kind × List ℕ). b.0)) (same.bodies r)

-- a version's links are none of a recency list
version_roles : (f : ℕ) → (version_role f ≢ LessRecent) × (version_role f ≢ MoreRecent)
version_roles zero = ((λ e. cc), (λ e. cc))
version_roles (suc zero) = ((λ e. cc), (λ e. cc))
version_roles (suc (suc zero)) = ((λ e. cc), (λ e. cc))
version_roles (suc (suc (suc zero))) = ((λ e. cc), (λ e. cc))
version_roles (suc (suc (suc (suc f)))) = ((λ e. cc), (λ e. cc))

version_far : (o : Option (Kind × List ℕ)) (f : ℕ) → option_map (λ b. b.0) o ≡ Some Version → IfSome o (λ b. (role_of b.0 f ≢ LessRecent) × (role_of b.0 f ≢ MoreRecent))
version_far None f is = tt
version_far (Some b) f is = let same : Version ≡ b.0 = cc in subst (λ k. (role_of k f ≢ LessRecent) × (role_of k f ≢ MoreRecent)) same (version_roles f)

module _ (slots : Slots) (v : View) where
  pub version-elsewhere : (r : Ref) (f : ℕ) → kind_of v r ≡ Some Version → IsElsewhere slots v (Obj r f)
  version-elsewhere r f is = version_far (body v r) f is

  -- what a chain leads to is elsewhere
  leads_elsewhere : (s : End) (xs : List Ref) → IsPath 1 0 (link_of v) s xs None → ((r : Ref) → Contains xs r → kind_of v r ≡ Some Version) → IfSome (link_of v s) (IsElsewhere slots v)
  leads_elsewhere s [] p kinds = subst (λ (o : Option End). IfSome o (IsElsewhere slots v)) (sym p) tt
  leads_elsewhere s (x ∷ xs) p kinds = subst (λ (o : Option End). IfSome o (IsElsewhere slots v)) (sym p.0) (version-elsewhere x 1 (kinds x (member-first x xs)))

module _ (chain : Root) (slots : Slots) (v w : View) (versions : List Ref) (top : Ref) (entries listed : List Ref) (s : StandsInRegion chain slots v versions top entries listed) where
  -- the chain changed
  pub stands-chained : (now : List Ref) → ((e : End) → IsOutside 1 0 e → Slot chain ≢ e → link_of w e ≡ link_of v e) → SameObjects v w → IsPath 1 0 (link_of w) (Slot chain) now None → ((r : Ref) → Contains now r → kind_of v r ≡ Some Version) → IsList slots w listed → StandsInRegion chain slots w now top entries listed
  stands-chained now same objects path kinds list = record {
    chained = path;
    kinds = λ r h. kind-same v w objects r ∙ kinds r h;
    ordered = path-same 3 4 (link_of v) (link_of w) (Obj top 2) entries None (same (Obj top 2) ((λ e. cc), (λ e. cc)) (λ e. cc)) (all-from_members 4 (λ e. link_of w e ≡ link_of v e) entries (λ r h. same (Obj r 4) ((λ e. cc), (λ e. cc)) (λ e. cc))) s.ordered;
    dummies = λ r h. kind-same v w objects r ∙ s.dummies r h;
    list = list;
    front = s.front;
    back = s.back;
  }

  -- the ordered list changed
  pub stands-ordered : (now : List Ref) → ((e : End) → IsOutside 3 4 e → Obj top 2 ≢ e → link_of w e ≡ link_of v e) → SameObjects v w → IsPath 3 4 (link_of w) (Obj top 2) now None → ((r : Ref) → Contains now r → kind_of v r ≡ Some Dummy) → StandsInRegion chain slots w versions top now listed
  stands-ordered now same objects path kinds = record {
    chained = path-same 1 0 (link_of v) (link_of w) (Slot chain) versions None (same (Slot chain) tt (λ e. cc)) (all-from_members 0 (λ e. link_of w e ≡ link_of v e) versions (λ r h. same (Obj r 0) ((λ e. cc), (λ e. cc)) (λ e. cc))) s.chained;
    kinds = λ r h. kind-same v w objects r ∙ s.kinds r h;
    ordered = path;
    dummies = λ r h. kind-same v w objects r ∙ kinds r h;
    list = list-stays slots v w listed s.list (same (Slot slots.front) tt (λ e. cc)) (all-from_members 1 (λ e. link_of w e ≡ link_of v e) listed (λ r h. same (Obj r 1) ((λ e. cc), (λ e. cc)) (λ e. cc))) (λ r h. kind-same v w objects r);
    front = s.front;
    back = s.back;
  }

  -- entries changed places
  pub stands-exchanged : (now : List Ref) → ((e : End) → IsOutside 3 4 e → IsOutsideOrUnset 3 4 (link_of v e) → link_of w e ≡ link_of v e) → SameObjects v w → IsPath 3 4 (link_of w) (Obj top 2) now None → ((r : Ref) → Contains now r → kind_of v r ≡ Some Dummy) → StandsInRegion chain slots w versions top now listed
  stands-exchanged now same objects path kinds = record {
    chained = path-aside 3 4 (link_of v) (link_of w) same 1 0 (λ e. cc) (λ e. cc) (λ e. cc) (λ e. cc) (Slot chain) versions None tt tt s.chained;
    kinds = λ r h. kind-same v w objects r ∙ s.kinds r h;
    ordered = path;
    dummies = λ r h. kind-same v w objects r ∙ kinds r h;
    list = record {
      path = path-aside 3 4 (link_of v) (link_of w) same 0 1 (λ e. cc) (λ e. cc) (λ e. cc) (λ e. cc) (Slot slots.front) listed (Some (Slot slots.back)) tt tt s.list.path;
      recent = recent-same v w objects.bodies listed s.list.recent;
    };
    front = s.front;
    back = s.back;
  }

-- a member of a list with one more, or one other
pub kinds-with : (v : View) (kind : Kind) (xs ys : List Ref) (r : Ref) → kind_of v r ≡ Some kind → ((q : Ref) → Contains (xs ++ ys) q → kind_of v q ≡ Some kind) → (q : Ref) → Contains (xs ++ (r ∷ ys)) q → kind_of v q ≡ Some kind
kinds-with v kind xs ys r here kinds q h = elim (Contains-append_cases xs (r ∷ ys) q h) [
  | inl before ↦ kinds q (Contains-append_left xs ys q before)
  | inr behind ↦ elim (member-cases r q ys behind) [ inl same ↦ subst (λ x. kind_of v x ≡ Some kind) same here | inr later ↦ kinds q (Contains-append_right xs ys q later) ]
]

pub kinds-without : (v : View) (kind : Kind) (xs ys : List Ref) (r : Ref) → ((q : Ref) → Contains (xs ++ (r ∷ ys)) q → kind_of v q ≡ Some kind) → (q : Ref) → Contains (xs ++ ys) q → kind_of v q ≡ Some kind
kinds-without v kind xs ys r kinds q h = elim (Contains-append_cases xs ys q h) [
  | inl before ↦ kinds q (Contains-append_left xs (r ∷ ys) q before)
  | inr behind ↦ kinds q (Contains-append_right xs (r ∷ ys) q (member-later r q ys behind))
]

-- the recency list stays where a version comes or goes
pub list-version_added : (chain : Root) (slots : Slots) (v w : View) (versions : List Ref) (top : Ref) (entries listed : List Ref) (s : StandsInRegion chain slots v versions top entries listed) (r : Ref) → kind_of v r ≡ Some Version
    → IsInserted (link_of v) (link_of w) (Slot chain) (Obj r 1) (Obj r 0) → SameObjects v w → IsList slots w listed
list-version_added chain slots v w versions top entries listed s r version ins objects = list-inserted slots v w listed s.list (Slot chain) (Obj r 1) (Obj r 0) (s.front, s.back)
    (version-elsewhere slots v r 1 version) (version-elsewhere slots v r 0 version) (leads_elsewhere slots v (Slot chain) versions s.chained s.kinds) ins objects

pub list-version_dropped : (chain : Root) (slots : Slots) (v w : View) (xs ys : List Ref) (r : Ref) (top : Ref) (entries listed : List Ref) (s : StandsInRegion chain slots v (xs ++ (r ∷ ys)) top entries listed) → IsWell v
    → IsTakenOut (link_of v) (link_of w) (Obj r 1) (Obj r 0) → SameObjects v w → IsList slots w listed
list-version_dropped chain slots v w xs ys r top entries listed s well out objects =
    let version = s.kinds r (member-here xs ys r) in
    let rest = path-rest 1 0 (link_of v) (Slot chain) xs (r ∷ ys) None s.chained in
    let front = behind 0 (Slot chain) xs in
    let far : IsElsewhere slots v front = all_behind 0 (IsElsewhere slots v) (Slot chain) xs (r ∷ ys) (s.front, s.back) (all-from_members 0 (IsElsewhere slots v) (xs ++ (r ∷ ys)) (λ q h. version-elsewhere slots v q 0 (s.kinds q h))) in
    list-taken slots v w listed s.list (Obj r 1) (Obj r 0) (version-elsewhere slots v r 1 version) (version-elsewhere slots v r 0 version)
    (subst (λ (o : Option End). IfSome o (IsElsewhere slots v)) (sym (well.paired.mates front (Obj r 1) rest.0)) far)
    (leads_elsewhere slots v (Obj r 0) ys rest.1 (λ q h. s.kinds q (Contains-append_right xs (r ∷ ys) q (member-later r q ys h)))) out objects

pub in-longer : (xs ys : List Ref) (r q : Ref) → Contains (xs ++ ys) q → Contains (xs ++ (r ∷ ys)) q
in-longer xs ys r q h = elim (Contains-append_cases xs ys q h) [
  | inl before ↦ Contains-append_left xs (r ∷ ys) q before
  | inr behind ↦ Contains-append_right xs (r ∷ ys) q (member-later r q ys behind)
]
