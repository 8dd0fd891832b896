-- Laws of recency lists.
use Rattle.std.proofs.Common.{◌≡◌, ◌≢◌, ℕ, ◌<◌, List, [], ◌∷◌, ◌++◌, Option, Some, None, IsSome, is_some, inl, inr, refl, sym, ap, ◌∙◌, subst, map, arith}
use Rattle.std.specs.Prelude.{IsSomeAnd, IfSome, Contains}
use Rattle.std.specs.Option.{option_map}
use Rattle.lsa_kinds.specs.declared.kind.Kind.{Kind}
use Rattle.lsa_kinds.specs.declared.kind.Kind.TheVariants.{Version, RowEntry, Dummy, Static}
use Rattle.lsa_kinds.specs.Kinds.{links_of}
use Rattle.lsa_region.specs.Ref.{Ref}
use Rattle.lsa_region.specs.declared.end.Root.{Root}
use Rattle.lsa_region.specs.declared.end.End.{End}
use Rattle.lsa_region.specs.declared.end.End.TheVariants.{Obj, Slot}
use Rattle.lsa_region.specs.Ends.{named_as}
use Rattle.lsa_region.specs.Paired.{IsExchanged}
use Rattle.lsa_region.specs.Region.{View, body, link_of, IsEnd, IsWell, SameObjects, IsAdded, IsFreed, Renamed}
use Rattle.lsa_region.specs.laws.Refs.{refs_decided}
use Rattle.lsa_path.specs.Path.{IsPath, behind, AllOnward, IsInserted, IsTakenOut}
use Rattle.lsa_path.specs.Roles.{role_of, role_at, role_in, LessRecent, MoreRecent}
use Rattle.lsa_path.specs.laws.Paths.{same_some, path-end, path-rest, path-last, fresh-start, fresh-behind, path-same, path-everywhere, all_map}
use Rattle.lsa_path.specs.laws.Members.{member-first, member-later, member-cases, all-from_members}
use Rattle.lsa_path.specs.laws.Exchanged.{path-exchanged}
use Rattle.lsa_path.specs.laws.Passing.{path-left}
use Rattle.lsa_path.specs.laws.Renamed.{some-there, path-renamed}
use Rattle.lsa_path.specs.laws.Steps.{set-unset}
use Rattle.lsa_region.specs.Paired.{WellPaired}
use Rattle.lsa_region.specs.laws.Ends.{ends_decided}
use Rattle.lsa_list.specs.declared.recency.List.{List as Slots}
use Rattle.lsa_list.specs.Recency.{kind_of, HasRecency, AllHaveRecency, IsList, IsElsewhere, first}
use Rattle.lsa_list.specs.calls.Recency.{object_of}

pub fields_differ : ◌≢◌ {A = ℕ} 0 1
fields_differ e = cc

many : (kind : Kind) → 1 < links_of kind
many Version = omega arith
many RowEntry = omega arith
many Dummy = omega arith
many Static = omega arith

some : (kind : Kind) → 0 < links_of kind
some kind = omega (arith, many kind)

has_both : (o : Option (Kind × List ℕ)) → IsSomeAnd o (λ b. b.0 ≢ Version) → IsSomeAnd o (λ b. 0 < links_of b.0) × IsSomeAnd o (λ b. 1 < links_of b.0)
has_both None h = absurd h
has_both (Some b) h = (some b.0, many b.0)

-- an object with recency has both links
pub recency-ends : (v : View) (r : Ref) → HasRecency v r → IsEnd v (Obj r 0) × IsEnd v (Obj r 1)
recency-ends v r h = has_both (body v r) h

pub recent-append : (v : View) (xs : List Ref) (r : Ref) → AllHaveRecency v xs → HasRecency v r → AllHaveRecency v (xs ++ (r ∷ []))
recent-append v [] r h here = (here, tt)
recent-append v (x ∷ xs) r h here = (h.0, recent-append v xs r h.1 here)

pub recent-at : (v : View) (xs ys : List Ref) (r : Ref) → AllHaveRecency v (xs ++ (r ∷ ys)) → HasRecency v r
recent-at v [] ys r h = h.0
recent-at v (x ∷ xs) ys r h = recent-at v xs ys r h.1

pub recent-drop : (v : View) (xs ys : List Ref) (r : Ref) → AllHaveRecency v (xs ++ (r ∷ ys)) → AllHaveRecency v (xs ++ ys)
recent-drop v [] ys r h = h.1
recent-drop v (x ∷ xs) ys r h = (h.0, recent-drop v xs ys r h.1)

pub recent-rest : (v : View) (xs ys : List Ref) → AllHaveRecency v (xs ++ ys) → AllHaveRecency v ys
recent-rest v [] ys h = h
recent-rest v (x ∷ xs) ys h = recent-rest v xs ys h.1

pub recent-front : (v : View) (xs ys : List Ref) → AllHaveRecency v (xs ++ ys) → AllHaveRecency v xs
recent-front v [] ys h = tt
recent-front v (x ∷ xs) ys h = (h.0, recent-front v xs ys h.1)

pub recency-same : (v w : View) → ((r : Ref) → body w r ≡ body v r) → (r : Ref) → HasRecency v r → HasRecency w r
recency-same v w same r h = subst (λ o. IsSomeAnd o (λ b. b.0 ≢ Version)) (sym (same r)) h

pub recent-same : (v w : View) → ((r : Ref) → body w r ≡ body v r) → (xs : List Ref) → AllHaveRecency v xs → AllHaveRecency w xs
recent-same v w same [] h = tt
recent-same v w same (x ∷ xs) h = (recency-same v w same x h.0, recent-same v w same xs h.1)

less : (kind : Kind) → kind ≢ Version → role_of kind 0 ≡ LessRecent
less Version h = absurd (h refl)
less RowEntry h = refl
less Dummy h = refl
less Static h = refl

more : (kind : Kind) → kind ≢ Version → role_of kind 1 ≡ MoreRecent
more Version h = absurd (h refl)
more RowEntry h = refl
more Dummy h = refl
more Static h = refl

clash_less : (o : Option (Kind × List ℕ)) → IsSomeAnd o (λ b. b.0 ≢ Version) → IfSome o (λ b. (role_of b.0 0 ≢ LessRecent) × (role_of b.0 0 ≢ MoreRecent)) → ⊥
clash_less None h w = absurd h
clash_less (Some b) h w = w.0 (less b.0 h)

clash_more : (o : Option (Kind × List ℕ)) → IsSomeAnd o (λ b. b.0 ≢ Version) → IfSome o (λ b. (role_of b.0 1 ≢ LessRecent) × (role_of b.0 1 ≢ MoreRecent)) → ⊥
clash_more None h w = absurd h
clash_more (Some b) h w = w.1 (more b.0 h)

module _ (slots : Slots) (v : View) (e : End) (far : IsElsewhere slots v e) where
  -- an end elsewhere is none of a list
  pub not-less : (r : Ref) → HasRecency v r → e ≢ Obj r 0
  not-less r h is = clash_less (body v r) h (subst (IsElsewhere slots v) is far)

  pub not-more : (r : Ref) → HasRecency v r → e ≢ Obj r 1
  not-more r h is = clash_more (body v r) h (subst (IsElsewhere slots v) is far)

  pub not-front : e ≢ Slot slots.front
  not-front is = let w : IsElsewhere slots v (Slot slots.front) = subst (IsElsewhere slots v) is far in w.0 refl

  pub not-back : e ≢ Slot slots.back
  not-back is = let w : IsElsewhere slots v (Slot slots.back) = subst (IsElsewhere slots v) is far in w.1 refl

  pub not-behind : (s : End) (xs : List Ref) → e ≢ s → AllHaveRecency v xs → e ≢ behind 1 s xs
  not-behind s [] ne h = ne
  not-behind s (x ∷ xs) ne h = not-behind (Obj x 1) xs (not-more x h.0) h.1

  pub not-next : (named : End → Option End) (s : End) (ys : List Ref) → IsPath 0 1 named s ys (Some (Slot slots.back)) → AllHaveRecency v ys → named s ≢ Some e
  not-next named s [] p h is = not-back (same_some e (Slot slots.back) (sym is ∙ p))
  not-next named s (y ∷ ys) p h is = not-less y h.0 (same_some e (Obj y 0) (sym is ∙ p.0))

-- the start of a path between two ends is there, and its finish too
pub start-there : (v : View) → IsWell v → (s : End) (xs : List Ref) (f : End) → IsPath 0 1 (link_of v) s xs (Some f) → IsEnd v s
start-there v well s [] f p = well.ends f s (well.paired.mates s f p)
start-there v well s (x ∷ xs) f p = well.ends (Obj x 0) s (well.paired.mates s (Obj x 0) p.0)

pub finish-there : (v : View) → IsWell v → (s : End) (xs : List Ref) (f : End) → IsPath 0 1 (link_of v) s xs (Some f) → IsEnd v f
finish-there v well s xs f p = well.ends (behind 1 s xs) f (path-end 0 1 (link_of v) s xs (Some f) p)

-- what the start of a list names tells its first
pub first-object : (named : End → Option End) (slots : Slots) (s : End) (xs : List Ref) → IsPath 0 1 named s xs (Some (Slot slots.back)) → object_of (named s) ≡ first xs
first-object named slots s [] p = ap object_of p
first-object named slots s (x ∷ xs) p = ap object_of p.0

-- what an end names, where the list leads on behind it
module _ (slots : Slots) (v : View) (well : IsWell v) where
  pub last-named : (xs : List Ref) → IsList slots v xs → link_of v (Slot slots.back) ≡ Some (behind 1 (Slot slots.front) xs)
  last-named xs l = path-last 0 1 fields_differ (link_of v) well.paired (Slot slots.front) xs (Slot slots.back) l.path

  pub here-named : (xs ys : List Ref) (r : Ref) → IsList slots v (xs ++ (r ∷ ys)) → link_of v (Obj r 0) ≡ Some (behind 1 (Slot slots.front) xs)
  here-named xs ys r l = well.paired.mates (behind 1 (Slot slots.front) xs) (Obj r 0) (path-rest 0 1 (link_of v) (Slot slots.front) xs (r ∷ ys) (Some (Slot slots.back)) l.path).0

  pub here-apart : (xs ys : List Ref) (r : Ref) → IsList slots v (xs ++ (r ∷ ys)) → link_of v (Obj r 0) ≢ Some (Obj r 1)
  here-apart xs ys r l e =
      let s = Slot slots.front in let f = Some (Slot slots.back) in
      (fresh-behind 0 1 fields_differ (link_of v) well.paired s xs (r ∷ ys) f l.path (fresh-start 0 1 fields_differ (link_of v) well.paired s (xs ++ (r ∷ ys)) tt)).0
      (same_some (Obj r 1) (behind 1 s xs) (sym e ∙ here-named xs ys r l))

  pub rest-path : (xs ys : List Ref) (r : Ref) → IsList slots v (xs ++ (r ∷ ys)) → IsPath 0 1 (link_of v) (Obj r 1) ys (Some (Slot slots.back))
  rest-path xs ys r l = (path-rest 0 1 (link_of v) (Slot slots.front) xs (r ∷ ys) (Some (Slot slots.back)) l.path).1

  -- what push_back leaves
  pub inserted-elsewhere : (new : End → Option End) (xs : List Ref) (a : End) (r : Ref) → IsList slots v xs → HasRecency v r → a ≡ behind 1 (Slot slots.front) xs → IsInserted (link_of v) new a (Obj r 0) (Obj r 1)
      → (e : End) → IsElsewhere slots v e → new e ≡ link_of v e
  inserted-elsewhere new xs a r l h is ins e far = ins.others e
      (λ same. not-behind slots v e far (Slot slots.front) xs (not-front slots v e far) l.recent (same ∙ is))
      (not-less slots v e far r h) (not-more slots v e far r h)
      (λ same. not-back slots v e far (same_some e (Slot slots.back) (sym same ∙ ap (link_of v) is ∙ path-end 0 1 (link_of v) (Slot slots.front) xs (Some (Slot slots.back)) l.path)))

  -- what remove leaves
  pub taken-elsewhere : (new : End → Option End) (xs ys : List Ref) (r : Ref) → IsList slots v (xs ++ (r ∷ ys)) → IsTakenOut (link_of v) new (Obj r 0) (Obj r 1) → (e : End) → IsElsewhere slots v e → new e ≡ link_of v e
  taken-elsewhere new xs ys r l out e far =
      let h = recent-at v xs ys r l.recent in let after = recent-rest v xs (r ∷ ys) l.recent in
      out.others e (not-less slots v e far r h) (not-more slots v e far r h)
      (λ is. not-behind slots v e far (Slot slots.front) xs (not-front slots v e far) (recent-front v xs (r ∷ ys) l.recent) (same_some e (behind 1 (Slot slots.front) xs) (sym is ∙ here-named xs ys r l)))
      (not-next slots v e far (link_of v) (Obj r 1) ys (rest-path xs ys r l) after.1)

-- a list stays where each link names what it did, and no body of an object that was there changes
pub recent-keep : (v w : View) → ((r : Ref) → IsSome (body v r) → body w r ≡ body v r) → (xs : List Ref) → AllHaveRecency v xs → AllHaveRecency w xs
recent-keep v w same [] h = tt
recent-keep v w same (x ∷ xs) h = (subst (λ o. IsSomeAnd o (λ b. b.0 ≢ Version)) (sym (same x (some-there _ (body v x) h.0))) h.0, recent-keep v w same xs h.1)

pub list-keep : (slots : Slots) (v w : View) → ((e : End) → link_of w e ≡ link_of v e) → ((r : Ref) → IsSome (body v r) → body w r ≡ body v r) → (xs : List Ref) → IsList slots v xs → IsList slots w xs
list-keep slots v w links same xs l = record {
  path = path-everywhere 0 1 (link_of v) (link_of w) (Slot slots.front) xs (Some (Slot slots.back)) links l.path;
  recent = recent-keep v w same xs l.recent;
}

fresh_differs : (v w : View) (r : Ref) (kind : Kind) (bytes : List ℕ) → IsAdded v w r kind bytes → (q : Ref) → IsSome (body v q) → body w q ≡ body v q
fresh_differs v w r kind bytes added q there = added.others q (λ is. let none : body v q ≡ None = ap (body v) is ∙ added.fresh in let clash = sym (ap is_some none) ∙ there in cc)

-- a list stays where an object is made
pub list-added : (slots : Slots) (v w : View) (r : Ref) (kind : Kind) (bytes : List ℕ) → IsAdded v w r kind bytes → (xs : List Ref) → IsList slots v xs → IsList slots w xs
list-added slots v w r kind bytes added = list-keep slots v w added.links (fresh_differs v w r kind bytes added)

-- a list stays where an object is freed whose link to the less recent object is unset
module _ (v w : View) (r : Ref) (freed : IsFreed v w r) (well : IsWell v) (unset : link_of v (Obj r 0) ≡ None) where
  not-freed : (s : End) (x : Ref) → link_of v s ≡ Some (Obj x 0) → x ≢ r
  not-freed s x named is = let back : link_of v (Obj r 0) ≡ Some s = subst (λ q. link_of v (Obj q 0) ≡ Some s) is (well.paired.mates s (Obj x 0) named) in let clash : None ≡ Some s = sym unset ∙ back in cc

  recent-freed : (s : End) (xs : List Ref) (f : Option End) → IsPath 0 1 (link_of v) s xs f → AllHaveRecency v xs → AllHaveRecency w xs
  recent-freed s [] f p h = tt
  recent-freed s (x ∷ xs) f p h = (subst (λ o. IsSomeAnd o (λ b. b.0 ≢ Version)) (sym (freed.others x (not-freed s x p.0))) h.0, recent-freed (Obj x 1) xs f p.1 h.1)

  pub list-freed : (slots : Slots) (xs : List Ref) → IsList slots v xs → IsList slots w xs
  list-freed slots xs l = record {
    path = path-everywhere 0 1 (link_of v) (link_of w) (Slot slots.front) xs (Some (Slot slots.back)) freed.links l.path;
    recent = recent-freed (Slot slots.front) xs (Some (Slot slots.back)) l.path l.recent;
  }

-- a list after its objects got other names
module _ (slots : Slots) (old new : View) (names : List (Ref × Ref)) (renamed : Renamed old new names) (well : IsWell old) where
  recent-renamed : (xs : List Ref) → AllHaveRecency old xs → AllHaveRecency new (map (named_as names) xs)
  recent-renamed [] h = tt
  recent-renamed (x ∷ xs) h = (subst (λ o. IsSomeAnd o (λ b. b.0 ≢ Version)) (sym (renamed.bodies x (some-there _ (body old x) h.0))) h.0, recent-renamed xs h.1)

  pub list-renamed : (xs : List Ref) → IsList slots old xs → IsList slots new (map (named_as names) xs)
  list-renamed xs l = record {
    path = path-renamed old new names renamed well 0 1 (Slot slots.front) xs (Some (Slot slots.back)) tt l.path;
    recent = recent-renamed xs l.recent;
  }

-- ---- where objects keep their kinds

kind_keeps : (o o' : Option (Kind × List ℕ)) → option_map (λ b. b.0) o' ≡ option_map (λ b. b.0) o → IsSomeAnd o (λ b. b.0 ≢ Version) → IsSomeAnd o' (λ b. b.0 ≢ Version)
kind_keeps None o' same h = absurd h
kind_keeps (Some b) None same h = cc same
kind_keeps (Some b) (Some d) same h = λ is. let kinds : d.0 ≡ b.0 = cc in h (sym kinds ∙ is)

pub recent-kinds : (v w : View) (xs : List Ref) → ((r : Ref) → Contains xs r → kind_of w r ≡ kind_of v r) → AllHaveRecency v xs → AllHaveRecency w xs
recent-kinds v w [] same h = tt
recent-kinds v w (x ∷ xs) same h = (kind_keeps (body v x) (body w x) (same x (member-first x xs)) h.0, recent-kinds v w xs (λ r later. same r (member-later x r xs later)) h.1)

pub recent-member : (v : View) (xs : List Ref) (r : Ref) → AllHaveRecency v xs → Contains xs r → HasRecency v r
recent-member v [] r h c = absurd (omega (arith, c.1))
recent-member v (x ∷ xs) r h c = elim (member-cases x r xs c) [ inl same ↦ subst (HasRecency v) same h.0 | inr later ↦ recent-member v xs r h.1 later ]

module _ (slots : Slots) (v w : View) (xs : List Ref) (l : IsList slots v xs) where
  pub list-stays : link_of w (Slot slots.front) ≡ link_of v (Slot slots.front) → AllOnward 1 (λ e. link_of w e ≡ link_of v e) xs → ((r : Ref) → Contains xs r → kind_of w r ≡ kind_of v r) → IsList slots w xs
  list-stays here all kinds = record {
    path = path-same 0 1 (link_of v) (link_of w) (Slot slots.front) xs (Some (Slot slots.back)) here all l.path;
    recent = recent-kinds v w xs kinds l.recent;
  }

  -- links of other roles
  pub list-roles : link_of w (Slot slots.front) ≡ link_of v (Slot slots.front) → ((e : End) → role_at v e ≡ MoreRecent → link_of w e ≡ link_of v e) → ((r : Ref) → Contains xs r → kind_of w r ≡ kind_of v r) → IsList slots w xs
  list-roles here same kinds = list-stays here (all-from_members 1 (λ e. link_of w e ≡ link_of v e) xs (λ r h. same (Obj r 1) (more_at (body v r) (recent-member v xs r l.recent h)))) kinds
    where
      more_at : (o : Option (Kind × List ℕ)) → IsSomeAnd o (λ b. b.0 ≢ Version) → role_in o 1 ≡ MoreRecent
      more_at None h = absurd h
      more_at (Some b) h = more b.0 h

  -- no link
  pub list-unlinked : ((e : End) → link_of w e ≡ link_of v e) → ((r : Ref) → Contains xs r → kind_of w r ≡ kind_of v r) → IsList slots w xs
  list-unlinked same kinds = record {
    path = path-everywhere 0 1 (link_of v) (link_of w) (Slot slots.front) xs (Some (Slot slots.back)) same l.path;
    recent = recent-kinds v w xs kinds l.recent;
  }

  -- the ends of a list are those that are not elsewhere
  ends_apart : (e : End) → IsElsewhere slots v e → AllOnward 0 (λ d. d ≢ e) xs × AllOnward 1 (λ d. d ≢ e) xs
  ends_apart e far = (
    all-from_members 0 (λ d. d ≢ e) xs (λ r h same. not-less slots v e far r (recent-member v xs r l.recent h) (sym same)),
    all-from_members 1 (λ d. d ≢ e) xs (λ r h same. not-more slots v e far r (recent-member v xs r l.recent h) (sym same)),
  )

  both : (o : ℕ) (P Q : End → Type 0) (ys : List Ref) → AllOnward o P ys → AllOnward o Q ys → AllOnward o (λ e. P e × Q e) ys
  both o P Q [] p q = tt
  both o P Q (y ∷ ys) p q = ((p.0, q.0), both o P Q ys p.1 q.1)

  -- two ends elsewhere change places
  pub list-exchanged : (a b : End) → IsElsewhere slots v a → IsElsewhere slots v b → IsExchanged (link_of v) (link_of w) a b → SameObjects v w → IsList slots w xs
  list-exchanged a b far far' ex same = record {
    path = path-exchanged 0 1 (link_of v) (link_of w) a b ex (Slot slots.front) xs (Some (Slot slots.back))
        (λ e. not-front slots v a far (sym e)) (λ e. not-front slots v b far' (sym e)) (λ e. not-back slots v a far (sym (same_some (Slot slots.back) a e))) (λ e. not-back slots v b far' (sym (same_some (Slot slots.back) b e)))
        (both 0 (λ e. e ≢ a) (λ e. e ≢ b) xs (ends_apart a far).0 (ends_apart b far').0) (both 1 (λ e. e ≢ a) (λ e. e ≢ b) xs (ends_apart a far).1 (ends_apart b far').1) l.path;
    recent = recent-same v w same.bodies xs l.recent;
  }

  -- one inserted elsewhere
  pub list-inserted : (a first second : End) → IsElsewhere slots v a → IsElsewhere slots v first → IsElsewhere slots v second → IfSome (link_of v a) (IsElsewhere slots v) → IsInserted (link_of v) (link_of w) a first second → SameObjects v w → IsList slots w xs
  list-inserted a first second far_a far_1 far_2 far_m ins same = record {
    path = path-same 0 1 (link_of v) (link_of w) (Slot slots.front) xs (Some (Slot slots.back))
        (ins.others (Slot slots.front) (λ e. not-front slots v a far_a (sym e)) (λ e. not-front slots v first far_1 (sym e)) (λ e. not-front slots v second far_2 (sym e)) (λ e. not-front slots v (Slot slots.front) (mate (link_of v a) (Slot slots.front) far_m e) refl))
        (all-from_members 1 (λ e. link_of w e ≡ link_of v e) xs (λ r h. let recent = recent-member v xs r l.recent h in
        ins.others (Obj r 1) (λ e. not-more slots v a far_a r recent (sym e)) (λ e. not-more slots v first far_1 r recent (sym e)) (λ e. not-more slots v second far_2 r recent (sym e))
        (λ e. not-more slots v (Obj r 1) (mate (link_of v a) (Obj r 1) far_m e) r recent refl))) l.path;
    recent = recent-same v w same.bodies xs l.recent;
  }
    where
      mate : (o : Option End) (e : End) → IfSome o (IsElsewhere slots v) → o ≡ Some e → IsElsewhere slots v e
      mate o e h is = subst (λ (x : Option End). IfSome x (IsElsewhere slots v)) is h

  -- one taken out elsewhere
  pub list-taken : (first second : End) → IsElsewhere slots v first → IsElsewhere slots v second → IfSome (link_of v first) (IsElsewhere slots v) → IfSome (link_of v second) (IsElsewhere slots v) → IsTakenOut (link_of v) (link_of w) first second → SameObjects v w → IsList slots w xs
  list-taken first second far_1 far_2 far_m far_n out same = record {
    path = path-same 0 1 (link_of v) (link_of w) (Slot slots.front) xs (Some (Slot slots.back))
        (out.others (Slot slots.front) (λ e. not-front slots v first far_1 (sym e)) (λ e. not-front slots v second far_2 (sym e)) (λ e. not-front slots v (Slot slots.front) (mate (link_of v first) (Slot slots.front) far_m e) refl) (λ e. not-front slots v (Slot slots.front) (mate (link_of v second) (Slot slots.front) far_n e) refl))
        (all-from_members 1 (λ e. link_of w e ≡ link_of v e) xs (λ r h. let recent = recent-member v xs r l.recent h in
        out.others (Obj r 1) (λ e. not-more slots v first far_1 r recent (sym e)) (λ e. not-more slots v second far_2 r recent (sym e))
        (λ e. not-more slots v (Obj r 1) (mate (link_of v first) (Obj r 1) far_m e) r recent refl) (λ e. not-more slots v (Obj r 1) (mate (link_of v second) (Obj r 1) far_n e) r recent refl))) l.path;
    recent = recent-same v w same.bodies xs l.recent;
  }
    where
      mate : (o : Option End) (e : End) → IfSome o (IsElsewhere slots v) → o ≡ Some e → IsElsewhere slots v e
      mate o e h is = subst (λ (x : Option End). IfSome x (IsElsewhere slots v)) is h

-- bytes are written over those of an object
pub kind_written : (o o' : Option (Kind × List ℕ)) (bytes : Kind × List ℕ → List ℕ) → IsSomeAnd o (λ b. o' ≡ Some (b.0, bytes b)) → option_map (λ b. b.0) o' ≡ option_map (λ b. b.0) o
kind_written None o' bytes h = absurd h
kind_written (Some b) o' bytes h = ap (option_map (λ b. b.0)) h

pub list-written : (slots : Slots) (v w : View) (xs : List Ref) (r : Ref) (bytes : Kind × List ℕ → List ℕ) → ((e : End) → link_of w e ≡ link_of v e) → IsSomeAnd (body v r) (λ b. body w r ≡ Some (b.0, bytes b)) → ((q : Ref) → q ≢ r → body w q ≡ body v q) → IsList slots v xs → IsList slots w xs
list-written slots v w xs r bytes links here others l = list-unlinked slots v w xs l links (λ q _. elim (refs_decided q r) [
  | inl same ↦ subst (λ x. kind_of w x ≡ kind_of v x) (sym same) (kind_written (body v r) (body w r) bytes here)
  | inr ne ↦ ap (option_map (λ b. b.0)) (others q ne)
])

-- a path elsewhere stays beside what changes the list
pub path-elsewhere : (slots : Slots) (v w : View) (i o : ℕ) (s : End) (xs : List Ref) (f : Option End) → ((e : End) → IsElsewhere slots v e → link_of w e ≡ link_of v e) → IsElsewhere slots v s → AllOnward o (IsElsewhere slots v) xs → IsPath i o (link_of v) s xs f → IsPath i o (link_of w) s xs f
path-elsewhere slots v w i o s xs f same far all p = path-same i o (link_of v) (link_of w) s xs f (same s far) (all_map o (IsElsewhere slots v) (λ e. link_of w e ≡ link_of v e) xs same all) p

-- ---- what is unset stays unset

unnamed : (named : End → Option End) (a e : End) → WellPaired named → named e ≡ None → named a ≡ Some e → ⊥
unnamed named a e well none is = set-unset named e e a (well.mates a e is) none refl

-- behind an end that is set
pub unset-inserted : (named new : End → Option End) (a mate first second e : End) → WellPaired named → named a ≡ Some mate → IsInserted named new a first second → named e ≡ None → e ≢ first → e ≢ second → new e ≡ None
unset-inserted named new a mate first second e well set inserted none one two =
    inserted.others e (λ p. set-unset named a e mate set none (sym p)) one two (unnamed named a e well none) ∙ none

pub unset-taken : (named new : End → Option End) (first second e : End) → WellPaired named → IsTakenOut named new first second → named e ≡ None → new e ≡ None
unset-taken named new first second e well taken none = elim (ends_decided e first) [
  | inl p ↦ ap new p ∙ taken.front
  | inr p ↦ elim (ends_decided e second) [
    | inl q ↦ ap new q ∙ taken.back
    | inr q ↦ taken.others e p q (unnamed named first e well none) (unnamed named second e well none) ∙ none
  ]
]

-- an object of a list has both links set, so what is unset is neither
pub listed-set : (slots : Slots) (v : View) → IsWell v → (xs ys : List Ref) (r : Ref) → IsList slots v (xs ++ (r ∷ ys)) → (e : End) → link_of v e ≡ None → (e ≢ Obj r 0) × (e ≢ Obj r 1)
listed-set slots v well xs ys r l e none = (
  λ p. set-unset (link_of v) (Obj r 0) e _ (here-named slots v well xs ys r l) none (sym p),
  λ p. lacks (link_of v (Obj r 1)) (ap (link_of v) (sym p) ∙ none) (path-left 0 1 (link_of v) (Slot slots.front) (xs ++ (r ∷ ys)) (Slot slots.back) l.path r (stands xs)),
) where
  stands : (zs : List Ref) → Contains (zs ++ (r ∷ ys)) r
  stands [] = member-first r ys
  stands (z ∷ zs) = member-later z r (zs ++ (r ∷ ys)) (stands zs)

  lacks : (o : Option End) → o ≡ None → IsSome o → ⊥
  lacks o none is = let clash = sym (ap is_some none) ∙ is in cc
