-- What a change of one tree leaves: other trees, loose entries, and links of other roles.
use Rattle.std.proofs.Common.{◌≡◌, ◌≢◌, ℕ, ◌≤◌, List, [], ◌∷◌, ◌++◌, length, take, drop, Option, Some, None, inl, inr, ◌⊎◌, refl, sym, ap, ◌∙◌, subst, arith}
use Rattle.std.specs.Prelude.{IsSomeAnd, Contains}
use Rattle.std.specs.Option.{option_map}
use Rattle.std.proofs.lemmas.List.{length-drop}
use Rattle.rc_position.specs.declared.positions.Pos.{Pos}
use Rattle.lsa_kinds.specs.declared.kind.Kind.{Kind}
use Rattle.lsa_kinds.specs.declared.kind.Kind.TheVariants.{Version}
use Rattle.lsa_kinds.specs.Fields.{number_at}
use Rattle.lsa_region.specs.Ref.{Ref}
use Rattle.lsa_region.specs.declared.end.End.{End}
use Rattle.lsa_region.specs.declared.end.End.TheVariants.{Obj, Slot}
use Rattle.lsa_region.specs.Region.{View, body, link_of, SameObjects}
use Rattle.lsa_region.specs.laws.Refs.{refs_decided}
use Rattle.lsa_shape.specs.Members.{member-cases, member-first, member-later}
use Rattle.lsa_shape.specs.Shapes.{StaysBeyond}
use Rattle.lsa_shape.specs.laws.Hanging.{field-off}
use Rattle.lsa_tree.specs.declared.tree.Tree.{Tree}
use Rattle.lsa_tree.specs.Entries.{IsEntryKind, IsEntryAtPosition, AreAscending, balance_in, balance_of, but_balance, IsAlike}
use Rattle.lsa_tree.specs.Tree.{IsTop, IsTree, IsLoose, IsOffTree, SameButBalances}
use Rattle.lsa_tree.specs.calls.Placing.{IsEntryBody, IsTreeChanged, IsRebalanced}
use Rattle.lsa_tree.specs.laws.Orders.{ascending-kept}
use Rattle.lsa_tree.specs.laws.Trees.{entry-no-top, off-top, off-entry, tree-entry, loose-read, same-read, same-objects, tree-linked, kind-kept, alike-stands}

-- ---- bodies alike

pub alike-kind : (o p : Option (Kind × List ℕ)) → IsAlike o p → option_map (λ b. b.0) p ≡ option_map (λ b. b.0) o
alike-kind None None same = refl
alike-kind None (Some d) same = cc same
alike-kind (Some b) None same = cc same
alike-kind (Some b) (Some d) same = let parts : but_balance d ≡ but_balance b = cc in ap (λ (t : Kind × (List ℕ × List ℕ)). Some t.0) parts

pub alike-version : (o p : Option (Kind × List ℕ)) → IsAlike o p → IsSomeAnd o (λ b. b.0 ≡ Version) → IsSomeAnd p (λ b. b.0 ≡ Version)
alike-version o p same h = kind-kept o p (alike-kind o p same) h

pub alike-body : (o p : Option (Kind × List ℕ)) → IsAlike o p → IsEntryBody o → IsEntryBody p
alike-body None p same h = absurd h
alike-body (Some b) None same h = cc same
alike-body (Some b) (Some d) same h =
    let parts : but_balance d ≡ but_balance b = cc in let tails = ap (λ (t : Kind × (List ℕ × List ℕ)). length t.1.1) parts in
    (subst IsEntryKind (sym (ap (λ (t : Kind × (List ℕ × List ℕ)). t.0) parts)) h.0, omega (arith, h.1, tails, length-drop 2 d.1, length-drop 2 b.1))

-- alike bodies with the same balance are the same
byte_of : (l : List ℕ) → 2 ≤ length l → take 1 l ++ (number_at 1 1 l ∷ drop 2 l) ≡ l
byte_of [] h = absurd (omega (arith, h))
byte_of (x ∷ []) h = absurd (omega (arith, h))
byte_of (x ∷ (y ∷ l)) h = ap (λ n. x ∷ (n ∷ l)) (omega arith)

pub alike-same : (o p : Option (Kind × List ℕ)) → IsAlike o p → IsEntryBody o → balance_in p ≡ balance_in o → p ≡ o
alike-same None p same h level = absurd h
alike-same (Some b) None same h level = cc same
alike-same (Some b) (Some d) same h level =
    let parts : but_balance d ≡ but_balance b = cc in let tails = ap (λ (t : Kind × (List ℕ × List ℕ)). length t.1.1) parts in
    let long : 2 ≤ length d.1 = omega (arith, h.1, tails, length-drop 2 d.1, length-drop 2 b.1) in
    let bytes : d.1 ≡ b.1 = sym (byte_of d.1 long) ∙ (λ i. (parts i).1.0 ++ (level i ∷ (parts i).1.1)) ∙ byte_of b.1 (omega (arith, h.1)) in
    (λ i. Some ((parts i).0, bytes i))

-- ---- members

pub in_decided : (refs : List Ref) (r : Ref) → Contains refs r ⊎ (Contains refs r → ⊥)
in_decided [] r = inr (λ c. omega (arith, c.1))
in_decided (x ∷ refs) r = elim (refs_decided x r) [
  | inl same ↦ inl (subst (Contains (x ∷ refs)) same (member-first x refs))
  | inr ne ↦ elim (in_decided refs r) [
    | inl later ↦ inl (member-later x r refs later)
    | inr out ↦ inr (λ c. elim (member-cases x r refs c) [ inl same ↦ ne same | inr later ↦ out later ])
  ]
]

not_one : (r q : Ref) → q ≢ r → Contains (r ∷ []) q → ⊥
not_one r q ne c = elim (member-cases r q [] c) [ inl same ↦ ne (sym same) | inr none ↦ omega (arith, none.1) ]

-- ---- the same but for balances

module _ (u v : View) (refs : List Ref) (b : SameButBalances u v refs) where
  pub balances-alike : (q : Ref) → IsAlike (body u q) (body v q)
  balances-alike q = elim (in_decided refs q) [ inl c ↦ b.alike q c | inr out ↦ ap (option_map but_balance) (b.bodies q out) ]

  pub balances-wider : (all : List Ref) → ((q : Ref) → Contains refs q → Contains all q) → SameButBalances u v all
  balances-wider all wider = record {
    alike = λ q c. balances-alike q;
    bodies = λ q out. b.bodies q (λ c. out (wider q c));
    ends = b.ends;
    gone = b.gone;
    spots = b.spots;
    slots = b.slots;
    usages = b.usages;
    epoch = b.epoch;
    moved = b.moved;
    compacted = b.compacted;
  }

  -- without one of which the balance is as it was
  pub balances-narrower : (less : List Ref) → ((q : Ref) → (Contains less q → ⊥) → Contains refs q → body v q ≡ body u q) → SameButBalances u v less
  balances-narrower less same = record {
    alike = λ q c. balances-alike q;
    bodies = λ q out. elim (in_decided refs q) [ inl c ↦ same q out c | inr beside ↦ b.bodies q beside ];
    ends = b.ends;
    gone = b.gone;
    spots = b.spots;
    slots = b.slots;
    usages = b.usages;
    epoch = b.epoch;
    moved = b.moved;
    compacted = b.compacted;
  }

  pub balances-then : (w : View) → SameButBalances v w refs → SameButBalances u w refs
  balances-then w c = record {
    alike = λ q i. c.alike q i ∙ b.alike q i;
    bodies = λ q out. c.bodies q out ∙ b.bodies q out;
    ends = λ e h. c.ends e (b.ends e h);
    gone = λ e h. b.gone e (c.gone e h);
    spots = λ q. c.spots q ∙ b.spots q;
    slots = c.slots ∙ b.slots;
    usages = c.usages ∙ b.usages;
    epoch = c.epoch ∙ b.epoch;
    moved = c.moved ∙ b.moved;
    compacted = c.compacted ∙ b.compacted;
  }

-- ---- a balance that is written

pub rebalanced-others : (v w : View) (r : Ref) (value : ℕ) → IsRebalanced v w r value → (q : Ref) → q ≢ r → balance_of w q ≡ balance_of v q
rebalanced-others v w r value h q ne = ap balance_in (h.objects.bodies q (not_one r q ne))

-- ---- changes of one tree

module _ (u v : View) (tree : Tree) (refs : List Ref) where
  pub changed-wider : (all : List Ref) → ((q : Ref) → Contains refs q → Contains all q) → IsTreeChanged u v tree refs → IsTreeChanged u v tree all
  changed-wider all wider c = record { links = λ e ne off. c.links e ne (λ z i. off z (wider z i)); objects = balances-wider u v refs c.objects all wider }

  pub changed-then : (w : View) → IsTreeChanged u v tree refs → IsTreeChanged v w tree refs → IsTreeChanged u w tree refs
  changed-then w c d = record { links = λ e ne off. d.links e ne off ∙ c.links e ne off; objects = balances-then u v refs c.objects w d.objects }

  pub changed-links : SameObjects u v → StaysBeyond (link_of u) (link_of v) tree.top (Contains refs) → IsTreeChanged u v tree refs
  changed-links same stays = record { links = stays; objects = same-objects u v refs same }

  pub changed-balance : (r : Ref) (value : ℕ) → Contains refs r → IsRebalanced u v r value → IsTreeChanged u v tree refs
  changed-balance r value c h = record {
    links = λ e ne off. h.links e;
    objects = balances-wider u v (r ∷ []) h.objects refs (λ q i. elim (member-cases r q [] i) [ inl same ↦ subst (Contains refs) same c | inr none ↦ absurd (omega (arith, none.1)) ]);
  }

pub changed-same : (u : View) (tree : Tree) (refs : List Ref) → IsTreeChanged u u tree refs
changed-same u tree refs = record {
  links = λ e ne off. refl;
  objects = record { alike = λ q c. refl; bodies = λ q out. refl; ends = λ e h. h; gone = λ e h. h; spots = λ q. refl; slots = refl; usages = refl; epoch = refl; moved = refl; compacted = refl };
}

-- ---- what such a change leaves

module _ (v w : View) (tree : Tree) (refs : List Ref) (changed : IsTreeChanged v w tree refs) where
  pub changed-version : (r : Ref) → IsSomeAnd (body v r) (λ b. b.0 ≡ Version) → IsSomeAnd (body w r) (λ b. b.0 ≡ Version)
  changed-version r h = alike-version (body v r) (body w r) (balances-alike v w refs changed.objects r) h

  pub changed-top : (e : End) → IsTop v e → IsTop w e
  changed-top (Obj r f) h = (h.0, changed-version r h.1)
  changed-top (Slot s) h = h

  pub changed-body : (r : Ref) → IsEntryBody (body v r) → IsEntryBody (body w r)
  changed-body r h = alike-body (body v r) (body w r) (balances-alike v w refs changed.objects r) h

  pub changed-stands : (r : Ref) (x : Pos) → IsEntryAtPosition v r x → IsEntryAtPosition w r x
  changed-stands r x h = alike-stands v w r x (balances-alike v w refs changed.objects r) h

  pub changed-ascending : (xs : List Ref) → AreAscending v xs → AreAscending w xs
  changed-ascending xs h = ascending-kept v w xs (λ r c x k. changed-stands r x k) h

  module _ (top : IsTop v tree.top) (entries : (z : Ref) → Contains refs z → IsSomeAnd (body v z) (λ b. IsEntryKind b.0)) where
    -- a link of an entry that is none of the members
    apart : (r : Ref) (f : ℕ) → IsSomeAnd (body v r) (λ b. IsEntryKind b.0) → (Contains refs r → ⊥) → link_of w (Obj r f) ≡ link_of v (Obj r f)
    apart r f h out = changed.links (Obj r f) (entry-no-top v tree.top r f top h) (λ z c. field-off r z f (λ same. out (subst (Contains refs) (sym same) c)))

    pub changed-elsewhere : (e : End) → IsOffTree v e → link_of w e ≡ link_of v e
    changed-elsewhere e off = changed.links e (off-top v e off tree.top top) (λ z c. off-entry v e off z (entries z c))

    pub changed-others : (other : Tree) (xs : List Ref) → other.top ≢ tree.top → ((r : Ref) → Contains xs r → Contains refs r → ⊥) → IsTree other v xs → IsTree other w xs
    changed-others other xs ne beside h = tree-linked other v w xs (changed-top other.top h.top)
        (changed.links other.top ne (λ z c. let off = λ (f : ℕ) (is : other.top ≡ Obj z f). entry-no-top v other.top z f h.top (entries z c) (sym is) in (off 2, off 3, off 4)))
        (λ r c. same-read (body v r) (body w r) (changed.objects.bodies r (beside r c))) (λ r c f low high. apart r f (tree-entry other v xs r h c) (beside r c)) h

    pub changed-loose : (r : Ref) → (Contains refs r → ⊥) → IsLoose v r → IsLoose w r
    changed-loose r out h = loose-read v w r (same-read (body v r) (body w r) (changed.objects.bodies r out)) (λ f low high. apart r f h.entry out) h

-- an entry is one still
pub rebalanced-body : (v w : View) (r : Ref) (value : ℕ) → IsRebalanced v w r value → (q : Ref) → IsEntryBody (body v q) → IsEntryBody (body w q)
rebalanced-body v w r value h q k = alike-body (body v q) (body w q) (balances-alike v w (r ∷ []) h.objects q) k

pub same-body : (v w : View) → SameObjects v w → (q : Ref) → IsEntryBody (body v q) → IsEntryBody (body w q)
same-body v w same q k = subst IsEntryBody (sym (same.bodies q)) k
