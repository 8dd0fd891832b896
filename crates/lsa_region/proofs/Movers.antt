-- One object moves: what each step leaves, and what all of them do.
use Rattle.std.proofs.Common.{◌≡◌, ◌≢◌, ℕ, ◌+◌, ◌-◌, ◌*◌, ◌<◌, ◌≤◌, inl, inr, Bool, true, false, ◌&&◌, cond, List, length, drop, Option, Some, None, refl, sym, ap, ◌∙◌, subst, arith}
use Rattle.std.specs.Prelude.{is_some, IsSome, IsSomeAnd}
use Rattle.std.specs.Option.{option_map}
use Rattle.std.proofs.lemmas.Bool.{eq-eqb, lt-ltb, le-ltb, cases_lt}
use Rattle.std.proofs.lemmas.List.{get_or-set_same}
use Rattle.lsa_kinds.specs.declared.kind.Kind.{Kind}
use Rattle.lsa_kinds.specs.Kinds.{links_of}
use Rattle.lsa_store.specs.Usage.{Usage}
use Rattle.lsa_store.specs.State.TheVariants.{Closed}
use Rattle.lsa_store.specs.Room.{nothing, usage_of, active_of}
use Rattle.lsa_store.specs.Usages.{decided, closed-inside}
use Rattle.lsa_store.specs.Cells.{Cell, size_of, extent, cell_at, fresh, gap_of}
use Rattle.lsa_store.specs.declared.place.Ref.{Ref}
use Rattle.lsa_store.specs.Objects.{cells_of, cell_in, body_in, rounded_size, one_if_live, live_count, IsChangedIn, IsPutIn}
use Rattle.lsa_store.specs.Stock.{IsTaken, IsGivenBack}
use Rattle.lsa_store.specs.Stored.{Stored}
use Rattle.lsa_store.specs.laws.Places.{there_and, and_map, changed-here, changed-extent, changed-sum, put-elsewhere}
use Rattle.lsa_store.specs.laws.Words.{object, word-same, body-same}
use Rattle.lsa_store.specs.laws.Written.{made-fresh, made-here, made-unset, made-others, made-words, gone-here, gone-unset, gone-others}
use Rattle.lsa_store.specs.laws.Books.{closed-apart, moved-stock}
use Rattle.lsa_region.specs.declared.end.Root.{Root}
use Rattle.lsa_region.specs.declared.end.End.{End}
use Rattle.lsa_region.specs.declared.end.End.TheVariants.{Obj, Slot}
use Rattle.lsa_region.specs.Codes.{end_of}
use Rattle.lsa_region.specs.Ends.{same_ref, swapped_end}
use Rattle.lsa_region.specs.calls.Ends.{swapped_ref}
use Rattle.lsa_region.specs.calls.Ends.{end_by, IsSameShape}
use Rattle.lsa_region.specs.Paired.{IsExchanged}
use Rattle.lsa_region.specs.calls.Moves.{view_in, partly, IsCarrying, IsRenamedBy, IsRelieved, IsMovedTo}
use Rattle.lsa_region.specs.Region.{View, body, link_of, slots_of, IsEnd, IsWell}
use Rattle.lsa_region.specs.laws.Refs.{refs_decided, swap-here, swap-there, swap-else, swap-twice}
use Rattle.lsa_region.specs.laws.Ends.{some_and_none, past-links}
use Rattle.lsa_region.specs.laws.Exchanges.{swap-other, at_end}
use Rattle.lsa_region.proofs.Regions.{well-same}
use Rattle.lsa_region.proofs.Sets.{shape-same, shape-then}

-- a link of an object of this kind is there
pub linked-there : (old now : List (List Cell)) (r x : Ref) (kind : Kind) (field : ℕ) → body_in now x ≡ body_in old r → IsSomeAnd (body_in old r) (λ b. b.0 ≡ kind) → field < links_of kind → IsSomeAnd (body_in now x) (λ b. field < links_of b.0)
linked-there old now r x kind field same told lt =
    subst (λ o. IsSomeAnd o (λ (b : Kind × List ℕ). field < links_of b.0)) (sym same)
    (and_map (body_in old r) (λ b. b.0 ≡ kind) (λ b. field < links_of b.0) (λ b is. subst (λ k. field < links_of k) (sym is) lt) told)

pub links-apart : (r q : Ref) (field : ℕ) → q ≢ r → Obj r field ≢ Obj q field
links-apart r q field ne e = let same : r ≡ q = cc in ne (sym same)

-- ---- links change places one by one

module _ (r q : Ref) (apart : q ≢ r) where
  partly-low : (k : ℕ) (x : Ref) (f : ℕ) → f < k → partly k r q (Obj x f) ≡ Obj (swapped_ref r q x) f
  partly-low k x f lt = ap (λ b. Obj (cond b (swapped_ref r q x) x) f) (lt-ltb f k lt)

  partly-high : (k : ℕ) (x : Ref) (f : ℕ) → k ≤ f → partly k r q (Obj x f) ≡ Obj x f
  partly-high k x f le = ap (λ b. Obj (cond b (swapped_ref r q x) x) f) (le-ltb f k le)

  swapped-field : (x : Ref) (k : ℕ) → swapped_end (Obj r k) (Obj q k) (Obj x k) ≡ Obj (swapped_ref r q x) k
  swapped-field x k = ap (λ n. cond (same_ref x r && n) (Obj q k) (cond (same_ref x q && n) (Obj r k) (Obj x k))) (eq-eqb k k refl) ∙ go (same_ref x r) (same_ref x q)
    where
      go : (s t : Bool) → cond (s && true) (Obj q k) (cond (t && true) (Obj r k) (Obj x k)) ≡ Obj (cond s q (cond t r x)) k
      go true t = refl
      go false true = refl
      go false false = refl

  swapped-else : (x : Ref) (f k : ℕ) → f ≢ k → swapped_end (Obj r k) (Obj q k) (Obj x f) ≡ Obj x f
  swapped-else x f k ne = swap-other (Obj r k) (Obj q k) (Obj x f) (λ e. let same : f ≡ k = cc in ne same) (λ e. let same : f ≡ k = cc in ne same)

  swapped-slot : (s : Root) (k : ℕ) → swapped_end (Obj r k) (Obj q k) (Slot s) ≡ Slot s
  swapped-slot s k = swap-other (Obj r k) (Obj q k) (Slot s) (λ e. cc) (λ e. cc)

  after-next : (k : ℕ) (e : End) → swapped_end (Obj r k) (Obj q k) (partly k r q e) ≡ partly (k + 1) r q e
  after-next k (Slot s) = swapped-slot s k
  after-next k (Obj x f) = elim (decided f k) [
    | inl e ↦
        ap (swapped_end (Obj r k) (Obj q k)) (partly-high k x f (omega (arith, e))) ∙ ap (λ n. swapped_end (Obj r k) (Obj q k) (Obj x n)) e ∙ swapped-field x k
        ∙ ap (λ n. Obj (swapped_ref r q x) n) (sym e) ∙ sym (partly-low (k + 1) x f (omega (arith, e)))
    | inr ne ↦ elim (cases_lt f k) [
      | inl lt ↦ ap (swapped_end (Obj r k) (Obj q k)) (partly-low k x f lt) ∙ swapped-else (swapped_ref r q x) f k ne ∙ sym (partly-low (k + 1) x f (omega (arith, lt)))
      | inr le ↦ ap (swapped_end (Obj r k) (Obj q k)) (partly-high k x f le) ∙ swapped-else x f k ne ∙ sym (partly-high (k + 1) x f (omega (arith, le, ne)))
    ]
  ]

  before-next : (k : ℕ) (e : End) → partly k r q (swapped_end (Obj r k) (Obj q k) e) ≡ partly (k + 1) r q e
  before-next k (Slot s) = ap (partly k r q) (swapped-slot s k)
  before-next k (Obj x f) = elim (decided f k) [
    | inl e ↦
        ap (λ n. partly k r q (swapped_end (Obj r k) (Obj q k) (Obj x n))) e ∙ ap (partly k r q) (swapped-field x k) ∙ partly-high k (swapped_ref r q x) k (omega arith)
        ∙ ap (λ n. Obj (swapped_ref r q x) n) (sym e) ∙ sym (partly-low (k + 1) x f (omega (arith, e)))
    | inr ne ↦ ap (partly k r q) (swapped-else x f k ne) ∙ elim (cases_lt f k) [
      | inl lt ↦ partly-low k x f lt ∙ sym (partly-low (k + 1) x f (omega (arith, lt)))
      | inr le ↦ partly-high k x f le ∙ sym (partly-high (k + 1) x f (omega (arith, le, ne)))
    ]
  ]

  none-first : (e : End) → partly 0 r q e ≡ e
  none-first (Slot s) = refl
  none-first (Obj x f) = partly-high 0 x f (omega arith)

  pub carry-init : (v : View) → IsCarrying v v r q 0
  carry-init v = record {
    links = λ e. same (link_of v e) ∙ ap (λ x. option_map (partly 0 r q) (link_of v x)) (sym (none-first e));
    shape = shape-same v.cells;
    usages = refl;
    kept = λ s h. h;
    known = λ s h. h;
    slots = refl;
  }
    where
      same : (o : Option End) → o ≡ option_map (partly 0 r q) o
      same None = refl
      same (Some y) = ap (λ x. Some x) (sym (none-first y))

  pub carry-step : (old mid new : View) (k : ℕ) → IsCarrying old mid r q k → IsExchanged (link_of mid) (link_of new) (Obj r k) (Obj q k) → IsSameShape mid.cells new.cells → new.usages ≡ mid.usages
      → ((e : End) → IsEnd mid e → IsEnd new e) → ((e : End) → IsEnd new e → IsEnd mid e) → slots_of new ≡ slots_of mid → IsCarrying old new r q (k + 1)
  carry-step old mid new k c ex shape usages ends back slots = record {
    links = λ e.
        at_end (link_of mid) (link_of new) (Obj r k) (Obj q k) ends_apart ex e
        ∙ ap (option_map (swapped_end (Obj r k) (Obj q k))) (c.links (swapped_end (Obj r k) (Obj q k) e) ∙ ap (λ x. option_map (partly k r q) (link_of old x)) (before-next k e))
        ∙ both (link_of old (partly (k + 1) r q e));
    shape = shape-then old.cells mid.cells new.cells c.shape shape;
    usages = usages ∙ c.usages;
    kept = λ s h. ends (Slot s) (c.kept s h);
    known = λ s h. c.known s (back (Slot s) h);
    slots = slots ∙ c.slots;
  }
    where
      ends_apart : Obj r k ≢ Obj q k
      ends_apart e = let same : r ≡ q = cc in apart (sym same)

      both : (o : Option End) → option_map (swapped_end (Obj r k) (Obj q k)) (option_map (partly k r q) o) ≡ option_map (partly (k + 1) r q) o
      both None = refl
      both (Some y) = ap (λ x. Some x) (after-next k y)

-- ---- the object is made again

module _ (size : ℕ) (s0 s1 : Stored) (roots : List (Option (Option End))) (r q : Ref) (some : IsSome (body_in s0.cells r)) (put : IsSomeAnd (body_in s0.cells r) (λ b. IsPutIn s0.cells s1.cells q (fresh b.0 b.1))) where
  made : IsPutIn s0.cells s1.cells q (fresh (object s0.cells r some).kind (drop (8 * links_of (object s0.cells r some).kind) (object s0.cells r some).cell.rest))
  made =
      there_and (body_in s0.cells r) ((object s0.cells r some).kind, drop (8 * links_of (object s0.cells r some).kind) (object s0.cells r some).cell.rest) (λ (b : Kind × List ℕ). IsPutIn s0.cells s1.cells q (fresh b.0 b.1))
      (object s0.cells r some).body put

  pub copy-fresh : body_in s0.cells q ≡ None
  copy-fresh = made-fresh s0.cells s1.cells q (object s0.cells r some).kind (drop (8 * links_of (object s0.cells r some).kind) (object s0.cells r some).cell.rest) made

  pub copy-apart : q ≢ r
  copy-apart e = let none : body_in s0.cells r ≡ None = ap (body_in s0.cells) (sym e) ∙ copy-fresh in let bad = ap is_some none in cc

  pub copy-others : (y : Ref) → y ≢ q → body_in s1.cells y ≡ body_in s0.cells y
  copy-others = made-others s0.cells s1.cells q (object s0.cells r some).kind (drop (8 * links_of (object s0.cells r some).kind) (object s0.cells r some).cell.rest) made

  pub copy-old : body_in s1.cells r ≡ body_in s0.cells r
  copy-old = copy-others r (λ e. copy-apart (sym e))

  pub copy-here : body_in s1.cells q ≡ body_in s1.cells r
  copy-here =
      made-here s0.cells s1.cells q (object s0.cells r some).kind (drop (8 * links_of (object s0.cells r some).kind) (object s0.cells r some).cell.rest) made ∙ sym ((object s0.cells r some).body) ∙ sym copy-old

  pub copy-unset : (field : ℕ) → link_of (view_in s1 roots) (Obj q field) ≡ None
  copy-unset field = ap end_of (made-unset s0.cells s1.cells q (object s0.cells r some).kind (drop (8 * links_of (object s0.cells r some).kind) (object s0.cells r some).cell.rest) made field)

  pub copy-links : (e : End) → link_of (view_in s1 roots) e ≡ link_of (view_in s0 roots) e
  copy-links (Obj y field) = ap end_of (made-words s0.cells s1.cells q (object s0.cells r some).kind (drop (8 * links_of (object s0.cells r some).kind) (object s0.cells r some).cell.rest) made y field)
  copy-links (Slot s) = refl

  pub copy-elsewhere : (n : ℕ) → n ≢ q.segment → cells_of s1.cells n ≡ cells_of s0.cells n
  copy-elsewhere = put-elsewhere s0.cells s1.cells q (fresh (object s0.cells r some).kind (drop (8 * links_of (object s0.cells r some).kind) (object s0.cells r some).cell.rest)) made

  pub copy-well : IsWell (view_in s0 roots) → IsWell (view_in s1 roots)
  copy-well well = well-same (view_in s0 roots) (view_in s1 roots) well copy-links (λ a b named h. kept b h)
    where
      kept : (b : End) → IsEnd (view_in s0 roots) b → IsEnd (view_in s1 roots) b
      kept (Obj y field) h =
          subst (λ o. IsSomeAnd o (λ (b : Kind × List ℕ). field < links_of b.0))
          (sym (copy-others y (λ e. some_and_none (body_in s0.cells y) (λ b. field < links_of b.0) (ap (body_in s0.cells) e ∙ copy-fresh) h))) h
      kept (Slot s) h = h

-- ---- all steps of a move

module _ (size : ℕ) (s0 s1 s2 s3 : Stored) (roots roots' : List (Option (Option End))) (r q : Ref) (some : IsSome (body_in s0.cells r)) (closed : (usage_of s0.usages r.segment).state ≡ Closed) (well : IsWell (view_in s0 roots))
    (put : IsSomeAnd (body_in s0.cells r) (λ b. IsPutIn s0.cells s1.cells q (fresh b.0 b.1))) (active : active_of s1.usages ≡ Some q.segment)
    (taken : IsSomeAnd (body_in s0.cells r) (λ b. IsTaken size s0.usages s1.usages (rounded_size b.0 (length b.1))))
    (carried : IsSomeAnd (body_in s1.cells r) (λ b. IsCarrying (view_in s1 roots) (view_in s2 roots') r q (links_of b.0))) (well' : IsWell (view_in s2 roots'))
    (killed : IsChangedIn s2.cells s3.cells r gap_of) (given : IsSomeAnd (body_in s2.cells r) (λ b. IsGivenBack size s2.usages s3.usages r.segment (rounded_size b.0 (length b.1)))) where
  abbrev v0 : View
  v0 = view_in s0 roots

  abbrev v1 : View
  v1 = view_in s1 roots

  abbrev v2 : View
  v2 = view_in s2 roots'

  abbrev v3 : View
  v3 = view_in s3 roots'

  abbrev kind : Kind
  kind = (object s0.cells r some).kind

  abbrev rest : List ℕ
  rest = drop (8 * links_of (object s0.cells r some).kind) (object s0.cells r some).cell.rest

  differ : q ≢ r
  differ = copy-apart size s0 s1 roots r q some put

  body1 : body_in s1.cells r ≡ Some (kind, rest)
  body1 = copy-old size s0 s1 roots r q some put ∙ (object s0.cells r some).body

  carry : IsCarrying v1 v2 r q (links_of kind)
  carry = there_and (body_in s1.cells r) (kind, rest) (λ (b : Kind × List ℕ). IsCarrying v1 v2 r q (links_of b.0)) body1 carried

  body2 : body_in s2.cells r ≡ Some (kind, rest)
  body2 = carry.shape.bodies r ∙ body1

  some2 : IsSome (body_in s2.cells r)
  some2 = ap is_some body2

  take : IsTaken size s0.usages s1.usages (rounded_size kind (length rest))
  take = there_and (body_in s0.cells r) (kind, rest) (λ (b : Kind × List ℕ). IsTaken size s0.usages s1.usages (rounded_size b.0 (length b.1))) (object s0.cells r some).body taken

  give : IsGivenBack size s2.usages s3.usages r.segment (rounded_size kind (length rest))
  give = there_and (body_in s2.cells r) (kind, rest) (λ (b : Kind × List ℕ). IsGivenBack size s2.usages s3.usages r.segment (rounded_size b.0 (length b.1))) body2 given

  give1 : IsGivenBack size s1.usages s3.usages r.segment (rounded_size kind (length rest))
  give1 = subst (λ u. IsGivenBack size u s3.usages r.segment (rounded_size kind (length rest))) carry.usages give

  -- the links of the object that goes are unset
  own-unset : (field : ℕ) → link_of v2 (Obj r field) ≡ None
  own-unset field = carry.links (Obj r field) ∙ elim (cases_lt field (links_of kind)) [
    | inl lt ↦
        ap (option_map (partly (links_of kind) r q)) (ap (link_of v1) (partly-low r q differ (links_of kind) r field lt ∙ ap (λ x. Obj x field) (swap-here r q)) ∙ copy-unset size s0 s1 roots r q some put field)
    | inr le ↦
        ap (option_map (partly (links_of kind) r q))
        (ap (link_of v1) (partly-high r q differ (links_of kind) r field le) ∙ copy-links size s0 s1 roots r q some put (Obj r field) ∙ past-links v0 r kind rest field well (object s0.cells r some).body le)
  ]

  last-links : (e : End) → link_of v3 e ≡ link_of v2 e
  last-links (Slot s) = refl
  last-links (Obj x field) = elim (refs_decided x r) [
    | inl e ↦ ap (λ y. link_of v3 (Obj y field)) e ∙ ap end_of (gone-unset s2.cells s3.cells r some2 killed field) ∙ sym (own-unset field) ∙ ap (λ y. link_of v2 (Obj y field)) (sym e)
    | inr ne ↦ ap end_of (word-same s2.cells s3.cells x field (gone-others s2.cells s3.cells r some2 killed x ne))
  ]

  pub moved-well : IsWell v3
  moved-well = well-same v2 v3 well' last-links (λ a b named h. kept a b named h)
    where
      kept : (a b : End) → link_of v2 a ≡ Some b → IsEnd v2 b → IsEnd v3 b
      kept a (Slot s) named h = h
      kept a (Obj x field) named h = elim (refs_decided x r) [
        | inl e ↦
            let back = well'.paired.mates a (Obj x field) named in
            let none : link_of v2 (Obj x field) ≡ None = ap (λ y. link_of v2 (Obj y field)) e ∙ own-unset field in let clash = sym none ∙ back in cc
        | inr ne ↦ subst (λ o. IsSomeAnd o (λ (b : Kind × List ℕ). field < links_of b.0)) (sym (body-same s2.cells s3.cells x (gone-others s2.cells s3.cells r some2 killed x ne))) h
      ]

  body-others : (x : Ref) → x ≢ r → x ≢ q → body v3 x ≡ body v0 x
  body-others x no_r no_q = body-same s2.cells s3.cells x (gone-others s2.cells s3.cells r some2 killed x no_r) ∙ carry.shape.bodies x ∙ copy-others size s0 s1 roots r q some put x no_q

  new-bodies : (x : Ref) → body v3 (swapped_ref r q x) ≡ body v0 x
  new-bodies x = elim (refs_decided x r) [
    | inl e ↦
        ap (λ y. body v3 (swapped_ref r q y)) e ∙ ap (body v3) (swap-here r q) ∙ body-same s2.cells s3.cells q (gone-others s2.cells s3.cells r some2 killed q differ) ∙ carry.shape.bodies q
        ∙ copy-here size s0 s1 roots r q some put ∙ copy-old size s0 s1 roots r q some put ∙ ap (body v0) (sym e)
    | inr no_r ↦ elim (refs_decided x q) [
      | inl e ↦ ap (λ y. body v3 (swapped_ref r q y)) e ∙ ap (body v3) (swap-there r q differ) ∙ gone-here s2.cells s3.cells r some2 killed ∙ sym (copy-fresh size s0 s1 roots r q some put) ∙ ap (body v0) (sym e)
      | inr no_q ↦ ap (body v3) (swap-else r q x no_r no_q) ∙ body-others x no_r no_q
    ]
  ]

  -- an object with a link of that number is another one, or has it among those that changed places
  other-object : (x : Ref) (f : ℕ) → IsEnd v0 (Obj x f) → links_of kind ≤ f → (x ≢ r) × (x ≢ q)
  other-object x f h le = (
    (λ e. let there = subst (λ b. IsSomeAnd b (λ (b : Kind × List ℕ). f < links_of b.0)) (ap (body v0) e ∙ (object s0.cells r some).body) h in omega (arith, there, le)),
    (λ e. some_and_none (body v0 x) (λ b. f < links_of b.0) (ap (body v0) e ∙ copy-fresh size s0 s1 roots r q some put) h),
  )

  partly-end : (e : End) → IsEnd v0 e → partly (links_of kind) r q e ≡ end_by (swapped_ref r q) e
  partly-end (Slot s) h = refl
  partly-end (Obj x f) h = elim (cases_lt f (links_of kind)) [
    | inl lt ↦ partly-low r q differ (links_of kind) x f lt
    | inr le ↦ let w = other-object x f h le in partly-high r q differ (links_of kind) x f le ∙ ap (λ y. Obj y f) (sym (swap-else r q x w.0 w.1))
  ]

  partly-back : (e : End) → IsEnd v0 e → partly (links_of kind) r q (end_by (swapped_ref r q) e) ≡ e
  partly-back (Slot s) h = refl
  partly-back (Obj x f) h = elim (cases_lt f (links_of kind)) [
    | inl lt ↦ partly-low r q differ (links_of kind) (swapped_ref r q x) f lt ∙ ap (λ y. Obj y f) (swap-twice r q x differ)
    | inr le ↦ let w = other-object x f h le in partly-high r q differ (links_of kind) (swapped_ref r q x) f le ∙ ap (λ y. Obj y f) (swap-else r q x w.0 w.1)
  ]

  pub moved-renamed : IsRenamedBy v0 v3 (swapped_ref r q) (swapped_ref r q)
  moved-renamed = record {
    back_there = λ x. swap-twice r q x differ;
    there_back = λ x. swap-twice r q x differ;
    bodies = new-bodies;
    links = λ e h.
        last-links (end_by (swapped_ref r q) e) ∙ carry.links (end_by (swapped_ref r q) e)
        ∙ ap (λ y. option_map (partly (links_of kind) r q) (link_of v1 y)) (partly-back e h)
        ∙ ap (option_map (partly (links_of kind) r q)) (copy-links size s0 s1 roots r q some put e) ∙ named (link_of v0 e) (λ y is. partly-end y (well.ends e y is));
    kept = carry.kept;
    known = carry.known;
    slots = carry.slots;
  }
    where
      named : (w : Option End) → ((y : End) → w ≡ Some y → partly (links_of kind) r q y ≡ end_by (swapped_ref r q) y) → option_map (partly (links_of kind) r q) w ≡ option_map (end_by (swapped_ref r q)) w
      named None same = refl
      named (Some y) same = ap (λ z. Some z) (same y refl)

  elsewhere : q.segment ≢ r.segment
  elsewhere e =
      let still : (usage_of s1.usages r.segment).state ≡ Closed = ap (λ (u : Usage). u.state) (take.closed r.segment closed) ∙ closed in
      closed-apart s1.usages r.segment q.segment still active (sym e)

  lowered : usage_of s3.usages r.segment ≡ record (usage_of s1.usages r.segment) { live = (usage_of s1.usages r.segment).live - rounded_size kind (length rest) }
  lowered =
      ap (λ l. usage_of l r.segment) give1.after
      ∙ get_or-set_same s1.usages r.segment (record (usage_of s1.usages r.segment) { live = (usage_of s1.usages r.segment).live - rounded_size kind (length rest) }) nothing (omega (arith, take.budget, closed-inside s0.usages r.segment closed))

  pub moved-relieved : IsRelieved size v0 v3 r.segment
  moved-relieved = record {
    budget = give1.budget ∙ take.budget;
    total = omega (arith, give1.total, take.total);
    closed = ap (λ (u : Usage). u.state) lowered ∙ ap (λ (u : Usage). u.state) (take.closed r.segment closed) ∙ closed;
    stock = moved-stock size (rounded_size kind (length rest)) r.segment s0.usages s1.usages s3.usages closed take give1;
    end = changed-extent s2.cells s3.cells r gap_of killed (object s2.cells r some2).cell (object s2.cells r some2).here r.segment ∙ carry.shape.ends r.segment
        ∙ ap extent (copy-elsewhere size s0 s1 roots r q some put r.segment (λ e. elsewhere (sym e)));
  }

  pub moved-to : IsMovedTo size v0 v3 r q
  moved-to = record {
    fresh = copy-fresh size s0 s1 roots r q some put;
    elsewhere = elsewhere;
    gone = gone-here s2.cells s3.cells r some2 killed;
    renamed = moved-renamed;
    relieved = moved-relieved;
    sizes = λ y same. last y ∙ carry.shape.sizes y ∙ ap (λ l. option_map (λ (c : Cell). size_of c) (cell_at l y.offset)) (copy-elsewhere size s0 s1 roots r q some put y.segment (λ e. elsewhere (sym e ∙ same)));
    counted = omega (
      arith,
      changed-sum s2.cells s3.cells r gap_of killed (object s2.cells r some2).cell (object s2.cells r some2).here one_if_live,
      counts_one (object s2.cells r some2).cell (object s2.cells r some2).kind (object s2.cells r some2).is,
      carry.shape.counts r.segment,
      ap live_count (copy-elsewhere size s0 s1 roots r q some put r.segment (λ e. elsewhere (sym e))),
    );
  }
    where
      counts_one : (c : Cell) (k : Kind) → c.kind ≡ Some k → one_if_live c ≡ 1
      counts_one c k e = ap (λ (k : Option Kind). cond (is_some k) 1 0) e

      last : (y : Ref) → option_map (λ (c : Cell). size_of c) (cell_in s3.cells y) ≡ option_map (λ (c : Cell). size_of c) (cell_in s2.cells y)
      last y = elim (refs_decided y r) [
        | inl e ↦
            ap (λ p. option_map (λ (c : Cell). size_of c) (cell_in s3.cells p)) e
            ∙ ap (option_map (λ (c : Cell). size_of c)) (changed-here s2.cells s3.cells r gap_of killed (object s2.cells r some2).cell (object s2.cells r some2).here)
            ∙ sym (ap (option_map (λ (c : Cell). size_of c)) (object s2.cells r some2).here) ∙ ap (λ p. option_map (λ (c : Cell). size_of c) (cell_in s2.cells p)) (sym e)
        | inr ne ↦ ap (option_map (λ (c : Cell). size_of c)) (gone-others s2.cells s3.cells r some2 killed y ne)
      ]
