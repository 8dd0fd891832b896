-- Objects beside positions: which stands where, once an object came among them, took the place of another one, or went.
use Rattle.std.proofs.Common.{◌≡◌, ◌≢◌, ◌⊎◌, suc, Bool, true, false, cond, List, [], ◌∷◌, ◌++◌, length, inl, inr, refl, sym, ap, ◌∙◌, subst, map, arith}
use Rattle.std.specs.Prelude.{Contains, IsTrue, ⊤}
use Rattle.std.specs.Cmp.{tied_itself}
use Rattle.std.specs.Ordering.{eq_by_cmp}
use Rattle.std.specs.declared.cmp.Ordering.TheVariants.{Less, Equal, Greater}
use Rattle.rc_position.specs.declared.positions.Pos.{Pos}
use Rattle.rc_position.specs.Position.{IsBefore, pos_cmp}
use Rattle.rc_position.specs.laws.Orders.{eq_by_cmp-same, pos_cmp_same, pos_cmp_total}
use Rattle.lsa_store.specs.declared.place.Ref.{Ref}
use Rattle.lsa_region.specs.Region.{View}
use Rattle.lsa_tree.specs.Entries.{AreAscending, IsEntryAtPosition, StandsLater}
use Rattle.lsa_tree.specs.laws.Orders.{all-at, behind-at, not-both, stands-once}
use Rattle.rc_core.specs.AtPlace.{HasEntryAt}
use Rattle.rc_core.specs.Change.{at_entry, gap_split, split_by, take_out, with_first_gap}
use Rattle.rc_core.specs.declared.entries.Entry.{Entry}
use Rattle.rc_core.specs.declared.entries.Mark.{Mark}
use Rattle.rc_object.specs.Objects.{HoldsEntry}
use Rattle.rc_version.specs.Versions.{HoldEntries}
use Rattle.rc_version.specs.laws.Objects.{holds-stands}
use Rattle.rc_memory.specs.Lists.{elem-cases, elem-first, elem-here, elem-later, elem-none}

-- each object stands at the position beside it
abbrev pub StandBeside : View → List Ref → List Pos → Type 0
StandBeside v [] [] = ⊤
StandBeside v [] (x ∷ xs) = ⊥
StandBeside v (r ∷ refs) [] = ⊥
StandBeside v (r ∷ refs) (x ∷ xs) = IsEntryAtPosition v r x × StandBeside v refs xs

-- the object has this position beside it
abbrev pub IsBeside : Ref → Pos → List Ref → List Pos → Type 0
IsBeside r y [] xs = ⊥
IsBeside r y (q ∷ refs) [] = ⊥
IsBeside r y (q ∷ refs) (x ∷ xs) = ((q ≡ r) × (x ≡ y)) ⊎ IsBeside r y refs xs

-- where entries stand
abbrev pub positions : List Entry → List Pos
positions es = map (λ (e : Entry). e.position) es

pub held-beside : (v : View) (refs : List Ref) (es : List Entry) → HoldEntries v refs es → StandBeside v refs (positions es)
held-beside v [] [] h = tt
held-beside v [] (e ∷ es) h = absurd h
held-beside v (r ∷ refs) [] h = absurd h
held-beside v (r ∷ refs) (e ∷ es) h = (holds-stands v r e h.0, held-beside v refs es h.1)

pub beside-of : (v : View) (refs : List Ref) (xs : List Pos) (r : Ref) (y : Pos) → StandBeside v refs xs → Contains refs r → IsEntryAtPosition v r y → IsBeside r y refs xs
beside-of v [] xs r y h on at = absurd (elem-none r on)
beside-of v (q ∷ refs) [] r y h on at = absurd h
beside-of v (q ∷ refs) (x ∷ xs) r y h on at = elim (elem-cases q r refs on) [
  | inl same ↦ inl (same, stands-once v r x y (subst (λ z. IsEntryAtPosition v z x) same h.0) at)
  | inr later ↦ inr (beside-of v refs xs r y h.1 later at)
]

pub of-beside : (v : View) (refs : List Ref) (xs : List Pos) (r : Ref) (y : Pos) → StandBeside v refs xs → IsBeside r y refs xs → Contains refs r × IsEntryAtPosition v r y
of-beside v [] xs r y h k = absurd k
of-beside v (q ∷ refs) [] r y h k = absurd k
of-beside v (q ∷ refs) (x ∷ xs) r y h (inl k) = (subst (Contains (q ∷ refs)) k.0 (elem-first q refs), subst (IsEntryAtPosition v r) k.1 (subst (λ z. IsEntryAtPosition v z x) k.0 h.0))
of-beside v (q ∷ refs) (x ∷ xs) r y h (inr k) = let rest = of-beside v refs xs r y h.1 k in (elem-later q r refs rest.0, rest.1)

pub beside-length : (v : View) (refs : List Ref) (xs : List Pos) → StandBeside v refs xs → length refs ≡ length xs
beside-length v [] [] h = refl
beside-length v [] (x ∷ xs) h = absurd h
beside-length v (r ∷ refs) [] h = absurd h
beside-length v (r ∷ refs) (x ∷ xs) h = ap suc (beside-length v refs xs h.1)

pub length-with : {X : Type 0} (xs ys : List X) (x : X) → length (xs ++ (x ∷ ys)) ≡ suc (length (xs ++ ys))
length-with [] ys x = refl
length-with (z ∷ xs) ys x = ap suc (length-with xs ys x)

some-beside : (v : View) (refs : List Ref) (pf pb : List Pos) (x : Pos) → StandBeside v refs (pf ++ (x ∷ pb)) → (r : Ref) × Contains refs r × IsEntryAtPosition v r x
some-beside v [] [] pb x h = absurd h
some-beside v [] (p ∷ pf) pb x h = absurd h
some-beside v (q ∷ refs) [] pb x h = (q, elem-first q refs, h.0)
some-beside v (q ∷ refs) (p ∷ pf) pb x h = let k = some-beside v refs pf pb x h.1 in (k.0, elem-later q k.0 refs k.1, k.2)

-- no two of ascending entries stand at one position
first_clash : (v : View) (q : Ref) (refs : List Ref) (x : Pos) (r : Ref) → AreAscending v (q ∷ refs) → IsEntryAtPosition v q x → Contains refs r → IsEntryAtPosition v r x → ⊥
first_clash v q refs x r a at on there =
    let less = behind-at v r x a.0.0 there (all-at (λ z. StandsLater v z a.0.0) refs r a.0.2 on) in
    let again = subst (λ z. IsBefore a.0.0 z) (sym (stands-once v q a.0.0 x a.0.1 at)) less in not-both a.0.0 a.0.0 again again

module _ (v : View) (r : Ref) (x : Pos) (at : IsEntryAtPosition v r x) where
  -- one more
  pub beside-put : (rf rb : List Ref) (pf pb : List Pos) → AreAscending v (rf ++ (r ∷ rb)) → StandBeside v (rf ++ (r ∷ rb)) (pf ++ (x ∷ pb)) → (q : Ref) (y : Pos) → IsBeside q y (rf ++ rb) (pf ++ pb) → IsBeside q y (rf ++ (r ∷ rb)) (pf ++ (x ∷ pb))
  beside-put [] rb [] pb a h q y k = inr k
  beside-put [] rb (p ∷ pf) pb a h q y k = let w = some-beside v rb pf pb x h.1 in absurd (first_clash v r rb x w.0 a at w.1 w.2)
  beside-put (f ∷ rf) rb [] pb a h q y k = absurd (first_clash v f (rf ++ (r ∷ rb)) x r a h.0 (elem-here rf rb r) at)
  beside-put (f ∷ rf) rb (p ∷ pf) pb a h q y (inl k) = inl k
  beside-put (f ∷ rf) rb (p ∷ pf) pb a h q y (inr k) = inr (beside-put rf rb pf pb a.1 h.1 q y k)

  -- one less
  pub beside-gone : (rf rb : List Ref) (pf pb : List Pos) → AreAscending v (rf ++ (r ∷ rb)) → StandBeside v (rf ++ (r ∷ rb)) (pf ++ (x ∷ pb)) → (q : Ref) (y : Pos) → y ≢ x → IsBeside q y (rf ++ (r ∷ rb)) (pf ++ (x ∷ pb)) → IsBeside q y (rf ++ rb) (pf ++ pb)
  beside-gone [] rb [] pb a h q y ne (inl k) = absurd (ne (sym k.1))
  beside-gone [] rb [] pb a h q y ne (inr k) = k
  beside-gone [] rb (p ∷ pf) pb a h q y ne k = let w = some-beside v rb pf pb x h.1 in absurd (first_clash v r rb x w.0 a at w.1 w.2)
  beside-gone (f ∷ rf) rb [] pb a h q y ne k = absurd (first_clash v f (rf ++ (r ∷ rb)) x r a h.0 (elem-here rf rb r) at)
  beside-gone (f ∷ rf) rb (p ∷ pf) pb a h q y ne (inl k) = inl k
  beside-gone (f ∷ rf) rb (p ∷ pf) pb a h q y ne (inr k) = inr (beside-gone rf rb pf pb a.1 h.1 q y ne k)

  -- another one in the place of one
  pub beside-exchanged : (rf rb : List Ref) (o : Ref) (xs : List Pos) → StandBeside v (rf ++ (r ∷ rb)) xs → (q : Ref) (y : Pos) → y ≢ x → IsBeside q y (rf ++ (o ∷ rb)) xs → IsBeside q y (rf ++ (r ∷ rb)) xs
  beside-exchanged [] rb o [] h q y ne k = absurd k
  beside-exchanged [] rb o (p ∷ xs) h q y ne (inl k) = absurd (ne (sym k.1 ∙ stands-once v r p x h.0 at))
  beside-exchanged [] rb o (p ∷ xs) h q y ne (inr k) = inr k
  beside-exchanged (f ∷ rf) rb o [] h q y ne k = absurd k
  beside-exchanged (f ∷ rf) rb o (p ∷ xs) h q y ne (inl k) = inl k
  beside-exchanged (f ∷ rf) rb o (p ∷ xs) h q y ne (inr k) = inr (beside-exchanged rf rb o xs h.1 q y ne k)

-- ---- where entries stand after what is done to them

module _ (f : Entry → Entry) (stays : (e : Entry) → (f e).position ≡ e.position) where
  cond_stays : (b : Bool) (e : Entry) → (cond b (f e) e).position ≡ e.position
  cond_stays true e = stays e
  cond_stays false e = refl

  pub positions-at : (x : Pos) (es : List Entry) → positions (at_entry x f es) ≡ positions es
  positions-at x [] = refl
  positions-at x (e ∷ es) = λ i. cond_stays (eq_by_cmp pos_cmp x e.position) e i ∷ positions-at x es i

  pub positions-each : (es : List Entry) → positions (map f es) ≡ positions es
  positions-each [] = refl
  positions-each (e ∷ es) = λ i. stays e i ∷ positions-each es i

-- a split leaves the positions, or puts one among them
abbrev pub IsPutAt : Pos → List Pos → List Pos → Type 0
IsPutAt x old new = (front : List Pos) × (back : List Pos) × (old ≡ front ++ back) × (new ≡ front ++ (x ∷ back))

abbrev PositionsSplit : Pos → List Entry → List Entry → Type 0
PositionsSplit x es now = HasEntryAt x now → (positions now ≡ positions es) ⊎ IsPutAt x (positions es) (positions now)

pub positions-split : (x : Pos) (es : List Entry) → HasEntryAt x (gap_split x es) → (positions (gap_split x es) ≡ positions es) ⊎ IsPutAt x (positions es) (positions (gap_split x es))
positions-split x [] h = inl refl
positions-split x (e ∷ es) h = (elim (pos_cmp x e.position) as (λ r. pos_cmp x e.position ≡ r → PositionsSplit x (e ∷ es) (split_by r x e es (gap_split x es))) [
  | Less ↦ λ is k. inr ([], positions (e ∷ es), refl, refl)
  | Equal ↦ λ is k. inl refl
  | Greater ↦ λ is k. elim k [
    | inl here ↦ absurd (let clash : Equal ≡ Greater = sym (tied_itself pos_cmp_total x) ∙ sym (ap (pos_cmp x) here) ∙ is in cc)
    | inr later ↦ elim (positions-split x es later) [
      | inl same ↦ inl (ap (λ l. e.position ∷ l) same)
      | inr put ↦ inr (e.position ∷ put.0, put.1, ap (λ l. e.position ∷ l) put.2, ap (λ l. e.position ∷ l) put.3)
    ]
  ]
]) refl h

first_positions : (m : Mark) (es : List Entry) → positions (with_first_gap m es) ≡ positions es
first_positions m [] = refl
first_positions m (e ∷ es) = refl

-- what is taken out leaves all others
pub positions-taken : (m : Mark) (x : Pos) (es : List Entry) → HasEntryAt x es → IsPutAt x (positions (take_out m x es)) (positions es)
positions-taken m x [] h = absurd h
positions-taken m x (e ∷ es) h = told (λ k. positions-taken m x es k) (eq_by_cmp pos_cmp x e.position) refl
  where
    told : (HasEntryAt x es → IsPutAt x (positions (take_out m x es)) (positions es)) → (b : Bool) → b ≡ eq_by_cmp pos_cmp x e.position → IsPutAt x (positions (cond b (with_first_gap m es) (e ∷ take_out m x es))) (positions (e ∷ es))
    told further true is = let same : x ≡ e.position = (eq_by_cmp-same pos_cmp_total pos_cmp_same x e.position true is).0 refl in ([], positions es, first_positions m es, ap (λ z. z ∷ positions es) (sym same))
    told further false is = elim h [
      | inl here ↦ absurd (let t : IsTrue false = (eq_by_cmp-same pos_cmp_total pos_cmp_same x e.position false is).1 (sym here) in cc)
      | inr later ↦ let k = further later in (e.position ∷ k.0, k.1, ap (λ l. e.position ∷ l) k.2, ap (λ l. e.position ∷ l) k.3)
    ]

-- ---- objects of entries that stay

module _ (old new : View) (refs now : List Ref) (es ds : List Entry) (held : HoldEntries old refs es) (holds : HoldEntries new now ds) where
  -- where no object came or went
  pub stay-same : now ≡ refs → positions ds ≡ positions es → (q : Ref) (y : Pos) → Contains refs q → IsEntryAtPosition old q y → Contains now q × IsEntryAtPosition new q y
  stay-same is same q y on at =
      of-beside new now (positions ds) q y (held-beside new now ds holds)
      (subst (IsBeside q y now) (sym same) (subst (λ l. IsBeside q y l (positions es)) (sym is) (beside-of old refs (positions es) q y (held-beside old refs es held) on at)))

  -- where one came
  pub stay-put : (r : Ref) (x : Pos) (rf rb : List Ref) → refs ≡ rf ++ rb → now ≡ rf ++ (r ∷ rb) → IsEntryAtPosition new r x → AreAscending new now → IsPutAt x (positions es) (positions ds) → (q : Ref) (y : Pos) → Contains refs q → IsEntryAtPosition old q y → Contains now q × IsEntryAtPosition new q y
  stay-put r x rf rb was is here a put q y on at =
      let beside = beside-of old refs (positions es) q y (held-beside old refs es held) on at in
      let stand = subst (StandBeside new (rf ++ (r ∷ rb))) put.3 (subst (λ l. StandBeside new l (positions ds)) is (held-beside new now ds holds)) in
      let more = beside-put new r x here rf rb put.0 put.1 (subst (AreAscending new) is a) stand q y (subst (IsBeside q y (rf ++ rb)) put.2 (subst (λ l. IsBeside q y l (positions es)) was beside)) in
      of-beside new now (positions ds) q y (held-beside new now ds holds) (subst (IsBeside q y now) (sym put.3) (subst (λ l. IsBeside q y l (put.0 ++ (x ∷ put.1))) (sym is) more))

  -- where one went
  pub stay-gone : (r : Ref) (x : Pos) (rf rb : List Ref) → refs ≡ rf ++ (r ∷ rb) → now ≡ rf ++ rb → IsEntryAtPosition old r x → AreAscending old refs → IsPutAt x (positions ds) (positions es) → (q : Ref) (y : Pos) → y ≢ x → Contains refs q → IsEntryAtPosition old q y → Contains now q × IsEntryAtPosition new q y
  stay-gone r x rf rb was is here a put q y ne on at =
      let beside = beside-of old refs (positions es) q y (held-beside old refs es held) on at in
      let stand = subst (StandBeside old (rf ++ (r ∷ rb))) put.3 (subst (λ l. StandBeside old l (positions es)) was (held-beside old refs es held)) in
      let less = beside-gone old r x here rf rb put.0 put.1 (subst (AreAscending old) was a) stand q y ne (subst (IsBeside q y (rf ++ (r ∷ rb))) put.3 (subst (λ l. IsBeside q y l (positions es)) was beside)) in
      of-beside new now (positions ds) q y (held-beside new now ds holds) (subst (IsBeside q y now) (sym put.2) (subst (λ l. IsBeside q y l (put.0 ++ put.1)) (sym is) less))

  -- where one took the place of another one
  pub stay-exchanged : (r : Ref) (x : Pos) (rf rb : List Ref) (o : Ref) → refs ≡ rf ++ (o ∷ rb) → now ≡ rf ++ (r ∷ rb) → IsEntryAtPosition new r x → positions ds ≡ positions es → (q : Ref) (y : Pos) → y ≢ x → Contains refs q → IsEntryAtPosition old q y → Contains now q × IsEntryAtPosition new q y
  stay-exchanged r x rf rb o was is here same q y ne on at =
      let beside = beside-of old refs (positions es) q y (held-beside old refs es held) on at in
      let stand = subst (λ l. StandBeside new l (positions ds)) is (held-beside new now ds holds) in
      let other = beside-exchanged new r x here rf rb o (positions ds) stand q y ne (subst (IsBeside q y (rf ++ (o ∷ rb))) (sym same) (subst (λ l. IsBeside q y l (positions es)) was beside)) in
      of-beside new now (positions ds) q y (held-beside new now ds holds) (subst (λ l. IsBeside q y l (positions ds)) (sym is) other)

  -- where one came or took the place of another one, by whether its position was there
  pub stay-joined : (r : Ref) (x : Pos) (rf rb : List Ref) → now ≡ rf ++ (r ∷ rb) → (refs ≡ rf ++ rb) ⊎ ((o : Ref) × (refs ≡ rf ++ (o ∷ rb))) → IsEntryAtPosition new r x → AreAscending new now → (positions ds ≡ positions es) ⊎ IsPutAt x (positions es) (positions ds)
      → (q : Ref) (y : Pos) → y ≢ x → Contains refs q → IsEntryAtPosition old q y → Contains now q × IsEntryAtPosition new q y
  stay-joined r x rf rb is (inl was) here a (inr put) q y ne on at = stay-put r x rf rb was is here a put q y on at
  stay-joined r x rf rb is (inr was) here a (inl same) q y ne on at = stay-exchanged r x rf rb was.0 was.1 is here same q y ne on at
  stay-joined r x rf rb is (inl was) here a (inl same) q y ne on at =
      let before : length (rf ++ rb) ≡ length (positions es) = sym (ap (λ (l : List Ref). length l) was) ∙ beside-length old refs (positions es) (held-beside old refs es held) in
      let after : suc (length (rf ++ rb)) ≡ length (positions ds) = sym (length-with rf rb r) ∙ sym (ap (λ (l : List Ref). length l) is) ∙ beside-length new now (positions ds) (held-beside new now ds holds) in
      absurd (omega (arith, before, after, ap (λ (l : List Pos). length l) same))
  stay-joined r x rf rb is (inr was) here a (inr put) q y ne on at =
      let before : suc (length (rf ++ rb)) ≡ length (put.0 ++ put.1) = sym (length-with rf rb was.0) ∙ sym (ap (λ (l : List Ref). length l) was.1) ∙ beside-length old refs (positions es) (held-beside old refs es held) ∙ ap (λ (l : List Pos). length l) put.2 in
      let after : suc (length (rf ++ rb)) ≡ suc (length (put.0 ++ put.1)) = sym (length-with rf rb r) ∙ sym (ap (λ (l : List Ref). length l) is) ∙ beside-length new now (positions ds) (held-beside new now ds holds) ∙ ap (λ (l : List Pos). length l) put.3 ∙ length-with put.0 put.1 x in
      absurd (omega (arith, before, after))

-- what an object holds it still holds
pub stay-held : (old new : View) (refs : List Ref) (es : List Entry) → HoldEntries old refs es → ((q : Ref) (e : Entry) → HoldsEntry old q e → HoldsEntry new q e) → (q : Ref) (y : Pos) → Contains refs q → IsEntryAtPosition old q y → IsEntryAtPosition new q y
stay-held old new [] es h keep q y on at = absurd (elem-none q on)
stay-held old new (r ∷ refs) [] h keep q y on at = absurd h
stay-held old new (r ∷ refs) (e ∷ es) h keep q y on at = elim (elem-cases r q refs on) [
  | inl same ↦
      let held = subst (λ z. HoldsEntry old z e) same h.0 in
      subst (IsEntryAtPosition new q) (stands-once old q e.position y (holds-stands old q e held) at) (holds-stands new q e (keep q e held))
  | inr later ↦ stay-held old new refs es h.1 keep q y later at
]
