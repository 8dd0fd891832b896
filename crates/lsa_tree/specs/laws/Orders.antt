-- Entries in the order of their positions.
use Rattle.std.proofs.Common.{◌≡◌, ℕ, ◌+◌, ◌≤◌, List, [], ◌∷◌, ◌++◌, length, Option, Some, None, inl, inr, refl, sym, ap, ◌∙◌, subst, map, arith}
use Rattle.std.specs.Prelude.{IsSomeAnd, Contains}
use Rattle.std.specs.List.{AllByRecursion}
use Rattle.std.specs.declared.cmp.Ordering.TheVariants.{Less, Equal, Greater}
use Rattle.std.specs.Ordering.{ordering_reverse}
use Rattle.std.specs.Cmp.{tied_itself}
use Rattle.std.proofs.lemmas.List.{append-nil}
use Rattle.std.proofs.lemmas.List.Elements.{Contains-append_cases}
use Rattle.rc_position.specs.declared.positions.Pos.{Pos}
use Rattle.rc_position.specs.Position.{pos_cmp, IsBefore}
use Rattle.rc_position.specs.laws.Orders.{pos_cmp_total}
use Rattle.rc_rowcode.specs.Spelling.{pos_code, IsPos}
use Rattle.rc_rowcode.specs.laws.Codecs.{pos_codec}
use Rattle.rc_rowcode.specs.laws.Read.{one_spelling}
use Rattle.lsa_kinds.specs.declared.kind.Kind.{Kind}
use Rattle.lsa_kinds.specs.Fields.{number_at}
use Rattle.lsa_region.specs.Ref.{Ref}
use Rattle.lsa_region.specs.Region.{View, body}
use Rattle.lsa_shape.specs.Members.{member-cases, member-first, member-later}
use Rattle.lsa_tree.specs.Entries.{SpellsEntryAt, position_in, IsEntryAtPosition, StandsEarlier, StandsLater, BelongsBetween, AreAscending}

-- ---- all of a list

pub all-front : {X : Type 0} (P : X → Type 0) (xs ys : List X) → AllByRecursion P (xs ++ ys) → AllByRecursion P xs
all-front P [] ys h = tt
all-front P (x ∷ xs) ys h = (h.0, all-front P xs ys h.1)

pub all-back : {X : Type 0} (P : X → Type 0) (xs ys : List X) → AllByRecursion P (xs ++ ys) → AllByRecursion P ys
all-back P [] ys h = h
all-back P (x ∷ xs) ys h = all-back P xs ys h.1

pub all-both : {X : Type 0} (P : X → Type 0) (xs ys : List X) → AllByRecursion P xs → AllByRecursion P ys → AllByRecursion P (xs ++ ys)
all-both P [] ys h k = k
all-both P (x ∷ xs) ys h k = (h.0, all-both P xs ys h.1 k)

pub all-without : {X : Type 0} (P : X → Type 0) (xs ys : List X) (r : X) → AllByRecursion P (xs ++ (r ∷ ys)) → AllByRecursion P (xs ++ ys)
all-without P [] ys r h = h.1
all-without P (x ∷ xs) ys r h = (h.0, all-without P xs ys r h.1)

pub all-with : {X : Type 0} (P : X → Type 0) (xs ys : List X) (r : X) → P r → AllByRecursion P (xs ++ ys) → AllByRecursion P (xs ++ (r ∷ ys))
all-with P [] ys r here h = (here, h)
all-with P (x ∷ xs) ys r here h = (h.0, all-with P xs ys r here h.1)

pub all-mapped : {X : Type 0} (P Q : X → Type 0) (xs : List X) → ((x : X) → P x → Q x) → AllByRecursion P xs → AllByRecursion Q xs
all-mapped P Q [] f h = tt
all-mapped P Q (x ∷ xs) f h = (f x h.0, all-mapped P Q xs f h.1)

-- with what holds of each member
pub all-members : (P Q : Ref → Type 0) (xs : List Ref) → ((r : Ref) → Contains xs r → P r → Q r) → AllByRecursion P xs → AllByRecursion Q xs
all-members P Q [] f h = tt
all-members P Q (x ∷ xs) f h = (f x (member-first x xs) h.0, all-members P Q xs (λ r later. f r (member-later x r xs later)) h.1)

pub all-at : (P : Ref → Type 0) (xs : List Ref) (r : Ref) → AllByRecursion P xs → Contains xs r → P r
all-at P [] r h c = absurd (omega (arith, c.1))
all-at P (x ∷ xs) r h c = elim (member-cases x r xs c) [ inl same ↦ subst P same h.0 | inr later ↦ all-at P xs r h.1 later ]

-- ---- positions

never-before : (x : Pos) → IsBefore x x → ⊥
never-before x h = let clash : Less ≡ Equal = sym h ∙ tied_itself pos_cmp_total x in cc

pub before-trans : (x y z : Pos) → IsBefore x y → IsBefore y z → IsBefore x z
before-trans = pos_cmp_total.trans

pub not-both : (x y : Pos) → IsBefore x y → IsBefore y x → ⊥
not-both x y h k = never-before x (before-trans x y x h k)

pub greater-before : (x y : Pos) → pos_cmp y x ≡ Greater → IsBefore x y
greater-before x y e = pos_cmp_total.antisymm x y ∙ ap ordering_reverse e

-- an entry stands at one position
pub entry-once : (b : Kind × List ℕ) (x y : Pos) → SpellsEntryAt b x → SpellsEntryAt b y → x ≡ y
entry-once b x y h k = (one_spelling pos_codec x y [] [] h.place k.place (append-nil (pos_code x) ∙ sym h.code ∙ k.code ∙ sym (append-nil (pos_code y)))).0

entry_once : (o : Option (Kind × List ℕ)) (x y : Pos) → IsSomeAnd o (λ b. SpellsEntryAt b x) → IsSomeAnd o (λ b. SpellsEntryAt b y) → x ≡ y
entry_once None x y h k = absurd h
entry_once (Some b) x y h k = entry-once b x y h k

-- what the bytes of an entry spell
pub bytes-spell : (o : Option (Kind × List ℕ)) (x : Pos) (bytes : List ℕ) → IsSomeAnd o (λ b. SpellsEntryAt b x) → IsSomeAnd o (λ b. b.1 ≡ bytes) → (32 + number_at 28 4 bytes ≤ length bytes) × IsPos x × (position_in bytes ≡ pos_code x)
bytes-spell None x bytes h k = absurd h
bytes-spell (Some b) x bytes h k = (subst (λ l. 32 + number_at 28 4 l ≤ length l) k h.inside, h.place, subst (λ l. position_in l ≡ pos_code x) k h.code)

module _ (v : View) where
  pub stands-once : (r : Ref) (x y : Pos) → IsEntryAtPosition v r x → IsEntryAtPosition v r y → x ≡ y
  stands-once r x y h k = entry_once (body v r) x y h k

  pub before-at : (r : Ref) (x y : Pos) → IsEntryAtPosition v r x → StandsEarlier v r y → IsBefore x y
  before-at r x y h k = subst (λ z. IsBefore z y) (stands-once r k.0 x k.1 h) k.2

  pub behind-at : (r : Ref) (x y : Pos) → IsEntryAtPosition v r x → StandsLater v r y → IsBefore y x
  behind-at r x y h k = subst (λ z. IsBefore y z) (stands-once r k.0 x k.1 h) k.2

  -- what stands behind a position stands behind one before it
  pub all-further : (x y : Pos) (refs : List Ref) → IsBefore x y → AllByRecursion (λ r. StandsLater v r y) refs → AllByRecursion (λ r. StandsLater v r x) refs
  all-further x y refs less h = all-mapped (λ r. StandsLater v r y) (λ r. StandsLater v r x) refs (λ r k. (k.0, k.1, before-trans x y k.0 less k.2)) h

  -- ---- ascending entries

  pub ascending-back : (xs ys : List Ref) → AreAscending v (xs ++ ys) → AreAscending v ys
  ascending-back [] ys h = h
  ascending-back (x ∷ xs) ys h = ascending-back xs ys h.1

  pub ascending-without : (xs ys : List Ref) (r : Ref) → AreAscending v (xs ++ (r ∷ ys)) → AreAscending v (xs ++ ys)
  ascending-without [] ys r h = h.1
  ascending-without (x ∷ xs) ys r h = (
    (h.0.0, h.0.1, all-without (λ q. StandsLater v q h.0.0) xs ys r h.0.2),
    ascending-without xs ys r h.1,
  )

  -- one more where it belongs
  pub ascending-with : (xs ys : List Ref) (r : Ref) (x : Pos) → IsEntryAtPosition v r x → BelongsBetween v x xs ys → AreAscending v (xs ++ ys) → AreAscending v (xs ++ (r ∷ ys))
  ascending-with [] ys r x at fits h = ((x, at, fits.behind), h)
  ascending-with (z ∷ xs) ys r x at fits h = (
    (h.0.0, h.0.1, all-with (λ q. StandsLater v q h.0.0) xs ys r (x, at, before-at z h.0.0 x h.0.1 fits.before.0) h.0.2),
    ascending-with xs ys r x at (record { before = fits.before.1; behind = fits.behind }) h.1,
  )

  -- the entries beside one of them
  pub ascending-split : (xs ys : List Ref) (r : Ref) (x : Pos) → IsEntryAtPosition v r x → AreAscending v (xs ++ (r ∷ ys)) → BelongsBetween v x xs ys
  ascending-split [] ys r x at h = record { before = tt; behind = subst (λ y. AllByRecursion (λ q. StandsLater v q y) ys) (stands-once r h.0.0 x h.0.1 at) h.0.2 }
  ascending-split (z ∷ xs) ys r x at h =
      let rest = ascending-split xs ys r x at h.1 in
      record { before = ((h.0.0, h.0.1, behind-at r x h.0.0 at (all-back (λ q. StandsLater v q h.0.0) xs (r ∷ ys) h.0.2).0), rest.before); behind = rest.behind }

  pub ascending-stands : (refs : List Ref) (r : Ref) → AreAscending v refs → Contains refs r → (x : Pos) × IsEntryAtPosition v r x
  ascending-stands [] r h c = absurd (omega (arith, c.1))
  ascending-stands (z ∷ refs) r h c = elim (member-cases z r refs c) [ inl same ↦ subst (λ q. (x : Pos) × IsEntryAtPosition v q x) same (h.0.0, h.0.1) | inr later ↦ ascending-stands refs r h.1 later ]

  clash : (r : Ref) (x : Pos) → StandsEarlier v r x → StandsLater v r x → ⊥
  clash r x h k = not-both x h.0 (behind-at r h.0 x h.1 k) h.2

  -- a position belongs at one place
  pub belongs-once : (xs ys zs ws : List Ref) (x : Pos) → xs ++ ys ≡ zs ++ ws → BelongsBetween v x xs ys → BelongsBetween v x zs ws → xs ≡ zs
  belongs-once [] ys [] ws x e h k = refl
  belongs-once [] ys (z ∷ zs) ws x e h k = absurd (clash z x k.before.0 (subst (AllByRecursion (λ r. StandsLater v r x)) e h.behind).0)
  belongs-once (y ∷ xs) ys [] ws x e h k = absurd (clash y x h.before.0 (subst (AllByRecursion (λ r. StandsLater v r x)) (sym e) k.behind).0)
  belongs-once (y ∷ xs) ys (z ∷ zs) ws x e h k =
      let heads : y ≡ z = cc in let tails : xs ++ ys ≡ zs ++ ws = cc in
      ap (λ r. r ∷ xs) heads ∙ ap (λ l. z ∷ l) (belongs-once xs ys zs ws x tails (record { before = h.before.1; behind = h.behind }) (record { before = k.before.1; behind = k.behind }))

  -- where a position belongs no entry stands at it
  pub never-at : (x : Pos) (r : Ref) (refs : List Ref) → Contains refs r → (xs ys : List Ref) → refs ≡ xs ++ ys → BelongsBetween v x xs ys → IsEntryAtPosition v r x → ⊥
  never-at x r refs c xs ys is h at = elim (Contains-append_cases xs ys r (subst (λ l. Contains l r) is c)) [
    | inl front ↦ never-before x (before-at r x x at (all-at (λ q. StandsEarlier v q x) xs r h.before front))
    | inr back ↦ never-before x (behind-at r x x at (all-at (λ q. StandsLater v q x) ys r h.behind back))
  ]

-- ---- entries that stand at the same positions in another region, maybe under other names

module _ (v w : View) where
  -- each of these stands where it stood
  pub belongs-kept : (x : Pos) (xs ys : List Ref) → ((r : Ref) → Contains xs r → (at : Pos) → IsEntryAtPosition v r at → IsEntryAtPosition w r at) → ((r : Ref) → Contains ys r → (at : Pos) → IsEntryAtPosition v r at → IsEntryAtPosition w r at)
      → BelongsBetween v x xs ys → BelongsBetween w x xs ys
  belongs-kept x xs ys keep keep' h = record {
    before = all-members (λ r. StandsEarlier v r x) (λ r. StandsEarlier w r x) xs (λ r c k. (k.0, keep r c k.0 k.1, k.2)) h.before;
    behind = all-members (λ r. StandsLater v r x) (λ r. StandsLater w r x) ys (λ r c k. (k.0, keep' r c k.0 k.1, k.2)) h.behind;
  }

  pub ascending-kept : (refs : List Ref) → ((r : Ref) → Contains refs r → (at : Pos) → IsEntryAtPosition v r at → IsEntryAtPosition w r at) → AreAscending v refs → AreAscending w refs
  ascending-kept [] keep h = tt
  ascending-kept (z ∷ refs) keep h = (
    (h.0.0, keep z (member-first z refs) h.0.0 h.0.1, all-members (λ r. StandsLater v r h.0.0) (λ r. StandsLater w r h.0.0) refs (λ r c k. (k.0, keep r (member-later z r refs c) k.0 k.1, k.2)) h.0.2),
    ascending-kept refs (λ r c. keep r (member-later z r refs c)) h.1,
  )

  -- under other names
  pub ascending-named : (f : Ref → Ref) → ((r : Ref) (at : Pos) → IsEntryAtPosition v r at → IsEntryAtPosition w (f r) at) → (refs : List Ref) → AreAscending v refs → AreAscending w (map f refs)
  ascending-named f keep [] h = tt
  ascending-named f keep (z ∷ refs) h = ((h.0.0, keep z h.0.0 h.0.1, all_named h.0.0 refs h.0.2), ascending-named f keep refs h.1)
    where
      all_named : (y : Pos) (xs : List Ref) → AllByRecursion (λ r. StandsLater v r y) xs → AllByRecursion (λ r. StandsLater w r y) (map f xs)
      all_named y [] k = tt
      all_named y (x ∷ xs) k = ((k.0.0, keep x k.0.0 k.0.1, k.0.2), all_named y xs k.1)

  -- another one in the place of one of them
  pub ascending-replaced : (xs ys : List Ref) (r q : Ref) (x : Pos) → IsEntryAtPosition v r x → IsEntryAtPosition v q x → AreAscending v (xs ++ (r ∷ ys)) → AreAscending v (xs ++ (q ∷ ys))
  ascending-replaced xs ys r q x at also h = ascending-with v xs ys q x also (ascending-split v xs ys r x at h) (ascending-without v xs ys r h)
