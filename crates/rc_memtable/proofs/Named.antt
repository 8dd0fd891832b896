-- What is written of each partition, with one write more.
use Rattle.std.proofs.Common.{◌≡◌, ◌≢◌, ℕ, Bool, true, false, cond, List, [], ◌∷◌, ◌++◌, map, filter, refl, sym, ap, ◌∙◌, subst}
use Rattle.std.specs.Prelude.{◌||◌}
use Rattle.std.specs.Ordering.{eq_by_cmp, is_eq}
use Rattle.std.specs.Cmp.{eq_by_cmp_equiv}
use Rattle.std.specs.declared.cmp.Ordering.{Ordering}
use Rattle.std.specs.declared.cmp.Ordering.TheVariants.{Less, Equal, Greater}
use Rattle.rc_position.specs.Position.{bytes_cmp}
use Rattle.rc_position.specs.laws.Orders.{bytes_cmp_same, bytes_cmp_total}
use Rattle.rc_mutation.specs.declared.mutations.Write.{Write}
use Rattle.rc_mutation.specs.Source.{changes_to}
use Rattle.rc_memtable.specs.Writes.{names}

equal-is : (r : Ordering) → is_eq r ≡ true → r ≡ Equal
equal-is Less e = absurd (cc)
equal-is Equal e = refl
equal-is Greater e = absurd (cc)

-- keys that compare equal are the same
pub key-is : (key q : List ℕ) → eq_by_cmp bytes_cmp key q ≡ true → key ≡ q
key-is key q e = bytes_cmp_same key q (equal-is (bytes_cmp key q) e)

pub key-itself : (key : List ℕ) → eq_by_cmp bytes_cmp key key ≡ true
key-itself key = (eq_by_cmp_equiv bytes_cmp_total).refl key

-- keys that do not are two
pub key-differs : (key q : List ℕ) → eq_by_cmp bytes_cmp key q ≡ false → key ≢ q
key-differs key q e same = let t : eq_by_cmp bytes_cmp key q ≡ true = subst (λ (k : List ℕ). eq_by_cmp bytes_cmp key k ≡ true) same (key-itself key) in let f : true ≡ false = sym t ∙ e in absurd (cc)

-- whether two keys compare equal
pub key-or-not : (P : Type 0) (b : Bool) → (b ≡ true → P) → (b ≡ false → P) → P
key-or-not P true t f = t refl
key-or-not P false t f = f refl

-- the writes to a key
abbrev of_key : List ℕ → List Write → List Write
of_key key writes = filter (λ (u : Write). eq_by_cmp bytes_cmp u.key key) writes

-- a function of a choice is a choice of what it gives
of-choice : {A B : Type 0} (f : A → B) (b : Bool) (x y : A) → f (cond b x y) ≡ cond b (f x) (f y)
of-choice f true x y = refl
of-choice f false x y = refl

-- what is written of a key, with a write behind
pub changes-more : (key : List ℕ) (writes : List Write) (w : Write) → changes_to key (writes ++ w ∷ []) ≡ cond (eq_by_cmp bytes_cmp w.key key) (changes_to key writes ++ w.change ∷ []) (changes_to key writes)
changes-more key [] w = of-choice (map (λ (u : Write). u.change)) (eq_by_cmp bytes_cmp w.key key) (w ∷ []) []
changes-more key (v ∷ vs) w = elim (eq_by_cmp bytes_cmp v.key key) as
    (λ b. map (λ (u : Write). u.change) (cond b (v ∷ of_key key (vs ++ w ∷ [])) (of_key key (vs ++ w ∷ [])))
    ≡ cond (eq_by_cmp bytes_cmp w.key key) (map (λ (u : Write). u.change) (cond b (v ∷ of_key key vs) (of_key key vs)) ++ w.change ∷ []) (map (λ (u : Write). u.change) (cond b (v ∷ of_key key vs) (of_key key vs)))) [
      | true ↦ ap (λ cs. v.change ∷ cs) (changes-more key vs w) ∙ of-choice (λ cs. v.change ∷ cs) (eq_by_cmp bytes_cmp w.key key) (changes_to key vs ++ w.change ∷ []) (changes_to key vs)
      | false ↦ changes-more key vs w
    ]

pub names-more : (key : List ℕ) (writes : List Write) (w : Write) → names key (writes ++ w ∷ []) ≡ cond (eq_by_cmp bytes_cmp w.key key) true (names key writes)
names-more key [] w = elim (eq_by_cmp bytes_cmp w.key key) as (λ b. (b || false) ≡ cond b true false) [ true ↦ refl | false ↦ refl ]
names-more key (v ∷ vs) w = elim (eq_by_cmp bytes_cmp v.key key) as (λ b. (b || names key (vs ++ w ∷ [])) ≡ cond (eq_by_cmp bytes_cmp w.key key) true (b || names key vs)) [
  | true ↦ elim (eq_by_cmp bytes_cmp w.key key) as (λ b. true ≡ cond b true true) [ true ↦ refl | false ↦ refl ]
  | false ↦ names-more key vs w
]

-- nothing is written of a key that no write names
pub unnamed : (key : List ℕ) (writes : List Write) → names key writes ≡ false → changes_to key writes ≡ []
unnamed key [] h = refl
unnamed key (v ∷ vs) h = elim (eq_by_cmp bytes_cmp v.key key) as (λ b. (b || names key vs) ≡ false → map (λ (u : Write). u.change) (cond b (v ∷ of_key key vs) (of_key key vs)) ≡ []) [
  | true ↦ λ e. absurd (cc)
  | false ↦ λ e. unnamed key vs e
] h
