-- The index in both directions stays one, where a key comes with its number and where both go.
use Rattle.std.proofs.Common.{◌≡◌, ℕ, Bool, true, false, cond, List, [], ◌∷◌, Option, Some, None, nat_eq, refl, sym, ap, ◌∙◌, subst, inl, inr}
use Rattle.std.specs.Ordering.{eq_by_cmp}
use Rattle.rc_position.specs.Position.{bytes_cmp}
use Rattle.rc_entries.specs.Found.{IsForgotten, entry_number}
use Rattle.rc_entries.specs.calls.Index.{IsIndex, entry_key}
use Rattle.rc_entries.proofs.Keys.{by-test, key-differs, key-is, key-itself, not-true, number-differs, number-is, number-itself}

module _ {X : Type 0} where
  pub same-some : (x y : X) → Some x ≡ Some y → x ≡ y
  same-some x y e = cc

  pub none-is-none : (x : X) → None ≡ Some x → ⊥
  none-is-none x e = cc

  -- what is there where something was taken out was there
  pub was-there : (b : Bool) (o : Option X) (x : X) → cond b None o ≡ Some x → (b ≡ false) × (o ≡ Some x)
  was-there true o x e = absurd (none-is-none x e)
  was-there false o x e = (refl, e)

  pub none-or : (o : Option X) → ((x : X) → o ≡ Some x → ⊥) → o ≡ None
  none-or None no_way = refl
  none-or (Some x) no_way = absurd (no_way x refl)

-- no two keys have one number
pub index-apart : (numbers : List (List ℕ × ℕ)) (keys : List (ℕ × List ℕ)) → IsIndex numbers keys → (key other : List ℕ) (id : ℕ) → entry_number numbers key ≡ Some id → entry_number numbers other ≡ Some id → key ≡ other
index-apart numbers keys h key other id e f = same-some key other (sym (h.there key id e) ∙ h.there other id f)

module _ (numbers less : List (List ℕ × ℕ)) (keys fewer : List (ℕ × List ℕ)) (key : List ℕ) (id : ℕ) (h : IsIndex numbers keys) (found : entry_number numbers key ≡ Some id)
    (f : (q : List ℕ) → entry_number less q ≡ cond (eq_by_cmp bytes_cmp key q) None (entry_number numbers q)) where
  -- the number of another key is another one
  pub other-number : (q : List ℕ) (i : ℕ) → eq_by_cmp bytes_cmp key q ≡ false → entry_number numbers q ≡ Some i → nat_eq id i ≡ false
  other-number q i beside e = not-true (nat_eq id i) (λ same. key-differs key q beside (same-some key q (sym (h.there key id found) ∙ ap (entry_key keys) (number-is id i same) ∙ h.there q i e)))

  -- and a number that is another one is that of another key
  pub other-key : (q : List ℕ) (i : ℕ) → nat_eq id i ≡ false → entry_number numbers q ≡ Some i → eq_by_cmp bytes_cmp key q ≡ false
  other-key q i beside e = not-true (eq_by_cmp bytes_cmp key q) (λ same. number-differs id i beside (same-some id i (sym found ∙ ap (entry_number numbers) (key-is key q same) ∙ e)))

  pub index-less : ((i : ℕ) → entry_key fewer i ≡ cond (nat_eq id i) None (entry_key keys i)) → IsIndex less fewer
  index-less g = record {
    there = λ q i e. let was = was-there (eq_by_cmp bytes_cmp key q) (entry_number numbers q) i (sym (f q) ∙ e) in
        g i ∙ ap (λ b. cond b None (entry_key keys i)) (other-number q i was.0 was.1) ∙ h.there q i was.1;
    back = λ q i e. let was = was-there (nat_eq id i) (entry_key keys i) q (sym (g i) ∙ e) in
        f q ∙ ap (λ b. cond b None (entry_number numbers q)) (other-key q i was.0 (h.back q i was.1)) ∙ h.back q i was.1;
  }

  -- so the entry of a number is no more, and all others are there
  pub less-forgotten : IsForgotten (id ∷ []) numbers less
  less-forgotten = record {
    stays = λ q i e ne. f q ∙ ap (λ b. cond b None (entry_number numbers q)) (other-key q i (not-true (nat_eq id i) (λ same. ne (inl (number-is id i same)))) e) ∙ e;
    left = λ q i e. let was = was-there (eq_by_cmp bytes_cmp key q) (entry_number numbers q) i (sym (f q) ∙ e) in
        (was.1, λ on. elim on [ inl same ↦ number-differs id i (other-number q i was.0 was.1) same | inr none ↦ none ]);
  }

-- a key that has no number comes, with one that no key has
module _ (numbers more : List (List ℕ × ℕ)) (keys greater : List (ℕ × List ℕ)) (key : List ℕ) (id : ℕ) (h : IsIndex numbers keys) (absent : entry_number numbers key ≡ None) (free : entry_key keys id ≡ None)
    (f : (q : List ℕ) → entry_number more q ≡ cond (eq_by_cmp bytes_cmp key q) (Some id) (entry_number numbers q)) (g : (i : ℕ) → entry_key greater i ≡ cond (nat_eq id i) (Some key) (entry_key keys i)) where
  pub index-more : IsIndex more greater
  index-more = record {
    there = λ q i e. by-test (entry_key greater i ≡ Some q) (eq_by_cmp bytes_cmp key q)
        (λ t. let same : id ≡ i = same-some id i (sym (f q ∙ ap (λ b. cond b (Some id) (entry_number numbers q)) t) ∙ e) in
        g i ∙ ap (λ b. cond b (Some key) (entry_key keys i)) (subst (λ n. nat_eq id n ≡ true) same (number-itself id)) ∙ ap Some (key-is key q t))
        (λ n. let was : entry_number numbers q ≡ Some i = sym (f q ∙ ap (λ b. cond b (Some id) (entry_number numbers q)) n) ∙ e in
        g i ∙ ap (λ b. cond b (Some key) (entry_key keys i)) (not-true (nat_eq id i) (λ t. none-is-none q (sym free ∙ ap (entry_key keys) (number-is id i t) ∙ h.there q i was))) ∙ h.there q i was);
    back = λ q i e. by-test (entry_number more q ≡ Some i) (nat_eq id i)
        (λ t. let same : key ≡ q = same-some key q (sym (g i ∙ ap (λ b. cond b (Some key) (entry_key keys i)) t) ∙ e) in
        f q ∙ ap (λ b. cond b (Some id) (entry_number numbers q)) (subst (λ (k : List ℕ). eq_by_cmp bytes_cmp key k ≡ true) same (key-itself key)) ∙ ap Some (number-is id i t))
        (λ n. let was : entry_key keys i ≡ Some q = sym (g i ∙ ap (λ b. cond b (Some key) (entry_key keys i)) n) ∙ e in
        f q ∙ ap (λ b. cond b (Some id) (entry_number numbers q)) (not-true (eq_by_cmp bytes_cmp key q) (λ t. none-is-none i (sym absent ∙ ap (entry_number numbers) (key-is key q t) ∙ h.back q i was))) ∙ h.back q i was);
  }

-- numbers and keys that say the same are an index, too
pub index-same : (numbers now : List (List ℕ × ℕ)) (keys other : List (ℕ × List ℕ)) → IsIndex numbers keys → now ≡ numbers → ((i : ℕ) → entry_key other i ≡ entry_key keys i) → IsIndex now other
index-same numbers now keys other h same g = record {
  there = λ q i e. g i ∙ h.there q i (subst (λ (es : List (List ℕ × ℕ)). entry_number es q ≡ Some i) same e);
  back = λ q i e. subst (λ (es : List (List ℕ × ℕ)). entry_number es q ≡ Some i) (sym same) (h.back q i (sym (g i) ∙ e));
}
