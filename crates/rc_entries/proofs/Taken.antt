-- An entry is taken out, and its chain is found by its key no more.
use Rattle.std.proofs.Common.{inl, inr, ◌≡◌, ◌≢◌, ◌⊎◌, ℕ, true, false, cond, List, Option, Some, None, refl, sym, ap, ◌∙◌, subst}
use Rattle.std.specs.Option.{option_map}
use Rattle.std.specs.Ordering.{eq_by_cmp}
use Rattle.rc_position.specs.Position.{bytes_cmp}
use Rattle.rc_registry.specs.Registry.{IsNumberIn}
use Rattle.rc_memory.specs.Memory.{KeptChain, Memory, chain_at, on_shown, shown_detached}
use Rattle.rc_entries.specs.Found.{DoKeysAscend, entry_number}
use Rattle.rc_entries.specs.Entries.{AreEntries, AreSettled, IsCached}
use Rattle.rc_entries.specs.Detached.{IsDetached}
use Rattle.rc_entries.proofs.Keys.{key-differs, key-is, not-true}
use Rattle.rc_entries.proofs.Ways.{none-is-none, same-some, was-there}
use Rattle.rc_entries.proofs.Numbered.{chain-beside, changed-now, here-or-beside}
use Rattle.rc_entries.proofs.Leaving.{cached-same}

-- a chain of a number is there, or it is not
pub there-or-not : {P : Type 0} (c : Option KeptChain) → (c ≡ None → P) → ((k : KeptChain) → c ≡ Some k → P) → P
there-or-not None none some = none refl
there-or-not (Some k) none some = some k refl

module _ (id : ℕ) (old new : Memory) (d : IsDetached id old new) where
  pub detached-beside : (i : ℕ) → i ≢ id → chain_at new i ≡ chain_at old i
  detached-beside i ne = there-or-not (chain_at old id) (λ e. ap (λ (m : Memory). chain_at m i) (d.gone e)) (λ k e. chain-beside old new id (option_map (on_shown shown_detached) (chain_at old id)) (d.there k e).2.chains i ne)

  detached-told : new.dropped ≡ old.dropped
  detached-told = there-or-not (chain_at old id) (λ e. ap (λ (m : Memory). m.dropped) (d.gone e)) (λ k e. (d.there k e).2.dropped)

  detached-found : IsCached new id → ⊥
  detached-found c = there-or-not (chain_at old id)
      (λ e. none-is-none c.kept (sym (ap (λ (m : Memory). chain_at m id) (d.gone e) ∙ e) ∙ c.there))
      (λ k e. let now : on_shown shown_detached k ≡ c.kept = same-some (on_shown shown_detached k) c.kept (sym (changed-now old new id (on_shown shown_detached) (d.there k e).2.chains k e) ∙ c.there) in
      let f : false ≡ true = ap (λ (q : KeptChain). q.chain.attached) now ∙ c.attached in absurd (cc))

  pub taken-settled : (entries less : List (List ℕ × ℕ)) (key : List ℕ) → ((q : List ℕ) → entry_number less q ≡ cond (eq_by_cmp bytes_cmp key q) None (entry_number entries q)) → AreSettled entries old → AreSettled less new
  taken-settled entries less key f h q i e on = h q i (was-there (eq_by_cmp bytes_cmp key q) (entry_number entries q) i (sym (f q) ∙ e)).1 (subst (λ ns. IsNumberIn ns i) detached-told on)

  module _ (entries less : List (List ℕ × ℕ)) (key : List ℕ) (a : AreEntries entries old) (found : entry_number entries key ≡ Some id) (f : (q : List ℕ) → entry_number less q ≡ cond (eq_by_cmp bytes_cmp key q) None (entry_number entries q)) where
    -- what is left are other keys, and their numbers are others
    pub left-others : (q : List ℕ) (i : ℕ) → entry_number less q ≡ Some i → (i ≢ id) × (entry_number entries q ≡ Some i)
    left-others q i e = let was = was-there (eq_by_cmp bytes_cmp key q) (entry_number entries q) i (sym (f q) ∙ e) in
        ((λ same. key-differs key q was.0 (a.apart key q id found (was.1 ∙ ap Some same))), was.1)

    left-kept : (q : List ℕ) (i : ℕ) → i ≢ id → entry_number entries q ≡ Some i → IsCached new i ⊎ IsNumberIn new.dropped i
    left-kept q i ne e = elim (a.kept q i e) [ inl c ↦ inl (cached-same old new i (detached-beside i ne) c) | inr on ↦ inr (subst (λ ns. IsNumberIn ns i) (sym detached-told) on) ]

    left-found : (i : ℕ) → i ≢ id → IsCached new i → (q : List ℕ) × (entry_number less q ≡ Some i)
    left-found i ne c = let was = a.all i (cached-same new old i (sym (detached-beside i ne)) c) in
        (was.0, f was.0 ∙ ap (λ b. cond b None (entry_number entries was.0)) (not-true (eq_by_cmp bytes_cmp key was.0) (λ t. ne (same-some i id (sym was.1 ∙ sym (ap (entry_number entries) (key-is key was.0 t)) ∙ found)))) ∙ was.1)

    pub taken-entries : DoKeysAscend less → AreEntries less new
    taken-entries ascend = record {
      ascend = ascend;
      apart = λ q other i e g. a.apart q other i (left-others q i e).1 (left-others other i g).1;
      kept = λ q i e. let was = left-others q i e in left-kept q i was.0 was.1;
      all = λ i. here-or-beside (λ n. IsCached new n → (q : List ℕ) × (entry_number less q ≡ Some n)) id i (λ c. absurd (detached-found c)) (λ ne c. left-found i ne c);
    }
