-- The numbers of chains by key, with one put in and taken out again.
use Rattle.std.proofs.Common.{◌≡◌, ℕ, true, false, cond, List, [], ◌∷◌, Some, None, refl, ap, ◌∙◌}
use Rattle.std.specs.Map.{remove_entry}
use Rattle.std.specs.BTreeMap.{insert_entry, is_at}
use Rattle.std.specs.Ordering.{is_eq, match_ordering}
use Rattle.std.specs.declared.cmp.Ordering.TheVariants.{Less, Equal, Greater}
use Rattle.rc_position.specs.Position.{bytes_cmp}
use Rattle.rc_memtable.specs.Writes.{chain_of}
use Rattle.rc_memtable.proofs.Named.{key-itself}

module _ (key : List ℕ) where
  removed-first : (e : List ℕ × ℕ) (es : List (List ℕ × ℕ)) → is_at (bytes_cmp key) e.0 ≡ true → remove_entry (is_at (bytes_cmp key)) (e ∷ es) ≡ es
  removed-first e es here = ap (λ b. cond b es (e ∷ remove_entry (is_at (bytes_cmp key)) es)) here

  removed-later : (e : List ℕ × ℕ) (es : List (List ℕ × ℕ)) → is_at (bytes_cmp key) e.0 ≡ false → remove_entry (is_at (bytes_cmp key)) (e ∷ es) ≡ e ∷ remove_entry (is_at (bytes_cmp key)) es
  removed-later e es off = ap (λ b. cond b es (e ∷ remove_entry (is_at (bytes_cmp key)) es)) off

  -- what was put in where the key had nothing is taken out again
  pub put-and-taken : (v : ℕ) (es : List (List ℕ × ℕ)) → chain_of es key ≡ None → remove_entry (is_at (bytes_cmp key)) (insert_entry bytes_cmp es key v) ≡ es
  put-and-taken v [] h = removed-first (key, v) [] (key-itself key)
  put-and-taken v (e ∷ es) h = elim (bytes_cmp key e.0) as
      (λ r. bytes_cmp key e.0 ≡ r → cond (is_eq r) (Some e.1) (chain_of es key) ≡ None → remove_entry (is_at (bytes_cmp key)) (match_ordering r ((key, v) ∷ e ∷ es) ((e.0, v) ∷ es) (e ∷ insert_entry bytes_cmp es key v)) ≡ e ∷ es) [
        | Less ↦ λ q k. removed-first (key, v) (e ∷ es) (key-itself key)
        | Equal ↦ λ q k. absurd (cc)
        | Greater ↦ λ q k. removed-later e (insert_entry bytes_cmp es key v) (ap is_eq q) ∙ ap (λ (l : List (List ℕ × ℕ)). e ∷ l) (put-and-taken v es k)
      ] refl h
