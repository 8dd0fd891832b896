-- The chains of the sealed writes are let go, one after another.
use Rattle.std.proofs.Common.{inl, inr, ◌≡◌, ℕ, cond, List, [], ◌∷◌, Some, None, map, refl, sym, ap, ◌∙◌, subst}
use Rattle.std.specs.Option.{option_map}
use Rattle.std.specs.Prelude.{⊤}
use Rattle.std.specs.List.{AllByRecursion}
use Rattle.std.proofs.lemmas.Map.Keys.{sorted_head, sorted_tail}
use Rattle.std.specs.declared.cmp.Ordering.TheVariants.{Less}
use Rattle.std.specs.Ordering.{eq_by_cmp, is_eq}
use Rattle.rc_position.specs.Position.{bytes_cmp}
use Rattle.rc_schema.specs.SchemaValue.{SchemaValue}
use Rattle.rc_mutation.specs.declared.mutations.Write.{Write}
use Rattle.rc_memory.specs.Memory.{KeptChain, Memory, chain_at, on_shown, shown_detached}
use Rattle.rc_memory.specs.laws.Places.{no_some}
use Rattle.rc_memtable.specs.LetGo.{AreLetGo, IsLetGo}
use Rattle.rc_memtable.specs.Writes.{DoAscend, HasWrites, chain_of}
use Rattle.rc_unstored.specs.declared.unstored.Unstored.{Unstored}
use Rattle.rc_unstored.specs.Memtables.{HaveWrites}
use Rattle.rc_snapshots.specs.Seeing.{NothingIsLost}
use Rattle.rc_snapshots.specs.laws.Seeing.{lost-then}
use Rattle.rc_unstored.proofs.Chains.{chain-beside, chain-done, same-or-not}
use Rattle.rc_unstored.proofs.Keeping.{beside-has, both_in, either, key-is, key-itself, none-found}
use Rattle.rc_unstored.proofs.Pins.{KeptIn, all-seen, chains-same, detached-in, free-in, same-in}

-- ---- one chain

module _ (id : ℕ) (m n : Memory) (k : KeptChain) (there : chain_at m id ≡ Some k) (h : IsLetGo id m n) where
  pub gone-beside : (i : ℕ) → (i ≡ id → ⊥) → chain_at n i ≡ chain_at m i
  gone-beside i ne = elim (h k there) [
    | inl gone ↦ chain-beside m n id None i gone.1.chains ne
    | inr kept ↦ chain-beside m n id (option_map (on_shown shown_detached) (chain_at m id)) i kept.1.chains ne
  ]

  gone-itself : KeptIn (chain_at m id) (chain_at n id)
  gone-itself = elim (h k there) [
    | inl gone ↦ free-in (chain_at m id) (chain_at n id) k there gone.0
    | inr kept ↦ subst (KeptIn (chain_at m id)) (sym (chain-done m n id (on_shown shown_detached) kept.1.chains)) (detached-in (chain_at m id))
  ]

  each-chain : (i : ℕ) → KeptIn (chain_at m i) (chain_at n i)
  each-chain i = elim (same-or-not i id) [
    | inl same ↦ subst (λ (j : ℕ). KeptIn (chain_at m j) (chain_at n j)) (sym same) gone-itself
    | inr ne ↦ same-in (chain_at m i) (chain_at n i) (gone-beside i ne)
  ]

  pub gone-seen : NothingIsLost m n
  gone-seen = all-seen m n each-chain

-- ---- keys, each once

-- no key stands twice among these
abbrev pub AreKeysOnce : List (List ℕ × ℕ) → Type 0
AreKeysOnce [] = ⊤
AreKeysOnce (e ∷ es) = (chain_of es e.0 ≡ None) × AreKeysOnce es

none-behind : (key : List ℕ) (es : List (List ℕ × ℕ)) → AllByRecursion (λ y. bytes_cmp key y ≡ Less) (map (λ e. e.0) es) → chain_of es key ≡ None
none-behind key [] h = refl
none-behind key (e ∷ es) h = ap (λ r. cond (is_eq r) (Some e.1) (chain_of es key)) h.0 ∙ none-behind key es h.1

once-of : (es : List (List ℕ × ℕ)) → DoAscend es → AreKeysOnce es
once-of [] h = tt
once-of (e ∷ es) h = (none-behind e.0 es (sorted_head bytes_cmp e.0 (map (λ e. e.0) es) h), once-of es (sorted_tail bytes_cmp e.0 (map (λ e. e.0) es) h))

pub first-of : (e : List ℕ × ℕ) (es : List (List ℕ × ℕ)) → chain_of (e ∷ es) e.0 ≡ Some e.1
first-of e es = ap (λ b. cond b (Some e.1) (chain_of es e.0)) (key-itself e.0)

-- where it stands for no write it has no key
pub nothing-kept : (schema : SchemaValue) (es : List (List ℕ × ℕ)) (m : Memory) → HasWrites schema es m [] → es ≡ []
nothing-kept schema [] m h = refl
nothing-kept schema (e ∷ es) m h = absurd (none-found schema (e ∷ es) m h e.0 e.1 (first-of e es))

later-of : (e : List ℕ × ℕ) (es : List (List ℕ × ℕ)) → chain_of es e.0 ≡ None → (key : List ℕ) (i : ℕ) → chain_of es key ≡ Some i → chain_of (e ∷ es) key ≡ Some i
later-of e es once key i f = either (chain_of (e ∷ es) key ≡ Some i) (eq_by_cmp bytes_cmp key e.0)
    (λ same. absurd (no_some i (sym once ∙ ap (chain_of es) (sym (key-is key e.0 same)) ∙ f)))
    (λ off. ap (λ b. cond b (Some e.1) (chain_of es key)) off ∙ f)

-- ---- all of them

-- each key has a chain of its own, and stands there once
pub record AreTheirs (es : List (List ℕ × ℕ)) (m : Memory) : Type 0 where
  pub once : AreKeysOnce es
  pub there : (key : List ℕ) (id : ℕ) → chain_of es key ≡ Some id → (k : KeptChain) × (chain_at m id ≡ Some k)
  pub apart : (key other : List ℕ) (id : ℕ) → chain_of es key ≡ Some id → chain_of es other ≡ Some id → key ≡ other

module _ (e : List ℕ × ℕ) (es : List (List ℕ × ℕ)) (m n : Memory) (a : AreTheirs (e ∷ es) m) (h : IsLetGo e.1 m n) where
  apart-from : (key : List ℕ) (id : ℕ) → chain_of es key ≡ Some id → id ≡ e.1 → ⊥
  apart-from key id f same =
      let one : key ≡ e.0 = a.apart key e.0 id (later-of e es a.once.0 key id f) (first-of e es ∙ ap Some (sym same)) in
      no_some id (sym a.once.0 ∙ ap (chain_of es) (sym one) ∙ f)

  pub theirs-then : AreTheirs es n
  theirs-then = record {
    once = a.once.1;
    there = λ key id f. let k = a.there key id (later-of e es a.once.0 key id f) in let first = a.there e.0 e.1 (first-of e es) in (k.0, gone-beside e.1 m n first.0 first.1 h id (apart-from key id f) ∙ k.1);
    apart = λ key other id f g. a.apart key other id (later-of e es a.once.0 key id f) (later-of e es a.once.0 other id g);
  }

pub all-beside : (es : List (List ℕ × ℕ)) (m n : Memory) → AreTheirs es m → AreLetGo (map (λ e. e.1) es) m n → (i : ℕ) → ((key : List ℕ) → chain_of es key ≡ Some i → ⊥) → chain_at n i ≡ chain_at m i
all-beside [] m n a h i off = ap (λ (q : Memory). chain_at q i) h
all-beside (e ∷ es) m n a h i off =
    let first = a.there e.0 e.1 (first-of e es) in
    all-beside es h.0 n (theirs-then e es m h.0 a h.1) h.2 i (λ key f. off key (later-of e es a.once.0 key i f))
    ∙ gone-beside e.1 m h.0 first.0 first.1 h.1 i (λ same. off e.0 (first-of e es ∙ ap Some (sym same)))

pub all-gone-seen : (es : List (List ℕ × ℕ)) (m n : Memory) → AreTheirs es m → AreLetGo (map (λ e. e.1) es) m n → NothingIsLost m n
all-gone-seen [] m n a h = (chains-same m n (λ i. ap (λ (q : Memory). chain_at q i) h)).alike
all-gone-seen (e ∷ es) m n a h =
    let first = a.there e.0 e.1 (first-of e es) in
    lost-then m h.0 n (gone-seen e.1 m h.0 first.0 first.1 h.1) (all-gone-seen es h.0 n (theirs-then e es m h.0 a h.1) h.2)

-- ---- the sealed writes go

pub theirs-of : (schema : SchemaValue) (es : List (List ℕ × ℕ)) (m : Memory) (writes : List Write) → DoAscend es → HasWrites schema es m writes → AreTheirs es m
theirs-of schema es m writes ascend h = record { once = once-of es ascend; there = λ key id e. let k = h.kept key id e in (k.0, k.1); apart = h.apart }

pub both-dropped : {S : ℕ} (schema : SchemaValue) (u : Unstored S) (n : Memory) (none : List (List ℕ × ℕ)) (writes later : List Write) → DoAscend u.sealed → AreLetGo (map (λ e. e.1) u.sealed) u.chains n → HasWrites schema none n [] →
    HaveWrites schema u writes later → HaveWrites schema (both_in S n none u.active) [] later
both-dropped schema u n none writes later ascend gone nothing h = record {
  sealed = nothing;
  active = beside-has schema u.active u.chains n later (λ key id e. all-beside u.sealed u.chains n (theirs-of schema u.sealed u.chains writes ascend h.sealed) gone id (λ other f. h.apart other key id f e)) h.active;
  apart = λ key other id e f. none-found schema none n nothing key id e;
}
