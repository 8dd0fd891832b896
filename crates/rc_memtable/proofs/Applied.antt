-- What a memtable stands for: nothing at first, and one write more after each.
use Rattle.std.proofs.Common.{◌≡◌, ◌-◌, ℕ, true, false, cond, List, [], ◌∷◌, ◌++◌, Option, Some, None, is_some, length, refl, sym, ap, ◌∙◌, subst, slice_index_or, arith}
use Rattle.std.specs.Prelude.{◌||◌}
use Rattle.std.specs.Ordering.{eq_by_cmp}
use Rattle.lsa_region.specs.Region.{live_bytes}
use Rattle.rc_position.specs.Position.{bytes_cmp}
use Rattle.rc_schema.specs.SchemaValue.{SchemaValue}
use Rattle.rc_mutation.specs.declared.mutations.Mutation.{Mutation}
use Rattle.rc_mutation.specs.declared.mutations.Write.{Write}
use Rattle.rc_mutation.specs.Source.{changes_to}
use Rattle.rc_core.specs.declared.entries.ChainKind.TheVariants.{Memtable}
use Rattle.rc_core.specs.Chains.{IsPinned}
use Rattle.rc_core.specs.laws.Opening.{fresh-memtable}
use Rattle.rc_core.specs.laws.Written.{nothing-stands}
use Rattle.rc_memory.specs.Memory.{KeptChain, Memory, chain_at}
use Rattle.rc_memory.specs.laws.Places.{no_some, same_some}
use Rattle.rc_memory.specs.laws.Put.{put-at}
use Rattle.rc_memory.specs.laws.Still.{still-wider}
use Rattle.rc_chain.specs.Lives.{IsChainMade, chain_of_new}
use Rattle.rc_memtable.specs.Changes.{KeepsChanges}
use Rattle.rc_memtable.specs.Writes.{HasWrites, IsNewestPinned, TakesVersion, chain_of, names}
use Rattle.rc_memtable.specs.Steps.{AreOthersKept, IsApplied}
use Rattle.rc_memtable.specs.calls.Steps.{IsChangeWritten, chains_bytes}
use Rattle.rc_memtable.proofs.Fitting.{new-fits}
use Rattle.rc_memtable.proofs.Grown.{DiffersBy, made-differs}
use Rattle.rc_memtable.proofs.Named.{changes-more, key-differs, key-is, key-itself, key-or-not, names-more, unnamed}
use Rattle.rc_memtable.proofs.Steps.{chain-beside, chain-is, kept-then}

-- ---- no writes

-- a memtable of no chains stands for no writes, and of some for some
pub none-written : (schema : SchemaValue) (m : Memory) (writes : List Write) → HasWrites schema [] m writes → writes ≡ []
none-written schema m [] h = refl
none-written schema m (w ∷ ws) h =
    let e : false ≡ true = h.keys w.key ∙ ap (λ b. b || names w.key ws) (key-itself w.key) in absurd (cc)

pub none-kept : (schema : SchemaValue) (m : Memory) (chains : List (List ℕ × ℕ)) → HasWrites schema chains m [] → chains ≡ []
none-kept schema m [] h = refl
none-kept schema m (e ∷ es) h =
    let t : true ≡ false = sym (ap (λ b. is_some (cond b (Some e.1) (chain_of es e.0))) (key-itself e.0)) ∙ h.keys e.0 in absurd (cc)

pub empty-of : {X : Type 0} (xs : List X) → length xs ≡ 0 → xs ≡ []
empty-of [] e = refl
empty-of (x ∷ xs) e = absurd (omega (arith, e))

-- ---- a chain that came to be

pub made-now : (old mid : Memory) (id : ℕ) → IsChainMade id Memtable None 0 old.recency old mid → chain_at mid id ≡ Some (chain_of_new Memtable None 0)
made-now old mid id made = ap (λ cs. slice_index_or cs id None) made.chains ∙ put-at old.chains id (Some (chain_of_new Memtable None 0))

pub fresh-kept : (schema : SchemaValue) → KeepsChanges schema (chain_of_new Memtable None 0).chain []
fresh-kept schema = record { kind = refl; attached = refl; form = fresh-memtable None 0; stands = nothing-stands 0; fits = (new-fits schema 0, tt) }

-- nobody pins its newest version
pub made-unpinned : (old mid : Memory) (id : ℕ) → IsChainMade id Memtable None 0 old.recency old mid → IsNewestPinned mid id → ⊥
made-unpinned old mid id made p = chain-is (λ k. IsPinned k.chain.pins (length k.chain.versions - 1)) (chain_at mid id) (chain_of_new Memtable None 0) (made-now old mid id made) p

-- where a key has no chain a version is made
pub version-taken : {A : Type 0} (m : Memory) (o : Option ℕ) → o ≡ None → (TakesVersion m o → A) → A
version-taken m o none h = h (subst (TakesVersion m) (sym none) tt)

-- ---- one write more

module _ (S : ℕ) (schema : SchemaValue) (w : Write) (old new : Memory) (id : ℕ) (h : IsChangeWritten S schema id w.change 360 old new) where
  -- what a chain keeps, of the key of the write and of another key
  more-here : (key : List ℕ) (writes : List Write) → eq_by_cmp bytes_cmp w.key key ≡ true → changes_to key (writes ++ w ∷ []) ≡ changes_to key writes ++ w.change ∷ []
  more-here key writes here = changes-more key writes w ∙ ap (λ b. cond b (changes_to key writes ++ w.change ∷ []) (changes_to key writes)) here

  more-there : (key : List ℕ) (writes : List Write) → eq_by_cmp bytes_cmp w.key key ≡ false → changes_to key (writes ++ w ∷ []) ≡ changes_to key writes
  more-there key writes there = changes-more key writes w ∙ ap (λ b. cond b (changes_to key writes ++ w.change ∷ []) (changes_to key writes)) there

  abbrev Kept : Memory → ℕ → List Mutation → Type 0
  Kept m i changes = (k : KeptChain) × (chain_at m i ≡ Some k) × KeepsChanges schema k.chain changes

  one-more : (changes : List Mutation) → Kept old id changes → Kept new id (changes ++ w.change ∷ [])
  one-more changes k = let g = h.grown k.0 k.1 in (g.0, g.1, g.3 changes k.2)

  as-before : (i : ℕ) (changes : List Mutation) → (i ≡ id → ⊥) → Kept old i changes → Kept new i changes
  as-before i changes ne k = (k.0, h.others.others i ne ∙ k.1, k.2)

  -- ---- into the chain that the key has

  module _ (chains : List (List ℕ × ℕ)) (found : chain_of chains w.key ≡ Some id) where
    at-key : (key : List ℕ) → eq_by_cmp bytes_cmp w.key key ≡ true → chain_of chains key ≡ Some id
    at-key key here = ap (chain_of chains) (sym (key-is w.key key here)) ∙ found

    found-stands : (writes : List Write) → HasWrites schema chains old writes → HasWrites schema chains new (writes ++ w ∷ [])
    found-stands writes a = record {
      keys = λ key. key-or-not (is_some (chain_of chains key) ≡ names key (writes ++ w ∷ [])) (eq_by_cmp bytes_cmp w.key key)
          (λ here. ap is_some (at-key key here) ∙ sym (names-more key writes w ∙ ap (λ b. cond b true (names key writes)) here))
          (λ there. a.keys key ∙ sym (names-more key writes w ∙ ap (λ b. cond b true (names key writes)) there));
      kept = λ key i e. key-or-not (Kept new i (changes_to key (writes ++ w ∷ []))) (eq_by_cmp bytes_cmp w.key key)
          (λ here. let same : id ≡ i = same_some id i (sym (at-key key here) ∙ e) in
          subst (λ (n : ℕ). Kept new n (changes_to key (writes ++ w ∷ []))) same (subst (Kept new id) (sym (more-here key writes here)) (one-more (changes_to key writes) (a.kept key id (at-key key here)))))
          (λ there. subst (Kept new i) (sym (more-there key writes there)) (as-before i (changes_to key writes) (λ same. key-differs w.key key there (a.apart w.key key id found (e ∙ ap Some same))) (a.kept key i e)));
      apart = a.apart;
    }

    pub found-applied : live_bytes old.region ≡ chains_bytes old → live_bytes new.region ≡ chains_bytes new → IsApplied S schema w chains chains old new
    found-applied live live_now = record {
      stands = found-stands;
      id = id;
      keys = λ key. key-or-not (chain_of chains key ≡ cond (eq_by_cmp bytes_cmp w.key key) (Some id) (chain_of chains key)) (eq_by_cmp bytes_cmp w.key key)
          (λ here. at-key key here ∙ sym (ap (λ b. cond b (Some id) (chain_of chains key)) here))
          (λ there. sym (ap (λ b. cond b (Some id) (chain_of chains key)) there));
      had = λ n e. (sym (same_some id n (sym found ∙ e)), λ k there. let g = h.grown k there in (g.0, g.1, g.2));
      made = λ none. absurd (no_some id (sym none ∙ found));
      others = h.others;
      grows = let grown = h.grows in omega (arith, grown, live, live_now);
      shrinks = let kept = h.shrinks in omega (arith, kept, live, live_now);
    }

-- ---- into a new chain

module _ (S : ℕ) (schema : SchemaValue) (w : Write) (old mid new : Memory) (id : ℕ) (made : IsChainMade id Memtable None 0 old.recency old mid) (h : IsChangeWritten S schema id w.change 360 mid new)
    (before now : List (List ℕ × ℕ)) (none : chain_of before w.key ≡ None) (keys : (q : List ℕ) → chain_of now q ≡ cond (eq_by_cmp bytes_cmp w.key q) (Some id) (chain_of before q)) where
  made-there : chain_at mid id ≡ Some (chain_of_new Memtable None 0)
  made-there = made-now old mid id made

  made-others : AreOthersKept id old mid
  made-others = record {
    others = λ i ne. chain-beside old mid id (Some (chain_of_new Memtable None 0)) i made.chains ne;
    recency = made.recency;
    dropped = made.dropped;
    counts = made.counts;
    still = still-wider (λ v. ⊥) (λ v. v.chain ≡ id) old mid (λ v no. absurd no) made.still;
    region = made.region;
  }

  here-now : (key : List ℕ) → eq_by_cmp bytes_cmp w.key key ≡ true → chain_of now key ≡ Some id
  here-now key here = keys key ∙ ap (λ b. cond b (Some id) (chain_of before key)) here

  there-now : (key : List ℕ) → eq_by_cmp bytes_cmp w.key key ≡ false → chain_of now key ≡ chain_of before key
  there-now key there = keys key ∙ ap (λ b. cond b (Some id) (chain_of before key)) there

  -- another key's chain was there before
  not-new : (writes : List Write) → HasWrites schema before old writes → (key : List ℕ) (i : ℕ) → chain_of before key ≡ Some i → i ≡ id → ⊥
  not-new writes a key i e same = let k = a.kept key i e in no_some k.0 (sym made.vacant ∙ ap (chain_at old) (sym same) ∙ k.1)

  first-change : Kept S schema w mid new id h mid id []
  first-change = (chain_of_new Memtable None 0, made-there, fresh-kept schema)

  new-stands : (writes : List Write) → HasWrites schema before old writes → HasWrites schema now new (writes ++ w ∷ [])
  new-stands writes a = record {
    keys = λ key. key-or-not (is_some (chain_of now key) ≡ names key (writes ++ w ∷ [])) (eq_by_cmp bytes_cmp w.key key)
        (λ here. ap is_some (here-now key here) ∙ sym (names-more key writes w ∙ ap (λ b. cond b true (names key writes)) here))
        (λ there. ap is_some (there-now key there) ∙ a.keys key ∙ sym (names-more key writes w ∙ ap (λ b. cond b true (names key writes)) there));
    kept = λ key i e. key-or-not (Kept S schema w mid new id h new i (changes_to key (writes ++ w ∷ []))) (eq_by_cmp bytes_cmp w.key key)
        (λ here. let same : id ≡ i = same_some id i (sym (here-now key here) ∙ e) in
        let unwritten : changes_to key writes ≡ [] = unnamed key writes (sym (a.keys key) ∙ ap is_some (ap (chain_of before) (sym (key-is w.key key here)) ∙ none)) in
        subst (λ (n : ℕ). Kept S schema w mid new id h new n (changes_to key (writes ++ w ∷ []))) same
        (subst (Kept S schema w mid new id h new id) (sym (more-here S schema w mid new id h key writes here ∙ ap (λ cs. cs ++ w.change ∷ []) unwritten)) (one-more S schema w mid new id h [] first-change)))
        (λ there. let was = sym (there-now key there) ∙ e in let k = a.kept key i was in let ne = not-new writes a key i was in
        subst (Kept S schema w mid new id h new i) (sym (more-there S schema w mid new id h key writes there))
        (as-before S schema w mid new id h i (changes_to key writes) ne (k.0, made-others.others i ne ∙ k.1, k.2)));
    apart = λ key other i e f. key-or-not (key ≡ other) (eq_by_cmp bytes_cmp w.key key)
        (λ here. key-or-not (key ≡ other) (eq_by_cmp bytes_cmp w.key other)
        (λ also. sym (key-is w.key key here) ∙ key-is w.key other also)
        (λ there. absurd (not-new writes a other i (sym (there-now other there) ∙ f) (sym (same_some id i (sym (here-now key here) ∙ e))))))
        (λ there. key-or-not (key ≡ other) (eq_by_cmp bytes_cmp w.key other)
        (λ also. absurd (not-new writes a key i (sym (there-now key there) ∙ e) (sym (same_some id i (sym (here-now other also) ∙ f)))))
        (λ apart. a.apart key other i (sym (there-now key there) ∙ e) (sym (there-now other apart) ∙ f)));
  }

  made-first : DiffersBy 152 0 (chains_bytes old) (chains_bytes mid)
  made-first = made-differs old mid id made.vacant made.chains

  pub new-applied : live_bytes old.region ≡ chains_bytes old → live_bytes new.region ≡ chains_bytes new → IsApplied S schema w before now old new
  new-applied live live_now = record {
    stands = new-stands;
    id = id;
    keys = keys;
    had = λ n e. absurd (no_some n (sym none ∙ e));
    made = λ e. (made.vacant, made.told);
    others = kept-then id old mid new made-others h.others;
    grows = let first = made-first.0 in let grown = h.grows in omega (arith, first, grown, live, live_now);
    shrinks = let first = made-first.1 in let kept = h.shrinks in omega (arith, first, kept, live, live_now);
  }
