-- Entries of keys are taken out one after another, and their chains detached; then newest versions get another phase.
use Rattle.std.proofs.Common.{inl, inr, ◌≡◌, ◌⊎◌, ◌≤◌, ◌<◌, ◌+◌, ℕ, Bool, true, false, cond, List, [], ◌∷◌, ◌++◌, Option, Some, None, length, drop, get_or, map, refl, sym, ap, ◌∙◌, subst, slice_index_or, add-one}
use Rattle.std.specs.Prelude.{◌||◌}
use Rattle.std.specs.BTreeMap.{is_at}
use Rattle.std.specs.List.{AllByRecursion}
use Rattle.std.specs.List.Sorted.{IsStrictlySortedBy}
use Rattle.std.specs.declared.cmp.Ordering.TheVariants.{Less}
use Rattle.std.specs.Map.{remove_entry}
use Rattle.std.specs.Option.{option_map, option_to_list}
use Rattle.std.specs.Ordering.{eq_by_cmp}
use Rattle.std.proofs.Math.Seq.{drop-cons}
use Rattle.std.proofs.lemmas.List.{drop_all}
use Rattle.lsa_pool.specs.Room.{spare_of}
use Rattle.lsa_pool.specs.laws.Usages.{decided}
use Rattle.rc_position.specs.Position.{bytes_cmp}
use Rattle.rc_mutation.specs.declared.mutations.Partition.{Partition}
use Rattle.rc_registry.specs.Registry.{IsNumberIn}
use Rattle.rc_registry.specs.laws.Numbers.{IsOneOf-back, IsOneOf-front, IsOneOf-parts}
use Rattle.rc_memory.specs.Changes.{Nowhere}
use Rattle.rc_memory.specs.Memory.{KeptChain, Memory, chain_at, on_shown, shown_detached}
use Rattle.rc_memory.specs.laws.Standing.{at-mapped}
use Rattle.rc_memory.specs.laws.Still.{still-itself, still-then, unmoved-itself, unmoved-then}
use Rattle.rc_chain.specs.Lives.{IsRelabelled, relabelled_chain}
use Rattle.rc_entries.specs.Found.{DoKeysAscend, entry_number}
use Rattle.rc_entries.specs.Entries.{AreEntries, AreSettled, LeavesCached}
use Rattle.rc_entries.specs.Detached.{IsDetached}
use Rattle.rc_entries.specs.Invalidated.{AreDetached, IsAtRest, IsInvalidated, KeepsReaders, entry_numbers, is_one_of, partition_keys, without_keys}
use Rattle.rc_entries.proofs.Keys.{both-ways, by-test, gone-found, key-is, key-itself}
use Rattle.rc_entries.proofs.Ways.{none-is-none, same-some, was-there}
use Rattle.rc_entries.proofs.Numbered.{changed-now, mapped}
use Rattle.rc_entries.proofs.Taken.{detached-beside, there-or-not}
use Rattle.rc_entries.proofs.Phases.{detached-reading, relabelled-reading, still-used}

-- ---- entries

-- which of several keys is left out is told by each
either-out : {X : Type 0} (a b : Bool) (o : Option X) → cond b None (cond a None o) ≡ cond (a || b) None o
either-out true true o = refl
either-out true false o = refl
either-out false true o = refl
either-out false false o = refl

less-all : (P : List ℕ → Type 0) (test : List ℕ → Bool) (es : List (List ℕ × ℕ)) → AllByRecursion P (map (λ (e : List ℕ × ℕ). e.0) es) → AllByRecursion P (map (λ (e : List ℕ × ℕ). e.0) (remove_entry test es))
less-all P test [] h = h
less-all P test (e ∷ es) h = elim (test e.0) as (λ b. AllByRecursion P (map (λ (d : List ℕ × ℕ). d.0) (cond b es (e ∷ remove_entry test es)))) [ true ↦ h.1 | false ↦ (h.0, less-all P test es h.1) ]

-- the keys that are left ascend
pub less-ascend : (test : List ℕ → Bool) (es : List (List ℕ × ℕ)) → DoKeysAscend es → DoKeysAscend (remove_entry test es)
unfolding IsStrictlySortedBy
less-ascend test [] h = h
less-ascend test (e ∷ es) h = elim (test e.0) as (λ b. IsStrictlySortedBy bytes_cmp (map (λ (d : List ℕ × ℕ). d.0) (cond b es (e ∷ remove_entry test es)))) [
  | true ↦ h.1
  | false ↦ (less-all (λ q. bytes_cmp e.0 q ≡ Less) test es h.0, less-ascend test es h.1)
]

pub without-found : (keys : List (List ℕ)) (entries : List (List ℕ × ℕ)) (q : List ℕ) → DoKeysAscend entries → entry_number (without_keys keys entries) q ≡ cond (is_one_of keys q) None (entry_number entries q)
without-found [] entries q h = refl
without-found (key ∷ keys) entries q h =
    without-found keys (remove_entry (is_at (bytes_cmp key)) entries) q (less-ascend (is_at (bytes_cmp key)) entries h)
    ∙ ap (cond (is_one_of keys q) None) (gone-found entries key q h)
    ∙ either-out (eq_by_cmp bytes_cmp key q) (is_one_of keys q) (entry_number entries q)

or-true : (a b : Bool) → b ≡ true → (a || b) ≡ true
or-true true b e = refl
or-true false b e = e

in-option : (o : Option ℕ) (id : ℕ) → IsNumberIn (option_to_list o) id → o ≡ Some id
in-option None id on = absurd on
in-option (Some n) id on = elim on [ inl same ↦ ap Some same | inr none ↦ absurd none ]

option-in : (o : Option ℕ) (id : ℕ) → o ≡ Some id → IsNumberIn (option_to_list o) id
option-in None id e = absurd (none-is-none id e)
option-in (Some n) id e = inl (same-some n id e)

-- the numbers of the entries of some keys are those that these keys had
pub numbers-keys : (keys : List (List ℕ)) (entries : List (List ℕ × ℕ)) (id : ℕ) → DoKeysAscend entries → IsNumberIn (entry_numbers keys entries) id → (key : List ℕ) × (is_one_of keys key ≡ true) × (entry_number entries key ≡ Some id)
numbers-keys [] entries id h on = absurd on
numbers-keys (key ∷ keys) entries id h on = elim (IsOneOf-parts (option_to_list (entry_number entries key)) (entry_numbers keys (remove_entry (is_at (bytes_cmp key)) entries)) id on) [
  | inl here ↦ (key, ap (λ b. b || is_one_of keys key) (key-itself key), in-option (entry_number entries key) id here)
  | inr later ↦ (let more = numbers-keys keys (remove_entry (is_at (bytes_cmp key)) entries) id (less-ascend (is_at (bytes_cmp key)) entries h) later in
      (more.0, or-true (eq_by_cmp bytes_cmp key more.0) (is_one_of keys more.0) more.1, (was-there (eq_by_cmp bytes_cmp key more.0) (entry_number entries more.0) id (sym (gone-found entries key more.0 h) ∙ more.2)).1))
]

pub keys-numbers : (keys : List (List ℕ)) (entries : List (List ℕ × ℕ)) (id : ℕ) (q : List ℕ) → DoKeysAscend entries → is_one_of keys q ≡ true → entry_number entries q ≡ Some id → IsNumberIn (entry_numbers keys entries) id
keys-numbers [] entries id q h among e = absurd (both-ways false among refl)
keys-numbers (key ∷ keys) entries id q h among e = by-test (IsNumberIn (entry_numbers (key ∷ keys) entries) id) (eq_by_cmp bytes_cmp key q)
    (λ t. IsOneOf-front (option_to_list (entry_number entries key)) (entry_numbers keys (remove_entry (is_at (bytes_cmp key)) entries)) id (option-in (entry_number entries key) id (ap (entry_number entries) (key-is key q t) ∙ e)))
    (λ n. IsOneOf-back (option_to_list (entry_number entries key)) (entry_numbers keys (remove_entry (is_at (bytes_cmp key)) entries)) id
    (keys-numbers keys (remove_entry (is_at (bytes_cmp key)) entries) id q (less-ascend (is_at (bytes_cmp key)) entries h) (sym (ap (λ b. b || is_one_of keys q) n) ∙ among)
    (gone-found entries key q h ∙ ap (λ b. cond b None (entry_number entries q)) n ∙ e)))

-- the number of another key is none of them
pub other-numbers : (keys : List (List ℕ)) (entries : List (List ℕ × ℕ)) (m : Memory) → AreEntries entries m → (q : List ℕ) (id : ℕ) → entry_number (without_keys keys entries) q ≡ Some id → (entry_number entries q ≡ Some id) × (IsNumberIn (entry_numbers keys entries) id → ⊥)
other-numbers keys entries m a q id e = let was = was-there (is_one_of keys q) (entry_number entries q) id (sym (without-found keys entries q a.ascend) ∙ e) in
    (was.1, λ on. let k = numbers-keys keys entries id a.ascend on in both-ways (is_one_of keys q) (subst (λ (p : List ℕ). is_one_of keys p ≡ true) (a.apart k.0 q id k.2 was.1) k.1) was.0)

-- ---- the loop that takes them out

detached-first : (o : Option ℕ) (ids : List ℕ) (old mid new : Memory) → (o ≡ None → mid ≡ old) → ((id : ℕ) → o ≡ Some id → IsDetached id old mid) → AreDetached ids mid new → AreDetached (option_to_list o ++ ids) old new
detached-first None ids old mid new none some rest = subst (λ (m : Memory). AreDetached ids m new) (none refl) rest
detached-first (Some id) ids old mid new none some rest = (mid, some id refl, rest)

-- the entries of the keys so far are taken out and their chains detached: what is left to do is what is left of it all
pub record IsTakingOut (S : ℕ) (parts : List Partition) (done : ℕ) (before now : List (List ℕ × ℕ)) (old mid : Memory) : Type 0 where
  pub gone : without_keys (partition_keys (drop done parts)) now ≡ without_keys (partition_keys parts) before
  pub detached : (new : Memory) → AreDetached (entry_numbers (partition_keys (drop done parts)) now) mid new → AreDetached (entry_numbers (partition_keys parts) before) old new
  pub entries : AreEntries before old → AreEntries now mid
  pub settled : AreSettled before old → AreSettled now mid
  pub spare : spare_of S mid.region.usages ≡ spare_of S old.region.usages

pub taking-start : (S : ℕ) (parts : List Partition) (before : List (List ℕ × ℕ)) (old : Memory) → IsTakingOut S parts 0 before before old old
taking-start S parts before old = record { gone = refl; detached = λ new d. d; entries = λ a. a; settled = λ a. a; spare = refl }

module _ (S : ℕ) (parts : List Partition) (done : ℕ) (before now : List (List ℕ × ℕ)) (old mid : Memory) (h : IsTakingOut S parts done before now old mid) where
  module _ (part default : Partition) (low : done < length parts) (is : part ≡ get_or parts done default) (less : List (List ℕ × ℕ)) (new : Memory)
      (none : entry_number now part.key ≡ None → (less ≡ now) × (new ≡ mid)) (gone : less ≡ remove_entry (is_at (bytes_cmp part.key)) now) (detached : (id : ℕ) → entry_number now part.key ≡ Some id → IsDetached id mid new) where
    abbrev rest : List Partition
    rest = drop (done + 1) parts

    front : drop done parts ≡ part ∷ rest
    front = drop-cons parts done default low ∙ (λ i. sym is i ∷ drop (sym (add-one done) i) parts)

    pub taking-step : (AreEntries now mid → AreEntries less new) → (AreSettled now mid → AreSettled less new) → spare_of S new.region.usages ≡ spare_of S mid.region.usages → IsTakingOut S parts (done + 1) before less old new
    taking-step entries settled spare = record {
      gone = ap (without_keys (partition_keys rest)) gone ∙ ap (λ ps. without_keys (partition_keys ps) now) (sym front) ∙ h.gone;
      detached = λ end d. h.detached end (subst (λ ps. AreDetached (entry_numbers (partition_keys ps) now) mid end) (sym front)
          (detached-first (entry_number now part.key) (entry_numbers (partition_keys rest) (remove_entry (is_at (bytes_cmp part.key)) now)) mid new end (λ e. (none e).1) detached
          (subst (λ (es : List (List ℕ × ℕ)). AreDetached (entry_numbers (partition_keys rest) es) new end) gone d)));
      entries = λ a. entries (h.entries a);
      settled = λ a. settled (h.settled a);
      spare = spare ∙ h.spare;
    }

  module _ (over : length parts ≤ done) where
    pub taken-out : now ≡ without_keys (partition_keys parts) before
    taken-out = sym (ap (λ ps. without_keys (partition_keys ps) now) (drop_all done parts over)) ∙ h.gone

    pub taken-detached : AreDetached (entry_numbers (partition_keys parts) before) old mid
    taken-detached = h.detached mid (subst (λ ps. AreDetached (entry_numbers (partition_keys ps) now) mid mid) (sym (drop_all done parts over)) refl)

-- ---- what is at rest

rest-itself : (m : Memory) → IsAtRest m m
rest-itself m = record { dropped = refl; counts = refl; still = still-itself Nowhere m; region = unmoved-itself m.region }

rest-then : (old mid new : Memory) → IsAtRest old mid → IsAtRest mid new → IsAtRest old new
rest-then old mid new a b = record { dropped = b.dropped ∙ a.dropped; counts = b.counts ∙ a.counts; still = still-then Nowhere old mid new a.still b.still; region = unmoved-then old.region mid.region new.region a.region b.region }

detached-rest : (id : ℕ) (old new : Memory) → IsDetached id old new → IsAtRest old new
detached-rest id old new d = there-or-not (chain_at old id) (λ e. subst (IsAtRest old) (sym (d.gone e)) (rest-itself old))
    (λ k e. let c = (d.there k e).2 in record { dropped = c.dropped; counts = c.counts; still = c.still; region = c.region })

all-detached-rest : (ids : List ℕ) (old new : Memory) → AreDetached ids old new → IsAtRest old new
all-detached-rest [] old new d = subst (IsAtRest old) (sym d) (rest-itself old)
all-detached-rest (id ∷ ids) old new d = rest-then old d.0 new (detached-rest id old d.0 d.1) (all-detached-rest ids d.0 new d.2)

pub invalidated-rest : (ids : List ℕ) (phase : ℕ) (old new : Memory) → IsInvalidated ids phase old new → IsAtRest old new
invalidated-rest ids phase old new h = rest-then old h.between new (all-detached-rest ids old h.between h.gone) (record { dropped = h.others.dropped; counts = h.others.counts; still = h.others.still; region = h.others.region })

-- ---- the chains

-- a number is one of several, or it is not
number-or : (ids : List ℕ) (id : ℕ) → IsNumberIn ids id ⊎ (IsNumberIn ids id → ⊥)
number-or [] id = inr (λ on. on)
number-or (n ∷ ids) id = elim (decided n id) [
  | inl here ↦ inl (inl here)
  | inr ne ↦ elim (number-or ids id) [ inl later ↦ inl (inr later) | inr out ↦ inr (λ on. elim on [ inl e ↦ ne e | inr later ↦ out later ]) ]
]

-- a chain of another number is as it was
others-same : (ids : List ℕ) (old new : Memory) → AreDetached ids old new → (i : ℕ) → (IsNumberIn ids i → ⊥) → chain_at new i ≡ chain_at old i
others-same [] old new d i out = ap (λ (m : Memory). chain_at m i) d
others-same (id ∷ ids) old new d i out = others-same ids d.0 new d.2 i (λ on. out (inr on)) ∙ detached-beside id old d.0 d.1 i (λ e. out (inl (sym e)))

module _ (id : ℕ) (old new : Memory) (d : IsDetached id old new) where
  detached-here : (k : KeptChain) → chain_at old id ≡ Some k → chain_at new id ≡ Some (on_shown shown_detached k)
  detached-here k e = changed-now old new id (on_shown shown_detached) (d.there k e).2.chains k e

  -- no chain comes to be, and one that is detached stays so
  none-comes : (i : ℕ) → chain_at old i ≡ None → chain_at new i ≡ None
  none-comes i e = elim (decided i id) [
    | inl same ↦ ap (λ (m : Memory). chain_at m i) (d.gone (sym (ap (chain_at old) same) ∙ e)) ∙ e
    | inr ne ↦ detached-beside id old new d i ne ∙ e
  ]

  stays-detached : (k : KeptChain) (i : ℕ) → chain_at old i ≡ Some (on_shown shown_detached k) → chain_at new i ≡ Some (on_shown shown_detached k)
  stays-detached k i e = elim (decided i id) [
    | inl same ↦ ap (chain_at new) same ∙ detached-here (on_shown shown_detached k) (sym (ap (chain_at old) same) ∙ e)
    | inr ne ↦ detached-beside id old new d i ne ∙ e
  ]

none-come : (ids : List ℕ) (old new : Memory) → AreDetached ids old new → (i : ℕ) → chain_at old i ≡ None → chain_at new i ≡ None
none-come [] old new d i e = ap (λ (m : Memory). chain_at m i) d ∙ e
none-come (id ∷ ids) old new d i e = none-come ids d.0 new d.2 i (none-comes id old d.0 d.1 i e)

stay-detached : (ids : List ℕ) (old new : Memory) → AreDetached ids old new → (k : KeptChain) (i : ℕ) → chain_at old i ≡ Some (on_shown shown_detached k) → chain_at new i ≡ Some (on_shown shown_detached k)
stay-detached [] old new d k i e = ap (λ (m : Memory). chain_at m i) d ∙ e
stay-detached (id ∷ ids) old new d k i e = stay-detached ids d.0 new d.2 k i (stays-detached id old d.0 d.1 k i e)

-- one of these numbers is detached
all-detached : (ids : List ℕ) (old new : Memory) → AreDetached ids old new → (i : ℕ) (k : KeptChain) → IsNumberIn ids i → chain_at old i ≡ Some k → chain_at new i ≡ Some (on_shown shown_detached k)
all-detached [] old new d i k on e = absurd on
all-detached (id ∷ ids) old new d i k on e = elim (decided i id) [
  | inl same ↦ stay-detached ids d.0 new d.2 k i (ap (chain_at d.0) same ∙ detached-here id old d.0 d.1 k (sym (ap (chain_at old) same) ∙ e))
  | inr ne ↦ elim on [
    | inl here ↦ absurd (ne (sym here))
    | inr later ↦ all-detached ids d.0 new d.2 i k later (detached-beside id old d.0 d.1 i ne ∙ e)
  ]
]

-- where no update stands in them the list is as it was
all-listed : (ids : List ℕ) (old new : Memory) → AreDetached ids old new → ((i : ℕ) (k : KeptChain) → IsNumberIn ids i → chain_at old i ≡ Some k → k.chain.updating ≡ false) → new.recency ≡ old.recency
all-listed [] old new d settled = ap (λ (m : Memory). m.recency) d
all-listed (id ∷ ids) old new d settled =
    all-listed ids d.0 new d.2 (λ i k on e. elim (decided i id) [
      | inl same ↦ there-or-not (chain_at old id)
          (λ none. absurd (none-is-none k (sym (none-comes id old d.0 d.1 id none) ∙ sym (ap (chain_at d.0) same) ∙ e)))
          (λ was there. ap (λ (q : KeptChain). q.chain.updating) (sym (same-some (on_shown shown_detached was) k (sym (detached-here id old d.0 d.1 was there) ∙ sym (ap (chain_at d.0) same) ∙ e))))
      | inr ne ↦ settled i k (inr on) (sym (detached-beside id old d.0 d.1 i ne) ∙ e)
    ])
    ∙ there-or-not (chain_at old id)
    (λ none. ap (λ (m : Memory). m.recency) (d.1.gone none))
    (λ k e. let c = d.1.there k e in c.2.recency ∙ c.1.settled (settled id k (inl refl) e))

module _ (phase : ℕ) (old new : Memory) (r : IsRelabelled phase old new) where
  pub relabelled-at : (id : ℕ) → chain_at new id ≡ option_map (relabelled_chain phase) (chain_at old id)
  relabelled-at id = ap (λ cs. slice_index_or cs id None) r.chains ∙ at-mapped (relabelled_chain phase) old.chains id

  pub relabelled-leaves : LeavesCached old new
  relabelled-leaves = record {
    cached = λ id c. inl (record { kept = relabelled_chain phase c.kept; there = relabelled-at id ∙ ap (option_map (relabelled_chain phase)) c.there; kind = (still-used phase c.kept).0 ∙ c.kind; attached = (still-used phase c.kept).1 ∙ c.attached });
    told = λ id on. subst (λ ns. IsNumberIn ns id) (sym r.dropped) on;
    none = λ id c. let was = mapped (relabelled_chain phase) (chain_at old id) c.kept (sym (relabelled-at id) ∙ c.there) in record {
      kept = was.0;
      there = was.1;
      kind = sym (still-used phase was.0).0 ∙ ap (λ (k : KeptChain). k.chain.kind) was.2 ∙ c.kind;
      attached = sym (still-used phase was.0).1 ∙ ap (λ (k : KeptChain). k.chain.attached) was.2 ∙ c.attached;
    };
  }

module _ (ids : List ℕ) (phase : ℕ) (old new : Memory) (h : IsInvalidated ids phase old new) where
  at-last : (id : ℕ) → chain_at new id ≡ option_map (relabelled_chain phase) (chain_at h.between id)
  at-last = relabelled-at phase h.between new h.others

  pub invalidated-gone : (id : ℕ) (k : KeptChain) → IsNumberIn ids id → chain_at old id ≡ Some k → chain_at new id ≡ Some (on_shown shown_detached k)
  invalidated-gone id k on e = at-last id ∙ ap (option_map (relabelled_chain phase)) (all-detached ids old h.between h.gone id k on e)

  pub invalidated-others : (id : ℕ) (k : KeptChain) → (IsNumberIn ids id → ⊥) → chain_at old id ≡ Some k → chain_at new id ≡ Some (relabelled_chain phase k)
  invalidated-others id k out e = at-last id ∙ ap (option_map (relabelled_chain phase)) (others-same ids old h.between h.gone id out ∙ e)

  pub invalidated-none : (id : ℕ) → chain_at old id ≡ None → chain_at new id ≡ None
  invalidated-none id e = at-last id ∙ ap (option_map (relabelled_chain phase)) (none-come ids old h.between h.gone id e)

  pub invalidated-listed : ((id : ℕ) (k : KeptChain) → IsNumberIn ids id → chain_at old id ≡ Some k → k.chain.updating ≡ false) → new.recency ≡ old.recency
  invalidated-listed settled = h.others.recency ∙ all-listed ids old h.between h.gone settled

  pub invalidated-readers : (id : ℕ) (k : KeptChain) → chain_at old id ≡ Some k → (now : KeptChain) × (chain_at new id ≡ Some now) × KeepsReaders k now
  invalidated-readers id k e = elim (number-or ids id) [
    | inl on ↦ (on_shown shown_detached k, invalidated-gone id k on e, detached-reading k)
    | inr out ↦ (relabelled_chain phase k, invalidated-others id k out e, relabelled-reading phase k)
  ]
