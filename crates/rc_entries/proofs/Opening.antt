-- An entry is opened.
use Rattle.std.proofs.Common.{inl, inr, ◌≡◌, ◌≢◌, ◌⊎◌, ℕ, true, false, cond, List, Option, Some, None, nat_eq, refl, sym, ap, ◌∙◌, subst}
use Rattle.std.specs.BTreeMap.{insert_entry, is_at}
use Rattle.std.specs.Map.{remove_entry, set_value}
use Rattle.std.specs.Prelude.{IsSome}
use Rattle.std.specs.Ordering.{eq_by_cmp}
use Rattle.rc_cell.specs.declared.rows.Row.{Row}
use Rattle.rc_cell.specs.declared.writes.Tomb.{Tomb}
use Rattle.rc_position.specs.Position.{bytes_cmp}
use Rattle.rc_registry.specs.Registry.{IsNumberIn}
use Rattle.rc_memory.specs.Memory.{Memory, chain_at}
use Rattle.rc_populate.specs.Filling.{IsEntryOpened, chain_opened}
use Rattle.rc_entries.specs.Found.{DoKeysAscend, entry_number}
use Rattle.rc_entries.specs.Entries.{AreEntries, AreSettled, IsCached}
use Rattle.rc_entries.specs.calls.Index.{IsIndex, entry_key}
use Rattle.rc_entries.proofs.Keys.{added-and-gone, added-ascend, added-found, by-test, key-is, key-itself, not-true, set-added}
use Rattle.rc_entries.proofs.Ways.{index-apart, index-more, none-is-none, none-or, same-some}
use Rattle.rc_entries.proofs.Numbered.{chain-beside, chain-here, here-or-beside}
use Rattle.rc_entries.proofs.Leaving.{cached-same}

module _ (entries : List (List ℕ × ℕ)) (key : List ℕ) (id : ℕ) (pt : Option Tomb) (statics : Option Row) (phase : ℕ) (old new : Memory) (a : AreEntries entries old) (absent : entry_number entries key ≡ None) (o : IsEntryOpened id pt statics phase old new) where
  -- its number is no entry's
  pub fresh : (q : List ℕ) → entry_number entries q ≡ Some id → ⊥
  fresh q e = elim (a.kept q id e) [ inl c ↦ none-is-none c.kept (sym o.vacant ∙ c.there) | inr on ↦ o.told on ]

  pub free-number : (keys : List (ℕ × List ℕ)) → IsIndex entries keys → entry_key keys id ≡ None
  free-number keys h = none-or (entry_key keys id) (λ q e. fresh q (h.back q id e))

  pub opened-found : (q : List ℕ) → entry_number (insert_entry bytes_cmp entries key id) q ≡ cond (eq_by_cmp bytes_cmp key q) (Some id) (entry_number entries q)
  opened-found q = added-found key id entries q absent

  opened-cached : IsCached new id
  opened-cached = record { kept = chain_opened pt statics phase; there = chain-here old new id (Some (chain_opened pt statics phase)) o.chains; kind = refl; attached = refl }

  pub opened-beside : (i : ℕ) → i ≢ id → chain_at new i ≡ chain_at old i
  opened-beside = chain-beside old new id (Some (chain_opened pt statics phase)) o.chains

  -- the number of another key is another one, and that which it had
  pub opened-other : (q : List ℕ) (i : ℕ) → eq_by_cmp bytes_cmp key q ≡ false → entry_number (insert_entry bytes_cmp entries key id) q ≡ Some i → (i ≢ id) × (entry_number entries q ≡ Some i)
  opened-other q i beside e =
      let was : entry_number entries q ≡ Some i = sym (opened-found q ∙ ap (λ b. cond b (Some id) (entry_number entries q)) beside) ∙ e in
      ((λ same. fresh q (subst (λ n. entry_number entries q ≡ Some n) same was)), was)

  -- and its own is the one of the chain that was opened
  pub opened-own : (q : List ℕ) (i : ℕ) → eq_by_cmp bytes_cmp key q ≡ true → entry_number (insert_entry bytes_cmp entries key id) q ≡ Some i → id ≡ i
  opened-own q i here e = same-some id i (sym (opened-found q ∙ ap (λ b. cond b (Some id) (entry_number entries q)) here) ∙ e)

  kept-still : (q : List ℕ) (i : ℕ) → i ≢ id → entry_number entries q ≡ Some i → IsCached new i ⊎ IsNumberIn new.dropped i
  kept-still q i ne e = elim (a.kept q i e) [ inl c ↦ inl (cached-same old new i (opened-beside i ne) c) | inr on ↦ inr (subst (λ ns. IsNumberIn ns i) (sym o.dropped) on) ]

  all-found : (i : ℕ) → i ≢ id → IsCached new i → (q : List ℕ) × (entry_number (insert_entry bytes_cmp entries key id) q ≡ Some i)
  all-found i ne c = let was = a.all i (cached-same new old i (sym (opened-beside i ne)) c) in
      (was.0, opened-found was.0 ∙ ap (λ b. cond b (Some id) (entry_number entries was.0)) (not-true (eq_by_cmp bytes_cmp key was.0) (λ t. none-is-none i (sym absent ∙ ap (entry_number entries) (key-is key was.0 t) ∙ was.1))) ∙ was.1)

  pub opened-entries : DoKeysAscend (insert_entry bytes_cmp entries key id) → ((q other : List ℕ) (i : ℕ) → entry_number (insert_entry bytes_cmp entries key id) q ≡ Some i → entry_number (insert_entry bytes_cmp entries key id) other ≡ Some i → q ≡ other) →
      AreEntries (insert_entry bytes_cmp entries key id) new
  opened-entries ascend apart = record {
    ascend = ascend;
    apart = apart;
    kept = λ q i e. by-test (IsCached new i ⊎ IsNumberIn new.dropped i) (eq_by_cmp bytes_cmp key q)
        (λ t. inl (subst (IsCached new) (opened-own q i t e) opened-cached))
        (λ n. let was = opened-other q i n e in kept-still q i was.0 was.1);
    all = λ i. here-or-beside (λ n. IsCached new n → (q : List ℕ) × (entry_number (insert_entry bytes_cmp entries key id) q ≡ Some n)) id i
        (λ c. (key, opened-found key ∙ ap (λ b. cond b (Some id) (entry_number entries key)) (key-itself key)))
        (λ ne c. all-found i ne c);
  }

  pub opened-settled : AreSettled entries old → AreSettled (insert_entry bytes_cmp entries key id) new
  opened-settled h q i e on =
      let was_told : IsNumberIn old.dropped i = subst (λ ns. IsNumberIn ns i) o.dropped on in
      by-test ⊥ (eq_by_cmp bytes_cmp key q) (λ t. o.told (subst (IsNumberIn old.dropped) (sym (opened-own q i t e)) was_told)) (λ n. h q i (opened-other q i n e).1 was_told)

-- ---- the maps, where room was made for a key and its number set

module _ (before numbers room now : List (List ℕ × ℕ)) (key name : List ℕ) (same : numbers ≡ before) (named : name ≡ key) (absent : entry_number before key ≡ None) (placed : room ≡ insert_entry bytes_cmp numbers key 0) where
  pub room-is : room ≡ insert_entry bytes_cmp before key 0
  room-is = placed ∙ ap (λ (es : List (List ℕ × ℕ)). insert_entry bytes_cmp es key 0) same

  pub room-there : IsSome (entry_number room name)
  room-there = subst IsSome (sym ((λ i. entry_number (room-is i) (named i)) ∙ added-found key 0 before key absent ∙ ap (λ b. cond b (Some 0) (entry_number before key)) (key-itself key))) refl

  -- the room is given back
  pub room-gone : (less : List (List ℕ × ℕ)) → less ≡ remove_entry (is_at (bytes_cmp key)) room → less ≡ before
  room-gone less is = is ∙ ap (remove_entry (is_at (bytes_cmp key))) room-is ∙ added-and-gone key 0 before absent

  module _ (id : ℕ) (set : now ≡ set_value (is_at (bytes_cmp name)) room id) where
    pub added-is : now ≡ insert_entry bytes_cmp before key id
    added-is = set ∙ (λ i. set_value (is_at (bytes_cmp (named i))) (room-is i) id) ∙ set-added key id before absent

    pub added-index : (keys first then : List (ℕ × List ℕ)) → IsIndex numbers keys → entry_key keys id ≡ None → ((i : ℕ) → entry_key first i ≡ entry_key keys i) → ((i : ℕ) → entry_key then i ≡ cond (nat_eq id i) (Some name) (entry_key first i)) → IsIndex now then
    added-index keys first then h free f g = index-more before now keys then key id (subst (λ (es : List (List ℕ × ℕ)). IsIndex es keys) same h) absent free
        (λ q. ap (λ (es : List (List ℕ × ℕ)). entry_number es q) added-is ∙ added-found key id before q absent)
        (λ i. g i ∙ (λ j. cond (nat_eq id i) (Some (named j)) (f i j)))

    -- so entries are entries, once the chain is open
    module _ (pt : Option Tomb) (statics : Option Row) (phase : ℕ) (old new : Memory) (a : AreEntries before old) (o : IsEntryOpened id pt statics phase old new) where
      pub now-entries : DoKeysAscend room → (keys : List (ℕ × List ℕ)) → IsIndex now keys → AreEntries now new
      now-entries ascend keys h = subst (λ (es : List (List ℕ × ℕ)). AreEntries es new) (sym added-is)
          (opened-entries before key id pt statics phase old new a absent o (added-ascend key 0 id before (subst DoKeysAscend room-is ascend)) (index-apart (insert_entry bytes_cmp before key id) keys (subst (λ (es : List (List ℕ × ℕ)). IsIndex es keys) added-is h)))

      pub now-settled : AreSettled before old → AreSettled now new
      now-settled h = subst (λ (es : List (List ℕ × ℕ)). AreSettled es new) (sym added-is) (opened-settled before key id pt statics phase old new a absent o h)

      pub now-free : (keys : List (ℕ × List ℕ)) → IsIndex numbers keys → entry_key keys id ≡ None
      now-free keys h = free-number before key id pt statics phase old new a absent o keys (subst (λ (es : List (List ℕ × ℕ)). IsIndex es keys) same h)
