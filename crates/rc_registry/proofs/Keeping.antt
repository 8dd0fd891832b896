-- What a registry keeps over each of its calls.
use Rattle.std.proofs.Common.{◌≡◌, ◌≢◌, ◌⊎◌, ℕ, zero, suc, ◌+◌, ◌<◌, ◌≤◌, List, [], ◌∷◌, ◌++◌, length, get_or, Option, Some, None, Result, Ok, Err, OnOk, OnErr, IsSome, IsSomeAnd, refl, sym, ap, subst, ◌∙◌, inl, inr, arith, append_assoc}
use Rattle.std.specs.Prelude.{option_map}
use Rattle.std.proofs.Math.ListN.{set}
use Rattle.std.proofs.lemmas.Bool.Decides.{eqb_tells}
use Rattle.std.proofs.lemmas.List.{length-set, get_or-set_other, get_or-set_same, length-append}
use Rattle.lsa_region.specs.declared.end.Root.{Root}
use Rattle.rc_registry.specs.Registry.{Use, Registry, use_at, put_at_number, on_use, IsThere, HasRoot, IsNumberIn, AreOnce}
use Rattle.rc_registry.specs.Kept.{IsKeptRegistry}
use Rattle.rc_registry.specs.calls.Kept.{IsTakenNumber, IsLonger}
use Rattle.rc_registry.specs.laws.Numbers.{IsOneOf-front, IsOneOf-back, IsOneOf-parts, AreOnce-push, AreOnce-without, AreOnce-apart, length-AreOnce}
use Rattle.rc_registry.specs.laws.Puts.{there, chain_of, put-within, put-behind, at-put, beside-put, long-put}

-- two numbers are equal or not
is_same : (m n : ℕ) → (m ≡ n) ⊎ (m ≢ n)
is_same m n = elim (eqb_tells m n) [ inl e ↦ inl e.1 | inr e ↦ inr e.1 ]

-- what an index within the list of owners reads
pub read : (owners : List ℕ) (n d : ℕ) → n < length owners → get_or owners n d ≡ get_or owners n 0
read [] n d lt = absurd (omega arith)
read (o ∷ os) zero d lt = refl
read (o ∷ os) (suc n) d lt = read os n d (omega arith)

none-is-some : (u : Use) → None ≡ Some u → ⊥
none-is-some u e = cc

some-is : {u w : Use} → Some u ≡ Some w → u ≡ w
some-is e = cc

pub same-root : (r s : Root) → r.number ≡ s.number → r ≡ s
same-root r s e = λ i. record { number = e i }

-- ---- what is kept

module _ (uses : List (Option Use)) (vacant dropped owners : List ℕ) (vacant_room dropped_room : ℕ) (kept : IsKeptRegistry uses vacant dropped owners vacant_room dropped_room) where
  -- one chain has a root slot
  pub one-root : (root : Root) (i j : ℕ) → IsSomeAnd (use_at uses i) (λ u. u.root ≡ root) → IsSomeAnd (use_at uses j) (λ u. u.root ≡ root) → i ≡ j
  one-root root i j at_i at_j =
      let a = chain-at root (use_at uses i) at_i in let b = chain-at root (use_at uses j) at_j in
      sym (kept.owned i a.0 a.1).1 ∙ ap (λ (s : Root). get_or owners s.number 0) (a.2 ∙ sym b.2) ∙ (kept.owned j b.0 b.1).1
    where
      chain-at : (root : Root) (c : Option Use) → IsSomeAnd c (λ u. u.root ≡ root) → (u : Use) × (c ≡ Some u) × (u.root ≡ root)
      chain-at root None at = absurd at
      chain-at root (Some u) at = (u, refl, at)

  -- a chain that is there is neither vacant nor dropped
  pub not-idle : (id : ℕ) → IsSome (use_at uses id) → IsNumberIn (vacant ++ dropped) id → ⊥
  not-idle id some idle = let e = (kept.gone id idle).1 in let c = chain_of (use_at uses id) some in let clash : None ≡ Some c.0 = sym e ∙ c.1 in cc

  -- a chain changes, and stands behind the same root slot
  pub kept-changed : (id : ℕ) (u v : Use) → use_at uses id ≡ Some u → v.root ≡ u.root → IsKeptRegistry (put_at_number id (Some v) uses) vacant dropped owners vacant_room dropped_room
  kept-changed id u v known root =
      let lt : id < length uses = there uses id (subst (λ c. IsSome c) (sym known) refl) in
      let long : length (put_at_number id (Some v) uses) ≡ length uses = ap length (sym (put-within uses id (Some v) lt)) ∙ length-set uses id (Some v) in
      record {
        gone = λ n idle. let was = kept.gone n idle in (omega (arith, long, was.0), beside-put uses id (Some v) n (λ e. none-is-some u (sym was.1 ∙ ap (λ k. use_at uses k) e ∙ known)) ∙ was.1);
        once = kept.once;
        vacant_fit = omega (arith, long, kept.vacant_fit);
        dropped_fit = omega (arith, long, kept.dropped_fit);
        owned = λ n w e. elim (is_same n id) [
          | inl same ↦ let of = some-is (sym (at-put uses id (Some v)) ∙ ap (λ k. use_at (put_at_number id (Some v) uses) k) (sym same) ∙ e) in
              subst (λ (s : Root). (s.number < length owners) × (get_or owners s.number 0 ≡ n)) (sym root ∙ ap (λ (x : Use). x.root) of) (subst (λ k. (u.root.number < length owners) × (get_or owners u.root.number 0 ≡ k)) (sym same) (kept.owned id u known))
          | inr other ↦ kept.owned n w (sym (beside-put uses id (Some v) n other) ∙ e)
        ];
      }

  -- a chain is there that was not
  pub kept-added : (id : ℕ) (v : Use) (vacant_now owners_now : List ℕ) (vacant_room_now dropped_room_now : ℕ) → use_at uses id ≡ None → AreOnce (vacant_now ++ dropped)
      → ((n : ℕ) → IsNumberIn (vacant_now ++ dropped) n → IsNumberIn (vacant ++ dropped) n × n ≢ id)
      → length (put_at_number id (Some v) uses) ≤ vacant_room_now → length (put_at_number id (Some v) uses) ≤ dropped_room_now
      → ((n : ℕ) (u : Use) → use_at uses n ≡ Some u → u.root ≢ v.root)
      → ((n : ℕ) → n < length owners → get_or owners_now n 0 ≡ get_or owners n 0) → length owners ≤ length owners_now → v.root.number < length owners_now
      → IsKeptRegistry (put_at_number id (Some v) uses) vacant_now dropped (set owners_now v.root.number id) vacant_room_now dropped_room_now
  kept-added id v vacant_now owners_now vacant_room_now dropped_room_now none once idle vacant_fit dropped_fit apart stay longer within =
      let long = long-put uses id (Some v) in
      record {
        gone = λ n was_idle. let was = idle n was_idle in let of = kept.gone n was.0 in (omega (arith, long.0, of.0), beside-put uses id (Some v) n was.1 ∙ of.1);
        once = once;
        vacant_fit = vacant_fit;
        dropped_fit = dropped_fit;
        owned = λ n w e. elim (is_same n id) [
          | inl same ↦ let of = some-is (sym (at-put uses id (Some v)) ∙ ap (λ k. use_at (put_at_number id (Some v) uses) k) (sym same) ∙ e) in
              subst (λ (x : Use). (x.root.number < length (set owners_now v.root.number id)) × (get_or (set owners_now v.root.number id) x.root.number 0 ≡ n)) of
              (omega (arith, within, length-set owners_now v.root.number id), get_or-set_same owners_now v.root.number id 0 within ∙ sym same)
          | inr other ↦
              let known = sym (beside-put uses id (Some v) n other) ∙ e in let of = kept.owned n w known in
              let ne : w.root.number ≢ v.root.number = λ eq. apart n w known (same-root w.root v.root eq) in
              (omega (arith, of.0, longer, length-set owners_now v.root.number id), get_or-set_other owners_now v.root.number w.root.number id 0 ne ∙ stay w.root.number of.0 ∙ of.1)
        ];
      }

  -- a chain is gone
  pub kept-removed : (id : ℕ) → IsSome (use_at uses id) → IsKeptRegistry (put_at_number id None uses) vacant (dropped ++ id ∷ []) owners vacant_room dropped_room
  kept-removed id some =
      let lt = there uses id some in
      let long : length (put_at_number id None uses) ≡ length uses = ap length (sym (put-within uses id None lt)) ∙ length-set uses id None in
      let gone-at : (n : ℕ) → use_at uses n ≡ None → use_at (put_at_number id None uses) n ≡ None =
      λ n e. elim (is_same n id) [ inl same ↦ ap (λ k. use_at (put_at_number id None uses) k) same ∙ at-put uses id None | inr other ↦ beside-put uses id None n other ∙ e ] in
      record {
        gone = λ n idle. elim (IsOneOf-parts (vacant ++ dropped) (id ∷ []) n (subst (λ ns. IsNumberIn ns n) (sym (append_assoc vacant dropped (id ∷ []))) idle)) [
          | inl was ↦ let of = kept.gone n was in (omega (arith, long, of.0), gone-at n of.1)
          | inr this ↦ elim this [ inl e ↦ (omega (arith, long, lt, e), ap (λ k. use_at (put_at_number id None uses) k) (sym e) ∙ at-put uses id None) | inr none ↦ absurd none ]
        ];
        once = subst AreOnce (append_assoc vacant dropped (id ∷ [])) (AreOnce-push (vacant ++ dropped) id kept.once (not-idle id some));
        vacant_fit = omega (arith, long, kept.vacant_fit);
        dropped_fit = omega (arith, long, kept.dropped_fit);
        owned = λ n w e. elim (is_same n id) [
          | inl same ↦ absurd (none-is-some w (sym (at-put uses id None) ∙ ap (λ k. use_at (put_at_number id None uses) k) (sym same) ∙ e))
          | inr other ↦ kept.owned n w (sym (beside-put uses id None n other) ∙ e)
        ];
      }

  -- there is room for its number among the dropped ones
  pub dropped-room : (id : ℕ) → IsSome (use_at uses id) → length dropped < dropped_room
  dropped-room id some =
      let all = AreOnce-push (vacant ++ dropped) id kept.once (not-idle id some) in
      let few = length-AreOnce ((vacant ++ dropped) ++ id ∷ []) (length uses) all
      (λ n one. elim (IsOneOf-parts (vacant ++ dropped) (id ∷ []) n one) [ inl was ↦ (kept.gone n was).0 | inr this ↦ elim this [ inl e ↦ omega (arith, there uses id some, e) | inr none ↦ absurd none ] ]) in
      omega (arith, few, length-append (vacant ++ dropped) (id ∷ []), length-append vacant dropped, kept.dropped_fit)

-- the first dropped number is told, and may be used again
pub kept-told : (uses : List (Option Use)) (vacant : List ℕ) (id : ℕ) (dropped owners : List ℕ) (vacant_room dropped_room : ℕ) → IsKeptRegistry uses vacant (id ∷ dropped) owners vacant_room dropped_room
    → IsKeptRegistry uses (vacant ++ id ∷ []) dropped owners vacant_room dropped_room
kept-told uses vacant id dropped owners vacant_room dropped_room kept =
    let same : vacant ++ (id ∷ dropped) ≡ (vacant ++ id ∷ []) ++ dropped = sym (append_assoc vacant (id ∷ []) dropped) in
    record {
      gone = λ n idle. kept.gone n (subst (λ ns. IsNumberIn ns n) (sym same) idle);
      once = subst AreOnce same kept.once;
      vacant_fit = kept.vacant_fit;
      dropped_fit = kept.dropped_fit;
      owned = kept.owned;
    }

-- there is room for it among the vacant ones
pub vacant-room : (uses : List (Option Use)) (vacant : List ℕ) (id : ℕ) (dropped owners : List ℕ) (vacant_room dropped_room : ℕ) → IsKeptRegistry uses vacant (id ∷ dropped) owners vacant_room dropped_room
    → length vacant < vacant_room
vacant-room uses vacant id dropped owners vacant_room dropped_room kept =
    let few = length-AreOnce (vacant ++ id ∷ dropped) (length uses) kept.once (λ n one. (kept.gone n one).0) in
    omega (arith, few, length-append vacant (id ∷ dropped), kept.vacant_fit)

-- ---- one chain's use is changed

-- a registry as it is seen
abbrev pub seen : List (Option Use) → List ℕ → Registry
seen uses dropped = record { uses = uses; dropped = dropped }

-- what an index within the list reads
pub index-is : (uses : List (Option Use)) (id : ℕ) (c : Option Use) → id < length uses → get_or uses id c ≡ use_at uses id
index-is [] id c lt = absurd (omega arith)
index-is (u ∷ us) zero c lt = refl
index-is (u ∷ us) (suc id) c lt = index-is us id c (omega arith)

module _ (uses : List (Option Use)) (dropped : List ℕ) (r : Registry) (view : seen uses dropped ≡ r) (id : ℕ) (some : IsThere r id) where
  -- the chain is there
  pub is-there : IsSome (use_at uses id)
  is-there = subst (λ (s : Registry). IsThere s id) (sym view) some

  pub is-within : id < length uses
  is-within = there uses id is-there

  pub is-known : (u : Use) × (use_at uses id ≡ Some u)
  is-known = chain_of (use_at uses id) is-there

  -- what is read at its index
  read-chain : (c : Option Use) → c ≡ get_or uses id c → c ≡ Some is-known.0
  read-chain c e = e ∙ index-is uses id c is-within ∙ is-known.1

  pub seen-by : (f : Use → Use) (c d : Option Use) → c ≡ get_or uses id c → d ≡ option_map f c → seen (set uses id d) dropped ≡ on_use id f r
  seen-by f c d read e =
      let known : d ≡ option_map f (use_at uses id) = e ∙ ap (option_map f) (read ∙ index-is uses id c is-within) in
      ap (λ us. seen us dropped) (put-within uses id d is-within ∙ ap (λ x. put_at_number id x uses) known) ∙ ap (on_use id f) view

  pub kept-by : (f : Use → Use) (keeps : (u : Use) → (f u).root ≡ u.root) (vacant owners : List ℕ) (vacant_room dropped_room : ℕ) → IsKeptRegistry uses vacant dropped owners vacant_room dropped_room
      → (c d : Option Use) → c ≡ get_or uses id c → d ≡ option_map f c → IsKeptRegistry (set uses id d) vacant dropped owners vacant_room dropped_room
  kept-by f keeps vacant owners vacant_room dropped_room kept c d read e =
      let u = is-known.0 in
      let changed : put_at_number id (Some (f u)) uses ≡ set uses id d = ap (λ x. put_at_number id x uses) (sym (e ∙ ap (option_map f) (read-chain c read))) ∙ sym (put-within uses id d is-within) in
      subst (λ us. IsKeptRegistry us vacant dropped owners vacant_room dropped_room) changed (kept-changed uses vacant dropped owners vacant_room dropped_room kept id u (f u) is-known.1 (keeps u))

-- ---- one more chain

nothing-behind : (uses : List (Option Use)) (id : ℕ) → length uses ≤ id → use_at uses id ≡ None
nothing-behind [] id le = refl
nothing-behind (u ∷ us) zero le = absurd (omega arith)
nothing-behind (u ∷ us) (suc id) le = nothing-behind us id (omega arith)

-- what is known of a number that was taken
pub record IsNew (uses now : List (Option Use)) (vacant left dropped : List ℕ) (id : ℕ) : Type 0 where
  pub none : use_at uses id ≡ None
  pub fresh : IsNumberIn dropped id → ⊥
  pub within : id < length now
  pub made : (c : Option Use) → set now id c ≡ put_at_number id c uses
  pub once : AreOnce (left ++ dropped)
  pub idle : (n : ℕ) → IsNumberIn (left ++ dropped) n → IsNumberIn (vacant ++ dropped) n × n ≢ id
  pub long : (c : Option Use) (room : ℕ) → length uses ≤ room → (vacant ≡ [] → length uses < room) → length (put_at_number id c uses) ≤ room

pub taken-new : (uses now : List (Option Use)) (vacant left dropped owners : List ℕ) (vacant_room dropped_room id : ℕ) → IsKeptRegistry uses vacant dropped owners vacant_room dropped_room → IsTakenNumber uses now vacant left id
    → IsNew uses now vacant left dropped id
taken-new uses now vacant left dropped owners vacant_room dropped_room id kept taken = elim taken [ inl again ↦ by-again again | inr more ↦ by-more more ]
  where
    by-again : (vacant ≡ left ++ id ∷ []) × (now ≡ uses) → IsNew uses now vacant left dropped id
    by-again (is, same) =
        let all : vacant ++ dropped ≡ left ++ id ∷ dropped = ap (λ ns. ns ++ dropped) is ∙ append_assoc left (id ∷ []) dropped in
        let once : AreOnce (left ++ id ∷ dropped) = subst AreOnce all kept.once in
        let of = kept.gone id (subst (λ ns. IsNumberIn ns id) (sym all) (IsOneOf-back left (id ∷ dropped) id (inl refl))) in
        record {
          none = of.1;
          fresh = λ one. AreOnce-apart left dropped id once (IsOneOf-back left dropped id one);
          within = subst (λ us. id < length us) (sym same) of.0;
          made = λ c. ap (λ us. set us id c) same ∙ put-within uses id c of.0;
          once = AreOnce-without left dropped id once;
          idle = λ n one. (
            subst (λ ns. IsNumberIn ns n) (sym all) (elim (IsOneOf-parts left dropped n one) [ inl a ↦ IsOneOf-front left (id ∷ dropped) n a | inr b ↦ IsOneOf-back left (id ∷ dropped) n (inr b) ]),
            λ e. AreOnce-apart left dropped id once (subst (λ k. IsNumberIn (left ++ dropped) k) e one),
          );
          long = λ c room fit more. omega (arith, fit, ap length (sym (put-within uses id c of.0)), length-set uses id c);
        }

    by-more : (vacant ≡ []) × (left ≡ []) × (id ≡ length uses) × (now ≡ uses ++ None ∷ []) → IsNew uses now vacant left dropped id
    by-more (none, none_left, is, longer) =
        let not-there : (n : ℕ) → IsNumberIn (vacant ++ dropped) n → n ≢ id = λ n one e. omega (arith, (kept.gone n one).0, e, is) in
        let long : length (uses ++ None ∷ []) ≡ length uses + 1 = length-append uses (None ∷ []) in
        record {
          none = nothing-behind uses id (omega (arith, is));
          fresh = λ one. not-there id (IsOneOf-back vacant dropped id one) refl;
          within = subst (λ us. id < length us) (sym longer) (omega (arith, long, is));
          made = λ c. ap (λ us. set us id c) longer ∙ last uses id c is ∙ put-behind uses id c is;
          once = subst (λ ns. AreOnce (ns ++ dropped)) (none ∙ sym none_left) kept.once;
          idle = λ n one. let was = subst (λ ns. IsNumberIn (ns ++ dropped) n) (none_left ∙ sym none) one in (was, not-there n was);
          long = λ c room fit more. omega (arith, more none, ap length (sym (put-behind uses id c is)), length-append uses (c ∷ []));
        }
      where
        last : (us : List (Option Use)) (k : ℕ) (c : Option Use) → k ≡ length us → set (us ++ None ∷ []) k c ≡ us ++ c ∷ []
        last [] zero c e = refl
        last [] (suc k) c e = absurd (omega arith)
        last (u ∷ us) zero c e = absurd (omega arith)
        last (u ∷ us) (suc k) c e = ap (λ vs. u ∷ vs) (last us k c (omega arith))

-- owners that reach further
pub kept-wider : (uses : List (Option Use)) (vacant dropped owners wider : List ℕ) (vacant_room dropped_room vacant_wider dropped_wider : ℕ) → IsKeptRegistry uses vacant dropped owners vacant_room dropped_room
    → IsLonger owners wider → vacant_room ≤ vacant_wider → dropped_room ≤ dropped_wider → IsKeptRegistry uses vacant dropped wider vacant_wider dropped_wider
kept-wider uses vacant dropped owners wider vacant_room dropped_room vacant_wider dropped_wider kept longer vacant_le dropped_le =
    record {
      gone = kept.gone;
      once = kept.once;
      vacant_fit = omega (arith, kept.vacant_fit);
      dropped_fit = omega (arith, kept.dropped_fit);
      owned = λ id u e. let of = kept.owned id u e in (omega (arith, of.0, longer.longer), longer.stay u.root.number of.0 ∙ of.1);
    }

pub taken-then : (uses same now : List (Option Use)) (vacant same_vacant left dropped owners : List ℕ) (vacant_room dropped_room id : ℕ) → IsKeptRegistry uses vacant dropped owners vacant_room dropped_room
    → same ≡ uses → same_vacant ≡ vacant → IsTakenNumber same now same_vacant left id → IsNew uses now vacant left dropped id
taken-then uses same now vacant same_vacant left dropped owners vacant_room dropped_room id kept e f taken =
    taken-new uses now vacant left dropped owners vacant_room dropped_room id kept (subst (λ us. IsTakenNumber us now vacant left id) e (subst (λ ns. IsTakenNumber same now ns left id) f taken))

-- no other chain stands behind the root slot
pub no-other : (uses : List (Option Use)) (dropped : List ℕ) (r : Registry) → seen uses dropped ≡ r → (root : Root) → ((id : ℕ) → HasRoot r root id → ⊥) → (n : ℕ) (u : Use) → use_at uses n ≡ Some u → u.root ≢ root
no-other uses dropped r view root free n u known e =
    free n (subst (λ (s : Registry). HasRoot s root n) view (subst (λ c. IsSomeAnd c (λ w. w.root ≡ root)) (sym known) e))

-- ---- a snapshot more or less

-- the chain is there of which something else is known besides
pub some-of : (P : Use → Type 0) (c : Option Use) → IsSomeAnd c P → IsSome c
some-of P None h = absurd h
some-of P (Some u) h = refl

-- what follows where a call succeeds
pub then-ok : {A E P Q : Type 0} (result : Result A E) → (P → Q) → OnOk result P → OnOk result Q
then-ok (Ok a) f h = f h
then-ok (Err e) f h = h

module _ (uses : List (Option Use)) (dropped : List ℕ) (r : Registry) (view : seen uses dropped ≡ r) (id : ℕ) (some : IsThere r id) where
  -- a call that may fail changes a chain, or leaves it as it is
  pub kept-if : {A E : Type 0} (result : Result A E) (f : Use → Use) (keeps : (u : Use) → (f u).root ≡ u.root) (vacant owners : List ℕ) (vacant_room dropped_room : ℕ) → IsKeptRegistry uses vacant dropped owners vacant_room dropped_room
      → (c d : Option Use) → c ≡ get_or uses id c → OnOk result (d ≡ option_map f c) → OnErr result (d ≡ c) → IsKeptRegistry (set uses id d) vacant dropped owners vacant_room dropped_room
  kept-if (Ok a) f keeps vacant owners vacant_room dropped_room kept c d read ok err = kept-by uses dropped r view id some f keeps vacant owners vacant_room dropped_room kept c d read ok
  kept-if (Err e) f keeps vacant owners vacant_room dropped_room kept c d read ok err =
      kept-by uses dropped r view id some (λ u. u) (λ u. refl) vacant owners vacant_room dropped_room kept c d read (err ∙ same c)
    where
      same : (c : Option Use) → c ≡ option_map (λ u. u) c
      same None = refl
      same (Some u) = refl

-- the slot of a chain's root has an owner
pub has-owner : (uses : List (Option Use)) (vacant dropped owners : List ℕ) (vacant_room dropped_room : ℕ) (kept : IsKeptRegistry uses vacant dropped owners vacant_room dropped_room) (r : Registry) → seen uses dropped ≡ r
    → (root : Root) (id : ℕ) → HasRoot r root id → (root.number < length owners) × (get_or owners root.number 0 ≡ id)
has-owner uses vacant dropped owners vacant_room dropped_room kept r view root id has =
    at (use_at uses id) refl (subst (λ (s : Registry). HasRoot s root id) (sym view) has)
  where
    at : (c : Option Use) → use_at uses id ≡ c → IsSomeAnd c (λ u. u.root ≡ root) → (root.number < length owners) × (get_or owners root.number 0 ≡ id)
    at None e h = absurd h
    at (Some u) e h = subst (λ (s : Root). (s.number < length owners) × (get_or owners s.number 0 ≡ id)) h (kept.owned id u e)
