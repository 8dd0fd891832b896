-- The books of a pool stay in order over each change of one segment's usage.
use Rattle.std.proofs.Common.{◌≡◌, ◌≢◌, ℕ, ◌+◌, ◌-◌, ◌*◌, ◌/◌, ◌<◌, ◌≤◌, false, cond, List, length, get_or, Option, Some, None, refl, sym, ap, ◌∙◌, subst, arith}
use Rattle.std.specs.Option.{option_map_or}
use Rattle.std.proofs.Math.ListN.{set}
use Rattle.std.proofs.lemmas.List.{length-set, get_or-set_same, get_or-set_other}
use Rattle.std.proofs.lemmas.List.Sums.{sum_by-set, count_by-le-length}
use Rattle.lsa_pool.specs.declared.State.{State}
use Rattle.lsa_pool.specs.declared.State.TheVariants.{Free, Active, Closed}
use Rattle.lsa_pool.specs.declared.Usage.{Usage}
use Rattle.lsa_pool.specs.Room.{nothing, usage_of, free_count, live_sum, active_of, is_state_free, is_state_active, active_room, spare_of}
use Rattle.lsa_pool.specs.Account.{IsKept}
use Rattle.lsa_pool.specs.laws.Usages.{within, set_elim, position-at, position-none}

not_active : (s : State) → (s ≡ Active → ⊥) → is_state_active s ≡ false
not_active Free h = refl
not_active Active h = absurd (h refl)
not_active Closed h = refl

not_free : (s : State) → (s ≡ Free → ⊥) → is_state_free s ≡ false
not_free Free h = absurd (h refl)
not_free Active h = refl
not_free Closed h = refl

pub active-kept : (size : ℕ) (us : List Usage) (free_list : List ℕ) (free_len : ℕ) (active : Option ℕ) → IsKept size us free_list free_len active → active_of us ≡ active
active-kept size us free_list free_len None kept =
    position-none (λ u. is_state_active u.state) us (λ k lt. not_active (usage_of us k).state (λ e. let no = kept.only k e in cc))
active-kept size us free_list free_len (Some n) kept =
    let here = kept.active_is n refl in
    position-at (λ u. is_state_active u.state) us n (within us n (λ e. let clash = sym e ∙ here in cc)) (ap is_state_active here)
    (λ k lt. not_active (usage_of us k).state (λ e. let same = kept.only k e in let equal : n ≡ k = cc in omega arith))

pub free_count-set : (us : List Usage) (n : ℕ) (u : Usage) → n < length us
    → free_count (set us n u) + cond (is_state_free (usage_of us n).state) 1 0 ≡ free_count us + cond (is_state_free u.state) 1 0
free_count-set us n u lt = sum_by-set (λ v. cond (is_state_free v.state) 1 0) us n u nothing lt

pub live_sum-set : (us : List Usage) (n : ℕ) (u : Usage) → n < length us → live_sum (set us n u) + (usage_of us n).live ≡ live_sum us + u.live
live_sum-set us n u lt = sum_by-set (λ v. v.live) us n u nothing lt

module _ (size : ℕ) (us : List Usage) (free_list : List ℕ) (free_len : ℕ) (active : Option ℕ) (kept : IsKept size us free_list free_len active) where
  -- a change that leaves the state
  pub kept-change : (n : ℕ) (u : Usage) → n < length us → u.state ≡ (usage_of us n).state → u.state ≢ Free → u.used ≤ size → u.live ≤ u.used
      → IsKept size (set us n u) free_list free_len active
  kept-change n u lt same busy used live =
      let states : (m : ℕ) → (usage_of (set us n u) m).state ≡ (usage_of us m).state = λ m. set_elim nothing (λ k v. v.state ≡ (usage_of us k).state) us n u m lt same (λ _. refl) in
      let count : ◌≡◌ {A = ℕ} (cond (is_state_free u.state) 1 0) (cond (is_state_free (usage_of us n).state) 1 0) = ap (λ s. cond (is_state_free s) 1 0) same in
      record {
        few = omega (arith, length-set us n u, kept.few);
        small = kept.small;
        sound = record {
          used = λ m. set_elim nothing (λ _ v. v.used ≤ size) us n u m lt used (λ _. kept.sound.used m);
          live = λ m. set_elim nothing (λ _ v. v.live ≤ v.used) us n u m lt live (λ _. kept.sound.live m);
          empty = λ m. set_elim nothing (λ _ v. v.state ≡ Free → v.used ≡ 0) us n u m lt (λ e. absurd (busy e)) (λ _. kept.sound.empty m);
          one_active = λ m k a b. kept.sound.one_active m k (sym (states m) ∙ a) (sym (states k) ∙ b);
        };
        long = kept.long ∙ sym (length-set us n u);
        counted = omega (arith, kept.counted, free_count-set us n u lt, count);
        inside = λ k below. omega (arith, length-set us n u, kept.inside k below);
        listed = λ k below. states (get_or free_list k 0) ∙ kept.listed k below;
        once = kept.once;
        active_is = λ m e. states m ∙ kept.active_is m e;
        only = λ m e. kept.only m (sym (states m) ∙ e);
      }

  pub kept-close : (n : ℕ) → active ≡ Some n → IsKept size (set us n (record (usage_of us n) { state = Closed })) free_list free_len None
  kept-close n is =
      let u : Usage = record (usage_of us n) { state = Closed } in
      let here = kept.active_is n is in
      let lt = within us n (λ e. let clash = sym e ∙ here in cc) in
      let none : (m : ℕ) → (usage_of (set us n u) m).state ≡ Active → ⊥ =
      λ m. set_elim nothing (λ _ v. v.state ≡ Active → ⊥) us n u m lt (λ e. cc) (λ ne e. let same = kept.only m e in let equal : m ≡ n = cc in ne equal) in
      let count : ◌≡◌ {A = ℕ} (cond (is_state_free (usage_of us n).state) 1 0) 0 = ap (λ s. cond (is_state_free s) 1 0) here in
      record {
        few = omega (arith, length-set us n u, kept.few);
        small = kept.small;
        sound = record {
          used = λ m. set_elim nothing (λ _ v. v.used ≤ size) us n u m lt (kept.sound.used n) (λ _. kept.sound.used m);
          live = λ m. set_elim nothing (λ _ v. v.live ≤ v.used) us n u m lt (kept.sound.live n) (λ _. kept.sound.live m);
          empty = λ m. set_elim nothing (λ _ v. v.state ≡ Free → v.used ≡ 0) us n u m lt (λ e. cc) (λ _. kept.sound.empty m);
          one_active = λ m k a b. absurd (none m a);
        };
        long = kept.long ∙ sym (length-set us n u);
        counted = omega (arith, kept.counted, free_count-set us n u lt, count);
        inside = λ k below. omega (arith, length-set us n u, kept.inside k below);
        listed = λ k below. set_elim nothing (λ j v. (usage_of us j).state ≡ Free → v.state ≡ Free) us n u (get_or free_list k 0) lt (λ e. let clash = sym e ∙ here in cc) (λ _ e. e) (kept.listed k below);
        once = kept.once;
        active_is = λ m e. cc;
        only = λ m e. absurd (none m e);
      }

  pub kept-take : (n before : ℕ) → active ≡ None → free_len ≡ before + 1 → n ≡ get_or free_list before 0
      → IsKept size (set us n (record nothing { state = Active })) free_list before (Some n)
  kept-take n before none counted is =
      let u : Usage = record nothing { state = Active } in
      let lt : n < length us = omega (arith, kept.inside before (omega arith)) in
      let free : (usage_of us n).state ≡ Free = ap (λ k. (usage_of us k).state) is ∙ kept.listed before (omega arith) in
      let idle : (m : ℕ) → (usage_of us m).state ≡ Active → ⊥ = λ m e. let some = kept.only m e in cc in
      let is_n : (m : ℕ) → (usage_of (set us n u) m).state ≡ Active → m ≡ n =
      λ m. set_elim nothing (λ j v. v.state ≡ Active → j ≡ n) us n u m lt (λ _. refl) (λ _ e. absurd (idle m e)) in
      let count : ◌≡◌ {A = ℕ} (cond (is_state_free (usage_of us n).state) 1 0) 1 = ap (λ s. cond (is_state_free s) 1 0) free in
      record {
        few = omega (arith, length-set us n u, kept.few);
        small = kept.small;
        sound = record {
          used = λ m. set_elim nothing (λ _ v. v.used ≤ size) us n u m lt (omega arith) (λ _. kept.sound.used m);
          live = λ m. set_elim nothing (λ _ v. v.live ≤ v.used) us n u m lt (omega arith) (λ _. kept.sound.live m);
          empty = λ m. set_elim nothing (λ _ v. v.state ≡ Free → v.used ≡ 0) us n u m lt (λ e. refl) (λ _. kept.sound.empty m);
          one_active = λ m k a b. is_n m a ∙ sym (is_n k b);
        };
        long = kept.long ∙ sym (length-set us n u);
        counted = omega (arith, kept.counted, free_count-set us n u lt, count);
        inside = λ k below. omega (arith, length-set us n u, kept.inside k (omega arith));
        listed = λ k below. set_elim nothing (λ j v. j ≢ n → (usage_of us j).state ≡ Free → v.state ≡ Free) us n u (get_or free_list k 0) lt (λ ne e. absurd (ne refl)) (λ _ _ e. e)
            (λ e. kept.once k before below (omega arith) (e ∙ is)) (kept.listed k (omega arith));
        once = λ j k less below. kept.once j k less (omega arith);
        active_is = λ m e. let same : m ≡ n = cc in set_elim nothing (λ j v. j ≡ n → v.state ≡ Active) us n u m lt (λ _. refl) (λ ne is_m. absurd (ne is_m)) same;
        only = λ m e. ap (λ k. Some k) (sym (is_n m e));
      }

  -- where one segment is not free, the list of the free ones has room
  pub give_room : (n : ℕ) → (usage_of us n).state ≡ Closed → free_len < length free_list
  give_room n closed =
      let lt = within us n (λ e. let clash = sym e ∙ closed in cc) in
      let count : ◌≡◌ {A = ℕ} (cond (is_state_free (usage_of us n).state) 1 0) 0 = ap (λ s. cond (is_state_free s) 1 0) closed in
      omega (arith, kept.counted, kept.long, count, free_count-set us n nothing lt, count_by-le-length (λ v. is_state_free v.state) (set us n nothing), length-set us n nothing)

  -- the last number of the list is that of a free segment
  pub take_free : (n before : ℕ) → free_len ≡ before + 1 → n ≡ get_or free_list before 0 → (usage_of us n).state ≡ Free
  take_free n before counted is = ap (λ k. (usage_of us k).state) is ∙ kept.listed before (omega arith)

  pub take_inside : (n before : ℕ) → free_len ≡ before + 1 → n ≡ get_or free_list before 0 → n < length us
  take_inside n before counted is = omega (arith, kept.inside before (omega arith))

  pub kept-give : (n : ℕ) → (usage_of us n).state ≡ Closed → IsKept size (set us n nothing) (set free_list free_len n) (free_len + 1) active
  kept-give n closed =
      let lt = within us n (λ e. let clash = sym e ∙ closed in cc) in
      let count : ◌≡◌ {A = ℕ} (cond (is_state_free (usage_of us n).state) 1 0) 0 = ap (λ s. cond (is_state_free s) 1 0) closed in
      let more = free_count-set us n nothing lt in
      let room = give_room n closed in
      let back : (m : ℕ) → (usage_of (set us n nothing) m).state ≡ Active → (usage_of us m).state ≡ Active =
      λ m. set_elim nothing (λ j v. v.state ≡ Active → (usage_of us j).state ≡ Active) us n nothing m lt (λ e. cc) (λ _ e. e) in
      record {
        few = omega (arith, length-set us n nothing, kept.few);
        small = kept.small;
        sound = record {
          used = λ m. set_elim nothing (λ _ v. v.used ≤ size) us n nothing m lt (omega arith) (λ _. kept.sound.used m);
          live = λ m. set_elim nothing (λ _ v. v.live ≤ v.used) us n nothing m lt (omega arith) (λ _. kept.sound.live m);
          empty = λ m. set_elim nothing (λ _ v. v.state ≡ Free → v.used ≡ 0) us n nothing m lt (λ e. refl) (λ _. kept.sound.empty m);
          one_active = λ m k a b. kept.sound.one_active m k (back m a) (back k b);
        };
        long = length-set free_list free_len n ∙ kept.long ∙ sym (length-set us n nothing);
        counted = omega (arith, kept.counted, more, count);
        inside = λ k below. set_elim 0 (λ j v. j < free_len + 1 → v < length (set us n nothing)) free_list free_len n k room (λ _. omega (arith, length-set us n nothing))
            (λ ne less. omega (arith, length-set us n nothing, kept.inside k (omega arith))) below;
        listed = λ k below. set_elim 0 (λ j v. j < free_len + 1 → (usage_of (set us n nothing) v).state ≡ Free) free_list free_len n k room
            (λ _. ap (λ v. v.state) (get_or-set_same us n nothing nothing lt))
            (λ ne less. set_elim nothing (λ j w. (usage_of us j).state ≡ Free → w.state ≡ Free) us n nothing (get_or free_list k 0) lt (λ _. refl) (λ _ e. e) (kept.listed k (omega arith))) below;
        once = λ j k less below. let old : get_or (set free_list free_len n) j 0 ≡ get_or free_list j 0 = get_or-set_other free_list free_len j n 0 (omega arith) in
            set_elim 0 (λ i v. j < i → i < free_len + 1 → get_or (set free_list free_len n) j 0 ≢ v) free_list free_len n k room
            (λ before _ e. let free = kept.listed j (omega arith) in let same = ap (λ i. (usage_of us i).state) (sym old ∙ e) in let clash = sym free ∙ same ∙ closed in cc)
            (λ ne before upto e. kept.once j k before (omega arith) (sym old ∙ e)) less below;
        active_is = λ m e. set_elim nothing (λ j v. (usage_of us j).state ≡ Active → v.state ≡ Active) us n nothing m lt (λ busy. let clash = sym busy ∙ closed in cc) (λ _ busy. busy) (kept.active_is m e);
        only = λ m e. kept.only m (back m e);
      }

-- ---- what each call leaves, from what it read of the segment

module _ (size : ℕ) (us : List Usage) (free_list : List ℕ) (free_len : ℕ) (active : Option ℕ) (kept : IsKept size us free_list free_len active) (n : ℕ) where
  pub is_active : active_of us ≡ Some n → active ≡ Some n
  is_active e = sym (active-kept size us free_list free_len active kept) ∙ e

  pub active_within : active_of us ≡ Some n → n < length us
  active_within e = let here = kept.active_is n (is_active e) in within us n (λ free. let clash = sym free ∙ here in cc)

  pub active_state : active_of us ≡ Some n → (usage_of us n).state ≡ Active
  active_state e = kept.active_is n (is_active e)

  pub closes : active_of us ≡ Some n → (r : Usage) → r ≡ usage_of us n → IsKept size (set us n (record { state = Closed; used = r.used; live = r.live })) free_list free_len None
  closes e r read = subst (λ (v : Usage). IsKept size (set us n (record { state = Closed; used = v.used; live = v.live })) free_list free_len None) (sym read)
      (kept-close size us free_list free_len active kept n (is_active e))

  pub credits : (more : ℕ) → active_of us ≡ Some n → (r : Usage) → r ≡ usage_of us n → r.used + more ≤ size
      → IsKept size (set us n (record { state = r.state; used = r.used + more; live = r.live + more })) free_list free_len active
  credits more e r read fits =
      let state = ap (λ v. v.state) read in
      kept-change size us free_list free_len active kept n (record { state = r.state; used = r.used + more; live = r.live + more }) (active_within e) state
      (λ free. let clash = sym free ∙ state ∙ active_state e in cc) fits (omega (arith, kept.sound.live n, ap (λ v. v.live) read, ap (λ v. v.used) read))

  pub debits : (less : ℕ) → (usage_of us n).state ≢ Free → (r : Usage) → r ≡ usage_of us n
      → IsKept size (set us n (record { state = r.state; used = r.used; live = r.live - less })) free_list free_len active
  debits less busy r read =
      let state = ap (λ v. v.state) read in
      kept-change size us free_list free_len active kept n (record { state = r.state; used = r.used; live = r.live - less }) (within us n busy) state (λ free. busy (sym state ∙ free))
      (omega (arith, kept.sound.used n, ap (λ v. v.used) read)) (omega (arith, kept.sound.live n, ap (λ v. v.live) read, ap (λ v. v.used) read))

-- ---- what is spare

pub active_room-some : (size : ℕ) (us : List Usage) (n : ℕ) → active_of us ≡ Some n → active_room size us ≡ size - (usage_of us n).used
active_room-some size us n e = ap (λ o. option_map_or (λ k. size - (usage_of us k).used) o 0) e

pub active_room-none : (size : ℕ) (us : List Usage) → active_of us ≡ None → active_room size us ≡ 0
active_room-none size us e = ap (λ o. option_map_or (λ k. size - (usage_of us k).used) o 0) e

pub spare-parts : (size : ℕ) (us : List Usage) (free room part : ℕ) → free ≡ free_count us → room ≡ active_room size us → part ≡ room - size / 8
    → (free - 1) * (7 * size / 8) + part ≡ spare_of size us
spare-parts size us free room part counted is less =
    ap (λ k. (k - 1) * (7 * size / 8) + part) counted ∙ ap (λ k. (free_count us - 1) * (7 * size / 8) + k) (less ∙ ap (λ r. r - size / 8) is)
