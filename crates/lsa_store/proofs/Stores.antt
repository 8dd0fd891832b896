-- What every store keeps, after each change.
use Rattle.std.proofs.Common.{◌≡◌, ◌≢◌, ℕ, zero, suc, ◌+◌, ◌-◌, ◌*◌, ◌%◌, ◌^◌, ◌<◌, ◌≤◌, List, [], ◌∷◌, ◌++◌, length, replicate, get_or, Some, refl, sym, ap, ◌∙◌, subst, arith}
use Rattle.std.specs.Prelude.{is_some, All, IsSome}
use Rattle.std.proofs.Math.ListN.{set}
use Rattle.std.proofs.lemmas.List.{length-set, length-replicate, get_or-set_same, get_or-set_other}
use Rattle.std.proofs.lemmas.List.Sums.{sum_by-cons}
use Rattle.std.proofs.lemmas.List.Folds.{sum_by-replicate}
use Rattle.std.proofs.lemmas.List.Elements.{All-nil, All-cons, All-head, All-tail, All-push}
use Rattle.lsa_pool.specs.declared.Usage.{Usage}
use Rattle.lsa_pool.specs.declared.State.TheVariants.{Active}
use Rattle.lsa_pool.specs.Room.{nothing, usage_of, active_of}
use Rattle.lsa_pool.specs.Account.{IsSound}
use Rattle.lsa_pool.specs.laws.Usages.{set_elim}
use Rattle.lsa_yard.specs.Cells.{Cell, size_of, extent, IsReplaced}
use Rattle.lsa_yard.specs.laws.Changes.{replaced-sums}
use Rattle.lsa_store.specs.declared.place.Ref.{Ref}
use Rattle.lsa_store.specs.Objects.{cells_of, cell_in, live_size, live_in, live_count, object_count, IsChangedIn, IsPutIn}
use Rattle.lsa_store.specs.Stored.{Stored, IsStored, IsFitting}
use Rattle.lsa_store.specs.laws.Sums.{count-within}
use Rattle.lsa_store.specs.laws.Places.{changed-is, changed-each, changed-elsewhere, changed-extent, changed-sum, put-each, put-elsewhere, put-extent, put-sum}

-- ---- how many objects there are

few_in : (cells : List (List Cell)) → ((n : ℕ) → extent (cells_of cells n) ≤ 2 ^ 27) → object_count cells ≤ length cells * 2 ^ 27
few_in [] within = omega arith
few_in (x ∷ cells) within = omega (arith, sum_by-cons live_count x cells, count-within x, within 0, few_in cells (λ n. within (suc n)))

-- there are never so many objects that their number does not fit
pub few-objects : (size : ℕ) (s : Stored) → IsStored size s → object_count s.cells ≤ 2 ^ 39
few-objects size s w =
    let each : (n : ℕ) → extent (cells_of s.cells n) ≤ 2 ^ 27 = λ n. omega (arith, w.filled n, w.sound.used n, w.small) in
    omega (arith, few_in s.cells each, w.count, w.few)

-- ---- each cell fits

all-middle : (P : Cell → Type 0) (before : List Cell) (c d : Cell) (behind : List Cell) → All P (before ++ c ∷ behind) → P d → All P (before ++ d ∷ behind)
all-middle P [] c d behind all p = All-cons P d behind p (All-tail P c behind all)
all-middle P (x ∷ before) c d behind all p =
    All-cons P x (before ++ d ∷ behind) (All-head P x (before ++ c ∷ behind) all) (all-middle P before c d behind (All-tail P x (before ++ c ∷ behind) all) p)

all-replaced : (P : Cell → Type 0) (old new : List Cell) (offset : ℕ) (was is : Cell) → IsReplaced old new offset was is → All P old → P is → All P new
all-replaced P old new offset was is r all p = subst (All P) (sym r.new_is) (all-middle P r.before was is r.behind (subst (All P) r.old_is all) p)

-- ---- a store in which nothing stands

replicate_at : {X : Type 0} (n m : ℕ) (x : X) → get_or (replicate n x) m x ≡ x
replicate_at zero m x = refl
replicate_at (suc n) zero x = refl
replicate_at (suc n) (suc m) x = replicate_at n m x

first_usage : (n m : ℕ) → ((usage_of (record nothing { state = Active } ∷ replicate n nothing) m).used ≡ 0) × ((usage_of (record nothing { state = Active } ∷ replicate n nothing) m).live ≡ 0)
first_usage n zero = (refl, refl)
first_usage n (suc m) = (ap (λ (u : Usage). u.used) (replicate_at n m nothing), ap (λ (u : Usage). u.live) (replicate_at n m nothing))

pub none-counted : (n : ℕ) → object_count (replicate n []) ≡ 0
none-counted n = sum_by-replicate live_count n [] ∙ omega arith

pub stored-open : (size n : ℕ) (cells : List (List Cell)) (us : List Usage) → size ≤ 2 ^ 27 → size % 64 ≡ 0 → length us ≡ n → n ≤ 4096 → 4 ≤ n → us ≡ record nothing { state = Active } ∷ replicate (n - 1) nothing
    → active_of us ≡ Some 0 → IsSound size us → cells ≡ replicate n [] → IsStored size (record { cells = cells; usages = us })
stored-open size n cells us small even long few some e active sound is =
    let empty : (m : ℕ) → cells_of cells m ≡ [] = λ m. ap (λ l. cells_of l m) is ∙ replicate_at n m [] in record {
      small = small;
      even = even;
      few = omega (arith, long);
      some = omega (arith, long);
      count = ap length is ∙ length-replicate n [] ∙ sym long;
      sound = sound;
      active = ap is_some active;
      filled = λ m. ap extent (empty m) ∙ sym (ap (λ l. (usage_of l m).used) e ∙ (first_usage (n - 1) m).0);
      live = λ m. ap live_in (empty m) ∙ sym (ap (λ l. (usage_of l m).live) e ∙ (first_usage (n - 1) m).1);
      fitting = λ m. subst (All (IsFitting size)) (sym (empty m)) (All-nil (IsFitting size));
    }

-- ---- after a change

module _ (size : ℕ) (cells : List (List Cell)) (us : List Usage) (s : IsStored size (record { cells = cells; usages = us })) where
  -- other states of the segments, of which as much is used and live
  pub stored-states : (us' : List Usage) → length us' ≡ length us → ((m : ℕ) → ((usage_of us' m).used ≡ (usage_of us m).used) × ((usage_of us' m).live ≡ (usage_of us m).live)) → IsSome (active_of us') → IsSound size us'
      → IsStored size (record { cells = cells; usages = us' })
  stored-states us' long same active sound = record {
    small = s.small;
    even = s.even;
    few = omega (arith, s.few, long);
    some = omega (arith, s.some, long);
    count = s.count ∙ sym long;
    sound = sound;
    active = active;
    filled = λ m. s.filled m ∙ sym (same m).0;
    live = λ m. s.live m ∙ sym (same m).1;
    fitting = s.fitting;
  }

  -- one cell is another one, of which as much is live
  pub stored-changed : (cells' : List (List Cell)) (r : Ref) (change : Cell → Cell) (c : Cell) → IsChangedIn cells cells' r change → cell_in cells r ≡ Some c → IsFitting size (change c) → live_size (change c) ≡ live_size c
      → IsStored size (record { cells = cells'; usages = us })
  stored-changed cells' r change c w here fits same =
      let is = changed-is cells cells' r change w c here in record {
        small = s.small;
        even = s.even;
        few = s.few;
        some = s.some;
        count = ap length w.is ∙ length-set cells r.segment w.after ∙ s.count;
        sound = s.sound;
        active = s.active;
        filled = λ m. changed-extent cells cells' r change w c here m ∙ s.filled m;
        live = λ m. changed-each cells cells' r change w c here (λ k l. live_in l ≡ live_in (cells_of cells k))
            (omega (arith, replaced-sums (cells_of cells r.segment) w.after r.offset c (change c) is live_size, same)) (λ k ne. refl) m ∙ s.live m;
        fitting = changed-each cells cells' r change w c here (λ k l. All (IsFitting size) l)
            (all-replaced (IsFitting size) (cells_of cells r.segment) w.after r.offset c (change c) is (s.fitting r.segment) fits) (λ k ne. s.fitting k);
      }

  -- one cell is another one, of which less is live
  pub stored-killed : (cells' : List (List Cell)) (us' : List Usage) (r : Ref) (change : Cell → Cell) (c : Cell) (bytes : ℕ) → IsChangedIn cells cells' r change → cell_in cells r ≡ Some c → IsFitting size (change c)
      → live_size (change c) + bytes ≡ live_size c → r.segment < length us → us' ≡ set us r.segment (record (usage_of us r.segment) { live = (usage_of us r.segment).live - bytes }) → IsSome (active_of us') → IsSound size us'
      → IsStored size (record { cells = cells'; usages = us' })
  stored-killed cells' us' r change c bytes w here fits less within after active sound =
      let is = changed-is cells cells' r change w c here in let n = r.segment in let u = usage_of us n in let v : Usage = record u { live = u.live - bytes } in
      let each : (P : ℕ → Usage → Type 0) → P n v → ((m : ℕ) → m ≢ n → P m (usage_of us m)) → (m : ℕ) → P m (usage_of us' m) =
      λ P at else m. subst (λ l. P m (usage_of l m)) (sym after) (set_elim nothing P us n v m within at (else m)) in
      let long = ap length after ∙ length-set us n v in record {
        small = s.small;
        even = s.even;
        few = omega (arith, s.few, long);
        some = omega (arith, s.some, long);
        count = ap length w.is ∙ length-set cells n w.after ∙ s.count ∙ sym long;
        sound = sound;
        active = active;
        filled = λ m. changed-extent cells cells' r change w c here m ∙ s.filled m ∙ sym (each (λ k x. x.used ≡ (usage_of us k).used) refl (λ k ne. refl) m);
        live = each (λ k x. live_in (cells_of cells' k) ≡ x.live)
            (omega (arith, changed-sum cells cells' r change w c here live_size, less, s.live n))
            (λ k ne. ap live_in (changed-elsewhere cells cells' r change w c here k ne) ∙ s.live k);
        fitting = changed-each cells cells' r change w c here (λ k l. All (IsFitting size) l)
            (all-replaced (IsFitting size) (cells_of cells n) w.after r.offset c (change c) is (s.fitting n) fits) (λ k ne. s.fitting k);
      }

  -- an object stands behind the others of a segment
  pub stored-put : (cells' : List (List Cell)) (us' : List Usage) (r : Ref) (c : Cell) (bytes : ℕ) → IsPutIn cells cells' r c → IsFitting size c → size_of c ≡ bytes → live_size c ≡ bytes
      → us' ≡ set us r.segment (record (usage_of us r.segment) { used = (usage_of us r.segment).used + bytes; live = (usage_of us r.segment).live + bytes }) → IsSome (active_of us') → IsSound size us'
      → IsStored size (record { cells = cells'; usages = us' })
  stored-put cells' us' r c bytes w fits takes lives after active sound =
      let n = r.segment in let u = usage_of us n in let v : Usage = record u { used = u.used + bytes; live = u.live + bytes } in let within : n < length us = omega (arith, w.inside, s.count) in
      let each : (P : ℕ → Usage → Type 0) → P n v → ((m : ℕ) → m ≢ n → P m (usage_of us m)) → (m : ℕ) → P m (usage_of us' m) =
      λ P at else m. subst (λ l. P m (usage_of l m)) (sym after) (set_elim nothing P us n v m within at (else m)) in
      let long = ap length after ∙ length-set us n v in record {
        small = s.small;
        even = s.even;
        few = omega (arith, s.few, long);
        some = omega (arith, s.some, long);
        count = ap length w.is ∙ length-set cells n (cells_of cells n ++ c ∷ []) ∙ s.count ∙ sym long;
        sound = sound;
        active = active;
        filled = each (λ k x. extent (cells_of cells' k) ≡ x.used)
            (omega (arith, put-extent cells cells' r c w, takes, s.filled n))
            (λ k ne. ap extent (put-elsewhere cells cells' r c w k ne) ∙ s.filled k);
        live = each (λ k x. live_in (cells_of cells' k) ≡ x.live)
            (omega (arith, put-sum cells cells' r c w live_size, lives, s.live n))
            (λ k ne. ap live_in (put-elsewhere cells cells' r c w k ne) ∙ s.live k);
        fitting = put-each cells cells' r c w (λ k l. All (IsFitting size) l) (All-push (IsFitting size) (cells_of cells n) c (s.fitting n) fits) (λ k ne. s.fitting k);
      }

  -- a segment in which nothing is live holds nothing now
  pub stored-release : (us' : List Usage) (n : ℕ) → n < length us → us' ≡ set us n nothing → IsSome (active_of us') → IsSound size us' → IsStored size (record { cells = set cells n []; usages = us' })
  stored-release us' n lt after active sound =
      let within : n < length cells = omega (arith, lt, s.count) in let long = ap length after ∙ length-set us n nothing in
      let each : (P : ℕ → Usage → Type 0) → P n nothing → ((m : ℕ) → m ≢ n → P m (usage_of us m)) → (m : ℕ) → P m (usage_of us' m) =
      λ P at else m. subst (λ l. P m (usage_of l m)) (sym after) (set_elim nothing P us n nothing m lt at (else m)) in record {
        small = s.small;
        even = s.even;
        few = omega (arith, s.few, long);
        some = omega (arith, s.some, long);
        count = length-set cells n [] ∙ s.count ∙ sym long;
        sound = sound;
        active = active;
        filled = each (λ k x. extent (cells_of (set cells n []) k) ≡ x.used) (ap extent (get_or-set_same cells n [] [] within)) (λ k ne. ap extent (get_or-set_other cells n k [] [] ne) ∙ s.filled k);
        live = each (λ k x. live_in (cells_of (set cells n []) k) ≡ x.live) (ap live_in (get_or-set_same cells n [] [] within)) (λ k ne. ap live_in (get_or-set_other cells n k [] [] ne) ∙ s.live k);
        fitting = λ k. set_elim [] (λ j l. All (IsFitting size) l) cells n [] k within (All-nil (IsFitting size)) (λ ne. s.fitting k);
      }
