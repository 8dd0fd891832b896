-- What the segments' books tell after each step, and how much may still be taken.
use Rattle.std.proofs.Common.{◌≡◌, ◌≢◌, ℕ, zero, suc, ◌+◌, ◌-◌, ◌*◌, ◌/◌, ◌%◌, ◌<◌, ◌≤◌, inl, inr, List, length, Option, Some, None, refl, sym, ap, ◌∙◌, subst, arith}
use Rattle.std.proofs.Math.ListN.{set}
use Rattle.std.proofs.lemmas.List.{get_or-set_same, get_or-set_other}
use Rattle.std.proofs.lemmas.List.Quantifiers.{position-Some}
use Rattle.std.specs.Option.{option_map_or}
use Rattle.lsa_pool.specs.declared.Usage.{Usage}
use Rattle.lsa_pool.specs.declared.State.TheVariants.{Closed}
use Rattle.lsa_pool.specs.Room.{nothing, is_state_active, usage_of, free_count, live_sum, active_of, active_room, spare_of}
use Rattle.lsa_pool.specs.laws.Usages.{active-state, closed-inside, set_elim}
use Rattle.lsa_store.specs.Stock.{stock_of, IsTaken, IsGivenBack}
use Rattle.lsa_store.specs.calls.Stock.{IsTurned, IsCredited}

pub active_inside : (us : List Usage) (n : ℕ) → active_of us ≡ Some n → n < length us
active_inside us n e = (position-Some (λ u. is_state_active u.state) us n nothing e).0

pub room-is : (size : ℕ) (us : List Usage) (n : ℕ) → active_of us ≡ Some n → active_room size us ≡ size - (usage_of us n).used
room-is size us n e = ap (λ o. option_map_or (λ k. size - (usage_of us k).used) o 0) e

pub closed-apart : (us : List Usage) (n a : ℕ) → (usage_of us n).state ≡ Closed → active_of us ≡ Some a → n ≢ a
closed-apart us n a closed active same = let e = active-state us a active in let d : (usage_of us a).state ≡ Closed = ap (λ k. (usage_of us k).state) (sym same) ∙ closed in let clash = sym e ∙ d in cc

-- ---- what one step changes

-- what is used stays where something live goes
pub used-debit : (us us' : List Usage) (n size : ℕ) → n < length us → us' ≡ set us n (record (usage_of us n) { live = (usage_of us n).live - size }) → (m : ℕ) → (usage_of us' m).used ≡ (usage_of us m).used
used-debit us us' n size lt after m =
    let v : Usage = record (usage_of us n) { live = (usage_of us n).live - size } in
    subst (λ l. (usage_of l m).used ≡ (usage_of us m).used) (sym after) (set_elim nothing (λ k (u : Usage). u.used ≡ (usage_of us k).used) us n v m lt refl (λ _. refl))

-- what is used rises where an object comes
pub used-credit : (us us' : List Usage) (n size : ℕ) → n < length us → us' ≡ set us n (record (usage_of us n) { used = (usage_of us n).used + size; live = (usage_of us n).live + size }) → ((m : ℕ) → (usage_of us m).used ≤ (usage_of us' m).used) × ((usage_of us' n).used ≡ (usage_of us n).used + size)
used-credit us us' n size lt after =
    let v : Usage = record (usage_of us n) { used = (usage_of us n).used + size; live = (usage_of us n).live + size } in (
      (λ m. subst (λ l. (usage_of us m).used ≤ (usage_of l m).used) (sym after) (set_elim nothing (λ k (u : Usage). (usage_of us k).used ≤ u.used) us n v m lt (omega arith) (λ _. omega arith))),
      ap (λ l. (usage_of l n).used) after ∙ ap (λ (u : Usage). u.used) (get_or-set_same us n v nothing lt),
    )

-- the active segment has the room that it had
pub room-same : (size : ℕ) (us us' : List Usage) → active_of us' ≡ active_of us → ((m : ℕ) → active_of us ≡ Some m → (usage_of us' m).used ≡ (usage_of us m).used) → active_room size us' ≡ active_room size us
room-same size us us' active used =
    ap (λ o. option_map_or (λ n. size - (usage_of us' n).used) o 0) active
    ∙ elim (active_of us) as (λ (o : Option ℕ). active_of us ≡ o → option_map_or (λ n. size - (usage_of us' n).used) o 0 ≡ option_map_or (λ n. size - (usage_of us n).used) o 0) [
      | None ↦ λ e. refl
      | Some m ↦ λ e. ap (λ k. size - k) (used m e)
    ] refl

-- ---- what is spare

-- a turn of the active segment leaves what is spare
pub spare-turn : (size need before after room room' : ℕ) → size % 64 ≡ 0 → before ≡ after + 1 → room' ≡ size → room < need → need ≤ size / 8
    → need ≤ (before - 1) * (7 * size / 8) + (room - size / 8) → (after - 1) * (7 * size / 8) + (room' - size / 8) ≡ (before - 1) * (7 * size / 8) + (room - size / 8)
spare-turn size need before zero room room' even one whole short small enough =
    let none : before - 1 ≡ 0 = omega arith in let product : (before - 1) * (7 * size / 8) ≡ 0 = ap (λ k. k * (7 * size / 8)) none ∙ omega arith in absurd (omega arith)
spare-turn size need before (suc m) room room' even one whole short small enough =
    let K = 7 * size / 8 in let less : suc m - 1 ≡ m = omega arith in let same : before - 1 ≡ suc m = omega arith in
    let left : (suc m - 1) * K ≡ m * K = ap (λ k. k * K) less in let right : (before - 1) * K ≡ suc m * K = ap (λ k. k * K) same in
    omega arith

pub spare-turned : (size need : ℕ) (old new : List Usage) → size % 64 ≡ 0 → 0 < free_count old → need ≤ size / 8 → need ≤ spare_of size old → IsTurned size old new need → (spare_of size new ≡ spare_of size old) × (0 < free_count new)
spare-turned size need old new even reserve fits spare (inl same) = (ap (spare_of size) same, subst (λ l. 0 < free_count l) (sym same) reserve)
spare-turned size need old new even reserve fits spare (inr turned) = (
  spare-turn size need (free_count old) (free_count new) (active_room size old) (active_room size new) even (sym turned.1) turned.2 turned.0 fits spare,
  elim (free_count new) as (λ k. k + 1 ≡ free_count old → 0 < k) [
    | zero ↦ λ one. let less : free_count old - 1 ≡ 0 = omega (arith, one) in let none : (free_count old - 1) * (7 * size / 8) ≡ 0 = ap (λ k. k * (7 * size / 8)) less ∙ omega arith in absurd (omega (arith, none, turned.0, fits, spare))
    | suc k ↦ λ one. omega arith
  ] turned.1,
)

pub stock-turned : (size need : ℕ) (old new : List Usage) → size % 64 ≡ 0 → need ≤ size / 8 → IsTurned size old new need → stock_of size new ≡ stock_of size old
stock-turned size need old new even fits (inl same) = ap (stock_of size) same
stock-turned size need old new even fits (inr turned) =
    let K = 7 * size / 8 in let f = free_count new in let more : free_count old * K ≡ (f + 1) * K = ap (λ k. k * K) (sym turned.1) in
    omega (arith, more, turned.0, turned.2, fits, even)

-- the stock of a store with its reserve is at least seven eighths of a segment
pub stock-reserve : (size : ℕ) (us : List Usage) → 0 < free_count us → stock_of size us ≡ spare_of size us + 7 * size / 8
stock-reserve size us reserve = elim (free_count us) as (λ k. 0 < k → k * (7 * size / 8) + (active_room size us - size / 8) ≡ ((k - 1) * (7 * size / 8) + (active_room size us - size / 8)) + 7 * size / 8) [
  | zero ↦ λ h. absurd (omega arith)
  | suc k ↦ λ h. let less : (suc k - 1) * (7 * size / 8) ≡ k * (7 * size / 8) = ap (λ j. j * (7 * size / 8)) (omega arith) in omega arith
] reserve

-- ---- an object is made, and one goes

-- a turn of the active segment, and then bytes of it
pub taken : (size bytes n : ℕ) (old mid new : List Usage) → size % 64 ≡ 0 → bytes ≤ size / 8 → IsTurned size old mid bytes → length mid ≡ length old → live_sum mid ≡ live_sum old
    → ((k : ℕ) → (usage_of old k).state ≡ Closed → usage_of mid k ≡ usage_of old k) → IsCredited size mid new n bytes → IsTaken size old new bytes
taken size bytes n old mid new even fits turned budget total closed credited = record {
  budget = credited.budget ∙ budget;
  total = omega (arith, credited.total, total);
  closed = λ k is.
      let still : (usage_of mid k).state ≡ Closed = ap (λ (u : Usage). u.state) (closed k is) ∙ is in
      let other = closed-apart mid k n still credited.was in
      ap (λ l. usage_of l k) credited.after ∙ get_or-set_other mid n k (record (usage_of mid n) { used = (usage_of mid n).used + bytes; live = (usage_of mid n).live + bytes }) nothing other ∙ closed k is;
  stock = let K = 7 * size / 8 in let frees : free_count new * K ≡ free_count mid * K = ap (λ k. k * K) credited.free in
      omega (arith, frees, credited.room, stock-turned size bytes old mid even fits turned);
  spare = λ spare reserve.
      let t = spare-turned size bytes old mid even reserve fits spare turned in
      let K = 7 * size / 8 in let frees : (free_count new - 1) * K ≡ (free_count mid - 1) * K = ap (λ k. (k - 1) * K) credited.free in
      (omega (arith, frees, credited.room, t.0), omega (arith, credited.free, t.1));
}

-- where as many bytes go from a segment as were taken, the stock falls by no more than what was live there falls
pub moved-stock : (size bytes n : ℕ) (old mid new : List Usage) → (usage_of old n).state ≡ Closed → IsTaken size old mid bytes → IsGivenBack size mid new n bytes → stock_of size old + (usage_of new n).live ≤ stock_of size new + (usage_of old n).live
moved-stock size bytes n old mid new closed t g =
    let K = 7 * size / 8 in let frees : free_count new * K ≡ free_count mid * K = ap (λ k. k * K) g.free in
    let same = t.closed n closed in let inside : n < length mid = omega (arith, t.budget, closed-inside old n closed) in
    let lowered : usage_of new n ≡ record (usage_of mid n) { live = (usage_of mid n).live - bytes } =
    ap (λ l. usage_of l n) g.after ∙ get_or-set_same mid n (record (usage_of mid n) { live = (usage_of mid n).live - bytes }) nothing inside in
    omega (arith, frees, g.room, g.enough, t.stock, ap (λ (u : Usage). u.live) lowered, ap (λ (u : Usage). u.live) same)
