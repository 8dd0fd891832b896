-- A walk over the entries of a version that counts them by their sort.
use Rattle.std.proofs.Common.{◌≡◌, ◌≤◌, ◌+◌, ℕ, suc, List, [], ◌∷◌, ◌++◌, Option, Some, None, length, refl, sym, ap, ◌∙◌, subst, cond, append_assoc, arith}
use Rattle.std.specs.Prelude.{is_none, is_some}
use Rattle.std.proofs.lemmas.List.{length-append}
use Rattle.std.proofs.lemmas.List.Sums.{sum_by-cons, count_by-le-length}
use Rattle.lsa_store.specs.declared.place.Ref.{Ref}
use Rattle.lsa_region.specs.Region.{View, objects, IsSummed, IsWell}
use Rattle.lsa_tree.specs.Search.{first_entry}
use Rattle.lsa_tree.specs.laws.Trees.{tree-few}
use Rattle.rc_core.specs.declared.entries.Entry.{Entry}
use Rattle.rc_core.specs.Version.{Version}
use Rattle.rc_object.specs.Objects.{HoldsEntry}
use Rattle.rc_version.specs.Versions.{HoldEntries, IsVersionOf, tree_of}
use Rattle.rc_census.specs.declared.sorts.Sorts.{Sorts}
use Rattle.rc_census.specs.Census.{dummy_count, row_count}

-- the objects passed are counted, and those from the next one on hold the entries that are left
pub record IsWalked (view : View) (refs : List Ref) (entries : List Entry) (next : Option Ref) (sorts : Sorts) (steps : ℕ) : Type 0 where
  pub passed : List Ref
  pub left : List Ref
  pub ahead : List Entry
  pub split : refs ≡ passed ++ left
  pub first : next ≡ first_entry left
  pub held : HoldEntries view left ahead
  pub rows : sorts.rows + row_count ahead ≡ row_count entries
  pub dummies : sorts.dummies + dummy_count ahead ≡ dummy_count entries
  pub number : length passed ≡ steps

pub walk-begun : (view : View) (refs : List Ref) (entries : List Entry) (next : Option Ref) (sorts : Sorts) → HoldEntries view refs entries → next ≡ first_entry refs → sorts.rows ≡ 0 → sorts.dummies ≡ 0 → IsWalked view refs entries next sorts 0
walk-begun view refs entries next sorts held first no_rows no_dummies = record {
  passed = [];
  left = refs;
  ahead = entries;
  split = refl;
  first = first;
  held = held;
  rows = omega (arith, no_rows);
  dummies = omega (arith, no_dummies);
  number = refl;
}

-- the next object is an entry of the version
pub record IsNextEntry (view : View) (refs : List Ref) (entries : List Entry) (r : Ref) (sorts : Sorts) (steps : ℕ) : Type 0 where
  pub passed : List Ref
  pub back : List Ref
  pub entry : Entry
  pub behind : List Entry
  pub split : refs ≡ passed ++ (r ∷ back)
  pub here : HoldsEntry view r entry
  pub held : HoldEntries view back behind
  pub rows : sorts.rows + (cond (is_some entry.row) 1 0 + row_count behind) ≡ row_count entries
  pub dummies : sorts.dummies + (cond (is_none entry.row) 1 0 + dummy_count behind) ≡ dummy_count entries
  pub number : length passed ≡ steps

held-long : (view : View) (refs : List Ref) (entries : List Entry) → HoldEntries view refs entries → length refs ≡ length entries
held-long view [] [] h = refl
held-long view [] (e ∷ es) h = absurd h
held-long view (r ∷ refs) [] h = absurd h
held-long view (r ∷ refs) (e ∷ es) h = ap suc (held-long view refs es h.1)

module _ (view : View) (refs : List Ref) (entries : List Entry) where
  next-of : (r : Ref) (sorts : Sorts) (steps : ℕ) (passed left : List Ref) (ahead : List Entry) → refs ≡ passed ++ left → Some r ≡ first_entry left → HoldEntries view left ahead
      → sorts.rows + row_count ahead ≡ row_count entries → sorts.dummies + dummy_count ahead ≡ dummy_count entries → length passed ≡ steps → IsNextEntry view refs entries r sorts steps
  next-of r sorts steps passed [] ahead split first held rows dummies number = absurd (cc first)
  next-of r sorts steps passed (q ∷ back) [] split first held rows dummies number = absurd held
  next-of r sorts steps passed (q ∷ back) (e ∷ es) split first held rows dummies number = let same : q ≡ r = cc first in record {
    passed = passed;
    back = back;
    entry = e;
    behind = es;
    split = split ∙ ap (λ x. passed ++ (x ∷ back)) same;
    here = subst (λ x. HoldsEntry view x e) same held.0;
    held = held.1;
    rows = ap (λ n. sorts.rows + n) (sym (sum_by-cons (λ (x : Entry). cond (is_some x.row) 1 0) e es)) ∙ rows;
    dummies = ap (λ n. sorts.dummies + n) (sym (sum_by-cons (λ (x : Entry). cond (is_none x.row) 1 0) e es)) ∙ dummies;
    number = number;
  }

  pub next-there : (r : Ref) (next : Option Ref) (sorts : Sorts) (steps : ℕ) → IsWalked view refs entries next sorts steps → next ≡ Some r → IsNextEntry view refs entries r sorts steps
  next-there r next sorts steps w is = next-of r sorts steps w.passed w.left w.ahead w.split (sym is ∙ w.first) w.held w.rows w.dummies w.number

  -- one entry more is counted
  pub walk-more : (r : Ref) (sorts more : Sorts) (steps : ℕ) (n : IsNextEntry view refs entries r sorts steps) (next : Option Ref) → next ≡ first_entry n.back
      → more.rows ≡ sorts.rows + cond (is_some n.entry.row) 1 0 → more.dummies ≡ sorts.dummies + cond (is_none n.entry.row) 1 0 → IsWalked view refs entries next more (steps + 1)
  walk-more r sorts more steps n next first rows dummies = record {
    passed = n.passed ++ (r ∷ []);
    left = n.back;
    ahead = n.behind;
    split = n.split ∙ sym (append_assoc n.passed (r ∷ []) n.back);
    first = first;
    held = n.held;
    rows = omega (arith, rows, n.rows);
    dummies = omega (arith, dummies, n.dummies);
    number = omega (arith, length-append n.passed (r ∷ []), n.number);
  }

  -- no sort has more entries than there are
  pub few-rows : (r : Ref) (sorts : Sorts) (steps : ℕ) (n : IsNextEntry view refs entries r sorts steps) → sorts.rows + cond (is_some n.entry.row) 1 0 ≤ length entries
  few-rows r sorts steps n = let total = n.rows in omega (arith, total, count_by-le-length (λ (x : Entry). is_some x.row) entries)

  pub few-dummies : (r : Ref) (sorts : Sorts) (steps : ℕ) (n : IsNextEntry view refs entries r sorts steps) → sorts.dummies + cond (is_none n.entry.row) 1 0 ≤ length entries
  few-dummies r sorts steps n = let total = n.dummies in omega (arith, total, count_by-le-length (λ (x : Entry). is_none x.row) entries)

  -- where none is left all are counted
  counted : (sorts : Sorts) (left : List Ref) (ahead : List Entry) → left ≡ [] → HoldEntries view left ahead → sorts.rows + row_count ahead ≡ row_count entries → sorts.dummies + dummy_count ahead ≡ dummy_count entries
      → (sorts.rows ≡ row_count entries) × (sorts.dummies ≡ dummy_count entries)
  counted sorts [] [] none held rows dummies = (omega (arith, rows), omega (arith, dummies))
  counted sorts [] (e ∷ es) none held rows dummies = absurd held
  counted sorts (r ∷ refs) ahead none held rows dummies = absurd (cc none)

  pub walk-ended : (sorts : Sorts) (steps : ℕ) → IsWalked view refs entries None sorts steps → (sorts.rows ≡ row_count entries) × (sorts.dummies ≡ dummy_count entries)
  walk-ended sorts steps w = counted sorts w.left w.ahead (none-left w.left w.first) w.held w.rows w.dummies
    where
      none-left : (left : List Ref) → None ≡ first_entry left → left ≡ []
      none-left [] e = refl
      none-left (r ∷ left) e = cc e

  -- after so many steps none is left
  pub walk-passed : (next : Option Ref) (sorts : Sorts) (steps : ℕ) → length refs ≤ steps → IsWalked view refs entries next sorts steps → (sorts.rows ≡ row_count entries) × (sorts.dummies ≡ dummy_count entries)
  walk-passed next sorts steps most w = counted sorts w.left w.ahead (none-left w.left (omega (arith, most, ap length w.split, length-append w.passed w.left, w.number))) w.held w.rows w.dummies
    where
      none-left : (left : List Ref) → length left ≡ 0 → left ≡ []
      none-left [] e = refl
      none-left (r ∷ left) e = cc e

-- a version has no more entries than there are objects
pub entries-few : (view : View) (v : Ref) (refs : List Ref) (c : Version) → IsWell view → IsSummed view → IsVersionOf view v refs c → (length refs ≤ objects view) × (length c.entries ≤ objects view)
entries-few view v refs c well summed is = let few = tree-few (tree_of v) view well summed refs is.tree in (few, omega (arith, few, held-long view refs c.entries is.entries))
