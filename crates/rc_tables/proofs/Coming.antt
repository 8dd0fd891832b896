-- Rows and changes that come one behind another are those of a partition of the schema.
use Rattle.std.proofs.Common.{◌≡◌, ℕ, ◌≤◌, List, [], ◌∷◌, ◌++◌, length, get_or, drop, Option, Some, None, sym, ap, ◌∙◌, subst}
use Rattle.std.specs.Prelude.{◌↔◌, ◌&&◌, IfOk, IfSome, IsTrue, Result, Ok, Err, is_none, ⊤}
use Rattle.std.specs.declared.alloc.AllocError.{AllocError}
use Rattle.std.specs.List.{flat_map, AllByRecursion}
use Rattle.std.specs.Option.{option_map}
use Rattle.rc_cell.specs.declared.rows.Row.{Row}
use Rattle.rc_cell.specs.declared.writes.Tomb.{Tomb}
use Rattle.rc_position.specs.declared.comps.Comp.{Comp}
use Rattle.rc_position.specs.declared.positions.Pos.{Pos}
use Rattle.rc_position.specs.Position.{row_pos}
use Rattle.rc_ranges.specs.declared.pieces.Piece.{Piece}
use Rattle.rc_schema.specs.SchemaValue.{SchemaValue}
use Rattle.rc_mutation.specs.declared.fragments.Frag.{Frag}
use Rattle.rc_mutation.specs.declared.fragments.Frag.TheVariants as frag
use Rattle.rc_mutation.specs.declared.mutations.Mutation.{Mutation}
use Rattle.rc_mutation.specs.Source.{IsMutation, has_cells_alone}
use Rattle.rc_mutation.specs.Canonical.{IsBounded, IsCanonicalList, IsMutationOf}
use Rattle.rc_mutation.specs.laws.CanonicalListed.{listed}
use Rattle.rc_mutation.specs.Fragments.{tomb_after, rows_and_changes}
use Rattle.rc_stream.specs.Merging.{place_of}
use Rattle.rc_tfile.specs.Part.{Part}
use Rattle.rc_cell.specs.Columns.{ascending}
use Rattle.rc_tfile.specs.Items.{IsItem, PartItem, item_code}
use Rattle.rc_writes.specs.Allowed.{ChangeFits, IsRangeBound, IsRowOf, IsStaticOf}
use Rattle.rc_tfile.specs.laws.Follows.{all_of}
use Rattle.rc_tfile.specs.laws.Standing.{clustered_so}
use Rattle.rc_tables.specs.Located.{ArePartItems, SaysOf}
use Rattle.rc_tables.specs.calls.Rebuilt.{AllCome, MayCome, IsSpellable, open_range, changes_among, ended_range, frag_code, pieces_between, rows_among}
use Rattle.rc_tables.proofs.Apart.{front_first, ranges_between, rows_between}
use Rattle.rc_tables.proofs.Spelled.{IsPartBytes, IsPartItem, code_of_part, items_spelled}

-- ---- one more

come_split : (schema : SchemaValue) (tomb : Option Tomb) (last : Option Pos) (left : List Frag) (f : Frag) → 1 ≤ length left → f ≡ get_or left 0 f → AllCome schema tomb last left → MayCome schema tomb last f × AllCome schema (tomb_after tomb f) (Some (place_of f).0) (drop 1 left)
come_split schema tomb last left f n e h = subst (AllCome schema tomb last) (front_first f left n e) h

come_first : (schema : SchemaValue) (tomb : Option Tomb) (last : Option Pos) (left : List Frag) (f : Frag) → 1 ≤ length left → f ≡ get_or left 0 f → MayCome schema tomb last f × AllCome schema (tomb_after tomb f) (Some (place_of f).0) (drop 1 left) → AllCome schema tomb last left
come_first schema tomb last left f n e h = subst (AllCome schema tomb last) (sym (front_first f left n e)) h

pub coming_on : (all : Type 0) (schema : SchemaValue) (tomb : Option Tomb) (last : Option Pos) (left : List Frag) (f : Frag) → (all ↔ AllCome schema tomb last left) → 1 ≤ length left → f ≡ get_or left 0 f → MayCome schema tomb last f → (all ↔ AllCome schema (tomb_after tomb f) (Some (place_of f).0) (drop 1 left))
coming_on all schema tomb last left f h n e may = (λ a. (come_split schema tomb last left f n e (h.0 a)).1, λ b. h.1 (come_first schema tomb last left f n e (may, b)))

pub coming_stops : (all : Type 0) (schema : SchemaValue) (tomb : Option Tomb) (last : Option Pos) (left : List Frag) (f : Frag) → (all ↔ AllCome schema tomb last left) → 1 ≤ length left → f ≡ get_or left 0 f → (MayCome schema tomb last f → ⊥) → all → ⊥
coming_stops all schema tomb last left f h n e never a = never (come_split schema tomb last left f n e (h.0 a)).0

-- ---- they are canonical, and of the schema

canonical : (schema : SchemaValue) (tomb : Option Tomb) (last : Option Pos) (fs : List Frag) → AllByRecursion IsSpellable fs → AllCome schema tomb last fs → IsCanonicalList tomb last fs
canonical schema tomb last [] s h = h
canonical schema tomb last (frag.Start pt ∷ fs) s h = absurd h.0
canonical schema tomb last (frag.Static row ∷ fs) s h = absurd h.0
canonical schema tomb last (frag.Row key row ∷ fs) s h = (h.0.0, h.0.1, s.0.1.ascending, canonical schema tomb (Some (row_pos key)) fs s.1 h.1)
canonical schema tomb last (frag.Change x next ∷ fs) s h = (h.0.0, h.0.2.0, h.0.1, canonical schema next (Some x) fs s.1 h.1)
canonical schema tomb last (frag.End ∷ fs) s h = absurd h.0

module _ (schema : SchemaValue) where
  abbrev IsRowHere : List Comp × Row → Type 0
  IsRowHere e = IsRowOf schema e.0 e.1

  abbrev IsPieceHere : Piece → Type 0
  IsPieceHere q = IsRangeBound schema q.from × IsRangeBound schema q.to

  come_rows : (tomb : Option Tomb) (last : Option Pos) (fs : List Frag) → AllCome schema tomb last fs → AllByRecursion IsRowHere (rows_among fs)
  come_rows tomb last [] h = tt
  come_rows tomb last (frag.Start pt ∷ fs) h = absurd h.0
  come_rows tomb last (frag.Static row ∷ fs) h = absurd h.0
  come_rows tomb last (frag.Row key row ∷ fs) h = (h.0.2, come_rows tomb (Some (row_pos key)) fs h.1)
  come_rows tomb last (frag.Change x next ∷ fs) h = come_rows next (Some x) fs h.1
  come_rows tomb last (frag.End ∷ fs) h = absurd h.0

  come_changes : (tomb : Option Tomb) (last : Option Pos) (fs : List Frag) → AllCome schema tomb last fs → AllByRecursion (λ (c : Pos × Option Tomb). IsRangeBound schema c.0) (changes_among fs)
  come_changes tomb last [] h = tt
  come_changes tomb last (frag.Start pt ∷ fs) h = absurd h.0
  come_changes tomb last (frag.Static row ∷ fs) h = absurd h.0
  come_changes tomb last (frag.Row key row ∷ fs) h = come_changes tomb (Some (row_pos key)) fs h.1
  come_changes tomb last (frag.Change x next ∷ fs) h = (h.0.2, come_changes next (Some x) fs h.1)
  come_changes tomb last (frag.End ∷ fs) h = absurd h.0

  one_piece : (start : Option (Pos × Tomb)) (x : Pos) (o : Option (List Piece)) → IfSome start (λ s. IsRangeBound schema s.0) → IsRangeBound schema x → IfSome o (AllByRecursion IsPieceHere) → IfSome (option_map (λ ps. ended_range start x ++ ps) o) (AllByRecursion IsPieceHere)
  one_piece start x None s b h = tt
  one_piece None x (Some ps) s b h = h
  one_piece (Some start) x (Some ps) s b h = ((s, b), h)

  begun_here : (x : Pos) (tomb : Option Tomb) → IsRangeBound schema x → IfSome (open_range x tomb) (λ s. IsRangeBound schema s.0)
  begun_here x None b = tt
  begun_here x (Some tomb) b = b

  come_pieces : (cs : List (Pos × Option Tomb)) (start : Option (Pos × Tomb)) → IfSome start (λ s. IsRangeBound schema s.0) → AllByRecursion (λ (c : Pos × Option Tomb). IsRangeBound schema c.0) cs → IfSome (pieces_between cs start) (AllByRecursion IsPieceHere)
  come_pieces [] None s h = tt
  come_pieces [] (Some start) s h = tt
  come_pieces (c ∷ cs) start s h = one_piece start c.0 (pieces_between cs (open_range c.0 c.1)) s h.0 (come_pieces cs (open_range c.0 c.1) (begun_here c.0 c.1 h.0) h.1)

-- what is said by items that come so fits the schema
pub change_fits : (schema : SchemaValue) (m : Mutation) → IsMutation m → IsStaticOf schema m.statics → AllCome schema None None (rows_and_changes m) → ChangeFits schema m
change_fits schema m is statics h = record {
  statics = statics;
  rows = all_of (IsRowHere schema) m.rows (subst (AllByRecursion (IsRowHere schema)) (rows_between m is) (come_rows schema None None (rows_and_changes m) h));
  ranges = all_of (IsPieceHere schema) m.ranges (subst (λ o. IfSome o (AllByRecursion (IsPieceHere schema))) (ranges_between m is) (come_pieces schema (changes_among (rows_and_changes m)) None tt (come_changes schema None None (rows_and_changes m) h)));
}

-- what fits the schema comes so
module _ (schema : SchemaValue) where
  abbrev IsFragHere : Frag → Type 0
  IsFragHere (frag.Start pt) = ⊤
  IsFragHere (frag.Static row) = ⊤
  IsFragHere (frag.Row key row) = IsRowOf schema key row
  IsFragHere (frag.Change x next) = IsRangeBound schema x
  IsFragHere frag.End = ⊤

  canonical_comes : (tomb : Option Tomb) (last : Option Pos) (fs : List Frag) → IsCanonicalList tomb last fs → AllByRecursion IsFragHere fs → AllCome schema tomb last fs
  canonical_comes tomb last [] c h = c
  canonical_comes tomb last (frag.Start pt ∷ fs) c h = absurd c
  canonical_comes tomb last (frag.Static row ∷ fs) c h = absurd c
  canonical_comes tomb last (frag.Row key row ∷ fs) c h = ((c.0, c.1, h.0), canonical_comes tomb (Some (row_pos key)) fs c.3 h.1)
  canonical_comes tomb last (frag.Change x next ∷ fs) c h = ((c.0, c.2, h.0), canonical_comes next (Some x) fs c.3 h.1)
  canonical_comes tomb last (frag.End ∷ fs) c h = absurd c

  pub comes : (m : Mutation) → SaysOf schema m → AllCome schema None None (rows_and_changes m)
  comes m says =
      let fits = says.1 in
      let bounded : IsBounded m.ranges = λ k d lt. (let q = fits.ranges k d lt in (q.0.0, q.1.0)) in
      canonical_comes None None (rows_and_changes m) (listed m says.0 bounded) (clustered_so IsFragHere m says.0 fits.rows (λ k d lt. (let q = fits.ranges k d lt in (λ tomb. q.0, λ tomb. q.1))))

-- ---- what is read of bytes

-- the law that a canonical list is that of a mutation
abbrev pub Law : Type 0
Law = (tomb : Option Tomb) (row : Row) (fs : List Frag) → IsTrue (ascending row.cells) → IsTrue (has_cells_alone row) → IsCanonicalList None None fs → (m : Mutation) × IsMutationOf m tomb row fs

some_same : {X : Type 0} (x y : X) → Some x ≡ Some y → x ≡ y
some_same x y e = cc

module _ (schema : SchemaValue) (key bytes : List ℕ) (part : Part) (size : ℕ) (fs : List Frag) (law : Law)
    (same : part.key ≡ key) (is : IsPartItem part) (front : bytes ≡ code_of_part part ++ drop size bytes) (statics : IsStaticOf schema part.head.statics)
    (rest : drop size bytes ≡ flat_map frag_code fs ++ 4 ∷ []) (spelled : AllByRecursion IsSpellable fs) (come : AllCome schema None None fs) where
  there : (m : Mutation) × IsMutationOf m part.head.pt part.head.statics fs
  there = law part.head.pt part.head.statics fs is.1.1.ascending (λ i. is_none (statics.0 i) && is_none (statics.1 i)) (canonical schema None None fs spelled come)

  part_bytes_there : IsPartBytes bytes key there.0
  part_bytes_there =
      let m = there.1 in
      record {
        part = subst (λ k. IsItem (PartItem k there.0.pt there.0.statics)) same (subst (λ t. IsItem (PartItem part.key t there.0.statics)) (sym m.pt) (subst (λ r. IsItem (PartItem part.key part.head.pt r)) (sym m.statics) is));
        parts = front ∙ ap (λ t. code_of_part part ++ t) rest ∙ (λ i. item_code (PartItem (same i) (sym m.pt i) (sym m.statics i)) ++ (flat_map frag_code (sym m.rows_and_changes i) ++ 4 ∷ []));
        spelled = subst (AllByRecursion IsSpellable) (sym m.rows_and_changes) spelled;
      }

  is_part : ArePartItems schema key there.0 bytes
  is_part =
      let m = there.1 in
      let items = items_spelled bytes key there.0 m.is_mutation part_bytes_there in
      record {
        says = (m.is_mutation, change_fits schema there.0 m.is_mutation (subst (IsStaticOf schema) (sym m.statics) statics) (subst (AllCome schema None None) (sym m.rows_and_changes) come));
        items = items.0;
        spelled = items.1;
      }

  -- what reads the mutation of this head and of these rows and changes, reads exactly what the bytes say
  exactly : (found : Option Mutation) → found ≡ Some there.0 → ((m : Mutation) → ArePartItems schema key m bytes → found ≡ Some m) → (m : Mutation) → (found ≡ Some m) ↔ ArePartItems schema key m bytes
  exactly found read whole m = (λ e. subst (λ n. ArePartItems schema key n bytes) (some_same there.0 m (sym read ∙ e)) is_part, whole m)

  pub decoded_exactly : (r : Result (Option Mutation) AllocError) → ((m : Mutation) → IsMutation m → fs ≡ rows_and_changes m → part.head ≡ record { pt = m.pt; statics = m.statics } → IfOk r (λ found. found ≡ Some m))
      → ((m : Mutation) → ArePartItems schema key m bytes → IfOk r (λ found. found ≡ Some m)) → IfOk r (λ found. (m : Mutation) → (found ≡ Some m) ↔ ArePartItems schema key m bytes)
  decoded_exactly (Err e) reads whole = tt
  decoded_exactly (Ok found) reads whole =
      let t = there.1 in
      let head : part.head ≡ record { pt = there.0.pt; statics = there.0.statics } = λ i. record { pt = sym t.pt i; statics = sym t.statics i } in
      exactly found (reads there.0 t.is_mutation (sym t.rows_and_changes) head) whole

-- where nothing is found, the bytes are no part's
pub none_found : (schema : SchemaValue) (key bytes : List ℕ) → ((m : Mutation) → ArePartItems schema key m bytes → ⊥) → (m : Mutation) → (None ≡ Some m) ↔ ArePartItems schema key m bytes
none_found schema key bytes never m = (λ e. absurd (cc), λ p. absurd (never m p))
