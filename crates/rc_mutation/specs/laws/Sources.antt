-- The laws of the source at a place and of joining, for crates above to cite.
--     IsJoinOf-source          what writes join to says at each place what they say
--     source-determined        mutations that say the same at each place are equal
--     IsJoinOf-first           any first part of writes may be joined first
--     IsJoinOf-swap, IsJoinOf-twice       in either order, and the same writes again change nothing
--     IsJoinOf-none, IsJoinOf-more       no writes join to nothing written; one more is joined to what the others joined to
--     IsJoinOf-same            writes join to one mutation
use Rattle.std.specs.Prelude.{◌≡◌, ◌≢◌, false, List, [], ◌∷◌, ◌++◌, Option, Some, None, cond, map as list_map, IsTrue}
use Rattle.std.proofs.Common.{arith, refl, sym, ap, ◌∙◌, append-nil}
use Rattle.std.specs.declared.cmp.Ordering.TheVariants.{Less, Equal, Greater}
use Rattle.std.specs.Ordering.{is_eq, eq_by_cmp}
use Rattle.std.specs.Option.{option_to_list}
use Rattle.std.specs.List.{filter, cons_option}
use Rattle.std.specs.FinMap.{find}
use Rattle.std.proofs.lemmas.List.Elements.{filter_map-append}
use Rattle.std.proofs.lemmas.Grind.{flat_map-append}
use Rattle.rc_cell.specs.declared.rows.Row.{Row}
use Rattle.rc_cell.specs.declared.writes.Tomb.{Tomb}
use Rattle.rc_cell.specs.laws.Beats.{tomb_cmp-IsAntisymmetric}
use Rattle.rc_cell.specs.laws.ByColumn.{test_of}
use Rattle.rc_cell.specs.Columns.{ascending}
use Rattle.rc_cell.specs.Greatest.{greater}
use Rattle.rc_cell.specs.laws.Greatest.{greatest-none, greatest-append, greatest-swap, greatest-twice, greatest-one, greatest-two}
use Rattle.rc_cell.specs.laws.{IsRow-joined_row, joined_row-none, joined_row-one, joined_row-append, joined_row-swap, joined_row-twice}
use Rattle.rc_cell.specs.Orders.{tomb_cmp, tomb_cmp_total}
use Rattle.rc_cell.specs.Winner.{empty_row, greatest, joined_row}
use Rattle.rc_position.specs.declared.comps.Comp.{Comp}
use Rattle.rc_position.specs.declared.positions.Pos.{Pos}
use Rattle.rc_position.specs.declared.positions.Weight.{Weight}
use Rattle.rc_position.specs.declared.positions.Weight.TheVariants.{Before, At, After}
use Rattle.rc_position.specs.laws.Orders.{pos_cmp_same}
use Rattle.rc_position.specs.Position.{key_cmp, pos_cmp, row_pos}
use Rattle.rc_ranges.specs.declared.pieces.Piece.{Piece}
use Rattle.rc_ranges.specs.Cover.{cover as range_tomb}
use Rattle.rc_ranges.specs.laws.Covering.{cover-append}
use Rattle.rc_ranges.specs.laws.Determined.{determined}
use Rattle.rc_mutation.specs.declared.mutations.Mutation.{Mutation}
use Rattle.rc_mutation.specs.laws.ByKey.{rows_at-joined_rows, rows_at-ascending, joined_if_any, same_rows}
use Rattle.rc_mutation.specs.laws.JoinedRows.{found, joined_rows-again, joined_rows-append, joined_rows-rows, joined_rows-swap, joined_rows-twice}
use Rattle.rc_mutation.specs.Source.{all_pieces, all_rows, IsJoinOf, IsMutation, IsRows, joined_rows, partition_tombs, rows_at, rows_in, SameSource, source_at_head, source_at_static, static_rows}

cons_one : {X : Type 0} (s : Option X) → cons_option s [] ≡ option_to_list s
cons_one None = refl
cons_one (Some x) = refl

cons_list : {X : Type 0} (s : Option X) (xs : List X) → cons_option s xs ≡ option_to_list s ++ xs
cons_list None xs = refl
cons_list (Some x) xs = refl

-- ---- what one mutation says

pub head-one : (m : Mutation) → source_at_head (m ∷ []) ≡ m.pt
head-one m = ap (greatest tomb_cmp) (cons_one m.pt) ∙ greatest-one tomb_cmp_total tomb_cmp-IsAntisymmetric m.pt

pub statics-one : (m : Mutation) → IsMutation m → source_at_static (m ∷ []) ≡ m.statics
statics-one m is = joined_row-one m.statics is.statics

not_tied : (x y : Pos) → (x ≡ y → ⊥) → eq_by_cmp pos_cmp x y ≡ false
not_tied x y h = elim (pos_cmp x y) as (λ r. pos_cmp x y ≡ r → is_eq r ≡ false) [ Less ↦ λ _. refl | Equal ↦ λ e. absurd (h (pos_cmp_same x y e)) | Greater ↦ λ _. refl ] refl

-- rows stand at their keys alone
rows_in-none : (x : Pos) → ((k : List Comp) → x ≡ row_pos k → ⊥) → (rows : List (List Comp × Row)) → rows_in x rows ≡ []
rows_in-none x h [] = refl
rows_in-none x h (e ∷ es) =
    ap (λ b. list_map (λ (e : List Comp × Row). e.1) (cond b (e ∷ filter (λ e. eq_by_cmp pos_cmp x (row_pos e.0)) es) (filter (λ e. eq_by_cmp pos_cmp x (row_pos e.0)) es))) (not_tied x (row_pos e.0) (h e.0))
    ∙ rows_in-none x h es

once : (rs : List Row) → joined_row (option_to_list (joined_if_any rs)) ≡ joined_row rs
once [] = refl
once (r ∷ rs) = joined_row-one (joined_row (r ∷ rs)) (IsRow-joined_row (r ∷ rs))

in-joined : (p : List Comp) (w : Weight) (rows : List (List Comp × Row)) → joined_row (rows_in (record { prefix = p; weight = w }) (joined_rows rows)) ≡ joined_row (rows_in (record { prefix = p; weight = w }) rows)
in-joined p Before rows =
    let apart : (k : List Comp) → ◌≡◌ {A = Pos} (record { prefix = p; weight = Before }) (row_pos k) → ⊥ = λ k e. (let w : Before ≡ At = ap (λ (x : Pos). x.weight) e in cc) in
    ap joined_row (rows_in-none _ apart (joined_rows rows) ∙ sym (rows_in-none _ apart rows))
in-joined p At rows = ap joined_row (rows_at-joined_rows p rows) ∙ once (rows_at p rows)
in-joined p After rows =
    let apart : (k : List Comp) → ◌≡◌ {A = Pos} (record { prefix = p; weight = After }) (row_pos k) → ⊥ = λ k e. (let w : After ≡ At = ap (λ (x : Pos). x.weight) e in cc) in
    ap joined_row (rows_in-none _ apart (joined_rows rows) ∙ sym (rows_in-none _ apart rows))

-- joined rows say at each position what the rows say
pub rows_in-joined_rows : (x : Pos) (rows : List (List Comp × Row)) → joined_row (rows_in x (joined_rows rows)) ≡ joined_row (rows_in x rows)
rows_in-joined_rows x rows = in-joined x.prefix x.weight rows

-- what writes join to says at each place what they say
pub IsJoinOf-source : (m : Mutation) (changes : List Mutation) → IsMutation m → IsJoinOf m changes → SameSource (m ∷ []) changes
IsJoinOf-source m changes is j = record {
  head = head-one m ∙ j.head;
  statics = statics-one m is ∙ j.statics;
  clustered = λ x.
      let rows : joined_row (rows_in x (m.rows ++ [])) ≡ joined_row (rows_in x (all_rows changes)) = ap (λ rs. joined_row (rows_in x rs)) (append-nil m.rows ∙ j.rows) ∙ rows_in-joined_rows x (all_rows changes) in
      let tombs : range_tomb (m.ranges ++ []) x ≡ range_tomb (all_pieces changes) x = ap (λ ps. range_tomb ps x) (append-nil m.ranges) ∙ j.ranges x in
      λ i. (rows i, tombs i);
}

-- ---- the source determines the mutation

same_found : (s t : Option Row) → ((x : Row) → s ≡ Some x → (x ≢ empty_row) × IsTrue (ascending x.cells)) → ((x : Row) → t ≡ Some x → (x ≢ empty_row) × IsTrue (ascending x.cells)) → joined_row (option_to_list s) ≡ joined_row (option_to_list t) → s ≡ t
same_found None None g h e = refl
same_found None (Some y) g h e = absurd ((h y refl).0 (sym (joined_row-one y (h y refl).1) ∙ sym e ∙ joined_row-none))
same_found (Some x) None g h e = absurd ((g x refl).0 (sym (joined_row-one x (g x refl).1) ∙ e ∙ joined_row-none))
same_found (Some x) (Some y) g h e = ap Some (sym (joined_row-one x (g x refl).1) ∙ e ∙ joined_row-one y (h y refl).1)

found_row : (rows : List (List Comp × Row)) → IsRows rows → (q : List Comp) (x : Row) → find key_cmp q rows ≡ Some x → (x ≢ empty_row) × IsTrue (ascending x.cells)
found_row rows is q x e = (found (λ r. r ≢ empty_row) q rows is.written x e, found (λ r. IsTrue (ascending r.cells)) q rows is.by_column x e)

-- rows that say the same at each key are equal
pub rows-determined : (xs ys : List (List Comp × Row)) → IsRows xs → IsRows ys → ((k : List Comp) → joined_row (rows_at k xs) ≡ joined_row (rows_at k ys)) → xs ≡ ys
rows-determined xs ys g h is =
    same_rows xs ys (test_of _ g.ascend) (test_of _ h.ascend) (λ q.
    same_found (find key_cmp q xs) (find key_cmp q ys) (found_row xs g q) (found_row ys h q)
    (ap joined_row (sym (rows_at-ascending q xs (test_of _ g.ascend))) ∙ is q ∙ ap joined_row (rows_at-ascending q ys (test_of _ h.ascend))))

-- mutations that say the same at each place are equal
pub source-determined : (m n : Mutation) → IsMutation m → IsMutation n → SameSource (m ∷ []) (n ∷ []) → m ≡ n
source-determined m n g h same =
    let pt : m.pt ≡ n.pt = sym (head-one m) ∙ same.head ∙ head-one n in
    let statics : m.statics ≡ n.statics = sym (statics-one m g) ∙ same.statics ∙ statics-one n h in
    let rows : m.rows ≡ n.rows = rows-determined m.rows n.rows g.rows h.rows (λ k. ap (λ rs. joined_row (rows_at k rs)) (sym (append-nil m.rows)) ∙ ap (λ (s : Row × Option Tomb). s.0) (same.clustered (row_pos k)) ∙ ap (λ rs. joined_row (rows_at k rs)) (append-nil n.rows)) in
    let ranges : m.ranges ≡ n.ranges = determined m.ranges n.ranges g.ranges h.ranges (λ x _. ap (λ ps. range_tomb ps x) (sym (append-nil m.ranges)) ∙ ap (λ (s : Row × Option Tomb). s.1) (same.clustered x) ∙ ap (λ ps. range_tomb ps x) (append-nil n.ranges)) in
    λ i. record { pt = pt i; statics = statics i; rows = rows i; ranges = ranges i }

-- ---- joining

greatest-first : (xs ys : List Tomb) → greatest tomb_cmp (cons_option (greatest tomb_cmp xs) ys) ≡ greatest tomb_cmp (xs ++ ys)
greatest-first xs ys =
    ap (greatest tomb_cmp) (cons_list (greatest tomb_cmp xs) ys)
    ∙ greatest-append tomb_cmp_total tomb_cmp-IsAntisymmetric (option_to_list (greatest tomb_cmp xs)) ys
    ∙ ap (λ o. greatest tomb_cmp (option_to_list o ++ option_to_list (greatest tomb_cmp ys))) (greatest-one tomb_cmp_total tomb_cmp-IsAntisymmetric (greatest tomb_cmp xs))
    ∙ sym (greatest-append tomb_cmp_total tomb_cmp-IsAntisymmetric xs ys)

joined_row-first : (xs ys : List Row) → joined_row (joined_row xs ∷ ys) ≡ joined_row (xs ++ ys)
joined_row-first xs ys =
    joined_row-append (joined_row xs ∷ []) ys
    ∙ ap (λ r. joined_row (r ∷ joined_row ys ∷ [])) (joined_row-one (joined_row xs) (IsRow-joined_row xs))
    ∙ sym (joined_row-append xs ys)

joined_rows-first : (xs ys : List (List Comp × Row)) → joined_rows (joined_rows xs ++ ys) ≡ joined_rows (xs ++ ys)
joined_rows-first xs ys =
    joined_rows-append (joined_rows xs) ys
    ∙ ap (λ rs. joined_rows (rs ++ joined_rows ys)) (joined_rows-again xs)
    ∙ sym (joined_rows-append xs ys)

pub partition_tombs-append : (xs ys : List Mutation) → partition_tombs (xs ++ ys) ≡ partition_tombs xs ++ partition_tombs ys
partition_tombs-append xs ys = filter_map-append (λ c. c.pt) xs ys

pub static_rows-append : (xs ys : List Mutation) → static_rows (xs ++ ys) ≡ static_rows xs ++ static_rows ys
static_rows-append [] ys = refl
static_rows-append (x ∷ xs) ys = ap (λ rs. x.statics ∷ rs) (static_rows-append xs ys)

pub all_rows-append : (xs ys : List Mutation) → all_rows (xs ++ ys) ≡ all_rows xs ++ all_rows ys
all_rows-append xs ys = flat_map-append (λ c. c.rows) xs ys

pub all_pieces-append : (xs ys : List Mutation) → all_pieces (xs ++ ys) ≡ all_pieces xs ++ all_pieces ys
all_pieces-append xs ys = flat_map-append (λ c. c.ranges) xs ys

-- any first part of writes may be joined first
pub IsJoinOf-first : (m r : Mutation) (xs ys : List Mutation) → IsJoinOf m xs → IsJoinOf r (m ∷ ys) → IsJoinOf r (xs ++ ys)
IsJoinOf-first m r xs ys j k = record {
  head = k.head ∙ ap (λ o. greatest tomb_cmp (cons_option o (partition_tombs ys))) j.head ∙ greatest-first (partition_tombs xs) (partition_tombs ys) ∙ ap (greatest tomb_cmp) (sym (partition_tombs-append xs ys));
  statics = k.statics ∙ ap (λ s. joined_row (s ∷ static_rows ys)) j.statics ∙ joined_row-first (static_rows xs) (static_rows ys) ∙ ap joined_row (sym (static_rows-append xs ys));
  rows = k.rows ∙ ap (λ rs. joined_rows (rs ++ all_rows ys)) j.rows ∙ joined_rows-first (all_rows xs) (all_rows ys) ∙ ap joined_rows (sym (all_rows-append xs ys));
  ranges = λ x.
      k.ranges x
      ∙ cover-append m.ranges (all_pieces ys) x
      ∙ ap (λ t. greater tomb_cmp t (range_tomb (all_pieces ys) x)) (j.ranges x)
      ∙ sym (cover-append (all_pieces xs) (all_pieces ys) x)
      ∙ ap (λ ps. range_tomb ps x) (sym (all_pieces-append xs ys));
}

range_tomb-swap : (ps qs : List Piece) (x : Pos) → range_tomb (ps ++ qs) x ≡ range_tomb (qs ++ ps) x
range_tomb-swap ps qs x =
    cover-append ps qs x
    ∙ sym (greatest-two tomb_cmp_total tomb_cmp-IsAntisymmetric (range_tomb ps x) (range_tomb qs x))
    ∙ greatest-swap tomb_cmp_total tomb_cmp-IsAntisymmetric (option_to_list (range_tomb ps x)) (option_to_list (range_tomb qs x))
    ∙ greatest-two tomb_cmp_total tomb_cmp-IsAntisymmetric (range_tomb qs x) (range_tomb ps x)
    ∙ sym (cover-append qs ps x)

range_tomb-twice : (ps : List Piece) (x : Pos) → range_tomb (ps ++ ps) x ≡ range_tomb ps x
range_tomb-twice ps x =
    cover-append ps ps x
    ∙ sym (greatest-two tomb_cmp_total tomb_cmp-IsAntisymmetric (range_tomb ps x) (range_tomb ps x))
    ∙ greatest-twice tomb_cmp_total tomb_cmp-IsAntisymmetric (option_to_list (range_tomb ps x))
    ∙ greatest-one tomb_cmp_total tomb_cmp-IsAntisymmetric (range_tomb ps x)

-- in either order
pub IsJoinOf-swap : (r : Mutation) (xs ys : List Mutation) → IsJoinOf r (xs ++ ys) → IsJoinOf r (ys ++ xs)
IsJoinOf-swap r xs ys j = record {
  head = j.head ∙ ap (greatest tomb_cmp) (partition_tombs-append xs ys) ∙ greatest-swap tomb_cmp_total tomb_cmp-IsAntisymmetric (partition_tombs xs) (partition_tombs ys) ∙ ap (greatest tomb_cmp) (sym (partition_tombs-append ys xs));
  statics = j.statics ∙ ap joined_row (static_rows-append xs ys) ∙ joined_row-swap (static_rows xs) (static_rows ys) ∙ ap joined_row (sym (static_rows-append ys xs));
  rows = j.rows ∙ ap joined_rows (all_rows-append xs ys) ∙ joined_rows-swap (all_rows xs) (all_rows ys) ∙ ap joined_rows (sym (all_rows-append ys xs));
  ranges = λ x. j.ranges x ∙ ap (λ ps. range_tomb ps x) (all_pieces-append xs ys) ∙ range_tomb-swap (all_pieces xs) (all_pieces ys) x ∙ ap (λ ps. range_tomb ps x) (sym (all_pieces-append ys xs));
}

-- the same writes again change nothing
pub IsJoinOf-twice : (r : Mutation) (xs : List Mutation) → IsJoinOf r (xs ++ xs) → IsJoinOf r xs
IsJoinOf-twice r xs j = record {
  head = j.head ∙ ap (greatest tomb_cmp) (partition_tombs-append xs xs) ∙ greatest-twice tomb_cmp_total tomb_cmp-IsAntisymmetric (partition_tombs xs);
  statics = j.statics ∙ ap joined_row (static_rows-append xs xs) ∙ joined_row-twice (static_rows xs);
  rows = j.rows ∙ ap joined_rows (all_rows-append xs xs) ∙ joined_rows-twice (all_rows xs);
  ranges = λ x. j.ranges x ∙ ap (λ ps. range_tomb ps x) (all_pieces-append xs xs) ∙ range_tomb-twice (all_pieces xs) x;
}

-- writes join to one mutation
pub IsJoinOf-same : (m n : Mutation) (xs : List Mutation) → IsMutation m → IsMutation n → IsJoinOf m xs → IsJoinOf n xs → m ≡ n
IsJoinOf-same m n xs g h j k =
    let pt : m.pt ≡ n.pt = j.head ∙ sym k.head in
    let statics : m.statics ≡ n.statics = j.statics ∙ sym k.statics in
    let rows : m.rows ≡ n.rows = j.rows ∙ sym k.rows in
    let ranges : m.ranges ≡ n.ranges = determined m.ranges n.ranges g.ranges h.ranges (λ x _. j.ranges x ∙ sym (k.ranges x)) in
    λ i. record { pt = pt i; statics = statics i; rows = rows i; ranges = ranges i }

-- what a body of `join` has made of two is what they join to
pub joined_two : (m n r : Mutation) → r.pt ≡ greater tomb_cmp m.pt n.pt → r.statics ≡ joined_row (m.statics ∷ n.statics ∷ []) → r.rows ≡ joined_rows (m.rows ++ n.rows) → ((x : Pos) → range_tomb r.ranges x ≡ greater tomb_cmp (range_tomb m.ranges x) (range_tomb n.ranges x)) → IsJoinOf r (m ∷ n ∷ [])
joined_two m n r pt statics rows ranges = record {
  head = pt ∙ sym (greatest-two tomb_cmp_total tomb_cmp-IsAntisymmetric m.pt n.pt) ∙ ap (greatest tomb_cmp) (ap (λ ts. option_to_list m.pt ++ ts) (sym (cons_one n.pt)) ∙ sym (cons_list m.pt (cons_option n.pt [])));
  statics = statics;
  rows = rows ∙ ap (λ rs. joined_rows (m.rows ++ rs)) (sym (append-nil n.rows));
  ranges = λ x. ranges x ∙ sym (cover-append m.ranges n.ranges x) ∙ ap (λ ps. range_tomb (m.ranges ++ ps) x) (sym (append-nil n.ranges));
}

-- one mutation joins to itself
pub IsJoinOf-one : (m : Mutation) → IsMutation m → IsJoinOf m (m ∷ [])
IsJoinOf-one m is = record {
  head = sym (head-one m);
  statics = sym (statics-one m is);
  rows = sym (ap joined_rows (append-nil m.rows) ∙ joined_rows-rows m.rows is.rows);
  ranges = λ x. ap (λ ps. range_tomb ps x) (sym (append-nil m.ranges));
}

pub join-comm : (a b one other : Mutation) → IsMutation one → IsMutation other → IsJoinOf one (a ∷ b ∷ []) → IsJoinOf other (b ∷ a ∷ []) → one ≡ other
join-comm a b one other g h j k = IsJoinOf-same one other (b ∷ a ∷ []) g h (IsJoinOf-swap one (a ∷ []) (b ∷ []) j) k

pub join-assoc : (a b c ab bc one other : Mutation) → IsMutation one → IsMutation other → IsJoinOf ab (a ∷ b ∷ []) → IsJoinOf one (ab ∷ c ∷ []) → IsJoinOf bc (b ∷ c ∷ []) → IsJoinOf other (a ∷ bc ∷ []) → one ≡ other
join-assoc a b c ab bc one other g h ours left theirs right =
    IsJoinOf-same one other (a ∷ b ∷ c ∷ []) g h
    (IsJoinOf-first ab one (a ∷ b ∷ []) (c ∷ []) ours left)
    (IsJoinOf-swap other (b ∷ c ∷ []) (a ∷ []) (IsJoinOf-first bc other (b ∷ c ∷ []) (a ∷ []) theirs (IsJoinOf-swap other (a ∷ []) (bc ∷ []) right)))

pub join-same : (a one : Mutation) → IsMutation a → IsMutation one → IsJoinOf one (a ∷ a ∷ []) → one ≡ a
join-same a one g h j = IsJoinOf-same one a (a ∷ []) h g (IsJoinOf-twice one (a ∷ []) j) (IsJoinOf-one a g)

-- nothing written is what no writes join to
pub IsJoinOf-none : IsJoinOf (record { pt = None; statics = empty_row; rows = []; ranges = [] }) []
IsJoinOf-none = record {
  head = sym (greatest-none tomb_cmp);
  statics = sym joined_row-none;
  rows = sym (joined_rows-rows [] (record { ascend = refl; written = λ k d lt. absurd (omega arith); by_column = λ k d lt. absurd (omega arith) }));
  ranges = λ x. refl;
}

-- one more write is joined to what the others joined to
pub IsJoinOf-more : (m r c : Mutation) (xs : List Mutation) → IsJoinOf m xs → IsJoinOf r (m ∷ c ∷ []) → IsJoinOf r (xs ++ c ∷ [])
IsJoinOf-more m r c xs j k = IsJoinOf-first m r xs (c ∷ []) j k
