-- What is left to a reader past the row cache is what is left to the machine's once it is told anew what the tables say.
use Rattle.std.specs.Prelude.{◌≡◌, ◌≤◌, ◌-◌, ◌⊎◌, Bool, true, false, if◌then◌else◌, ℕ, zero, suc, List, [], ◌∷◌, ◌++◌, Option, Some, None, All, MatchOption, ⊤, length, take, drop, filter}
use Rattle.std.specs.Option.{option_to_list}
use Rattle.std.specs.List.{cons_option, filter_map}
use Rattle.std.proofs.Common.{refl, sym, ap, subst, ◌∙◌, inl, inr, arith}
use Rattle.std.proofs.lemmas.List.Elements.{All-append}
use Rattle.rc_outside.specs.Files.{Files}
use Rattle.rc_position.specs.declared.comps.Comp.{Comp}
use Rattle.rc_position.specs.declared.positions.Pos.{Pos}
use Rattle.rc_position.specs.declared.slices.Slice.{Slice}
use Rattle.rc_position.specs.Position.{start_bound}
use Rattle.rc_schema.specs.SchemaValue.{SchemaValue}
use Rattle.rc_writes.specs.Allowed.{ChangeFits, IsRangeBound}
use Rattle.rc_mutation.specs.declared.mutations.Mutation.{Mutation}
use Rattle.rc_mutation.specs.Source.{IsJoinOf, IsMutation, all_rows, keys, row_cover, rows_at, source_at_head, static_rows}
use Rattle.rc_mutation.specs.laws.Sources.{IsJoinOf-one}
use Rattle.rc_query.specs.declared.lines.OutLine.{OutLine}
use Rattle.rc_query.specs.declared.lines.OutLine.TheVariants as line
use Rattle.rc_query.specs.Answer.{answer, in_slice, line_of, row_lines, sliced_from, static_line}
use Rattle.rc_tfile.specs.declared.info.TableInfo.{TableInfo}
use Rattle.rc_tables.specs.Located.{SaysOf}
use Rattle.rc_tables.specs.Tables.{changes_at, listing}
use Rattle.rc_memory.specs.Memory.{Memory}
use Rattle.rc_opened.specs.Opened.{AreChangesOf}
use Rattle.rc_spliced.specs.Spliced.{IsSpliced, with_head_of}
use Rattle.rc_paging.specs.declared.pages.OpenReader.{OpenReader}
use Rattle.rc_paging.specs.Pages.{LinesAreLeft}
use Rattle.rc_paging.specs.Past.{lines_past, under_head}
use Rattle.rc_paging.specs.Remainders.{IsRemainderOf, given_before}
use Rattle.rc_machine.specs.State.{Reader, State, lines_of, rest_of}
use Rattle.rc_machine.specs.Steps.{MaySay}
use Rattle.rc_folder.specs.Tabled.{IsSaidByFirst}
use Rattle.rc_shard.proofs.Joined.{joined-beside}
use Rattle.rc_shard.specs.calls.Resaying.{IsJoinBelow, IsReadAnew, IsReaderOver, IsToldAnew}

-- ---- lists

parted : {X : Type 0} (n : ℕ) (xs : List X) → xs ≡ take n xs ++ drop n xs
parted zero xs = refl
parted (suc n) [] = refl
parted (suc n) (x ∷ xs) = ap (λ ys. x ∷ ys) (parted n xs)

-- the first so many and the one behind them stay where others follow
begins-alike : {X : Type 0} (n : ℕ) (xs : List X) (x : X) (rest others : List X) → drop n xs ≡ x ∷ rest → take (suc n) (take n xs ++ x ∷ others) ≡ take (suc n) xs
begins-alike zero xs x rest others h = sym (ap (take 1) h)
begins-alike (suc n) [] x rest others h = absurd (cc)
begins-alike (suc n) (y ∷ ys) x rest others h = ap (λ zs. y ∷ zs) (begins-alike n ys x rest others h)

behind-alike : {X : Type 0} (n : ℕ) (xs : List X) (x : X) (rest others : List X) → drop n xs ≡ x ∷ rest → drop n (take n xs ++ x ∷ others) ≡ x ∷ others
behind-alike zero xs x rest others h = refl
behind-alike (suc n) [] x rest others h = absurd (cc)
behind-alike (suc n) (y ∷ ys) x rest others h = behind-alike n ys x rest others h

abbrev first-or : {X : Type 0} → X → List X → X
first-or d [] = d
first-or d (x ∷ xs) = x

abbrev others-of : {X : Type 0} → List X → List X
others-of [] = []
others-of (x ∷ xs) = xs

-- what is kept of lines is their first one, where there is one
none-kept : {X : Type 0} (xs : List X) → [] ≡ take 1 xs → xs ≡ []
none-kept [] h = refl
none-kept (x ∷ xs) h = absurd (cc)

kept-alone : {X : Type 0} (x : X) (others xs : List X) → x ∷ others ≡ take 1 xs → others ≡ []
kept-alone x others [] h = absurd (cc)
kept-alone x others (y ∷ ys) h = ap others-of h

kept-first : {X : Type 0} (x : X) (others xs : List X) → x ∷ others ≡ take 1 xs → xs ≡ x ∷ drop 1 xs
kept-first x others [] h = absurd (cc)
kept-first x others (y ∷ ys) h = ap (λ z. z ∷ ys) (sym (ap (first-or x) h))

none-of : {X : Type 0} (xs : List X) → length xs ≤ 0 → xs ≡ []
none-of [] h = refl
none-of (x ∷ xs) h = absurd (omega (arith, h))

-- ---- the static line

abbrev AreRows : List OutLine → Type 0
AreRows [] = ⊤
AreRows (line.Static v ∷ ls) = ⊥
AreRows (line.Row k v ∷ ls) = AreRows ls

rows-dropped : (n : ℕ) (ls : List OutLine) → AreRows ls → AreRows (drop n ls)
rows-dropped zero ls h = h
rows-dropped (suc n) [] h = tt
rows-dropped (suc n) (line.Static w ∷ ls) h = absurd h
rows-dropped (suc n) (line.Row k w ∷ ls) h = rows-dropped n ls h

-- live values of columns
abbrev Shown : Type 0
Shown = List (ℕ × List ℕ)

by-test : (b : Bool) (k : List Comp) (v : Shown) → ((if b then Some (line.Row k v) else None) ≡ None) ⊎ ((w : Shown) × ((if b then Some (line.Row k v) else None) ≡ Some (line.Row k w)))
by-test true k v = inr (v, refl)
by-test false k v = inl refl

abbrev line-at : List Mutation → List Comp → Option OutLine
line-at changes key = line_of (row_cover changes key) key (rows_at key (all_rows changes))

of-key : (changes : List Mutation) (k : List Comp) → (line-at changes k ≡ None) ⊎ ((w : Shown) × (line-at changes k ≡ Some (line.Row k w)))
of-key changes k = by-test _ k _

are-rows : (changes : List Mutation) (ks : List (List Comp)) → AreRows (filter_map (line-at changes) ks)
are-rows changes [] = tt
are-rows changes (k ∷ ks) = elim (of-key changes k) as (λ _. AreRows (filter_map (line-at changes) (k ∷ ks))) [
  | inl n ↦ subst AreRows (sym (ap (λ o. cons_option o (filter_map (line-at changes) ks)) n)) (are-rows changes ks)
  | inr w ↦ subst AreRows (sym (ap (λ o. cons_option o (filter_map (line-at changes) ks)) w.1)) (are-rows changes ks)
]

row-lines-are : (changes : List Mutation) (slice : Slice) → AreRows (row_lines changes slice)
row-lines-are changes slice = are-rows changes (filter (in_slice slice) (keys (all_rows changes)))

answer-is : (changes : List Mutation) (slice : Slice) → answer changes slice ≡ option_to_list (static_line (source_at_head changes) (static_rows changes)) ++ row_lines changes slice
unfolding answer
answer-is changes slice = refl

no-static : (ls rest : List OutLine) (v : Shown) → AreRows ls → ls ≡ line.Static v ∷ rest → ⊥
no-static ls rest v are h = subst AreRows h are

-- before the static line there is none
static-first : (s : Option OutLine) (rows rest : List OutLine) (n : ℕ) (v : Shown) → AreRows rows → drop n (option_to_list s ++ rows) ≡ line.Static v ∷ rest → n ≡ 0
static-first None rows rest n v are h = absurd (no-static (drop n rows) rest v (rows-dropped n rows are) h)
static-first (Some l) rows rest zero v are h = refl
static-first (Some l) rows rest (suc n) v are h = absurd (no-static (drop n rows) rest v (rows-dropped n rows are) h)

static-alone : (s : Option OutLine) (rows rest : List OutLine) (v : Shown) → AreRows rows → option_to_list s ++ rows ≡ line.Static v ∷ rest → option_to_list s ≡ line.Static v ∷ []
static-alone None rows rest v are h = absurd (no-static rows rest v are h)
static-alone (Some l) rows rest v are h = ap (take 1) h

none-before-static : (changes : List Mutation) (slice : Slice) (rest : List OutLine) (n : ℕ) (v : Shown) → drop n (answer changes slice) ≡ line.Static v ∷ rest → n ≡ 0
none-before-static changes slice rest n v h = static-first (static_line (source_at_head changes) (static_rows changes)) (row_lines changes slice) rest n v (row-lines-are changes slice) (sym (ap (drop n) (answer-is changes slice)) ∙ h)

-- what was read, with the head and the static row of before, has the static line of before, and behind it the row lines of what was read
with-static : (first read : Mutation) (below written : List Mutation) (slice : Slice) (rest : List OutLine) (v : Shown) → first.pt ≡ source_at_head below → answer (first ∷ written) slice ≡ line.Static v ∷ rest →
    answer (with_head_of first read ∷ written) slice ≡ lines_past below read written (Some (line.Static v ∷ [])) slice
with-static first read below written slice rest v head h =
    let front = static-alone (static_line (source_at_head (first ∷ written)) (static_rows (first ∷ written))) (row_lines (first ∷ written) slice) rest v (row-lines-are (first ∷ written) slice) (sym (answer-is (first ∷ written) slice) ∙ h) in
    let rows : row_lines (with_head_of first read ∷ written) slice ≡ row_lines (under_head below read ∷ written) slice = ap (λ pt. row_lines (record read { pt = pt } ∷ written) slice) head in
    answer-is (with_head_of first read ∷ written) slice ∙ (λ i. front i ++ rows i)

-- ---- joins

-- what two join of one joins of another of which that one does
join-through : (m n : Mutation) (xs ys : List Mutation) → IsJoinOf m xs → IsJoinOf n xs → IsJoinOf n ys → IsJoinOf m ys
join-through m n xs ys a b c = record {
  head = a.head ∙ sym b.head ∙ c.head;
  statics = a.statics ∙ sym b.statics ∙ c.statics;
  rows = a.rows ∙ sym b.rows ∙ c.rows;
  ranges = λ x. a.ranges x ∙ sym (b.ranges x) ∙ c.ranges x;
}

-- where one mutation lies below the row cache, to which what the tables said joins, it is the join
pub below-one : (schema : SchemaValue) (join : Mutation) (below said : List Mutation) → below ≡ join ∷ [] → IsMutation join → All (ChangeFits schema) below → IsJoinOf join said → IsJoinBelow schema below said
below-one schema join below said is mutation fit joined = record {
  join = join;
  mutation = mutation;
  fits = subst (All (ChangeFits schema)) is fit 0 join (omega arith);
  below_cache = subst (IsJoinOf join) (sym is) (IsJoinOf-one join mutation);
  of_tables = joined;
}

-- what first tables say by whether the folder is told
while-told : (m : State) (first : List TableInfo) (key : List ℕ) (said : List Mutation) (files : Files) → m.files ≡ Some files → IsSaidByFirst m first key said → said ≡ changes_at key (take (length first) m.tables)
while-told m first key said files e h = subst (λ (f : Option Files). MatchOption f (MaySay m.schema (listing key first) said) (λ files. said ≡ changes_at key (take (length first) m.tables))) e h

while-untold : (m : State) (first : List TableInfo) (key : List ℕ) (said : List Mutation) → m.files ≡ None → IsSaidByFirst m first key said → MaySay m.schema (listing key first) said
while-untold m first key said e h = subst (λ (f : Option Files). MatchOption f (MaySay m.schema (listing key first) said) (λ files. said ≡ changes_at key (take (length first) m.tables))) e h

while-none : (m : State) (first : List TableInfo) (key : List ℕ) (said : List Mutation) → m.files ≡ None → MaySay m.schema (listing key first) said → IsSaidByFirst m first key said
while-none m first key said e h = subst (λ (f : Option Files). MatchOption f (MaySay m.schema (listing key first) said) (λ files. said ≡ changes_at key (take (length first) m.tables))) (sym e) h

-- where none lists a key they say nothing
none-listed : (m : State) (first : List TableInfo) (key : List ℕ) (said : List Mutation) → m.files ≡ None → listing key first ≡ 0 → IsSaidByFirst m first key said → said ≡ []
none-listed m first key said e none h =
    let few = (while-untold m first key said e h).0 in
    none-of said (subst (λ (n : ℕ). length said ≤ n) none few)

-- what has the head and the static row of one mutation, and else what another has, fits where both do
headed-says : (schema : SchemaValue) (first read : Mutation) → SaysOf schema first → SaysOf schema read → SaysOf schema (with_head_of first read)
headed-says schema first read a b = (
  record { alone = a.0.alone; statics = a.0.statics; rows = b.0.rows; ranges = b.0.ranges },
  record { statics = a.1.statics; rows = b.1.rows; ranges = b.1.ranges },
)

-- the laws that are cited
pub record Laws : Type 0 where
  pub joined : (mutation : Mutation) (changes : List Mutation) (slice : Slice) → IsJoinOf mutation changes → answer changes slice ≡ answer (mutation ∷ []) slice
  pub all : (writes : List Mutation) → All IsMutation writes → (whole : Mutation) × IsMutation whole × IsJoinOf whole writes
  pub splice : (x : Pos) (first second : Mutation) → IsMutation first → IsMutation second → (spliced : Mutation) × IsSpliced x first second spliced
  pub splice_fits : (schema : SchemaValue) (x : Pos) (first second spliced : Mutation) → SaysOf schema first → SaysOf schema second → IsRangeBound schema x → IsSpliced x first second spliced → SaysOf schema spliced
  pub bound : (schema : SchemaValue) (changes : List Mutation) (slice : Slice) (given rest : List OutLine) (key : List Comp) (shown : List (ℕ × List ℕ)) → All (ChangeFits schema) changes → answer changes slice ≡ given ++ line.Row key shown ∷ rest → IsRangeBound schema (start_bound key false)
  pub spliced : (schema : SchemaValue) (below written : List Mutation) (first read spliced : Mutation) (slice : Slice) (given rest : List OutLine) (key : List Comp) (shown : List (ℕ × List ℕ)) → IsJoinOf first below → IsMutation first → AreChangesOf schema below → AreChangesOf schema written →
      answer (below ++ written) slice ≡ given ++ line.Row key shown ∷ rest → IsSpliced (start_bound key false) first read spliced → answer (spliced ∷ written) slice ≡ given ++ lines_past below read written (Some (line.Row key shown ∷ [])) slice
  pub same : (schema : SchemaValue) (below written : List Mutation) (read : Mutation) (slice : Slice) (given rest : List OutLine) (key : List Comp) (shown : List (ℕ × List ℕ)) → IsJoinOf read below → IsMutation read → AreChangesOf schema below → AreChangesOf schema written →
      answer (below ++ written) slice ≡ given ++ line.Row key shown ∷ rest → lines_past below read written (Some (line.Row key shown ∷ [])) slice ≡ line.Row key shown ∷ rest
  pub same_static : (schema : SchemaValue) (below written : List Mutation) (read : Mutation) (slice : Slice) (rest : List OutLine) (shown : List (ℕ × List ℕ)) → IsJoinOf read below → IsMutation read → AreChangesOf schema written →
      answer (below ++ written) slice ≡ line.Static shown ∷ rest → lines_past below read written (Some (line.Static shown ∷ [])) slice ≡ line.Static shown ∷ rest
  pub none : (below written : List Mutation) (read : Mutation) (slice : Slice) → lines_past below read written (Some []) slice ≡ []

module _ (laws : Laws) where
  -- what changes join to says the same beside others
  beside : (first : Mutation) (changes written : List Mutation) (slice : Slice) → IsJoinOf first changes → IsMutation first → All IsMutation written → answer (first ∷ written) slice ≡ answer (changes ++ written) slice
  beside first changes written slice j is mutations = joined-beside laws.joined laws.all first changes written slice j is mutations

  -- a reader of the machine, what lies below the row cache, what is written over it, and what the first tables say now
  module _ (schema : SchemaValue) (m : State) (first : List TableInfo) (r : Reader) (below written : List Mutation) (read : Mutation) (writes : r.writes ≡ written) (of_below : AreChangesOf schema below) (of_written : AreChangesOf schema written)
      (joins : IsJoinBelow schema below r.said) (is_read : IsMutation read) (by_first : IsSaidByFirst m first r.key r.said) where
    -- what is left to it past the row cache, behind the line that was kept
    abbrev Past : Option (List OutLine) → List OutLine
    Past behind = lines_past below read written behind r.slice

    -- a line is settled where one was kept, or that there is none
    abbrev AreSettled : Option (List OutLine) → Type 0
    AreSettled behind = MatchOption behind (r.settled ≡ 0) (λ kept. 1 ≤ r.settled)

    -- and the next line is kept
    abbrev IsNextKept : ℕ → Option (List OutLine) → Type 0
    IsNextKept given behind = MatchOption behind (given ≡ 0) (λ kept. kept ≡ take 1 (rest_of r))

    -- the lines of its answer are those of what lies below the row cache
    lines-are : lines_of r ≡ answer (below ++ written) r.slice
    lines-are =
        ap (λ ws. answer (r.said ++ ws) r.slice) writes
        ∙ sym (beside joins.join r.said written r.slice joins.of_tables joins.mutation of_written.mutations)
        ∙ beside joins.join below written r.slice joins.below_cache joins.mutation of_written.mutations

    one-are : answer (joins.join ∷ written) r.slice ≡ lines_of r
    one-are = beside joins.join below written r.slice joins.below_cache joins.mutation of_written.mutations ∙ sym lines-are

    -- the line that is kept stands behind those that are settled before it
    line-in : (l : OutLine) → rest_of r ≡ l ∷ drop 1 (rest_of r) → answer (below ++ written) r.slice ≡ take (r.settled - 1) (lines_of r) ++ l ∷ drop 1 (rest_of r)
    line-in l h = sym lines-are ∙ parted (r.settled - 1) (lines_of r) ∙ ap (λ ls. take (r.settled - 1) (lines_of r) ++ ls) h

    -- the static line is the first one
    none-settled : (v : Shown) → rest_of r ≡ line.Static v ∷ drop 1 (rest_of r) → r.settled - 1 ≡ 0
    none-settled v h = none-before-static (r.said ++ r.writes) r.slice (drop 1 (rest_of r)) (r.settled - 1) v h

    static-in : (v : Shown) → rest_of r ≡ line.Static v ∷ drop 1 (rest_of r) → lines_of r ≡ line.Static v ∷ drop 1 (rest_of r)
    static-in v h = sym (ap (λ n. drop n (lines_of r)) (none-settled v h)) ∙ h

    -- ---- what the tables say now they said

    untold : (lines : List OutLine) → lines ≡ rest_of r → IsToldAnew m first r lines
    untold lines h = record { said = r.said; resaid = inl refl; by_first = by_first; are = h }

    same-lines : IsJoinOf read below → (given : ℕ) (behind : Option (List OutLine)) → AreSettled behind → IsNextKept given behind → Past behind ≡ rest_of r
    same-lines j given None settled told = beside read below written r.slice j is_read of_written.mutations ∙ sym lines-are ∙ sym (ap (λ n. drop (n - 1) (lines_of r)) settled)
    same-lines j given (Some []) settled told = laws.none below written read r.slice ∙ sym (none-kept (rest_of r) told)
    same-lines j given (Some (line.Row k v ∷ ls)) settled told =
        let kept = kept-first (line.Row k v) ls (rest_of r) told in
        ap (λ t. Past (Some (line.Row k v ∷ t))) (kept-alone (line.Row k v) ls (rest_of r) told)
        ∙ laws.same schema below written read r.slice (take (r.settled - 1) (lines_of r)) (drop 1 (rest_of r)) k v j is_read of_below of_written (line-in (line.Row k v) kept)
        ∙ sym kept
    same-lines j given (Some (line.Static v ∷ ls)) settled told =
        let kept = kept-first (line.Static v) ls (rest_of r) told in
        ap (λ t. Past (Some (line.Static v ∷ t))) (kept-alone (line.Static v) ls (rest_of r) told)
        ∙ laws.same_static schema below written read r.slice (drop 1 (rest_of r)) v j is_read of_written (sym lines-are ∙ static-in v kept)
        ∙ sym kept

    -- ---- they may say other things

    module _ (none : m.files ≡ None) (any : 1 ≤ r.listed) (listed : r.listed ≡ listing r.key first) (schema_is : m.schema ≡ schema) (fits : ChangeFits schema read) where
      -- one change is told
      told-one : (one : Mutation) → SaysOf schema one → take r.settled (answer (one ∷ written) r.slice) ≡ take r.settled (lines_of r) → (lines : List OutLine) → lines ≡ drop (r.settled - 1) (answer (one ∷ written) r.slice) → IsToldAnew m first r lines
      told-one one says stay lines left =
          let may : MaySay m.schema r.listed (one ∷ []) = (any, (subst (λ (s : SchemaValue). SaysOf s one) (sym schema_is) says, tt)) in
          let same : answer (one ∷ r.writes) r.slice ≡ answer (one ∷ written) r.slice = ap (λ ws. answer (one ∷ ws) r.slice) writes in
          record {
            said = one ∷ [];
            resaid = inr (none, may, ap (take r.settled) same ∙ stay);
            by_first = while-none m first r.key (one ∷ []) none (subst (λ (n : ℕ). MaySay m.schema n (one ∷ [])) listed may);
            are = left ∙ sym (ap (drop (r.settled - 1)) same);
          }

      anew : (given : ℕ) (behind : Option (List OutLine)) → AreSettled behind → IsNextKept given behind → IsToldAnew m first r (Past behind)
      anew given None settled told =
          let lines = answer (read ∷ written) r.slice in
          told-one read (is_read, fits) (ap (λ n. take n lines) settled ∙ sym (ap (λ n. take n (lines_of r)) settled)) (Past None) (sym (ap (λ n. drop (n - 1) lines) settled))
      anew given (Some []) settled told = untold (Past (Some [])) (laws.none below written read r.slice ∙ sym (none-kept (rest_of r) told))
      anew given (Some (line.Row k v ∷ ls)) settled told =
          let l = line.Row k v in
          let x = start_bound k false in
          let kept = kept-first l ls (rest_of r) told in
          let n = r.settled - 1 in
          let before = take n (lines_of r) in
          let rest = drop 1 (rest_of r) in
          let inside = line-in l kept in
          let splice = laws.splice x joins.join read joins.mutation is_read in
          let bound = laws.bound schema (below ++ written) r.slice before rest k v (All-append (ChangeFits schema) below written of_below.fit of_written.fit) inside in
          let says = laws.splice_fits schema x joins.join read splice.0 (joins.mutation, joins.fits) (is_read, fits) bound splice.1 in
          let whole = laws.spliced schema below written joins.join read splice.0 r.slice before rest k v joins.below_cache joins.mutation of_below of_written inside splice.1 in
          let others = row_lines (under_head below read ∷ written) (sliced_from r.slice x) in
          let one-more : r.settled ≡ suc (r.settled - 1) = omega (arith, settled) in
          told-one splice.0 says
          (ap (take r.settled) whole ∙ subst (λ (c : ℕ). take c (before ++ l ∷ others) ≡ take c (lines_of r)) (sym one-more) (begins-alike n (lines_of r) l rest others kept))
          (Past (Some (l ∷ ls)))
          (ap (λ t. Past (Some (l ∷ t))) (kept-alone l ls (rest_of r) told) ∙ sym (behind-alike n (lines_of r) l rest others kept) ∙ sym (ap (drop n) whole))
      anew given (Some (line.Static v ∷ ls)) settled told =
          let l = line.Static v in
          let kept = kept-first l ls (rest_of r) told in
          let rest = drop 1 (rest_of r) in
          let inside = static-in v kept in
          let first-one = none-settled v kept in
          let whole = with-static joins.join read below written r.slice rest v joins.below_cache.head (one-are ∙ inside) in
          let one : r.settled ≡ 1 = omega (arith, settled, first-one) in
          told-one (with_head_of joins.join read) (headed-says schema joins.join read (joins.mutation, joins.fits) (is_read, fits))
          (ap (take r.settled) whole ∙ subst (λ (c : ℕ). take c (Past (Some (l ∷ []))) ≡ take c (lines_of r)) (sym one) (sym (ap (take 1) inside)))
          (Past (Some (l ∷ ls)))
          (ap (λ t. Past (Some (l ∷ t))) (kept-alone l ls (rest_of r) told) ∙ sym (ap (λ c. drop c (answer (with_head_of joins.join read ∷ written) r.slice)) first-one ∙ whole))

    -- ---- both

    by-told : (told : List Mutation) → IsSaidByFirst m first r.key told → IsJoinOf read told → ChangeFits schema read → r.listed ≡ listing r.key first → m.schema ≡ schema → (given : ℕ) (behind : Option (List OutLine)) → AreSettled behind → IsNextKept given behind → IsToldAnew m first r (Past behind)
    by-told told told_first joined fits listed schema_is given behind settled kept =
        let if-same : told ≡ r.said → IsToldAnew m first r (Past behind) = λ e. untold (Past behind) (same-lines (join-through read joins.join r.said below (subst (IsJoinOf read) e joined) joins.of_tables joins.below_cache) given behind settled kept) in
        elim m.files as (λ f. m.files ≡ f → IsToldAnew m first r (Past behind)) [
          | Some files ↦ λ e. if-same (while-told m first r.key told files e told_first ∙ sym (while-told m first r.key r.said files e by_first))
          | None ↦ λ e. elim r.listed as (λ n. r.listed ≡ n → IsToldAnew m first r (Past behind)) [
            | zero ↦ λ z. if-same (none-listed m first r.key told e (sym listed ∙ z) told_first ∙ sym (none-listed m first r.key r.said e (sym listed ∙ z) by_first))
            | suc n ↦ λ z. anew e (omega (arith, z)) listed schema_is fits given behind settled kept
          ] refl
        ] refl

  pub told-anew : (in_slice : (S : ℕ) (memory : Memory) (o : OpenReader) (below written : List Mutation) (read : Mutation) (lines : List OutLine) (slice : Slice) → LinesAreLeft S memory o below lines → IsRemainderOf slice o.remainder → lines_past below read written o.behind o.remainder.slice ≡ lines_past below read written o.behind slice) →
      (schema : SchemaValue) (m : State) (first : List TableInfo) (memory : Memory) (o : OpenReader) (below sealed active : List Mutation) (r : Reader) (read : Mutation) → IsReaderOver schema m first memory o below sealed active r → IsReadAnew schema m first r.key read →
      IsToldAnew m first r (lines_past below read (sealed ++ active) o.behind o.remainder.slice)
  told-anew in_slice schema m first memory o below sealed active r read h now =
      let written = sealed ++ active in
      let of_written : AreChangesOf schema written = record { mutations = All-append IsMutation sealed active h.of_sealed.mutations h.of_active.mutations; fit = All-append (ChangeFits schema) sealed active h.of_sealed.fit h.of_active.fit } in
      subst (IsToldAnew m first r) (sym (in_slice 131072 memory o below written read (rest_of r) r.slice h.left h.slice))
      (by-told schema m first r below written read h.writes h.of_below of_written h.joins now.mutation h.by_first now.told now.by_first now.joined now.fits h.listed h.schema_is (given_before o.remainder) o.behind h.settled h.left.told)
