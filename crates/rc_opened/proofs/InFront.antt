-- Lines in front of others; and the static line, which stands before all row lines.
use Rattle.std.specs.Prelude.{◌≡◌, ◌+◌, ◌<◌, ◌||◌, Bool, true, false, cond, ℕ, List, [], ◌∷◌, ◌++◌, length, take, drop, nat_lt, if◌then◌else◌, Option, Some, None, Result, Ok, Err, IfOk, OnOk, OnErr}
use Rattle.std.specs.Option.{option_to_list}
use Rattle.std.specs.List.{cons_option, filter, filter_map, list_any}
use Rattle.std.specs.declared.alloc.AllocError.{AllocError}
use Rattle.std.proofs.Common.{refl, sym, ap, ◌∙◌, append_assoc, arith, length-append, subst, take-append-drop}
use Rattle.std.proofs.lemmas.Bool.Decides.{nat_tests}
use lib.Seq.{drop-append-add, drop-append-le, take-append-add, take-append-le}
use Rattle.rc_cell.specs.Deletion.{survives}
use Rattle.rc_cell.specs.Winner.{all_cells, markers, winners}
use Rattle.rc_position.specs.declared.comps.Comp.{Comp}
use Rattle.rc_position.specs.declared.slices.Slice.{Slice}
use Rattle.rc_mutation.specs.declared.mutations.Mutation.{Mutation}
use Rattle.rc_mutation.specs.Fragments.{has_any}
use Rattle.rc_mutation.specs.Source.{all_rows, keys, row_cover, rows_at, source_at_head, static_rows}
use Rattle.rc_query.specs.declared.lines.OutLine.{OutLine}
use Rattle.rc_query.specs.declared.lines.OutLine.TheVariants as line
use Rattle.rc_query.specs.Answer.{answer, in_slice, line_of, live_values, row_lines}
use Rattle.rc_memory.specs.Memory.{Memory}
use Rattle.rc_opened.specs.declared.behind.OpenedBehind.{OpenedBehind}
use Rattle.rc_opened.specs.declared.opened.Opened.{Opened}
use Rattle.rc_opened.specs.Behind.{LeavesBehind, begins_static, lines_behind}
use Rattle.rc_opened.specs.calls.Behind.{without_static}
use Rattle.rc_opened.specs.Opened.{left_behind}

-- ---- the static line

-- the first line is let go where it is the static one
pub first_passed : (ls : List OutLine) → without_static ls ≡ cond (begins_static (take 1 ls)) [] (take 1 ls) ++ drop 1 ls
first_passed [] = refl
first_passed (line.Static v ∷ ls) = refl
first_passed (line.Row k v ∷ ls) = refl

row_or : (b : Bool) (k : List Comp) (v : List (ℕ × List ℕ)) (ls : List OutLine) → begins_static ls ≡ false → begins_static (cons_option (if b then Some (line.Row k v) else None) ls) ≡ false
row_or true k v ls h = refl
row_or false k v ls h = h

-- row lines begin with no static line
rows_begin : (changes : List Mutation) (ks : List (List Comp)) → begins_static (filter_map (λ key. line_of (row_cover changes key) key (rows_at key (all_rows changes))) ks) ≡ false
rows_begin changes [] = refl
rows_begin changes (k ∷ ks) =
    let values = live_values (row_cover changes k) (winners (all_cells (rows_at k (all_rows changes)))) in
    row_or (has_any values || list_any (survives (row_cover changes k)) (markers (rows_at k (all_rows changes)))) k values (filter_map (λ key. line_of (row_cover changes key) key (rows_at key (all_rows changes))) ks) (rows_begin changes ks)

no_static : (ls : List OutLine) → begins_static ls ≡ false → without_static ls ≡ ls
no_static [] h = refl
no_static (line.Static v ∷ ls) h = absurd (cc)
no_static (line.Row k v ∷ ls) h = refl

static_or : (b : Bool) (v : List (ℕ × List ℕ)) (rows : List OutLine) → begins_static rows ≡ false → without_static (option_to_list (if b then Some (line.Static v) else None) ++ rows) ≡ rows
static_or true v rows h = refl
static_or false v rows h = no_static rows h

-- an answer without its static line are its row lines
pub without_answer : (changes : List Mutation) (slice : Slice) → without_static (answer changes slice) ≡ row_lines changes slice
unfolding answer
without_answer changes slice =
    let values = live_values (source_at_head changes) (winners (all_cells (static_rows changes))) in
    static_or (has_any values) values (row_lines changes slice) (rows_begin changes (filter (in_slice slice) (keys (all_rows changes))))

-- ---- lines in front

-- fewer than are in front
pub take_front : (n : ℕ) (front rest : List OutLine) → n < length front → take n (front ++ rest) ≡ take n front
take_front n front rest lt = take-append-le n front rest (omega (arith, lt))

pub drop_front : (n : ℕ) (front rest : List OutLine) → n < length front → drop n (front ++ rest) ≡ drop n front ++ rest
drop_front n front rest lt = drop-append-le n front rest (omega (arith, lt))

pub more_front : (n : ℕ) (front rest : List OutLine) → n < length front → nat_lt n (length (front ++ rest)) ≡ true
more_front n front rest lt =
    let longer : length (front ++ rest) ≡ length front + length rest = length-append front rest in
    let less : n < length (front ++ rest) = omega (arith, lt, longer) in
    grind (arith, nat_tests, less)

-- all of them, and so many of the rest
pub take_on : (n w : ℕ) (front rest : List OutLine) → w + length front ≡ n → front ++ take w rest ≡ take n (front ++ rest)
take_on n w front rest e =
    let f : length front + w ≡ n = omega (arith, e) in
    sym (take-append-add front rest w) ∙ ap (λ k. take k (front ++ rest)) f

pub drop_on : (n w : ℕ) (front rest : List OutLine) → w + length front ≡ n → drop w rest ≡ drop n (front ++ rest)
drop_on n w front rest e =
    let f : length front + w ≡ n = omega (arith, e) in
    sym (drop-append-add front rest w) ∙ ap (λ k. drop k (front ++ rest)) f

pub more_on : (n w : ℕ) (front rest : List OutLine) → w + length front ≡ n → nat_lt w (length rest) ≡ nat_lt n (length (front ++ rest))
more_on n w front rest e =
    let longer : length (front ++ rest) ≡ length front + length rest = length-append front rest in
    grind (arith, nat_tests, e, longer)

-- ---- what is left behind lines in front

module _ (left : Opened → Memory → List OutLine → Type 0) where
  -- the first line of an open reader is let go where it is the static one
  pub passed_first : {T : Type 0} (m : Memory) (o : Opened) (settled ahead first lines : List OutLine) (r : Result T AllocError) (g : T) → r ≡ Ok g → first ≡ take 1 lines → ahead ≡ cond (begins_static first) [] first → left o m (left_behind r 1 lines) →
      LeavesBehind left m (record { front = settled; ahead = ahead; opened = o }) (settled ++ without_static lines)
  passed_first m o settled ahead first lines r g e f a h = record {
    rest = drop 1 lines;
    opened = subst (λ z. left o m (left_behind z 1 lines)) e h;
    are = ap (λ ls. settled ++ ls) (first_passed lines ∙ ap (λ z. cond (begins_static z) [] z ++ drop 1 lines) (sym f) ∙ ap (λ z. z ++ drop 1 lines) (sym a));
  }

  -- so it is where the answer is left
  pub passed_answer : {E : Type 0} (m : Memory) (settled : Option (List OutLine)) (lines : List OutLine) (changes : List Mutation) (slice : Slice) (r : Result OpenedBehind E) → settled ≡ Some lines → IfOk r (λ o. LeavesBehind left m o (lines ++ without_static (answer changes slice))) →
      IfOk r (λ o. LeavesBehind left m o (lines_behind settled changes slice))
  passed_answer m settled lines changes slice r e h =
      subst (λ z. IfOk r (λ o. LeavesBehind left m o (lines_behind z changes slice))) (sym e) (subst (λ ls. IfOk r (λ o. LeavesBehind left m o (lines ++ ls))) (without_answer changes slice) h)

  -- with nothing in front what it leaves is left
  pub nothing_settled : (m : Memory) (o : Opened) (front ahead lines : List OutLine) → front ≡ [] → ahead ≡ [] → left o m lines → LeavesBehind left m (record { front = front; ahead = ahead; opened = o }) lines
  nothing_settled m o front ahead lines e f h = record { rest = lines; opened = h; are = λ i. sym e i ++ (sym f i ++ lines) }

  pub whole_answer : (m : Memory) (settled : Option (List OutLine)) (changes : List Mutation) (slice : Slice) (o : Opened) (front ahead : List OutLine) → settled ≡ None → front ≡ [] → ahead ≡ [] → left o m (answer changes slice) → LeavesBehind left m (record { front = front; ahead = ahead; opened = o }) (lines_behind settled changes slice)
  whole_answer m settled changes slice o front ahead n e f h = subst (λ z. LeavesBehind left m (record { front = front; ahead = ahead; opened = o }) (lines_behind z changes slice)) (sym n) (nothing_settled m o front ahead (answer changes slice) e f h)

  -- once what was read behind the lines in front is put to these
  pub settled_left : (m : Memory) (o s : OpenedBehind) (lines : List OutLine) → s ≡ record { front = o.front ++ o.ahead; ahead = []; opened = o.opened } → (l : LeavesBehind left m o lines) → (s.front ++ l.rest ≡ lines) × left s.opened m l.rest
  settled_left m o s lines e l = (ap (λ (z : OpenedBehind). z.front ++ l.rest) e ∙ append_assoc o.front o.ahead l.rest ∙ sym l.are, subst (λ (z : OpenedBehind). left z.opened m l.rest) (sym e) l.opened)

  pub on_lines : (m : Memory) (o : OpenedBehind) (f : List OutLine → List OutLine) (a b : List OutLine) → a ≡ b → LeavesBehind left m o (f a) → LeavesBehind left m o (f b)
  on_lines m o f a b e h = subst (λ ls. LeavesBehind left m o (f ls)) e h

  pub on_reader : (m : Memory) (o s : OpenedBehind) (lines : List OutLine) → s ≡ o → LeavesBehind left m o lines → LeavesBehind left m s lines
  on_reader m o s lines e h = subst (λ z. LeavesBehind left m z lines) (sym e) h

  -- some of the lines in front were given, or none where that was refused
  pub front_left : {T : Type 0} (m : Memory) (o s : OpenedBehind) (rest : List OutLine) (n : ℕ) (r : Result T AllocError) → n < length o.front → o.ahead ≡ [] → OnOk r (s ≡ record { front = drop n o.front; ahead = o.ahead; opened = o.opened }) → OnErr r (s ≡ o) → left o.opened m rest →
      LeavesBehind left m s (left_behind r n (o.front ++ rest))
  front_left m o s rest n (Ok g) lt none ok err h = subst (λ z. LeavesBehind left m z (drop n (o.front ++ rest))) (sym ok) (record { rest = rest; opened = h; are = drop_front n o.front rest lt ∙ ap (λ a. drop n o.front ++ (a ++ rest)) (sym none) })
  front_left m o s rest n (Err e) lt none ok err h = subst (λ z. LeavesBehind left m z (o.front ++ rest)) (sym err) (record { rest = rest; opened = h; are = ap (λ a. o.front ++ (a ++ rest)) (sym none) })

  -- all of them, and so many of the rest; or none
  pub on_left : {T : Type 0} (m : Memory) (s : OpenedBehind) (front rest : List OutLine) (n w : ℕ) (r : Result T AllocError) → w + length front ≡ n → OnOk r (LeavesBehind left m s (drop w rest)) → OnErr r (LeavesBehind left m s (front ++ rest)) → LeavesBehind left m s (left_behind r n (front ++ rest))
  on_left m s front rest n w (Ok g) e ok err = subst (λ ls. LeavesBehind left m s ls) (drop_on n w front rest e) ok
  on_left m s front rest n w (Err x) e ok err = err

  -- all lines in front were given, and those that were read behind them
  pub gave_all : {T : Type 0} (m : Memory) (s : OpenedBehind) (op : Opened) (front now rest : List OutLine) (n : ℕ) (r : Result T AllocError) (g : T) → r ≡ Ok g → s ≡ record { front = front; ahead = []; opened = op } → now ≡ [] → left op m (left_behind r n rest) →
      LeavesBehind left m (record { front = now; ahead = s.ahead; opened = s.opened }) (drop n rest)
  gave_all m s op front now rest n r g e f none h =
      nothing_settled m s.opened now s.ahead (drop n rest) none (ap (λ (z : OpenedBehind). z.ahead) f) (subst (λ (z : OpenedBehind). left z.opened m (drop n rest)) (sym f) (subst (λ z. left op m (left_behind z n rest)) e h))

  -- none was given, though some were read behind them
  pub kept_all : {T : Type 0} (m : Memory) (s : OpenedBehind) (op : Opened) (front lines rest : List OutLine) (n : ℕ) (r : Result T AllocError) (g : T) → r ≡ Ok g → s ≡ record { front = front; ahead = lines; opened = op } → lines ≡ take n rest → left op m (left_behind r n rest) → LeavesBehind left m s (front ++ rest)
  kept_all m s op front lines rest n r g e f t h =
      on_reader m (record { front = front; ahead = lines; opened = op }) s (front ++ rest) f
      (record { rest = drop n rest; opened = subst (λ z. left op m (left_behind z n rest)) e h; are = ap (λ ls. front ++ ls) (sym (take-append-drop n rest) ∙ ap (λ ls. ls ++ drop n rest) (sym t)) })

  -- none was read
  pub refused_all : {T : Type 0} (m : Memory) (op : Opened) (front ahead rest : List OutLine) (n : ℕ) (r : Result T AllocError) (x : AllocError) → r ≡ Err x → ahead ≡ [] → left op m (left_behind r n rest) → LeavesBehind left m (record { front = front; ahead = ahead; opened = op }) (front ++ rest)
  refused_all m op front ahead rest n r x e none h = record { rest = rest; opened = subst (λ z. left op m (left_behind z n rest)) e h; are = ap (λ a. front ++ (a ++ rest)) (sym none) }
