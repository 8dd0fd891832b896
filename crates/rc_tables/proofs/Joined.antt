-- One table after another is joined.
use Rattle.std.proofs.Common.{Bool, ◌≡◌, ℕ, ◌+◌, ◌≤◌, ◌<◌, true, false, cond, List, [], ◌∷◌, ◌++◌, length, get_or, drop, Option, Some, None, refl, sym, ap, ◌∙◌, subst, arith, append-nil, append_assoc, length-append, inl, inr, map as list_map}
use Rattle.std.specs.Prelude.{◌≢◌, All, IsTrue, filter}
use Rattle.std.specs.FinMap.{is_sorted}
use Rattle.std.specs.List.{AllByRecursion, list_any}
use Rattle.std.specs.Ordering.{eq_by_cmp}
use Rattle.rc_cell.specs.Winner.{empty_row}
use Rattle.rc_outside.specs.Files.{Files}
use Rattle.rc_position.specs.Position.{bytes_cmp}
use Rattle.rc_schema.specs.SchemaValue.{SchemaValue}
use Rattle.rc_mutation.specs.declared.mutations.Mutation.{Mutation}
use Rattle.rc_mutation.specs.declared.mutations.Partition.{Partition}
use Rattle.rc_mutation.specs.Source.{IsJoinOf}
use Rattle.rc_mutation.specs.laws.Sources.{IsJoinOf-none, IsJoinOf-more}
use Rattle.rc_tfile.specs.declared.info.PartRef.{PartRef}
use Rattle.rc_tfile.specs.declared.info.TableInfo.{TableInfo}
use Rattle.rc_tfile.specs.laws.Follows.{all_append}
use Rattle.rc_stream.specs.Showing.{IsNamed}
use Rattle.rc_tables.specs.Located.{Contradicts, SaysOf, WhereTold}
use Rattle.rc_tables.specs.calls.Located.{IsLocatedOf}
use Rattle.rc_stream.specs.declared.streams.StreamErr.{StreamErr}
use Rattle.rc_stream.specs.declared.streams.StreamErr.TheVariants.{Fault, Damaged, NoMemory}
use Rattle.rc_tables.specs.Tables.{AreHeld, HoldsTables, IsDamageOf, changes_at, changes_in, listing}
use Rattle.rc_tables.specs.calls.Tables.{JoinsSome}
use Rattle.rc_tables.proofs.Places.{key_is}
use Rattle.rc_tables.proofs.Searching.{keys_ascend, none_there, located, dir_is}

-- what was joined is what the tables say that are done; what is left are tables that are there
abbrev pub Joining : Option Files → SchemaValue → List ℕ → List TableInfo → Mutation → List TableInfo → Type 0
Joining files schema key all joined left = (tables : List (ℕ × List Partition)) → HoldsTables files schema all tables
    → (done : List Mutation) × (rest : List (ℕ × List Partition)) × HoldsTables files schema left rest × IsJoinOf joined done × (changes_at key tables ≡ done ++ changes_at key rest)

pub joining_start : (files : Option Files) (schema : SchemaValue) (key : List ℕ) (all : List TableInfo) (joined : Mutation) → joined ≡ record { pt = None; statics = empty_row; rows = []; ranges = [] } → Joining files schema key all joined all
joining_start files schema key all joined e tables holds = ([], tables, holds, subst (λ (m : Mutation). IsJoinOf m []) (sym e) IsJoinOf-none, refl)

-- a table joined what it says of the key
abbrev pub Joins : Option Files → SchemaValue → List ℕ → TableInfo → Mutation → Mutation → Type 0
Joins files schema key info joined more = (table : ℕ × List Partition) (done : List Mutation) → HoldsTables files schema (info ∷ []) (table ∷ []) → IsJoinOf joined done → IsJoinOf more (done ++ changes_in key table.1)

joining_one : (files : Option Files) (schema : SchemaValue) (key : List ℕ) (info : TableInfo) (infos : List TableInfo) (joined more : Mutation) (tables : List (ℕ × List Partition)) (done : List Mutation) (rest : List (ℕ × List Partition))
    → Joins files schema key info joined more → HoldsTables files schema (info ∷ infos) rest → IsJoinOf joined done → changes_at key tables ≡ done ++ changes_at key rest
    → (done : List Mutation) × (rest : List (ℕ × List Partition)) × HoldsTables files schema infos rest × IsJoinOf more done × (changes_at key tables ≡ done ++ changes_at key rest)
joining_one files schema key info infos joined more tables done [] joins holds is e = absurd holds
joining_one files schema key info infos joined more tables done (table ∷ rest) joins holds is e =
    (done ++ changes_in key table.1, rest, holds.2, joins table done (holds.0, holds.1, tt) is, e ∙ sym (append_assoc done (changes_in key table.1) (changes_at key rest)))

pub joining_on : (files : Option Files) (schema : SchemaValue) (key : List ℕ) (all : List TableInfo) (joined more : Mutation) (info : TableInfo) (infos : List TableInfo) → Joining files schema key all joined (info ∷ infos) → Joins files schema key info joined more → Joining files schema key all more infos
joining_on files schema key all joined more info infos so_far joins tables holds =
    (let r = so_far tables holds in joining_one files schema key info infos joined more tables r.0 r.1 joins r.2 r.3 r.4)

first_there : (files : Option Files) (schema : SchemaValue) (info : TableInfo) (infos : List TableInfo) (rest : List (ℕ × List Partition)) → HoldsTables files schema (info ∷ infos) rest → AreHeld files schema (info ∷ [])
first_there files schema info infos [] holds = absurd holds
first_there files schema info infos (table ∷ rest) holds = (table ∷ [], (holds.0, holds.1, tt))

-- the next table is there
pub first_held : (files : Option Files) (schema : SchemaValue) (key : List ℕ) (all : List TableInfo) (joined : Mutation) (info : TableInfo) (infos : List TableInfo) → WhereTold files (AreHeld files schema all) → Joining files schema key all joined (info ∷ infos) → WhereTold files (AreHeld files schema (info ∷ []))
first_held None schema key all joined info infos held so_far = tt
first_held (Some files) schema key all joined info infos held so_far =
    (let r = so_far held.0 held.1 in first_there (Some files) schema info infos r.1 r.2)

-- whether a table lists a key
abbrev lists_key : List ℕ → TableInfo → Bool
lists_key key info = list_any (λ r. eq_by_cmp bytes_cmp key r.key) info.parts

pub listing_first : (key : List ℕ) (info : TableInfo) (infos : List TableInfo) → listing key (info ∷ infos) ≡ listing key (info ∷ []) + listing key infos
listing_first key info infos =
    let others = listing key infos in
    elim (lists_key key info) as (λ b. length (cond b (info ∷ filter (lists_key key) infos) (filter (lists_key key) infos)) ≡ length (cond b (info ∷ []) []) + others) [ true ↦ omega arith | false ↦ omega arith ]

-- ---- one table

one_table : (files : Option Files) (schema : SchemaValue) (info : TableInfo) (tables : List (ℕ × List Partition)) → HoldsTables files schema (info ∷ []) tables → (table : ℕ × List Partition) × HoldsTables files schema (info ∷ []) (table ∷ [])
one_table files schema info [] holds = absurd holds
one_table files schema info (table ∷ []) holds = (table, holds)
one_table files schema info (table ∷ other ∷ rest) holds = absurd holds.2

-- a table that does not list the key says nothing of it
pub joins_none : (files : Option Files) (schema : SchemaValue) (key : List ℕ) (info : TableInfo) (joined : Mutation) → (IsTrue (is_sorted bytes_cmp (list_map (λ r. (r.key, r.dir_off)) info.parts)) → All (λ r. r.key ≢ key) info.parts) → Joins files schema key info joined joined
joins_none files schema key info joined absent table done holds is =
    let none : changes_in key table.1 ≡ [] = none_there files schema table info holds.0 holds.1 key (absent (keys_ascend files schema table info holds.0 holds.1)) in
    subst (λ (ms : List Mutation). IsJoinOf joined ms) (sym (ap (λ t. done ++ t) none ∙ append-nil done)) is

-- where a table lists the key, it says of it what was read
pub joins_one : (files : Option Files) (schema : SchemaValue) (key : List ℕ) (info : TableInfo) (joined more change : Mutation) (i : ℕ) (first here : PartRef) (behind : List PartRef)
    → i < length info.parts → first ≡ get_or info.parts 0 first → here ≡ get_or info.parts i here → behind ≡ drop (i + 1) info.parts → here.key ≡ key
    → ((p : Partition) → IsLocatedOf files schema info.number first.dir_off (here ∷ behind) p → change ≡ p.change) → IsJoinOf more (joined ∷ change ∷ []) → Joins files schema key info joined more
joins_one files schema key info joined more change i first here behind lt head is rest listed reads join table done holds joined_is =
    let there = located files schema table info holds.0 holds.1 i here behind first.dir_off lt is rest (dir_is files schema table info holds.0 holds.1 first (omega (arith, lt)) head) in
    let p = there.0 in
    let named : p.key ≡ key = sym (key_is files info.number first.dir_off here behind p there.1.0) ∙ listed in
    let said : changes_in key table.1 ≡ change ∷ [] = ap (λ k. changes_in k table.1) (sym named) ∙ there.2 ∙ ap (λ (m : Mutation). m ∷ []) (sym (reads p there.1)) in
    subst (λ (ms : List Mutation). IsJoinOf more (done ++ ms)) (sym said) (IsJoinOf-more joined more change done joined_is join)

pub listed_there : (files : Option Files) (schema : SchemaValue) (info : TableInfo) (i : ℕ) (first here : PartRef) (behind : List PartRef) → i < length info.parts → first ≡ get_or info.parts 0 first → here ≡ get_or info.parts i here → behind ≡ drop (i + 1) info.parts
    → WhereTold files (AreHeld files schema (info ∷ [])) → WhereTold files ((p : Partition) × IsLocatedOf files schema info.number first.dir_off (here ∷ behind) p)
listed_there None schema info i first here behind lt head is rest held = tt
listed_there (Some files) schema info i first here behind lt head is rest held =
    let one = one_table (Some files) schema info held.0 held.1 in
    let there = located (Some files) schema one.0 info one.1.0 one.1.1 i here behind first.dir_off lt is rest (dir_is (Some files) schema one.0 info one.1.0 one.1.1 first (omega (arith, lt)) head) in
    (there.0, there.1)

-- ---- lists of tables

pub map_first : {X Y : Type 0} (f : X → Y) (xs : List X) (x : X) → 1 ≤ length xs → x ≡ get_or xs 0 x → list_map f xs ≡ f x ∷ list_map f (drop 1 xs)
map_first f [] x n e = absurd (omega (arith, n))
map_first f (y ∷ ys) x n e = ap (λ z. f z ∷ list_map f ys) (sym e)

-- ---- whatever the files hold

-- some changes were joined, at most one of each table that lists the key of those that are done
pub record SomeSoFar (schema : SchemaValue) (key : List ℕ) (all : List TableInfo) (joined : Mutation) (left : List TableInfo) : Type 0 where
  pub changes : List Mutation
  pub joins : IsJoinOf joined changes
  pub count : length changes + listing key left ≤ listing key all
  pub fit : AllByRecursion (SaysOf schema) changes

pub some_start : (schema : SchemaValue) (key : List ℕ) (all : List TableInfo) (joined : Mutation) → joined ≡ record { pt = None; statics = empty_row; rows = []; ranges = [] } → SomeSoFar schema key all joined all
some_start schema key all joined e = record { changes = []; joins = subst (λ (m : Mutation). IsJoinOf m []) (sym e) IsJoinOf-none; count = omega arith; fit = tt }

pub some_on : (schema : SchemaValue) (key : List ℕ) (all : List TableInfo) (joined more : Mutation) (info : TableInfo) (infos : List TableInfo) → SomeSoFar schema key all joined (info ∷ infos) → JoinsSome schema (info ∷ []) key joined more → SomeSoFar schema key all more infos
some_on schema key all joined more info infos so_far joins = record {
  changes = so_far.changes ++ joins.changes;
  joins = joins.joined so_far.changes so_far.joins;
  count = omega (arith, so_far.count, joins.count, listing_first key info infos, length-append so_far.changes joins.changes);
  fit = all_append (SaysOf schema) so_far.changes joins.changes so_far.fit joins.fit;
}

-- nothing was joined of a table that does not list the key
pub joins_nothing : (schema : SchemaValue) (key : List ℕ) (info : TableInfo) (joined : Mutation) → JoinsSome schema (info ∷ []) key joined joined
joins_nothing schema key info joined = record { changes = []; joined = λ done is. subst (λ (ms : List Mutation). IsJoinOf joined ms) (sym (append-nil done)) is; count = omega arith; fit = tt }

-- one change was joined of a table that lists it
pub joins_said : (schema : SchemaValue) (key : List ℕ) (info : TableInfo) (joined more change : Mutation) → 1 ≤ listing key (info ∷ []) → IsJoinOf more (joined ∷ change ∷ []) → SaysOf schema change → JoinsSome schema (info ∷ []) key joined more
joins_said schema key info joined more change one join says = record { changes = change ∷ []; joined = λ done is. IsJoinOf-more joined more change done is join; count = omega (arith, one); fit = (says, tt) }

-- damage of one table is damage of a set that it is in
pub damage_first : (schema : SchemaValue) (key : List ℕ) (info : TableInfo) (infos : List TableInfo) (e : StreamErr) → IsDamageOf schema key (info ∷ []) e → IsDamageOf schema key (info ∷ infos) e
damage_first schema key info infos Fault d = tt
damage_first schema key info infos (Damaged file offset) (inl d) = inl d
damage_first schema key info infos (Damaged file offset) (inr d) = absurd d
damage_first schema key info infos NoMemory d = tt

pub damage_behind : (schema : SchemaValue) (key : List ℕ) (info : TableInfo) (infos : List TableInfo) (e : StreamErr) → IsDamageOf schema key infos e → IsDamageOf schema key (info ∷ infos) e
damage_behind schema key info infos Fault d = tt
damage_behind schema key info infos (Damaged file offset) d = inr d
damage_behind schema key info infos NoMemory d = tt

pub damage_one : (schema : SchemaValue) (key : List ℕ) (info : TableInfo) (e : StreamErr) (dir i : ℕ) (here : PartRef) (later : List PartRef) → drop i info.parts ≡ here ∷ later → here.key ≡ key
    → IsNamed (Contradicts schema info.number dir here later) e → IsDamageOf schema key (info ∷ []) e
damage_one schema key info Fault dir i here later there listed d = tt
damage_one schema key info (Damaged file offset) dir i here later there listed d = inl (dir, i, here, later, there, listed, d)
damage_one schema key info NoMemory dir i here later there listed d = tt
