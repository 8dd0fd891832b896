-- Who reads what all tables say of a partition does so after any step, unless one more table lists it.
use Rattle.std.proofs.Common.{◌≡◌, ◌==◌, ◌+◌, ℕ, Bool, true, false, cond, not, List, [], ◌∷◌, ◌++◌, length, drop, Option, Some, None, MatchOption, inl, inr, refl, sym, ap, ◌∙◌, subst, arith}
use Rattle.std.specs.List.{AllZip, filter, list_any}
use Rattle.std.specs.Map.{lookup, set_value}
use Rattle.std.specs.Ordering.{eq_by_cmp}
use Rattle.std.proofs.lemmas.Bool.Decides.{nat_tests}
use Rattle.std.proofs.lemmas.List.{length-append}
use Rattle.std.proofs.lemmas.List.Elements.{filter-append}
use Rattle.std.proofs.lemmas.Map.Entries.{lookup-filter-keys}
use Rattle.rc_outside.specs.Files.{Files}
use Rattle.rc_position.specs.Position.{bytes_cmp}
use Rattle.rc_mutation.specs.declared.mutations.Mutation.{Mutation}
use Rattle.rc_query.specs.declared.lines.OutLine.{OutLine}
use Rattle.rc_tfile.specs.declared.info.TableInfo.{TableInfo}
use Rattle.rc_tables.specs.Tables.{listing}
use Rattle.rc_lines.specs.declared.commands.Command.{Command}
use Rattle.rc_lines.specs.declared.commands.Command.TheVariants.{Nothing, SetSchema, Put, OpenRead, Read, Close, Flush, FlushBegin, FlushStep, Evict, Compact, Clean, Stats}
use Rattle.rc_lines.specs.declared.commands.Refusal.TheVariants.{NoReader}
use Rattle.rc_lines.specs.declared.commands.Reply.{Reply}
use Rattle.rc_memory.specs.Memory.{Memory}
use Rattle.rc_paging.specs.declared.forms.PartReader.{PartReader}
use Rattle.rc_machine.specs.Serving.{Takes}
use Rattle.rc_machine.specs.State.{Reader, State, reader_of}
use Rattle.rc_machine.specs.Steps.{Does, Gives, Refuses, Steps, is_of}
use Rattle.rc_shard.specs.declared.readers.PartitionReader.{PartitionReader}
use Rattle.rc_shard.specs.declared.shard.Shard.{Shard}
use Rattle.rc_shard.specs.Filling.{ReadsLatest, StaysLatest}
use Rattle.rc_shard.specs.Readers.{IsServed, WasOpened}
use Rattle.rc_shard.specs.Stands.{Stands}

-- ---- the machine's reader

-- it reads the same partition, and as many tables listed that when it was opened
record IsSameReader (r s : Reader) : Type 0 where
  pub key : s.key ≡ r.key
  pub listed : s.listed ≡ r.listed

same-itself : (r s : Reader) → s ≡ r → IsSameReader r s
same-itself r s e = record { key = ap (λ (x : Reader). x.key) e; listed = ap (λ (x : Reader). x.listed) e }

some-same : {X : Type 0} (x y : X) → Some x ≡ Some y → x ≡ y
some-same x y e = cc e

-- what is written at an id is found there
found-set : (id : ℕ) (rs : List (ℕ × Reader)) (r new : Reader) → lookup (λ q. q == id) rs ≡ Some r → lookup (λ q. q == id) (set_value (λ q. q == id) rs new) ≡ Some new
found-set id [] r new e = absurd (cc)
found-set id (q ∷ qs) r new e =
    elim (q.0 == id) as (λ b. (q.0 == id) ≡ b → cond b (Some q.1) (lookup (λ q. q == id) qs) ≡ Some r → lookup (λ q. q == id) (cond b ((q.0, new) ∷ qs) (q ∷ set_value (λ q. q == id) qs new)) ≡ Some new) [
      | true ↦ λ is f. ap (λ b. cond b (Some new) (lookup (λ q. q == id) qs)) is
      | false ↦ λ is f. ap (λ b. cond b (Some q.1) (lookup (λ q. q == id) (set_value (λ q. q == id) qs new))) is ∙ found-set id qs r new f
    ] refl e

module _ (m new : State) (id : ℕ) (r s : Reader) (before : reader_of id m ≡ Some r) (after : reader_of id new ≡ Some s) where
  unchanged : new ≡ m → IsSameReader r s
  unchanged e = same-itself r s (some-same s r (sym after ∙ ap (reader_of id) e ∙ before))

  gave : (count : ℕ) (reply : Reply) → Gives m id count r reply new → IsSameReader r s
  gave count reply (inl g) =
      let is = some-same s _ (sym after ∙ ap (reader_of id) g.2.1 ∙ found-set id m.readers r _ before) in
      record { key = ap (λ (x : Reader). x.key) is; listed = ap (λ (x : Reader). x.listed) is }
  gave count reply (inr (inl g)) = unchanged g.1
  gave count reply (inr (inr g)) = unchanged g.4.1

  read-from : (count : ℕ) (reply : Reply) (o : Option Reader) → o ≡ Some r → MatchOption o (Refuses m NoReader reply new) (λ q. Gives m id count q reply new) → IsSameReader r s
  read-from count reply None e g = absurd (cc)
  read-from count reply (Some q) e g = gave count reply (subst (λ (x : Reader). Gives m id count x reply new) (some-same q r e) g)

  closes : (reply : Reply) (o : Option Reader) → o ≡ Some r → MatchOption o (Refuses m NoReader reply new) (λ _. Does (record m { readers = filter (λ reader. not (reader.0 == id)) m.readers }) reply new) → IsSameReader r s
  closes reply None e g = absurd (cc)
  closes reply (Some q) e g =
      let gone : reader_of id new ≡ None = ap (reader_of id) g.1 ∙ lookup-filter-keys (λ k. k == id) (λ k. not (k == id)) false (λ k e. ap not e) m.readers in
      let none : None ≡ Some s = sym gone ∙ after in
      absurd (cc)

  -- in one that reads from it or closes it
  of-own : (command : Command) (reply : Reply) → is_of id command ≡ true → Steps m command reply new → IsSameReader r s
  of-own (Read other count) reply e g =
      let same : other ≡ id = grind (arith, nat_tests, e) in
      read-from count reply (reader_of id m) before (subst (λ n. MatchOption (reader_of n m) (Refuses m NoReader reply new) (λ q. Gives m n count q reply new)) same g)
  of-own (Close other) reply e g =
      let same : other ≡ id = grind (arith, nat_tests, e) in
      closes reply (reader_of id m) before (subst (λ n. MatchOption (reader_of n m) (Refuses m NoReader reply new) (λ _. Does (record m { readers = filter (λ reader. not (reader.0 == n)) m.readers }) reply new)) same g)
  of-own Nothing reply e g = absurd (cc)
  of-own (SetSchema schema) reply e g = absurd (cc)
  of-own (Put w) reply e g = absurd (cc)
  of-own (OpenRead other key slice) reply e g = absurd (cc)
  of-own Flush reply e g = absurd (cc)
  of-own FlushBegin reply e g = absurd (cc)
  of-own (FlushStep count) reply e g = absurd (cc)
  of-own (Evict count) reply e g = absurd (cc)
  of-own (Compact count) reply e g = absurd (cc)
  of-own (Clean count) reply e g = absurd (cc)
  of-own Stats reply e g = absurd (cc)

-- in each step
same-reader : (m : State) (command : Command) (reply : Reply) (new : State) (id : ℕ) (r s : Reader) → (is_of id command ≡ false → Steps m command reply new → reader_of id new ≡ Some r) → reader_of id m ≡ Some r → reader_of id new ≡ Some s → Steps m command reply new → IsSameReader r s
same-reader m command reply new id r s fixed before after steps = by-of (is_of id command) refl
  where
    by-of : (b : Bool) → is_of id command ≡ b → IsSameReader r s
    by-of false e = same-itself r s (some-same s r (sym after ∙ fixed e steps))
    by-of true e = of-own m new id r s before after command reply e steps

-- ---- the shard's

served-with : (lines : PartReader → Memory → List Mutation → List OutLine → Type 0) (below : ℕ → List Mutation) (st : State) (m : Memory) (id : ℕ) (os : List (ℕ × PartitionReader)) (rs : List (ℕ × Reader)) (o : PartitionReader) → AllZip (IsServed lines below st m) os rs → lookup (λ q. q == id) os ≡ Some o →
    (r : Reader) × (lookup (λ q. q == id) rs ≡ Some r) × (o.key ≡ r.key) × WasOpened st o.tables r
served-with lines below st m id [] rs o h e = absurd (cc)
served-with lines below st m id (x ∷ xs) [] o h e = absurd h
served-with lines below st m id (x ∷ xs) (y ∷ ys) o h e =
    let same : (x.0 == id) ≡ (y.0 == id) = ap (λ n. n == id) h.0.id in
    elim (x.0 == id) as (λ b. (x.0 == id) ≡ b → cond b (Some x.1) (lookup (λ q. q == id) xs) ≡ Some o → (r : Reader) × (lookup (λ q. q == id) (y ∷ ys) ≡ Some r) × (o.key ≡ r.key) × WasOpened st o.tables r) [
      | true ↦ λ is f.
          let own : x.1 ≡ o = some-same x.1 o f in
          (y.1, ap (λ b. cond b (Some y.1) (lookup (λ q. q == id) ys)) (sym same ∙ is), ap (λ (p : PartitionReader). p.key) (sym own) ∙ h.0.key, subst (λ (p : PartitionReader). WasOpened st p.tables y.1) own h.0.opened)
      | false ↦ λ is f.
          let r = served-with lines below st m id xs ys o h.1 f in
          (r.0, ap (λ b. cond b (Some y.1) (lookup (λ q. q == id) ys)) (sym same ∙ is) ∙ r.1, r.2, r.3)
    ] refl e

-- the tables of its opening are all that there are
drop-all : {X : Type 0} (xs : List X) → drop (length xs) xs ≡ []
drop-all [] = refl
drop-all (x ∷ xs) = drop-all xs

pub latest-opened : (infos : List TableInfo) (o : PartitionReader) → o.tables ≡ infos → ReadsLatest infos o
latest-opened infos o are = ap (λ (first : List TableInfo). listing o.key (drop (length first) infos)) are ∙ ap (listing o.key) (drop-all infos)

drop-front : {X : Type 0} (xs ys : List X) → drop (length xs) (xs ++ ys) ≡ ys
drop-front [] ys = refl
drop-front (x ∷ xs) ys = drop-front xs ys

-- how many tables list a key, and how many of those behind the first ones do
counted : (key : List ℕ) (first later infos : List TableInfo) → infos ≡ first ++ later → listing key infos ≡ listing key first + listing key (drop (length first) infos)
counted key first later infos are =
    let p : TableInfo → Bool = λ info. list_any (λ r. eq_by_cmp bytes_cmp key r.key) info.parts in
    let sum : listing key (first ++ later) ≡ listing key first + listing key later = ap length (filter-append p first later) ∙ length-append (filter p first) (filter p later) in
    let rest : drop (length first) infos ≡ later = ap (drop (length first)) are ∙ drop-front first later in
    ap (listing key) are ∙ sum ∙ ap (λ (is : List TableInfo). listing key first + listing key is) (sym rest)

-- a step leaves it that a reader reads what all tables say
pub stays-latest : (lines : PartReader → Memory → List Mutation → List OutLine → Type 0) (files files' : Option Files) (k k' : Shard) (m : State) (command : Command) (reply : Reply) →
    ((m : State) (id : ℕ) (r : Reader) (command : Command) (reply : Reply) (new : State) → reader_of id m ≡ Some r → is_of id command ≡ false → Steps m command reply new → reader_of id new ≡ Some r) →
    Stands lines files k m → Takes (Stands lines) files k command reply files' k' → StaysLatest k k'
stays-latest lines files files' k k' m command reply fixed s takes = λ id o o' found found' listed latest.
    let t = takes m s in
    let new = t.0 in
    let n = t.2 in
    let a = served-with lines s.cached.below m k.unstored.chains id k.readers.items m.readers o s.served found in
    let b = served-with lines n.cached.below new k'.unstored.chains id k'.readers.items new.readers o' n.served found' in
    let same = same-reader m command reply new id a.0 b.0 (λ of steps. fixed m id a.0 command reply new a.1 of steps) a.1 b.1 t.1 in
    let key : o'.key ≡ o.key = b.2 ∙ same.key ∙ sym a.2 in
    let before = counted o.key o.tables a.3.later k.folder.infos (sym s.over.infos ∙ a.3.are) in
    let now = counted o'.key o'.tables b.3.later k'.folder.infos (sym n.over.infos ∙ b.3.are) in
    let was : listing o.key o.tables ≡ a.0.listed = ap (λ (q : List ℕ). listing q o.tables) a.2 ∙ sym a.3.listed in
    let is : listing o'.key o'.tables ≡ b.0.listed = ap (λ (q : List ℕ). listing q o'.tables) b.2 ∙ sym b.3.listed in
    let all : listing o'.key k'.folder.infos ≡ listing o.key k.folder.infos = ap (λ (q : List ℕ). listing q k'.folder.infos) key ∙ listed in
    let held = same.listed in
    omega (arith, before, now, was, is, all, held, latest)
