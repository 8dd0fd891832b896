-- What a line is answered before a schema line was taken, and behind it.
use Rattle.std.proofs.Common.{◌≡◌, ℕ, ◌+◌, ◌*◌, ◌≤◌, Bool, true, false, IfSome, IsTrue, codes, List, [], ◌++◌, length, inl, inr, Option, Some, None, Result, Ok, Err, IsErr, refl, sym, ap, subst, ◌∙◌, le_refl, arith}
use Rattle.std.specs.FinMap as map
use Rattle.std.proofs.lemmas.List.{append-nil}
use Rattle.std.specs.declared.alloc.AllocError.{AllocError}
use Rattle.rc_outside.specs.Files.{Files}
use Rattle.rc_outside.specs.Faults.{Rose}
use Rattle.rc_schema.specs.SchemaValue.{SchemaValue}
use Rattle.rc_tfile.specs.declared.info.TableInfo.{TableInfo}
use Rattle.rc_lines.specs.declared.commands.Command.{Command}
use Rattle.rc_lines.specs.declared.commands.Command.TheVariants.{Nothing, SetSchema, Put, OpenRead, Read, Close, Flush, FlushBegin, FlushStep, Evict, Compact, Clean, Stats}
use Rattle.rc_lines.specs.declared.commands.Refusal.{Refusal}
use Rattle.rc_lines.specs.declared.commands.Reply.{Reply}
use Rattle.rc_lines.specs.declared.commands.Reply.TheVariants as replies
use Rattle.rc_lines.specs.Grammar.{parse}
use Rattle.rc_lines.specs.Texts.{reply_text, refusal_text}
use Rattle.rc_machine.specs.State.{State, Table, opened_state}
use Rattle.rc_machine.specs.Steps.{Steps}
use Rattle.rc_machine.specs.Tables.{AreTables, AreListed, IsFirstBad}
use Rattle.rc_machine.specs.Serving.{IsLeft, OnFaulty, most_asks, checks_of}
use Rattle.rc_machine.specs.laws.Asking.{few_asked}
use Rattle.rc_machine.specs.laws.Changes.{change_of}
use Rattle.rc_machine.specs.laws.Holding.{schema_stays}
use Rattle.rc_machine.specs.Standing.{IsOver}
use Rattle.rc_lines.specs.declared.commands.Figures.{Figures}
use Rattle.rc_folder.specs.Counting.{AreCounted, AreFresh}
use Rattle.rc_folder.specs.Tabled.{Tabled}
use Rattle.rc_shell.specs.calls.Feed.{Answered}
use Rattle.rc_machine.specs.Built.{served_meaning}
use Rattle.rc_shell.specs.Step.{Moment, Stage, StoreView, Waiting, Serving, StageStep, LineStep, EndsRun, EndsRunAt, LeavesStore, MayAsk, MayHaveAsked, Statistics, files_of, meaning_at, nothing_told, start_moment, bad_table, tells_fault, told_after}
use Rattle.rc_shell.specs.Late.{GoesBy, IsBudget, KeepsMoment, ServesAt, WaitsAt}
use Rattle.rc_shell.specs.calls.Late.{schema_set}
use Rattle.rc_shell.specs.calls.Standing.{MayClose}
use Rattle.rc_shell.specs.laws.Late.{asked_nothing}
use Rattle.rc_shell.specs.declared.status.Ending.{Ending}
use Rattle.rc_shell.specs.declared.status.Ending.TheVariants.{BadTable, StoreFault}
use Rattle.rc_shell.specs.declared.status.Status.TheVariants as statuses
use Rattle.rc_shell.specs.declared.words.Words.{Words}
use Rattle.rc_shell.specs.declared.words.Words.TheVariants.{Run}
use Rattle.rc_lines.specs.laws.Refusals.{early}
use Rattle.rc_shell.proofs.Served.{served_ok, served_is}
use Rattle.rc_shell.proofs.Figured.{TellsFigures, goes-fresh, goes-on, may-tell, tells-each}
use Rattle.rc_shell.proofs.Told.{told, plain}

clash : (b : Bool) → b ≡ false → b ≡ true → ⊥
clash b e f = cc

-- the store's count of faults over a line that is answered by the text
abbrev CountsFaults : List ℕ → ℕ → ℕ → Type 0
CountsFaults text before now = (before ≤ now) × (IsTrue (tells_fault text) → Rose before now)

-- the moment behind a line
next_moment : Moment → Stage → ℕ → ℕ → ℕ → Statistics → Moment
next_moment old stage faults asks bound told = record { stage = stage; segments = old.segments; faults = faults; asks = asks; bound = old.bound + bound; told = told }

line_step : (old : Moment) (line text : List ℕ) (was stage : Stage) (reply : Option Reply) (faults asks bound : ℕ) (told : Statistics) → old.stage ≡ was → StageStep old.segments was (meaning_at was line) reply text stage → CountsFaults text old.faults faults
    → MayAsk was (meaning_at was line) bound → asks ≤ old.asks + bound → told ≡ told_after was (meaning_at was line) reply old.asks asks old.told → TellsFigures (meaning_at was line) reply old.asks old.told
    → LineStep old line text (next_moment old stage faults asks bound told)
unfolding next_moment
line_step old line text was stage reply faults asks bound told e step counts may most goes tells = record {
  reply = reply;
  stage = subst (λ st. StageStep old.segments st (meaning_at st line) reply text stage) (sym e) step;
  counts = counts;
  asks = (bound, subst (λ st. MayAsk st (meaning_at st line) bound) (sym e) may, refl, most);
  segments = refl;
  told = subst (λ st. told ≡ told_after st (meaning_at st line) reply old.asks asks old.told) (sym e) goes;
  figures = tells-each (meaning_at old.stage line) reply old.asks old.told (subst (λ st. TellsFigures (meaning_at st line) reply old.asks old.told) (sym e) tells);
}

-- it stands where the stage does and the counts are the store's
waits : (segments : ℕ) (old : Moment) (store store' : StoreView) (bound : ℕ) → WaitsAt segments store' old → WaitsAt segments store (next_moment old (Waiting store.0) store.1 store.2 bound old.told)
unfolding next_moment
waits segments old store store' bound s = (refl, refl, refl, s.3, s.4)

leaves_behind : (old : Moment) (store : StoreView) (bound : ℕ) (told : Statistics) (m : State) → store.0 ≡ m.files → LeavesStore (next_moment old (Serving m) store.1 store.2 bound told) store
unfolding next_moment
leaves_behind old store bound told m same = (same, le_refl store.1, asked_nothing (Serving m) store.2)

no_more : (old : Moment) (asks : ℕ) → old.asks ≡ asks → asks ≤ old.asks + 0
no_more old asks e = omega (arith, e)

-- the count of faults over a line whose text tells none
uncounted : (text : List ℕ) (before now : ℕ) → tells_fault text ≡ false → before ≤ now → CountsFaults text before now
uncounted text before now none le = (le, λ t. absurd (clash (tells_fault text) none t))

le_same : (a b : ℕ) → a ≡ b → a ≤ b
le_same a b e = omega (arith, e)

parsed : (line : List ℕ) (command : Command) → served_meaning (parse None line) ≡ Ok command → parse None line ≡ Ok command
parsed line command p = served_ok (parse None line) command p

-- a refused line tells no fault
plain_served : (taken : Option SchemaValue) (line : List ℕ) (refusal : Refusal) → served_meaning (parse taken line) ≡ Err refusal → tells_fault (refusal_text refusal) ≡ false
plain_served taken line refusal p = served_is (λ r. tells_fault (refusal_text r) ≡ false) refl (parse taken line) (plain taken line) refusal p

-- at most so many ranges were asked for while the files were checked, where they are told
abbrev pub Checks : Option Files → ℕ → ℕ → Type 0
Checks files before now = IfSome files (λ told. now ≤ before + checks_of (map.values told))

-- the store is left so where nothing was opened
pub left_waiting : (segments : ℕ) (store store' : StoreView) (old : Moment) → WaitsAt segments store old → store'.0 ≡ store.0 → store.1 ≤ store'.1 → Checks store.0 store.2 store'.2 → LeavesStore old store'
left_waiting segments store store' old s same le checks = (
  same ∙ ap files_of (sym s.0),
  subst (λ n. n ≤ store'.1) (sym s.1) le,
  subst (λ st. MayHaveAsked st old.asks store'.2) (sym s.0) (subst (λ n. MayHaveAsked (Waiting store.0) n store'.2) (sym s.2) checks),
)

-- a schema line, by its meaning
pub schema_line : (line : List ℕ) (command : Command) (schema : SchemaValue) → served_meaning (parse None line) ≡ Ok command → schema_set command ≡ Some schema → parse None line ≡ Ok (SetSchema schema)
schema_line line command schema p some = elim (early line command (parsed line command p)) as (λ e. parse None line ≡ Ok (SetSchema schema)) [
  | inl e ↦ absurd (let n : schema_set Nothing ≡ Some schema = subst (λ c. schema_set c ≡ Some schema) e some in cc)
  | inr e ↦ (let n : schema_set (SetSchema e.0) ≡ Some schema = subst (λ c. schema_set c ≡ Some schema) e.1 some in
      let same : e.0 ≡ schema = cc in parsed line command p ∙ ap (λ c. Ok c) (e.1 ∙ ap (λ z. SetSchema z) same))
]

-- the bound that a schema line adds: the files' where they are told, else what was asked
bound_at : Option Files → ℕ → ℕ → ℕ
bound_at None before now = now
bound_at (Some files) before now = checks_of (map.values files)

may_check : (files : Option Files) (schema : SchemaValue) (before now : ℕ) → MayAsk (Waiting files) (Ok (SetSchema schema)) (bound_at files before now)
unfolding bound_at
may_check None schema before now = tt
may_check (Some files) schema before now = refl

checked : (files : Option Files) (before now : ℕ) → Checks files before now → now ≤ before + bound_at files before now
unfolding bound_at
checked None before now c = omega arith
checked (Some files) before now c = c

-- the first schema line, over a bad table
pub bad_answered : (segments : ℕ) (store store' : StoreView) (old : Moment) (schema : SchemaValue) (At : Moment → Type 0) (n : ℕ) (damage : Option ℕ) (line before now : List ℕ)
    → WaitsAt segments store old → parse None line ≡ Ok (SetSchema schema) → store'.0 ≡ store.0 → IfSome store.0 (λ f. IsFirstBad f schema n damage) → store.1 ≤ store'.1 → Checks store.0 store.2 store'.2 → now ≡ before ++ bad_table n damage
    → Answered LineStep EndsRun LeavesStore old line At store' before now (Ok (Some BadTable))
bad_answered segments store store' old schema At n damage line before now s p same first le checks e = (
  bad_table n damage,
  (
    left_waiting segments store store' old s same le checks,
    subst (λ st. EndsRunAt st (meaning_at st line) statuses.BadTable (bad_table n damage) old.faults store'.1) (sym s.0)
        (subst (λ meaning. EndsRunAt (Waiting store.0) meaning statuses.BadTable (bad_table n damage) old.faults store'.1) (sym (ap served_meaning p)) (n, damage, first, refl)),
  ),
  e,
)

-- the first schema line, while the store failed
pub fault_answered : (segments : ℕ) (store store' : StoreView) (old : Moment) (schema : SchemaValue) (At : Moment → Type 0) (line before now : List ℕ)
    → WaitsAt segments store old → parse None line ≡ Ok (SetSchema schema) → store'.0 ≡ store.0 → Rose store.1 store'.1 → store.1 ≤ store'.1 → Checks store.0 store.2 store'.2 → now ≡ before ++ codes "! store fault\n"
    → Answered LineStep EndsRun LeavesStore old line At store' before now (Ok (Some StoreFault))
fault_answered segments store store' old schema At line before now s p same rose le checks e = (
  codes "! store fault\n",
  (
    left_waiting segments store store' old s same le checks,
    subst (λ st. EndsRunAt st (meaning_at st line) statuses.StoreFault (codes "! store fault\n") old.faults store'.1) (sym s.0)
        (subst (λ meaning. EndsRunAt (Waiting store.0) meaning statuses.StoreFault (codes "! store fault\n") old.faults store'.1) (sym (ap served_meaning p)) (refl, subst (λ n. Rose n store'.1) (sym s.1) rose)),
  ),
  e,
)

-- what is left where memory ran out has the state's files
pub left_files : (m : State) (command : Command) (left : State) → IsLeft m command left → left.files ≡ m.files
left_files m Flush left (inl e) = ap (λ (s : State). s.files) e
left_files m Flush left (inr e) = ap (λ (s : State). s.files) e
left_files m FlushBegin left (inl e) = ap (λ (s : State). s.files) e
left_files m FlushBegin left (inr e) = ap (λ (s : State). s.files) e
left_files m Nothing left e = ap (λ (s : State). s.files) e
left_files m (SetSchema schema) left e = ap (λ (s : State). s.files) e
left_files m (Put w) left e = ap (λ (s : State). s.files) e
left_files m (OpenRead id key slice) left e = ap (λ (s : State). s.files) e
left_files m (Read id count) left (inl e) = ap (λ (s : State). s.files) e
left_files m (Read id count) left (inr told) = ap (λ (s : State). s.files) told.4
left_files m (Close id) left e = ap (λ (s : State). s.files) e
left_files m (FlushStep count) left e = ap (λ (s : State). s.files) e
left_files m (Evict count) left e = ap (λ (s : State). s.files) e
left_files m (Compact count) left e = ap (λ (s : State). s.files) e
left_files m (Clean count) left e = ap (λ (s : State). s.files) e
left_files m Stats left e = ap (λ (s : State). s.files) e

-- before the first line the store is left as it was
pub begins_left : (words : Words) (store : StoreView) → LeavesStore (start_moment words store) store
begins_left words store = (refl, le_refl store.1, asked_nothing (Waiting store.0) store.2)

-- What the program keeps stands in a way of its own.
module _ {Kept : Type 0} (Stands : Option Files → Kept → State → Type 0) (figures : Kept → ℕ → Figures) where
  -- what the program keeps stands where the stage does
  serves : (old : Moment) (store : StoreView) (bound : ℕ) (told : Statistics) (k : Kept) (m : State) → Stands store.0 k m → GoesBy store.2 told (figures k) → ServesAt Stands figures k store (next_moment old (Serving m) store.1 store.2 bound told)
  unfolding next_moment
  serves old store bound told k m s goes = (m, s, refl, refl, refl, goes)

  -- before the first line the program stands for the start
  pub begins_stood : (place : Option Kept) (budget segments : ℕ) (store : StoreView) → place ≡ None → budget ≡ segments → IsBudget segments → KeepsMoment Stands figures budget place store (start_moment (Run segments) store)
  begins_stood place budget segments store free same fits = subst (λ k. KeepsMoment Stands figures budget k store (start_moment (Run segments) store)) (sym free) (refl, refl, refl, sym same, subst IsBudget (sym same) fits)

  -- what is not open may be closed, and so may what stands
  pub free_closes : (place : Option Kept) → place ≡ None → MayClose Stands place
  free_closes place free = subst (MayClose Stands) (sym free) tt

  pub open_closes : (told : Option Files) (place : Option Kept) (k : Kept) (m : State) → place ≡ Some k → Stands told k m → MayClose Stands place
  open_closes told place k m is s = subst (MayClose Stands) (sym is) (told, m, s)

  -- a line that means nothing, before a schema line
  pub none_answered : (segments : ℕ) (place : Option Kept) (store : StoreView) (old : Moment) (line : List ℕ) (command : Command) (items : List ℕ) → place ≡ None → WaitsAt segments store old → served_meaning (parse None line) ≡ Ok command → schema_set command ≡ None
      → Answered LineStep EndsRun LeavesStore old line (KeepsMoment Stands figures segments place store) store items items (Ok None)
  none_answered segments place store old line command items free s p none =
      let is : command ≡ Nothing = elim (early line command (parsed line command p)) as (λ e. command ≡ Nothing) [
        | inl e ↦ e
        | inr e ↦ absurd (let n : schema_set (SetSchema e.0) ≡ None = subst (λ c. schema_set c ≡ None) e.1 none in cc)
      ] in
      let means : served_meaning (parse None line) ≡ Ok Nothing = p ∙ ap (λ c. Ok c) is in
      let asked = no_more old store.2 s.2 in (
        [],
        next_moment old (Waiting store.0) store.1 store.2 0 old.told,
        line_step old line [] (Waiting store.0) (Waiting store.0) None store.1 store.2 0 old.told s.0 (subst (λ meaning. StageStep old.segments (Waiting store.0) meaning None [] (Waiting store.0)) (sym means) (refl, refl, refl))
            (uncounted [] old.faults store.1 refl (le_same old.faults store.1 s.1)) (subst (λ meaning. MayAsk (Waiting store.0) meaning 0) (sym means) refl) asked
            (subst (λ meaning. old.told ≡ told_after (Waiting store.0) meaning None old.asks store.2 old.told) (sym means) refl) (subst (λ meaning. TellsFigures meaning None old.asks old.told) (sym means) tt),
        subst (λ k. KeepsMoment Stands figures segments k store (next_moment old (Waiting store.0) store.1 store.2 0 old.told)) (sym free) (waits segments old store store 0 s),
        sym (append-nil items),
      )

  -- a line that is refused, before a schema line
  pub refused_answered : (segments : ℕ) (place : Option Kept) (store : StoreView) (old : Moment) (line : List ℕ) (refusal : Refusal) (before now : List ℕ) → place ≡ None → WaitsAt segments store old → served_meaning (parse None line) ≡ Err refusal
      → now ≡ before ++ refusal_text refusal → Answered LineStep EndsRun LeavesStore old line (KeepsMoment Stands figures segments place store) store before now (Ok None)
  refused_answered segments place store old line refusal before now free s p e =
      let asked = no_more old store.2 s.2 in (
        refusal_text refusal,
        next_moment old (Waiting store.0) store.1 store.2 0 old.told,
        line_step old line (refusal_text refusal) (Waiting store.0) (Waiting store.0) None store.1 store.2 0 old.told s.0 (subst (λ meaning. StageStep old.segments (Waiting store.0) meaning None (refusal_text refusal) (Waiting store.0)) (sym p) (refl, refl, refl))
            (uncounted (refusal_text refusal) old.faults store.1 (plain_served None line refusal p) (le_same old.faults store.1 s.1)) (subst (λ meaning. MayAsk (Waiting store.0) meaning 0) (sym p) refl) asked
            (subst (λ meaning. old.told ≡ told_after (Waiting store.0) meaning None old.asks store.2 old.told) (sym p) refl) (subst (λ meaning. TellsFigures meaning None old.asks old.told) (sym p) tt),
        subst (λ k. KeepsMoment Stands figures segments k store (next_moment old (Waiting store.0) store.1 store.2 0 old.told)) (sym free) (waits segments old store store 0 s),
        e,
      )

-- It stands over a folder.
module _ {Kept : Type 0} (Stands : Option Files → Kept → State → Type 0) (figures : Kept → ℕ → Figures) (folder : Kept → Tabled)
    (over : (told : Option Files) (k : Kept) (m : State) → Stands told k m → IsOver told (folder k).schema (folder k).infos m) where
  -- the first schema line, over tables of the schema
  pub opened_answered : (segments : ℕ) (store store' : StoreView) (old : Moment) (schema : SchemaValue) (place : Option Kept) (k : Kept) (tables : List Table) (infos : List TableInfo) (line before now : List ℕ)
      → place ≡ Some k → WaitsAt segments store old → parse None line ≡ Ok (SetSchema schema) → AreTables store.0 schema tables → AreListed store.0 schema tables infos → Stands store'.0 k (opened_state segments store.0 schema tables infos) → AreFresh store'.2 (figures k)
      → store.1 ≤ store'.1 → Checks store.0 store.2 store'.2 → now ≡ before ++ reply_text (folder k).schema replies.Fine
      → Answered LineStep EndsRun LeavesStore old line (KeepsMoment Stands figures segments place store') store' before now (Ok None)
  opened_answered segments store store' old schema place k tables infos line before now is s p are listed stands fresh le checks e =
      let means : served_meaning (parse None line) ≡ Ok (SetSchema schema) = ap served_meaning p in
      let bound : ℕ = bound_at store.0 store.2 store'.2 in (
        reply_text schema replies.Fine,
        next_moment old (Serving (opened_state old.segments store.0 schema tables infos)) store'.1 store'.2 bound (nothing_told store'.2),
        line_step old line (reply_text schema replies.Fine) (Waiting store.0) (Serving (opened_state old.segments store.0 schema tables infos)) None store'.1 store'.2 bound (nothing_told store'.2) s.0
            (subst (λ meaning. StageStep old.segments (Waiting store.0) meaning None (reply_text schema replies.Fine) (Serving (opened_state old.segments store.0 schema tables infos))) (sym means) (tables, infos, are, listed, refl, refl, refl))
            (subst (λ n. n ≤ store'.1) (sym s.1) le, λ t. told schema replies.Fine (Rose old.faults store'.1) tt t)
            (subst (λ meaning. MayAsk (Waiting store.0) meaning bound) (sym means) (may_check store.0 schema store.2 store'.2))
            (subst (λ n. store'.2 ≤ n + bound) (sym s.2) (checked store.0 store.2 store'.2 checks))
            (subst (λ meaning. nothing_told store'.2 ≡ told_after (Waiting store.0) meaning None old.asks store'.2 old.told) (sym means) refl) (subst (λ meaning. TellsFigures meaning None old.asks old.told) (sym means) tt),
        subst (λ k. KeepsMoment Stands figures segments k store' (next_moment old (Serving (opened_state old.segments store.0 schema tables infos)) store'.1 store'.2 bound (nothing_told store'.2))) (sym is)
            (serves Stands figures old store' bound (nothing_told store'.2) k (opened_state old.segments store.0 schema tables infos) (subst (λ n. Stands store'.0 k (opened_state n store.0 schema tables infos)) (sym s.3) stands) (goes-fresh store'.2 (figures k) fresh)),
        e ∙ ap (λ z. before ++ reply_text z replies.Fine) (sym (over store'.0 k (opened_state segments store.0 schema tables infos) stands).schema),
      )

  -- What a command did, once the machine is open.
  pub record Served (store store' : StoreView) (k k' : Kept) (m : State) (command : Command) (reply : Reply) : Type 0 where
    pub next : State
    pub step : Steps m command reply next
    pub stands : Stands store'.0 k' next
    pub faults : store.1 ≤ store'.1
    pub faulty : OnFaulty reply (Rose store.1 store'.1)
    pub asks : store'.2 ≤ store.2 + most_asks m command
    pub counted : AreCounted command reply store.2 store'.2 (figures k) (figures k')

  module _ (store store' : StoreView) (k k' : Kept) (old : Moment) (line : List ℕ) (command : Command) (reply : Reply) (s : ServesAt Stands figures k store old)
      (p : served_meaning (parse (Some (folder k).schema) line) ≡ Ok command) (d : Served store store' k k' s.0 command reply) where
    means : served_meaning (parse (Some (s.0).schema) line) ≡ Ok command
    means = ap (λ z. served_meaning (parse (Some z) line)) (over store.0 k s.0 s.1).schema ∙ p

    same_schema : (folder k').schema ≡ (s.0).schema
    same_schema = sym (over store'.0 k' d.next d.stands).schema ∙ schema_stays s.0 command reply d.next (change_of s.0 command reply d.next d.step)

    -- what `stats` lines go by then
    told_then : Statistics
    told_then = told_after (Serving s.0) (Ok command) (Some reply) store.2 store'.2 old.told

    goes_then : GoesBy store'.2 told_then (figures k')
    unfolding told_then
    goes_then = goes-on store.2 store'.2 command reply s.0 old.told (figures k) (figures k') s.5 d.counted

    command_step : LineStep old line (reply_text (folder k').schema reply) (next_moment old (Serving d.next) store'.1 store'.2 (most_asks s.0 command) told_then)
    unfolding told_then
    command_step =
        line_step old line (reply_text (folder k').schema reply) (Serving s.0) (Serving d.next) (Some reply) store'.1 store'.2 (most_asks s.0 command) told_then s.2
        (subst (λ meaning. StageStep old.segments (Serving s.0) meaning (Some reply) (reply_text (folder k').schema reply) (Serving d.next)) (sym means) (d.next, d.step, ap (λ z. reply_text z reply) same_schema, refl))
        (subst (λ n. n ≤ store'.1) (sym s.3) d.faults, λ t. told (folder k').schema reply (Rose old.faults store'.1) (subst (λ n. OnFaulty reply (Rose n store'.1)) (sym s.3) d.faulty) t)
        (subst (λ meaning. MayAsk (Serving s.0) meaning (most_asks s.0 command)) (sym means) refl)
        (subst (λ n. store'.2 ≤ n + most_asks s.0 command) (sym s.4) d.asks)
        (subst (λ meaning. told_then ≡ told_after (Serving s.0) meaning (Some reply) old.asks store'.2 old.told) (sym means) (ap (λ n. told_after (Serving s.0) (Ok command) (Some reply) n store'.2 old.told) (sym s.4)))
        (subst (λ meaning. TellsFigures meaning (Some reply) old.asks old.told) (sym means) (subst (λ n. TellsFigures (Ok command) (Some reply) n old.told) (sym s.4) (may-tell store.2 command reply old.told (figures k) (figures k') store'.2 s.5 d.counted)))

    pub command_answered : (before now : List ℕ) → now ≡ before ++ reply_text (folder k').schema reply → Answered LineStep EndsRun LeavesStore old line (ServesAt Stands figures k' store') store' before now (Ok None)
    command_answered before now e =
        (reply_text (folder k').schema reply, next_moment old (Serving d.next) store'.1 store'.2 (most_asks s.0 command) told_then, command_step, serves Stands figures old store' (most_asks s.0 command) told_then k' d.next d.stands goes_then, e)

    -- its reply found no memory
    pub command_unanswered : (before now : List ℕ) (r : Result (Option Ending) AllocError) → IsErr r → Answered LineStep EndsRun LeavesStore old line (ServesAt Stands figures k' store') store' before now r
    command_unanswered before now (Err e) is =
        inr (reply_text (folder k').schema reply, next_moment old (Serving d.next) store'.1 store'.2 (most_asks s.0 command) told_then, command_step, leaves_behind old store' (most_asks s.0 command) told_then d.next (sym (over store'.0 k' d.next d.stands).files))
    command_unanswered before now (Ok x) is = absurd (cc)

  -- memory ran out in a command
  pub stopped_answered : (store store' : StoreView) (k k' : Kept) (old : Moment) (line : List ℕ) (command : Command) (before now : List ℕ) (r : Result (Option Ending) AllocError) → IsErr r → ServesAt Stands figures k store old
      → store'.0 ≡ store.0 → store.1 ≤ store'.1 → ((m : State) → Stands store.0 k m → store'.2 ≤ store.2 + most_asks m command) → Answered LineStep EndsRun LeavesStore old line (ServesAt Stands figures k' store') store' before now r
  stopped_answered store store' k k' old line command before now (Err e) is s same le asks =
      let few : store'.2 ≤ old.asks + 2 * length (s.0).infos = subst (λ n. store'.2 ≤ n + 2 * length (s.0).infos) (sym s.4) (let a = asks s.0 s.1 in omega (arith, a, few_asked s.0 command)) in
      inl (same ∙ sym (over store.0 k s.0 s.1).files ∙ ap files_of (sym s.2), subst (λ n. n ≤ store'.1) (sym s.3) le, subst (λ st. MayHaveAsked st old.asks store'.2) (sym s.2) few)
  stopped_answered store store' k k' old line command before now (Ok x) is s same le asks = absurd (cc)

  -- a line that is refused, once the machine is open
  pub refusal_answered : (store : StoreView) (k : Kept) (old : Moment) (line before now : List ℕ) (refusal : Refusal) → ServesAt Stands figures k store old → served_meaning (parse (Some (folder k).schema) line) ≡ Err refusal
      → now ≡ before ++ refusal_text refusal → Answered LineStep EndsRun LeavesStore old line (ServesAt Stands figures k store) store before now (Ok None)
  refusal_answered store k old line before now refusal s p e =
      let means : served_meaning (parse (Some (s.0).schema) line) ≡ Err refusal = ap (λ z. served_meaning (parse (Some z) line)) (over store.0 k s.0 s.1).schema ∙ p in
      let asked = no_more old store.2 s.4 in (
        refusal_text refusal,
        next_moment old (Serving s.0) store.1 store.2 0 old.told,
        line_step old line (refusal_text refusal) (Serving s.0) (Serving s.0) None store.1 store.2 0 old.told s.2 (subst (λ meaning. StageStep old.segments (Serving s.0) meaning None (refusal_text refusal) (Serving s.0)) (sym means) (refl, refl, refl))
            (uncounted (refusal_text refusal) old.faults store.1 (plain_served (Some (folder k).schema) line refusal p) (le_same old.faults store.1 s.3)) (subst (λ meaning. MayAsk (Serving s.0) meaning 0) (sym means) refl) asked
            (subst (λ meaning. old.told ≡ told_after (Serving s.0) meaning None old.asks store.2 old.told) (sym means) refl) (subst (λ meaning. TellsFigures meaning None old.asks old.told) (sym means) tt),
        serves Stands figures old store 0 old.told k s.0 s.1 s.5,
        e,
      )
