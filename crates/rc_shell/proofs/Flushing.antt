-- What the lines that were answered did to the machine: the accepted writes, and the tables that were flushed.
use Rattle.std.proofs.Common.{◌≡◌, ◌⊎◌, inl, inr, ℕ, false, List, [], ◌∷◌, ◌++◌, take, drop, Option, Some, None, Result, Ok, Err, refl, sym, ap, subst, ◌∙◌, append_assoc, append-nil, arith}
use Rattle.std.specs.Prelude.{All, codes, if◌then◌else◌}
use Rattle.std.specs.FinMap as finite
use Rattle.std.proofs.lemmas.List.{take-append-drop}
use Rattle.rc_outside.specs.Files.{Files}
use Rattle.rc_schema.specs.SchemaValue.{SchemaValue}
use Rattle.rc_mutation.specs.declared.mutations.Write.{Write}
use Rattle.rc_spelling.specs.Words.{words, is_word}
use Rattle.rc_tfile.specs.declared.info.TableInfo.{TableInfo}
use Rattle.rc_lines.specs.declared.commands.Command.{Command}
use Rattle.rc_lines.specs.declared.commands.Command.TheVariants.{Nothing, SetSchema, Put, OpenRead, Read, Close, Flush as FlushAll, FlushBegin, FlushStep, Evict, Compact, Clean, Stats}
use Rattle.rc_lines.specs.declared.commands.Refusal.{Refusal}
use Rattle.rc_lines.specs.declared.commands.Refusal.TheVariants.{BadLine, NoSchema, SchemaDiffers, WrongKey, UnknownColumn, TooLong, NoReader, ReaderInUse, TooManyReaders, FlushInProgress, NothingToFlush, NoFlush, Full, ReadFault, WriteFault, Damaged, NoNumber}
use Rattle.rc_lines.specs.declared.commands.Reply.{Reply}
use Rattle.rc_lines.specs.Grammar.{parse}
use Rattle.rc_lines.specs.laws.Refusals.{schema_line}
use Rattle.rc_lines.specs.Texts.{reply_text, refusal_text}
use Rattle.rc_tfile.specs.TableText.{IsTable}
use Rattle.rc_machine.specs.State.{State, Table, numbers, opened_state}
use Rattle.rc_machine.specs.Steps.{Steps}
use Rattle.rc_machine.specs.Tables.{AreTables}
use Rattle.rc_machine.specs.Flushed.{Flush, HasFlushed, IsFlushOf, AreNext, accepted_by, tables_of, writes_of, files_with, in_tables}
use Rattle.rc_machine.specs.laws.Folder.{IsPut, files_kept, files_new, one_of, writes_around}
use Rattle.rc_machine.specs.laws.Changes.{change_of}
use Rattle.rc_machine.specs.laws.Holding.{holds_at_first, holds_on, grows, schema_stays}
use Rattle.rc_shell.specs.Run.{AnswersLines}
use Rattle.rc_machine.specs.Built.{served_meaning}
use Rattle.rc_shell.specs.Step.{Moment, Stage, StoreView, Waiting, Serving, StageStep, LineStep, files_of, meaning_at, start_moment}
use Rattle.rc_shell.specs.Holding.{OfLines, HoldsFlushed, IsFlushedFile, IsRunOf, write_accepted, accepted_writes}
use Rattle.rc_shell.specs.declared.status.Status.{Status}
use Rattle.rc_shell.specs.declared.words.Words.{Words}
use Rattle.rc_shell.proofs.Served.{served_ok}

-- the machine that is served at a stage was opened over files, and has flushed so far; it holds the accepted writes
pub record Serves (files : Option Files) (m : State) (all : SchemaValue → List Write) : Type 0 where
  pub segments : ℕ
  pub schema : SchemaValue
  pub tables : List Table
  pub infos : List TableInfo
  pub are : AreTables files schema tables
  pub flushes : List Flush
  pub has : HasFlushed (opened_state segments files schema tables infos) m flushes
  pub log : m.log ≡ all m.schema

abbrev pub AtStage : Option Files → Stage → (SchemaValue → List Write) → Type 0
AtStage files (Waiting now) all = (now ≡ files) × ((schema : SchemaValue) → all schema ≡ [])
AtStage files (Serving m) all = Serves files m all

-- a refusal does not say that a write was accepted
not_ok : (refusal : Refusal) → is_word (refusal_text refusal) (codes "ok\n") ≡ false
not_ok BadLine = refl
not_ok NoSchema = refl
not_ok SchemaDiffers = refl
not_ok WrongKey = refl
not_ok UnknownColumn = refl
not_ok TooLong = refl
not_ok NoReader = refl
not_ok ReaderInUse = refl
not_ok TooManyReaders = refl
not_ok FlushInProgress = refl
not_ok NothingToFlush = refl
not_ok NoFlush = refl
not_ok Full = refl
not_ok ReadFault = refl
not_ok WriteFault = refl
not_ok (Damaged file offset) = refl
not_ok NoNumber = refl

unaccepted : (meaning : Result Command Refusal) (text : List ℕ) → is_word text (codes "ok\n") ≡ false → write_accepted meaning text ≡ []
unaccepted (Err refusal) text other = refl
unaccepted (Ok (Put w)) text other = ap (λ b. if b then w ∷ [] else []) other
unaccepted (Ok Nothing) text other = refl
unaccepted (Ok (SetSchema schema)) text other = refl
unaccepted (Ok (OpenRead id key slice)) text other = refl
unaccepted (Ok (Read id count)) text other = refl
unaccepted (Ok (Close id)) text other = refl
unaccepted (Ok FlushAll) text other = refl
unaccepted (Ok FlushBegin) text other = refl
unaccepted (Ok (FlushStep count)) text other = refl
unaccepted (Ok (Evict count)) text other = refl
unaccepted (Ok (Compact count)) text other = refl
unaccepted (Ok (Clean count)) text other = refl
unaccepted (Ok Stats) text other = refl

-- a schema line accepts no write under any schema
no_write_at_schema : (line : List ℕ) (schema z : SchemaValue) (text : List ℕ) → parse None line ≡ Ok (SetSchema schema) → write_accepted (parse (Some z) line) text ≡ []
no_write_at_schema line schema z text e = ap (λ meaning. write_accepted meaning text) (schema_line (Some z) line schema e)

-- what a step accepts is what the text says
taken_write : (m : State) (command : Command) (reply : Reply) (new : State) → Steps m command reply new → write_accepted (Ok command) (reply_text m.schema reply) ≡ accepted_by command reply
unfolding reply_text
taken_write m (Put w) reply new (inl s) = ap (λ r. write_accepted (Ok (Put w)) (reply_text m.schema r)) s.0 ∙ sym (ap (λ r. accepted_by (Put w) r) s.0)
taken_write m (Put w) reply new (inr s) = ap (λ r. write_accepted (Ok (Put w)) (reply_text m.schema r)) s.1.0 ∙ sym (ap (λ r. accepted_by (Put w) r) s.1.0)
taken_write m Nothing reply new s = refl
taken_write m (SetSchema schema) reply new s = refl
taken_write m (OpenRead id key slice) reply new s = refl
taken_write m (Read id count) reply new s = refl
taken_write m (Close id) reply new s = refl
taken_write m FlushAll reply new s = refl
taken_write m FlushBegin reply new s = refl
taken_write m (FlushStep count) reply new s = refl
taken_write m (Evict count) reply new s = refl
taken_write m (Compact count) reply new s = refl
taken_write m (Clean count) reply new s = refl
taken_write m Stats reply new s = refl

-- nothing is accepted before and nothing by the line
none_more : (before line : List Write) → before ≡ [] → line ≡ [] → before ++ line ≡ []
none_more before line e f = ap (λ ws. ws ++ line) e ∙ f

-- what is accepted behind a line
abbrev and_line : (SchemaValue → List Write) → List ℕ → List ℕ → SchemaValue → List Write
and_line all line text schema = all schema ++ write_accepted (parse (Some schema) line) text

module _ (files : Option Files) (segments : ℕ) (line text : List ℕ) (all : SchemaValue → List Write) where
  -- the machine waits still
  waits : (new : Stage) → new ≡ Waiting files → ((schema : SchemaValue) → all schema ≡ []) → is_word text (codes "ok\n") ≡ false → AtStage files new (and_line all line text)
  waits new e none other = subst (λ st. AtStage files st (and_line all line text)) (sym e) (refl, λ schema. none_more (all schema) _ (none schema) (unaccepted (parse (Some schema) line) text other))

  -- the machine is opened
  opens : (new : Stage) (schema : SchemaValue) (tables : List Table) (infos : List TableInfo) → AreTables files schema tables → new ≡ Serving (opened_state segments files schema tables infos) → parse None line ≡ Ok (SetSchema schema)
      → ((schema : SchemaValue) → all schema ≡ []) → AtStage files new (and_line all line text)
  opens new schema tables infos are e p none = subst (λ st. AtStage files st (and_line all line text)) (sym e) (record {
    segments = segments;
    schema = schema;
    tables = tables;
    infos = infos;
    are = are;
    flushes = [];
    has = holds_at_first (opened_state segments files schema tables infos) refl refl refl;
    log = sym (none_more (all schema) _ (none schema) (no_write_at_schema line schema schema text p));
  })

  waiting : (meaning : Result Command Refusal) (answer : Option Reply) (new : Stage) → served_meaning (parse None line) ≡ meaning → ((schema : SchemaValue) → all schema ≡ []) → StageStep segments (Waiting files) meaning answer text new → AtStage files new (and_line all line text)
  waiting (Ok Nothing) answer new p none s = waits new s.1 none (ap (λ t. is_word t (codes "ok\n")) s.0)
  waiting (Ok (SetSchema schema)) answer new p none s = opens new schema s.0 s.1 s.2 s.5 (served_ok (parse None line) (SetSchema schema) p) none
  waiting (Err refusal) answer new p none s = waits new s.1 none (ap (λ t. is_word t (codes "ok\n")) s.0 ∙ not_ok refusal)
  waiting (Ok command) answer new p none s = absurd s

  module _ (m : State) (h : Serves files m all) where
    -- the machine serves a command
    takes : (command : Command) (reply : Reply) (next : State) (new : Stage) → parse (Some m.schema) line ≡ Ok command → Steps m command reply next → text ≡ reply_text m.schema reply → new ≡ Serving next
        → AtStage files new (and_line all line text)
    takes command reply next new p step e f =
        let change = change_of m command reply next step in
        let more = holds_on (opened_state h.segments files h.schema h.tables h.infos) m command reply next h.flushes h.has change in
        let same : next.schema ≡ m.schema = schema_stays m command reply next change in
        let accepts : write_accepted (parse (Some m.schema) line) text ≡ accepted_by command reply =
        ap (λ meaning. write_accepted meaning text) p ∙ ap (λ t. write_accepted (Ok command) t) e ∙ taken_write m command reply next step in
        subst (λ st. AtStage files st (and_line all line text)) (sym f) (record {
          segments = h.segments;
          schema = h.schema;
          tables = h.tables;
          infos = h.infos;
          are = h.are;
          flushes = more.0;
          has = more.1;
          log = grows m command reply next change ∙ ap (λ ws. ws ++ accepted_by command reply) h.log ∙ ap (λ ws. all m.schema ++ ws) (sym accepts) ∙ ap (and_line all line text) (sym same);
        })

    -- it stays
    stays : (new : Stage) → new ≡ Serving m → write_accepted (parse (Some m.schema) line) text ≡ [] → AtStage files new (and_line all line text)
    stays new f none = subst (λ st. AtStage files st (and_line all line text)) (sym f) (record {
      segments = h.segments;
      schema = h.schema;
      tables = h.tables;
      infos = h.infos;
      are = h.are;
      flushes = h.flushes;
      has = h.has;
      log = h.log ∙ sym (append-nil (all m.schema)) ∙ ap (λ ws. all m.schema ++ ws) (sym none);
    })

    serving : (meaning : Result Command Refusal) (answer : Option Reply) (new : Stage) → served_meaning (parse (Some m.schema) line) ≡ meaning → StageStep segments (Serving m) meaning answer text new → AtStage files new (and_line all line text)
    serving (Ok command) (Some reply) new p s = takes command reply s.0 new (served_ok (parse (Some m.schema) line) command p) s.1 s.2 s.3
    serving (Ok command) None new p s = absurd s
    serving (Err refusal) answer new p s = stays new s.1 (unaccepted (parse (Some m.schema) line) text (ap (λ t. is_word t (codes "ok\n")) s.0 ∙ not_ok refusal))

  at_step : (stage new : Stage) (answer : Option Reply) → AtStage files stage all → StageStep segments stage (meaning_at stage line) answer text new → AtStage files new (and_line all line text)
  at_step (Waiting now) new answer at s = waiting (meaning_at (Waiting now) line) answer new refl at.1 (subst (λ f. StageStep segments (Waiting f) (meaning_at (Waiting now) line) answer text new) at.0 s)
  at_step (Serving m) new answer at s = serving m at (meaning_at (Serving m) line) answer new refl s

regroup : (all : SchemaValue → List Write) (line text : List ℕ) (lines texts : List (List ℕ)) (schema : SchemaValue)
    → and_line all line text schema ++ accepted_writes schema lines texts ≡ all schema ++ accepted_writes schema (line ∷ lines) (text ∷ texts)
regroup all line text lines texts schema = append_assoc (all schema) (write_accepted (parse (Some schema) line) text) (accepted_writes schema lines texts)

-- the same lists of writes serve
alike : (files : Option Files) (stage : Stage) (all other : SchemaValue → List Write) → ((schema : SchemaValue) → all schema ≡ other schema) → AtStage files stage all → AtStage files stage other
alike files (Waiting now) all other same at = (at.0, λ schema. sym (same schema) ∙ at.1 schema)
alike files (Serving m) all other same at =
    record { segments = at.segments; schema = at.schema; tables = at.tables; infos = at.infos; are = at.are; flushes = at.flushes; has = at.has; log = at.log ∙ same m.schema }

pub at_end : (files : Option Files) (old new : Moment) (lines texts : List (List ℕ)) (all : SchemaValue → List Write) → AtStage files old.stage all → AnswersLines LineStep old lines texts new
    → AtStage files new.stage (λ schema. all schema ++ accepted_writes schema lines texts)
at_end files old new [] [] all at a =
    subst (λ (m : Moment). AtStage files m.stage (λ schema. all schema ++ accepted_writes schema [] [])) (sym a) (alike files old.stage all (λ schema. all schema ++ []) (λ schema. sym (append-nil (all schema))) at)
at_end files old new (line ∷ lines) (text ∷ texts) all at a =
    alike files new.stage (λ schema. and_line all line text schema ++ accepted_writes schema lines texts) (λ schema. all schema ++ accepted_writes schema (line ∷ lines) (text ∷ texts)) (regroup all line text lines texts)
    (at_end files a.0 new lines texts (and_line all line text) (at_step files old.segments line text all old.stage a.0.stage a.1.reply at a.1.stage) a.2)
at_end files old new [] (text ∷ texts) all at a = absurd a
at_end files old new (line ∷ lines) [] all at a = absurd a

-- a run of writes among the first of them is one of all
first_run : (all writes front back : List Write) (n : ℕ) → take n all ≡ front ++ (writes ++ back) → IsRunOf writes all
first_run all writes front back n e = (
  front,
  back ++ drop n all,
  sym (take-append-drop n all) ∙ ap (λ ws. ws ++ drop n all) e ∙ append_assoc front (writes ++ back) (drop n all) ∙ ap (λ ws. front ++ ws) (append_assoc writes back (drop n all)),
)

-- what the files are, once the machine was opened over them
module _ (files files2 : Files) (m : State) (all : SchemaValue → List Write) (h : Serves (Some files) m all) (now : Some files2 ≡ m.files) where
  holds : Files
  holds = files_with h.schema files (tables_of h.flushes)

  are_files : files2 ≡ holds
  unfolding holds
  are_files = let e : Some files2 ≡ Some (files_with h.schema files (tables_of h.flushes)) = now ∙ h.has.files in cc

  are_writes : writes_of h.flushes ≡ take (in_tables m) (all h.schema)
  are_writes = h.has.writes ∙ ap (take (in_tables m)) (h.log ∙ ap all h.has.schema)

  are_kept : (n : ℕ) (bytes : List ℕ) → finite.get files n ≡ Some bytes → finite.get files2 n ≡ Some bytes
  unfolding holds
  are_kept n bytes e =
      subst (λ f. finite.get f n ≡ Some bytes) (sym are_files)
      (files_kept h.schema files (tables_of h.flushes) (subst (λ ks. AreNext ks (numbers (tables_of h.flushes))) h.are.0 h.has.numbered) n bytes e)

  put_file : (bytes : List ℕ) → IsPut h.schema h.flushes bytes → IsFlushedFile h.schema (all h.schema) bytes
  put_file bytes p =
      let is = one_of h.schema p.front p.back p.flush (subst (λ fs. All (IsFlushOf h.schema) fs) p.stands h.has.each) in
      record {
        parts = p.flush.0.1;
        writes = p.flush.1;
        is_table = subst (λ b. IsTable b h.schema p.flush.0.1) (sym p.is) is.is_table;
        of_writes = is.of_writes;
        run = first_run (all h.schema) p.flush.1 (writes_of p.front) (writes_of p.back) (in_tables m) (sym are_writes ∙ ap writes_of p.stands ∙ writes_around p.front p.back p.flush);
      }

  are_new : (n : ℕ) (bytes : List ℕ) → finite.get files2 n ≡ Some bytes → (finite.get files n ≡ Some bytes) ⊎ IsFlushedFile h.schema (all h.schema) bytes
  unfolding holds
  are_new n bytes e = either (files_new h.schema files h.flushes n bytes (subst (λ f. finite.get f n ≡ Some bytes) are_files e))
    where
      either : (finite.get files n ≡ Some bytes) ⊎ IsPut h.schema h.flushes bytes → (finite.get files n ≡ Some bytes) ⊎ IsFlushedFile h.schema (all h.schema) bytes
      either (inl same) = inl same
      either (inr p) = inr (put_file bytes p)

no_schema : SchemaValue
no_schema = record { ck = []; statics = []; cols = [] }

finish : (files files2 : Files) (lines texts : List (List ℕ)) (stage : Stage) → AtStage (Some files) stage (λ schema. accepted_writes schema lines texts) → Some files2 ≡ files_of stage → HoldsFlushed lines texts files files2
unfolding holds
finish files files2 lines texts (Waiting now) at e =
    let same : files2 ≡ files = (let both : Some files2 ≡ Some files = e ∙ at.0 in cc) in
    record {
      schema = no_schema;
      flushes = [];
      stored = 0;
      each = λ k d l. absurd (omega arith);
      files = same;
      writes = refl;
      kept = λ n bytes h. subst (λ f. finite.get f n ≡ Some bytes) (sym same) h;
      new = λ n bytes h. inl (subst (λ f. finite.get f n ≡ Some bytes) same h);
    }
finish files files2 lines texts (Serving m) at e = record {
  schema = at.schema;
  flushes = at.flushes;
  stored = in_tables m;
  each = at.has.each;
  files = are_files files files2 m (λ schema. accepted_writes schema lines texts) at e;
  writes = are_writes files files2 m (λ schema. accepted_writes schema lines texts) at e;
  kept = are_kept files files2 m (λ schema. accepted_writes schema lines texts) at e;
  new = are_new files files2 m (λ schema. accepted_writes schema lines texts) at e;
}

pub files_hold : (words : Words) (before after : StoreView) (status : Status) (taken written : List ℕ) (files files2 : Files) (l : OfLines words before after status taken written) → before.0 ≡ Some files → after.0 ≡ Some files2
    → HoldsFlushed l.lines l.texts files files2
files_hold words before after status taken written files files2 l first last =
    finish files files2 l.lines l.texts l.end.stage
    (at_end (Some files) (start_moment words before) l.end l.lines l.texts (λ schema. []) (first, λ schema. refl) l.answered)
    (sym last ∙ l.leaves.0)
