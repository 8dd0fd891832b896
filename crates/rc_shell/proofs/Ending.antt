-- How a run goes on, and how it ends.
use Rattle.std.proofs.Common.{◌≡◌, ◌≢◌, ℕ, ◌+◌, ◌<◌, ◌≤◌, List, [], ◌∷◌, ◌++◌, length, take, inl, inr, Option, Result, Ok, Err, refl, sym, ap, subst, ◌∙◌, arith, length-append}
use Rattle.std.proofs.lemmas.List.{append-nil, length-take}
use Rattle.std.specs.Prelude.{codes}
use Rattle.std.specs.List.{concat}
use Rattle.std.specs.Io.KnownBytes.{Appends, Consumes, Keeps, IsAtEnd}
use Rattle.std.proofs.KnownBytes.{Appends-trans, Appends-nil, Consumes-trans, Consumes-nil, Consumes-kept}
use Rattle.rc_outside.specs.Faults.{Rose}
use Rattle.rc_shell.specs.Lines.{IsLine, last_line}
use Rattle.rc_shell.specs.Run.{piece_size, IsWhole, IsTextWritten, AnswersLines, Served, Due, Ran, EndedBecause}
use Rattle.rc_shell.specs.calls.Feed.{FaultsAfter, DueOfLine, DueOfBytes, ServedLine, ServedLast, Serves, SoFar, EndedBy, kept_front}
use Rattle.rc_shell.specs.Status.{status_of}
use Rattle.rc_shell.specs.declared.status.Ending.TheVariants.{BadTable, StoreFault}
use Rattle.rc_shell.specs.declared.status.Stop.{Stop}
use Rattle.rc_shell.specs.declared.status.Stop.TheVariants.{NoMemory, OutputFault, Ended}
use Rattle.rc_shell.specs.declared.words.Words.{Words}
use Rattle.rc_shell.specs.declared.words.Words.TheVariants.{Run, Refused}
use Rattle.rc_shell.specs.declared.status.Status.{Status}
use Rattle.rc_shell.specs.declared.status.Status.TheVariants as statuses
use Rattle.rc_shell.proofs.Near.{near_cut, near_line}
use Rattle.rc_shell.proofs.Serving.{serves_more, written_behind, ended_behind, faults_since, Answers-append, Served-append, concat-append, kept-nil}

take_none : (n : ℕ) (xs : List ℕ) → length (take (n + 1) xs) ≡ 0 → xs ≡ []
take_none n [] e = refl
take_none n (x ∷ xs) e = absurd (omega (arith, length-take (n + 1) (x ∷ xs)))

-- nothing is kept of an empty line alone
pub kept-none : (xs : List ℕ) → length (kept_front xs) ≡ 0 → xs ≡ []
unfolding kept_front
kept-none xs e = take_none 65536 xs e

last_line-some : (rest : List ℕ) → rest ≢ [] → last_line rest ≡ rest ∷ []
last_line-some [] some = absurd (some refl)
last_line-some (x ∷ xs) some = refl

-- why a run ended that stopped in the middle of the input
caused_by : (stop : Stop) (i i' o o' : ℕ) → i' ≡ i → FaultsAfter stop o o' → EndedBecause (status_of stop) i i' o o'
caused_by NoMemory i i' o o' same e = e
caused_by OutputFault i i' o o' same rose = rose
caused_by (Ended BadTable) i i' o o' same e = (same, e)
caused_by (Ended StoreFault) i i' o o' same e = (same, e)

module _ {State Seen : Type 0} (Step : State → List ℕ → List ℕ → State → Type 0) (Ends : State → List ℕ → Status → List ℕ → Seen → Type 0) (Leaves : State → Seen → Type 0) (segments : ℕ) where
  -- nothing is unfinished
  pub nothing_left : (old : State) (rest held : List ℕ) (At : State → Type 0) (after : Seen) (before : Option (List ℕ)) (f : ℕ) → held ≡ kept_front rest → length held ≡ 0 → At old
      → ServedLast Step Ends Leaves old rest At after before before f f (Ok tt)
  nothing_left old rest held At after before f is none at =
      let empty : rest ≡ [] = kept-none rest (ap length (sym is) ∙ none) in
      ([], old, rw empty refl, at, Appends-nil before, refl)

  -- an unfinished line is the last one
  pub last_served : (old : State) (rest : List ℕ) (At : State → Type 0) (after : Seen) (before now : Option (List ℕ)) (f f' : ℕ) (r : Result Unit Stop) → rest ≢ []
      → ServedLine Step Ends Leaves old rest At after before now f f' r → ServedLast Step Ends Leaves old rest At after before now f f' r
  last_served old rest At after before now f f' (Ok u) some s =
      (s.0 ∷ [], s.1, rw (last_line-some rest some) (s.1, s.2, refl), s.3, subst (λ t. Appends before now t) (sym (append-nil s.0)) s.4, s.5)
  last_served old rest At after before now f f' (Err stop) some s = (some, s.0, s.1, s.2, s.3)

  -- what was served so far, as one piece from the start
  so_far_served : (start : State) (At : State → Type 0) (held : List ℕ) (count : ℕ) (left left' written written' : Option (List ℕ)) (after : Seen) (i i' o o' : ℕ)
      → (s : SoFar Step Ends Leaves start At held count left left' written written' i i' o o') → Serves Step Ends Leaves start [] s.taken At held after written written' o o' (Ok tt)
  so_far_served start At held count left left' written written' after i i' o o' s = (s.text, s.rest, s.now, s.fed, s.at, s.holds, s.appended, s.output_same)

  -- bytes were served, and the run goes on
  pub went_on : (start : State) (At Next : State → Type 0) (held held' : List ℕ) (count n : ℕ) (left mid left' written between written' : Option (List ℕ)) (after : Seen) (i i1 i2 o o1 o2 : ℕ) (bytes : List ℕ)
      → SoFar Step Ends Leaves start At held count left mid written between i i1 o o1
      → Consumes mid left' bytes → length bytes ≡ n → i2 ≡ i1
      → ((rest : List ℕ) (now : State) → IsLine rest → held ≡ kept_front rest → At now → Serves Step Ends Leaves now rest bytes Next held' after between written' o1 o2 (Ok tt))
      → SoFar Step Ends Leaves start Next held' (count + n) left left' written written' i i2 o o2
  went_on start At Next held held' count n left mid left' written between written' after i i1 i2 o o1 o2 bytes s took many same serves =
      let all = serves_more Step Ends Leaves start [] s.taken bytes At Next held held' after after written between written' o o1 o2 (Ok tt)
      (so_far_served start At held count left mid written between after i i1 o o1 s) serves in
      record {
        taken = s.taken ++ bytes;
        text = all.0;
        rest = all.1;
        now = all.2;
        consumed = Consumes-trans left mid left' s.taken bytes s.consumed took;
        appended = all.6;
        counted = length-append s.taken bytes ∙ ap (λ k. k + length bytes) s.counted ∙ ap (λ k. count + k) many;
        fed = all.3;
        at = all.4;
        holds = all.5;
        input_same = same ∙ s.input_same;
        output_same = all.7;
      }

  -- what is due for bytes, behind whole lines and an unfinished one, is due for the run
  due_run : (start now : State) (limit : ℕ) (left : Option (List ℕ)) (taken rest bytes : List ℕ) (after : Seen) (texts : List (List ℕ)) → Served Step start taken texts rest now → IsLine rest
      → length bytes ≤ piece_size → length (taken ++ bytes) ≤ limit
      → (s : Status) (ps : List (List ℕ)) → DueOfBytes Step Ends Leaves now (rest ++ bytes) after s ps → Due Step Ends Leaves (Run segments) start limit left (taken ++ bytes) after s (texts ++ ps)
  due_run start now limit left taken rest bytes after texts p line small few statuses.NoMemory ps d =
      (d.0, d.1, Served-append Step start now d.1 [] taken bytes texts ps rest d.0 p d.2, few, near_cut rest bytes d.2.0 d.0 line small d.2.1, d.3)
  due_run start now limit left taken rest bytes after texts p line small few statuses.BadTable ps d =
      (let e = ended_behind Step Ends Leaves (IsAtEnd left × (length (taken ++ bytes) < limit)) start now [] taken bytes rest texts after p statuses.BadTable ps d.0 d.1 in
      (d.0, e.0, e.1, e.2, e.3, e.4, e.5, e.6, e.7, few, near_cut rest bytes d.1.4.0 d.0 line small d.1.4.1))
  due_run start now limit left taken rest bytes after texts p line small few statuses.StoreFault ps d =
      (let e = ended_behind Step Ends Leaves (IsAtEnd left × (length (taken ++ bytes) < limit)) start now [] taken bytes rest texts after p statuses.StoreFault ps d.0 d.1 in
      (d.0, e.0, e.1, e.2, e.3, e.4, e.5, e.6, e.7, few, near_cut rest bytes d.1.4.0 d.0 line small d.1.4.1))
  due_run start now limit left taken rest bytes after texts p line small few s ps d = absurd d

  -- bytes were served in part
  pub stopped : (start : State) (limit : ℕ) (At Next : State → Type 0) (held held' : List ℕ) (count n : ℕ) (left mid left' written between written' : Option (List ℕ)) (after : Seen) (i i1 i2 o o1 o2 : ℕ) (bytes : List ℕ) (stop : Stop)
      → SoFar Step Ends Leaves start At held count left mid written between i i1 o o1
      → Consumes mid left' bytes → length bytes ≡ n → count + n ≤ limit → length bytes ≤ piece_size → i2 ≡ i1
      → ((rest : List ℕ) (now : State) → IsLine rest → held ≡ kept_front rest → At now → Serves Step Ends Leaves now rest bytes Next held' after between written' o1 o2 (Err stop))
      → Ran Step Ends Leaves (Run segments) start limit (status_of stop) left left' written written' after i i2 o o2
  stopped start limit At Next held held' count n left mid left' written between written' after i i1 i2 o o1 o2 bytes stop s took many few small same serves =
      let l = serves s.rest s.now s.fed.unfinished s.holds s.at in
      let len : length (s.taken ++ bytes) ≤ limit = omega (arith, length-append s.taken bytes, s.counted, many) in
      let due = due_run start s.now limit left' s.taken s.rest bytes after s.fed.texts s.fed.served s.fed.unfinished small len in
      record {
        taken = s.taken ++ bytes;
        text = s.text ++ l.0;
        consumed = Consumes-trans left mid left' s.taken bytes s.consumed took;
        appended = Appends-trans written between written' s.text l.0 s.appended l.2;
        run = subst (λ t. IsTextWritten (Due Step Ends Leaves (Run segments) start limit left' (s.taken ++ bytes) after) (status_of stop) (t ++ l.0)) (sym s.fed.written)
            (written_behind (DueOfBytes Step Ends Leaves s.now (s.rest ++ bytes) after) (Due Step Ends Leaves (Run segments) start limit left' (s.taken ++ bytes) after) s.fed.texts stop l.0
            (due (status_of stop)) (λ t ps d. (t, due t ps d)) l.1);
        cause = caused_by stop i i2 o o2 (same ∙ s.input_same) (faults_since stop o o1 o2 s.output_same l.3);
      }

  took_nothing : (left mid left' : Option (List ℕ)) (taken : List ℕ) → Consumes left mid taken → Consumes mid left' [] → Consumes left left' taken
  took_nothing left mid left' taken p q = subst (λ t. Consumes left left' t) (append-nil taken) (Consumes-trans left mid left' taken [] p q)

  -- a last line was due, and pushing it was the end
  last_pushed : (words : Words) (start : State) (limit : ℕ) (due status : Status) (taken line text : List ℕ) (texts : List (List ℕ)) (left left' written between written' : Option (List ℕ)) (after : Seen) (i i' o o1 o2 : ℕ)
      → ((t : List ℕ) → IsWhole (Due Step Ends Leaves words start limit left' taken after) due t → IsTextWritten (Due Step Ends Leaves words start limit left' taken after) due t)
      → (o2 ≡ o → EndedBecause due i i' o o2)
      → Due Step Ends Leaves words start limit left' taken after due (texts ++ line ∷ [])
      → Consumes left left' taken → Appends written between text → text ≡ concat texts → o1 ≡ o
      → EndedBy due line between written' o1 o2 status
      → Ran Step Ends Leaves words start limit status left left' written written' after i i' o o2
  last_pushed words start limit due status taken line text texts left left' written between written' after i i' o o1 o2 whole caused all took app is same (inl e) =
      rw e.0 (record {
        taken = taken;
        text = text ++ line;
        consumed = took;
        appended = Appends-trans written between written' text line app e.1;
        run = whole (text ++ line) (texts ++ line ∷ [], all, ap (λ t. t ++ line) is ∙ ap (λ l. concat texts ++ l) (sym (append-nil line)) ∙ sym (concat-append texts (line ∷ [])));
        cause = caused (e.2 ∙ same);
      })
  last_pushed words start limit due status taken line text texts left left' written between written' after i i' o o1 o2 whole caused all took app is same (inr (inl e)) =
      rw e.0 (record {
        taken = taken;
        text = text ++ e.1.0;
        consumed = took;
        appended = Appends-trans written between written' text e.1.0 app e.1.3;
        run = (e.1.0, (due, texts, e.1.1, subst (λ l. Due Step Ends Leaves words start limit left' taken after due (texts ++ l ∷ [])) e.1.2 all, ap (λ t. t ++ e.1.0) is));
        cause = subst (λ n. Rose n o2) same e.2;
      })
  last_pushed words start limit due status taken line text texts left left' written between written' after i i' o o1 o2 whole caused all took app is same (inr (inr e)) =
      rw e.0 (record {
        taken = taken;
        text = text ++ [];
        consumed = took;
        appended = Appends-trans written between written' text [] app e.1;
        run = inr (due, texts, line, all, ap (λ t. t ++ []) is);
        cause = e.2 ∙ same;
      })

  -- the input failed
  pub input_failed : (start : State) (limit : ℕ) (At : State → Type 0) (held : List ℕ) (count : ℕ) (status : Status) (left mid left' written between written' : Option (List ℕ)) (after : Seen) (i i1 i2 o o1 o2 : ℕ)
      → SoFar Step Ends Leaves start At held count left mid written between i i1 o o1 → ((now : State) → At now → Leaves now after) → count < limit → Keeps mid left' → Rose i1 i2
      → EndedBy statuses.InputFault (codes "! input fault\n") between written' o1 o2 status
      → Ran Step Ends Leaves (Run segments) start limit status left left' written written' after i i2 o o2
  input_failed start limit At held count status left mid left' written between written' after i i1 i2 o o1 o2 s leaves few keeps rose e =
      let less : length s.taken < limit = omega (arith, s.counted) in
      last_pushed (Run segments) start limit statuses.InputFault status s.taken (codes "! input fault\n") s.text s.fed.texts left left' written between written' after i i2 o o1 o2
      (λ t w. w) (λ same. (subst (λ n. Rose n i2) s.input_same rose, same))
      (s.fed.texts, s.rest, s.now, s.fed.served, s.fed.unfinished, less, leaves s.now s.at, refl)
      (Consumes-kept left mid left' s.taken s.consumed keeps) s.appended s.fed.written s.output_same e

  -- the limit was reached
  pub limit_reached : (start : State) (At : State → Type 0) (limit count : ℕ) (held : List ℕ) (status : Status) (left left' written between written' : Option (List ℕ)) (after : Seen) (i i1 o o1 o2 : ℕ)
      → SoFar Step Ends Leaves start At held count left left' written between i i1 o o1 → ((now : State) → At now → Leaves now after) → count ≡ limit
      → EndedBy statuses.InputLimit (codes "! input limit\n") between written' o1 o2 status
      → Ran Step Ends Leaves (Run segments) start limit status left left' written written' after i i1 o o2
  limit_reached start At limit count held status left left' written between written' after i i1 o o1 o2 s leaves reached e =
      last_pushed (Run segments) start limit statuses.InputLimit status s.taken (codes "! input limit\n") s.text s.fed.texts left left' written between written' after i i1 o o1 o2
      (λ t w. w) (λ same. (s.input_same, same))
      (s.fed.texts, s.rest, s.now, s.fed.served, s.fed.unfinished, s.counted ∙ reached, leaves s.now s.at, refl)
      s.consumed s.appended s.fed.written s.output_same e

  -- the end of the input was met, and a last line served
  pub input_ended : (start : State) (At Next : State → Type 0) (limit : ℕ) (held : List ℕ) (count : ℕ) (left mid left' written between written' : Option (List ℕ)) (after : Seen) (i i1 i2 o o1 o2 : ℕ)
      → SoFar Step Ends Leaves start At held count left mid written between i i1 o o1 → ((now : State) → Next now → Leaves now after) → count < limit → Consumes mid left' [] → IsAtEnd left' → i2 ≡ i1
      → ((rest : List ℕ) (now : State) → held ≡ kept_front rest → At now → ServedLast Step Ends Leaves now rest Next after between written' o1 o2 (Ok tt))
      → Ran Step Ends Leaves (Run segments) start limit statuses.Done left left' written written' after i i2 o o2
  input_ended start At Next limit held count left mid left' written between written' after i i1 i2 o o1 o2 s leaves few none at_end same serves =
      let l = serves s.rest s.now s.holds s.at in
      let less : length s.taken < limit = omega (arith, s.counted) in
      record {
        taken = s.taken;
        text = s.text ++ concat l.0;
        consumed = took_nothing left mid left' s.taken s.consumed none;
        appended = Appends-trans written between written' s.text (concat l.0) s.appended l.4;
        run = (
          s.fed.texts ++ l.0,
          (
            s.fed.served.0,
            s.rest,
            l.1,
            s.fed.served.1,
            s.fed.unfinished,
            (at_end, less),
            Answers-append Step start s.now l.1 s.fed.served.0 (last_line s.rest) s.fed.texts l.0 s.fed.served.2 l.2,
            leaves l.1 l.3,
          ),
          ap (λ t. t ++ concat l.0) s.fed.written ∙ sym (concat-append s.fed.texts l.0),
        );
        cause = (same ∙ s.input_same, l.5 ∙ s.output_same);
      }

  -- what is due for the last line is due for the run
  due_last : (start now : State) (limit : ℕ) (left : Option (List ℕ)) (taken rest : List ℕ) (after : Seen) (texts : List (List ℕ)) (stop : Stop) → Served Step start taken texts rest now → IsLine rest → length taken ≤ limit
      → IsAtEnd left × (length taken < limit) → (ps : List (List ℕ)) → DueOfLine Step Ends Leaves now rest after (status_of stop) ps
      → Due Step Ends Leaves (Run segments) start limit left taken after (status_of stop) (texts ++ ps)
  due_last start now limit left taken rest after texts NoMemory s line most read ps d =
      (rest, now, subst (λ ts. Served Step start taken ts rest now) (sym (append-nil texts) ∙ ap (λ t. texts ++ t) (sym d.1)) s, most, near_line rest line, d.0)
  due_last start now limit left taken rest after texts OutputFault s line most read ps d = absurd d
  due_last start now limit left taken rest after texts (Ended BadTable) s line most read ps d =
      (rest, texts, now, rest, d.0, s, (line, inr (refl, read)), d.1, ap (λ t. texts ++ t) d.2, most, near_line rest line)
  due_last start now limit left taken rest after texts (Ended StoreFault) s line most read ps d =
      (rest, texts, now, rest, d.0, s, (line, inr (refl, read)), d.1, ap (λ t. texts ++ t) d.2, most, near_line rest line)

  due_last_cut : (start now : State) (limit : ℕ) (left : Option (List ℕ)) (taken rest : List ℕ) (after : Seen) (texts : List (List ℕ)) → rest ≢ [] → Served Step start taken texts rest now → IsLine rest → length taken ≤ limit
      → IsAtEnd left × (length taken < limit) → (s : Status) (ps : List (List ℕ)) → DueOfLine Step Ends Leaves now rest after s ps → (t : Status) × Due Step Ends Leaves (Run segments) start limit left taken after t (texts ++ ps)
  due_last_cut start now limit left taken rest after texts some s line most read statuses.Done ps d = (
    statuses.Done,
    (
      s.0,
      rest,
      d.1,
      s.1,
      line,
      read,
      subst (λ ts. AnswersLines Step start (s.0 ++ last_line rest) (texts ++ ts) d.1) (sym d.4)
          (Answers-append Step start now d.1 s.0 (last_line rest) texts (d.0 ∷ []) s.2 (rw (last_line-some rest some) (d.1, d.2, refl))),
      d.3,
    ),
  )
  due_last_cut start now limit left taken rest after texts some s line most read statuses.NoMemory ps d = (statuses.NoMemory, due_last start now limit left taken rest after texts NoMemory s line most read ps d)
  due_last_cut start now limit left taken rest after texts some s line most read statuses.BadTable ps d = (statuses.BadTable, due_last start now limit left taken rest after texts (Ended BadTable) s line most read ps d)
  due_last_cut start now limit left taken rest after texts some s line most read statuses.StoreFault ps d = (statuses.StoreFault, due_last start now limit left taken rest after texts (Ended StoreFault) s line most read ps d)
  due_last_cut start now limit left taken rest after texts some s line most read t ps d = absurd d

  -- a last line was not served whole
  pub end_stopped : (start : State) (At Next : State → Type 0) (limit : ℕ) (held : List ℕ) (count : ℕ) (left mid left' written between written' : Option (List ℕ)) (after : Seen) (i i1 i2 o o1 o2 : ℕ) (stop : Stop)
      → SoFar Step Ends Leaves start At held count left mid written between i i1 o o1 → count < limit → Consumes mid left' [] → IsAtEnd left' → i2 ≡ i1
      → ((rest : List ℕ) (now : State) → held ≡ kept_front rest → At now → ServedLast Step Ends Leaves now rest Next after between written' o1 o2 (Err stop))
      → Ran Step Ends Leaves (Run segments) start limit (status_of stop) left left' written written' after i i2 o o2
  end_stopped start At Next limit held count left mid left' written between written' after i i1 i2 o o1 o2 stop s few none at_end same serves =
      let l = serves s.rest s.now s.holds s.at in
      let less : length s.taken < limit = omega (arith, s.counted) in
      let most : length s.taken ≤ limit = omega arith in
      record {
        taken = s.taken;
        text = s.text ++ l.1;
        consumed = took_nothing left mid left' s.taken s.consumed none;
        appended = Appends-trans written between written' s.text l.1 s.appended l.3;
        run = subst (λ t. IsTextWritten (Due Step Ends Leaves (Run segments) start limit left' s.taken after) (status_of stop) (t ++ l.1)) (sym s.fed.written)
            (written_behind (DueOfLine Step Ends Leaves s.now s.rest after) (Due Step Ends Leaves (Run segments) start limit left' s.taken after) s.fed.texts stop l.1
            (due_last start s.now limit left' s.taken s.rest after s.fed.texts stop s.fed.served s.fed.unfinished most (at_end, less))
            (due_last_cut start s.now limit left' s.taken s.rest after s.fed.texts l.0 s.fed.served s.fed.unfinished most (at_end, less)) l.2);
        cause = caused_by stop i i2 o o2 (same ∙ s.input_same) (faults_since stop o o1 o2 s.output_same l.4);
      }

  -- before the first byte
  pub nothing_so_far : (start : State) (At : State → Type 0) (held : List ℕ) (left written : Option (List ℕ)) (i o : ℕ) → held ≡ [] → At start
      → SoFar Step Ends Leaves start At held 0 left left written written i i o o
  nothing_so_far start At held left written i o none at = record {
    taken = [];
    text = [];
    rest = [];
    now = start;
    consumed = Consumes-nil left;
    appended = Appends-nil written;
    counted = refl;
    fed = record { texts = []; served = ([], (refl, tt), refl); unfinished = tt; written = refl };
    at = at;
    holds = none ∙ sym kept-nil;
    input_same = refl;
    output_same = refl;
  }

  -- the words were refused
  pub words_refused : (start : State) (limit : ℕ) (status : Status) (left written written' : Option (List ℕ)) (after : Seen) (i o o' : ℕ) → Leaves start after
      → EndedBy statuses.BadWords (codes "! bad words\n") written written' o o' status → Ran Step Ends Leaves Refused start limit status left left written written' after i i o o'
  words_refused start limit status left written written' after i o o' leaves e =
      last_pushed Refused start limit statuses.BadWords status [] (codes "! bad words\n") [] [] left left written written written' after i i o o o'
      (λ t w. w) (λ same. (refl, same)) (refl, leaves, refl) (Consumes-nil left) (Appends-nil written) refl refl e

  -- memory ran out before the first byte
  pub memory_refused : (start : State) (limit : ℕ) (left written : Option (List ℕ)) (after : Seen) (i o : ℕ) → Leaves start after
      → Ran Step Ends Leaves (Run segments) start limit statuses.NoMemory left left written written after i i o o
  memory_refused start limit left written after i o leaves = record {
    taken = [];
    text = [];
    consumed = Consumes-nil left;
    appended = Appends-nil written;
    run = inl ([], ([], start, ([], (refl, tt), refl), omega arith, near_line [] tt, leaves), refl);
    cause = refl;
  }
