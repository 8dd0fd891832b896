-- What serving the bytes of a piece did, given what stood unfinished before it.
use Rattle.std.specs.Prelude.{◌≡◌, ◌≢◌, ℕ, List, [], ◌∷◌, ◌++◌, length, take, Option, Some, None, Result, Ok, Err, ◌⊎◌, ◌+◌}
use Rattle.std.specs.List.{concat}
use Rattle.std.specs.Io.KnownBytes.{Appends, Consumes}
use Rattle.std.specs.declared.alloc.AllocError.{AllocError}
use Rattle.rc_outside.specs.Faults.{Rose}
use Rattle.rc_shell.specs.Lines.{IsLine, IsNextLine, last_line}
use Rattle.rc_shell.specs.Run.{AnswersLines, Served, IsTextWritten, Ran}
use Rattle.rc_shell.specs.Status.{status_at, status_of}
use Rattle.rc_shell.specs.declared.status.Status.{Status}
use Rattle.rc_shell.specs.declared.status.Status.TheVariants as statuses
use Rattle.rc_shell.specs.declared.status.Ending.{Ending}
use Rattle.rc_shell.specs.declared.status.Stop.{Stop}
use Rattle.rc_shell.specs.declared.status.Stop.TheVariants.{NoMemory, OutputFault, Ended}
use Rattle.rc_shell.specs.declared.words.Words.TheVariants.{Run}

-- what is kept of an unfinished line: one byte more than the longest line has
unfoldable pub kept_front : List ℕ → List ℕ
kept_front line = take 65537 line

-- the output's count of faults after a stop: it rose where the output failed
abbrev pub FaultsAfter : Stop → ℕ → ℕ → Type 0
FaultsAfter OutputFault before now = Rose before now
FaultsAfter stop before now = now ≡ before

-- a front of the text was written
abbrev pub IsFrontPushed : List ℕ → Option (List ℕ) → Option (List ℕ) → Type 0
IsFrontPushed text old new = (front : List ℕ) × (back : List ℕ) × (text ≡ front ++ back) × Appends old new front

-- What pushing a text did: it was written whole, or in part where the output failed, or not at all.
abbrev pub PushedText : Option (List ℕ) → Option (List ℕ) → ℕ → ℕ → List ℕ → Result Unit Stop → Type 0
PushedText old new before now text (Ok _) = Appends old new text × (now ≡ before)
PushedText old new before now text (Err OutputFault) = IsFrontPushed text old new × Rose before now
PushedText old new before now text (Err NoMemory) = Appends old new [] × (now ≡ before)
PushedText old new before now text (Err (Ended ending)) = ⊥

-- What pushing the last line of an ending did.
abbrev pub PushedEnding : Ending → Option (List ℕ) → Option (List ℕ) → ℕ → ℕ → List ℕ → Stop → Type 0
PushedEnding ending old new before now line (Ended other) = (other ≡ ending) × Appends old new line × (now ≡ before)
PushedEnding ending old new before now line OutputFault = IsFrontPushed line old new × Rose before now
PushedEnding ending old new before now line NoMemory = Appends old new [] × (now ≡ before)

-- What pushing what a line is answered did: its text, or the last line of an ending.
abbrev pub PushedAnswer : Option Ending → Option (List ℕ) → Option (List ℕ) → ℕ → ℕ → List ℕ → Result Unit Stop → Type 0
PushedAnswer None old new before now text result = PushedText old new before now text result
PushedAnswer (Some ending) old new before now line (Err stop) = PushedEnding ending old new before now line stop
PushedAnswer (Some ending) old new before now line (Ok _) = ⊥

-- A last line was due with a status: it is written whole; or in part, where the output failed; or not at all.
abbrev pub EndedBy : Status → List ℕ → Option (List ℕ) → Option (List ℕ) → ℕ → ℕ → Status → Type 0
EndedBy due line old new before now status =
    ((status ≡ due) × Appends old new line × (now ≡ before))
    ⊎ (((status ≡ statuses.OutputFault) × IsFrontPushed line old new × Rose before now)
    ⊎ ((status ≡ statuses.NoMemory) × Appends old new [] × (now ≡ before)))

module _ {State Seen : Type 0} (Step : State → List ℕ → List ℕ → State → Type 0) (Ends : State → List ℕ → Status → List ℕ → Seen → Type 0) (Leaves : State → Seen → Type 0) where
  -- What answering a line did, of which the text goes behind what stood there: a step to a state for which the server stands; or the
  -- end of the run, by a last line; or memory ran out, before a step or behind one.
  abbrev pub Answered : State → List ℕ → (State → Type 0) → Seen → List ℕ → List ℕ → Result (Option Ending) AllocError → Type 0
  Answered old line At after before now (Ok None) = (text : List ℕ) × (new : State) × Step old line text new × At new × (now ≡ before ++ text)
  Answered old line At after before now (Ok (Some ending)) = (last : List ℕ) × Ends old line (status_at ending) last after × (now ≡ before ++ last)
  Answered old line At after before now (Err _) = Leaves old after ⊎ ((text : List ℕ) × (new : State) × Step old line text new × Leaves new after)

  -- What is due for one line: its text; or nothing yet, where memory ran out; or a last line.
  abbrev pub DueOfLine : State → List ℕ → Seen → Status → List (List ℕ) → Type 0
  DueOfLine old line after statuses.Done pieces = (text : List ℕ) × (new : State) × Step old line text new × Leaves new after × (pieces ≡ text ∷ [])
  DueOfLine old line after statuses.NoMemory pieces = Leaves old after × (pieces ≡ [])
  DueOfLine old line after statuses.BadTable pieces = (last : List ℕ) × Ends old line statuses.BadTable last after × (pieces ≡ last ∷ [])
  DueOfLine old line after statuses.StoreFault pieces = (last : List ℕ) × Ends old line statuses.StoreFault last after × (pieces ≡ last ∷ [])
  DueOfLine old line after status pieces = ⊥

  -- behind whole lines that are answered, and before more bytes, a line ends the run: the pieces are the texts and its last line
  abbrev pub IsEnded : Type 0 → State → List ℕ → Seen → Status → List (List ℕ) → List ℕ → Type 0
  IsEnded AreLast start bytes after status pieces more = (texts : List (List ℕ)) × (end : State) × (line : List ℕ) × (last : List ℕ) × Served Step start bytes texts more end
      × IsNextLine AreLast more line × Ends end line status last after × (pieces ≡ texts ++ last ∷ [])

  -- What is due for bytes in the middle of the input: the texts for some first lines; or these, and a last line for the next one.
  abbrev pub DueOfBytes : State → List ℕ → Seen → Status → List (List ℕ) → Type 0
  DueOfBytes old bytes after statuses.NoMemory pieces = (more : List ℕ) × (end : State) × Served Step old bytes pieces more end × Leaves end after
  DueOfBytes old bytes after statuses.BadTable pieces = (more : List ℕ) × IsEnded ⊥ old bytes after statuses.BadTable pieces more
  DueOfBytes old bytes after statuses.StoreFault pieces = (more : List ℕ) × IsEnded ⊥ old bytes after statuses.StoreFault pieces more
  DueOfBytes old bytes after status pieces = ⊥

  -- What serving one line did: its reply was written whole, and the server stands for a next state; or it stopped.
  abbrev pub ServedLine : State → List ℕ → (State → Type 0) → Seen → Option (List ℕ) → Option (List ℕ) → ℕ → ℕ → Result Unit Stop → Type 0
  ServedLine old line At after before now faults faults' (Ok _) = (text : List ℕ) × (new : State) × Step old line text new × At new × Appends before now text × (faults' ≡ faults)
  ServedLine old line At after before now faults faults' (Err stop) =
      (text : List ℕ) × IsTextWritten (DueOfLine old line after) (status_of stop) text × Appends before now text × FaultsAfter stop faults faults'

  -- From old, with the unfinished line `rest`, the bytes gave whole lines; they were answered by `text`; now `left` is unfinished.
  pub record Fed (old : State) (rest bytes text : List ℕ) (new : State) (left : List ℕ) : Type 0 where
    pub texts : List (List ℕ)
    pub served : Served Step old (rest ++ bytes) texts left new
    pub unfinished : IsLine left
    pub written : text ≡ concat texts

  -- What serving the bytes did, behind the unfinished line `rest`.
  abbrev pub Serves : State → List ℕ → List ℕ → (State → Type 0) → List ℕ → Seen → Option (List ℕ) → Option (List ℕ) → ℕ → ℕ → Result Unit Stop → Type 0
  Serves old rest bytes At held after before now faults faults' (Ok _) =
      (text : List ℕ) × (left : List ℕ) × (new : State) × Fed old rest bytes text new left × At new × (held ≡ kept_front left) × Appends before now text × (faults' ≡ faults)
  Serves old rest bytes At held after before now faults faults' (Err stop) =
      (text : List ℕ) × IsTextWritten (DueOfBytes old (rest ++ bytes) after) (status_of stop) text × Appends before now text × FaultsAfter stop faults faults'

  -- A run so far: from the start, so many bytes were taken and each whole line of them is answered; nothing has failed.
  pub record SoFar (start : State) (At : State → Type 0) (held : List ℕ) (count : ℕ) (left left' written written' : Option (List ℕ)) (input input' output output' : ℕ) : Type 0 where
    pub taken : List ℕ
    pub text : List ℕ
    pub rest : List ℕ
    pub now : State
    pub consumed : Consumes left left' taken
    pub appended : Appends written written' text
    pub counted : length taken ≡ count
    pub fed : Fed start [] taken text now rest
    pub at : At now
    pub holds : held ≡ kept_front rest
    pub input_same : input' ≡ input
    pub output_same : output' ≡ output

  -- What serving the unfinished rest as a last line did.
  abbrev pub ServedLast : State → List ℕ → (State → Type 0) → Seen → Option (List ℕ) → Option (List ℕ) → ℕ → ℕ → Result Unit Stop → Type 0
  ServedLast old rest At after before now faults faults' (Ok _) =
      (texts : List (List ℕ)) × (new : State) × AnswersLines Step old (last_line rest) texts new × At new × Appends before now (concat texts) × (faults' ≡ faults)
  ServedLast old rest At after before now faults faults' (Err stop) =
      (rest ≢ []) × (text : List ℕ) × IsTextWritten (DueOfLine old rest after) (status_of stop) text × Appends before now text × FaultsAfter stop faults faults'

  -- What a turn gave: the run goes on, some bytes further, or it ended.
  abbrev pub TurnGave : State → ℕ → (State → Type 0) → List ℕ → ℕ → Option (List ℕ) → Option (List ℕ) → Option (List ℕ) → Option (List ℕ) → Seen → ℕ → ℕ → ℕ → ℕ → Result ℕ Status → Type 0
  TurnGave start limit At held count left left' written written' after input input' output output' (Ok n) =
      SoFar start At held (count + n) left left' written written' input input' output output'
  TurnGave start limit At held count left left' written written' after input input' output output' (Err status) =
      (segments : ℕ) → Ran Step Ends Leaves (Run segments) start limit status left left' written written' after input input' output output'
