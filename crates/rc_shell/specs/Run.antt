-- A run: what is written for the bytes that were taken, and what is left of the store, for each exit status.
-- It is said of any machine: a start; a step from a state by a line to a text and the next state; the lines that end a run, each with
-- a status and a last line; and what may be seen of the store where the machine is left in a state.
use Rattle.std.specs.Prelude.{◌≡◌, ◌⊎◌, ℕ, ◌<◌, ◌≤◌, List, [], ◌∷◌, ◌++◌, length, Option, codes}
use Rattle.std.specs.List.{concat}
use Rattle.std.specs.Io.KnownBytes.{Appends, Consumes, IsAtEnd}
use Rattle.rc_outside.specs.Faults.{Rose}
use Rattle.rc_shell.specs.Lines.{IsLine, BeginsWithLines, last_line, IsNextLine}
use Rattle.rc_shell.specs.declared.words.Words.{Words}
use Rattle.rc_shell.specs.declared.words.Words.TheVariants.{Run, Refused}
use Rattle.rc_shell.specs.declared.status.Status.{Status}
use Rattle.rc_shell.specs.declared.status.Status.TheVariants.{Done, BadWords, NoMemory, InputFault, OutputFault, InputLimit}

-- Why it ended so. The input's count of faults rose where that is the status, and at most where memory or the output failed besides;
-- the output's rose where that is the status, and nowhere else.
abbrev pub EndedBecause : Status → ℕ → ℕ → ℕ → ℕ → Type 0
EndedBecause NoMemory input input' output output' = output' ≡ output
EndedBecause InputFault input input' output output' = Rose input input' × (output' ≡ output)
EndedBecause OutputFault input input' output output' = Rose output output'
EndedBecause status input input' output output' = (input' ≡ input) × (output' ≡ output)

-- so many bytes of the input are asked for at once, at most: a piece
abbrev pub piece_size : ℕ
piece_size = 65536

-- Behind each newline in the bytes that were taken and not answered stand fewer than a piece:
-- so at most a piece was taken ahead of the line that is answered next.
abbrev pub IsNear : List ℕ → Type 0
IsNear more = (line rest : List ℕ) → more ≡ line ++ 10 ∷ rest → length rest < piece_size

-- What is written of pieces that were due with a status.
module _ (Due : Status → List (List ℕ) → Type 0) where
  -- all of them
  abbrev pub IsWhole : Status → List ℕ → Type 0
  IsWhole status text = (pieces : List (List ℕ)) × Due status pieces × (text ≡ concat pieces)

  -- those that were due with whatever status, and of the last one only what was written of it
  abbrev pub IsCutOff : List ℕ → List ℕ → Type 0
  IsCutOff written text = (status : Status) × (before : List (List ℕ)) × (unwritten : List ℕ) × Due status (before ++ (written ++ unwritten) ∷ []) × (text ≡ concat before ++ written)

  -- what is written where this is the status: all of them; in part where the output failed; and where memory ran out, one more may have
  -- been due of which nothing is written
  abbrev pub IsTextWritten : Status → List ℕ → Type 0
  IsTextWritten OutputFault text = (written : List ℕ) × IsCutOff written text
  IsTextWritten NoMemory text = IsWhole NoMemory text ⊎ IsCutOff [] text
  IsTextWritten status text = IsWhole status text

module _ {State : Type 0} (Step : State → List ℕ → List ℕ → State → Type 0) where
  -- from old the machine may answer these lines with these texts, one after another, and is then new
  abbrev pub AnswersLines : State → List (List ℕ) → List (List ℕ) → State → Type 0
  AnswersLines old [] [] new = new ≡ old
  AnswersLines old (line ∷ lines) (text ∷ texts) new = (mid : State) × Step old line text mid × AnswersLines mid lines texts new
  AnswersLines old lines texts new = ⊥

  -- the bytes begin with whole lines that may be answered by these texts, and more comes behind them; the machine is then new
  abbrev pub Served : State → List ℕ → List (List ℕ) → List ℕ → State → Type 0
  Served old bytes texts more new = (lines : List (List ℕ)) × BeginsWithLines bytes lines more × AnswersLines old lines texts new

module _ {State Seen : Type 0} (Step : State → List ℕ → List ℕ → State → Type 0) (Ends : State → List ℕ → Status → List ℕ → Seen → Type 0) (Leaves : State → Seen → Type 0) where
  -- What was due, piece by piece, by the words: for the bytes that were taken, what the input has left, what is seen of the store then, and a
  -- status.
  abbrev pub Due : Words → State → ℕ → Option (List ℕ) → List ℕ → Seen → Status → List (List ℕ) → Type 0
  -- the text for each line, the last one without a newline too: the input was read to its end, below the limit
  Due (Run segments) start limit left taken after Done pieces = (lines : List (List ℕ)) × (rest : List ℕ) × (end : State) × BeginsWithLines taken lines rest
      × IsLine rest × (IsAtEnd left × (length taken < limit)) × AnswersLines Step start (lines ++ last_line rest) pieces end × Leaves end after
  -- the text for each whole line, then a last line on the fault
  Due (Run segments) start limit left taken after InputFault pieces = (texts : List (List ℕ)) × (rest : List ℕ) × (end : State) × Served Step start taken texts rest end
      × IsLine rest × (length taken < limit) × Leaves end after × (pieces ≡ texts ++ codes "! input fault\n" ∷ [])
  -- the text for each whole line, then a last line on the limit
  Due (Run segments) start limit left taken after InputLimit pieces = (texts : List (List ℕ)) × (rest : List ℕ) × (end : State) × Served Step start taken texts rest end
      × IsLine rest × (length taken ≡ limit) × Leaves end after × (pieces ≡ texts ++ codes "! input limit\n" ∷ [])
  -- the text for each of some first lines
  Due (Run segments) start limit left taken after NoMemory pieces = (more : List ℕ) × (end : State) × Served Step start taken pieces more end × (length taken ≤ limit) × IsNear more × Leaves end after
  -- the text for each of some first lines, then the last line for the next one, which ends the run with this status
  Due (Run segments) start limit left taken after status pieces = (more : List ℕ) × (texts : List (List ℕ)) × (end : State) × (line : List ℕ) × (last : List ℕ)
      × Served Step start taken texts more end × IsNextLine (IsAtEnd left × (length taken < limit)) more line × Ends end line status last after × (pieces ≡ texts ++ last ∷ [])
      × (length taken ≤ limit) × IsNear more
  -- nothing is taken where the words are refused
  Due Refused start limit left taken after BadWords pieces = (taken ≡ []) × Leaves start after × (pieces ≡ codes "! bad words\n" ∷ [])
  -- nothing else is due
  Due words start limit left taken after status pieces = ⊥

  -- A run over an input, an output and a store: bytes are taken from the one, what is written to the other is that of a run, and after it
  -- this is seen of the store; with its cause.
  pub record Ran (words : Words) (start : State) (limit : ℕ) (status : Status) (left left' written written' : Option (List ℕ)) (after : Seen) (input input' output output' : ℕ) : Type 0 where
    pub taken : List ℕ
    pub text : List ℕ
    pub consumed : Consumes left left' taken
    pub appended : Appends written written' text
    pub run : IsTextWritten (Due words start limit left' taken after) status text
    pub cause : EndedBecause status input input' output output'
