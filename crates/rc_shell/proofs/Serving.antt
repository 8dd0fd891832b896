-- Serving a line, a byte, and the bytes of a piece.
use Rattle.std.proofs.Common.{◌≡◌, ◌≢◌, ◌⊎◌, ℕ, ◌+◌, ◌<◌, ◌≤◌, List, [], ◌∷◌, ◌++◌, length, take, drop, get_or, Option, Result, Ok, Err, OnOk, IfErr, inl, inr, refl, sym, ap, subst, ◌∙◌, append_assoc, arith, length-append}
use Rattle.std.proofs.lemmas.List.{take-append-le, take_all, append-nil, length-take, take_more, take-append-drop}
use Rattle.std.specs.List.{AllByRecursion, concat}
use Rattle.std.proofs.KnownBytes.{Appends-trans, Appends-nil}
use Rattle.rc_outside.specs.Faults.{Rose}
use Rattle.rc_shell.proofs.Cuts.{joined_lines}
use Rattle.rc_shell.specs.Lines.{IsLine, BeginsWithLines, IsNextLine}
use Rattle.rc_shell.specs.Run.{IsWhole, IsCutOff, IsTextWritten, AnswersLines, Served}
use Rattle.rc_shell.specs.calls.Feed.{IsEnded, PushedText, PushedEnding, FaultsAfter, DueOfLine, DueOfBytes, ServedLine, Serves, kept_front}
use Rattle.rc_shell.specs.Status.{status_at, status_of}
use Rattle.rc_shell.specs.declared.status.Status.{Status}
use Rattle.rc_shell.specs.declared.status.Status.TheVariants as statuses
use Rattle.rc_shell.specs.declared.status.Ending.{Ending}
use Rattle.rc_shell.specs.declared.status.Ending.TheVariants.{BadTable, StoreFault}
use Rattle.rc_shell.specs.declared.status.Stop.{Stop}
use Rattle.rc_shell.specs.declared.status.Stop.TheVariants.{NoMemory, OutputFault, Ended}

pub AllByRecursion-append : {X : Type 0} (P : X → Type 0) (xs ys : List X) → AllByRecursion P xs → AllByRecursion P ys → AllByRecursion P (xs ++ ys)
AllByRecursion-append P [] ys p q = q
AllByRecursion-append P (x ∷ xs) ys p q = (p.0, AllByRecursion-append P xs ys p.1 q)

pub joined_lines-append : (xs ys : List (List ℕ)) → joined_lines (xs ++ ys) ≡ joined_lines xs ++ joined_lines ys
joined_lines-append [] ys = refl
joined_lines-append (x ∷ xs) ys = ap (λ b. (x ++ 10 ∷ []) ++ b) (joined_lines-append xs ys) ∙ sym (append_assoc (x ++ 10 ∷ []) (joined_lines xs) (joined_lines ys))

pub concat-append : (xs ys : List (List ℕ)) → concat (xs ++ ys) ≡ concat xs ++ concat ys
concat-append [] ys = refl
concat-append (x ∷ xs) ys = ap (λ b. x ++ b) (concat-append xs ys) ∙ sym (append_assoc x (concat xs) (concat ys))

-- what stands behind the first lines is cut further
pub cut-append : (rest b c : List ℕ) (xs ys : List (List ℕ)) (left more : List ℕ)
    → BeginsWithLines (rest ++ b) xs left → BeginsWithLines (left ++ c) ys more → BeginsWithLines (rest ++ (b ++ c)) (xs ++ ys) more
cut-append rest b c xs ys left more p q = (
  sym (append_assoc rest b c) ∙ ap (λ t. t ++ c) p.0 ∙ append_assoc (joined_lines xs) left c ∙ ap (λ t. joined_lines xs ++ t) q.0
      ∙ sym (append_assoc (joined_lines xs) (joined_lines ys) more) ∙ ap (λ t. t ++ more) (sym (joined_lines-append xs ys)),
  AllByRecursion-append IsLine xs ys p.1 q.1,
)

-- a byte more is kept while there is room
pub take-push : (n : ℕ) (xs : List ℕ) (b : ℕ) → length (take n xs) < n → take n (xs ++ b ∷ []) ≡ take n xs ++ b ∷ []
take-push n xs b few =
    let short : length xs < n = omega (arith, length-take n xs) in
    let longer : length (xs ++ b ∷ []) ≤ n = omega (arith, length-append xs (b ∷ [])) in
    let fits : length xs ≤ n = omega arith in
    take_all n (xs ++ b ∷ []) longer ∙ ap (λ t. t ++ b ∷ []) (sym (take_all n xs fits))

pub take-full : (n : ℕ) (xs : List ℕ) (b : ℕ) → n ≤ length (take n xs) → take n (xs ++ b ∷ []) ≡ take n xs
take-full n xs b many = let long : n ≤ length xs = omega (arith, length-take n xs) in take-append-le n xs (b ∷ []) long

pub kept-push : (xs : List ℕ) (b : ℕ) → length (kept_front xs) < 65537 → kept_front (xs ++ b ∷ []) ≡ kept_front xs ++ b ∷ []
unfolding kept_front
kept-push xs b few = take-push 65537 xs b few

pub kept-full : (xs : List ℕ) (b : ℕ) → 65537 ≤ length (kept_front xs) → kept_front (xs ++ b ∷ []) ≡ kept_front xs
unfolding kept_front
kept-full xs b many = take-full 65537 xs b many

pub kept-nil : kept_front [] ≡ []
unfolding kept_front
kept-nil = refl

-- the output's faults after a stop, counted from before
pub faults_since : (stop : Stop) (f f1 f2 : ℕ) → f1 ≡ f → FaultsAfter stop f1 f2 → FaultsAfter stop f f2
faults_since OutputFault f f1 f2 same rose = subst (λ n. Rose n f2) same rose
faults_since NoMemory f f1 f2 same e = e ∙ same
faults_since (Ended ending) f f1 f2 same e = e ∙ same

-- a whole line is the first of longer bytes too
next_longer : (more line c : List ℕ) → IsNextLine ⊥ more line → IsNextLine ⊥ (more ++ c) line
next_longer more line c (is, inl e) = (is, inl (e.0 ++ c, ap (λ t. t ++ c) e.1 ∙ append_assoc line (10 ∷ e.0) c))
next_longer more line c (is, inr e) = absurd e.1

next_of_any : (AreLast : Type 0) (more line : List ℕ) → IsNextLine ⊥ more line → IsNextLine AreLast more line
next_of_any AreLast more line (is, inl e) = (is, inl e)
next_of_any AreLast more line (is, inr e) = absurd e.1

-- What is due in place of what was: pieces that are written, and then the same pieces.
module _ (Was Is : Status → List (List ℕ) → Type 0) (front : List (List ℕ)) where
  pub whole_behind : (status : Status) (text : List ℕ) → ((ps : List (List ℕ)) → Was status ps → Is status (front ++ ps)) → IsWhole Was status text → IsWhole Is status (concat front ++ text)
  whole_behind status text each w = (front ++ w.0, each w.0 w.1, ap (λ t. concat front ++ t) w.2 ∙ sym (concat-append front w.0))

  pub cut_behind : (written text : List ℕ) → ((s : Status) (ps : List (List ℕ)) → Was s ps → (now : Status) × Is now (front ++ ps)) → IsCutOff Was written text → IsCutOff Is written (concat front ++ text)
  cut_behind written text each c = let d = each c.0 (c.1 ++ (written ++ c.2) ∷ []) c.3 in (
    d.0,
    front ++ c.1,
    c.2,
    subst (λ ps. Is d.0 ps) (sym (append_assoc front c.1 ((written ++ c.2) ∷ []))) d.1,
    ap (λ t. concat front ++ t) c.4 ∙ sym (append_assoc (concat front) (concat c.1) written) ∙ ap (λ t. t ++ written) (sym (concat-append front c.1)),
  )

  -- so what is written, where serving stopped
  pub written_behind : (stop : Stop) (text : List ℕ) → ((ps : List (List ℕ)) → Was (status_of stop) ps → Is (status_of stop) (front ++ ps))
      → ((s : Status) (ps : List (List ℕ)) → Was s ps → (now : Status) × Is now (front ++ ps))
      → IsTextWritten Was (status_of stop) text → IsTextWritten Is (status_of stop) (concat front ++ text)
  written_behind OutputFault text whole cut w = (w.0, cut_behind w.0 text cut w.1)
  written_behind NoMemory text whole cut (inl w) = inl (whole_behind statuses.NoMemory text whole w)
  written_behind NoMemory text whole cut (inr w) = inr (cut_behind [] text cut w)
  written_behind (Ended BadTable) text whole cut w = whole_behind statuses.BadTable text whole w
  written_behind (Ended StoreFault) text whole cut w = whole_behind statuses.StoreFault text whole w

module _ {State : Type 0} (Step : State → List ℕ → List ℕ → State → Type 0) where
  pub Answers-append : (old mid new : State) (xs ys : List (List ℕ)) (ts us : List (List ℕ))
      → AnswersLines Step old xs ts mid → AnswersLines Step mid ys us new → AnswersLines Step old (xs ++ ys) (ts ++ us) new
  Answers-append old mid new [] ys [] us p q = subst (λ s. AnswersLines Step s ys us new) p q
  Answers-append old mid new (x ∷ xs) ys (t ∷ ts) us p q = (p.0, p.1, Answers-append p.0 mid new xs ys ts us p.2 q)
  Answers-append old mid new [] ys (t ∷ ts) us p q = absurd p
  Answers-append old mid new (x ∷ xs) ys [] us p q = absurd p

  -- lines were served, and then more
  pub Served-append : (old mid new : State) (rest b c : List ℕ) (ts us : List (List ℕ)) (left more : List ℕ)
      → Served Step old (rest ++ b) ts left mid → Served Step mid (left ++ c) us more new → Served Step old (rest ++ (b ++ c)) (ts ++ us) more new
  Served-append old mid new rest b c ts us left more p q = (p.0 ++ q.0, cut-append rest b c p.0 q.0 left more p.1 q.1, Answers-append old mid new p.0 q.0 ts us p.2 q.2)

  -- what comes behind does not matter
  pub Served-longer : (old new : State) (bytes c : List ℕ) (ts : List (List ℕ)) (more : List ℕ)
      → Served Step old bytes ts more new → Served Step old (bytes ++ c) ts (more ++ c) new
  Served-longer old new bytes c ts more p = (p.0, (ap (λ t. t ++ c) p.1.0 ∙ append_assoc (joined_lines p.0) more c, p.1.1), p.2)

  pub Served-none : (old : State) (bytes : List ℕ) → Served Step old bytes [] bytes old
  Served-none old bytes = ([], (refl, tt), refl)

module _ {State Seen : Type 0} (Step : State → List ℕ → List ℕ → State → Type 0) (Ends : State → List ℕ → Status → List ℕ → Seen → Type 0) (Leaves : State → Seen → Type 0) where
  -- a text that is due was pushed
  text_pushed : (old : State) (line reply : List ℕ) (At : State → Type 0) (after : Seen) (due : Status) (before now : Option (List ℕ)) (f f' : ℕ) (r : Result Unit Stop)
      → DueOfLine Step Ends Leaves old line after due (reply ∷ []) → ((u : Unit) → r ≡ Ok u → ⊥) → PushedText before now f f' reply r → ServedLine Step Ends Leaves old line At after before now f f' r
  text_pushed old line reply At after due before now f f' (Ok u) d not p = absurd (not u refl)
  text_pushed old line reply At after due before now f f' (Err OutputFault) d not p =
      (p.0.0, (p.0.0, (due, [], p.0.1, subst (λ t. DueOfLine Step Ends Leaves old line after due (t ∷ [])) p.0.2 d, refl)), p.0.3, p.1)
  text_pushed old line reply At after due before now f f' (Err NoMemory) d not p =
      ([], inr (due, [], reply, d, refl), p.0, p.1)
  text_pushed old line reply At after due before now f f' (Err (Ended ending)) d not p = absurd p

  -- a reply that the machine may give, and what pushing it did
  pub served : (old new : State) (line reply : List ℕ) (At : State → Type 0) (after : Seen) (before now : Option (List ℕ)) (f f' : ℕ) (r : Result Unit Stop)
      → Step old line reply new → At new → Leaves new after → PushedText before now f f' reply r → ServedLine Step Ends Leaves old line At after before now f f' r
  served old new line reply At after before now f f' (Ok u) s at leaves p = (reply, new, s, at, p.0, p.1)
  served old new line reply At after before now f f' (Err stop) s at leaves p =
      text_pushed old line reply At after statuses.Done before now f f' (Err stop) (reply, new, s, leaves, refl) (λ u e. cc) p

  -- a last line, and what pushing it did
  pub ended : (old : State) (line last : List ℕ) (At : State → Type 0) (after : Seen) (ending : Ending) (before now : Option (List ℕ)) (f f' : ℕ) (stop : Stop)
      → Ends old line (status_at ending) last after → PushedEnding ending before now f f' last stop → ServedLine Step Ends Leaves old line At after before now f f' (Err stop)
  ended old line last At after BadTable before now f f' OutputFault e p = text_pushed old line last At after statuses.BadTable before now f f' (Err OutputFault) (last, e, refl) (λ u e. cc) p
  ended old line last At after BadTable before now f f' NoMemory e p = text_pushed old line last At after statuses.BadTable before now f f' (Err NoMemory) (last, e, refl) (λ u e. cc) p
  ended old line last At after StoreFault before now f f' OutputFault e p = text_pushed old line last At after statuses.StoreFault before now f f' (Err OutputFault) (last, e, refl) (λ u e. cc) p
  ended old line last At after StoreFault before now f f' NoMemory e p = text_pushed old line last At after statuses.StoreFault before now f f' (Err NoMemory) (last, e, refl) (λ u e. cc) p
  ended old line last At after BadTable before now f f' (Ended BadTable) e p = (last, (last ∷ [], (last, e, refl), sym (append-nil last)), p.1, p.2)
  ended old line last At after StoreFault before now f f' (Ended StoreFault) e p = (last, (last ∷ [], (last, e, refl), sym (append-nil last)), p.1, p.2)
  ended old line last At after BadTable before now f f' (Ended StoreFault) e p = absurd (cc)
  ended old line last At after StoreFault before now f f' (Ended BadTable) e p = absurd (cc)

  -- memory ran out, before a step or behind one
  pub unserved : (old : State) (line : List ℕ) (At : State → Type 0) (after : Seen) (before : Option (List ℕ)) (f : ℕ)
      → (Leaves old after ⊎ ((text : List ℕ) × (new : State) × Step old line text new × Leaves new after)) → ServedLine Step Ends Leaves old line At after before before f f (Err NoMemory)
  unserved old line At after before f (inl leaves) = ([], inl ([], (leaves, refl), refl), Appends-nil before, refl)
  unserved old line At after before f (inr s) =
      ([], inr (statuses.Done, [], s.0, (s.0, s.1, s.2, s.3, refl), refl), Appends-nil before, refl)

  one_line : (old new : State) (line text : List ℕ) → IsLine line → Step old line text new → Served Step old (line ++ 10 ∷ []) (text ∷ []) [] new
  one_line old new line text is s = (line ∷ [], (sym (append-nil _ ∙ append-nil _), (is, tt)), (new, s, refl))

  -- what is due for a line is due for its bytes, with a newline behind them
  due_whole : (old : State) (line : List ℕ) (after : Seen) (stop : Stop) → IsLine line
      → (ps : List (List ℕ)) → DueOfLine Step Ends Leaves old line after (status_of stop) ps → DueOfBytes Step Ends Leaves old (line ++ 10 ∷ []) after (status_of stop) ps
  due_whole old line after NoMemory is ps d = (line ++ 10 ∷ [], old, subst (λ ts. Served Step old (line ++ 10 ∷ []) ts (line ++ 10 ∷ []) old) (sym d.1) (Served-none Step old (line ++ 10 ∷ [])), d.0)
  due_whole old line after OutputFault is ps d = absurd d
  due_whole old line after (Ended BadTable) is ps d =
      (line ++ 10 ∷ [], ([], old, line, d.0, Served-none Step old (line ++ 10 ∷ []), (is, inl ([], refl)), d.1, d.2))
  due_whole old line after (Ended StoreFault) is ps d =
      (line ++ 10 ∷ [], ([], old, line, d.0, Served-none Step old (line ++ 10 ∷ []), (is, inl ([], refl)), d.1, d.2))

  due_cut : (old : State) (line : List ℕ) (after : Seen) → IsLine line → (s : Status) (ps : List (List ℕ)) → DueOfLine Step Ends Leaves old line after s ps
      → (now : Status) × DueOfBytes Step Ends Leaves old (line ++ 10 ∷ []) after now ps
  due_cut old line after is statuses.Done ps d = (statuses.NoMemory, ([], d.1, subst (λ ts. Served Step old (line ++ 10 ∷ []) ts [] d.1) (sym d.4) (one_line old d.1 line d.0 is d.2), d.3))
  due_cut old line after is statuses.NoMemory ps d = (statuses.NoMemory, due_whole old line after NoMemory is ps d)
  due_cut old line after is statuses.BadTable ps d = (statuses.BadTable, due_whole old line after (Ended BadTable) is ps d)
  due_cut old line after is statuses.StoreFault ps d = (statuses.StoreFault, due_whole old line after (Ended StoreFault) is ps d)
  due_cut old line after is s ps d = absurd d

  -- a newline ends the unfinished line
  pub line_ended : (old : State) (rest : List ℕ) (At : State → Type 0) (held : List ℕ) (after : Seen) (before now : Option (List ℕ)) (f f' : ℕ) (r : Result Unit Stop)
      → IsLine rest → held ≡ [] → ServedLine Step Ends Leaves old rest At after before now f f' r → Serves Step Ends Leaves old rest (10 ∷ []) At held after before now f f' r
  line_ended old rest At held after before now f f' (Ok u) line none s = (
    s.0,
    [],
    s.1,
    record { texts = s.0 ∷ []; served = one_line old s.1 rest s.0 line s.2; unfinished = tt; written = sym (append-nil _) },
    s.3,
    none ∙ sym kept-nil,
    s.4,
    s.5,
  )
  line_ended old rest At held after before now f f' (Err stop) line none s = (
    s.0,
    written_behind (DueOfLine Step Ends Leaves old rest after) (DueOfBytes Step Ends Leaves old (rest ++ 10 ∷ []) after) [] stop s.0 (due_whole old rest after stop line) (due_cut old rest after line) s.1,
    s.2,
    s.3,
  )

  -- a byte that ends no line
  pub byte_held : (old : State) (rest : List ℕ) (b : ℕ) (At : State → Type 0) (held : List ℕ) (after : Seen) (before : Option (List ℕ)) (f : ℕ)
      → IsLine rest → b ≢ 10 → At old → held ≡ kept_front (rest ++ b ∷ []) → Serves Step Ends Leaves old rest (b ∷ []) At held after before before f f (Ok tt)
  byte_held old rest b At held after before f line other at is = (
    [],
    rest ++ b ∷ [],
    old,
    record { texts = []; served = Served-none Step old (rest ++ b ∷ []); unfinished = AllByRecursion-append (λ byte. byte ≢ 10) rest (b ∷ []) line (other, tt); written = refl },
    at,
    is,
    Appends-nil before,
    refl,
  )

  pub byte_refused : (old : State) (rest : List ℕ) (bytes : List ℕ) (At : State → Type 0) (held : List ℕ) (after : Seen) (before : Option (List ℕ)) (f : ℕ)
      → Leaves old after → Serves Step Ends Leaves old rest bytes At held after before before f f (Err NoMemory)
  byte_refused old rest bytes At held after before f leaves =
      ([], inl ([], (rest ++ bytes, old, Served-none Step old (rest ++ bytes), leaves), refl), Appends-nil before, refl)

  -- nothing yet
  pub nothing_fed : (old : State) (rest : List ℕ) (At : State → Type 0) (held : List ℕ) (after : Seen) (before : Option (List ℕ)) (f : ℕ)
      → IsLine rest → held ≡ kept_front rest → At old → Serves Step Ends Leaves old rest [] At held after before before f f (Ok tt)
  nothing_fed old rest At held after before f line is at = (
    [],
    rest,
    old,
    record { texts = []; served = ([], (append-nil rest, tt), refl); unfinished = line; written = refl },
    at,
    is,
    Appends-nil before,
    refl,
  )

  -- a line that ends the run, behind lines that are served
  pub ended_behind : (AreLast : Type 0) (old mid : State) (rest b c left : List ℕ) (ts : List (List ℕ)) (after : Seen) → Served Step old (rest ++ b) ts left mid
      → (s : Status) (ps : List (List ℕ)) (more : List ℕ) → IsEnded Step Ends Leaves ⊥ mid (left ++ c) after s ps more → IsEnded Step Ends Leaves AreLast old (rest ++ (b ++ c)) after s (ts ++ ps) more
  ended_behind AreLast old mid rest b c left ts after p s ps more e = (
    ts ++ e.0,
    e.1,
    e.2,
    e.3,
    Served-append Step old mid e.1 rest b c ts e.0 left more p e.4,
    next_of_any AreLast more e.2 e.5,
    e.6,
    ap (λ t. ts ++ t) e.7 ∙ sym (append_assoc ts e.0 (e.3 ∷ [])),
  )

  -- what is due for bytes, behind lines that are served
  pub due_behind : (old mid : State) (rest b c : List ℕ) (left : List ℕ) (ts : List (List ℕ)) (after : Seen) → Served Step old (rest ++ b) ts left mid
      → (s : Status) (ps : List (List ℕ)) → DueOfBytes Step Ends Leaves mid (left ++ c) after s ps → DueOfBytes Step Ends Leaves old (rest ++ (b ++ c)) after s (ts ++ ps)
  due_behind old mid rest b c left ts after p statuses.NoMemory ps d = (d.0, d.1, Served-append Step old mid d.1 rest b c ts ps left d.0 p d.2, d.3)
  due_behind old mid rest b c left ts after p statuses.BadTable ps d = (d.0, ended_behind ⊥ old mid rest b c left ts after p statuses.BadTable ps d.0 d.1)
  due_behind old mid rest b c left ts after p statuses.StoreFault ps d = (d.0, ended_behind ⊥ old mid rest b c left ts after p statuses.StoreFault ps d.0 d.1)
  due_behind old mid rest b c left ts after p s ps d = absurd d

  -- bytes, and then more
  pub serves_more : (old : State) (rest b c : List ℕ) (At Next : State → Type 0) (held held' : List ℕ) (after next : Seen) (before between now : Option (List ℕ)) (f f1 f2 : ℕ) (r : Result Unit Stop)
      → Serves Step Ends Leaves old rest b At held after before between f f1 (Ok tt)
      → ((left : List ℕ) (mid : State) → IsLine left → held ≡ kept_front left → At mid → Serves Step Ends Leaves mid left c Next held' next between now f1 f2 r)
      → Serves Step Ends Leaves old rest (b ++ c) Next held' next before now f f2 r
  serves_more old rest b c At Next held held' after next before between now f f1 f2 (Ok u) p q =
      let s = q p.1 p.2 p.3.unfinished p.5 p.4 in (
        p.0 ++ s.0,
        s.1,
        s.2,
        record {
          texts = p.3.texts ++ s.3.texts;
          served = Served-append Step old p.2 s.2 rest b c p.3.texts s.3.texts p.1 s.1 p.3.served s.3.served;
          unfinished = s.3.unfinished;
          written = ap (λ t. t ++ s.0) p.3.written ∙ ap (λ t. concat p.3.texts ++ t) s.3.written ∙ sym (concat-append p.3.texts s.3.texts);
        },
        s.4,
        s.5,
        Appends-trans before between now p.0 s.0 p.6 s.6,
        s.7 ∙ p.7,
      )
  serves_more old rest b c At Next held held' after next before between now f f1 f2 (Err stop) p q =
      let s = q p.1 p.2 p.3.unfinished p.5 p.4 in
      let due = due_behind old p.2 rest b c p.1 p.3.texts next p.3.served in (
        p.0 ++ s.0,
        subst (λ t. IsTextWritten (DueOfBytes Step Ends Leaves old (rest ++ (b ++ c)) next) (status_of stop) (t ++ s.0)) (sym p.3.written)
            (written_behind (DueOfBytes Step Ends Leaves p.2 (p.1 ++ c) next) (DueOfBytes Step Ends Leaves old (rest ++ (b ++ c)) next) p.3.texts stop s.0 (due (status_of stop)) (λ s ps d. (s, due s ps d)) s.1),
        Appends-trans before between now p.0 s.0 p.6 s.2,
        faults_since stop f f1 f2 p.7 s.3,
      )

  -- a byte that ends no line was kept, or there was no memory for it
  pub byte_taken : (old : State) (rest : List ℕ) (b : ℕ) (At : State → Type 0) (held : List ℕ) (after : Seen) (before : Option (List ℕ)) (f : ℕ) (r : Result Unit Stop)
      → IsLine rest → b ≢ 10 → At old → Leaves old after → OnOk r (held ≡ kept_front (rest ++ b ∷ [])) → IfErr r (λ stop. stop ≡ NoMemory)
      → Serves Step Ends Leaves old rest (b ∷ []) At held after before before f f r
  byte_taken old rest b At held after before f (Ok u) line other at leaves is stop = byte_held old rest b At held after before f line other at is
  byte_taken old rest b At held after before f (Err NoMemory) line other at leaves is stop = byte_refused old rest (b ∷ []) At held after before f leaves
  byte_taken old rest b At held after before f (Err OutputFault) line other at leaves is stop = absurd (cc)
  byte_taken old rest b At held after before f (Err (Ended ending)) line other at leaves is stop = absurd (cc)

  ended_longer : (old : State) (bytes c : List ℕ) (after : Seen) (s : Status) (ps : List (List ℕ)) (more : List ℕ) → IsEnded Step Ends Leaves ⊥ old bytes after s ps more → IsEnded Step Ends Leaves ⊥ old (bytes ++ c) after s ps (more ++ c)
  ended_longer old bytes c after s ps more e = (e.0, e.1, e.2, e.3, Served-longer Step old e.1 bytes c e.0 more e.4, next_longer more e.2 c e.5, e.6, e.7)

  -- what is due does not hang on what stands behind
  due_longer : (old : State) (bytes c : List ℕ) (after : Seen) (s : Status) (ps : List (List ℕ)) → DueOfBytes Step Ends Leaves old bytes after s ps → DueOfBytes Step Ends Leaves old (bytes ++ c) after s ps
  due_longer old bytes c after statuses.NoMemory ps d = (d.0 ++ c, d.1, Served-longer Step old d.1 bytes c ps d.0 d.2, d.3)
  due_longer old bytes c after statuses.BadTable ps d = (d.0 ++ c, ended_longer old bytes c after statuses.BadTable ps d.0 d.1)
  due_longer old bytes c after statuses.StoreFault ps d = (d.0 ++ c, ended_longer old bytes c after statuses.StoreFault ps d.0 d.1)
  due_longer old bytes c after s ps d = absurd d

  -- what stands behind the place where it stopped does not matter
  pub stopped_before : (old : State) (rest b c : List ℕ) (At : State → Type 0) (held : List ℕ) (after : Seen) (before now : Option (List ℕ)) (f f' : ℕ) (stop : Stop)
      → Serves Step Ends Leaves old rest b At held after before now f f' (Err stop) → Serves Step Ends Leaves old rest (b ++ c) At held after before now f f' (Err stop)
  stopped_before old rest b c At held after before now f f' stop s =
      let longer : (t : Status) (ps : List (List ℕ)) → DueOfBytes Step Ends Leaves old (rest ++ b) after t ps → DueOfBytes Step Ends Leaves old (rest ++ (b ++ c)) after t ps
      = λ t ps d. subst (λ bytes. DueOfBytes Step Ends Leaves old bytes after t ps) (append_assoc rest b c) (due_longer old (rest ++ b) c after t ps d) in (
        s.0,
        written_behind (DueOfBytes Step Ends Leaves old (rest ++ b) after) (DueOfBytes Step Ends Leaves old (rest ++ (b ++ c)) after) [] stop s.0 (longer (status_of stop)) (λ t ps d. (t, longer t ps d)) s.1,
        s.2,
        s.3,
      )

  pub stopped_at : (old : State) (rest piece : List ℕ) (i : ℕ) (At : State → Type 0) (held : List ℕ) (after : Seen) (before now : Option (List ℕ)) (f f' : ℕ) (stop : Stop) → i < length piece
      → Serves Step Ends Leaves old rest (take i piece ++ get_or piece i 0 ∷ []) At held after before now f f' (Err stop) → Serves Step Ends Leaves old rest piece At held after before now f f' (Err stop)
  stopped_at old rest piece i At held after before now f f' stop within s =
      let whole : (take i piece ++ get_or piece i 0 ∷ []) ++ drop (i + 1) piece ≡ piece
      = ap (λ t. t ++ drop (i + 1) piece) (sym (take_more piece i 0 within)) ∙ take-append-drop (i + 1) piece in
      subst (λ bytes. Serves Step Ends Leaves old rest bytes At held after before now f f' (Err stop)) whole
      (stopped_before old rest (take i piece ++ get_or piece i 0 ∷ []) (drop (i + 1) piece) At held after before now f f' stop s)
