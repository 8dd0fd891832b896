-- A reader in one of its two forms.
use Rattle.std.specs.Prelude.{⊤}
use Rattle.std.proofs.Common.{◌≡◌, ◌++◌, ℕ, List, Result, Err, sym, subst}
use Rattle.std.specs.declared.alloc.AllocError.{AllocError}
use Rattle.rc_mutation.specs.declared.mutations.Mutation.{Mutation}
use Rattle.rc_query.specs.declared.lines.OutLine.{OutLine}
use Rattle.rc_memory.specs.Memory.{Memory}
use Rattle.rc_opened.specs.declared.behind.OpenedBehind.{OpenedBehind}
use Rattle.rc_opened.specs.declared.opened.Opened.{Opened}
use Rattle.rc_opened.specs.Behind.{LeavesBehind}
use Rattle.rc_opened.specs.Opened.{left_behind, snaps_of}
use Rattle.rc_snapshots.specs.Seeing.{SeeSameChanges}
use Rattle.rc_paging.specs.declared.forms.PartReader.{PartReader}
use Rattle.rc_paging.specs.declared.forms.PartReader.TheVariants.{Cached, Past}
use Rattle.rc_paging.specs.declared.pages.OpenReader.{OpenReader}
use Rattle.rc_paging.specs.Forms.{ByForm, held_by, lines_gone_past}
use Rattle.rc_paging.specs.Pages.{LinesAreLeft, StandCached, StandFor}
use Rattle.rc_paging.specs.Past.{lines_past}

-- a page past the cache that was refused leaves the same lines
pub past_refused : {T : Type 0} (left : Opened → Memory → List OutLine → Type 0) (P : OpenReader → Type 0) (m n : Memory) (r : PartReader) (o s : OpenedBehind) (lines : List OutLine) (count : ℕ) (gave : Result T AllocError) (x : AllocError) → r ≡ Past o → gave ≡ Err x →
    (LeavesBehind left m o lines → LeavesBehind left n s (left_behind gave count lines)) → ByForm P (λ q. LeavesBehind left m q lines) r → LeavesBehind left n s lines
past_refused left P m n r o s lines count gave x is e law l = subst (λ z. LeavesBehind left n s (left_behind z count lines)) e (law (subst (ByForm P (λ q. LeavesBehind left m q lines)) is l))

-- what holds of a reader over the row cache, if it is one
pub cached_of : (P : OpenReader → Type 0) (r : PartReader) (o : OpenReader) → r ≡ Cached o → ByForm P (λ _. ⊤) r → P o
cached_of P r o is h = subst (ByForm P (λ _. ⊤)) is h

pub cached_by : (P : OpenReader → Type 0) (Q : OpenedBehind → Type 0) (r : PartReader) (o : OpenReader) → r ≡ Cached o → ByForm P Q r → P o
cached_by P Q r o is h = subst (ByForm P Q) is h

-- over other chains the same lines are left, by the form
pub form_stays : (left : Opened → Memory → List OutLine → Type 0) → ((o : Opened) (m n : Memory) (lines : List OutLine) → SeeSameChanges (snaps_of o) m n → left o m lines → left o n lines) → (S : ℕ) →
    ((S : ℕ) (o : OpenReader) (m n : Memory) (below : List Mutation) (lines : List OutLine) → StandCached S below n o.held.cached → SeeSameChanges o.held.written m n → LinesAreLeft S m o below lines → LinesAreLeft S n o below lines) →
    (r : PartReader) (m n : Memory) (below : List Mutation) (lines : List OutLine) → ByForm (λ o. StandCached S below n o.held.cached) (λ _. ⊤) r → SeeSameChanges (held_by r).written m n → ByForm (λ o. LinesAreLeft S m o below lines) (λ o. LeavesBehind left m o lines) r → ByForm (λ o. LinesAreLeft S n o below lines) (λ o. LeavesBehind left n o lines) r
form_stays left past S here (Cached o) m n below lines stand see l = here S o m n below lines stand see l
form_stays left past S here (Past o) m n below lines stand see l = record { rest = l.rest; opened = past o.opened m n l.rest see l.opened; are = l.are }

-- past the row cache what the reader past it leaves is left
pub gone_past : (left : Opened → Memory → List OutLine → Type 0) (S : ℕ) (m n : Memory) (r s : PartReader) (o : OpenReader) (past : OpenedBehind) (below writes later : List Mutation) (read : Mutation) (lines : List OutLine) → r ≡ Cached o → s ≡ Past past →
    (StandFor S m o.held below writes later → LeavesBehind left n past (lines_past below read (writes ++ later) o.behind o.remainder.slice)) → ByForm (λ q. StandFor S m q.held below writes later) (λ _. ⊤) r →
    ByForm (λ q. LinesAreLeft S n q below (lines_gone_past below read (writes ++ later) r lines)) (λ q. LeavesBehind left n q (lines_gone_past below read (writes ++ later) r lines)) s
gone_past left S m n r s o past below writes later read lines was is law stand =
    subst (ByForm (λ q. LinesAreLeft S n q below (lines_gone_past below read (writes ++ later) r lines)) (λ q. LeavesBehind left n q (lines_gone_past below read (writes ++ later) r lines))) (sym is)
    (subst (λ z. LeavesBehind left n past (lines_gone_past below read (writes ++ later) z lines)) (sym was) (law (subst (ByForm (λ q. StandFor S m q.held below writes later) (λ _. ⊤)) was stand)))
