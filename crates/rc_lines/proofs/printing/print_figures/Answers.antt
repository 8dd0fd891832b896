-- The names and figures stand between the first word and the end of the line.
use Rattle.std.proofs.Common.{◌≡◌, ◌++◌, ℕ, List, codes, OnOk}
use Rattle.std.specs.Prelude.{Result, Ok, Err, if◌then◌else◌}
use Rattle.std.specs.Result.{is_ok}
use Rattle.std.specs.declared.alloc.AllocError.{AllocError}
use Rattle.rc_lines.specs.Texts.{figures_text}
use Rattle.rc_lines.specs.calls.TextParts.{named_figure}
use Rattle.rc_lines.proofs.Steps.{three_behind}
use Rattle.rc_lines.proofs.printing.print_figures.Goals as goal

ended : (r : Result (Unit {0}) AllocError) (old a b d first second third : List ℕ) → first ≡ old ++ a → second ≡ first ++ b → third ≡ (if is_ok r then second ++ d else second) → OnOk r (third ≡ old ++ (a ++ b ++ d))
ended (Ok done) old a b d first second third p q s = three_behind old a b d first second third p q s
ended (Err error) old a b d first second third p q s = tt

pub returns : goal.returns
unfolding figures_text named_figure
returns c =
    ended c.extend_from_slice-2.result c.args.text.now.items (codes "stats") _ (codes "\n") _ _ _ c.in_ok-extend_from_slice.ensures.items c.in_ok-print_named.ensures c.extend_from_slice-2.ensures.items
