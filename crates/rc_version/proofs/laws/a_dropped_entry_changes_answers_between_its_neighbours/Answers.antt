use Rattle.std.proofs.Common.{◌≡◌, sym, subst}
use Rattle.rc_core.specs.Change.{drop_at, lost_mark}
use Rattle.rc_core.specs.laws.Spots.{take_out-behind, take_out-front}
use Rattle.rc_core.specs.Version.{Ascend, finding_in}
use Rattle.rc_version.proofs.laws.a_dropped_entry_changes_answers_between_its_neighbours.Goals as goal

pub returns-clause-before : goal.returns-clause-before
returns-clause-before c = λ d s front e next back v n refs h is b. subst (λ es. finding_in s (drop_at e.position es) ≡ finding_in s es) (sym is) (take_out-front lost_mark s front e next back (subst Ascend is h.version.ascend) b)

pub returns-clause-behind : goal.returns-clause-behind
returns-clause-behind c = λ d s front e next back v n refs h is b. subst (λ es. finding_in s (drop_at e.position es) ≡ finding_in s es) (sym is) (take_out-behind lost_mark s front e next back (subst Ascend is h.version.ascend) b)
