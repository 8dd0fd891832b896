-- Kinds are the same where `==` says so.
use Rattle.std.proofs.Common.{◌≡◌, refl}
use Rattle.std.specs.Bool.{Decides}
use Rattle.std.proofs.lemmas.Slice.Eq.{slice_eq-Decides}
use Rattle.rc_schema.specs.declared.kinds.CkKind.{CkKind}
use Rattle.rc_schema.specs.declared.kinds.CkKind.TheVariants.{Int, Text}
use Rattle.rc_schema.specs.contracts.kinds.CkKindPartialEq.TheImpl.{eq-value}
use Rattle.rc_schema.proofs.schemas.are_same_kinds.Goals as goal

decided : (a b : CkKind) → Decides (eq-value.it a b) (a ≡ b)
decided Int Int = (λ _. refl, λ _. refl)
decided Int Text = (λ e. cc, λ e. cc)
decided Text Int = (λ e. cc, λ e. cc)
decided Text Text = (λ _. refl, λ _. refl)

pub returns : goal.returns
returns c = slice_eq-Decides decided c.args.kinds.now c.args.others.now c.eq.result c.eq.ensures
