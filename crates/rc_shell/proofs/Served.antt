-- What a line means where the program serves its command.
use Rattle.std.proofs.Common.{◌≡◌, Bool, true, false, Result, Ok, Err, refl, sym, subst, ◌∙◌}
use Rattle.std.specs.Prelude.{if◌then◌else◌}
use Rattle.rc_lines.specs.declared.commands.Command.{Command}
use Rattle.rc_lines.specs.declared.commands.Command.TheVariants.{Nothing, SetSchema, Put, OpenRead, Read, Close, Flush, FlushBegin, FlushStep, Evict, Compact, Clean, Stats}
use Rattle.rc_lines.specs.declared.commands.Refusal.{Refusal}
use Rattle.rc_lines.specs.declared.commands.Refusal.TheVariants.{BadLine}
use Rattle.rc_machine.specs.Built.{is_built, served_meaning}

-- a command is served as it is, or as a bad line
pub served_as : (command : Command) → served_meaning (Ok command) ≡ (if is_built command then Ok command else Err BadLine)
served_as Nothing = refl
served_as (SetSchema schema) = refl
served_as (Put w) = refl
served_as (OpenRead id key slice) = refl
served_as (Read id count) = refl
served_as (Close id) = refl
served_as Flush = refl
served_as FlushBegin = refl
served_as (FlushStep count) = refl
served_as (Evict count) = refl
served_as (Compact count) = refl
served_as (Clean count) = refl
served_as Stats = refl

-- a command is what the line means
pub served_ok : (meaning : Result Command Refusal) (command : Command) → served_meaning meaning ≡ Ok command → meaning ≡ Ok command
served_ok (Err refusal) command e = absurd (cc)
served_ok (Ok other) command e = built (is_built other) (sym (served_as other) ∙ e)
  where
    built : (b : Bool) → (if b then Ok other else Err BadLine) ≡ Ok command → ◌≡◌ {A = Result Command Refusal} (Ok other) (Ok command)
    built true f = f
    built false f = absurd (cc)

-- what holds of a bad line and of each refusal of a line holds of its refusals
pub served_is : (P : Refusal → Type 0) → P BadLine → (meaning : Result Command Refusal) → ((refusal : Refusal) → meaning ≡ Err refusal → P refusal) → (refusal : Refusal) → served_meaning meaning ≡ Err refusal → P refusal
served_is P bad (Err other) all refusal e = all refusal e
served_is P bad (Ok command) all refusal e = elim (is_built command) as (λ b. (if b then Ok command else Err BadLine) ≡ Err refusal → P refusal) [
  | true ↦ λ f. absurd (cc)
  | false ↦ λ f. (let is : BadLine ≡ refusal = cc in subst P is bad)
] (sym (served_as command) ∙ e)
