-- A reply's text tells a fault of the store only where the reply does, and no line is refused so.
use Rattle.std.proofs.Common.{◌≡◌, ℕ, true, false, List, [], ◌∷◌, Option, Err, IsTrue, refl}
use Rattle.rc_schema.specs.SchemaValue.{SchemaValue}
use Rattle.rc_query.specs.declared.lines.OutLine.TheVariants.{Static, Row}
use Rattle.rc_lines.specs.declared.commands.Refusal.{Refusal}
use Rattle.rc_lines.specs.declared.commands.Refusal.TheVariants.{ReadFault, WriteFault}
use Rattle.rc_lines.specs.declared.commands.Reply.{Reply}
use Rattle.rc_lines.specs.declared.commands.Reply.TheVariants.{Nothing, Fine, Given, Going, Done, Stats, Refused}
use Rattle.rc_lines.specs.Grammar.{parse}
use Rattle.rc_lines.specs.Texts.{reply_text, refusal_text, figures_text}
use Rattle.rc_lines.specs.laws.Refusals.{of_line}
use Rattle.rc_machine.specs.Serving.{OnFaulty}
use Rattle.rc_shell.specs.Step.{tells_fault}

-- only the replies of a fault tell one
pub told : (schema : SchemaValue) (reply : Reply) (P : Type 0) → OnFaulty reply P → IsTrue (tells_fault (reply_text schema reply)) → P
unfolding reply_text figures_text
told schema (Refused ReadFault) P p t = p
told schema (Refused WriteFault) P p t = p
told schema (Refused refusal) P p t = absurd (cc)
told schema (Given [] true) P p t = absurd (cc)
told schema (Given [] false) P p t = absurd (cc)
told schema (Given (Static shown ∷ lines) more) P p t = absurd (cc)
told schema (Given (Row key shown ∷ lines) more) P p t = absurd (cc)
told schema Nothing P p t = absurd (cc)
told schema Fine P p t = absurd (cc)
told schema Going P p t = absurd (cc)
told schema Done P p t = absurd (cc)
told schema (Stats figures) P p t = absurd (cc)

-- no line is refused for a fault
pub plain : (taken : Option SchemaValue) (line : List ℕ) (refusal : Refusal) → parse taken line ≡ Err refusal → tells_fault (refusal_text refusal) ≡ false
plain = of_line (λ refusal. tells_fault (refusal_text refusal) ≡ false) refl refl refl refl refl
