use Rattle.std.proofs.Common.{◌≡◌, false, [], ◌∷◌, None, refl}
use Rattle.std.specs.declared.cmp.Ordering.{Ordering}
use Rattle.std.specs.declared.cmp.Ordering.TheVariants.{Less, Equal, Greater}
use Rattle.rc_core.specs.declared.entries.ChainKind.TheVariants.{Cache}
use Rattle.rc_core.specs.declared.entries.Flag.TheVariants.{Inherit, Unknown}
use Rattle.rc_core.specs.Chain.{has_flag}
use Rattle.rc_core.specs.Change.{dummy, mark}
use Rattle.rc_core.specs.Version.{end_position, entry_answers, finding_of, spot_cmp, state_of}
use Rattle.rc_populate.proofs.laws.an_opened_chain_says_what_is_handed_in.Goals as goal

pub returns : goal.returns
returns c = record {
  form = λ p pt statics phase. c.an_opened_entry_is_continuous.ensures.form pt statics phase;
  chain = λ below p pt statics phase head row. c.an_opened_entry_is_continuous.ensures.chain pt statics phase below head row;
  known = λ pt statics phase. refl;
  unknown = λ pt statics phase s. nothing (spot_cmp s end_position);
}
  where
    nothing : (o : Ordering) → has_flag Cache (state_of (entry_answers o (dummy end_position (mark Unknown None)) (finding_of (record { flag = Inherit; tomb = None }) None)) ∷ []) ≡ false
    nothing Less = refl
    nothing Equal = refl
    nothing Greater = refl
