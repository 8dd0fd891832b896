-- The id is open where it has a place; what is kept are the readers with other ids.
use Rattle.std.proofs.Common.{◌≡◌, ◌==◌, not, rules, sym, subst}
use Rattle.std.specs.List.{filter, position}
use Rattle.std.proofs.lemmas.Fn.{filter_same}
use Rattle.rc_lines.specs.declared.commands.Command.TheVariants.{Close}
use Rattle.rc_lines.specs.declared.commands.Reply.TheVariants as replies
use Rattle.rc_lines.specs.declared.commands.Refusal.TheVariants.{NoReader}
use Rattle.rc_plain.proofs.Places.{Readers, open_some, open_none}
use Rattle.rc_plain.proofs.Standing.{from, stay, takes_no_close, takes_close}
use Rattle.rc_plain.proofs.plain.Plain.close_reader.Goals as goal

pub returns-then-is_none-clause-step : goal.returns-then-is_none-clause-step
returns-then-is_none-clause-step c = λ files.
    let shut = open_none c.self.inside.readers.items c.args.id c.place_of.result (subst (λ (rs : Readers). c.place_of.result ≡ position (λ reader. reader.0 == c.args.id) rs) c.as_slice.ensures.value c.place_of.ensures) (sym c.if-is_none.ensures) in
    stay (Close c.args.id) (replies.Refused NoReader) c.self.view_is (takes_no_close files _ c.args.id shut)

pub returns-clause-step : goal.returns-clause-step
returns-clause-step c = λ files.
    let used = open_some c.self.inside.readers.items c.args.id c.place_of.result (subst (λ (rs : Readers). c.place_of.result ≡ position (λ reader. reader.0 == c.args.id) rs) c.as_slice.ensures.value c.place_of.ensures) (sym c.if-is_none.ensures) in
    let kept : c.retain.new.self.items ≡ filter (λ reader. not (reader.0 == c.args.id)) c.self.inside.readers.items = filter_same _ (λ reader. not (reader.0 == c.args.id)) _ (λ x b f' k. search rules) _ _ c.retain.ensures.filtered in
    from (Close c.args.id) replies.Fine c.self.view_is (takes_close files _ c.args.id used.0 c.retain.new.self.items used.1 kept)
