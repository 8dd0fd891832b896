-- The reader's place is that of its id.
use Rattle.std.proofs.Common.{◌≡◌, ◌==◌, ◌∙◌, List, drop, set, sym, ap, None, Some, subst}
use Rattle.std.specs.List.{position}
use Rattle.std.specs.Map.{set_value, lookup}
use Rattle.rc_query.specs.declared.lines.OutLine.{OutLine}
use Rattle.rc_lines.specs.declared.commands.Command.TheVariants.{Read}
use Rattle.rc_lines.specs.declared.commands.Reply.TheVariants as replies
use Rattle.rc_lines.specs.declared.commands.Refusal.TheVariants.{NoReader}
use Rattle.rc_plain.proofs.Places.{Readers, IsPlaceOf, place_some, place_none, rest_at, written_at}
use Rattle.rc_plain.proofs.Standing.{from, stay, takes_no_read, takes_read}
use Rattle.rc_plain.proofs.plain.Plain.read.Goals as goal

pub returns-in-None-clause-step : goal.returns-in-None-clause-step
returns-in-None-clause-step c = λ files.
    let none = place_none c.self.inside.readers.items c.args.id (subst (λ (rs : Readers). position (λ reader. reader.0 == c.args.id) rs ≡ None) c.as_slice.ensures.value (sym c.in-None.ensures)) in
    stay (Read c.args.id c.args.count) (replies.Refused NoReader) c.self.view_is (takes_no_read files _ c.args.id c.args.count none)

place : (c : goal.In_ok-lines-in-Some) → IsPlaceOf c.self.inside.readers.items c.args.id c.in-Some.at
place c = place_some c.self.inside.readers.items c.args.id c.in-Some.at (subst (λ (rs : Readers). position (λ reader. reader.0 == c.args.id) rs ≡ Some c.in-Some.at) c.as_slice.ensures.value (sym c.in-Some.ensures))

rest : (c : goal.In_ok-lines-in-Some) → lookup (λ k. k == c.args.id) c.self.inside.readers.items ≡ Some c.index_mut-reader.result.now.1
rest c = rest_at c.self.inside.readers.items c.args.id c.in-Some.at c.index_mut-reader.result.now (place c) (sym c.index_mut-reader.ensures.value)

pub returns-in_ok-lines-in-Some-clause-step : goal.returns-in_ok-lines-in-Some-clause-step
returns-in_ok-lines-in-Some-clause-step c = λ files.
    let reader = c.index_mut-reader.result.now in
    let given : List OutLine = drop c.args.count reader.1 in
    let written : set c.self.inside.readers.items c.in-Some.at (reader.0, c.give.new.self) ≡ set_value (λ k. k == c.args.id) c.self.inside.readers.items given =
    ◌∙◌ {A = Readers} (ap (λ (l : List OutLine). set c.self.inside.readers.items c.in-Some.at (reader.0, l)) c.in_ok-lines-in-Some.ensures.left)
    (written_at c.self.inside.readers.items c.args.id c.in-Some.at reader given (place c) (sym c.index_mut-reader.ensures.value)) in
    from (Read c.args.id c.args.count) (replies.Given c.in_ok-lines-in-Some.lines c.in_ok-lines-in-Some.more) c.self.view_is (takes_read files _ c.args.id c.args.count reader.1 c.in_ok-lines-in-Some.lines c.in_ok-lines-in-Some.more _ (rest c) c.in_ok-lines-in-Some.ensures.given c.in_ok-lines-in-Some.ensures.more written)
