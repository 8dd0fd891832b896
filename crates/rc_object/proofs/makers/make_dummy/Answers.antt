use Rattle.std.proofs.Common.{◌++◌, refl, sym, ◌∙◌, subst}
use Rattle.rc_rowcode.specs.Spelling.{pos_code}
use Rattle.lsa_kinds.specs.declared.kind.Kind.TheVariants.{Dummy}
use Rattle.lsa_region.specs.Region.{body}
use Rattle.rc_core.specs.Change.{dummy}
use Rattle.rc_object.specs.calls.Making.{IsEntryBegun}
use Rattle.rc_object.proofs.Built.{begun, put_once, put_more, bytes_put, ready_dummy, held}
use Rattle.rc_object.proofs.makers.make_dummy.Goals as goal

pub returns-clause-holds : goal.returns-clause-holds
returns-clause-holds g c =
    let x = c.args.x.now in let m = c.args.mark in let front = c.entry_front.result in let size = c.args.sc.now.size in
    let first = put_once c.clear.new.self c.put.new.self size front c.clear.ensures c.put.ensures in
    let both = put_more c.put.new.self c.put_pos.new.self size front (pos_code x) (pos_code x) first c.put_pos.ensures.value refl in
    let same = c.bytes.ensures.value ∙ bytes_put c.put_pos.new.self (front ++ pos_code x) size both in
    let begun_there = begun front x m m c.entry_front.ensures.long c.entry_front.ensures.marks c.entry_front.ensures.level (c.entry_front.ensures.size ∙ c.pos_size.ensures.value) c.pos_size.ensures.coded in
    let ready = ready_dummy c.bytes.result.now x m (subst (λ l. IsEntryBegun l x m m) (sym same) begun_there) in
    held (body c.make.new.region c.make.result) Dummy c.bytes.result.now (dummy x m) c.make.ensures.here ready.spelled
