use Rattle.std.proofs.Common.{Some, sym, ap, ◌∙◌, subst}
use Rattle.rc_rowcode.specs.calls.Reading.{parse_row}
use Rattle.rc_rowcode.specs.laws.RowCodec.{row_codec}
use Rattle.rc_rowcode.specs.Spelling.{row_code, IsCodedRow, ReadsPrefix}
use Rattle.rc_object.specs.laws.Spelled.{coded_of}
use Rattle.rc_reading.specs.calls.Reading.{IsRowRead}
use Rattle.rc_reading.proofs.Reread.{always-read, same-read}
use Rattle.rc_reading.proofs.said.row_of.Goals as goal

pub unreachable-requires : goal.unreachable-requires
unreachable-requires g c =
    let k = subst (λ h. IsRowRead c.args.region.now h c.requires.0) c.in-Some.is c.requires.1 in
    always-read row_code IsCodedRow k.0 c.row_code.result.now (coded_of c.args.region.now c.in-Some.r k.0 k.2) (c.row_code.ensures k.0 k.2) (subst (ReadsPrefix row_code IsCodedRow c.row_code.result.now) c.in-None.is c.in_ok-row.ensures.value)

pub returns : goal.returns
returns g c = λ row h.
    let k = subst (λ o. IsRowRead c.args.region.now o row) c.in-Some.is h in
    ap (λ q. Some q) (same-read row_code IsCodedRow k.0 c.row_code.result.now (coded_of c.args.region.now c.in-Some.r k.0 k.2) (c.row_code.ensures k.0 k.2) parse_row row_codec (c.in-Some-2.row, c.in-Some-2._size) (subst (ReadsPrefix row_code IsCodedRow c.row_code.result.now) c.in-Some-2.is c.in_ok-row.ensures.value)) ∙ sym k.1
