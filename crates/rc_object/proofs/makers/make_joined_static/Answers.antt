use Rattle.std.proofs.Common.{[], ◌∷◌, length, refl, sym, ◌∙◌, subst, arith}
use Rattle.rc_cell.specs.Winner.{joined_row}
use Rattle.rc_rowcode.specs.Space.{HasRoom}
use Rattle.rc_rowcode.specs.Spelling.{row_code}
use Rattle.rc_object.specs.Objects.{IsMade}
use Rattle.rc_object.specs.laws.OneValue.{row_same}
use Rattle.rc_object.specs.laws.Spelled.{coded_of}
use Rattle.rc_object.proofs.Built.{put_once, bytes_put, size_put, room_there, joined_is, static_held, static_takes}
use Rattle.rc_object.proofs.makers.make_joined_static.Goals as goal

pub join_codes-requires-clause-ours : goal.join_codes-requires-clause-ours
join_codes-requires-clause-ours g c = (c.requires.0, coded_of c.args.region.now c.args.s c.requires.0 c.requires.2, c.row_code.ensures c.requires.0 c.requires.2)

pub join_codes-requires-clause-theirs : goal.join_codes-requires-clause-theirs
join_codes-requires-clause-theirs g c = (c.requires.1, coded_of c.args.region.now c.args.from c.requires.1 c.requires.3, c.row_code-2.ensures c.requires.1 c.requires.3)

pub join_codes-requires-clause-room : goal.join_codes-requires-clause-room
join_codes-requires-clause-room g c = λ a b h k e f.
    let r = c.requires.0 in let q = c.requires.1 in let v = c.args.region.now in
    let first = row_same a r h (coded_of v c.args.s r c.requires.2) (sym e ∙ c.row_code.ensures r c.requires.2) in
    let second = row_same b q k (coded_of v c.args.from q c.requires.3) (sym f ∙ c.row_code-2.ensures q c.requires.3) in
    subst (λ z. HasRoom c.clear.new.self (length (row_code z))) (joined_is r q a b first second)
    (room_there c.clear.new.self c.args.sc.now.size (length (row_code (joined_row (r ∷ q ∷ [])))) c.clear.ensures c.requires.4.inside)

pub make-requires : goal.make-requires
make-requires g c =
    let r = c.requires.0 in let q = c.requires.1 in let h = c.requires.2 in let k = c.requires.3 in
    let v = c.args.region.now in let all = joined_row (r ∷ q ∷ []) in let size = c.args.sc.now.size in
    let joined = c.join_codes.ensures r q (coded_of v c.args.s r h) (coded_of v c.args.from q k) (c.row_code.ensures r h) (c.row_code-2.ensures q k) in
    let put = put_once c.clear.new.self c.join_codes.new.out size (row_code all) c.clear.ensures joined in
    let is = c.bytes.ensures.value ∙ bytes_put c.join_codes.new.out (row_code all) size put in
    let takes = static_takes c.bytes.result.now all is in
    (omega arith, (omega (arith, takes, c.requires.4.fits), (omega (arith, takes, c.requires.4.spare), λ ne. absurd (ne refl))))

pub returns-clause-holds : goal.returns-clause-holds
returns-clause-holds g c = λ r q h k.
    let v = c.args.region.now in let all = joined_row (r ∷ q ∷ []) in let size = c.args.sc.now.size in
    let joined = c.join_codes.ensures r q (coded_of v c.args.s r h) (coded_of v c.args.from q k) (c.row_code.ensures r h) (c.row_code-2.ensures q k) in
    let put = put_once c.clear.new.self c.join_codes.new.out size (row_code all) c.clear.ensures joined in
    let is = c.bytes.ensures.value ∙ bytes_put c.join_codes.new.out (row_code all) size put in
    static_held c.make.new.region c.make.result c.bytes.result.now all c.make.ensures.here is (c.joined_row_has_a_code.ensures r q (coded_of v c.args.s r h) (coded_of v c.args.from q k))

pub returns-clause-made : goal.returns-clause-made
returns-clause-made g c = λ r q h k.
    let v = c.args.region.now in let all = joined_row (r ∷ q ∷ []) in let size = c.args.sc.now.size in
    let joined = c.join_codes.ensures r q (coded_of v c.args.s r h) (coded_of v c.args.from q k) (c.row_code.ensures r h) (c.row_code-2.ensures q k) in
    let put = put_once c.clear.new.self c.join_codes.new.out size (row_code all) c.clear.ensures joined in
    let is = c.bytes.ensures.value ∙ bytes_put c.join_codes.new.out (row_code all) size put in
    subst (λ n. IsMade g.row.S v c.make.new.region c.make.result n) (static_takes c.bytes.result.now all is) c.make.ensures.made

pub returns-clause-size : goal.returns-clause-size
returns-clause-size g c =
    let r = c.requires.0 in let q = c.requires.1 in let h = c.requires.2 in let k = c.requires.3 in
    let v = c.args.region.now in let all = joined_row (r ∷ q ∷ []) in let size = c.args.sc.now.size in
    let joined = c.join_codes.ensures r q (coded_of v c.args.s r h) (coded_of v c.args.from q k) (c.row_code.ensures r h) (c.row_code-2.ensures q k) in
    let put = put_once c.clear.new.self c.join_codes.new.out size (row_code all) c.clear.ensures joined in
    size_put c.join_codes.new.out (row_code all) size put
