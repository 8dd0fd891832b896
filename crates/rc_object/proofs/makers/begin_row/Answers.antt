use Rattle.std.proofs.Common.{◌≡◌, [], ◌∷◌, ◌++◌, length, refl, sym, ◌∙◌, subst, append_assoc, arith}
use Rattle.lsa_kinds.specs.Fields.{number_at}
use Rattle.rc_position.specs.Position.{row_pos}
use Rattle.rc_rowcode.specs.Spelling.{key_code, pos_code}
use Rattle.rc_object.specs.calls.Making.{IsEntryBegun}
use Rattle.rc_object.proofs.Built.{begun, put_once, put_more, bytes_put}
use Rattle.rc_object.proofs.makers.begin_row.Goals as goal

pub returns-clause-begun : goal.returns-clause-begun
returns-clause-begun c =
    let key = c.args.key.now in let x = row_pos key in let front = c.entry_front.result in let size = c.args.sc.now.size in
    let one = put_once c.clear.new.self c.put.new.self size front c.clear.ensures c.put.ensures in
    let two = put_more c.put.new.self c.put-2.new.self size front (1 ∷ []) (1 ∷ []) one c.put-2.ensures refl in
    let three = put_more c.put-2.new.self c.put_key.new.self size (front ++ 1 ∷ []) (key_code key) (key_code key) two c.put_key.ensures.value refl in
    let same = bytes_put c.put_key.new.self (front ++ 1 ∷ [] ++ key_code key) size three ∙ append_assoc front (1 ∷ []) (key_code key) in
    let long : number_at 28 4 front ≡ length (pos_code x) = omega (arith, c.entry_front.ensures.size, c.key_size.ensures.value) in
    subst (λ l. IsEntryBegun l x c.args.at c.args.gap) (sym same)
    (begun front x c.args.at c.args.gap c.entry_front.ensures.long c.entry_front.ensures.marks c.entry_front.ensures.level long c.put_key.ensures.coded)
