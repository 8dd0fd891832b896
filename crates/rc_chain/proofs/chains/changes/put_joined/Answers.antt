use Rattle.std.proofs.Common.{[], ◌∷◌, ◌++◌, length, inl, sym, ap, ◌∙◌, subst, arith}
use Rattle.rc_cell.specs.Winner.{joined_row}
use Rattle.rc_rowcode.specs.Space.{Space}
use Rattle.rc_rowcode.specs.Spelling.{row_code, IsCodedRow}
use Rattle.rc_core.specs.Change.{joined_onto}
use Rattle.rc_object.specs.laws.OneValue.{row_same}
use Rattle.rc_chain.proofs.chains.changes.put_joined.Goals as goal

pub row_code-requires : goal.row_code-requires
row_code-requires g c = let q = c.requires.room in let o = c.in-Some.ensures.held q.0 q.1 q.3 in (omega arith, (o.0, inl o.2))

pub join_codes-requires-clause-room : goal.join_codes-requires-clause-room
join_codes-requires-clause-room g c = λ a b h k e f.
    let q = c.requires.room in let o = c.in-Some.ensures.held q.0 q.1 q.3 in
    let first = row_same a o.0 h o.2.1 (sym e ∙ c.row_code.ensures o.0 (inl o.2)) in let second = row_same b q.2 k q.4.0 (sym f ∙ q.4.1) in
    let all = ap (λ z. length (row_code z)) ((λ i. joined_row (first i ∷ second i ∷ [])) ∙ sym (ap (λ z. joined_onto z q.2) o.1)) in
    let none = ap length c.requires.empty in let room = q.5 in omega (arith, all, none, room)

pub returns-in-Some-clause-joined : goal.returns-in-Some-clause-joined
returns-in-Some-clause-joined g c = λ refs d row is code.
    let o = c.in-Some.ensures.held refs d is in let both = sym (ap (λ z. joined_onto z row) o.1) in
    let put = ap (λ (z : Space). z.bytes) (c.join_codes.ensures o.0 row o.2.1 code.0 (c.row_code.ensures o.0 (inl o.2)) code.1) ∙ ap (λ b. b ++ row_code (joined_row (o.0 ∷ row ∷ []))) c.requires.empty in
    (subst IsCodedRow both (c.joined_row_has_a_code.ensures o.0 row o.2.1 code.0), put ∙ ap row_code both)
