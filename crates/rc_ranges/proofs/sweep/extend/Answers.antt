use Rattle.std.proofs.Common.{◌≡◌, ◌∷◌, [], ◌++◌, sym, ◌∙◌, ap, subst}
use Rattle.std.specs.Prelude.{OnOk, List}
use Rattle.rc_ranges.specs.declared.pieces.Piece.{Piece}
use Rattle.rc_ranges.specs.calls.Sweep.{extended_pieces}
use Rattle.rc_ranges.proofs.Extending.{extended-last}
use Rattle.rc_ranges.proofs.sweep.extend.Goals as goal

pub returns-in-Some : goal.returns-in-Some
returns-in-Some c =
    let whole : c.args.made.now.items ≡ c.pop.new.self.items ++ c.in-Some.last ∷ [] = c.in-Some.ensures.items in
    let made : extended_pieces c.args.made.now.items c.args.next ≡ c.pop.new.self.items ++ extended_pieces (c.in-Some.last ∷ []) c.args.next =
    ap (λ (ps : List Piece). extended_pieces ps c.args.next) whole ∙ extended-last c.pop.new.self.items c.in-Some.last c.args.next in
    subst (λ (ps : List Piece). OnOk c.push_both.result (c.push_both.new.made.items ≡ ps)) (sym made) c.push_both.ensures
