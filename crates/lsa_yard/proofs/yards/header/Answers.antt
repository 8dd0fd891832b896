use Rattle.std.proofs.Common.{[], ◌∷◌, get_or, ap, ◌∙◌}
use Rattle.lsa_kinds.specs.Kinds.{kind_code}
use Rattle.lsa_yard.specs.Spelled.{size_field}
use Rattle.lsa_yard.proofs.Words.{spelled-size}
use Rattle.lsa_yard.proofs.yards.header.Goals as goal

pub returns : goal.returns
unfolding size_field
returns c =
    let size = c.to_le_bytes-size.ensures ∙ spelled-size c.args.size in
    ap (λ k. k ∷ 0 ∷ 0 ∷ 0 ∷ get_or c.to_le_bytes-size.result 0 0 ∷ get_or c.to_le_bytes-size.result 1 0 ∷ get_or c.to_le_bytes-size.result 2 0 ∷ get_or c.to_le_bytes-size.result 3 0 ∷ []) c.code.ensures
    ∙ ap (λ l. kind_code c.args.kind ∷ 0 ∷ 0 ∷ 0 ∷ get_or l 0 0 ∷ get_or l 1 0 ∷ get_or l 2 0 ∷ get_or l 3 0 ∷ []) size
