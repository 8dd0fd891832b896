use Rattle.std.proofs.Common.{ℕ, ◌+◌, ◌*◌, [], ◌∷◌, ◌++◌, List, get_or, set, replicate, ap, ◌∙◌}
use Rattle.std.proofs.lemmas.List.{append_assoc}
use Rattle.lsa_kinds.specs.Kinds.{kind_code}
use Rattle.lsa_yard.specs.Spelled.{size_field}
use Rattle.lsa_yard.proofs.Segments.{more_bytes}
use Rattle.lsa_yard.proofs.yards.begin.Goals as goal

pub returns-clause-after : goal.returns-clause-after
returns-clause-after g c =
    let n = c.args.n in let old = c.args.segments.now in let was = get_or old n [] in let kind = c.args.kind in let links = c.links-links_size.ensures in
    let size = 8 + 8 * c.links-links_size.result + c.args.len in let header = c.header.result in let unset = c.zeros.result.now in
    let head : List ℕ = kind_code kind ∷ 0 ∷ 0 ∷ 0 ∷ size_field size in
    let two = more_bytes old c.push-offset.new.self c.push.new.self n (was ++ header) unset c.requires.segment c.push-offset.ensures.after c.push.ensures.after in
    two.0 ∙ ap (set old n) (append_assoc was header unset ∙ ap (λ l. was ++ (l ++ unset)) c.header.ensures ∙ ap (λ l. was ++ (head ++ l)) c.zeros.ensures
    ∙ ap (λ k. was ++ (kind_code kind ∷ 0 ∷ 0 ∷ 0 ∷ (size_field (8 + 8 * k + c.args.len) ++ replicate (8 * k) 0))) links)
