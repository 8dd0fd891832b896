use Rattle.std.proofs.Common.{sym, ap, ◌∙◌}
use Rattle.lsa_store.specs.Stock.{sparse_of}
use Rattle.lsa_store.specs.Stored.{Stored}
use Rattle.lsa_store.specs.laws.Sparse.{sparse-none}
use Rattle.lsa_store.proofs.store.Store.sparse.Goals as goal

pub returns-then-sparse-eq0 : goal.returns-then-sparse-eq0
returns-then-sparse-eq0 g c = sym (ap (λ (v : Stored). sparse_of g.row.S v.usages) (sym c.self.view_is) ∙ sparse-none g.row.S c.self.inside.pool (sym c.sparse.ensures ∙ c.if-sparse-eq0.true))
