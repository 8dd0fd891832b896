use Rattle.lsa_store.specs.laws.Sparse.{sparse-is}
use Rattle.lsa_store.proofs.laws.a_sparse_segment_is_closed.Goals as goal

pub returns : goal.returns
returns c = sparse-is
