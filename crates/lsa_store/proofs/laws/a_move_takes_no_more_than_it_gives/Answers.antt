use Rattle.lsa_store.specs.laws.Books.{moved-stock}
use Rattle.lsa_store.proofs.laws.a_move_takes_no_more_than_it_gives.Goals as goal

pub returns : goal.returns
returns c = moved-stock
