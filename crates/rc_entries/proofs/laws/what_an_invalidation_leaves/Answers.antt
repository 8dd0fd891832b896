use Rattle.rc_entries.proofs.Invalidating.{invalidated-gone, invalidated-listed, invalidated-none, invalidated-others, invalidated-readers, invalidated-rest, keys-numbers, numbers-keys, without-found}
use Rattle.rc_entries.proofs.laws.what_an_invalidation_leaves.Goals as goal

pub returns : goal.returns
returns c = record {
  found = λ entries keys q h. without-found keys entries q h;
  numbers = λ entries keys id h. (numbers-keys keys entries id h, λ k. keys-numbers keys entries id k.0 h k.1 k.2);
  gone = λ ids phase id k old new h. invalidated-gone ids phase old new h id k;
  others = λ ids phase id k old new h. invalidated-others ids phase old new h id k;
  none = λ ids phase id old new h. invalidated-none ids phase old new h id;
  readers = λ ids phase id k old new h. invalidated-readers ids phase old new h id k;
  rest = invalidated-rest;
  recency = invalidated-listed;
}
