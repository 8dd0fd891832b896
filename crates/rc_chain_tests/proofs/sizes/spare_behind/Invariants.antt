-- What stood alone at first does.
use Rattle.lsa_store.specs.declared.place.Ref.{Ref}
use Rattle.rc_chain_tests.specs.Alone.{IsAlone}
use Rattle.rc_chain_tests.proofs.sizes.spare_behind.Given as goal

abbrev pub invariant-loop : goal.invariant-loop
invariant-loop l = (r : Ref) → IsAlone l.fn.region r → IsAlone l.region r
