use Rattle.std.proofs.Common.{IsSome, Some, cond, refl, sym, ap, ◌∙◌, subst}
use Rattle.rc_memtable.specs.Writes.{chain_of}
use Rattle.rc_memtable.proofs.Named.{key-itself}
use Rattle.rc_memtable.proofs.numbers.add_chain.Goals as goal

pub set_number-requires : goal.set_number-requires
set_number-requires g c =
    let key = c.args.key.now in subst IsSome (sym (c.in_ok-add_place.ensures.ok key ∙ ap (λ b. cond b (Some 0) (chain_of c.args.numbers.now.entries key)) (key-itself key))) refl
