use Rattle.std.proofs.Common.{sym, ap, ◌∙◌, subst, arith}
use Rattle.std.specs.Prelude.{IfOk, IfSome}
use Rattle.rc_schema.specs.SchemaValue.{SchemaValue}
use Rattle.rc_memory.specs.Memory.{Memory, chain_at}
use Rattle.rc_chain.specs.declared.chains.Snap.{Snap}
use Rattle.rc_entries.specs.Filling.{MayFill}
use Rattle.rc_row_cache.specs.Saying.{Below, CacheSays}
use Rattle.rc_row_cache.proofs.Cache.{pins-same}
use Rattle.rc_row_cache.proofs.Fills.{pins-then}
use Rattle.rc_row_cache.proofs.row_cache.RowCache.snapshot.Goals as goal

pub returns-in-Some-clause-says : goal.returns-in-Some-clause-says
returns-in-Some-clause-says g c = λ schema below says. c.snapshot_of.ensures.says schema below (subst (CacheSays schema below) (sym c.forget_dropped.ensures.told) says)

pub returns-in-Some-clause-may : goal.returns-in-Some-clause-may
returns-in-Some-clause-may g c = subst (λ (m : Memory). IfOk c.snapshot_of.result (λ o. IfSome o (λ (s : Snap). (schema : SchemaValue) (below : Below) → CacheSays schema below m → MayFill c.snapshot_of.new.chains s.chain s.pin))) c.forget_dropped.ensures.told c.snapshot_of.ensures.may

pub returns-in-Some-clause-pins : goal.returns-in-Some-clause-pins
returns-in-Some-clause-pins g c = λ below id pin. pins-then below id pin c.args.chains.now c.forget_dropped.new.chains c.snapshot_of.new.chains
    (pins-same below id pin c.args.chains.now c.forget_dropped.new.chains (λ k kind there. ap (λ (m : Memory). chain_at m id) c.forget_dropped.ensures.told ∙ there)) (c.snapshot_of.ensures.pins below id pin)

pub returns-in-None-clause-says : goal.returns-in-None-clause-says
returns-in-None-clause-says g c = λ schema below says. subst (CacheSays schema below) (sym c.forget_dropped.ensures.told) says

pub returns-in-None-clause-pins : goal.returns-in-None-clause-pins
returns-in-None-clause-pins g c = λ below id pin. pins-same below id pin c.args.chains.now c.forget_dropped.new.chains (λ k kind there. ap (λ (m : Memory). chain_at m id) c.forget_dropped.ensures.told ∙ there)

pub snapshot_of-requires : goal.snapshot_of-requires
snapshot_of-requires g c = (omega arith, (sym c.in-Some.ensures, (c.forget_dropped.ensures.entries c.requires, c.forget_dropped.ensures.settled)))
