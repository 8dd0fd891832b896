use Rattle.std.proofs.Common.{sym, ap, ◌∙◌, subst}
use Rattle.rc_memory.specs.Memory.{Memory, chain_at}
use Rattle.rc_entries.specs.Found.{entry_number}
use Rattle.rc_row_cache.specs.Saying.{CacheSays}
use Rattle.rc_row_cache.proofs.Cache.{pins-same}
use Rattle.rc_row_cache.proofs.Numbered.{number-there}
use Rattle.rc_row_cache.proofs.Taking.{detached-lost, same-lost}
use Rattle.rc_row_cache.proofs.row_cache.RowCache.forget.Goals as goal

pub returns-clause-says : goal.returns-clause-says
returns-clause-says g c = λ schema below says. number-there (entry_number c.args.self.now.entries c.args.key.now)
    (λ e. subst (CacheSays schema below) (sym (c.detach.ensures.none e).1) says)
    (λ id e. c.the_cache_says_what_lies_below.ensures.detached schema below id c.args.chains.now c.detach.new.chains (c.detach.ensures.detached id e) says)

pub returns-clause-pins : goal.returns-clause-pins
returns-clause-pins g c = λ below id pin. number-there (entry_number c.args.self.now.entries c.args.key.now)
    (λ e. pins-same below id pin c.args.chains.now c.detach.new.chains (λ k kind there. ap (λ (m : Memory). chain_at m id) (c.detach.ensures.none e).1 ∙ there))
    (λ n e. c.each_snapshot_pins_what_it_pinned.ensures.detached below id pin n c.args.chains.now c.detach.new.chains (c.detach.ensures.detached n e))

pub returns-clause-seen : goal.returns-clause-seen
returns-clause-seen g c = number-there (entry_number c.args.self.now.entries c.args.key.now)
    (λ e. same-lost c.args.chains.now c.detach.new.chains (λ id. ap (λ (m : Memory). chain_at m id) (c.detach.ensures.none e).1))
    (λ n e. detached-lost n c.args.chains.now c.detach.new.chains (c.detach.ensures.detached n e))
