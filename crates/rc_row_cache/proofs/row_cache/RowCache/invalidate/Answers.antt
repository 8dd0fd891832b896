use Rattle.rc_entries.specs.Invalidated.{entry_numbers, partition_keys}
use Rattle.rc_row_cache.proofs.Seeing.{kept-sees}
use Rattle.rc_row_cache.proofs.row_cache.RowCache.invalidate.Goals as goal

pub returns-clause-says : goal.returns-clause-says
returns-clause-says g c = λ schema below since says. c.the_cache_says_what_lies_below_at_a_new_phase.ensures schema below (entry_numbers (partition_keys c.args.parts.now) c.args.self.now.entries) c.args.phase c.args.chains.now c.invalidate.new.chains
    c.known.ensures.sound c.invalidate.ensures.invalidated since says

pub returns-clause-pins : goal.returns-clause-pins
returns-clause-pins g c = λ below since id pin. c.each_snapshot_pins_what_it_pinned.ensures.invalidated below id pin (entry_numbers (partition_keys c.args.parts.now) c.args.self.now.entries) c.args.phase c.args.chains.now c.invalidate.new.chains
    c.known.ensures.sound c.invalidate.ensures.invalidated since

pub returns-clause-readers : goal.returns-clause-readers
returns-clause-readers g c = λ id k e. c.what_an_invalidation_leaves.ensures.readers (entry_numbers (partition_keys c.args.parts.now) c.args.self.now.entries) c.args.phase id k c.args.chains.now c.invalidate.new.chains c.invalidate.ensures.invalidated e

pub returns-clause-gone : goal.returns-clause-gone
returns-clause-gone g c = c.invalidate.ensures.gone

pub returns-clause-found : goal.returns-clause-found
returns-clause-found g c = c.invalidate.ensures.found

pub returns-clause-invalidated : goal.returns-clause-invalidated
returns-clause-invalidated g c = c.invalidate.ensures.invalidated

pub returns-clause-entries : goal.returns-clause-entries
returns-clause-entries g c = c.invalidate.ensures.entries

pub returns-clause-settled : goal.returns-clause-settled
returns-clause-settled g c = c.invalidate.ensures.settled

pub returns-clause-sees : goal.returns-clause-sees
returns-clause-sees g c = λ changes s h. kept-sees changes s c.args.chains.now c.invalidate.new.chains
    (λ k e. c.what_an_invalidation_leaves.ensures.readers (entry_numbers (partition_keys c.args.parts.now) c.args.self.now.entries) c.args.phase s.chain k c.args.chains.now c.invalidate.new.chains c.invalidate.ensures.invalidated e) h
