-- What was read fits, and is put into the row cache; where it could not be read nothing is done.
use Rattle.rc_mutation.specs.declared.mutations.Mutation.{Mutation}
use Rattle.rc_lookup.specs.Crowds.{loses-nothing}
use Rattle.rc_lookup.specs.Losing.{loses-wider}
use Rattle.rc_shard.proofs.Filled.{cause-of, no-damage, read-cause, read-fits}
use Rattle.std.specs.Prelude.{Err}
use Rattle.rc_shard.specs.declared.readers.Source.{Source}
use Rattle.rc_shard.specs.calls.Looking.{AreKnownStill}
use Rattle.rc_shard.proofs.Known.{known-itself, unless-all, unless-ok}
use Rattle.rc_shard.proofs.Looking.{used-itself}
use Rattle.rc_shard.proofs.shard.Shard.read_tables.Goals as goal

pub fill-requires-clause-stands : goal.fill-requires-clause-stands
fill-requires-clause-stands g c = (g.W.Store.files c.args.store.now, c.requires.0, c.requires.1)

pub fill-requires-clause-mutation : goal.fill-requires-clause-mutation
fill-requires-clause-mutation g c = c.in-Ok.ensures.mutation

pub fill-requires-clause-fits : goal.fill-requires-clause-fits
fill-requires-clause-fits g c =
    read-fits c.args.self.now.folder.schema c.in-Ok.read c.args.self.now.folder.infos c.args.key.now c.in-Ok.ensures.mutation (λ read changes is join. c.a_join_says_what_the_writes_say.ensures read changes is join) (λ schema read changes is same fits. c.what_says_the_same_fits.ensures schema read changes is same fits) c.in-Ok.ensures.some

pub returns-in-Ok-clause-says : goal.returns-in-Ok-clause-says
returns-in-Ok-clause-says g c = λ m s. let a = c.in-Ok.ensures.said m s.over in c.fill.ensures.says (g.W.Store.files c.args.store.now) m a.0 s a.1 a.2

pub returns-in-Ok-clause-caught : goal.returns-in-Ok-clause-caught
returns-in-Ok-clause-caught g c = c.fill.ensures.caught

pub returns-in-Ok-clause-held : goal.returns-in-Ok-clause-held
returns-in-Ok-clause-held g c = c.fill.ensures.held

pub returns-in-Ok-clause-whole : goal.returns-in-Ok-clause-whole
returns-in-Ok-clause-whole g c = c.fill.ensures.whole

pub returns-in-Ok-clause-keeps : goal.returns-in-Ok-clause-keeps
returns-in-Ok-clause-keeps g c = λ m s. let a = c.in-Ok.ensures.said m s.over in c.fill.ensures.keeps (g.W.Store.files c.args.store.now) m a.0 s a.1 a.2

pub returns-in-Err-clause-keeps : goal.returns-in-Err-clause-keeps
returns-in-Err-clause-keeps g c = λ m s. s

pub returns-in-Ok-clause-beside : goal.returns-in-Ok-clause-beside
returns-in-Ok-clause-beside g c = c.fill.ensures.beside

pub returns-in-Err-clause-beside : goal.returns-in-Err-clause-beside
returns-in-Err-clause-beside g c = used-itself c.args.self.now

pub returns-in-Ok-clause-damaged : goal.returns-in-Ok-clause-damaged
returns-in-Ok-clause-damaged g c = no-damage c.args.self.now.folder.schema c.args.key.now c.args.self.now.folder.infos c.fill.result c.fill.ensures.refused

pub returns-in-Err-clause-damaged : goal.returns-in-Err-clause-damaged
returns-in-Err-clause-damaged g c = c.in-Err.ensures.damaged

pub returns-in-Ok-clause-cause : goal.returns-in-Ok-clause-cause
returns-in-Ok-clause-cause g c = read-cause c.fill.result (g.W.Store.files c.args.store.now) (g.W.Store.faults c.args.store.now) (g.W.Store.faults c.read.new.store) c.in-Ok.ensures.cause c.fill.ensures.refused

pub returns-in-Err-clause-cause : goal.returns-in-Err-clause-cause
returns-in-Err-clause-cause g c = cause-of Mutation Source c.in-Err.error (g.W.Store.files c.args.store.now) (g.W.Store.faults c.args.store.now) (g.W.Store.faults c.read.new.store) c.in-Err.ensures.cause

pub returns-in-Ok-clause-stays : goal.returns-in-Ok-clause-stays
returns-in-Ok-clause-stays g c = unless-ok c.fill.result _ c.fill.ensures.stays c.fill.ensures.refused

pub returns-in-Err-clause-stays : goal.returns-in-Err-clause-stays
returns-in-Err-clause-stays g c = unless-all {T = Source} (Err c.in-Err.error) (AreKnownStill c.args.self.now c.args.self.now) (λ none q. known-itself c.args.self.now q)

pub returns-in-Ok-clause-loses : goal.returns-in-Ok-clause-loses
returns-in-Ok-clause-loses g c = c.fill.ensures.loses

pub returns-in-Err-clause-loses : goal.returns-in-Err-clause-loses
returns-in-Err-clause-loses g c = let m = c.args.self.now.unstored.chains in loses-wider 131072 1 m m (loses-nothing 131072 m)
