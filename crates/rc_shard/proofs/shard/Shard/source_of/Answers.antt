-- The cache knows the partition, or it is read.
use Rattle.std.proofs.Common.{inl, inr, ◌+◌, ◌*◌, ◌≤◌, Option, None, refl, ap, ◌∙◌, subst}
use Rattle.std.specs.Prelude.{IfErr, IfOk, IfSome, IsSome, Ok}
use Rattle.rc_tables.specs.Tables.{IsDamageOf, listing}
use Rattle.rc_folder.specs.Tabled.{Tabled}
use Rattle.rc_lookup.specs.Crowds.{loses-after}
use Rattle.rc_lookup.specs.Losing.{loses-wider}
use Rattle.rc_lookup.specs.Known.{KnowsStaticRow}
use Rattle.rc_shard.specs.Knowing.{AreEndsRecent, IsStaticCached}
use Rattle.rc_chain.specs.declared.chains.Snap.{Snap}
use Rattle.rc_shard.specs.Readers.{number_of_snaps}
use Rattle.rc_shard.proofs.Standing.{if-ok-weaker, taken-as}
use Rattle.rc_shard.specs.calls.Looking.{AreKnownStill, IsCacheUsed, IsEntrySnapshot, snap_taken, source_taken}
use Rattle.rc_shard.proofs.Known.{known-then, unless-weaker}
use Rattle.rc_shard.proofs.Looking.{lost-within, no-count, none-some, on-ok, on-ok-weaker, rest-of, skipped-within, used-then}
use Rattle.rc_shard.proofs.shard.Shard.source_of.Goals as goal

pub read_tables-requires : goal.read_tables-requires
read_tables-requires g c = (c.requires.0, taken-as (ap (λ r. number_of_snaps (snap_taken r)) (c.in-Ok-None.is ∙ ap Ok c.in-Ok-None.field-0-is)) (c.look_up.ensures.keeps (g.W.Store.files c.args.store.now) c.requires.0 c.requires.1))

pub returns-in-Ok-Some-clause-says : goal.returns-in-Ok-Some-clause-says
returns-in-Ok-Some-clause-says g c = λ m s. subst (λ r. IfOk r (λ o. IfSome o (IsEntrySnapshot c.look_up.new.self c.args.key.now))) (c.in-Ok-Some.is ∙ ap Ok c.in-Ok-Some.field-0-is) (c.look_up.ensures.says (g.W.Store.files c.args.store.now) m s)

pub returns-in-Ok-None-clause-says : goal.returns-in-Ok-None-clause-says
returns-in-Ok-None-clause-says g c = λ m s. c.read_tables.ensures.says m (taken-as (ap (λ r. number_of_snaps (snap_taken r)) (c.in-Ok-None.is ∙ ap Ok c.in-Ok-None.field-0-is)) (c.look_up.ensures.keeps (g.W.Store.files c.args.store.now) m s))

pub returns-in-Ok-None-clause-known : goal.returns-in-Ok-None-clause-known
returns-in-Ok-None-clause-known g c = λ on. absurd (none-some None refl (subst (λ r. IfOk r IsSome) (c.in-Ok-None.is ∙ ap Ok c.in-Ok-None.field-0-is) (c.look_up.ensures.known on)))

pub returns-in-Ok-Some-clause-held : goal.returns-in-Ok-Some-clause-held
returns-in-Ok-Some-clause-held g c = λ none. (subst (λ r. IfOk r (λ o. IfSome o (λ (s : Snap). KnowsStaticRow c.look_up.new.self.unstored.chains s × IsStaticCached c.args.self.now c.args.key.now))) (c.in-Ok-Some.is ∙ ap Ok c.in-Ok-Some.field-0-is) c.look_up.ensures.head).0

pub returns-in-Ok-None-clause-caught : goal.returns-in-Ok-None-clause-caught
returns-in-Ok-None-clause-caught g c =
    let old = c.args.self.now.unstored.chains in
    let mid = c.look_up.new.self.unstored.chains in
    let new = c.read_tables.new.self.unstored.chains in
    if-ok-weaker c.read_tables.result _ _ (λ source h none. h (skipped-within old mid new new (rest-of _ old mid c.look_up.ensures.beside.rest).counts (rest-of _ mid new c.read_tables.ensures.beside.rest).counts (no-count new) none)) c.read_tables.ensures.caught

pub returns-in-Ok-None-clause-held : goal.returns-in-Ok-None-clause-held
returns-in-Ok-None-clause-held g c =
    let old = c.args.self.now.unstored.chains in
    let mid = c.look_up.new.self.unstored.chains in
    let new = c.read_tables.new.self.unstored.chains in
    if-ok-weaker c.read_tables.result _ _ (λ source h none. h (lost-within old mid new new (rest-of _ old mid c.look_up.ensures.beside.rest).counts (rest-of _ mid new c.read_tables.ensures.beside.rest).counts (no-count new) none)) c.read_tables.ensures.held

pub returns-in-Ok-Some-clause-whole : goal.returns-in-Ok-Some-clause-whole
returns-in-Ok-Some-clause-whole g c = λ none. inl (subst (λ r. IfOk r (λ o. IfSome o (λ (s : Snap). KnowsStaticRow c.look_up.new.self.unstored.chains s × IsStaticCached c.args.self.now c.args.key.now))) (c.in-Ok-Some.is ∙ ap Ok c.in-Ok-Some.field-0-is) c.look_up.ensures.head).1

pub returns-in-Ok-None-clause-whole : goal.returns-in-Ok-None-clause-whole
returns-in-Ok-None-clause-whole g c =
    let old = c.args.self.now.unstored.chains in
    let mid = c.look_up.new.self.unstored.chains in
    let new = c.read_tables.new.self.unstored.chains in
    on-ok-weaker c.read_tables.result _ _ (λ h none. inr (h (lost-within old mid new new (rest-of _ old mid c.look_up.ensures.beside.rest).counts (rest-of _ mid new c.read_tables.ensures.beside.rest).counts (no-count new) none))) c.read_tables.ensures.whole

pub returns-in-Ok-Some-clause-keeps : goal.returns-in-Ok-Some-clause-keeps
returns-in-Ok-Some-clause-keeps g c = λ m s. taken-as (ap (λ r. number_of_snaps (snap_taken r)) (c.in-Ok-Some.is ∙ ap Ok c.in-Ok-Some.field-0-is)) (c.look_up.ensures.keeps (g.W.Store.files c.args.store.now) m s)

pub returns-in-Ok-None-clause-keeps : goal.returns-in-Ok-None-clause-keeps
returns-in-Ok-None-clause-keeps g c = λ m s. c.read_tables.ensures.keeps m (taken-as (ap (λ r. number_of_snaps (snap_taken r)) (c.in-Ok-None.is ∙ ap Ok c.in-Ok-None.field-0-is)) (c.look_up.ensures.keeps (g.W.Store.files c.args.store.now) m s))

pub returns-in-Err-clause-keeps : goal.returns-in-Err-clause-keeps
returns-in-Err-clause-keeps g c = λ m s. taken-as (ap (λ r. number_of_snaps (snap_taken r)) c.in-Err.is) (c.look_up.ensures.keeps (g.W.Store.files c.args.store.now) m s)

pub returns-in-Ok-None-clause-beside : goal.returns-in-Ok-None-clause-beside
returns-in-Ok-None-clause-beside g c = used-then (source_taken c.read_tables.result) c.args.self.now c.look_up.new.self c.read_tables.new.self
    (subst (λ (taken : Option Snap). IsCacheUsed taken c.args.self.now c.look_up.new.self) (ap snap_taken (c.in-Ok-None.is ∙ ap Ok c.in-Ok-None.field-0-is)) c.look_up.ensures.beside) c.read_tables.ensures.beside

pub returns-in-Ok-None-clause-damaged : goal.returns-in-Ok-None-clause-damaged
returns-in-Ok-None-clause-damaged g c = subst (λ (f : Tabled). IfErr c.read_tables.result (IsDamageOf f.schema c.args.key.now f.infos)) c.look_up.ensures.beside.folder c.read_tables.ensures.damaged

pub returns-in-Ok-None-clause-asks : goal.returns-in-Ok-None-clause-asks
returns-in-Ok-None-clause-asks g c = subst (λ (f : Tabled). g.W.Store.asks c.read_tables.new.store ≤ g.W.Store.asks c.args.store.now + 2 * listing c.args.key.now f.infos) c.look_up.ensures.beside.folder c.read_tables.ensures.asks

pub returns-in-Ok-Some-clause-stays : goal.returns-in-Ok-Some-clause-stays
returns-in-Ok-Some-clause-stays g c = λ none q. c.look_up.ensures.stays q

pub returns-in-Ok-None-clause-stays : goal.returns-in-Ok-None-clause-stays
returns-in-Ok-None-clause-stays g c =
    let old = c.args.self.now.unstored.chains in
    let mid = c.look_up.new.self.unstored.chains in
    let new = c.read_tables.new.self.unstored.chains in
    unless-weaker c.read_tables.result (AreKnownStill c.look_up.new.self c.read_tables.new.self) (AreKnownStill c.args.self.now c.read_tables.new.self)
    (λ h none q. known-then c.args.self.now c.look_up.new.self c.read_tables.new.self q (c.look_up.ensures.stays q) (h (lost-within old mid new new (rest-of _ old mid c.look_up.ensures.beside.rest).counts (rest-of _ mid new c.read_tables.ensures.beside.rest).counts (no-count new) none) q)) c.read_tables.ensures.stays

pub returns-in-Ok-Some-clause-hit : goal.returns-in-Ok-Some-clause-hit
returns-in-Ok-Some-clause-hit g c = λ on. subst (λ r. IfOk r (λ o. IfSome o (λ _. AreEndsRecent c.args.key.now c.args.self.now c.look_up.new.self))) (c.in-Ok-Some.is ∙ ap Ok c.in-Ok-Some.field-0-is) c.look_up.ensures.hit

pub returns-in-Ok-None-clause-hit : goal.returns-in-Ok-None-clause-hit
returns-in-Ok-None-clause-hit g c = on-ok c.read_tables.result _ (λ on. absurd (none-some None refl (subst (λ r. IfOk r IsSome) (c.in-Ok-None.is ∙ ap Ok c.in-Ok-None.field-0-is) (c.look_up.ensures.known on))))

pub returns-in-Ok-Some-clause-loses : goal.returns-in-Ok-Some-clause-loses
returns-in-Ok-Some-clause-loses g c = loses-wider 131072 1 c.args.self.now.unstored.chains c.look_up.new.self.unstored.chains c.look_up.ensures.loses

pub returns-in-Ok-None-clause-loses : goal.returns-in-Ok-None-clause-loses
returns-in-Ok-None-clause-loses g c = loses-after 131072 1 c.args.self.now.unstored.chains c.look_up.new.self.unstored.chains c.read_tables.new.self.unstored.chains c.look_up.ensures.loses c.read_tables.ensures.loses

pub returns-in-Err-clause-loses : goal.returns-in-Err-clause-loses
returns-in-Err-clause-loses g c = loses-wider 131072 1 c.args.self.now.unstored.chains c.look_up.new.self.unstored.chains c.look_up.ensures.loses

pub returns-in-Ok-Some-clause-beside : goal.returns-in-Ok-Some-clause-beside
returns-in-Ok-Some-clause-beside g c = subst (λ (taken : Option Snap). IsCacheUsed taken c.args.self.now c.look_up.new.self) (ap snap_taken (c.in-Ok-Some.is ∙ ap Ok c.in-Ok-Some.field-0-is)) c.look_up.ensures.beside

pub returns-in-Err-clause-beside : goal.returns-in-Err-clause-beside
returns-in-Err-clause-beside g c = subst (λ (taken : Option Snap). IsCacheUsed taken c.args.self.now c.look_up.new.self) (ap snap_taken c.in-Err.is) c.look_up.ensures.beside
