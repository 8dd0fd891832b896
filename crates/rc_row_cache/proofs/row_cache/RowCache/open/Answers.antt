use Rattle.std.proofs.Common.{inl, inr, ◌≡◌, ℕ, Some, sym, ap, ◌∙◌, subst, arith}
use Rattle.rc_memory.specs.Memory.{Memory, chain_at}
use Rattle.rc_chain.specs.declared.chains.Snap.{Snap}
use Rattle.rc_entries.specs.Entries.{AreEntries, AreSettled}
use Rattle.rc_entries.specs.Found.{entry_number}
use Rattle.rc_entries.specs.Filling.{IsEntryOpened, MayFill, filled_statics}
use Rattle.rc_snapshots.specs.laws.Seeing.{lost-then}
use Rattle.rc_row_cache.specs.Calls.{IsOpenRefused, IsTakenOf, below_entry}
use Rattle.rc_row_cache.specs.Saying.{CacheSays, with_below}
use Rattle.rc_filler.specs.Crowds.{loses-before}
use Rattle.rc_filler.specs.Stands.{HasCacheSnapshot}
use Rattle.rc_row_cache.specs.laws.Losing.{loses-opened, loses-slots, loses-wider}
use Rattle.rc_row_cache.proofs.Cache.{pins-same}
use Rattle.rc_row_cache.proofs.Entering.{entered-apart, entered-may, entry-here, entry-other, if-some, number-same, on-err, opened-lost, opened-pinned, same-entries, same-settled}
use Rattle.rc_row_cache.proofs.Fills.{pins-then}
use Rattle.rc_row_cache.proofs.Numbered.{none-is-none}
use Rattle.rc_row_cache.proofs.Snapshots.{SnapshotLaws}
use Rattle.rc_row_cache.proofs.Taking.{same-lost}
use Rattle.rc_row_cache.proofs.row_cache.RowCache.open.Goals as goal

pub snapshot_of-requires : goal.snapshot_of-requires
snapshot_of-requires g c = (omega arith, (entry-here c.each_key_is_found.ensures.added c.args.self.now.entries c.open.new.self c.args.key.now c.in-Ok.id c.requires.absent c.in-Ok.ensures.added, (c.in-Ok.ensures.entries, c.in-Ok.ensures.settled c.requires.settled)))

pub returns-in-Ok-clause-may : goal.returns-in-Ok-clause-may
returns-in-Ok-clause-may g c =
    let more = c.one_more_snapshot_keeps_what_is_said.ensures in
    let laws : SnapshotLaws = record { free = more.free; given_at = more.given; others = more.others; chain = more.chain; form = more.form } in
    let here = entry-here c.each_key_is_found.ensures.added c.args.self.now.entries c.open.new.self c.args.key.now c.in-Ok.id c.requires.absent c.in-Ok.ensures.added in
    if-some c.snapshot_of.result (IsTakenOf c.args.key.now c.open.new.self c.open.new.chains c.snapshot_of.new.chains) (λ (s : Snap). MayFill c.snapshot_of.new.chains s.chain s.pin)
    (λ s t. entered-may laws c.in-Ok.id c.args.phase c.args.head.now.pt (filled_statics c.args.head.now.statics) c.args.chains.now c.open.new.chains c.snapshot_of.new.chains c.in-Ok.ensures.opened s (number-same c.in-Ok.id s.chain (sym here ∙ t.entry)) t.taken)
    c.snapshot_of.ensures.taken

pub returns-in-Ok-clause-refused : goal.returns-in-Ok-clause-refused
returns-in-Ok-clause-refused g c =
    on-err c.snapshot_of.result (c.snapshot_of.new.chains ≡ c.open.new.chains) (IsOpenRefused c.args.head.now.pt c.args.head.now.statics c.args.phase c.args.chains.now c.snapshot_of.new.chains)
    (λ same. inr (c.in-Ok.id, subst (IsEntryOpened c.in-Ok.id c.args.head.now.pt (filled_statics c.args.head.now.statics) c.args.phase c.args.chains.now) (sym same) c.in-Ok.ensures.opened)) c.snapshot_of.ensures.err

pub returns-in-Err-clause-refused : goal.returns-in-Err-clause-refused
returns-in-Err-clause-refused g c = inl c.in-Err.ensures.err

pub returns-in-Ok-clause-others : goal.returns-in-Ok-clause-others
returns-in-Ok-clause-others g c = entry-other c.each_key_is_found.ensures.added c.args.self.now.entries c.open.new.self c.args.key.now c.in-Ok.id c.requires.absent c.in-Ok.ensures.added

pub returns-in-Ok-clause-says : goal.returns-in-Ok-clause-says
returns-in-Ok-clause-says g c = λ schema below writes fit head row says.
    subst (λ o. CacheSays schema (below_entry o writes below) c.snapshot_of.new.chains) (sym (entry-here c.each_key_is_found.ensures.added c.args.self.now.entries c.open.new.self c.args.key.now c.in-Ok.id c.requires.absent c.in-Ok.ensures.added))
    (c.snapshot_of.ensures.says schema (with_below c.in-Ok.id writes below)
    (c.the_cache_says_what_lies_below.ensures.opened schema below c.in-Ok.id c.args.phase c.args.head.now.pt (filled_statics c.args.head.now.statics) writes c.args.chains.now c.open.new.chains c.in-Ok.ensures.opened fit (sym head) (ap filled_statics (sym row)) says))

pub returns-in-Ok-clause-pins : goal.returns-in-Ok-clause-pins
returns-in-Ok-clause-pins g c = λ below id pin. pins-then below id pin c.args.chains.now c.open.new.chains c.snapshot_of.new.chains
    (opened-pinned c.in-Ok.id c.args.phase c.args.head.now.pt (filled_statics c.args.head.now.statics) c.args.chains.now c.open.new.chains c.in-Ok.ensures.opened below id pin) (c.snapshot_of.ensures.pins below id pin)

pub returns-in-Ok-clause-seen : goal.returns-in-Ok-clause-seen
returns-in-Ok-clause-seen g c = lost-then c.args.chains.now c.open.new.chains c.snapshot_of.new.chains
    (opened-lost c.in-Ok.id c.args.phase c.args.head.now.pt (filled_statics c.args.head.now.statics) c.args.chains.now c.open.new.chains c.in-Ok.ensures.opened) c.snapshot_of.ensures.seen

pub returns-in-Err-clause-entries : goal.returns-in-Err-clause-entries
returns-in-Err-clause-entries g c = subst (λ es. AreEntries es c.open.new.chains) (sym c.in-Err.ensures.same)
    (same-entries c.args.self.now.entries c.args.chains.now c.open.new.chains (ap (λ (m : Memory). m.chains) c.in-Err.ensures.err.same) (ap (λ (m : Memory). m.dropped) c.in-Err.ensures.err.same) c.requires.entries)

pub returns-in-Err-clause-settled : goal.returns-in-Err-clause-settled
returns-in-Err-clause-settled g c = subst (λ es. AreSettled es c.open.new.chains) (sym c.in-Err.ensures.same)
    (same-settled c.args.self.now.entries c.args.chains.now c.open.new.chains (ap (λ (m : Memory). m.chains) c.in-Err.ensures.err.same) (ap (λ (m : Memory). m.dropped) c.in-Err.ensures.err.same) c.requires.settled)

pub returns-in-Err-clause-says : goal.returns-in-Err-clause-says
returns-in-Err-clause-says g c = λ schema below writes fit head row says.
    subst (λ o. CacheSays schema (below_entry o writes below) c.open.new.chains) (sym (ap (λ es. entry_number es c.args.key.now) c.in-Err.ensures.same ∙ c.requires.absent))
    (c.the_cache_says_what_lies_below.ensures.same schema below c.args.chains.now c.open.new.chains (ap (λ (m : Memory). m.chains) c.in-Err.ensures.err.same) says)

pub returns-in-Err-clause-pins : goal.returns-in-Err-clause-pins
returns-in-Err-clause-pins g c = λ below id pin. pins-same below id pin c.args.chains.now c.open.new.chains (λ k kind there. ap (λ (m : Memory). chain_at m id) c.in-Err.ensures.err.same ∙ there)

pub returns-in-Err-clause-seen : goal.returns-in-Err-clause-seen
returns-in-Err-clause-seen g c = same-lost c.args.chains.now c.open.new.chains (λ id. ap (λ (m : Memory). chain_at m id) c.in-Err.ensures.err.same)

pub returns-in-Ok-clause-loses : goal.returns-in-Ok-clause-loses
returns-in-Ok-clause-loses g c = loses-before g.row.S 1 c.args.chains.now c.open.new.chains c.snapshot_of.new.chains
    (loses-opened g.row.S c.in-Ok.id c.args.head.now.pt (filled_statics c.args.head.now.statics) c.args.phase c.args.chains.now c.open.new.chains c.known.ensures.live c.known-in-Ok.ensures.live c.in-Ok.ensures.opened) c.snapshot_of.ensures.loses

pub returns-in-Err-clause-loses : goal.returns-in-Err-clause-loses
returns-in-Err-clause-loses g c = loses-wider g.row.S 1 c.args.chains.now c.open.new.chains (loses-slots g.row.S c.args.chains.now c.open.new.chains c.in-Err.ensures.err)

-- ---- no snapshot was there of the chain that came to be

pub returns-in-Ok-clause-apart : goal.returns-in-Ok-clause-apart
returns-in-Ok-clause-apart g c =
    on-err c.snapshot_of.result (c.snapshot_of.new.chains ≡ c.open.new.chains) ((id pin : ℕ) → entry_number c.open.new.self c.args.key.now ≡ Some id → HasCacheSnapshot c.args.chains.now id pin → ⊥)
    (λ same. entered-apart c.in-Ok.id c.args.phase c.args.head.now.pt (filled_statics c.args.head.now.statics) c.args.chains.now c.open.new.chains c.in-Ok.ensures.opened (entry_number c.open.new.self c.args.key.now)
    (entry-here c.each_key_is_found.ensures.added c.args.self.now.entries c.open.new.self c.args.key.now c.in-Ok.id c.requires.absent c.in-Ok.ensures.added))
    c.snapshot_of.ensures.err

pub returns-in-Err-clause-apart : goal.returns-in-Err-clause-apart
returns-in-Err-clause-apart g c = λ id pin e h. none-is-none id (sym (ap (λ es. entry_number es c.args.key.now) c.in-Err.ensures.same ∙ c.requires.absent) ∙ e)
