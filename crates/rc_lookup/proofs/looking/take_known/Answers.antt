-- The snapshot that was taken stays, where all is known to it, and is taken back where something is not.
use Rattle.std.proofs.Common.{inl, inr, ◌≡◌, ℕ, List, [], Option, None, Some, sym, ap, ◌∙◌, subst, arith}
use Rattle.std.specs.Prelude.{IfNone, IfOk, IfSome, IsSomeAnd, Ok, OnErr}
use Rattle.rc_schema.specs.SchemaValue.{SchemaValue}
use Rattle.rc_memory.specs.Memory.{KeptChain, Member, Memory, chain_at, with_dropped}
use Rattle.rc_chain.specs.declared.chains.Snap.{Snap}
use Rattle.rc_cached.specs.Filling.{MayFill}
use Rattle.rc_row_cache.specs.Calls.{IsTakenOf}
use Rattle.rc_row_cache.specs.Crowding.{LosesWhereCrowded}
use Rattle.rc_row_cache.specs.Entries.{AreEntries}
use Rattle.rc_row_cache.specs.Found.{entry_number}
use Rattle.rc_row_cache.specs.Saying.{Below, CacheSays}
use Rattle.rc_lookup.specs.Held.{IsHeldOf}
use Rattle.rc_lookup.specs.Known.{IsStaticRowIn, KnowsStaticRow}
use Rattle.rc_lookup.specs.Looked.{IsStill, IsUnread}
use Rattle.rc_lookup.specs.Rest.{LeavesBut, LeavesRest}
use Rattle.rc_lookup.specs.Touched.{AreRecent, AreTouched, IsHeadOrEnd}
use Rattle.rc_lookup.specs.calls.Reading.{without_snap}
use Rattle.rc_lookup.specs.calls.Touched.{IsReordered}
use Rattle.rc_lookup.specs.laws.Staying.{still-same}
use Rattle.rc_lookup.proofs.Holding.{HoldLaws, back-rest, held-of, if-held, if-none, is-held, match-held, on-failed, taken-but, taken-still, taken-there}
use Rattle.rc_lookup.proofs.Kept.{chain-known, looked, looked-none, none-there, same-number, snap-known, still, told-still, unread}
use Rattle.rc_lookup.proofs.Losing.{kept-loses, looked-loses, told-loses}
use Rattle.rc_lookup.proofs.Reordered.{entries-reordered, none-unread, rest-reordered, same-reordered, still-moved}
use Rattle.rc_lookup.proofs.Given.{touched-reordered}
use Rattle.rc_lookup.specs.laws.Rest.{but-then, rest-told}
use Rattle.rc_lookup.proofs.Rest.{KeepsPins}
use Rattle.rc_lookup.proofs.Staying.{entry-there, still-reordered}
use Rattle.rc_lookup.proofs.Swept.{KnowsStatics, chain-held}
use Rattle.rc_lookup.proofs.looking.take_known.Goals as goal

pub keep_known-requires : goal.keep_known-requires
keep_known-requires g c =
    let taken : IsTakenOf c.args.key.now c.snapshot.new.self.entries (with_dropped [] c.args.chains.now) c.snapshot.new.chains c.in-Ok-Some.snap = subst (λ r. IfOk r (λ o. IfSome o (λ (x : Snap). IsTakenOf c.args.key.now c.snapshot.new.self.entries (with_dropped [] c.args.chains.now) c.snapshot.new.chains x))) (c.in-Ok-Some.is ∙ ap Ok c.in-Ok-Some.field-0-is) c.snapshot.ensures.taken in
    (omega arith, taken.there.0)

pub returns-in-Ok-Some-clause-known : goal.returns-in-Ok-Some-clause-known
returns-in-Ok-Some-clause-known g c = λ id entry on.
    let s = c.in-Ok-Some.snap in
    let old = c.args.chains.now in
    let mid = c.snapshot.new.chains in
    let taken : IsTakenOf c.args.key.now c.snapshot.new.self.entries (with_dropped [] c.args.chains.now) c.snapshot.new.chains c.in-Ok-Some.snap = subst (λ r. IfOk r (λ o. IfSome o (λ (x : Snap). IsTakenOf c.args.key.now c.snapshot.new.self.entries (with_dropped [] c.args.chains.now) c.snapshot.new.chains x))) (c.in-Ok-Some.is ∙ ap Ok c.in-Ok-Some.field-0-is) c.snapshot.ensures.taken in
    let may : MayFill c.snapshot.new.chains c.in-Ok-Some.snap.chain c.in-Ok-Some.snap.pin = subst (λ r. IfOk r (λ o. IfSome o (λ (x : Snap). (schema : SchemaValue) (below : Below) → CacheSays schema below c.args.chains.now → MayFill c.snapshot.new.chains x.chain x.pin))) (c.in-Ok-Some.is ∙ ap Ok c.in-Ok-Some.field-0-is) c.snapshot.ensures.may c.requires.over.0 c.requires.over.1 c.requires.over.2.says in
    let own : id ≡ s.chain = same-number id s.chain (sym entry ∙ (c.snapshot.ensures.forgotten.left c.args.key.now s.chain taken.entry).0) in
    is-held (KnowsStaticRow mid s) c.keep_known.result c.keep_known.ensures.none (snap-known s (with_dropped [] old) mid taken.taken taken.there.0 KnowsStatics may (subst (IsStaticRowIn old) own on))

pub returns-in-Ok-Some-clause-head : goal.returns-in-Ok-Some-clause-head
returns-in-Ok-Some-clause-head g c =
    let s = c.in-Ok-Some.snap in
    let mid = c.snapshot.new.chains in
    let new = c.keep_known.new.chains in
    let kept : Snap → Type 0 = λ x. (x ≡ s) × KnowsStaticRow mid s × AreTouched (IsHeadOrEnd s.chain) mid new in
    if-held kept (KnowsStaticRow new) c.keep_known.result (λ x k. subst (KnowsStaticRow new) (sym k.0) (subst (λ (m : Memory). KnowsStaticRow m s) (sym k.2.same) k.1)) c.keep_known.ensures.kept

pub returns-in-Ok-Some-clause-was : goal.returns-in-Ok-Some-clause-was
returns-in-Ok-Some-clause-was g c =
    let s = c.in-Ok-Some.snap in
    let old = c.args.chains.now in
    let mid = c.snapshot.new.chains in
    let new = c.keep_known.new.chains in
    let taken : IsTakenOf c.args.key.now c.snapshot.new.self.entries (with_dropped [] c.args.chains.now) c.snapshot.new.chains c.in-Ok-Some.snap = subst (λ r. IfOk r (λ o. IfSome o (λ (x : Snap). IsTakenOf c.args.key.now c.snapshot.new.self.entries (with_dropped [] c.args.chains.now) c.snapshot.new.chains x))) (c.in-Ok-Some.is ∙ ap Ok c.in-Ok-Some.field-0-is) c.snapshot.ensures.taken in
    let may : MayFill c.snapshot.new.chains c.in-Ok-Some.snap.chain c.in-Ok-Some.snap.pin = subst (λ r. IfOk r (λ o. IfSome o (λ (x : Snap). (schema : SchemaValue) (below : Below) → CacheSays schema below c.args.chains.now → MayFill c.snapshot.new.chains x.chain x.pin))) (c.in-Ok-Some.is ∙ ap Ok c.in-Ok-Some.field-0-is) c.snapshot.ensures.may c.requires.over.0 c.requires.over.1 c.requires.over.2.says in
    let kept : Snap → Type 0 = λ x. (x ≡ s) × KnowsStaticRow mid s × AreTouched (IsHeadOrEnd s.chain) mid new in
    let was : entry_number c.args.cache.now.entries c.args.key.now ≡ Some s.chain = (c.snapshot.ensures.forgotten.left c.args.key.now s.chain taken.entry).0 in
    if-held kept (λ x. IsSomeAnd (entry_number c.args.cache.now.entries c.args.key.now) (IsStaticRowIn old)) c.keep_known.result
    (λ x k. subst (λ (o : Option ℕ). IsSomeAnd o (IsStaticRowIn old)) (sym was) (chain-known s (with_dropped [] old) mid taken.taken taken.there.0 KnowsStatics (chain-held KnowsStatics s mid taken.there.0 k.1 may))) c.keep_known.ensures.kept

pub returns-in-Ok-Some-clause-taken : goal.returns-in-Ok-Some-clause-taken
returns-in-Ok-Some-clause-taken g c =
    let s = c.in-Ok-Some.snap in
    let old = c.args.chains.now in
    let mid = c.snapshot.new.chains in
    let new = c.keep_known.new.chains in
    let taken : IsTakenOf c.args.key.now c.snapshot.new.self.entries (with_dropped [] c.args.chains.now) c.snapshot.new.chains c.in-Ok-Some.snap = subst (λ r. IfOk r (λ o. IfSome o (λ (x : Snap). IsTakenOf c.args.key.now c.snapshot.new.self.entries (with_dropped [] c.args.chains.now) c.snapshot.new.chains x))) (c.in-Ok-Some.is ∙ ap Ok c.in-Ok-Some.field-0-is) c.snapshot.ensures.taken in
    let kept : Snap → Type 0 = λ x. (x ≡ s) × KnowsStaticRow mid s × AreTouched (IsHeadOrEnd s.chain) mid new in
    let es = c.snapshot.new.self.entries in
    if-held kept (IsHeldOf c.args.key.now es old new) c.keep_known.result
    (λ x k. subst (IsHeldOf c.args.key.now es old new) (sym k.0) (held-of s old mid taken.taken taken.there.0 c.args.key.now es new taken.entry taken.fresh (touched-reordered (IsHeadOrEnd s.chain) mid new k.2))) c.keep_known.ensures.kept

pub returns-in-Ok-Some-clause-left : goal.returns-in-Ok-Some-clause-left
returns-in-Ok-Some-clause-left g c =
    let s = c.in-Ok-Some.snap in
    let old = c.args.chains.now in
    let mid = c.snapshot.new.chains in
    let new = c.keep_known.new.chains in
    let taken : IsTakenOf c.args.key.now c.snapshot.new.self.entries (with_dropped [] c.args.chains.now) c.snapshot.new.chains c.in-Ok-Some.snap = subst (λ r. IfOk r (λ o. IfSome o (λ (x : Snap). IsTakenOf c.args.key.now c.snapshot.new.self.entries (with_dropped [] c.args.chains.now) c.snapshot.new.chains x))) (c.in-Ok-Some.is ∙ ap Ok c.in-Ok-Some.field-0-is) c.snapshot.ensures.taken in
    elim c.keep_known.ensures.left [
      | inl moved ↦ still-moved mid new moved old (taken-still s old mid taken.taken taken.there.0)
      | inr back ↦ subst (IsStill old) (sym back) (told-still old (without_snap s mid) (looked s (with_dropped [] old) mid taken.taken taken.there.0).still)
    ]

pub returns-in-Ok-Some-clause-loses : goal.returns-in-Ok-Some-clause-loses
returns-in-Ok-Some-clause-loses g c =
    let s = c.in-Ok-Some.snap in
    let old = c.args.chains.now in
    let mid = c.snapshot.new.chains in
    let new = c.keep_known.new.chains in
    let taken : IsTakenOf c.args.key.now c.snapshot.new.self.entries (with_dropped [] c.args.chains.now) c.snapshot.new.chains c.in-Ok-Some.snap = subst (λ r. IfOk r (λ o. IfSome o (λ (x : Snap). IsTakenOf c.args.key.now c.snapshot.new.self.entries (with_dropped [] c.args.chains.now) c.snapshot.new.chains x))) (c.in-Ok-Some.is ∙ ap Ok c.in-Ok-Some.field-0-is) c.snapshot.ensures.taken in
    elim c.keep_known.ensures.left [
      | inl moved ↦ kept-loses g.row.S old mid new s taken.taken moved
      | inr back ↦ looked-loses g.row.S old mid new s taken.taken (subst (IsReordered (without_snap s mid)) (sym back) (same-reordered (without_snap s mid)))
    ]

pub returns-in-Ok-Some-clause-stays : goal.returns-in-Ok-Some-clause-stays
returns-in-Ok-Some-clause-stays g c = λ q id e on.
    let s = c.in-Ok-Some.snap in
    let old = c.args.chains.now in
    let mid = c.snapshot.new.chains in
    let new = c.keep_known.new.chains in
    let taken : IsTakenOf c.args.key.now c.snapshot.new.self.entries (with_dropped [] c.args.chains.now) c.snapshot.new.chains c.in-Ok-Some.snap = subst (λ r. IfOk r (λ o. IfSome o (λ (x : Snap). IsTakenOf c.args.key.now c.snapshot.new.self.entries (with_dropped [] c.args.chains.now) c.snapshot.new.chains x))) (c.in-Ok-Some.is ∙ ap Ok c.in-Ok-Some.field-0-is) c.snapshot.ensures.taken in (
      c.snapshot.ensures.forgotten.stays q id e (entry-there old id c.known.ensures.told on),
      elim c.keep_known.ensures.left [
        | inl moved ↦ still-reordered old mid new moved id (taken-there s old mid taken.taken taken.there.0 id)
        | inr back ↦ still-reordered old (without_snap s mid) new (subst (IsReordered (without_snap s mid)) (sym back) (same-reordered (without_snap s mid))) id (still s (with_dropped [] old) mid taken.taken taken.there.0 id)
      ],
    )

pub returns-in-Ok-Some-clause-hit : goal.returns-in-Ok-Some-clause-hit
returns-in-Ok-Some-clause-hit g c =
    let s = c.in-Ok-Some.snap in
    let old = c.args.chains.now in
    let mid = c.snapshot.new.chains in
    let new = c.keep_known.new.chains in
    let taken : IsTakenOf c.args.key.now c.snapshot.new.self.entries (with_dropped [] c.args.chains.now) c.snapshot.new.chains c.in-Ok-Some.snap = subst (λ r. IfOk r (λ o. IfSome o (λ (x : Snap). IsTakenOf c.args.key.now c.snapshot.new.self.entries (with_dropped [] c.args.chains.now) c.snapshot.new.chains x))) (c.in-Ok-Some.is ∙ ap Ok c.in-Ok-Some.field-0-is) c.snapshot.ensures.taken in
    let kept : Snap → Type 0 = λ x. (x ≡ s) × KnowsStaticRow mid s × AreTouched (IsHeadOrEnd s.chain) mid new in
    let list : mid.recency ≡ old.recency = ap (λ (m : Memory). m.recency) taken.taken.now in
    if-held kept (λ x. IsSomeAnd (entry_number c.snapshot.new.self.entries c.args.key.now) (λ id. AreRecent (IsHeadOrEnd id) old.recency new.recency)) c.keep_known.result
    (λ x k. subst (λ (o : Option ℕ). IsSomeAnd o (λ id. AreRecent (IsHeadOrEnd id) old.recency new.recency)) (sym taken.entry) (subst (λ (l : List Member). AreRecent (IsHeadOrEnd s.chain) l new.recency) list k.2.recency)) c.keep_known.ensures.kept

pub returns-in-Ok-Some-clause-missed : goal.returns-in-Ok-Some-clause-missed
returns-in-Ok-Some-clause-missed g c =
    let s = c.in-Ok-Some.snap in
    let old = c.args.chains.now in
    let mid = c.snapshot.new.chains in
    let new = c.keep_known.new.chains in
    let taken : IsTakenOf c.args.key.now c.snapshot.new.self.entries (with_dropped [] c.args.chains.now) c.snapshot.new.chains c.in-Ok-Some.snap = subst (λ r. IfOk r (λ o. IfSome o (λ (x : Snap). IsTakenOf c.args.key.now c.snapshot.new.self.entries (with_dropped [] c.args.chains.now) c.snapshot.new.chains x))) (c.in-Ok-Some.is ∙ ap Ok c.in-Ok-Some.field-0-is) c.snapshot.ensures.taken in
    let u = unread s (with_dropped [] old) mid taken.taken taken.there.0 in
    if-none (new ≡ without_snap s mid) (IsUnread old new) c.keep_known.result (none-unread old (without_snap s mid) new (record { region = u.region; recency = u.recency })) c.keep_known.ensures.missed

pub returns-in-Ok-Some-clause-err : goal.returns-in-Ok-Some-clause-err
returns-in-Ok-Some-clause-err g c =
    let s = c.in-Ok-Some.snap in
    let old = c.args.chains.now in
    let mid = c.snapshot.new.chains in
    let new = c.keep_known.new.chains in
    let taken : IsTakenOf c.args.key.now c.snapshot.new.self.entries (with_dropped [] c.args.chains.now) c.snapshot.new.chains c.in-Ok-Some.snap = subst (λ r. IfOk r (λ o. IfSome o (λ (x : Snap). IsTakenOf c.args.key.now c.snapshot.new.self.entries (with_dropped [] c.args.chains.now) c.snapshot.new.chains x))) (c.in-Ok-Some.is ∙ ap Ok c.in-Ok-Some.field-0-is) c.snapshot.ensures.taken in
    let u = unread s (with_dropped [] old) mid taken.taken taken.there.0 in
    on-failed (new ≡ without_snap s mid) (IsUnread old new) c.keep_known.result (none-unread old (without_snap s mid) new (record { region = u.region; recency = u.recency })) c.keep_known.ensures.err

pub returns-in-Ok-Some-clause-rest : goal.returns-in-Ok-Some-clause-rest
returns-in-Ok-Some-clause-rest g c =
    let s = c.in-Ok-Some.snap in
    let old = c.args.chains.now in
    let mid = c.snapshot.new.chains in
    let new = c.keep_known.new.chains in
    let taken : IsTakenOf c.args.key.now c.snapshot.new.self.entries (with_dropped [] c.args.chains.now) c.snapshot.new.chains c.in-Ok-Some.snap = subst (λ r. IfOk r (λ o. IfSome o (λ (x : Snap). IsTakenOf c.args.key.now c.snapshot.new.self.entries (with_dropped [] c.args.chains.now) c.snapshot.new.chains x))) (c.in-Ok-Some.is ∙ ap Ok c.in-Ok-Some.field-0-is) c.snapshot.ensures.taken in
    let kept : Snap → Type 0 = λ x. (x ≡ s) × KnowsStaticRow mid s × AreTouched (IsHeadOrEnd s.chain) mid new in
    let laws : HoldLaws = record {
      bytes_taken = c.what_calls_leave_of_memtables.ensures.taken;
      bytes_back = c.what_calls_leave_of_memtables.ensures.back;
      one_taken = c.each_chain_of_the_cache_has_one_version.ensures.taken;
      one_back = c.each_chain_of_the_cache_has_one_version.ensures.back;
      used_taken = c.chains_of_the_cache_stay_in_use.ensures.taken;
      held_back = λ x m id pin apart h. (c.each_snapshot_pins_what_it_pinned.ensures.released (λ _. []) id pin x.chain x.pin m apart h).0;
      snapshots_taken = c.what_calls_leave_of_snapshots.ensures.taken;
      one_less = c.what_calls_leave_of_snapshots.ensures.one_less;
    } in
    let pins : KeepsPins old mid = λ id pin h. (c.snapshot.ensures.pins (λ _. []) id pin h).0 in
    match-held kept (λ x. LeavesBut x old new) (new ≡ without_snap s mid) (LeavesRest old new) c.keep_known.result
    (λ x k. subst (λ (y : Snap). LeavesBut y old new) (sym k.0) (but-then s old mid new (taken-but s old mid taken.taken taken.there.0 laws pins c.snapshot.ensures.seen) (rest-reordered mid new (touched-reordered (IsHeadOrEnd s.chain) mid new k.2))))
    (λ back. subst (LeavesRest old) (sym back) (back-rest s old mid taken.taken taken.there.0 laws pins taken.fresh)) c.keep_known.ensures.kept c.keep_known.ensures.missed

pub returns-in-Ok-Some-clause-rest_err : goal.returns-in-Ok-Some-clause-rest_err
returns-in-Ok-Some-clause-rest_err g c =
    let s = c.in-Ok-Some.snap in
    let old = c.args.chains.now in
    let mid = c.snapshot.new.chains in
    let new = c.keep_known.new.chains in
    let taken : IsTakenOf c.args.key.now c.snapshot.new.self.entries (with_dropped [] c.args.chains.now) c.snapshot.new.chains c.in-Ok-Some.snap = subst (λ r. IfOk r (λ o. IfSome o (λ (x : Snap). IsTakenOf c.args.key.now c.snapshot.new.self.entries (with_dropped [] c.args.chains.now) c.snapshot.new.chains x))) (c.in-Ok-Some.is ∙ ap Ok c.in-Ok-Some.field-0-is) c.snapshot.ensures.taken in
    let laws : HoldLaws = record {
      bytes_taken = c.what_calls_leave_of_memtables.ensures.taken;
      bytes_back = c.what_calls_leave_of_memtables.ensures.back;
      one_taken = c.each_chain_of_the_cache_has_one_version.ensures.taken;
      one_back = c.each_chain_of_the_cache_has_one_version.ensures.back;
      used_taken = c.chains_of_the_cache_stay_in_use.ensures.taken;
      held_back = λ x m id pin apart h. (c.each_snapshot_pins_what_it_pinned.ensures.released (λ _. []) id pin x.chain x.pin m apart h).0;
      snapshots_taken = c.what_calls_leave_of_snapshots.ensures.taken;
      one_less = c.what_calls_leave_of_snapshots.ensures.one_less;
    } in
    let pins : KeepsPins old mid = λ id pin h. (c.snapshot.ensures.pins (λ _. []) id pin h).0 in
    on-failed (new ≡ without_snap s mid) (LeavesRest old new) c.keep_known.result
    (λ back. subst (LeavesRest old) (sym back) (back-rest s old mid taken.taken taken.there.0 laws pins taken.fresh)) c.keep_known.ensures.err

pub returns-in-Ok-Some-clause-says : goal.returns-in-Ok-Some-clause-says
returns-in-Ok-Some-clause-says g c = λ schema below says.
    let s = c.in-Ok-Some.snap in
    let old = c.args.chains.now in
    let mid = c.snapshot.new.chains in
    let new = c.keep_known.new.chains in
    let taken : IsTakenOf c.args.key.now c.snapshot.new.self.entries (with_dropped [] c.args.chains.now) c.snapshot.new.chains c.in-Ok-Some.snap = subst (λ r. IfOk r (λ o. IfSome o (λ (x : Snap). IsTakenOf c.args.key.now c.snapshot.new.self.entries (with_dropped [] c.args.chains.now) c.snapshot.new.chains x))) (c.in-Ok-Some.is ∙ ap Ok c.in-Ok-Some.field-0-is) c.snapshot.ensures.taken in
    let mid_says = c.snapshot.ensures.says schema below says in
    elim c.keep_known.ensures.left [
      | inl moved ↦ subst (CacheSays schema below) (sym moved.same) mid_says
      | inr back ↦ subst (CacheSays schema below) (sym back) (c.the_cache_says_what_lies_below.ensures.released schema below s.chain s.pin mid mid_says)
    ]

pub returns-in-Ok-Some-clause-entries : goal.returns-in-Ok-Some-clause-entries
returns-in-Ok-Some-clause-entries g c =
    let s = c.in-Ok-Some.snap in
    let old = c.args.chains.now in
    let mid = c.snapshot.new.chains in
    let new = c.keep_known.new.chains in
    let taken : IsTakenOf c.args.key.now c.snapshot.new.self.entries (with_dropped [] c.args.chains.now) c.snapshot.new.chains c.in-Ok-Some.snap = subst (λ r. IfOk r (λ o. IfSome o (λ (x : Snap). IsTakenOf c.args.key.now c.snapshot.new.self.entries (with_dropped [] c.args.chains.now) c.snapshot.new.chains x))) (c.in-Ok-Some.is ∙ ap Ok c.in-Ok-Some.field-0-is) c.snapshot.ensures.taken in
    let es = c.snapshot.new.self.entries in
    elim c.keep_known.ensures.left [
      | inl moved ↦ entries-reordered mid new moved es c.snapshot.ensures.entries
      | inr back ↦ subst (AreEntries es) (sym back) (c.what_leaves_the_caches_chains_leaves_the_entries.ensures.entries es mid (without_snap s mid) (c.each_change_leaves_the_caches_chains.ensures.released s.chain s.pin mid) c.snapshot.ensures.entries)
    ]

pub returns-in-Ok-None-clause-known : goal.returns-in-Ok-None-clause-known
returns-in-Ok-None-clause-known g c = λ id entry whole.
    let old = c.args.chains.now in
    let absent = subst (λ r. IfOk r (λ o. IfNone o ((entry_number c.snapshot.new.self.entries c.args.key.now ≡ None) × (c.snapshot.new.chains ≡ with_dropped [] c.args.chains.now)))) (c.in-Ok-None.is ∙ ap Ok c.in-Ok-None.field-0-is) c.snapshot.ensures.absent in
    let stays = c.snapshot.ensures.forgotten.stays c.args.key.now id entry (λ told. subst (λ (o : Option KeptChain). IsSomeAnd o (λ q. KnowsStatics q.chain.kind q.chain.versions)) (c.known.ensures.told id told) whole) in
    absurd (none-there id (sym absent.0 ∙ stays))

pub returns-in-Ok-None-clause-left : goal.returns-in-Ok-None-clause-left
returns-in-Ok-None-clause-left g c =
    let old = c.args.chains.now in
    let absent = subst (λ r. IfOk r (λ o. IfNone o ((entry_number c.snapshot.new.self.entries c.args.key.now ≡ None) × (c.snapshot.new.chains ≡ with_dropped [] c.args.chains.now)))) (c.in-Ok-None.is ∙ ap Ok c.in-Ok-None.field-0-is) c.snapshot.ensures.absent in
    subst (IsStill old) (sym absent.1) (told-still old (with_dropped [] old) (looked-none (with_dropped [] old)).still)

pub returns-in-Ok-None-clause-missed : goal.returns-in-Ok-None-clause-missed
returns-in-Ok-None-clause-missed g c =
    let old = c.args.chains.now in
    let absent = subst (λ r. IfOk r (λ o. IfNone o ((entry_number c.snapshot.new.self.entries c.args.key.now ≡ None) × (c.snapshot.new.chains ≡ with_dropped [] c.args.chains.now)))) (c.in-Ok-None.is ∙ ap Ok c.in-Ok-None.field-0-is) c.snapshot.ensures.absent in
    record { region = ap (λ (m : Memory). m.region) absent.1; recency = ap (λ (m : Memory). m.recency) absent.1 }

pub returns-in-Ok-None-clause-stays : goal.returns-in-Ok-None-clause-stays
returns-in-Ok-None-clause-stays g c = λ q id e on.
    let old = c.args.chains.now in
    let absent = subst (λ r. IfOk r (λ o. IfNone o ((entry_number c.snapshot.new.self.entries c.args.key.now ≡ None) × (c.snapshot.new.chains ≡ with_dropped [] c.args.chains.now)))) (c.in-Ok-None.is ∙ ap Ok c.in-Ok-None.field-0-is) c.snapshot.ensures.absent in
    (c.snapshot.ensures.forgotten.stays q id e (entry-there old id c.known.ensures.told on), still-same old c.snapshot.new.chains id (ap (λ (m : Memory). chain_at m id) absent.1))

pub returns-in-Ok-None-clause-loses : goal.returns-in-Ok-None-clause-loses
returns-in-Ok-None-clause-loses g c =
    let old = c.args.chains.now in
    let absent = subst (λ r. IfOk r (λ o. IfNone o ((entry_number c.snapshot.new.self.entries c.args.key.now ≡ None) × (c.snapshot.new.chains ≡ with_dropped [] c.args.chains.now)))) (c.in-Ok-None.is ∙ ap Ok c.in-Ok-None.field-0-is) c.snapshot.ensures.absent in
    subst (LosesWhereCrowded g.row.S 0 old) (sym absent.1) (told-loses g.row.S old)

pub returns-in-Ok-None-clause-rest : goal.returns-in-Ok-None-clause-rest
returns-in-Ok-None-clause-rest g c =
    let old = c.args.chains.now in
    let absent = subst (λ r. IfOk r (λ o. IfNone o ((entry_number c.snapshot.new.self.entries c.args.key.now ≡ None) × (c.snapshot.new.chains ≡ with_dropped [] c.args.chains.now)))) (c.in-Ok-None.is ∙ ap Ok c.in-Ok-None.field-0-is) c.snapshot.ensures.absent in
    subst (LeavesRest old) (sym absent.1) (rest-told [] old)

pub returns-in-Err-clause-left : goal.returns-in-Err-clause-left
returns-in-Err-clause-left g c =
    let old = c.args.chains.now in
    let same = subst (λ r. OnErr r (c.snapshot.new.chains ≡ with_dropped [] c.args.chains.now)) c.in-Err.is c.snapshot.ensures.err in
    subst (IsStill old) (sym same) (told-still old (with_dropped [] old) (looked-none (with_dropped [] old)).still)

pub returns-in-Err-clause-err : goal.returns-in-Err-clause-err
returns-in-Err-clause-err g c =
    let old = c.args.chains.now in
    let same = subst (λ r. OnErr r (c.snapshot.new.chains ≡ with_dropped [] c.args.chains.now)) c.in-Err.is c.snapshot.ensures.err in
    record { region = ap (λ (m : Memory). m.region) same; recency = ap (λ (m : Memory). m.recency) same }

pub returns-in-Err-clause-stays : goal.returns-in-Err-clause-stays
returns-in-Err-clause-stays g c = λ q id e on.
    let old = c.args.chains.now in
    let same = subst (λ r. OnErr r (c.snapshot.new.chains ≡ with_dropped [] c.args.chains.now)) c.in-Err.is c.snapshot.ensures.err in
    (c.snapshot.ensures.forgotten.stays q id e (entry-there old id c.known.ensures.told on), still-same old c.snapshot.new.chains id (ap (λ (m : Memory). chain_at m id) same))

pub returns-in-Err-clause-loses : goal.returns-in-Err-clause-loses
returns-in-Err-clause-loses g c =
    let old = c.args.chains.now in
    let same = subst (λ r. OnErr r (c.snapshot.new.chains ≡ with_dropped [] c.args.chains.now)) c.in-Err.is c.snapshot.ensures.err in
    subst (LosesWhereCrowded g.row.S 0 old) (sym same) (told-loses g.row.S old)

pub returns-in-Err-clause-rest_err : goal.returns-in-Err-clause-rest_err
returns-in-Err-clause-rest_err g c =
    let old = c.args.chains.now in
    let same = subst (λ r. OnErr r (c.snapshot.new.chains ≡ with_dropped [] c.args.chains.now)) c.in-Err.is c.snapshot.ensures.err in
    subst (LeavesRest old) (sym same) (rest-told [] old)
