-- As it is opened it stands for the machine as that is opened, and its cache is empty.
use Rattle.std.proofs.Common.{ℕ, List, [], sym, ap, subst, ◌∙◌, arith}
use Rattle.std.specs.Prelude.{IsTrue}
use Rattle.rc_schema.specs.SchemaValue.{SchemaValue, is_schema}
use Rattle.rc_lookup.specs.Writes.{AreSmall}
use Rattle.rc_memory.specs.laws.Places.{no_some}
use Rattle.rc_lookup.specs.Found.{entry_number}
use Rattle.rc_machine.specs.State.{opened_state}
use Rattle.rc_shard.specs.Cached.{HaveCached}
use Rattle.rc_shard.proofs.Standing.{no-bytes, no-chain, no-snapshots, opened-for}
use Rattle.rc_shard.proofs.shard.ShardMachine.open.Goals as goal

pub returns-in-Ok-clause-stands : goal.returns-in-Ok-clause-stands
returns-in-Ok-clause-stands g c =
    let t = c.in_ok-folder.ensures.tables in
    let m = c.in-Ok.unstored.chains in
    let empty = c.in-Ok.ensures.empty.chains in
    let none = c.what_is_live_is_of_memtables.ensures.none m (λ id k there kind. no-chain m empty id k there) in
    let limits = subst (λ (t : SchemaValue). IsTrue (is_schema t)) c.schema-schema.ensures c.cols-columns.ensures.limits in
    let small = subst (λ (t : SchemaValue). AreSmall 131072 t) c.schema-schema.ensures (record { entry = (let a = c.largest_entry-entry.ensures.value in let b = c.largest_entry-entry.ensures.small in omega (arith, a, b)); statics = (let a = c.largest_static-statics.ensures.value in let b = c.largest_static-statics.ensures.small in omega (arith, a, b)) }) in
    let cached : HaveCached c.in_ok-folder.folder.schema c.new-cache.result.entries m (opened_state c.args.segments (g.W.Store.files c.args.store.now) c.args.schema t.0 c.in_ok-folder.folder.infos) = record {
      limits = limits;
      small = small;
      below = λ id. [];
      fit = λ id i d l. absurd (omega (arith, l));
      says = c.the_cache_says_what_lies_below.ensures.none c.in_ok-folder.folder.schema (λ id phase. []) m (λ id k there kind. no-chain m empty id k there);
      of_tables = λ key id found. absurd (no_some id (ap (λ (es : List (List ℕ × ℕ)). entry_number es key) (sym c.new-cache.ensures.none) ∙ found));
      are = c.new-cache.ensures.entries m (λ id cached. no-chain m empty id cached.kept cached.there);
      one = none.0;
      used = none.1;
    } in (
      t.0,
      c.in_ok-folder.folder.infos,
      t.1,
      t.2,
      opened-for _ _ _ c.in_ok-folder.folder c.in-Ok.unstored c.new-cache.result.entries _ c.args.segments c.args.schema t.0 c.in_ok-folder.ensures.schema c.open.ensures.store.0 t.1 t.2 c.in-Ok.ensures.none c.in-Ok.ensures.budget (no-bytes m empty) (no-snapshots m empty) cached c.new.ensures.items,
    )
