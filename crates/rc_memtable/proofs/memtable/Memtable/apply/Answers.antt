use Rattle.std.proofs.Common.{◌≡◌, ◌≤◌, ◌+◌, ℕ, List, [], Some, None, cond, sym, ap, ◌∙◌, subst, arith}
use Rattle.std.specs.Ordering.{eq_by_cmp}
use Rattle.lsa_pool.specs.Room.{spare_of}
use Rattle.rc_position.specs.Position.{bytes_cmp}
use Rattle.rc_core.specs.declared.entries.ChainKind.TheVariants.{Memtable}
use Rattle.rc_chain.specs.Lives.{chain_of_new}
use Rattle.rc_memtable.specs.Writes.{chain_of, joined_need}
use Rattle.rc_memtable.proofs.Applied.{found-applied, fresh-kept, made-now, made-unpinned, new-applied, version-taken}
use Rattle.rc_memtable.proofs.memtable.Memtable.apply.Goals as goal

pub write_into-requires-in-None : goal.write_into-requires-in-None
write_into-requires-in-None g c =
    let made = c.in_ok-id-in-None.ensures.made in
    let none : chain_of c.args.self.now c.args.w.now.key ≡ None = subst (λ (cs : List (List ℕ × ℕ)). chain_of cs c.args.w.now.key ≡ None) c.self.view_is (sym c.in-None.ensures) in
    let room : 152 + joined_need c.args.schema.now c.args.w.now.change ≤ spare_of g.row.S c.args.chains.now.region.usages = version-taken c.args.chains.now (chain_of c.args.self.now c.args.w.now.key) none c.requires.room.version in
    let spare = c.in_ok-id-in-None.ensures.spare in (
      omega arith,
      (
        c.args.schema.now,
        record {
          limits = c.ck-limits.ensures.limits;
          small = c.requires.small;
          single = c.requires.single;
          fits = c.requires.fits;
          kept = (chain_of_new Memtable None 0, [], made-now c.args.chains.now c.add_chain.new.chains c.in_ok-id-in-None.id made, fresh-kept c.args.schema.now);
          joined = omega (arith, room, spare);
          version = λ p. absurd (made-unpinned c.args.chains.now c.add_chain.new.chains c.in_ok-id-in-None.id made p);
        },
      ),
    )

pub returns-in-Some-clause-applied : goal.returns-in-Some-clause-applied
returns-in-Some-clause-applied g c =
    found-applied g.row.S c.args.schema.now c.args.w.now c.args.chains.now c.write_into.new.chains c.in-Some.id (c.write_into.ensures.written c.args.schema.now c.requires.fits) c.args.self.now
    (subst (λ (cs : List (List ℕ × ℕ)). chain_of cs c.args.w.now.key ≡ Some c.in-Some.id) c.self.view_is (sym c.in-Some.ensures))
    c.known.ensures.live c.write_into.ensures.live

pub returns-in_ok-id-in-None-clause-applied : goal.returns-in_ok-id-in-None-clause-applied
returns-in_ok-id-in-None-clause-applied g c =
    new-applied g.row.S c.args.schema.now c.args.w.now c.args.chains.now c.add_chain.new.chains c.write_into-in-None.new.chains c.in_ok-id-in-None.id c.in_ok-id-in-None.ensures.made (c.write_into-in-None.ensures.written c.args.schema.now c.requires.fits)
    c.args.self.now c.add_chain.new.numbers.entries (subst (λ (cs : List (List ℕ × ℕ)). chain_of cs c.args.w.now.key ≡ None) c.self.view_is (sym c.in-None.ensures))
    (λ q. c.in_ok-id-in-None.ensures.numbers q ∙ ap (λ (cs : List (List ℕ × ℕ)). cond (eq_by_cmp bytes_cmp c.args.w.now.key q) (Some c.in_ok-id-in-None.id) (chain_of cs q)) c.self.view_is)
    c.known.ensures.live c.write_into-in-None.ensures.live
