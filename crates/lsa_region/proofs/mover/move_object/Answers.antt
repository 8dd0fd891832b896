use Rattle.std.proofs.Common.{sym, subst, arith}
use Rattle.std.specs.Prelude.{IsSome}
use Rattle.lsa_region.proofs.Movers.{copy-here, copy-apart, copy-old, copy-well, moved-to, moved-well}
use Rattle.lsa_region.proofs.mover.move_object.Goals as goal

pub carry_links-requires : goal.carry_links-requires
carry_links-requires g c =
    let s = c.args.store.now in let t = c.copy-q.new.self in let roots = c.args.roots.now in let r = c.args.r in let q = c.copy-q.result in let put = c.copy-q.ensures.put in let some = c.requires.object in (
      omega arith,
      (
        subst IsSome (sym (copy-old g.row.S s t roots r q some put)) some,
        (copy-here g.row.S s t roots r q some put, (copy-apart g.row.S s t roots r q some put, copy-well g.row.S s t roots r q some put c.requires.well)),
      ),
    )

pub returns-clause-moved : goal.returns-clause-moved
returns-clause-moved g c = (
  c.copy-q.result,
  moved-to g.row.S c.args.store.now c.copy-q.new.self c.carry_links.new.store c.kill.new.self c.args.roots.now c.carry_links.new.roots c.args.r c.copy-q.result c.requires.object c.requires.closed c.requires.well c.copy-q.ensures.put
      c.copy-q.ensures.active c.copy-q.ensures.taken c.carry_links.ensures.carried c.carry_links.ensures.well c.kill.ensures.changed c.kill.ensures.given,
)

pub returns-clause-well : goal.returns-clause-well
returns-clause-well g c =
    moved-well g.row.S c.args.store.now c.copy-q.new.self c.carry_links.new.store c.kill.new.self c.args.roots.now c.carry_links.new.roots c.args.r c.copy-q.result c.requires.object c.requires.closed c.requires.well c.copy-q.ensures.put
    c.copy-q.ensures.active c.copy-q.ensures.taken c.carry_links.ensures.carried c.carry_links.ensures.well c.kill.ensures.changed c.kill.ensures.given
