use Rattle.std.proofs.Common.{◌<◌, length, refl, sym, ◌∙◌, arith}
use Rattle.lsa_store.specs.Usages.{closed-inside}
use Rattle.lsa_store.specs.laws.Books.{stock-reserve}
use Rattle.lsa_store.specs.laws.Sparse.{sparse-is}
use Rattle.lsa_region.specs.calls.Moves.{view_in}
use Rattle.lsa_region.proofs.Regions.{links-same, well-same}
use Rattle.lsa_region.proofs.Sets.{end-kept}
use Rattle.lsa_region.proofs.Sweeps.{swept-none, swept-gone, swept-count, renamed-keeps, released-bodies, released-words}
use Rattle.lsa_region.proofs.mover.evacuate.Goals as goal

pub sweep-moved-requires : goal.sweep-moved-requires
sweep-moved-requires g c =
    let us = c.args.store.now.usages in let w = sparse-is g.row.S c.args.n us c.requires.sparse in
    (omega arith, (c.requires.well, (w.0, omega (arith, w.1, stock-reserve g.row.S us c.requires.reserve, c.known.ensures.even))))

pub release-requires : goal.release-requires
release-requires g c =
    let old = view_in c.args.store.now c.args.roots.now in let mid = view_in c.sweep-moved.new.store c.sweep-moved.new.roots in let w = c.sweep-moved.ensures.swept in
    (omega arith, (w.2.relieved.closed, sym (c.known-2.ensures.live c.args.n) ∙ swept-none g.row.S old mid c.args.n c.sweep-moved.result w.0 w.1 w.2))

pub returns-clause-renamed : goal.returns-clause-renamed
returns-clause-renamed g c =
    let old = view_in c.args.store.now c.args.roots.now in let mid = view_in c.sweep-moved.new.store c.sweep-moved.new.roots in let new = view_in c.release.new.self c.sweep-moved.new.roots in let w = c.sweep-moved.ensures.swept in
    let inside : c.args.n < length mid.cells = omega (arith, closed-inside mid.usages c.args.n w.2.relieved.closed, c.known-2.ensures.count) in
    let gone = swept-gone g.row.S old mid c.args.n c.sweep-moved.result w.0 w.1 w.2 in (
      w.0,
      w.1,
      renamed-keeps old mid new w.0 w.1 w.2.renamed (released-bodies mid.cells new.cells c.args.n inside c.release.ensures.cells gone)
          (λ e. links-same mid new e refl (released-words mid.cells new.cells c.args.n inside c.release.ensures.cells gone)) refl,
      w.2.stay,
    )

pub returns-clause-well : goal.returns-clause-well
returns-clause-well g c =
    let old = view_in c.args.store.now c.args.roots.now in let mid = view_in c.sweep-moved.new.store c.sweep-moved.new.roots in let new = view_in c.release.new.self c.sweep-moved.new.roots in let w = c.sweep-moved.ensures.swept in
    let inside : c.args.n < length mid.cells = omega (arith, closed-inside mid.usages c.args.n w.2.relieved.closed, c.known-2.ensures.count) in
    let gone = swept-gone g.row.S old mid c.args.n c.sweep-moved.result w.0 w.1 w.2 in let bodies = released-bodies mid.cells new.cells c.args.n inside c.release.ensures.cells gone in
    well-same mid new c.sweep-moved.ensures.well (λ e. links-same mid new e refl (released-words mid.cells new.cells c.args.n inside c.release.ensures.cells gone))
    (λ x y named h. end-kept mid.cells new.cells mid.roots new.roots bodies (λ s at. at) y h)

pub returns-clause-count : goal.returns-clause-count
returns-clause-count g c =
    let old = view_in c.args.store.now c.args.roots.now in let mid = view_in c.sweep-moved.new.store c.sweep-moved.new.roots in let w = c.sweep-moved.ensures.swept in
    swept-count g.row.S old mid c.args.n c.sweep-moved.result w.0 w.1 w.2
