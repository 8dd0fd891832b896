use Rattle.std.proofs.Common.{ap, arith}
use Rattle.rc_evict.proofs.One.{is-one, one-counted, one-less, one-live, one-shrunk, one-versions, still-there}
use Rattle.rc_evict.proofs.evicting.evict.Goals as goal

pub sweep-requires : goal.sweep-requires
sweep-requires g c =
    let m = c.args.chains.now in let l = c.lose-sort.new.chains in let q = c.count_one.new.chains in
    let t = c.lose-sort.ensures.lost in
    (omega arith, still-there m l q q c.lose-sort.result t.0 c.home-id.result.0 t.2 (ap (λ p. p.0) (c.home-id.ensures t.0 t.1)) c.count_one.ensures.counted)

pub returns-clause-one : goal.returns-clause-one
returns-clause-one g c =
    let m = c.args.chains.now in let l = c.lose-sort.new.chains in let q = c.count_one.new.chains in
    let t = c.lose-sort.ensures.lost in
    is-one m l q c.sweep.new.self c.lose-sort.result t.0 c.home-id.result.0 t.2 (ap (λ p. p.0) (c.home-id.ensures t.0 t.1)) c.count_one.ensures.counted c.sweep.ensures.dropped c.sweep.ensures.kept

pub returns-clause-live : goal.returns-clause-live
returns-clause-live g c =
    let m = c.args.chains.now in let l = c.lose-sort.new.chains in let q = c.count_one.new.chains in
    let t = c.lose-sort.ensures.lost in
    one-live m l q c.sweep.new.self c.lose-sort.result t.0 c.home-id.result.0 t.2 (ap (λ p. p.0) (c.home-id.ensures t.0 t.1)) c.count_one.ensures.counted c.sweep.ensures.dropped c.sweep.ensures.kept
    g.row.S c.args.r (c.known.ensures.held c.args.r t.0 t.1) c.known.ensures.versions c.known.ensures.fit c.known.ensures.live c.known-2.ensures.rule c.known-2.ensures.versions c.known-3.ensures.live

pub returns-clause-versions : goal.returns-clause-versions
returns-clause-versions g c =
    let m = c.args.chains.now in let l = c.lose-sort.new.chains in let q = c.count_one.new.chains in
    let t = c.lose-sort.ensures.lost in
    one-versions m l q c.sweep.new.self c.lose-sort.result t.0 c.home-id.result.0 t.2 (ap (λ p. p.0) (c.home-id.ensures t.0 t.1)) c.count_one.ensures.counted c.sweep.ensures.dropped c.sweep.ensures.kept

pub returns-clause-shrunk : goal.returns-clause-shrunk
returns-clause-shrunk g c =
    let m = c.args.chains.now in let l = c.lose-sort.new.chains in let q = c.count_one.new.chains in
    let t = c.lose-sort.ensures.lost in
    one-shrunk m l q c.sweep.new.self c.lose-sort.result t.0 c.home-id.result.0 t.2 (ap (λ p. p.0) (c.home-id.ensures t.0 t.1)) c.count_one.ensures.counted c.sweep.ensures.dropped c.sweep.ensures.kept

pub returns-clause-less : goal.returns-clause-less
returns-clause-less g c =
    let m = c.args.chains.now in let l = c.lose-sort.new.chains in let q = c.count_one.new.chains in
    let t = c.lose-sort.ensures.lost in
    one-less m l q c.sweep.new.self c.lose-sort.result t.0 c.home-id.result.0 t.2 (ap (λ p. p.0) (c.home-id.ensures t.0 t.1)) c.count_one.ensures.counted c.sweep.ensures.dropped c.sweep.ensures.kept c.known.ensures.live c.known-3.ensures.live

pub returns-clause-counted : goal.returns-clause-counted
returns-clause-counted g c =
    let m = c.args.chains.now in let l = c.lose-sort.new.chains in let q = c.count_one.new.chains in
    let t = c.lose-sort.ensures.lost in
    one-counted m l q c.sweep.new.self c.lose-sort.result t.0 c.home-id.result.0 t.2 (ap (λ p. p.0) (c.home-id.ensures t.0 t.1)) c.count_one.ensures.counted c.sweep.ensures.dropped c.sweep.ensures.kept c.count_one.ensures.more
