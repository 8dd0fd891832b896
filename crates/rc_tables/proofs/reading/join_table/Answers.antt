-- What was read of the table is what it says of the key.
use Rattle.std.proofs.Common.{◌≡◌, ◌+◌, ◌-◌, ◌<◌, ◌∷◌, List, length, get_or, take, drop, ap, sym, subst, ◌∙◌, arith, map as list_map}
use Rattle.std.specs.Prelude.{◌≢◌, All, IsTrue}
use Rattle.std.specs.FinMap.{is_sorted}
use Rattle.std.specs.List.{HoldsAt}
use Rattle.std.proofs.lemmas.List.{drop_more, take_rest}
use Rattle.std.proofs.lemmas.Result.{err_from_is_err_and}
use Rattle.rc_position.specs.Position.{bytes_cmp}
use Rattle.rc_mutation.specs.declared.mutations.Partition.{Partition}
use Rattle.rc_tfile.specs.declared.info.PartRef.{PartRef}
use Rattle.rc_tables.specs.Located.{WhereTold}
use Rattle.rc_tables.specs.calls.Located.{IsLocatedOf}
use Rattle.rc_tables.proofs.Joined.{damage_one, joins_none, joins_nothing, joins_one, joins_said, listed_there}
use Rattle.rc_tables.proofs.Searching.{counted}
use Rattle.rc_tables.proofs.reading.join_table.Goals as goal

pub returns-in_default-clause-joined : goal.returns-in_default-clause-joined
returns-in_default-clause-joined g c =
    joins_none (g.W.Store.files c.args.store.now) c.args.schema.now c.args.key.now c.args.info.now c.args.joined.now
    (λ up. subst (λ (rs : List PartRef). All (λ r. r.key ≢ c.args.key.now) rs) c.as_slice-parts.ensures
    (c.in_default.ensures.absent (subst (λ (rs : List PartRef). IsTrue (is_sorted bytes_cmp (list_map (λ r. (r.key, r.dir_off)) rs))) (sym c.as_slice-parts.ensures) up)))

pub read_partition-requires : goal.read_partition-requires
read_partition-requires g c =
    let parts = c.as_slice-parts.result.now in
    let at = c.in-Some.at in
    let head = c.index-parts-0.result in
    let here = c.index-parts-at.result in
    let behind = take (length parts - (at + 1)) (drop (at + 1) parts) in
    let same = c.as_slice-parts.ensures in
    subst (λ (r : PartRef). WhereTold (g.W.Store.files c.args.store.now) ((p : Partition) × IsLocatedOf (g.W.Store.files c.args.store.now) c.args.schema.now c.args.info.now.number r.dir_off (here ∷ behind) p)) c.index-parts-0.is
    (listed_there (g.W.Store.files c.args.store.now) c.args.schema.now c.args.info.now at head here behind (subst (λ (rs : List PartRef). at < length rs) same c.in-Some.ensures.found.0)
    (c.index-parts-0.is ∙ ap (λ (rs : List PartRef). get_or rs 0 head) same) (c.index-parts-at.is ∙ ap (λ (rs : List PartRef). get_or rs at here) same) (take_rest parts (at + 1) ∙ ap (λ (rs : List PartRef). drop (at + 1) rs) same) c.requires)

pub returns-in_err-change-clause-asks : goal.returns-in_err-change-clause-asks
returns-in_err-change-clause-asks g c =
    let same = c.as_slice-parts.ensures in
    let one = counted c.args.key.now c.args.info.now c.in-Some.at (subst (λ (rs : List PartRef). c.in-Some.at < length rs) same c.in-Some.ensures.found.0) (subst (λ (rs : List PartRef). HoldsAt (λ r. r.key ≡ c.args.key.now) rs c.in-Some.at) same c.in-Some.ensures.found.1) in
    omega (arith, one, c.in_err-change.ensures.asks)

pub returns-in-Ok-clause-joined : goal.returns-in-Ok-clause-joined
returns-in-Ok-clause-joined g c =
    let files = g.W.Store.files c.args.store.now in
    let parts = c.as_slice-parts.result.now in
    let at = c.in-Some.at in
    let head = c.index-parts-0.result in
    let here = c.index-parts-at.result in
    let behind = take (length parts - (at + 1)) (drop (at + 1) parts) in
    let same = c.as_slice-parts.ensures in
    let listed : here.key ≡ c.args.key.now = ap (λ (r : PartRef). r.key) c.index-parts-at.is ∙ c.in-Some.ensures.found.1 here in
    joins_one files c.args.schema.now c.args.key.now c.args.info.now c.args.joined.now c.join.new.self c.in_ok-change.change at head here behind (subst (λ (rs : List PartRef). at < length rs) same c.in-Some.ensures.found.0)
    (c.index-parts-0.is ∙ ap (λ (rs : List PartRef). get_or rs 0 head) same) (c.index-parts-at.is ∙ ap (λ (rs : List PartRef). get_or rs at here) same) (take_rest parts (at + 1) ∙ ap (λ (rs : List PartRef). drop (at + 1) rs) same) listed
    (λ p is. c.in_ok-change.ensures.change p (subst (λ (r : PartRef). IsLocatedOf files c.args.schema.now c.args.info.now.number r.dir_off (here ∷ behind) p) c.index-parts-0.is is)) c.in-Ok.ensures.ok

pub returns-in-Ok-clause-asks : goal.returns-in-Ok-clause-asks
returns-in-Ok-clause-asks g c =
    let same = c.as_slice-parts.ensures in
    let one = counted c.args.key.now c.args.info.now c.in-Some.at (subst (λ (rs : List PartRef). c.in-Some.at < length rs) same c.in-Some.ensures.found.0) (subst (λ (rs : List PartRef). HoldsAt (λ r. r.key ≡ c.args.key.now) rs c.in-Some.at) same c.in-Some.ensures.found.1) in
    omega (arith, one, c.in_ok-change.ensures.asks)

pub returns-clause-asks : goal.returns-clause-asks
returns-clause-asks g c =
    let same = c.as_slice-parts.ensures in
    let one = counted c.args.key.now c.args.info.now c.in-Some.at (subst (λ (rs : List PartRef). c.in-Some.at < length rs) same c.in-Some.ensures.found.0) (subst (λ (rs : List PartRef). HoldsAt (λ r. r.key ≡ c.args.key.now) rs c.in-Some.at) same c.in-Some.ensures.found.1) in
    omega (arith, one, c.in_ok-change.ensures.asks)

pub returns-in_default-clause-some : goal.returns-in_default-clause-some
returns-in_default-clause-some g c = joins_nothing c.args.schema.now c.args.key.now c.args.info.now c.args.joined.now

pub returns-in-Ok-clause-some : goal.returns-in-Ok-clause-some
returns-in-Ok-clause-some g c =
    let at = c.in-Some.at in
    let same = c.as_slice-parts.ensures in
    let one = counted c.args.key.now c.args.info.now at (subst (λ (rs : List PartRef). at < length rs) same c.in-Some.ensures.found.0) (subst (λ (rs : List PartRef). HoldsAt (λ r. r.key ≡ c.args.key.now) rs at) same c.in-Some.ensures.found.1) in
    joins_said c.args.schema.now c.args.key.now c.args.info.now c.args.joined.now c.join.new.self c.in_ok-change.change (omega (arith, one)) c.in-Ok.ensures.ok c.in_ok-change.ensures.fits

pub returns-in_err-change-clause-damaged : goal.returns-in_err-change-clause-damaged
returns-in_err-change-clause-damaged g c =
    let parts = c.as_slice-parts.result.now in
    let at = c.in-Some.at in
    let head = c.index-parts-0.result in
    let here = c.index-parts-at.result in
    let same = c.as_slice-parts.ensures in
    let listed : here.key ≡ c.args.key.now = ap (λ (r : PartRef). r.key) c.index-parts-at.is ∙ c.in-Some.ensures.found.1 here in
    let behind = take (length parts - (at + 1)) (drop (at + 1) parts) in
    let at_here : here ≡ get_or c.args.info.now.parts at here = c.index-parts-at.is ∙ ap (λ (rs : List PartRef). get_or rs at here) same in
    let rest : behind ≡ drop (at + 1) c.args.info.now.parts = take_rest parts (at + 1) ∙ ap (λ (rs : List PartRef). drop (at + 1) rs) same in
    let there : here ∷ behind ≡ drop at c.args.info.now.parts = (λ j. at_here j ∷ rest j) ∙ sym (drop_more c.args.info.now.parts at here (subst (λ (rs : List PartRef). at < length rs) same c.in-Some.ensures.found.0)) in
    let p = err_from_is_err_and c.from_residual.result c.from_residual.ensures.1 in
    rw (p.1, p.2) (damage_one c.args.schema.now c.args.key.now c.args.info.now c.in_err-change.field-0.0 (get_or parts 0 head).dir_off at here behind (sym there) listed c.in_err-change.ensures.damaged)
