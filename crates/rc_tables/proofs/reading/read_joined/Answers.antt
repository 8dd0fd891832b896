-- One table more is joined.
use Rattle.std.proofs.Common.{◌∷◌, [], List, drop, refl, ap, sym, subst, ◌∙◌, arith, map as list_map}
use Rattle.std.proofs.lemmas.List.{take_rest}
use Rattle.std.proofs.lemmas.Result.{err_from_is_err_and}
use Rattle.rc_tfile.specs.declared.info.TableInfo.{TableInfo}
use Rattle.rc_tables.specs.Located.{WhereTold}
use Rattle.rc_tables.specs.Tables.{AreHeld, IsDamageOf, listing}
use Rattle.rc_tables.specs.calls.Tables.{JoinsSome}
use Rattle.rc_tables.proofs.Joined.{Joining, Joins, SomeSoFar, damage_behind, damage_first, first_held, joining_on, joining_start, listing_first, map_first, some_on, some_start}
use Rattle.rc_tables.proofs.reading.read_joined.Goals as goal

pub loop-left-init : goal.loop-left-init
loop-left-init g c = record {
  so_far = subst (λ (ts : List TableInfo). Joining (g.W.Store.files c.args.store.now) c.args.schema.now c.args.key.now c.args.set.now c.empty-joined.result ts) (sym c.tables-left.ensures)
      (joining_start (g.W.Store.files c.args.store.now) c.args.schema.now c.args.key.now c.args.set.now c.empty-joined.result c.empty-joined.ensures);
  some = subst (λ (ts : List TableInfo). SomeSoFar c.args.schema.now c.args.key.now c.args.set.now c.empty-joined.result ts) (sym c.tables-left.ensures) (some_start c.args.schema.now c.args.key.now c.args.set.now c.empty-joined.result c.empty-joined.ensures);
  damage = λ e d. subst (λ (ts : List TableInfo). IsDamageOf c.args.schema.now c.args.key.now ts e) c.tables-left.ensures d;
  files = refl;
  building = refl;
  faults = omega arith;
  asks = omega (arith, ap (listing c.args.key.now) c.tables-left.ensures);
}

pub join_table-requires : goal.join_table-requires
join_table-requires g c =
    let files = g.W.Store.files c.args.store.now in
    let tables = map_first (λ t. t.value) c.loop-left.left.now c.first-item.result c.in-len1-up.len_at_least c.first-item.is in
    let so_far = subst (λ (ts : List TableInfo). Joining files c.args.schema.now c.args.key.now c.args.set.now c.loop-left.joined ts) tables c.loop-left.invariant.so_far in
    subst (λ f. WhereTold f (AreHeld f c.args.schema.now (c.as_ref.result.now ∷ []))) (sym c.loop-left.invariant.files)
    (subst (λ (i : TableInfo). WhereTold files (AreHeld files c.args.schema.now (i ∷ []))) (sym c.as_ref.ensures)
    (first_held files c.args.schema.now c.args.key.now c.args.set.now c.loop-left.joined c.first-item.result.value (list_map (λ t. t.value) (drop 1 c.loop-left.left.now)) c.requires so_far))

pub loop-left-preserved : goal.loop-left-preserved
loop-left-preserved g c =
    let files = g.W.Store.files c.args.store.now in
    let left = c.loop-left.left.now in
    let info = c.first-item.result.value in
    let infos = list_map (λ t. t.value) (drop 1 left) in
    let tables = map_first (λ t. t.value) left c.first-item.result c.in-len1-up.len_at_least c.first-item.is in
    let so_far = subst (λ (ts : List TableInfo). Joining files c.args.schema.now c.args.key.now c.args.set.now c.loop-left.joined ts) tables c.loop-left.invariant.so_far in
    let joins : Joins files c.args.schema.now c.args.key.now info c.loop-left.joined c.join_table.new.joined =
    subst (λ f. Joins f c.args.schema.now c.args.key.now info c.loop-left.joined c.join_table.new.joined) c.loop-left.invariant.files
    (subst (λ (i : TableInfo). Joins (g.W.Store.files c.loop-left.store) c.args.schema.now c.args.key.now i c.loop-left.joined c.join_table.new.joined) c.as_ref.ensures c.in_ok-join_table.ensures.joined) in
    let rest = ap (list_map (λ t. t.value)) (sym (take_rest left 1)) in
    record {
      so_far = subst (λ (ts : List TableInfo). Joining files c.args.schema.now c.args.key.now c.args.set.now c.join_table.new.joined ts) rest (joining_on files c.args.schema.now c.args.key.now c.args.set.now c.loop-left.joined c.join_table.new.joined info infos so_far joins);
      some = subst (λ (ts : List TableInfo). SomeSoFar c.args.schema.now c.args.key.now c.args.set.now c.join_table.new.joined ts) rest
          (some_on c.args.schema.now c.args.key.now c.args.set.now c.loop-left.joined c.join_table.new.joined info infos
          (subst (λ (ts : List TableInfo). SomeSoFar c.args.schema.now c.args.key.now c.args.set.now c.loop-left.joined ts) tables c.loop-left.invariant.some)
          (subst (λ (i : TableInfo). JoinsSome c.args.schema.now (i ∷ []) c.args.key.now c.loop-left.joined c.join_table.new.joined) c.as_ref.ensures c.in_ok-join_table.ensures.some));
      damage = λ e d. c.loop-left.invariant.damage e (subst (λ (ts : List TableInfo). IsDamageOf c.args.schema.now c.args.key.now ts e) (sym tables)
          (damage_behind c.args.schema.now c.args.key.now info infos e (subst (λ (ts : List TableInfo). IsDamageOf c.args.schema.now c.args.key.now ts e) (sym rest) d)));
      files = c.in_ok-join_table.ensures.store.0 ∙ c.loop-left.invariant.files;
      building = c.in_ok-join_table.ensures.store.1 ∙ c.loop-left.invariant.building;
      faults = omega (arith, c.in_ok-join_table.ensures.cause, c.loop-left.invariant.faults);
      asks = omega (arith, c.in_ok-join_table.ensures.asks, c.loop-left.invariant.asks, ap (listing c.args.key.now) tables, listing_first c.args.key.now info infos, ap (listing c.args.key.now) rest, ap (λ (i : TableInfo). listing c.args.key.now (i ∷ [])) c.as_ref.ensures);
    }

pub returns-in_err-join_table-clause-damaged : goal.returns-in_err-join_table-clause-damaged
returns-in_err-join_table-clause-damaged g c =
    let left = c.loop-left.left.now in
    let info = c.first-item.result.value in
    let infos = list_map (λ t. t.value) (drop 1 left) in
    let tables = map_first (λ t. t.value) left c.first-item.result c.in-len1-up.len_at_least c.first-item.is in
    let p = err_from_is_err_and c.from_residual.result c.from_residual.ensures.1 in
    let e = c.in_err-join_table.field-0.0 in
    let here = subst (λ (i : TableInfo). IsDamageOf c.args.schema.now c.args.key.now (i ∷ []) e) c.as_ref.ensures c.in_err-join_table.ensures.damaged in
    rw (p.1, p.2) (c.loop-left.invariant.damage e (subst (λ (ts : List TableInfo). IsDamageOf c.args.schema.now c.args.key.now ts e) (sym tables) (damage_first c.args.schema.now c.args.key.now info infos e here)))
