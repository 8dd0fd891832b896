-- Each table that is passed does not list the key.
use Rattle.std.proofs.Common.{◌≡◌, ◌-◌, ◌<◌, List, drop, length, take, sym, ap, subst, ◌∙◌, map as list_map}
use Rattle.std.specs.Prelude.{◌≢◌, All, IsTrue}
use Rattle.std.specs.FinMap.{is_sorted}
use Rattle.std.proofs.lemmas.List.{drop-map, length-map, take_rest}
use Rattle.rc_position.specs.Position.{bytes_cmp}
use Rattle.rc_tfile.specs.declared.info.TableInfo.{TableInfo}
use Rattle.rc_tables.specs.Tables.{listing}
use Rattle.rc_tables.proofs.Joined.{map_first}
use Rattle.rc_tables.proofs.Silent.{SilentSoFar, listed_behind, silent_on, silent_start}
use Rattle.rc_tables.proofs.reading.lists_behind.Goals as goal

pub loop-left-init : goal.loop-left-init
loop-left-init c =
    let all = c.tables-tables.result.now in
    let n = length c.tables-count.result.now in
    let behind = drop (length c.args.first.now) c.args.set.now in
    let many = sym (length-map c.tables-count.result.now (λ t. t.value)) ∙ ap length c.tables-count.ensures in
    let are : list_map (λ t. t.value) (take (length all - n) (drop n all)) ≡ behind =
    ap (list_map (λ t. t.value)) (take_rest all n) ∙ sym (drop-map (λ t. t.value) n all) ∙ ap (drop n) c.tables-tables.ensures ∙ ap (λ k. drop k c.args.set.now) many in
    record {
      silent = subst (SilentSoFar c.args.key.now behind) (sym are) (silent_start c.args.key.now behind);
      listed = λ some. subst (λ (ts : List TableInfo). 0 < listing c.args.key.now ts) are some;
    }

pub loop-left-preserved : goal.loop-left-preserved
loop-left-preserved c =
    let key = c.args.key.now in
    let left = c.loop-left.left.now in
    let info = c.info-item.result.value in
    let infos = list_map (λ t. t.value) (drop 1 left) in
    let behind = drop (length c.args.first.now) c.args.set.now in
    let tables = map_first (λ t. t.value) left c.info-item.result c.in-len1-up.len_at_least c.info-item.is in
    let rest = ap (list_map (λ t. t.value)) (sym (take_rest left 1)) in
    record {
      silent = subst (SilentSoFar key behind) rest
          (silent_on key behind info infos (subst (λ (i : TableInfo). IsTrue (is_sorted bytes_cmp (list_map (λ r. (r.key, r.dir_off)) i.parts)) → All (λ r. r.key ≢ key) i.parts) c.as_ref.ensures (c.lists.ensures.absent c.if-lists.false)) (subst (SilentSoFar key behind) tables c.loop-left.invariant.silent));
      listed = λ some. c.loop-left.invariant.listed (subst (λ (ts : List TableInfo). 0 < listing key ts) (sym tables) (listed_behind key info infos (subst (λ (ts : List TableInfo). 0 < listing key ts) (sym rest) some)));
    }
