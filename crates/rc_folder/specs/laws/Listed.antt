-- How many of the first tables list a key.
use Rattle.std.proofs.Common.{◌≡◌, ◌≤◌, ◌+◌, ◌++◌, ℕ, List, length, filter, sym, ap, subst, ◌∙◌, arith}
use Rattle.std.specs.Prelude.{Bool}
use Rattle.std.specs.List.{list_any}
use Rattle.std.specs.Ordering.{eq_by_cmp}
use Rattle.std.proofs.lemmas.List.{length-append}
use Rattle.std.proofs.lemmas.List.Elements.{filter-append}
use Rattle.rc_position.specs.Position.{bytes_cmp}
use Rattle.rc_tfile.specs.declared.info.TableInfo.{TableInfo}
use Rattle.rc_tables.specs.Tables.{listing}

pub fewer_listed : (key : List ℕ) (first later infos : List TableInfo) → infos ≡ first ++ later → listing key first ≤ listing key infos
fewer_listed key first later infos are =
    let p : TableInfo → Bool = λ info. list_any (λ r. eq_by_cmp bytes_cmp key r.key) info.parts in
    let sum : length (filter p (first ++ later)) ≡ length (filter p first) + length (filter p later) = ap length (filter-append p first later) ∙ length-append (filter p first) (filter p later) in
    let le : listing key first ≤ listing key (first ++ later) = omega (arith, sum) in
    subst (λ (is : List TableInfo). listing key first ≤ listing key is) (sym are) le
