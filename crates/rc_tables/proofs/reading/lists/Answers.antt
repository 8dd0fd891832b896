-- A key that is found is listed.
use Rattle.std.proofs.Common.{true, ◌≡◌, ◌<◌, ℕ, List, [], ◌∷◌, length, Option, Some, None, is_some, sym, subst, ◌∙◌}
use Rattle.std.specs.Option.{IfSome}
use Rattle.std.specs.List.{HoldsAt}
use Rattle.rc_tfile.specs.declared.info.PartRef.{PartRef}
use Rattle.rc_tables.specs.Tables.{listing}
use Rattle.rc_tables.proofs.Searching.{counted}
use Rattle.rc_tables.proofs.reading.lists.Goals as goal

pub returns-clause-listed : goal.returns-clause-listed
returns-clause-listed c = λ yes. there c.find.result c.find.ensures.found (sym c.is_some.ensures ∙ yes)
  where
    key : List ℕ
    key = c.args.key.now

    there : (r : Option ℕ) → IfSome r (λ i. (i < length c.as_slice.result.now) × HoldsAt (λ r. r.key ≡ key) c.as_slice.result.now i) → is_some r ≡ true → listing key (c.args.info.now ∷ []) ≡ 1
    there None h e = absurd (cc)
    there (Some i) h e = counted key c.args.info.now i (subst (λ (rs : List PartRef). i < length rs) c.as_slice.ensures h.0) (subst (λ (rs : List PartRef). HoldsAt (λ r. r.key ≡ key) rs i) c.as_slice.ensures h.1)
