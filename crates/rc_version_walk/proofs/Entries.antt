-- An entry that is found in a version.
use Rattle.std.proofs.Common.{◌≡◌, ℕ, ap, List, [], ◌∷◌, ◌++◌, Option, Some, None, refl, sym, ◌∙◌, subst}
use Rattle.std.specs.Prelude.{IsSomeAnd, IfSome}
use Rattle.lsa_store.specs.declared.place.Ref.{Ref}
use Rattle.lsa_kinds.specs.declared.kind.Kind.{Kind}
use Rattle.lsa_kinds.specs.declared.kind.Kind.TheVariants.{RowEntry, Dummy}
use Rattle.lsa_region.specs.declared.end.End.{End}
use Rattle.lsa_region.specs.declared.end.End.TheVariants.{Obj}
use Rattle.lsa_region.specs.Region.{View, body, link_of}
use Rattle.rc_cell.specs.declared.rows.Row.{Row}
use Rattle.lsa_tree.specs.Entries.{IsEntryAtPosition}
use Rattle.lsa_tree.specs.Search.{first_entry}
use Rattle.rc_core.specs.declared.entries.Entry.{Entry}
use Rattle.std.specs.declared.cmp.Ordering.TheVariants.{Less, Equal}
use Rattle.rc_core.specs.laws.GivenUp.{at_itself}
use Rattle.rc_core.specs.Version.{Version, Ascend, EndsWithDummy, end_position}
use Rattle.lsa_tree.specs.laws.Orders.{stands-once}
use Rattle.rc_position.specs.declared.positions.Pos.{Pos}
use Rattle.rc_position.specs.Position.{IsBefore}
use Rattle.rc_object.specs.Objects.{HoldsEntry, HoldsStatic, SpellsEntry, entry_kind}
use Rattle.rc_version.specs.Versions.{HasStatics, IsVersionOf}
use Rattle.rc_version.specs.laws.Holding.{around, both-around, before-end}
use Rattle.rc_version.specs.laws.Objects.{entry-once, holds-stands}
use Rattle.rc_version_walk.specs.Walking.{IsSomeEntry}

pub entry-held : (v : View) (n : Ref) (front back : List Ref) (e : Ref) (c : Version) → IsVersionOf v n (front ++ (e ∷ back)) c → IsSomeEntry v e
entry-held v n front back e c h = let w = around v front e back c.entries h.entries in (w.here, w.holds)

-- an entry with a next one is not the end dummy
not_end : (x : Pos) → IsBefore x end_position → x ≡ end_position → ⊥
not_end x before is = let clash : Less ≡ Equal = sym (subst (λ y. IsBefore y end_position) is before) ∙ at_itself in cc

pub inner-before : (v : View) (n : Ref) (front back : List Ref) (e next : Ref) (c : Version) → IsVersionOf v n (front ++ (e ∷ back)) c → first_entry back ≡ Some next → (y : Entry) → HoldsEntry v e y → IsBefore y.position end_position
inner-before v n front [] e next c h is y held = cc
inner-before v n front (q ∷ back) e next c h is y held =
    let w = both-around v front e q back c.entries h.entries in
    subst (λ (x : Entry). IsBefore x.position end_position) (entry-once v e w.here y w.holds held) (before-end w.before w.here w.there w.behind (subst Ascend w.is h.version.ascend) (subst EndsWithDummy w.is h.version.ends))

-- an entry before the end does not stand at it
pub before-not_end : (v : View) (n : Ref) (front back : List Ref) (e : Ref) (c : Version) → IsVersionOf v n (front ++ (e ∷ back)) c → ((y : Entry) → HoldsEntry v e y → IsBefore y.position end_position) → IsEntryAtPosition v e end_position → ⊥
before-not_end v n front back e c h before at =
    let y = entry-held v n front back e c h in not_end y.0.position (before y.0 y.1) (stands-once v e y.0.position end_position (holds-stands v e y.0 y.1) at)

-- ---- a row, and a static row

row_there : (o : Option (Kind × List ℕ)) (y : Entry) → IsSomeAnd o (λ b. SpellsEntry b y) → IsSomeAnd o (λ b. b.0 ≡ RowEntry) → (row : Row) × (y.row ≡ Some row)
row_there None y h k = absurd h
row_there (Some b) y h k = some_row y.row (sym h.kind ∙ k)
  where
    some_row : (row : Option Row) → entry_kind row ≡ RowEntry → (r : Row) × (row ≡ Some r)
    some_row None e = absurd (let clash : Dummy ≡ RowEntry = e in cc)
    some_row (Some row) e = (row, refl)

pub row-there : (v : View) (e : Ref) (y : Entry) → HoldsEntry v e y → IsSomeAnd (body v e) (λ b. b.0 ≡ RowEntry) → (row : Row) × (y.row ≡ Some row)
row-there v e y h k = row_there (body v e) y h k

pub static-there : (v : View) (n s : Ref) (field : ℕ) (row : Option Row) → HasStatics v n row → (e : End) → link_of v (Obj n 3) ≡ Some e → e ≡ Obj s field → (r : Row) × (row ≡ Some r) × HoldsStatic v s r
static-there v n s field None h e is at = absurd (let clash : None ≡ Some e = sym h ∙ is in cc)
static-there v n s field (Some r) h e is at =
    let both : Some (Obj h.0 2) ≡ Some (Obj s field) = sym h.1 ∙ is ∙ ap (λ x. Some x) at in let same : h.0 ≡ s = cc in (r, refl, subst (λ q. HoldsStatic v q r) same h.2)

-- a version whose first entry has no next one has that alone
pub alone : (v : View) (n : Ref) (refs : List Ref) (c : Version) → IsVersionOf v n refs c → (end : Ref) → Some end ≡ first_entry refs → ((back : List Ref) → IsVersionOf v n (end ∷ back) c → None ≡ first_entry back) → IsVersionOf v n (end ∷ []) c
alone v n [] c h end is next = cc
alone v n (q ∷ []) c h end is next = let same : q ≡ end = cc in subst (λ r. IsVersionOf v n (r ∷ []) c) same h
alone v n (q ∷ r ∷ refs) c h end is next = let same : q ≡ end = cc in absurd (let clash = next (r ∷ refs) (subst (λ x. IsVersionOf v n (x ∷ r ∷ refs) c) same h) in cc)

pub first-is : (refs : List Ref) (end : Ref) → Some end ≡ first_entry refs → (back : List Ref) × (refs ≡ end ∷ back)
first-is [] end is = absurd (let clash : Some end ≡ None = is in cc)
first-is (q ∷ refs) end is = (refs, (let same : q ≡ end = cc in ap (λ r. r ∷ refs) same))

-- the next entry, if there is one, is an entry too
pub next-held : (v : View) (n : Ref) (front back : List Ref) (e : Ref) (c : Version) → IsVersionOf v n (front ++ (e ∷ back)) c → (found : Option Ref) → found ≡ first_entry back → IfSome found (λ q. IsSomeEntry v q)
next-held v n front [] e c h found is = subst (λ o. IfSome o (λ q. IsSomeEntry v q)) (sym is) tt
next-held v n front (q ∷ back) e c h found is =
    let w = both-around v front e q back c.entries h.entries in subst (λ o. IfSome o (λ q. IsSomeEntry v q)) (sym is) (w.there, w.next_holds)
