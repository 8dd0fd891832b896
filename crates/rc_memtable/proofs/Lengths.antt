-- How many components keys and positions of a schema have; none of its positions stands right behind a row.
use Rattle.std.proofs.Common.{◌≡◌, ◌≤◌, ◌⊎◌, ⊎_elim, inl, inr, Bool, true, false, ◌&&◌, List, [], ◌∷◌, length, refl, sym, ap, ◌∙◌, arith}
use Rattle.std.specs.Prelude.{IsTrue, ◌==◌}
use Rattle.std.specs.List.{list_all}
use Rattle.std.proofs.lemmas.Bool.Decides.{nat_tests}
use Rattle.std.specs.declared.cmp.Ordering.{Ordering}
use Rattle.std.specs.declared.cmp.Ordering.TheVariants.{Less, Equal, Greater}
use Rattle.std.specs.Ordering.{ordering_reverse, ordering_then}
use Rattle.rc_position.specs.declared.comps.Comp.{Comp}
use Rattle.rc_position.specs.declared.positions.Pos.{Pos}
use Rattle.rc_position.specs.declared.positions.Weight.{Weight}
use Rattle.rc_position.specs.declared.positions.Weight.TheVariants.{Before, At, After}
use Rattle.rc_position.specs.Position.{IsBefore, comp_cmp, pos_cmp, prefix_cmp, row_pos}
use Rattle.rc_position.specs.laws.Orders.{comp_cmp_total}
use Rattle.rc_schema.specs.declared.kinds.CkKind.{CkKind}
use Rattle.rc_schema.specs.SchemaValue.{SchemaValue}
use Rattle.rc_schema.specs.Checks.{are_of_kinds, is_key_of, is_of_kind, is_short}

first : (a b : Bool) → (a && b) ≡ true → a ≡ true
first true b e = refl
first false b e = e

second : (a b : Bool) → (a && b) ≡ true → b ≡ true
second true b e = e
second false b e = absurd (cc)

kinds-short : (key : List Comp) (kinds : List CkKind) → are_of_kinds key kinds ≡ true → length key ≤ length kinds
kinds-short [] kinds e = omega arith
kinds-short (c ∷ key) [] e = absurd (cc)
kinds-short (c ∷ key) (k ∷ kinds) e = let rest = kinds-short key kinds (second (is_of_kind c k) (are_of_kinds key kinds) e) in omega (arith, rest)

pub prefix-short : (schema : SchemaValue) (key : List Comp) → IsTrue (is_key_of false schema key) → length key ≤ length schema.ck
prefix-short schema key h = kinds-short key schema.ck (first (are_of_kinds key schema.ck) true (first (are_of_kinds key schema.ck && true) (list_all is_short key) h))

pub key-full : (schema : SchemaValue) (key : List Comp) → IsTrue (is_key_of true schema key) → length key ≡ length schema.ck
key-full schema key h =
    let test : (length key == length schema.ck) ≡ true = second (are_of_kinds key schema.ck) (length key == length schema.ck) (first (are_of_kinds key schema.ck && (length key == length schema.ck)) (list_all is_short key) h) in
    grind (arith, nat_tests, test)

then-less : (r s : Ordering) → ordering_then r s ≡ Less → (r ≡ Less) ⊎ ((r ≡ Equal) × (s ≡ Less))
then-less Less s e = inl refl
then-less Equal s e = inr (refl, e)
then-less Greater s e = absurd (cc)

turned : (r s : Ordering) → r ≡ ordering_reverse s → (r ≡ Less) ⊎ (r ≡ Equal) → s ≡ Less → ⊥
turned r s t h e = ⊎_elim (λ l. let u : Less ≡ Greater = sym l ∙ t ∙ ap ordering_reverse e in cc) (λ l. let u : Equal ≡ Greater = sym l ∙ t ∙ ap ordering_reverse e in cc) h

no-gap : (k ds : List Comp) (w : Weight) → length ds ≤ length k → prefix_cmp k At ds w ≡ Less → prefix_cmp ds w k After ≡ Less → ⊥
no-gap [] [] Before short e f = cc
no-gap [] [] At short e f = cc
no-gap [] [] After short e f = cc
no-gap [] (d ∷ ds) w short e f = omega (arith, short)
no-gap (c ∷ cs) [] Before short e f = cc
no-gap (c ∷ cs) [] At short e f = cc
no-gap (c ∷ cs) [] After short e f = cc
no-gap (c ∷ cs) (d ∷ ds) w short e f =
    let turn : comp_cmp c d ≡ ordering_reverse (comp_cmp d c) = comp_cmp_total.antisymm c d in
    ⊎_elim
    (λ m. turned (comp_cmp c d) (comp_cmp d c) turn (⊎_elim (λ l. inl l) (λ l. inr l.0) (then-less (comp_cmp c d) (prefix_cmp cs At ds w) e)) m)
    (λ m. ⊎_elim
    (λ l. let u : Less ≡ Equal = sym l ∙ turn ∙ ap ordering_reverse m.0 in cc)
    (λ l. no-gap cs ds w (omega (arith, short)) l.1 m.1)
    (then-less (comp_cmp c d) (prefix_cmp cs At ds w) e))
    (then-less (comp_cmp d c) (prefix_cmp ds w cs After) f)

-- no position with no more components than a key stands between the key's row and what is behind it
pub nothing-between : (key : List Comp) (x : Pos) → length x.prefix ≤ length key → IsBefore (row_pos key) x → IsBefore x (record { prefix = key; weight = After }) → ⊥
unfolding pos_cmp
nothing-between key x short e f = no-gap key x.prefix x.weight short e f
