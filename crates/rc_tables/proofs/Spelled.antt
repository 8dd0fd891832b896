-- Bytes that spell a partition are read as it.
use Rattle.std.proofs.Common.{◌≡◌, ℕ, ◌≤◌, List, [], ◌∷◌, ◌++◌, length, drop, Option, Some, None, refl, sym, ap, ◌∙◌, subst, arith, append-nil, append_assoc, length-append}
use Rattle.std.specs.List.{flat_map, AllByRecursion}
use Rattle.std.specs.Option.{option_map}
use Rattle.std.proofs.lemmas.Grind.{flat_map-append}
use Rattle.std.proofs.lemmas.List.{drop_at}
use Rattle.rc_cell.specs.declared.rows.Row.{Row}
use Rattle.rc_cell.specs.declared.writes.Tomb.{Tomb}
use Rattle.rc_position.specs.declared.comps.Comp.{Comp}
use Rattle.rc_position.specs.declared.positions.Pos.{Pos}
use Rattle.rc_position.specs.Position.{IsPartKey}
use Rattle.rc_rowcode.specs.Spelling.{optional_code, tomb_code, key_code, pos_code, row_code, IsKey, IsPos, IsCodedRow}
use Rattle.rc_mutation.specs.declared.fragments.Frag.{Frag}
use Rattle.rc_mutation.specs.declared.fragments.Frag.TheVariants as frag
use Rattle.rc_mutation.specs.declared.mutations.Mutation.{Mutation}
use Rattle.rc_mutation.specs.Source.{IsMutation}
use Rattle.rc_tfile.specs.Part.{Part}
use Rattle.rc_tfile.specs.Items.{Item, PartItem, RowItem, ChangeItem, EndItem, item_code, IsItem, bytes_code}
use Rattle.rc_tfile.specs.Reading.{Starts, part_item}
use Rattle.rc_tfile.specs.TableText.{frag_items, part_items}
use Rattle.rc_tfile.specs.laws.Starting.{PrefixFree, IsOptional, rest_of, both_free, key_free, full_key_free, pos_free, row_free, optional_free}
use Rattle.rc_tables.specs.calls.Rebuilt.{frag_code, IsSpellable}
use Rattle.rc_mutation.specs.Fragments.{rows_and_changes}
use Rattle.rc_tables.proofs.Listing.{Inner, between-inner, items_of}

-- ---- no spelling begins another, so what is read is what is spelled

pub found_is : {X : Type 0} (code : X → List ℕ) (is : X → Type 0) → PrefixFree code is → (bytes : List ℕ) (x : X) (more : List ℕ) (found : Option (X × ℕ)) → is x → bytes ≡ code x ++ more → Starts code is bytes found → found ≡ Some (x, length (code x))
found_is code is free bytes x more None fits e h = absurd (h x more fits e)
found_is code is free bytes x more (Some (a, n)) fits e h =
    let same = (free a x (drop n bytes) more h.0 fits (sym h.1 ∙ e)).0 in
    let size : n ≡ length (code x) = h.2 ∙ ap (λ y. length (code y)) same in
    λ i. Some (same i, size i)

triple_free : PrefixFree (λ (p : List ℕ × (Option Tomb × Row)). bytes_code p.0 ++ (optional_code tomb_code p.1.0 ++ row_code p.1.1)) (λ p. IsPartKey p.0 × (IsOptional p.1.0 × IsCodedRow p.1.1))
triple_free = both_free bytes_code IsPartKey (λ (h : Option Tomb × Row). optional_code tomb_code h.0 ++ row_code h.1) (λ h. IsOptional h.0 × IsCodedRow h.1) key_free (both_free (optional_code tomb_code) IsOptional row_code IsCodedRow optional_free row_free)

abbrev pub code_of_part : Part → List ℕ
code_of_part p = item_code (part_item p)

abbrev pub IsPartItem : Part → Type 0
IsPartItem p = IsItem (part_item p)

pub part_free : PrefixFree code_of_part IsPartItem
part_free = λ a b x y f g e.
    let same = triple_free (a.key, (a.head.pt, a.head.statics)) (b.key, (b.head.pt, b.head.statics)) x y f g (ap rest_of e) in
    (λ i. record { key = (same.0 i).0; head = record { pt = (same.0 i).1.0; statics = (same.0 i).1.1 } }, same.1)

keyed_free : PrefixFree (λ (e : List Comp × Row). key_code e.0 ++ row_code e.1) (λ e. IsKey e.0 × IsCodedRow e.1)
keyed_free = both_free key_code IsKey row_code IsCodedRow full_key_free row_free

abbrev pub row_item : List Comp × Row → List ℕ
row_item e = item_code (RowItem e.0 e.1)

abbrev pub IsRowItem : List Comp × Row → Type 0
IsRowItem e = IsItem (RowItem e.0 e.1)

abbrev pub change_item : Pos × Option Tomb → List ℕ
change_item c = item_code (ChangeItem c.0 c.1)

abbrev pub IsChangeItem : Pos × Option Tomb → Type 0
IsChangeItem c = IsItem (ChangeItem c.0 c.1)

row_item_free : PrefixFree row_item IsRowItem
row_item_free = λ a b x y f g e. keyed_free a b x y f g (ap rest_of e)

change_free : PrefixFree (λ (c : Pos × Option Tomb). pos_code c.0 ++ optional_code tomb_code c.1) (λ c. IsPos c.0 × IsOptional c.1)
change_free = both_free pos_code IsPos (optional_code tomb_code) IsOptional pos_free optional_free

change_item_free : PrefixFree change_item IsChangeItem
change_item_free = λ a b x y f g e. change_free a b x y f g (ap rest_of e)

abbrev first_byte : List ℕ → ℕ
first_byte [] = 0
first_byte (x ∷ xs) = x

-- ---- one row or change

abbrev pub StartsRow : List ℕ → Option ((List Comp × Row) × ℕ) → Type 0
StartsRow = Starts row_item IsRowItem

abbrev pub StartsChange : List ℕ → Option ((Pos × Option Tomb) × ℕ) → Type 0
StartsChange = Starts change_item IsChangeItem

-- bytes that begin with a row or change are read as it
abbrev pub Finds : List ℕ → Option (Frag × ℕ) → Type 0
Finds bytes found = (f : Frag) (more : List ℕ) → IsSpellable f → bytes ≡ frag_code f ++ more → found ≡ Some (f, length (frag_code f))

abbrev as_row : (List Comp × Row) × ℕ → Frag × ℕ
as_row x = (frag.Row x.0.0 x.0.1, x.1)

abbrev as_change : (Pos × Option Tomb) × ℕ → Frag × ℕ
as_change x = (frag.Change x.0.0 x.0.1, x.1)

pub row_found : (bytes : List ℕ) (keyed : List Comp × Row) (size : ℕ) → StartsRow bytes (Some (keyed, size)) → (key : List Comp) (row : Row) (more : List ℕ) → IsItem (RowItem key row) → bytes ≡ item_code (RowItem key row) ++ more
    → (let f : Frag × ℕ = (frag.Row keyed.0 keyed.1, size) in Some f) ≡ Some (frag.Row key row, length (item_code (RowItem key row)))
row_found bytes keyed size h key row more is e = ap (option_map as_row) (found_is row_item IsRowItem row_item_free bytes (key, row) more (Some (keyed, size)) is e h)

pub change_found : (bytes : List ℕ) (change : Pos × Option Tomb) (size : ℕ) → StartsChange bytes (Some (change, size)) → (x : Pos) (tomb : Option Tomb) (more : List ℕ) → IsItem (ChangeItem x tomb) → bytes ≡ item_code (ChangeItem x tomb) ++ more
    → (let f : Frag × ℕ = (frag.Change change.0 change.1, size) in Some f) ≡ Some (frag.Change x tomb, length (item_code (ChangeItem x tomb)))
change_found bytes change size h x tomb more is e = ap (option_map as_change) (found_is change_item IsChangeItem change_item_free bytes (x, tomb) more (Some (change, size)) is e h)

-- by the first byte
pub finds_row : (bytes rest : List ℕ) → bytes ≡ 2 ∷ rest → (P : Frag → Type 0)
    → ((key : List Comp) (row : Row) (more : List ℕ) → IsItem (RowItem key row) → bytes ≡ item_code (RowItem key row) ++ more → P (frag.Row key row))
    → (f : Frag) (more : List ℕ) → IsSpellable f → bytes ≡ frag_code f ++ more → P f
finds_row bytes rest p P h (frag.Start pt) more is e = absurd is
finds_row bytes rest p P h (frag.Static r) more is e = absurd is
finds_row bytes rest p P h (frag.Row k r) more is e = h k r more is e
finds_row bytes rest p P h (frag.Change x tomb) more is e = absurd (let q : 2 ≡ 3 = ap first_byte (sym p ∙ e) in omega arith)
finds_row bytes rest p P h frag.End more is e = absurd is

pub finds_change : (bytes : List ℕ) → ((rest : List ℕ) → bytes ≡ 2 ∷ rest → ⊥) → (P : Frag → Type 0)
    → ((x : Pos) (tomb : Option Tomb) (more : List ℕ) → IsItem (ChangeItem x tomb) → bytes ≡ item_code (ChangeItem x tomb) ++ more → P (frag.Change x tomb))
    → (f : Frag) (more : List ℕ) → IsSpellable f → bytes ≡ frag_code f ++ more → P f
finds_change bytes p P h (frag.Start pt) more is e = absurd is
finds_change bytes p P h (frag.Static r) more is e = absurd is
finds_change bytes p P h (frag.Row k r) more is e = absurd (p ((key_code k ++ row_code r) ++ more) e)
finds_change bytes p P h (frag.Change x tomb) more is e = h x tomb more is e
finds_change bytes p P h frag.End more is e = absurd is

-- ---- rows and changes up to the end

-- what is left of the bytes spells what is left of the fragments
abbrev pub Going : List ℕ → List Frag → List ℕ → Type 0
Going bytes made left = (fs : List Frag) → AllByRecursion IsSpellable fs → bytes ≡ flat_map frag_code fs ++ 4 ∷ []
    → (gs : List Frag) × (fs ≡ made ++ gs) × AllByRecursion IsSpellable gs × (left ≡ flat_map frag_code gs ++ 4 ∷ [])

some_pair : (x u : Frag × ℕ) → Some x ≡ Some u → x ≡ u
some_pair x u e = cc

one_on : (fs made : List Frag) (left : List ℕ) (frag : Frag) (size : ℕ) → (left ≡ 4 ∷ [] → ⊥) → Finds left (Some (frag, size)) → (gs : List Frag) → fs ≡ made ++ gs → AllByRecursion IsSpellable gs → left ≡ flat_map frag_code gs ++ 4 ∷ []
    → (hs : List Frag) × (fs ≡ (made ++ frag ∷ []) ++ hs) × AllByRecursion IsSpellable hs × (drop size left ≡ flat_map frag_code hs ++ 4 ∷ [])
one_on fs made left frag size more finds [] p is e = absurd (more e)
one_on fs made left frag size more finds (g ∷ gs) p is e =
    let rest = flat_map frag_code gs ++ 4 ∷ [] in
    let split : left ≡ frag_code g ++ rest = e ∙ append_assoc (frag_code g) (flat_map frag_code gs) (4 ∷ []) in
    let same = some_pair (frag, size) (g, length (frag_code g)) (finds g rest is.0 split) in
    (gs, p ∙ ap (λ (x : Frag × ℕ). made ++ x.0 ∷ gs) (sym same) ∙ sym (append_assoc made (frag ∷ []) gs), is.1, ap (drop size) split ∙ drop_at (frag_code g) rest size (sym (ap (λ (x : Frag × ℕ). x.1) same)))

pub going_on : (bytes : List ℕ) (made : List Frag) (left : List ℕ) (frag : Frag) (size : ℕ) → Going bytes made left → (left ≡ 4 ∷ [] → ⊥) → Finds left (Some (frag, size)) → Going bytes (made ++ frag ∷ []) (drop size left)
going_on bytes made left frag size going more finds fs is e = (let r = going fs is e in one_on fs made left frag size more finds r.0 r.1 r.2 r.3)

none_left : (left : List ℕ) → (left ≡ 4 ∷ [] → ⊥) → Finds left None → (gs : List Frag) → AllByRecursion IsSpellable gs → left ≡ flat_map frag_code gs ++ 4 ∷ [] → ⊥
none_left left more finds [] is e = more e
none_left left more finds (g ∷ gs) is e =
    absurd (let q = finds g (flat_map frag_code gs ++ 4 ∷ []) is.0 (e ∙ append_assoc (frag_code g) (flat_map frag_code gs) (4 ∷ [])) in cc)

pub going_stops : (bytes : List ℕ) (made : List Frag) (left : List ℕ) → Going bytes made left → (left ≡ 4 ∷ [] → ⊥) → Finds left None → (fs : List Frag) → AllByRecursion IsSpellable fs → bytes ≡ flat_map frag_code fs ++ 4 ∷ [] → ⊥
going_stops bytes made left going more finds fs is e = (let r = going fs is e in none_left left more finds r.0 r.2 r.3)

some_bytes : (f : Frag) → IsSpellable f → 1 ≤ length (frag_code f)
some_bytes (frag.Start pt) is = absurd is
some_bytes (frag.Static r) is = absurd is
some_bytes (frag.Row k r) is = omega arith
some_bytes (frag.Change x tomb) is = omega arith
some_bytes frag.End is = absurd is

all_made : (fs made : List Frag) (left : List ℕ) → left ≡ 4 ∷ [] → (gs : List Frag) → fs ≡ made ++ gs → AllByRecursion IsSpellable gs → left ≡ flat_map frag_code gs ++ 4 ∷ [] → made ≡ fs
all_made fs made left end [] p is e = sym (p ∙ append-nil made)
all_made fs made left end (g ∷ gs) p is e =
    absurd (omega (arith, some_bytes g is.0, ap length (sym end ∙ e), length-append (frag_code g ++ flat_map frag_code gs) (4 ∷ []), length-append (frag_code g) (flat_map frag_code gs)))

pub going_ends : (bytes : List ℕ) (made : List Frag) (left : List ℕ) → Going bytes made left → left ≡ 4 ∷ [] → (fs : List Frag) → AllByRecursion IsSpellable fs → bytes ≡ flat_map frag_code fs ++ 4 ∷ [] → made ≡ fs
going_ends bytes made left going end fs is e = (let r = going fs is e in all_made fs made left end r.0 r.1 r.2 r.3)

-- what was read so far spells the front of the bytes
pub text_on : (bytes : List ℕ) (made : List Frag) (left : List ℕ) (frag : Frag) (size : ℕ) → bytes ≡ flat_map frag_code made ++ left → left ≡ frag_code frag ++ drop size left → bytes ≡ flat_map frag_code (made ++ frag ∷ []) ++ drop size left
text_on bytes made left frag size e h =
    e ∙ ap (λ t. flat_map frag_code made ++ t) h
    ∙ sym (append_assoc (flat_map frag_code made) (frag_code frag) (drop size left))
    ∙ ap (λ t. t ++ drop size left) (sym (flat_map-append frag_code made (frag ∷ []) ∙ ap (λ t. flat_map frag_code made ++ t) (append-nil (frag_code frag))))

pub spelled_on : (made : List Frag) (frag : Frag) → AllByRecursion IsSpellable made → IsSpellable frag → AllByRecursion IsSpellable (made ++ frag ∷ [])
spelled_on [] frag h k = (k, tt)
spelled_on (f ∷ made) frag h k = (h.0, spelled_on made frag h.1 k)

-- ---- the items of a partition

pub code_of : (fs : List Frag) → Inner fs → flat_map item_code (flat_map frag_items fs) ≡ flat_map frag_code fs
code_of [] h = refl
code_of (frag.Start pt ∷ fs) h = absurd (let e = h.0 in cc)
code_of (frag.Static row ∷ fs) h = absurd (let e = h.0 in cc)
code_of (frag.Row key row ∷ fs) h = ap (λ t. item_code (RowItem key row) ++ t) (code_of fs h.1)
code_of (frag.Change x tomb ∷ fs) h = ap (λ t. item_code (ChangeItem x tomb) ++ t) (code_of fs h.1)
code_of (frag.End ∷ fs) h = absurd (let e = h.0 in cc)

spelled_of : (fs : List Frag) (xs : List Item) → Inner fs → AllByRecursion IsItem (flat_map frag_items fs ++ xs) → AllByRecursion IsSpellable fs
spelled_of [] xs h is = tt
spelled_of (frag.Start pt ∷ fs) xs h is = absurd (let e = h.0 in cc)
spelled_of (frag.Static row ∷ fs) xs h is = absurd (let e = h.0 in cc)
spelled_of (frag.Row key row ∷ fs) xs h is = (is.0, spelled_of fs xs h.1 is.1)
spelled_of (frag.Change x tomb ∷ fs) xs h is = (is.0, spelled_of fs xs h.1 is.1)
spelled_of (frag.End ∷ fs) xs h is = absurd (let e = h.0 in cc)

items_of_spelled : (fs : List Frag) → Inner fs → AllByRecursion IsSpellable fs → AllByRecursion IsItem (flat_map frag_items fs ++ EndItem ∷ [])
items_of_spelled [] h is = (tt, tt)
items_of_spelled (frag.Start pt ∷ fs) h is = absurd is.0
items_of_spelled (frag.Static row ∷ fs) h is = absurd is.0
items_of_spelled (frag.Row key row ∷ fs) h is = (is.0, items_of_spelled fs h.1 is.1)
items_of_spelled (frag.Change x tomb ∷ fs) h is = (is.0, items_of_spelled fs h.1 is.1)
items_of_spelled (frag.End ∷ fs) h is = absurd is.0

-- a partition's bytes: its part, its rows and changes, and its end
pub record IsPartBytes (bytes key : List ℕ) (m : Mutation) : Type 0 where
  pub part : IsItem (PartItem key m.pt m.statics)
  pub parts : bytes ≡ item_code (PartItem key m.pt m.statics) ++ (flat_map frag_code (rows_and_changes m) ++ 4 ∷ [])
  pub spelled : AllByRecursion IsSpellable (rows_and_changes m)

pub part_bytes : (bytes key : List ℕ) (m : Mutation) → IsMutation m → AllByRecursion IsItem (part_items (record { key = key; change = m })) → bytes ≡ flat_map item_code (part_items (record { key = key; change = m })) → IsPartBytes bytes key m
part_bytes bytes key m is items e =
    let inner = between-inner m is in
    let rest : flat_map item_code (flat_map frag_items (rows_and_changes m) ++ EndItem ∷ []) ≡ flat_map frag_code (rows_and_changes m) ++ 4 ∷ [] = flat_map-append item_code (flat_map frag_items (rows_and_changes m)) (EndItem ∷ []) ∙ ap (λ t. t ++ 4 ∷ []) (code_of (rows_and_changes m) inner) in
    record {
      part = items.0;
      parts = e ∙ ap (λ xs. item_code (PartItem key m.pt m.statics) ++ flat_map item_code xs) (items_of m) ∙ ap (λ t. item_code (PartItem key m.pt m.statics) ++ t) rest;
      spelled = spelled_of (rows_and_changes m) (EndItem ∷ []) inner (subst (λ (xs : List Item). AllByRecursion IsItem xs) (items_of m) items.1);
    }

-- and such bytes are its items
pub items_spelled : (bytes key : List ℕ) (m : Mutation) → IsMutation m → IsPartBytes bytes key m → AllByRecursion IsItem (part_items (record { key = key; change = m })) × (bytes ≡ flat_map item_code (part_items (record { key = key; change = m })))
items_spelled bytes key m is b =
    let inner = between-inner m is in
    let rest : flat_map item_code (flat_map frag_items (rows_and_changes m) ++ EndItem ∷ []) ≡ flat_map frag_code (rows_and_changes m) ++ 4 ∷ [] = flat_map-append item_code (flat_map frag_items (rows_and_changes m)) (EndItem ∷ []) ∙ ap (λ t. t ++ 4 ∷ []) (code_of (rows_and_changes m) inner) in (
      (b.part, subst (λ (xs : List Item). AllByRecursion IsItem xs) (sym (items_of m)) (items_of_spelled (rows_and_changes m) inner b.spelled)),
      b.parts ∙ ap (λ t. item_code (PartItem key m.pt m.statics) ++ t) (sym rest) ∙ ap (λ xs. item_code (PartItem key m.pt m.statics) ++ flat_map item_code xs) (sym (items_of m)),
    )
