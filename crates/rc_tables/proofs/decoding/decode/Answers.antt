-- The part is read, the rows and changes behind it, and both are those of the mutation.
use Rattle.std.proofs.Common.{◌≡◌, ◌++◌, ◌∷◌, [], ℕ, List, ap, sym, ◌∙◌, Some, Option, true, false, length, take, drop, ◌-◌, None, subst}
use Rattle.std.specs.Prelude.{IfSome}
use Rattle.std.specs.List.{flat_map, AllByRecursion}
use Rattle.std.specs.Option.{option_map}
use Rattle.std.proofs.lemmas.List.{take_rest, drop_at}
use Rattle.rc_mutation.specs.declared.fragments.Frag.{Frag}
use Rattle.rc_mutation.specs.declared.mutations.Mutation.{Mutation}
use Rattle.rc_tfile.specs.Part.{Part}
use Rattle.rc_tfile.specs.Items.{PartItem, item_code}
use Rattle.rc_tfile.specs.Reading.{Starts}
use Rattle.rc_writes.specs.Allowed.{IsStaticOf}
use Rattle.rc_tables.specs.calls.Rebuilt.{AllCome, IsSpellable, frag_code}
use Rattle.rc_mutation.specs.Fragments.{rows_and_changes}
use Rattle.rc_tables.proofs.Coming.{comes, decoded_exactly, none_found}
use Rattle.rc_tables.proofs.Spelled.{IsPartBytes, part_bytes, found_is, part_free, code_of_part, IsPartItem}
use Rattle.rc_tables.proofs.decoding.decode.Goals as goal

-- the part of a mutation
abbrev part_of : List ℕ → Mutation → Part
part_of key m = record { key = key; head = record { pt = m.pt; statics = m.statics } }

-- it is what is read
part_read : (bytes key : List ℕ) (m : Mutation) (found : Option (Part × ℕ)) → IsPartBytes bytes key m → Starts code_of_part IsPartItem bytes found → found ≡ Some (part_of key m, length (code_of_part (part_of key m)))
part_read bytes key m found b h = found_is code_of_part IsPartItem part_free bytes (part_of key m) (flat_map frag_code (rows_and_changes m) ++ 4 ∷ []) found b.part b.parts h

same_pair : (x y : Part × ℕ) → Some x ≡ Some y → x ≡ y
same_pair x y e = cc

-- what is read behind it are the rows and changes
rest_read : (bytes key : List ℕ) (m : Mutation) (part : Part) (size : ℕ) (found : Option (Part × ℕ)) → IsPartBytes bytes key m → Starts code_of_part IsPartItem bytes found → found ≡ Some (part, size)
    → take (length bytes - size) (drop size bytes) ≡ flat_map frag_code (rows_and_changes m) ++ 4 ∷ []
rest_read bytes key m part size found b h is =
    let one : Part × ℕ = (part, size) in
    let wanted : Part × ℕ = (part_of key m, length (code_of_part (part_of key m))) in
    let same : one ≡ wanted = same_pair one wanted (sym is ∙ part_read bytes key m found b h) in
    take_rest bytes size ∙ ap (drop size) b.parts ∙ drop_at (item_code (PartItem key m.pt m.statics)) (flat_map frag_code (rows_and_changes m) ++ 4 ∷ []) size (sym (ap (λ (x : Part × ℕ). x.1) same))

part_is : (bytes key : List ℕ) (m : Mutation) (part : Part) (size : ℕ) (found : Option (Part × ℕ)) → IsPartBytes bytes key m → Starts code_of_part IsPartItem bytes found → found ≡ Some (part, size) → part ≡ part_of key m
part_is bytes key m part size found b h is =
    let one : Part × ℕ = (part, size) in
    let wanted : Part × ℕ = (part_of key m, length (code_of_part (part_of key m))) in
    ap (λ (x : Part × ℕ). x.0) (same_pair one wanted (sym is ∙ part_read bytes key m found b h))

same_list : (xs ys : List Frag) → Some xs ≡ Some ys → xs ≡ ys
same_list xs ys e = cc

clash : {P : Type 0} → true ≡ false → P
clash e = absurd cc

pub returns-in_default : goal.returns-in_default
returns-in_default c = none_found c.args.schema.now c.args.key.now c.args.bytes.now
    (λ m p. absurd (let q = sym c.in_default.is ∙ part_read c.args.bytes.now c.args.key.now m c.in_ok-part.field-0 (part_bytes c.args.bytes.now c.args.key.now m p.says.0 p.items p.spelled) c.in_ok-part.ensures.value in cc))

pub returns-then-not-is_part_of : goal.returns-then-not-is_part_of
returns-then-not-is_part_of c = none_found c.args.schema.now c.args.key.now c.args.bytes.now (λ m p.
    let same = part_is c.args.bytes.now c.args.key.now m c.in-Some.part c.in-Some.size c.in_ok-part.field-0 (part_bytes c.args.bytes.now c.args.key.now m p.says.0 p.items p.spelled) c.in_ok-part.ensures.value c.in-Some.is in
    let statics = subst (λ (x : Part). IsStaticOf c.args.schema.now x.head.statics) (sym same) p.says.1.statics in
    clash (sym (c.is_part_of.ensures.1 (ap (λ (x : Part). x.key) same, statics)) ∙ c.if-not-is_part_of.true))

pub returns-in_default-2 : goal.returns-in_default-2
returns-in_default-2 c = none_found c.args.schema.now c.args.key.now c.args.bytes.now (λ m p.
    let b = part_bytes c.args.bytes.now c.args.key.now m p.says.0 p.items p.spelled in
    let read = c.in_ok-frags.ensures.found (rows_and_changes m) b.spelled (rest_read c.args.bytes.now c.args.key.now m c.in-Some.part c.in-Some.size c.in_ok-part.field-0 b c.in_ok-part.ensures.value c.in-Some.is) (comes c.args.schema.now m p.says) in
    absurd (let q = sym (ap (option_map (λ v. v.items)) c.in_default-2.is) ∙ read in cc))

pub returns : goal.returns
returns c =
    let bytes = c.args.bytes.now in
    let part = c.in-Some.part in
    let size = c.in-Some.size in
    let fs = c.in-Some-2.frags.items in
    let starts = subst (λ f. Starts code_of_part IsPartItem bytes f) c.in-Some.is c.in_ok-part.ensures.value in
    let read = subst (λ f. IfSome f (λ v. AllByRecursion IsSpellable v.items × (take (length bytes - size) (drop size bytes) ≡ flat_map frag_code v.items ++ 4 ∷ []) × AllCome c.args.schema.now None None v.items)) c.in-Some-2.is c.in_ok-frags.ensures.spelled in
    let here = c.is_part_of.ensures.0 c.if-not-is_part_of.false in
    decoded_exactly c.args.schema.now c.args.key.now bytes part size fs c.a_canonical_list_is_that_of_a_mutation.ensures.is_of_one here.0 starts.0 starts.1 here.1 (sym (take_rest bytes size) ∙ read.1) read.0 read.2
    c.mutation_of.result (λ m is e h. c.mutation_of.ensures m is (c.as_slice.ensures.value ∙ e) h)
    (λ m p.
    let b = part_bytes bytes c.args.key.now m p.says.0 p.items p.spelled in
    let found = c.in_ok-frags.ensures.found (rows_and_changes m) b.spelled (rest_read bytes c.args.key.now m part size c.in_ok-part.field-0 b c.in_ok-part.ensures.value c.in-Some.is) (comes c.args.schema.now m p.says) in
    let frags = same_list fs (rows_and_changes m) (sym (ap (option_map (λ v. v.items)) c.in-Some-2.is) ∙ found) in
    let same = part_is bytes c.args.key.now m part size c.in_ok-part.field-0 b c.in_ok-part.ensures.value c.in-Some.is in
    c.mutation_of.ensures m p.says.0 (c.as_slice.ensures.value ∙ frags) (ap (λ (x : Part). x.head) same))
