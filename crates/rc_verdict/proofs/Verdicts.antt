-- Two walks over the same bytes, as far as items fit, are one.
use Rattle.std.proofs.Common.{◌≡◌, ℕ, List, [], ◌∷◌, ◌++◌, length, drop, refl, sym, ap, ◌∙◌, subst, arith, append_assoc, append-nil}
use Rattle.std.specs.Prelude.{IfErr, Result, Ok, Err, map as list_map}
use Rattle.std.specs.List.{flat_map}
use Rattle.std.proofs.lemmas.List.{drop_at, length-append}
use Rattle.rc_schema.specs.SchemaValue.{SchemaValue}
use Rattle.rc_mutation.specs.declared.mutations.Partition.{Partition}
use Rattle.rc_tfile.specs.declared.checking.CheckErr.{CheckErr}
use Rattle.rc_tfile.specs.declared.checking.CheckErr.TheVariants.{Fault, Damaged, OtherSchema, NoMemory}
use Rattle.rc_tfile.specs.declared.info.TableInfo.{TableInfo}
use Rattle.rc_tfile.specs.Items.{Item, HeadItem, StopItem, EntryItem, BlockItem, TailItem, item_code, IsItem}
use Rattle.rc_tfile.specs.Before.{ItemsBefore, text, offset, followed_by}
use Rattle.rc_tfile.specs.Blocks.{DirectoryEntry, entries, entry_items, ending}
use Rattle.rc_tfile.specs.TableText.{ItemFits, AllFit, part_items, items_to_stop, whole_table, IsTable, IsOtherSchema, FirstDamage}
use Rattle.rc_tfile.specs.Checking.{IsHostError}
use Rattle.rc_tfile.specs.Info.{refs_from, info_of}
use Rattle.rc_tfile.specs.Walking.{ChecksTable}
use Rattle.rc_tfile.specs.laws.Follows.{followed_by-append, text-followed_by}
use Rattle.rc_verdict.proofs.Items.{some_bytes, one_item, one_head}

-- no item fits with which the bytes begin
abbrev Nothing : SchemaValue → ItemsBefore → List ℕ → Type 0
Nothing schema before bytes = (x : Item) (more : List ℕ) → ItemFits schema before x → bytes ≡ item_code x ++ more → ⊥

front_fits : (schema : SchemaValue) (before : ItemsBefore) (xs : List Item) → AllFit schema (followed_by before xs) → AllFit schema before
front_fits schema before [] f = f
front_fits schema before (x ∷ xs) f = (front_fits schema (x ∷ before) xs f).0

next_fits : (schema : SchemaValue) (before : ItemsBefore) (x : Item) (xs : List Item) → AllFit schema (followed_by before (x ∷ xs)) → ItemFits schema before x
next_fits schema before x xs f = (front_fits schema (x ∷ before) xs f).1

same_rest : (front m n : List ℕ) → front ++ m ≡ front ++ n → m ≡ n
same_rest front m n e = sym (drop_at front m (length front) refl) ∙ ap (drop (length front)) e ∙ drop_at front n (length front) refl

-- items that fit behind the same ones, as many as there are of the same bytes, are the same
one_walk : (schema : SchemaValue) (before : ItemsBefore) (xs ys : List Item) (m n : List ℕ) → AllFit schema (followed_by before xs) → AllFit schema (followed_by before ys) → flat_map item_code xs ++ m ≡ flat_map item_code ys ++ n
    → Nothing schema (followed_by before xs) m → Nothing schema (followed_by before ys) n → followed_by before xs ≡ followed_by before ys
one_walk schema before [] [] m n f g e none past = refl
one_walk schema before (x ∷ xs) [] m n f g e none past = absurd (past x (flat_map item_code xs ++ m) (next_fits schema before x xs f) (sym e ∙ append_assoc (item_code x) (flat_map item_code xs) m))
one_walk schema before [] (y ∷ ys) m n f g e none past = absurd (none y (flat_map item_code ys ++ n) (next_fits schema before y ys g) (e ∙ append_assoc (item_code y) (flat_map item_code ys) n))
one_walk schema before (x ∷ xs) (y ∷ ys) m n f g e none past =
    let ours : flat_map item_code (x ∷ xs) ++ m ≡ item_code x ++ (flat_map item_code xs ++ m) = append_assoc (item_code x) (flat_map item_code xs) m in
    let bytes : item_code x ++ (flat_map item_code xs ++ m) ≡ item_code y ++ (flat_map item_code ys ++ n) = sym ours ∙ e ∙ append_assoc (item_code y) (flat_map item_code ys) n in
    let same : x ≡ y = one_item schema before x y (flat_map item_code xs ++ m) (flat_map item_code ys ++ n) (next_fits schema before x xs f) (next_fits schema before y ys g) bytes in
    subst (λ z. AllFit schema (followed_by (z ∷ before) ys) → item_code x ++ (flat_map item_code xs ++ m) ≡ item_code z ++ (flat_map item_code ys ++ n) → Nothing schema (followed_by (z ∷ before) ys) n → followed_by (x ∷ before) xs ≡ followed_by (z ∷ before) ys)
    same
    (λ g e past. one_walk schema (x ∷ before) xs ys m n f g (same_rest (item_code x) (flat_map item_code xs ++ m) (flat_map item_code ys ++ n) e) none past)
    g bytes past

-- items in the order of the file
abbrev forward : ItemsBefore → List Item
forward [] = []
forward (x ∷ before) = forward before ++ x ∷ []

forward-back : (before : ItemsBefore) → followed_by [] (forward before) ≡ before
forward-back [] = refl
forward-back (x ∷ before) = followed_by-append [] (forward before) (x ∷ []) ∙ ap (λ b. x ∷ b) (forward-back before)

forward-text : (before : ItemsBefore) → text before ≡ flat_map item_code (forward before)
forward-text before = ap text (sym (forward-back before)) ∙ text-followed_by [] (forward before)

one_before : (schema : SchemaValue) (b c : ItemsBefore) (m n : List ℕ) → AllFit schema b → AllFit schema c → text b ++ m ≡ text c ++ n → Nothing schema b m → Nothing schema c n → b ≡ c
one_before schema b c m n f g e none past =
    let here = forward-back b in
    let there = forward-back c in
    sym here ∙ one_walk schema [] (forward b) (forward c) m n (subst (AllFit schema) (sym here) f) (subst (AllFit schema) (sym there) g)
    (ap (λ t. t ++ m) (sym (forward-text b)) ∙ e ∙ ap (λ t. t ++ n) (forward-text c))
    (subst (λ t. Nothing schema t m) (sym here) none) (subst (λ t. Nothing schema t n) (sym there) past)
    ∙ there

-- behind all bytes no item stands
none_at_the_end : (schema : SchemaValue) (before : ItemsBefore) → Nothing schema before []
none_at_the_end schema before x more f e = absurd (omega (arith, ap length e, length-append (item_code x) more, some_bytes x))

-- items without what stands behind the nearest stop
abbrev up_to_stop : ItemsBefore → ItemsBefore
up_to_stop [] = []
up_to_stop (StopItem ∷ before) = StopItem ∷ before
up_to_stop (x ∷ before) = up_to_stop before

no_stop_in_blocks : (before : ItemsBefore) (e : DirectoryEntry) → up_to_stop (followed_by before (entry_items e)) ≡ up_to_stop before
no_stop_in_blocks before e = blocks (EntryItem e.key e.off (length e.blocks) ∷ before) e.blocks where
  blocks : (before : ItemsBefore) (bs : _) → up_to_stop (followed_by before (list_map BlockItem bs)) ≡ up_to_stop before
  blocks before [] = refl
  blocks before (b ∷ bs) = blocks (BlockItem b ∷ before) bs

no_stop_in_entries : (before : ItemsBefore) (es : List DirectoryEntry) → up_to_stop (followed_by before (flat_map entry_items es)) ≡ up_to_stop before
no_stop_in_entries before [] = refl
no_stop_in_entries before (e ∷ es) =
    ap up_to_stop (followed_by-append before (entry_items e) (flat_map entry_items es)) ∙ no_stop_in_entries (followed_by before (entry_items e)) es ∙ no_stop_in_blocks before e

-- the items up to the stop are those of the body
body_of : (schema : SchemaValue) (parts : List Partition) → up_to_stop (whole_table schema parts) ≡ items_to_stop schema parts
body_of schema parts =
    let b = items_to_stop schema parts in
    let tail = TailItem (offset b) (length (entries b)) ∷ [] in
    let items = flat_map part_items parts in
    let stop : b ≡ StopItem ∷ followed_by (HeadItem schema ∷ []) items = followed_by-append (HeadItem schema ∷ []) items (StopItem ∷ []) in
    ap up_to_stop (followed_by-append b (flat_map entry_items (entries b)) tail) ∙ no_stop_in_entries b (entries b) ∙ ap up_to_stop stop ∙ sym stop

module _ (bytes : List ℕ) (schema : SchemaValue) where
  whole : (parts : List Partition) → IsTable bytes schema parts → bytes ≡ text (whole_table schema parts) ++ []
  whole parts is = is.spelled ∙ sym (append-nil (text (whole_table schema parts)))

  pub not_damaged : (parts : List Partition) (off : ℕ) → IsTable bytes schema parts → FirstDamage bytes schema off → ⊥
  not_damaged parts off is damage =
      let t = whole_table schema parts in
      let same : t ≡ damage.before = one_before schema t damage.before [] damage.behind is.fit damage.fit (sym (whole parts is) ∙ damage.spelled) (none_at_the_end schema t) damage.unfit in
      let rest : [] ≡ damage.behind = same_rest (text t) [] damage.behind (sym (whole parts is) ∙ damage.spelled ∙ ap (λ b. text b ++ damage.behind) (sym same)) in
      let b = items_to_stop schema parts in
      let tail : t ≡ TailItem (offset b) (length (entries b)) ∷ followed_by b (flat_map entry_items (entries b)) = followed_by-append b (flat_map entry_items (entries b)) (TailItem (offset b) (length (entries b)) ∷ []) in
      damage.not_whole (offset b) (length (entries b)) (followed_by b (flat_map entry_items (entries b))) (sym same ∙ tail) (sym rest)

  pub one_damage : (one two : ℕ) → FirstDamage bytes schema one → FirstDamage bytes schema two → one ≡ two
  one_damage one two d c = d.here ∙ ap offset (one_before schema d.before c.before d.behind c.behind d.fit c.fit (sym d.spelled ∙ c.spelled) d.unfit c.unfit) ∙ sym c.here

  pub one_table : (one two : List Partition) → IsTable bytes schema one → IsTable bytes schema two → whole_table schema one ≡ whole_table schema two
  one_table one two h k = one_before schema (whole_table schema one) (whole_table schema two) [] [] h.fit k.fit (sym (whole one h) ∙ whole two k) (none_at_the_end schema (whole_table schema one)) (none_at_the_end schema (whole_table schema two))

  pub not_other : (parts : List Partition) → IsTable bytes schema parts → IsOtherSchema bytes schema → ⊥
  not_other parts is other =
      let b = items_to_stop schema parts in
      let items = flat_map part_items parts ++ StopItem ∷ [] in
      let front : text b ≡ item_code (HeadItem schema) ++ flat_map item_code items = text-followed_by [] (HeadItem schema ∷ items) in
      let all : bytes ≡ item_code (HeadItem schema) ++ (flat_map item_code items ++ flat_map item_code (ending b)) =
      is.spelled ∙ text-followed_by b (ending b) ∙ ap (λ t. t ++ flat_map item_code (ending b)) front ∙ append_assoc (item_code (HeadItem schema)) (flat_map item_code items) (flat_map item_code (ending b)) in
      let head : IsItem (HeadItem schema) = (next_fits schema [] (HeadItem schema) items (front_fits schema b (ending b) is.fit)).0 in
      other.differs (one_head other.other schema other.more (flat_map item_code items ++ flat_map item_code (ending b)) other.fits head (sym other.head ∙ all))

  one_info : (n : ℕ) (one two : List Partition) → IsTable bytes schema one → IsTable bytes schema two → info_of n schema one ≡ info_of n schema two
  one_info n one two h k =
      let same : items_to_stop schema one ≡ items_to_stop schema two = sym (body_of schema one) ∙ ap up_to_stop (one_table one two h k) ∙ body_of schema two in
      λ i. record { number = n; parts = refs_from (offset (same i)) (entries (same i)) }

-- what is known of a text is one answer
pub one_answer : (bytes : List ℕ) (n : ℕ) (schema : SchemaValue) (one two : Result TableInfo CheckErr) → ChecksTable bytes n schema one → ChecksTable bytes n schema two → IfErr one (λ e. IsHostError e → ⊥) → IfErr two (λ e. IsHostError e → ⊥) → one ≡ two
one_answer bytes n schema (Err Fault) two h k f g = absurd (f tt)
one_answer bytes n schema (Err NoMemory) two h k f g = absurd (f tt)
one_answer bytes n schema (Ok info) (Ok other) h k f g = ap Ok (h.3 ∙ one_info bytes schema n h.0 k.0 h.2 k.2 ∙ sym k.3)
one_answer bytes n schema (Ok info) (Err Fault) h k f g = absurd (g tt)
one_answer bytes n schema (Ok info) (Err (Damaged off)) h k f g = absurd (not_damaged bytes schema h.0 off h.2 k)
one_answer bytes n schema (Ok info) (Err OtherSchema) h k f g = absurd (not_other bytes schema h.0 h.2 k)
one_answer bytes n schema (Ok info) (Err NoMemory) h k f g = absurd (g tt)
one_answer bytes n schema (Err (Damaged off)) (Ok info) h k f g = absurd (not_damaged bytes schema k.0 off k.2 h)
one_answer bytes n schema (Err (Damaged off)) (Err Fault) h k f g = absurd (g tt)
one_answer bytes n schema (Err (Damaged off)) (Err (Damaged two)) h k f g = ap (λ o. Err (Damaged o)) (one_damage bytes schema off two h k)
one_answer bytes n schema (Err (Damaged off)) (Err OtherSchema) h k f g = absurd (h.same_schema k)
one_answer bytes n schema (Err (Damaged off)) (Err NoMemory) h k f g = absurd (g tt)
one_answer bytes n schema (Err OtherSchema) (Ok info) h k f g = absurd (not_other bytes schema k.0 k.2 h)
one_answer bytes n schema (Err OtherSchema) (Err Fault) h k f g = absurd (g tt)
one_answer bytes n schema (Err OtherSchema) (Err (Damaged off)) h k f g = absurd (k.same_schema h)
one_answer bytes n schema (Err OtherSchema) (Err OtherSchema) h k f g = refl
one_answer bytes n schema (Err OtherSchema) (Err NoMemory) h k f g = absurd (g tt)
