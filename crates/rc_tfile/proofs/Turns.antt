-- One item more up to the stop, or none that fits.
use Rattle.std.proofs.Common.{◌≡◌, ◌≢◌, ℕ, ◌+◌, ◌≤◌, Bool, true, false, List, [], ◌∷◌, ◌++◌, length, drop, Option, Some, Err, refl, sym, ap, ◌∙◌, subst, arith, append_assoc, append-nil}
use Rattle.std.proofs.lemmas.List.{drop_at, length-append}
use Rattle.rc_outside.specs.Files.{Files}
use Rattle.rc_schema.specs.SchemaValue.{SchemaValue}
use Rattle.rc_tfile.specs.declared.checking.CheckErr.{CheckErr}
use Rattle.rc_tfile.specs.declared.checking.CheckErr.TheVariants.{Fault, Damaged, OtherSchema, NoMemory}
use Rattle.rc_items.specs.declared.outline.Outline.{Outline}
use Rattle.rc_items.specs.declared.stepping.Next.TheVariants as next
use Rattle.rc_items.specs.Items.{Item, HeadItem, PartItem, RowItem, ChangeItem, EndItem, StopItem, EntryItem, BlockItem, TailItem, item_code, IsItem}
use Rattle.rc_items.specs.Before.{ItemsBefore, Start, Behind, text, offset, item_place}
use Rattle.rc_items.specs.TableText.{ItemFits, AllFit, IsOtherSchema, FirstDamage}
use Rattle.rc_items.specs.Outlined.{IsOutline, outline_place}
use Rattle.rc_tfile.specs.Checking.{ChecksHead, AsksFew}
use Rattle.rc_items.specs.Stepping.{IsNextItem}
use Rattle.rc_items.specs.Reading.{Starts}
use Rattle.rc_tfile.specs.calls.Windows.{ReadAhead, IsAhead, IsItemAhead, IsAheadIn, looked_past, reads_left}
use Rattle.rc_tfile.specs.Walking.{IsRefusalOf}
use Rattle.rc_tfile.specs.calls.Walking.{EndsWithTail, IsCheckRefused, StandsAhead, Stopped}
use Rattle.rc_tfile.proofs.Ahead.{ahead_decides}
use Rattle.rc_items.specs.laws.Heads.{one_schema}
use Rattle.rc_items.specs.laws.Unfit.{Nothing, between_no_start, inside_no_start}
use Rattle.rc_tfile.proofs.Lengths.{fits_within, some_bytes}

-- ---- bytes that were looked at

past_is : (content front code more : List ℕ) (w : ReadAhead) → IsAhead content front w → w.ahead ≡ code ++ more → IsAhead content (front ++ code) (looked_past (length code) w)
past_is content front code more w is e =
    let left : drop (length code) w.ahead ≡ more = ap (drop (length code)) e ∙ drop_at code more (length code) refl in record {
      unread = is.unread;
      whole = is.whole ∙ ap (λ t. front ++ t) (ap (λ a. a ++ is.unread) e ∙ append_assoc code more is.unread) ∙ sym (append_assoc front code (more ++ is.unread)) ∙ ap (λ r. (front ++ code) ++ (r ++ is.unread)) (sym left);
      size = is.size;
      read = omega (arith, is.read, ap length e, length-append code more, length-append front code, ap length left);
    }

pub told_past : (files : Option Files) (front code more : List ℕ) (w v : ReadAhead) (n : ℕ) → IsAheadIn files front w → w.ahead ≡ code ++ more → n ≡ length code → v ≡ looked_past n w → IsAheadIn files (front ++ code) v
told_past files front code more w v n told e s p =
    let there : IsAheadIn files (front ++ code) (looked_past n w) = λ content is. subst (λ k. IsAhead content (front ++ code) (looked_past k w)) (sym s) (past_is content front code more w (told content is) e) in
    subst (λ u. IsAheadIn files (front ++ code) u) (sym p) there

-- the reads of a whole file
pub few_reads : (w : ReadAhead) (bytes : List ℕ) (before now : ℕ) → w.read ≡ 0 → w.size ≡ length bytes → now ≤ before + reads_left w → AsksFew before now bytes
unfolding reads_left
few_reads w bytes before now r s h = omega (arith, r, s, h)

-- ---- the head

alone : (schema : SchemaValue) (x : Item) → ItemFits schema [] x → (more : List ℕ) × IsItem (HeadItem schema) × (item_code x ≡ item_code (HeadItem schema) ++ more)
alone schema (HeadItem other) f = ([], subst (λ z. IsItem (HeadItem z)) f.1.1 f.0, ap (λ z. item_code (HeadItem z)) f.1.1 ∙ sym (append-nil (item_code (HeadItem schema))))
alone schema (PartItem key pt statics) f = absurd (between_no_start f.1.0)
alone schema (RowItem key row) f = absurd (inside_no_start f.1.0)
alone schema (ChangeItem x tomb) f = absurd (inside_no_start f.1.0)
alone schema EndItem f = absurd (inside_no_start f.1.0)
alone schema StopItem f = absurd (between_no_start f.1)
alone schema (EntryItem key off blocks) f = absurd (let q : [] ≡ EntryItem key off blocks ∷ f.1.0 = f.1.1 in cc)
alone schema (BlockItem b) f = absurd (let q : [] ≡ BlockItem b ∷ f.1.0 = f.1.1 in cc)
alone schema (TailItem off parts) f = absurd (let q : [] ≡ TailItem off parts ∷ f.1.0 = f.1.1 in cc)

-- the first of items that fit is the schema's head
head_first : (schema : SchemaValue) (before : ItemsBefore) → AllFit schema before → (before ≡ [] → ⊥) → (more : List ℕ) × IsItem (HeadItem schema) × (text before ≡ item_code (HeadItem schema) ++ more)
head_first schema [] fit h = absurd (h refl)
head_first schema (x ∷ []) fit h = alone schema x fit.1
head_first schema (x ∷ y ∷ before) fit h =
    let front = head_first schema (y ∷ before) fit.0 (λ e. absurd cc) in
    (front.0 ++ item_code x, front.1, ap (λ t. t ++ item_code x) front.2 ∙ append_assoc (item_code (HeadItem schema)) front.0 (item_code x))

-- bytes that begin with no head are damaged at the start
pub head_refused : (bytes : List ℕ) (schema : SchemaValue) (e : CheckErr) → ChecksHead bytes (Err e) → IsRefusalOf bytes schema e
head_refused bytes schema Fault h = tt
head_refused bytes schema (Damaged off) h = record {
  before = [];
  behind = bytes;
  spelled = refl;
  fit = tt;
  here = h.0;
  unfit = λ x more f e. (let a = alone schema x f in h.1 schema (a.0 ++ more, a.1, e ∙ ap (λ t. t ++ more) a.2 ∙ append_assoc (item_code (HeadItem schema)) a.0 more));
  not_whole = λ dir parts earlier e. absurd (let q : [] ≡ TailItem dir parts ∷ earlier = e in cc);
  same_schema = λ o. h.1 o.other (o.more, o.fits, o.head);
}
head_refused bytes schema OtherSchema h = absurd h
head_refused bytes schema NoMemory h = tt

-- behind the head
pub head_stands : (files : Option Files) (schema found : SchemaValue) (o : Outline) (w v : ReadAhead) (size : ℕ) → IsAheadIn files [] w → Starts (λ z. item_code (HeadItem z)) (λ z. IsItem (HeadItem z)) w.ahead (Some (found, size)) → found ≡ schema → v ≡ looked_past size w
    → ((z : SchemaValue) → size ≡ length (item_code (HeadItem z)) → IsOutline (HeadItem z ∷ []) o) → StandsAhead files schema o v
head_stands files schema found o w v size told starts same p outline =
    let is : Starts (λ z. item_code (HeadItem z)) (λ z. IsItem (HeadItem z)) w.ahead (Some (schema, size)) = subst (λ z. Starts (λ y. item_code (HeadItem y)) (λ y. IsItem (HeadItem y)) w.ahead (Some (z, size))) same starts in record {
      before = HeadItem schema ∷ [];
      fit = (tt, (is.0, (refl, refl)));
      outline = outline schema is.2;
      told = told_past files [] (item_code (HeadItem schema)) (drop size w.ahead) w v size told is.1 is.2 p;
    }

head_free : (z o : SchemaValue) (m k : List ℕ) → IsItem (HeadItem z) → IsItem (HeadItem o) → item_code (HeadItem z) ++ m ≡ item_code (HeadItem o) ++ k → z ≡ o
head_free z o m k hz ho e = one_schema z o m k hz ho (ap (drop 4) e)

same_schema : (content behind : List ℕ) (schema : SchemaValue) (before : ItemsBefore) → AllFit schema before → (before ≡ [] → ⊥) → content ≡ text before ++ behind → IsOtherSchema content schema → ⊥
same_schema content behind schema before fit some e other =
    let front = head_first schema before fit some in
    other.differs (head_free other.other schema other.more (front.0 ++ behind) other.fits front.1 (sym other.head ∙ e ∙ ap (λ t. t ++ behind) front.2 ∙ append_assoc (item_code (HeadItem schema)) front.0 behind))

pub first_damage : (content behind : List ℕ) (schema : SchemaValue) (before : ItemsBefore) (off : ℕ) → AllFit schema before → (before ≡ [] → ⊥) → content ≡ text before ++ behind → off ≡ offset before
    → (EndsWithTail before → behind ≢ []) → Nothing schema before behind → FirstDamage content schema off
first_damage content behind schema before off fit some e here whole none = record {
  before = before;
  behind = behind;
  spelled = e;
  fit = fit;
  here = here;
  unfit = none;
  not_whole = λ dir parts earlier e. whole (subst EndsWithTail (sym e) tt);
  same_schema = same_schema content behind schema before fit some e;
}

-- ---- up to the stop

place_known : (b : Bool) → (outline_place b ≡ Behind → ⊥) × (Start ≡ outline_place b → ⊥)
place_known true = (λ e. absurd cc, λ e. absurd cc)
place_known false = (λ e. absurd cc, λ e. absurd cc)

tail_behind : (before : ItemsBefore) → EndsWithTail before → item_place before ≡ Behind
tail_behind [] h = absurd h
tail_behind (HeadItem schema ∷ before) h = absurd h
tail_behind (PartItem key pt statics ∷ before) h = absurd h
tail_behind (RowItem key row ∷ before) h = absurd h
tail_behind (ChangeItem x tomb ∷ before) h = absurd h
tail_behind (EndItem ∷ before) h = absurd h
tail_behind (StopItem ∷ before) h = absurd h
tail_behind (EntryItem key off blocks ∷ before) h = absurd h
tail_behind (BlockItem b ∷ before) h = absurd h
tail_behind (TailItem off parts ∷ before) h = refl

pub offset_is : (content front : List ℕ) (w : ReadAhead) (off : ℕ) → IsAhead content front w → off + length w.ahead ≡ w.read → off ≡ length front
offset_is content front w off is h = omega (arith, is.read, h)

module _ (files : Option Files) (schema : SchemaValue) (before : ItemsBefore) (fit : AllFit schema before) where
  pub item_damage : (o : Outline) (w : ReadAhead) (off : ℕ) → IsOutline before o → IsAheadIn files (text before) w → IsItemAhead w → off + length w.ahead ≡ w.read → Nothing schema before w.ahead → IsCheckRefused files w.number schema (Damaged off)
  item_damage o w off outline told full h none = λ content is.
      let at = told content is in
      let known = place_known o.inside in
      let not_behind : item_place before ≡ Behind → ⊥ = λ b. known.0 (sym outline.inside ∙ b) in
      first_damage content (w.ahead ++ at.unread) schema before off fit (λ e. known.1 (sym (ap item_place e) ∙ outline.inside)) at.whole (offset_is content (text before) w off at h) (λ t. absurd (not_behind (tail_behind before t)))
      (λ x more f e. (let there = ahead_decides content (text before) w at full (item_code x) more (fits_within schema before x not_behind f) (at.whole ∙ ap (λ t. text before ++ t) e) in none x there.0 f there.1))

  pub item_more : (bytes : List ℕ) (o : Outline) (w v : ReadAhead) (size : ℕ) → IsAheadIn files (text before) w → bytes ≡ w.ahead → IsNextItem schema before bytes o (next.Fits size) → v ≡ looked_past size w → StandsAhead files schema o v
  item_more bytes o w v size told b step p = record {
    before = step.0 ∷ before;
    fit = (fit, step.2);
    outline = step.5;
    told = told_past files (text before) (item_code step.0) step.1 w v size told (sym b ∙ step.3) step.4 p;
  }

  pub stop_next : (bytes : List ℕ) (o : Outline) (w v : ReadAhead) → IsAheadIn files (text before) w → bytes ≡ w.ahead → IsNextItem schema before bytes o next.Stops → v ≡ looked_past 1 w → Stopped files schema o v
  stop_next bytes o w v told b step p = record {
    before = before;
    fit = (fit, step.1);
    listed = step.3;
    told = told_past files (text before) (item_code StopItem) step.0 w v 1 told (sym b ∙ step.2) refl p;
  }

  pub item_size : (bytes : List ℕ) (o : Outline) (size : ℕ) → IsNextItem schema before bytes o (next.Fits size) → (1 ≤ size) × (size ≤ length bytes)
  item_size bytes o size step = (omega (arith, step.4, some_bytes step.0), omega (arith, step.4, ap length step.3, length-append (item_code step.0) step.1))

  pub stop_size : (bytes : List ℕ) (o : Outline) → IsNextItem schema before bytes o next.Stops → 1 ≤ length bytes
  stop_size bytes o step = omega (arith, ap length step.2)
