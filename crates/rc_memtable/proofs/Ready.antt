-- What each write into the newest version of a chain asks for is there, and what it leaves.
use Rattle.std.proofs.Common.{◌≡◌, ◌≤◌, ◌<◌, ◌/◌, ◌*◌, ◌+◌, ℕ, true, false, List, [], ◌∷◌, Option, Some, None, length, refl, sym, ap, ◌∙◌, subst, slice_index_or, arith}
use Rattle.std.specs.Prelude.{All, IfSome}
use Rattle.lsa_pool.specs.Room.{spare_of}
use Rattle.rc_cell.specs.declared.rows.Row.{Row}
use Rattle.rc_cell.specs.declared.writes.Tomb.{Tomb}
use Rattle.rc_cell.specs.Winner.{IsRow}
use Rattle.rc_position.specs.declared.comps.Comp.{Comp}
use Rattle.rc_position.specs.declared.positions.Pos.{Pos}
use Rattle.rc_position.specs.Position.{row_pos}
use Rattle.rc_rowcode.specs.Objects.{dummy_size, static_size}
use Rattle.rc_rowcode.specs.Spelling.{KeyFits, RowFits, row_code}
use Rattle.rc_schema.specs.SchemaValue.{SchemaValue}
use Rattle.rc_schema.specs.Largest.{largest_entry, largest_static}
use Rattle.rc_schema.specs.laws.Fitting.{cells_fit, cells_pass, dummy_within, key_fits, key_passes}
use Rattle.rc_writes.specs.Allowed.{IsRangeBound, IsRowOf, IsStaticOf}
use Rattle.rc_writes.specs.Weight.{entry_weight}
use Rattle.rc_mutation.specs.Fragments.{is_written}
use Rattle.rc_core.specs.declared.entries.Entry.{Entry}
use Rattle.rc_core.specs.AtPlace.{EachEntry}
use Rattle.rc_core.specs.Continuity.{EachOf}
use Rattle.rc_core.specs.declared.entries.Flag.TheVariants.{Inherit}
use Rattle.rc_core.specs.Change.{joined_onto}
use Rattle.rc_core.specs.StandsFor.{written_pt, written_range, written_row, written_statics}
use Rattle.rc_core.specs.Steps.{join_flagged_statics, join_pt, range_joined, row_joined}
use Rattle.rc_core.specs.Version.{IsVersion, On, Version, finding_in}
use Rattle.rc_version.specs.Versions.{bytes_at, joined_bytes, version_bytes}
use Rattle.rc_memory.specs.Kept.{IsSoundChain}
use Rattle.rc_memory.specs.Memory.{HasVersion, Member, Memory, chain_at}
use Rattle.rc_memory.specs.Changes.{AtAlone, FitsChanged, IsRenewed, IsRenewedWhereNone, IsVersionChanged, KeepsLast, LastIsListed, Nowhere, OfVersion, member_at}
use Rattle.rc_chain.specs.laws.PlaceBeside.{memtable-settled}
use Rattle.rc_memtable.specs.Fits.{IsEntryUnder, IsVersionUnder}
use Rattle.rc_memtable.specs.calls.Steps.{IsChangeWritten}
use Rattle.rc_memtable.specs.calls.Writing.{CanJoinNewest}
use Rattle.rc_memtable.proofs.Fitting.{joined-static, joined-there, on-fits, row-fits, statics-fit}
use Rattle.rc_memtable.proofs.Grown.{DiffersBy, pt-bytes, pt-least, range-bytes, range-least, row-bytes, row-least, statics-bytes, statics-least, weight-pt, weight-range, weight-row, weight-statics}
use Rattle.rc_memtable.proofs.Kept.{pt-kept, range-kept, row-kept, statics-kept}
use Rattle.rc_memtable.proofs.Room.{entry-small, fit-together, static-small}
use Rattle.rc_memtable.proofs.Steps.{fits-then, its-form, its-number, its-sound, last-listed, last-then, list-kept, of-fitting, range-list-kept, written-there}

-- what holds of each and of each holds of each together
each-of-two : (P Q R : Version → Type 0) → ((v : Version) → P v → Q v → R v) → (vs : List Version) → EachOf P vs → EachOf Q vs → EachOf R vs
each-of-two P Q R both [] p q = tt
each-of-two P Q R both (v ∷ vs) p q = (both v p.0 q.0, each-of-two P Q R both vs p.1 q.1)

-- rows of the schema hold together
if-some : (P Q : Row → Type 0) (o : Option Row) → ((row : Row) → P row → Q row) → IfSome o P → IfSome o Q
if-some P Q None wider h = tt
if-some P Q (Some row) wider h = wider row h

rows-under : (schema : SchemaValue) (es : List Entry) → EachEntry (IsEntryUnder schema) es → EachEntry (λ e. IfSome e.row IsRow) es
rows-under schema [] h = tt
rows-under schema (e ∷ es) h = (if-some (λ row. (e.position ≡ row_pos e.position.prefix) × IsRowOf schema e.position.prefix row × IsRow row) IsRow e.row (λ row k. k.2) h.0.row, rows-under schema es h.1)

statics-under : (schema : SchemaValue) (o : Option Row) → IfSome o (λ row. IsStaticOf schema row × IsRow row) → IfSome o IsRow
statics-under schema o h = if-some (λ row. IsStaticOf schema row × IsRow row) IsRow o (λ row k. k.1) h

module _ (S : ℕ) (schema : SchemaValue) (m : Memory) (id number bytes : ℕ) (r : CanJoinNewest S schema m id number bytes) (sound : (i : ℕ) → IfSome (chain_at m i) (λ k. IsSoundChain k.chain)) (versions : (i j : ℕ) → OfVersion m i j (λ k v. IsVersion v)) where
  pub ready-number : HasVersion m id number
  ready-number = its-number m id r.kept.0 r.kept.2 sound versions number r.kept.3.0

  settled : r.kept.0.chain.updating ≡ false
  settled = memtable-settled r.kept.0.chain (its-sound m id r.kept.0 r.kept.2 sound versions) r.kept.4.kind

  pub ready-last : (f : Version → Version) → KeepsLast id number f m
  ready-last f = last-then m id r.kept.0 r.kept.2 sound versions settled number f

  pub ready-listed : LastIsListed id m
  ready-listed = last-listed m id r.kept.0 r.kept.2 sound versions settled

  fits-by : (f : Version → Version) → ((v : Version) → IsVersionUnder schema v → IsVersionUnder schema (f v)) → FitsChanged S id number f m
  fits-by f keeps = fits-then m id r.kept.0 r.kept.2 sound versions number r.kept.3.0 S f (fit-together schema r.limits S r.small _ (on-fits schema number f keeps r.kept.0.chain.versions r.kept.4.fits))

  -- what a version takes more or less with something joined each of them takes more or less that is sound and of the schema
  each-differs : (f : Version → Version) (more : ℕ) → ((v : Version) → IsVersion v → IsVersionUnder schema v → DiffersBy more (S / 8) (version_bytes v) (version_bytes (f v))) → EachOf (λ v. DiffersBy more (S / 8) (version_bytes v) (version_bytes (f v))) r.kept.0.chain.versions
  each-differs f more both = each-of-two IsVersion (IsVersionUnder schema) (λ v. DiffersBy more (S / 8) (version_bytes v) (version_bytes (f v))) both r.kept.0.chain.versions (its-form m id r.kept.0 r.kept.2 sound versions).versions r.kept.4.fits

  -- a row that is there takes at most an eighth of a segment, and so does a static row
  rows-small : (es : List Entry) → EachEntry (IsEntryUnder schema) es → EachEntry (λ e. IfSome e.row (λ row. bytes_at e.position (Some row) ≤ S / 8)) es
  rows-small [] h = tt
  rows-small (e ∷ es) h = (
    if-some (λ row. (e.position ≡ row_pos e.position.prefix) × IsRowOf schema e.position.prefix row × IsRow row) (λ row. bytes_at e.position (Some row) ≤ S / 8) e.row
        (λ row k. let s = entry-small schema r.limits e.position.prefix row k.1 k.2 in let most = r.small.entry in subst (λ (x : Pos). bytes_at x (Some row) ≤ S / 8) (sym k.0) (omega (arith, s, most))) h.0.row,
    rows-small es h.1,
  )

  statics-small : (o : Option Row) → IfSome o (λ row. IsStaticOf schema row × IsRow row) → IfSome o (λ row. static_size row ≤ S / 8)
  statics-small o h = if-some (λ row. IsStaticOf schema row × IsRow row) (λ row. static_size row ≤ S / 8) o (λ row k. let s = static-small schema r.limits row k.0 k.1 in let most = r.small.statics in omega (arith, s, most)) h

  -- ---- a partition tombstone

  pub pt-there : (tomb : Tomb) (n : Memory) → IsVersionChanged id number (join_pt tomb) Nowhere m n → n.recency ≡ m.recency → (other : SchemaValue) → IsChangeWritten S other id (written_pt tomb) 512 m n
  pt-there tomb n h list other = written-there m id r.kept.0 r.kept.2 sound versions number r.kept.3.0 r.kept.3.1 S other (written_pt tomb) (join_pt tomb) Nowhere n (λ w no. absurd no) h list
      (λ changes keeps. pt-kept other r.kept.0.chain number r.kept.3.0 (its-form m id r.kept.0 r.kept.2 sound versions) changes keeps tomb)
      0 (weight-pt tomb) (each-differs (join_pt tomb) 0 (λ v is under. (pt-bytes tomb v, pt-least (S / 8) v tomb)))

  -- ---- a row

  module _ (key : List Comp) (row : Row) (h : IsRowOf schema key row) (up : IsRow row) where
    pub row-limits : RowFits row × (bytes_at (row_pos key) (Some row) ≤ S / 8)
    row-limits = (cells_fit false schema row.cells r.limits (cells_pass false schema row.cells h.1), (let s = entry-small schema r.limits key row h up in let e = r.small.entry in omega (arith, s, e)))

    pub row-key : KeyFits key
    row-key = key_fits true schema key r.limits (key_passes true schema key h.0)

    pub row-room : largest_entry schema ≤ bytes → OfVersion m id number (λ k v. joined_bytes (row_pos key) row v ≤ spare_of S m.region.usages)
    row-room enough = of-fitting m id r.kept.0 r.kept.2 sound versions number r.kept.3.0 schema (λ v. joined_bytes (row_pos key) row v ≤ spare_of S m.region.usages) r.kept.4.fits
        (λ v fits. let j = joined-there schema key row h up v fits in let s = entry-small schema r.limits key (joined_onto (finding_in (On (row_pos key)) v.entries).row row) j.0 j.1 in let spare = r.spare in omega (arith, s, spare, enough))

    pub row-fitting : FitsChanged S id number (row_joined (row_pos key) row) m
    row-fitting = fits-by (row_joined (row_pos key) row) (row-fits schema key row h up)

  pub row-there : (key : List Comp) (row : Row) (n : Memory) → IsVersionChanged id number (row_joined (row_pos key) row) (AtAlone (member_at id number (Some (row_pos key)))) m n →
      OfVersion m id number (λ k v. IsRenewed k.chain.kind (member_at id number (Some (row_pos key))) m.recency n.recency) →
      (other : SchemaValue) → IsRowOf other key row → IsRow row → IsChangeWritten S other id (written_row key row) 512 m n
  row-there key row n c list other h up = written-there m id r.kept.0 r.kept.2 sound versions number r.kept.3.0 r.kept.3.1 S other (written_row key row) (row_joined (row_pos key) row) (AtAlone (member_at id number (Some (row_pos key)))) n
      (λ w at. ap (λ (x : Member). x.chain) at) c (list-kept m id r.kept.0 r.kept.2 sound versions number r.kept.3.0 r.kept.4.kind (member_at id number (Some (row_pos key))) n list)
      (λ changes keeps. row-kept other r.kept.0.chain number r.kept.3.0 (its-form m id r.kept.0 r.kept.2 sound versions) changes keeps key row h up)
      (entry_weight (row_pos key) + length (row_code row)) (weight-row key row)
      (each-differs (row_joined (row_pos key) row) (entry_weight (row_pos key) + length (row_code row))
      (λ v is under. (row-bytes (row_pos key) row v up is (rows-under schema v.entries under.entries), row-least (S / 8) v (row_pos key) row up is (rows-small v.entries under.entries))))

  -- ---- a static row

  module _ (row : Row) (h : IsStaticOf schema row) (up : IsRow row) where
    pub static-limits : RowFits row × (static_size row ≤ S / 8)
    static-limits = (cells_fit true schema row.cells r.limits (cells_pass true schema row.cells h.2), (let s = static-small schema r.limits row h up in let e = r.small.statics in omega (arith, s, e)))

    pub static-room : largest_static schema ≤ bytes → OfVersion m id number (λ k v. static_size (joined_onto v.statics row) ≤ spare_of S m.region.usages)
    static-room enough = of-fitting m id r.kept.0 r.kept.2 sound versions number r.kept.3.0 schema (λ v. static_size (joined_onto v.statics row) ≤ spare_of S m.region.usages) r.kept.4.fits
        (λ v fits. let j = joined-static schema v.statics row fits.statics h up in let s = static-small schema r.limits (joined_onto v.statics row) j.0 j.1 in let spare = r.spare in omega (arith, s, spare, enough))

    pub static-fitting : FitsChanged S id number (join_flagged_statics row Inherit) m
    static-fitting = fits-by (join_flagged_statics row Inherit) (statics-fit schema row Inherit h up)

  pub static-there : (row : Row) (n : Memory) → IsVersionChanged id number (join_flagged_statics row Inherit) (AtAlone (member_at id number None)) m n →
      OfVersion m id number (λ k v. IsRenewed k.chain.kind (member_at id number None) m.recency n.recency) →
      (other : SchemaValue) → IsStaticOf other row → IsRow row → is_written row ≡ true → IsChangeWritten S other id (written_statics row) 512 m n
  static-there row n c list other h up some = written-there m id r.kept.0 r.kept.2 sound versions number r.kept.3.0 r.kept.3.1 S other (written_statics row) (join_flagged_statics row Inherit) (AtAlone (member_at id number None)) n
      (λ w at. ap (λ (x : Member). x.chain) at) c (list-kept m id r.kept.0 r.kept.2 sound versions number r.kept.3.0 r.kept.4.kind (member_at id number None) n list)
      (λ changes keeps. statics-kept other r.kept.0.chain number r.kept.3.0 (its-form m id r.kept.0 r.kept.2 sound versions) changes keeps row h up)
      (40 + length (row_code row)) (weight-statics row some)
      (each-differs (join_flagged_statics row Inherit) (40 + length (row_code row)) (λ v is under. (statics-bytes row Inherit v up (statics-under schema v.statics under.statics), statics-least (S / 8) v row Inherit (statics-small v.statics under.statics))))

  -- ---- a range tombstone

  module _ (x : Pos) (h : IsRangeBound schema x) where
    pub bound-key : KeyFits x.prefix
    bound-key = key_fits false schema x.prefix r.limits (key_passes false schema x.prefix h.1)

    pub bound-small : dummy_size x ≤ S / 8
    bound-small = let s = dummy_within false schema x (key_passes false schema x.prefix h.1) in let e = r.small.entry in omega (arith, s, e)

  pub range-room : (from to : Pos) → IsRangeBound schema from → IsRangeBound schema to → 2 * largest_entry schema ≤ bytes → dummy_size from + dummy_size to ≤ spare_of S m.region.usages
  range-room from to f t enough = let a = dummy_within false schema from (key_passes false schema from.prefix f.1) in let b = dummy_within false schema to (key_passes false schema to.prefix t.1) in let spare = r.spare in omega (arith, a, b, spare, enough)

  pub range-there : (from to : Pos) (tomb : Tomb) (n : Memory) → IsVersionChanged id number (range_joined from to tomb) Nowhere m n →
      OfVersion m id number (λ k v. (mid : List Member) × IsRenewedWhereNone k.chain.kind v (member_at id number (Some from)) m.recency mid × IsRenewedWhereNone k.chain.kind v (member_at id number (Some to)) mid n.recency) →
      (other : SchemaValue) → IsRangeBound other from → IsRangeBound other to → IsChangeWritten S other id (written_range from to tomb) 512 m n
  range-there from to tomb n c list other f t = written-there m id r.kept.0 r.kept.2 sound versions number r.kept.3.0 r.kept.3.1 S other (written_range from to tomb) (range_joined from to tomb) Nowhere n
      (λ w no. absurd no) c (range-list-kept m id r.kept.0 r.kept.2 sound versions number r.kept.3.0 r.kept.4.kind from to n list)
      (λ changes keeps. range-kept other r.kept.0.chain number r.kept.3.0 (its-form m id r.kept.0 r.kept.2 sound versions) changes keeps from to tomb f t)
      (entry_weight from + entry_weight to) (weight-range from to tomb) (each-differs (range_joined from to tomb) (entry_weight from + entry_weight to) (λ v is under. (range-bytes from to tomb v, range-least (S / 8) v from to tomb)))

-- ---- what a single write needs

pub all-first : {X : Type 0} (P : X → Type 0) (x : X) (xs all : List X) → all ≡ x ∷ xs → All P all → P x
all-first P x xs all e h = let k = subst (All P) e h in k 0 x (omega arith)

pub one-of : {A B : Type 0} → A × B → A
one-of p = p.0

pub other-of : {A B : Type 0} → A × B → B
other-of p = p.1

-- ---- lists and options as the code takes them apart

pub first-of-slice : {X : Type 0} (xs all : List X) (x : X) → xs ≡ all → x ≡ slice_index_or xs 0 x → 1 ≤ length xs → (rest : List X) × (all ≡ x ∷ rest)
first-of-slice [] all x same is long = absurd (omega (arith, long))
first-of-slice (y ∷ ys) all x same is long = (ys, sym same ∙ ap (λ z. z ∷ ys) (sym is))

pub none-of : {X : Type 0} (o : Option X) → ((x : X) → o ≡ Some x → ⊥) → o ≡ None
none-of None h = refl
none-of (Some x) h = absurd (h x refl)

pub nothing-of-slice : {X : Type 0} (xs all : List X) → xs ≡ all → length xs < 1 → all ≡ []
nothing-of-slice [] all same short = sym same
nothing-of-slice (x ∷ xs) all same short = absurd (omega (arith, short))
