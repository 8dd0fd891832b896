-- Items that fit, up to the stop, are those of partitions.
use Rattle.std.proofs.Common.{◌≡◌, ℕ, true, false, cond, List, [], ◌∷◌, ◌++◌, Option, None, Ok, refl, sym, ap, ◌∙◌, subst, append-nil, append_assoc}
use Rattle.std.specs.Prelude.{All, IsTrue, ⊤, ◌&&◌}
use Rattle.std.specs.Option.{is_none}
use Rattle.std.specs.List.{flat_map, AllByRecursion}
use Rattle.std.proofs.lemmas.Grind.{flat_map-append}
use Rattle.rc_outside.specs.Files.{Files}
use Rattle.rc_cell.specs.declared.rows.Row.{Row}
use Rattle.rc_cell.specs.declared.writes.Tomb.{Tomb}
use Rattle.rc_cell.specs.Columns.{ascending}
use Rattle.rc_schema.specs.SchemaValue.{SchemaValue}
use Rattle.rc_mutation.specs.declared.fragments.Frag.{Frag}
use Rattle.rc_mutation.specs.declared.fragments.Frag.TheVariants as frag
use Rattle.rc_mutation.specs.declared.mutations.Mutation.{Mutation}
use Rattle.rc_mutation.specs.declared.mutations.Partition.{Partition}
use Rattle.rc_mutation.specs.Source.{IsMutation}
use Rattle.rc_mutation.specs.Statics.{has_cells_alone}
use Rattle.rc_mutation.specs.Fragments.{fragments, static_fragment, is_written}
use Rattle.rc_mutation.specs.Canonical.{IsCanonicalList, IsMutationOf}
use Rattle.rc_mutation.specs.laws.Rebuilt.{is-rebuilt}
use Rattle.rc_tfile.specs.declared.info.PartRef.{PartRef}
use Rattle.rc_items.specs.declared.outline.Outline.{Outline}
use Rattle.rc_items.specs.Items.{HeadItem, PartItem, RowItem, ChangeItem, EndItem, StopItem, EntryItem, BlockItem, TailItem}
use Rattle.rc_items.specs.Before.{ItemsBefore, offset, ItemPlace, Start, Between, Inside, Behind, item_place, text, followed_by, last_pos, tomb_in_force}
use Rattle.rc_items.specs.Blocks.{entries, ending}
use Rattle.rc_items.specs.TableText.{AllFit, frag_items, part_items, items_to_stop}
use Rattle.rc_tfile.specs.Info.{info_of, refs_from}
use Rattle.rc_items.specs.Outlined.{IsListed}
use Rattle.rc_tfile.specs.Checking.{IsContent}
use Rattle.rc_tfile.specs.Walking.{ChecksTable}
use Rattle.rc_tfile.specs.calls.Walking.{IsWholeTable}
use Rattle.rc_tfile.specs.laws.Follows.{followed_by-append, all_append, all_of}
use Rattle.rc_tfile.specs.laws.Drafts.{parts_of, body_is}

abbrev HoldsTogether : Partition → Type 0
HoldsTogether p = IsMutation p.change

-- whole partitions stand behind the head
record Whole (schema : SchemaValue) (before : ItemsBefore) : Type 0 where
  parts : List Partition
  hold : AllByRecursion HoldsTogether parts
  whole : before ≡ parts_of schema parts

-- behind them stands the begin of one more: its part, and rows and changes that can be completed to a canonical list
record Partial (schema : SchemaValue) (before : ItemsBefore) : Type 0 where
  parts : List Partition
  hold : AllByRecursion HoldsTogether parts
  key : List ℕ
  pt : Option Tomb
  statics : Row
  frags : List Frag
  whole : before ≡ followed_by (PartItem key pt statics ∷ parts_of schema parts) (flat_map frag_items frags)
  ascends : IsTrue (ascending statics.cells)
  alone : IsTrue (has_cells_alone statics)
  goes : (more : List Frag) → IsCanonicalList (tomb_in_force before) (last_pos before) more → IsCanonicalList None None (frags ++ more)

abbrev Shape : ItemPlace → SchemaValue → ItemsBefore → Type 0
Shape Start schema before = ⊤
Shape Between schema before = Whole schema before
Shape Inside schema before = Partial schema before
Shape Behind schema before = ⊤

one_frag : (before : ItemsBefore) (fs : List Frag) (f : Frag) → followed_by before (flat_map frag_items (fs ++ f ∷ [])) ≡ followed_by (followed_by before (flat_map frag_items fs)) (flat_map frag_items (f ∷ []))
one_frag before fs f = ap (followed_by before) (flat_map-append frag_items fs (f ∷ [])) ∙ followed_by-append before (flat_map frag_items fs) (flat_map frag_items (f ∷ []))

no_items : (row : Row) → flat_map frag_items (static_fragment row) ≡ []
no_items row = elim (is_written row) as (λ b. flat_map frag_items (cond b (frag.Static row ∷ []) []) ≡ []) [ true ↦ refl | false ↦ refl ]

part_items_are : (key : List ℕ) (pt : Option Tomb) (statics : Row) (fs : List Frag) (m : Mutation) → IsMutationOf m pt statics fs
    → part_items (record { key = key; change = m }) ≡ PartItem key pt statics ∷ (flat_map frag_items fs ++ EndItem ∷ [])
part_items_are key pt statics fs m is =
    let front = frag.Start pt ∷ static_fragment statics in
    let items : flat_map frag_items (fragments m) ≡ flat_map frag_items fs ++ EndItem ∷ [] =
    ap (flat_map frag_items) is.whole ∙ flat_map-append frag_items (front ++ fs) (frag.End ∷ []) ∙ ap (λ t. t ++ EndItem ∷ []) (flat_map-append frag_items front fs ∙ ap (λ t. t ++ flat_map frag_items fs) (no_items statics)) in
    λ i. PartItem key (is.pt i) (is.statics i) ∷ items i

one_part : (schema : SchemaValue) (parts : List Partition) (p : Partition) → parts_of schema (parts ++ p ∷ []) ≡ followed_by (parts_of schema parts) (part_items p)
one_part schema parts p =
    ap (followed_by (HeadItem schema ∷ [])) (flat_map-append part_items parts (p ∷ []) ∙ ap (λ t. flat_map part_items parts ++ t) (append-nil (part_items p))) ∙ followed_by-append (HeadItem schema ∷ []) (flat_map part_items parts) (part_items p)

ended : (schema : SchemaValue) (before : ItemsBefore) → tomb_in_force before ≡ None → Partial schema before → Whole schema (EndItem ∷ before)
ended schema before none p =
    let canonical : IsCanonicalList None None p.frags = subst (λ fs. IsCanonicalList None None fs) (append-nil p.frags) (p.goes [] none) in
    let m = is-rebuilt p.pt p.statics p.frags p.ascends p.alone canonical in
    let part : Partition = record { key = p.key; change = m.0 } in record {
      parts = p.parts ++ part ∷ [];
      hold = all_append HoldsTogether p.parts (part ∷ []) p.hold (m.1.is_mutation, tt);
      whole = sym (one_part schema p.parts part ∙ ap (followed_by (parts_of schema p.parts)) (part_items_are p.key p.pt p.statics p.frags m.0 m.1)
          ∙ followed_by-append (PartItem p.key p.pt p.statics ∷ parts_of schema p.parts) (flat_map frag_items p.frags) (EndItem ∷ []) ∙ ap (λ b. EndItem ∷ b) (sym p.whole));
    }

shape : (schema : SchemaValue) (before : ItemsBefore) → AllFit schema before → Shape (item_place before) schema before
shape schema [] fit = tt
shape schema (HeadItem other ∷ before) fit = record { parts = []; hold = tt; whole = λ i. HeadItem (fit.1.1.1 i) ∷ fit.1.1.0 i }
shape schema (PartItem key pt statics ∷ before) fit =
    let w : Whole schema before = subst (λ p. Shape p schema before) fit.1.1.0 (shape schema before fit.0) in record {
      parts = w.parts;
      hold = w.hold;
      key = key;
      pt = pt;
      statics = statics;
      frags = [];
      whole = ap (λ b. PartItem key pt statics ∷ b) w.whole;
      ascends = fit.1.0.1.1.ascending;
      alone = λ i. is_none (fit.1.1.2.0 i) && is_none (fit.1.1.2.1 i);
      goes = λ more h. h;
    }
shape schema (RowItem key row ∷ before) fit =
    let p : Partial schema before = subst (λ p. Shape p schema before) fit.1.1.0 (shape schema before fit.0) in record {
      parts = p.parts;
      hold = p.hold;
      key = p.key;
      pt = p.pt;
      statics = p.statics;
      frags = p.frags ++ frag.Row key row ∷ [];
      whole = ap (λ b. RowItem key row ∷ b) p.whole ∙ sym (one_frag (PartItem p.key p.pt p.statics ∷ parts_of schema p.parts) p.frags (frag.Row key row));
      ascends = p.ascends;
      alone = p.alone;
      goes = λ more h. subst (λ fs. IsCanonicalList None None fs) (sym (append_assoc p.frags (frag.Row key row ∷ []) more)) (p.goes (frag.Row key row ∷ more) (fit.1.1.1, fit.1.1.3, fit.1.0.1.ascending, h));
    }
shape schema (ChangeItem x tomb ∷ before) fit =
    let p : Partial schema before = subst (λ p. Shape p schema before) fit.1.1.0 (shape schema before fit.0) in record {
      parts = p.parts;
      hold = p.hold;
      key = p.key;
      pt = p.pt;
      statics = p.statics;
      frags = p.frags ++ frag.Change x tomb ∷ [];
      whole = ap (λ b. ChangeItem x tomb ∷ b) p.whole ∙ sym (one_frag (PartItem p.key p.pt p.statics ∷ parts_of schema p.parts) p.frags (frag.Change x tomb));
      ascends = p.ascends;
      alone = p.alone;
      goes = λ more h. subst (λ fs. IsCanonicalList None None fs) (sym (append_assoc p.frags (frag.Change x tomb ∷ []) more)) (p.goes (frag.Change x tomb ∷ more) (fit.1.1.1, fit.1.1.2.0, fit.1.1.3, h));
    }
shape schema (EndItem ∷ before) fit = ended schema before fit.1.1.1 (subst (λ p. Shape p schema before) fit.1.1.0 (shape schema before fit.0))
shape schema (StopItem ∷ before) fit = tt
shape schema (EntryItem key off blocks ∷ before) fit = tt
shape schema (BlockItem b ∷ before) fit = tt
shape schema (TailItem off parts ∷ before) fit = tt

-- items that fit up to the stop are those of some partitions
pub parts_found : (schema : SchemaValue) (before : ItemsBefore) → AllFit schema (StopItem ∷ before) → (parts : List Partition) × (StopItem ∷ before ≡ items_to_stop schema parts) × All HoldsTogether parts
parts_found schema before fit =
    let w : Whole schema before = subst (λ p. Shape p schema before) fit.1.1 (shape schema before fit.0) in
    (w.parts, ap (λ b. StopItem ∷ b) w.whole ∙ sym (body_is schema w.parts), all_of HoldsTogether w.parts w.hold)

-- so a file that ends with what must come behind them is their table
pub table_found : (files : Option Files) (k n : ℕ) (schema : SchemaValue) (before : ItemsBefore) (o : Outline) (parts : List PartRef) (bytes : List ℕ) → AllFit schema (StopItem ∷ before) → IsListed (StopItem ∷ before) o → IsWholeTable files k schema (StopItem ∷ before)
    → parts ≡ refs_from o.off o.listed.items → IsContent files k bytes → ChecksTable bytes n schema (Ok (record { number = n; parts = parts }))
table_found files k n schema before o parts bytes fit is whole same content =
    let found = parts_found schema before fit in
    let listed : parts ≡ (info_of n schema found.0).parts = same ∙ (λ i. refs_from (is.off i) (is.listed i)) ∙ ap (λ b. refs_from (offset b) (entries b)) found.1 in (
      found.0,
      found.2,
      record {
        spelled = whole.1 bytes content ∙ ap (λ b. text (followed_by b (ending b))) found.1;
        fit = subst (λ b. AllFit schema (followed_by b (ending b))) found.1 whole.0;
      },
      λ i. record { number = n; parts = listed i },
    )
