-- What a further item makes of an outline.
use Rattle.std.proofs.Common.{◌≡◌, ℕ, ◌+◌, true, false, List, [], ◌∷◌, ◌++◌, Option, Some, None, refl, sym, ap, ◌∙◌, arith, length, length-append}
use Rattle.std.specs.Prelude.{IfSome, IsSome}
use Rattle.std.specs.Option.{option_map, unwrap_or}
use Rattle.std.specs.declared.cmp.Ordering.TheVariants.{Less}
use Rattle.rc_position.specs.Position.{bytes_cmp}
use Rattle.rc_cell.specs.declared.writes.Tomb.{Tomb}
use Rattle.rc_position.specs.declared.positions.Pos.{Pos}
use Rattle.rc_items.specs.declared.blocks.Block.{Block}
use Rattle.rc_items.specs.declared.outline.Outline.{Outline}
use Rattle.rc_items.specs.Items.{Item, HeadItem, PartItem, RowItem, ChangeItem, EndItem, StopItem, EntryItem, BlockItem, TailItem, item_code}
use Rattle.rc_items.specs.Before.{ItemsBefore, text, offset, last_part}
use Rattle.rc_items.specs.Blocks.{DirectoryEntry, blocks, with_fragment}
use Rattle.rc_items.specs.Outlined.{IsOutline, IsFragment}

pub offset_more : (before : ItemsBefore) (x : Item) (off size next : ℕ) → off ≡ offset before → size ≡ length (item_code x) → next ≡ off + size → next ≡ offset (x ∷ before)
offset_more before x off size next p q r = omega (arith, p, q, r, length-append (text before) (item_code x))

block_is : (off size : ℕ) (tomb : Option Tomb) (x : Pos) (off' size' : ℕ) (tomb' : Option Tomb) (x' : Pos) → off ≡ off' → size ≡ size' → tomb ≡ tomb' → x ≡ x'
    → (let b : Block = record { off = off; len = size; tomb = tomb; first = x } in b) ≡ record { off = off'; len = size'; tomb = tomb'; first = x' }
block_is off size tomb x off' size' tomb' x' p q r s = λ i. record { off = p i; len = q i; tomb = r i; first = s i }

pub fragment_taken : (before : ItemsBefore) (item : Item) (o o' : Outline) (x : Pos) (tomb : Option Tomb) (size : ℕ) → IsOutline before o → IsFragment before item x tomb → size ≡ length (item_code item)
    → o'.off ≡ o.off + size → o'.key ≡ o.key → IsSome o'.key → o'.inside ≡ true → o'.part ≡ o.part → o'.last ≡ Some x → o'.tomb ≡ tomb
    → o'.blocks ≡ with_fragment o.blocks (record { off = o.off; len = size; tomb = o.tomb; first = x }) → o'.listed.items ≡ o.listed.items → IsOutline (item ∷ before) o'
fragment_taken before (RowItem key row) o o' x tomb size is f s off k opened ins part last t bs l = record {
  off = offset_more before (RowItem key row) o.off size o'.off is.off s off;
  key = k ∙ is.key;
  «inside» = rw ins refl;
  opened = λ _. opened;
  part = part ∙ is.part;
  last = last ∙ ap Some f.0;
  tomb = t ∙ f.1;
  blocks = bs ∙ (λ i. with_fragment (is.blocks i) (block_is o.off size o.tomb x _ _ _ _ is.off s is.tomb f.0 i));
  listed = l ∙ is.listed;
}
fragment_taken before (ChangeItem y new) o o' x tomb size is f s off k opened ins part last t bs l = record {
  off = offset_more before (ChangeItem y new) o.off size o'.off is.off s off;
  key = k ∙ is.key;
  «inside» = rw ins refl;
  opened = λ _. opened;
  part = part ∙ is.part;
  last = last ∙ ap Some f.0;
  tomb = t ∙ f.1;
  blocks = bs ∙ (λ i. with_fragment (is.blocks i) (block_is o.off size o.tomb x _ _ _ _ is.off s is.tomb f.0 i));
  listed = l ∙ is.listed;
}
fragment_taken before (HeadItem schema) o o' x tomb size is f s off k opened ins part last t bs l = absurd f
fragment_taken before (PartItem key pt statics) o o' x tomb size is f s off k opened ins part last t bs l = absurd f
fragment_taken before EndItem o o' x tomb size is f s off k opened ins part last t bs l = absurd f
fragment_taken before StopItem o o' x tomb size is f s off k opened ins part last t bs l = absurd f
fragment_taken before (EntryItem key off' blocks) o o' x tomb size is f s off k opened ins part last t bs l = absurd f
fragment_taken before (BlockItem b) o o' x tomb size is f s off k opened ins part last t bs l = absurd f
fragment_taken before (TailItem off' parts) o o' x tomb size is f s off k opened ins part last t bs l = absurd f

key_named : (key : List ℕ) (part : Option (List ℕ × ℕ)) → option_map (λ p. p.0) part ≡ Some key → key ≡ (unwrap_or part ([], 0)).0
key_named key None e = absurd (cc)
key_named key (Some part) e = cc

-- a key is above the last one by the part that has it
pub above_key : (key : List ℕ) (part : Option (List ℕ × ℕ)) → IfSome part (λ last. bytes_cmp last.0 key ≡ Less) → IfSome (option_map (λ p. p.0) part) (λ last. bytes_cmp last key ≡ Less)
above_key key None h = tt
above_key key (Some part) h = h

pub above_part : (key : List ℕ) (part : Option (List ℕ × ℕ)) → IfSome (option_map (λ p. p.0) part) (λ last. bytes_cmp last key ≡ Less) → IfSome part (λ last. bytes_cmp last.0 key ≡ Less)
above_part key None h = tt
above_part key (Some part) h = h

pub ended : (before : ItemsBefore) (o o' : Outline) (key : List ℕ) → IsOutline before o → o.key ≡ Some key
    → o'.off ≡ o.off + 1 → o'.key ≡ o.key → o'.inside ≡ false → o'.part ≡ o.part → o'.last ≡ None → o'.tomb ≡ None → o'.blocks ≡ []
    → o'.listed.items ≡ o.listed.items ++ record { key = key; off = o.part; blocks = o.blocks } ∷ [] → IsOutline (EndItem ∷ before) o'
ended before o o' key is some off k ins part last t bs l =
    let named : key ≡ (unwrap_or (last_part before) ([], 0)).0 = key_named key (last_part before) (sym is.key ∙ some) in
    let same : (let e : DirectoryEntry = record { key = key; off = o.part; blocks = o.blocks } in e) ≡ (let e : DirectoryEntry = record { key = (unwrap_or (last_part before) ([], 0)).0; off = (unwrap_or (last_part before) ([], 0)).1; blocks = blocks before } in e) = λ i. record { key = named i; off = is.part i; blocks = is.blocks i } in record {
      off = offset_more before EndItem o.off 1 o'.off is.off refl off;
      key = k ∙ is.key;
      «inside» = rw ins refl;
      opened = λ e. absurd (let q = sym ins ∙ e in cc);
      part = part ∙ is.part;
      last = last;
      tomb = t;
      blocks = bs;
      listed = l ∙ (λ i. is.listed i ++ same i ∷ []);
    }
