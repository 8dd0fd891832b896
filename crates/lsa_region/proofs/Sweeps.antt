-- All objects of a segment move: what holds after each step of the walk over its cells.
use Rattle.std.proofs.Common.{◌≡◌, ◌≢◌, ℕ, ◌+◌, ◌*◌, ◌<◌, ◌≤◌, ◌⊎◌, inl, inr, cond, List, [], ◌∷◌, length, drop, get_or, Option, Some, None, refl, sym, ap, ◌∙◌, subst, arith}
use Rattle.std.specs.Prelude.{is_some, IsSome, IsSomeAnd}
use Rattle.std.specs.Option.{option_map, option_and_then, option_map_or}
use Rattle.std.proofs.Math.ListN.{set}
use Rattle.std.proofs.lemmas.List.{get_or-set_same, get_or-set_other}
use Rattle.lsa_kinds.specs.declared.kind.Kind.{Kind}
use Rattle.lsa_kinds.specs.Kinds.{links_of}
use Rattle.lsa_store.specs.State.TheVariants.{Closed}
use Rattle.lsa_store.specs.Room.{usage_of}
use Rattle.lsa_store.specs.Usages.{decided}
use Rattle.lsa_store.specs.Cells.{Cell, size_of, extent, cell_at, body_of, body_at}
use Rattle.lsa_store.specs.Reading.{size-least}
use Rattle.lsa_store.specs.Changes.{at-within, at-next, at-apart}
use Rattle.lsa_store.specs.declared.place.Ref.{Ref}
use Rattle.lsa_store.specs.Objects.{cells_of, cell_in, body_in, word_of, word_in, link_count, live_size, one_if_live, live_in, live_count}
use Rattle.lsa_store.specs.laws.Places.{ref-equal}
use Rattle.lsa_store.specs.laws.Words.{object, word-there, word-none, word-same, word-beyond}
use Rattle.lsa_store.specs.laws.Sums.{none-in, part-of-sum}
use Rattle.lsa_region.specs.declared.end.End.{End}
use Rattle.lsa_region.specs.declared.end.End.TheVariants.{Obj, Slot}
use Rattle.lsa_region.specs.Ends.{slots_in}
use Rattle.lsa_region.specs.calls.Ends.{swapped_ref}
use Rattle.lsa_region.specs.calls.Ends.{end_by}
use Rattle.lsa_region.specs.calls.Moves.{IsRenamedBy, IsMovedTo, IsSweeping}
use Rattle.lsa_region.specs.Region.{View, body, link_of, IsEnd}
use Rattle.lsa_region.specs.laws.Refs.{swap-else}

-- ---- other names, and then others again

pub renamed-same : (v : View) → IsRenamedBy v v (λ r. r) (λ r. r)
renamed-same v = record {
  back_there = λ r. refl;
  there_back = λ r. refl;
  bodies = λ r. refl;
  links = λ e h. ap (link_of v) (own e) ∙ same (link_of v e);
  kept = λ s h. h;
  known = λ s h. h;
  slots = refl;
}
  where
    own : (e : End) → end_by (λ r. r) e ≡ e
    own (Obj r field) = refl
    own (Slot s) = refl

    same : (o : Option End) → o ≡ option_map (end_by (λ r. r)) o
    same None = refl
    same (Some e) = ap (λ x. Some x) (sym (own e))

module _ (a b c : View) (there back there' back' : Ref → Ref) (p : IsRenamedBy a b there back) (q : IsRenamedBy b c there' back') where
  both_ends : (e : End) → end_by there' (end_by there e) ≡ end_by (λ r. there' (there r)) e
  both_ends (Obj r field) = refl
  both_ends (Slot s) = refl

  both_options : (o : Option End) → option_map (end_by there') (option_map (end_by there) o) ≡ option_map (end_by (λ r. there' (there r))) o
  both_options None = refl
  both_options (Some e) = ap (λ x. Some x) (both_ends e)

  end_there : (e : End) → IsEnd a e → IsEnd b (end_by there e)
  end_there (Obj r field) h = subst (λ o. IsSomeAnd o (λ (b : Kind × List ℕ). field < links_of b.0)) (sym (p.bodies r)) h
  end_there (Slot s) h = p.kept s h

  pub renamed-then : IsRenamedBy a c (λ r. there' (there r)) (λ r. back (back' r))
  renamed-then = record {
    back_there = λ r. ap back (q.back_there (there r)) ∙ p.back_there r;
    there_back = λ r. ap there' (p.there_back (back' r)) ∙ q.there_back r;
    bodies = λ r. q.bodies (there r) ∙ p.bodies r;
    links = λ e h. ap (link_of c) (sym (both_ends e)) ∙ q.links (end_by there e) (end_there e h) ∙ ap (option_map (end_by there')) (p.links e h) ∙ both_options (link_of a e);
    kept = λ s h. q.kept s (p.kept s h);
    known = λ s h. p.known s (q.known s h);
    slots = q.slots ∙ p.slots;
  }

-- ---- the walk

pub swept-init : (size : ℕ) (v : View) (n : ℕ) → (usage_of v.usages n).state ≡ Closed → IsSweeping size v v n 0 0 (λ r. r) (λ r. r)
swept-init size v n closed = record {
  renamed = renamed-same v;
  stay = λ x some ne. refl;
  done = λ x some same. omega arith;
  stop = first (cells_of v.cells n);
  counted = omega arith;
  relieved = record { budget = refl; total = refl; closed = closed; stock = omega arith; end = refl };
}
  where
    first : (cells : List Cell) → (0 ≡ extent cells) ⊎ IsSome (cell_at cells 0)
    first [] = inl refl
    first (c ∷ cells) = inr refl

-- the cell at which the walk stands, before the end
cell_of : (o : Option Cell) → IsSome o → (c : Cell) × (o ≡ Some c)
cell_of None some = cc
cell_of (Some c) some = (c, refl)

no_body : (c : Cell) → c.kind ≡ None → body_of c ≡ None
no_body c e = ap (option_map (λ (kind : Kind). (kind, drop (8 * links_of kind) c.rest))) e

module _ (size : ℕ) (old now : View) (n offset count : ℕ) (there back : Ref → Ref) (w : IsSweeping size old now n offset count there back) (c : Cell) (here : cell_in now.cells (record { segment = n; offset = offset }) ≡ Some c) where
  -- what is live behind a cell that is none begins where it ends, or later
  behind_cell : (x : Ref) → IsSome (body now x) → x.segment ≡ n → x.offset ≢ offset → offset + size_of c ≤ x.offset
  behind_cell x some same ne =
      let o = object now.cells x some in let from = w.done x some same in
      let at : cell_at (cells_of now.cells n) x.offset ≡ Some o.cell = ap (λ k. cell_at (cells_of now.cells k) x.offset) (sym same) ∙ o.here in
      at-apart (cells_of now.cells n) offset x.offset c o.cell here at (omega (arith, from, ne))

  -- a gap is passed over
  pub swept-gap : c.kind ≡ None → IsSweeping size old now n (offset + size_of c) count there back
  swept-gap gap = record {
    renamed = w.renamed;
    stay = w.stay;
    done = λ x some same. behind_cell x some same (λ at.
        let is : body now x ≡ None =
        ap (λ k. option_and_then body_of (cell_at (cells_of now.cells k) x.offset)) same ∙ ap (λ k. option_and_then body_of (cell_at (cells_of now.cells n) k)) at ∙ ap (option_and_then body_of) here ∙ no_body c gap in
        let bad = ap is_some is in cc);
    stop = at-next (cells_of now.cells n) offset c here;
    counted = w.counted;
    relieved = w.relieved;
  }

  -- an object is moved
  pub swept-move : (new : View) (q : Ref) → IsMovedTo size now new (record { segment = n; offset = offset }) q
      → IsSweeping size old new n (offset + size_of c) (count + 1) (λ x. swapped_ref (record { segment = n; offset = offset }) q (there x)) (λ x. back (swapped_ref (record { segment = n; offset = offset }) q x))
  swept-move new q m =
      let r : Ref = record { segment = n; offset = offset } in
      let moved_cell : option_map (λ (c : Cell). size_of c) (cell_in new.cells r) ≡ Some (size_of c) = m.sizes r refl ∙ ap (option_map (λ (c : Cell). size_of c)) here in
      let there_now = sized_cell (cell_in new.cells r) (size_of c) moved_cell in record {
        renamed = renamed-then old now new there back (swapped_ref r q) (swapped_ref r q) w.renamed m.renamed;
        stay = λ x some ne.
            let own = w.stay x some ne in let live : IsSome (body now x) = subst IsSome (sym (ap (body now) (sym own) ∙ w.renamed.bodies x)) some in
            ap (swapped_ref r q) own ∙ swap-else r q x (λ e. ne (ap (λ (y : Ref). y.segment) e)) (λ e. let none : body now x ≡ None = ap (body now) e ∙ m.fresh in let bad = ap is_some none in cc);
        done = λ x some same.
            let no_r : x ≢ r = λ e. let none : body new x ≡ None = ap (body new) e ∙ m.gone in let bad = ap is_some none in cc in
            let no_q : x ≢ q = λ e. m.elsewhere (ap (λ (y : Ref). y.segment) (sym e) ∙ same) in
            let was : body new x ≡ body now x = ap (body new) (sym (swap-else r q x no_r no_q)) ∙ m.renamed.bodies x in
            behind_cell x (subst IsSome was some) same (λ at. no_r (ref-equal x r same at));
        stop = elim (at-next (cells_of new.cells n) offset there_now.0 there_now.1) [
          | inl e ↦ inl (omega (arith, e, there_now.2))
          | inr s ↦ inr (subst (λ k. IsSome (cell_at (cells_of new.cells n) (offset + k))) there_now.2 s)
        ];
        counted = omega (arith, w.counted, m.counted);
        relieved = record {
          budget = m.relieved.budget ∙ w.relieved.budget;
          total = m.relieved.total ∙ w.relieved.total;
          closed = m.relieved.closed;
          stock = omega (arith, m.relieved.stock, w.relieved.stock);
          end = m.relieved.end ∙ w.relieved.end;
        };
      }
    where
      sized_cell : (o : Option Cell) (k : ℕ) → option_map (λ (c : Cell). size_of c) o ≡ Some k → (d : Cell) × (o ≡ Some d) × (size_of d ≡ k)
      sized_cell None k e = cc
      sized_cell (Some d) k e = (d, refl, cc)

-- ---- what the walk knows of the cell at which it stands

pub cell_where : (o : Option Cell) (P : Cell → Type 0) → IsSomeAnd o P → (c : Cell) × (o ≡ Some c) × P c
cell_where None P p = absurd p
cell_where (Some c) P p = (c, refl, p)

pub some-there : (cells : List (List Cell)) (r : Ref) (c : Cell) (kind : Kind) → cell_in cells r ≡ Some c → c.kind ≡ Some kind → IsSome (body_in cells r)
some-there cells r c kind e is =
    let body : body_in cells r ≡ Some (kind, drop (8 * links_of kind) c.rest) = ap (option_and_then body_of) e ∙ ap (option_map (λ (kind : Kind). (kind, drop (8 * links_of kind) c.rest))) is in
    ap is_some body

pub live-there : (cells : List Cell) (offset : ℕ) (c : Cell) (kind : Kind) → cell_at cells offset ≡ Some c → c.kind ≡ Some kind → 0 < live_in cells
live-there cells offset c kind e is =
    let whole : live_size c ≡ size_of c = ap (λ (k : Option Kind). cond (is_some k) (size_of c) 0) is in omega (arith, part-of-sum live_size cells offset c e, whole, size-least c)

-- ---- behind the last cell

module _ (size : ℕ) (old now : View) (n count : ℕ) (there back : Ref → Ref) (w : IsSweeping size old now n (extent (cells_of old.cells n)) count there back) where
  pub swept-gone : (x : Ref) → IsSome (body now x) → x.segment ≢ n
  swept-gone x some same =
      let o = object now.cells x some in let from = w.done x some same in
      let at : cell_at (cells_of now.cells n) x.offset ≡ Some o.cell = ap (λ k. cell_at (cells_of now.cells k) x.offset) (sym same) ∙ o.here in
      omega (arith, at-within (cells_of now.cells n) x.offset o.cell at, size-least o.cell, from, w.relieved.end)

  no_kind : (c : Cell) (k : Option Kind) (offset : ℕ) → cell_at (cells_of now.cells n) offset ≡ Some c → c.kind ≡ k → c.kind ≡ None
  no_kind c None offset e is = is
  no_kind c (Some kind) offset e is =
      let some : body now (record { segment = n; offset = offset }) ≡ Some (kind, drop (8 * links_of kind) c.rest) =
      ap (option_and_then body_of) e ∙ ap (option_map (λ (kind : Kind). (kind, drop (8 * links_of kind) c.rest))) is in
      absurd (swept-gone (record { segment = n; offset = offset }) (ap is_some some) refl)

  nothing_at : (g : Cell → ℕ) → ((c : Cell) → c.kind ≡ None → g c ≡ 0) → (offset : ℕ) → option_map_or g (cell_at (cells_of now.cells n) offset) 0 ≡ 0
  nothing_at g gap offset = at (cell_at (cells_of now.cells n) offset) refl
    where
      at : (o : Option Cell) → cell_at (cells_of now.cells n) offset ≡ o → option_map_or g o 0 ≡ 0
      at None e = refl
      at (Some c) e = gap c (no_kind c c.kind offset e refl)

  pub swept-none : live_in (cells_of now.cells n) ≡ 0
  swept-none = let gap : (c : Cell) → c.kind ≡ None → live_size c ≡ 0 = λ c e. ap (λ (k : Option Kind). cond (is_some k) (size_of c) 0) e in none-in live_size gap (cells_of now.cells n) (nothing_at live_size gap)

  pub swept-count : count ≡ live_count (cells_of old.cells n)
  swept-count =
      let gap : (c : Cell) → c.kind ≡ None → one_if_live c ≡ 0 = λ c e. ap (λ (k : Option Kind). cond (is_some k) 1 0) e in
      omega (arith, w.counted, none-in one_if_live gap (cells_of now.cells n) (nothing_at one_if_live gap))

-- ---- a segment in which nothing is live is given back

pub renamed-keeps : (a b c : View) (there back : Ref → Ref) → IsRenamedBy a b there back → ((r : Ref) → body c r ≡ body b r) → ((e : End) → link_of c e ≡ link_of b e) → c.roots ≡ b.roots → IsRenamedBy a c there back
renamed-keeps a b c there back p bodies links roots = record {
  back_there = p.back_there;
  there_back = p.there_back;
  bodies = λ r. bodies (there r) ∙ p.bodies r;
  links = λ e h. links (end_by there e) ∙ p.links e h;
  kept = λ s h. let k = p.kept s h in (k.0, ap (λ l. get_or l s.number None) roots ∙ k.1);
  known = λ s h. p.known s (h.0, ap (λ l. get_or l s.number None) (sym roots) ∙ h.1);
  slots = ap slots_in roots ∙ p.slots;
}

module _ (mid new : List (List Cell)) (n : ℕ) (inside : n < length mid) (cleared : new ≡ set mid n []) (gone : (x : Ref) → IsSome (body_in mid x) → x.segment ≢ n) where
  others_stand : (m : ℕ) → m ≢ n → cells_of new m ≡ cells_of mid m
  others_stand m ne = ap (λ l. cells_of l m) cleared ∙ get_or-set_other mid n m [] [] ne

  none_stands : cells_of new n ≡ []
  none_stands = ap (λ l. cells_of l n) cleared ∙ get_or-set_same mid n [] [] inside

  no_cell : (x : Ref) → x.segment ≡ n → cell_in new x ≡ None
  no_cell x same = ap (λ m. cell_at (cells_of new m) x.offset) same ∙ ap (λ l. cell_at l x.offset) none_stands

  none_of : (o : Option (Kind × List ℕ)) → (IsSome o → ⊥) → o ≡ None
  none_of None h = refl
  none_of (Some b) h = absurd (h refl)

  pub released-bodies : (x : Ref) → body_in new x ≡ body_in mid x
  released-bodies x = elim (decided x.segment n) [
    | inl same ↦ ap (option_and_then body_of) (no_cell x same) ∙ sym (none_of (body_in mid x) (λ some. gone x some same))
    | inr ne ↦ ap (λ l. body_at l x.offset) (others_stand x.segment ne)
  ]

  no_word : (x : Ref) (field : ℕ) → x.segment ≡ n → word_in mid x field ≡ 0
  no_word x field same = at (cell_in mid x) refl
    where
      of : (c : Cell) (k : Option Kind) → cell_in mid x ≡ Some c → c.kind ≡ k → word_of field c ≡ 0
      of c None e is = word-beyond field c (omega (arith, ap link_count is))
      of c (Some kind) e is =
          let some : body_in mid x ≡ Some (kind, drop (8 * links_of kind) c.rest) =
          ap (option_and_then body_of) e ∙ ap (option_map (λ (kind : Kind). (kind, drop (8 * links_of kind) c.rest))) is in
          absurd (gone x (ap is_some some) same)

      at : (o : Option Cell) → cell_in mid x ≡ o → word_in mid x field ≡ 0
      at None e = word-none mid x field e
      at (Some c) e = word-there mid x field c e ∙ of c c.kind e refl

  pub released-words : (x : Ref) (field : ℕ) → word_in new x field ≡ word_in mid x field
  released-words x field = elim (decided x.segment n) [
    | inl same ↦ word-none new x field (no_cell x same) ∙ sym (no_word x field same)
    | inr ne ↦ word-same mid new x field (ap (λ l. cell_at l x.offset) (others_stand x.segment ne))
  ]
