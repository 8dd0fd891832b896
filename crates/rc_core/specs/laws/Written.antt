-- A memtable's chain stands for its writes: what keeps that, and what follows from it.
use Rattle.std.specs.Prelude.{◌≡◌, Bool, true, false, ℕ, suc, IsTrue, List, [], ◌∷◌, ◌++◌, Option, Some, None, cond, length, map as list_map}
use Rattle.std.proofs.Common.{append-nil, refl, sym, ap, ◌∙◌, subst}
use Rattle.std.proofs.lemmas.List.{append_assoc}
use Rattle.std.specs.declared.cmp.Ordering.TheVariants.{Less, Equal, Greater}
use Rattle.std.specs.Cmp.{tied_itself}
use Rattle.std.specs.Ordering.{is_eq, eq_by_cmp}
use Rattle.std.specs.Option.{option_to_list}
use Rattle.std.specs.List.{filter}
use Rattle.rc_cell.specs.declared.rows.Row.{Row}
use Rattle.rc_cell.specs.declared.writes.Tomb.{Tomb}
use Rattle.rc_cell.specs.Orders.{tomb_cmp, tomb_cmp_total}
use Rattle.rc_cell.specs.laws.Beats.{tomb_cmp-IsAntisymmetric}
use Rattle.rc_cell.specs.Greatest.{greater}
use Rattle.rc_cell.specs.laws.Greatest.{greatest-two}
use Rattle.rc_cell.specs.laws.{joined_row-none, joined_row-swap}
use Rattle.rc_cell.specs.Winner.{greatest, joined_row, empty_row}
use Rattle.rc_position.specs.declared.comps.Comp.{Comp}
use Rattle.rc_position.specs.declared.positions.Pos.{Pos}
use Rattle.rc_position.specs.declared.positions.Weight.{Weight}
use Rattle.rc_position.specs.declared.positions.Weight.TheVariants.{Before, At, After}
use Rattle.rc_position.specs.Position.{pos_cmp, row_pos, covers}
use Rattle.rc_position.specs.laws.Orders.{pos_cmp_total, pos_cmp_same}
use Rattle.rc_mutation.specs.Piece.{Piece}
use Rattle.rc_mutation.specs.Cover.{cover, tombs_over}
use Rattle.rc_mutation.specs.declared.mutations.Mutation.{Mutation}
use Rattle.rc_mutation.specs.Source.{SameSource, source_at_head, source_at_static, static_rows, rows_in, all_rows, all_pieces}
use Rattle.rc_mutation.specs.Source as source
use Rattle.rc_mutation.specs.laws.Sources.{partition_tombs-append, static_rows-append}
use Rattle.rc_core.specs.declared.entries.ChainKind.TheVariants.{Memtable}
use Rattle.rc_core.specs.declared.entries.Flag.TheVariants.{Inherit}
use Rattle.rc_core.specs.SpotState.{SpotState, through, joined_state, silent}
use Rattle.rc_core.specs.Version.{Spot, On, Behind, Version, IsVersion, state_at, static_state, finding_in}
use Rattle.rc_core.specs.Chain.{has_flag, content, states_at, flag_over, IsKnown}
use Rattle.rc_core.specs.Change.{joined_onto}
use Rattle.rc_core.specs.Continuity.{EachOf, static_states, version_tombs}
use Rattle.rc_core.specs.Merge.{IsSeenAlike, new_version}
use Rattle.rc_core.specs.Chains.{Chain, AllInherit, IsMemtableChain}
use Rattle.rc_core.specs.Steps.{IsChain, on_newest, row_joined, range_joined, join_pt, join_statics}
use Rattle.rc_core.specs.StandsFor.{StandsFor, written_row, written_range, written_statics, written_pt}
use Rattle.rc_core.specs.laws.Folding.{flagged-through, content-through}
use Rattle.rc_core.specs.laws.Filling.{no_rows}
use Rattle.rc_core.specs.laws.Losing.{joined-again, tomb-alone, each-one}
use Rattle.rc_core.specs.laws.MemtableChains.{over_inherit, silent_top}
use Rattle.rc_core.specs.laws.Memtables.{content_top, row_there, row_other, row-inherits, range_inside, range_outside, range-inherits}
use Rattle.rc_core.specs.laws.Merging.{rows_by_parts, tombs_by_parts, source-more, cons_is, pts_one, new-silent, alike-seen}
use Rattle.rc_core.specs.laws.Spots.{position-reached}
use Rattle.rc_core.specs.laws.Standing.{Newest, newest-is, on_newest-parts}

-- ---- no writes, a version more, what is seen alike

no_tombs : ◌≡◌ {A = Option Tomb} (greatest tomb_cmp []) None
no_tombs = tomb-alone None

pub nothing-stands : (phase : ℕ) → StandsFor [] (new_version None phase ∷ [])
unfolding cover
nothing-stands phase = record {
  head = refl;
  statics = λ i. (joined_row [], no_tombs i);
  clustered = λ x. ap (λ c. content (c ∷ [])) ((new-silent None phase).clustered (On x));
}

-- what is seen through a version that says nothing is what is seen without it
top_nothing : (f : Version → SpotState) (versions : List Version) (v : Version) → f v ≡ silent → content (list_map f (versions ++ v ∷ [])) ≡ content (list_map f versions)
top_nothing f versions v e = content-through (list_map f (versions ++ v ∷ [])) ∙ ap joined_state (silent_top f versions v e) ∙ sym (content-through (list_map f versions))

pub added-stands : (writes : List Mutation) (versions : List Version) (phase : ℕ) → StandsFor writes versions → StandsFor writes (versions ++ new_version None phase ∷ [])
added-stands writes versions phase s = record {
  head = ap (greatest tomb_cmp) (pts_one versions [] (new_version None phase) ∙ append-nil (version_tombs versions)) ∙ s.head;
  statics = top_nothing static_state versions (new_version None phase) refl ∙ s.statics;
  clustered = λ x. top_nothing (state_at (On x)) versions (new_version None phase) ((new-silent None phase).clustered (On x)) ∙ s.clustered x;
}

pub alike-stands : (writes : List Mutation) (before now : List Version) → IsSeenAlike before now → StandsFor writes before → StandsFor writes now
alike-stands writes before now a s = record {
  head = a.head ∙ s.head;
  statics = content-through (static_states now) ∙ a.statics.1 ∙ sym (content-through (static_states before)) ∙ s.statics;
  clustered = λ x. alike-seen before now (On x) a ∙ s.clustered x;
}

pub same-stands : (writes others : List Mutation) (versions : List Version) → SameSource writes others → StandsFor writes versions → StandsFor others versions
same-stands writes others versions e s = record {
  head = s.head ∙ e.head;
  statics = s.statics ∙ (λ i. (e.statics i, None));
  clustered = λ x. s.clustered x ∙ e.clustered x;
}

-- ---- one write more

content_more : (f : Version → SpotState) (older : List Version) (v w : Version) (rs : List Row) (ts : List Tomb) → (f v).flag ≡ Inherit → (f w).flag ≡ Inherit →
    joined_row (f w).rows ≡ joined_row ((f v).rows ++ rs) → greatest tomb_cmp (f w).tombs ≡ greatest tomb_cmp ((f v).tombs ++ ts) →
    (xs : List Row) (us : List Tomb) → content (list_map f (older ++ v ∷ [])) ≡ (joined_row xs, greatest tomb_cmp us) →
    content (list_map f (older ++ w ∷ [])) ≡ (joined_row (xs ++ rs), greatest tomb_cmp (us ++ ts))
content_more f older v w rs ts e d p q xs us h = content_top f older w d ∙ (λ i. (rows i, tombs i))
  where
    below : SpotState
    below = through (list_map f older)

    was : ◌≡◌ {A = Row × Option Tomb} (joined_row (below.rows ++ (f v).rows), greatest tomb_cmp (below.tombs ++ (f v).tombs)) (joined_row xs, greatest tomb_cmp us)
    was = sym (content_top f older v e) ∙ h

    rows : joined_row (below.rows ++ (f w).rows) ≡ joined_row (xs ++ rs)
    rows =
        rows_by_parts below.rows (f w).rows below.rows ((f v).rows ++ rs) refl p
        ∙ ap joined_row (sym (append_assoc below.rows (f v).rows rs))
        ∙ rows_by_parts (below.rows ++ (f v).rows) rs xs rs (ap (λ (a : Row × Option Tomb). a.0) was) refl

    tombs : greatest tomb_cmp (below.tombs ++ (f w).tombs) ≡ greatest tomb_cmp (us ++ ts)
    tombs =
        tombs_by_parts below.tombs (f w).tombs below.tombs ((f v).tombs ++ ts) refl q
        ∙ ap (greatest tomb_cmp) (sym (append_assoc below.tombs (f v).tombs ts))
        ∙ tombs_by_parts (below.tombs ++ (f v).tombs) ts us ts (ap (λ (a : Row × Option Tomb). a.1) was) refl

module _ (writes : List Mutation) (change : Mutation) (older : List Version) (v w : Version) (av : AllInherit v) (aw : AllInherit w)
    (head : w.pt ≡ greater tomb_cmp v.pt change.pt)
    (statics : joined_row (static_state w).rows ≡ joined_row ((static_state v).rows ++ change.statics ∷ []))
    (rows : (x : Pos) → joined_row (state_at (On x) w).rows ≡ joined_row ((state_at (On x) v).rows ++ rows_in x (all_rows (change ∷ []))))
    (tombs : (x : Pos) → greatest tomb_cmp (state_at (On x) w).tombs ≡ greatest tomb_cmp ((state_at (On x) v).tombs ++ tombs_over (all_pieces (change ∷ [])) x)) where
  one_pt : greatest tomb_cmp (option_to_list w.pt ++ []) ≡ greatest tomb_cmp ((option_to_list v.pt ++ []) ++ option_to_list change.pt)
  one_pt =
      ap (greatest tomb_cmp) (append-nil (option_to_list w.pt)) ∙ tomb-alone w.pt ∙ head
      ∙ sym (greatest-two tomb_cmp_total tomb_cmp-IsAntisymmetric v.pt change.pt)
      ∙ ap (λ ts. greatest tomb_cmp (ts ++ option_to_list change.pt)) (sym (append-nil (option_to_list v.pt)))

  written_head : StandsFor writes (older ++ v ∷ []) → greatest tomb_cmp (version_tombs (older ++ w ∷ [])) ≡ source_at_head (writes ++ change ∷ [])
  written_head s =
      ap (greatest tomb_cmp) (pts_one older [] w)
      ∙ tombs_by_parts (version_tombs older) (option_to_list w.pt ++ []) (version_tombs older) ((option_to_list v.pt ++ []) ++ option_to_list change.pt) refl one_pt
      ∙ ap (greatest tomb_cmp) (sym (append_assoc (version_tombs older) (option_to_list v.pt ++ []) (option_to_list change.pt)))
      ∙ tombs_by_parts (version_tombs older ++ (option_to_list v.pt ++ [])) (option_to_list change.pt) (source.partition_tombs writes) (source.partition_tombs (change ∷ []))
      (ap (greatest tomb_cmp) (sym (pts_one older [] v)) ∙ s.head)
      (ap (greatest tomb_cmp) (sym (cons_is change.pt [] ∙ append-nil (option_to_list change.pt))))
      ∙ ap (greatest tomb_cmp) (sym (partition_tombs-append writes (change ∷ [])))

  pub written-stands : StandsFor writes (older ++ v ∷ []) → StandsFor (writes ++ change ∷ []) (older ++ w ∷ [])
  unfolding cover
  written-stands s = record {
    head = written_head s;
    statics =
        content_more static_state older v w (change.statics ∷ []) [] av.statics aw.statics statics refl (static_rows writes) [] (s.statics ∙ (λ i. (source_at_static writes, sym no_tombs i)))
        ∙ (λ i. (joined_row (sym (static_rows-append writes (change ∷ [])) i), no_tombs i));
    clustered = λ x.
        content_more (state_at (On x)) older v w (rows_in x (all_rows (change ∷ []))) (tombs_over (all_pieces (change ∷ [])) x) (av.clustered (On x)) (aw.clustered (On x)) (rows x) (tombs x)
        (rows_in x (all_rows writes)) (tombs_over (all_pieces writes) x) (s.clustered x)
        ∙ sym (source-more writes change x);
  }

-- ---- each sort of write

none_greater : (t : Option Tomb) → t ≡ greater tomb_cmp t None
none_greater None = refl
none_greater (Some t) = refl

pub nothing_joined : (rows : List Row) → joined_row rows ≡ joined_row (rows ++ empty_row ∷ [])
nothing_joined rows = sym (joined_row-swap rows (empty_row ∷ []) ∙ no_rows rows)

onto_joined : (old : Option Row) (row : Row) → joined_row (joined_onto old row ∷ []) ≡ joined_row (option_to_list old ++ row ∷ [])
onto_joined None row = refl
onto_joined (Some o) row = joined-again (o ∷ row ∷ [])

pub rows_here : (key : List Comp) (row : Row) → rows_in (row_pos key) ((key, row) ∷ []) ≡ row ∷ []
rows_here key row = ap (λ r. list_map (λ (e : List Comp × Row). e.1) (cond (is_eq r) ((key, row) ∷ []) [])) (tied_itself pos_cmp_total (row_pos key))

pub rows_off : (x : Pos) (key : List Comp) (row : Row) → is_eq (pos_cmp x (row_pos key)) ≡ false → rows_in x ((key, row) ∷ []) ≡ []
rows_off x key row e = ap (λ b. list_map (λ (e : List Comp × Row). e.1) (cond b ((key, row) ∷ []) [])) e

module _ (older : List Version) (v : Version) (i : IsVersion v) (a : AllInherit v) where
  row_rows : (key : List Comp) (row : Row) (x : Pos) → joined_row (state_at (On x) (row_joined (row_pos key) row v)).rows ≡ joined_row ((state_at (On x) v).rows ++ rows_in x ((key, row) ∷ []))
  row_rows key row x = elim (pos_cmp x (row_pos key)) as (λ r. pos_cmp x (row_pos key) ≡ r → joined_row (state_at (On x) (row_joined (row_pos key) row v)).rows ≡ joined_row ((state_at (On x) v).rows ++ rows_in x ((key, row) ∷ []))) [
    | Less ↦ λ e. other (λ d. let u : Less ≡ Equal = sym e ∙ d in cc) (ap is_eq e)
    | Equal ↦ λ e. subst (λ y. joined_row (state_at (On y) (row_joined (row_pos key) row v)).rows ≡ joined_row ((state_at (On y) v).rows ++ rows_in y ((key, row) ∷ []))) (sym (pos_cmp_same x (row_pos key) e)) there
    | Greater ↦ λ e. other (λ d. let u : Greater ≡ Equal = sym e ∙ d in cc) (ap is_eq e)
  ] refl
    where
      other : (pos_cmp x (row_pos key) ≡ Equal → ⊥) → is_eq (pos_cmp x (row_pos key)) ≡ false → joined_row (state_at (On x) (row_joined (row_pos key) row v)).rows ≡ joined_row ((state_at (On x) v).rows ++ rows_in x ((key, row) ∷ []))
      other off e = ap (λ (c : SpotState). joined_row c.rows) (row_other older v i a (row_pos key) row (On x) off) ∙ ap joined_row (sym (append-nil (state_at (On x) v).rows) ∙ ap (λ rs. (state_at (On x) v).rows ++ rs) (sym (rows_off x key row e)))

      there : joined_row (state_at (On (row_pos key)) (row_joined (row_pos key) row v)).rows ≡ joined_row ((state_at (On (row_pos key)) v).rows ++ rows_in (row_pos key) ((key, row) ∷ []))
      there =
          ap (λ (c : SpotState). joined_row c.rows) (row_there older v i a (row_pos key) row)
          ∙ onto_joined (finding_in (On (row_pos key)) v.entries).row row
          ∙ ap (λ rs. joined_row ((state_at (On (row_pos key)) v).rows ++ rs)) (sym (rows_here key row))

  row_tombs : (key : List Comp) (row : Row) (x : Pos) → (state_at (On x) (row_joined (row_pos key) row v)).tombs ≡ (state_at (On x) v).tombs
  row_tombs key row x = elim (pos_cmp x (row_pos key)) as (λ r. pos_cmp x (row_pos key) ≡ r → (state_at (On x) (row_joined (row_pos key) row v)).tombs ≡ (state_at (On x) v).tombs) [
    | Less ↦ λ e. ap (λ (c : SpotState). c.tombs) (row_other older v i a (row_pos key) row (On x) (λ d. let u : Less ≡ Equal = sym e ∙ d in cc))
    | Equal ↦ λ e. subst (λ y. (state_at (On y) (row_joined (row_pos key) row v)).tombs ≡ (state_at (On y) v).tombs) (sym (pos_cmp_same x (row_pos key) e)) (ap (λ (c : SpotState). c.tombs) (row_there older v i a (row_pos key) row))
    | Greater ↦ λ e. ap (λ (c : SpotState). c.tombs) (row_other older v i a (row_pos key) row (On x) (λ d. let u : Greater ≡ Equal = sym e ∙ d in cc))
  ] refl

  row-stands : (writes : List Mutation) (key : List Comp) (row : Row) → StandsFor writes (older ++ v ∷ []) → StandsFor (writes ++ written_row key row ∷ []) (older ++ row_joined (row_pos key) row v ∷ [])
  row-stands writes key row = written-stands writes (written_row key row) older v (row_joined (row_pos key) row v) a (row-inherits older v i a (row_pos key) row)
      (none_greater v.pt)
      (nothing_joined (static_state v).rows)
      (row_rows key row)
      (λ x. ap (greatest tomb_cmp) (row_tombs key row x ∙ sym (append-nil (state_at (On x) v).tombs)))

  range_rows : (from to : Pos) (tomb : Tomb) (x : Pos) → (state_at (On x) (range_joined from to tomb v)).rows ≡ (state_at (On x) v).rows
  range_rows from to tomb x = elim (covers from to x) as (λ b. covers from to x ≡ b → (state_at (On x) (range_joined from to tomb v)).rows ≡ (state_at (On x) v).rows) [
    | true ↦ λ e. ap (λ (c : SpotState). c.rows) (range_inside older v i a from to tomb (On x) (position-reached x v.entries i.ends) e)
    | false ↦ λ e. ap (λ (c : SpotState). c.rows) (range_outside older v i a from to tomb (On x) (position-reached x v.entries i.ends) e)
  ] refl

  range_tombs : (from to : Pos) (tomb : Tomb) (x : Pos) → greatest tomb_cmp (state_at (On x) (range_joined from to tomb v)).tombs ≡ greatest tomb_cmp ((state_at (On x) v).tombs ++ tombs_over (all_pieces (written_range from to tomb ∷ [])) x)
  range_tombs from to tomb x = elim (covers from to x) as (λ b. covers from to x ≡ b → greatest tomb_cmp (state_at (On x) (range_joined from to tomb v)).tombs ≡ greatest tomb_cmp ((state_at (On x) v).tombs ++ over b)) [
    | true ↦ λ e.
        ap (λ (c : SpotState). greatest tomb_cmp c.tombs) (range_inside older v i a from to tomb (On x) (position-reached x v.entries i.ends) e)
        ∙ tomb-alone (greater tomb_cmp (finding_in (On x) v.entries).mark.tomb (Some tomb))
        ∙ sym (greatest-two tomb_cmp_total tomb_cmp-IsAntisymmetric (finding_in (On x) v.entries).mark.tomb (Some tomb))
    | false ↦ λ e.
        ap (λ (c : SpotState). greatest tomb_cmp c.tombs) (range_outside older v i a from to tomb (On x) (position-reached x v.entries i.ends) e)
        ∙ ap (greatest tomb_cmp) (sym (append-nil (state_at (On x) v).tombs))
  ] refl
    where
      over : Bool → List Tomb
      over b = list_map (λ (p : Piece). p.tomb) (cond b (record { from = from; to = to; tomb = tomb } ∷ []) [])

  range-stands : (writes : List Mutation) (from to : Pos) (tomb : Tomb) → StandsFor writes (older ++ v ∷ []) → StandsFor (writes ++ written_range from to tomb ∷ []) (older ++ range_joined from to tomb v ∷ [])
  range-stands writes from to tomb = written-stands writes (written_range from to tomb) older v (range_joined from to tomb v) a (range-inherits older v i a from to tomb)
      (none_greater v.pt)
      (nothing_joined (static_state v).rows)
      (λ x. ap joined_row (range_rows from to tomb x ∙ sym (append-nil (state_at (On x) v).rows)))
      (range_tombs from to tomb)

  statics-stands : (writes : List Mutation) (row : Row) → StandsFor writes (older ++ v ∷ []) → StandsFor (writes ++ written_statics row ∷ []) (older ++ join_statics row v ∷ [])
  statics-stands writes row = written-stands writes (written_statics row) older v (join_statics row v) a (record { statics = a.statics; clustered = a.clustered })
      (none_greater v.pt)
      (onto_joined v.statics row)
      (λ x. ap joined_row (sym (append-nil (state_at (On x) v).rows)))
      (λ x. ap (greatest tomb_cmp) (sym (append-nil (state_at (On x) v).tombs)))

  pt-stands : (writes : List Mutation) (tomb : Tomb) → StandsFor writes (older ++ v ∷ []) → StandsFor (writes ++ written_pt tomb ∷ []) (older ++ join_pt tomb v ∷ [])
  pt-stands writes tomb = written-stands writes (written_pt tomb) older v (join_pt tomb v) a (record { statics = a.statics; clustered = a.clustered })
      refl
      (nothing_joined (static_state v).rows)
      (λ x. ap joined_row (sym (append-nil (state_at (On x) v).rows)))
      (λ x. ap (greatest tomb_cmp) (sym (append-nil (state_at (On x) v).tombs)))

-- ---- of a chain

module _ (c : Chain) (newest : ℕ) (e : suc newest ≡ length c.versions) (ch : IsChain c) (k : IsMemtableChain c) where
  n : Newest c.versions newest
  n = newest-is c.versions newest e

  form : IsVersion n.newest
  form = each-one IsVersion n.older [] n.newest (subst (EachOf IsVersion) n.parts ch.versions)

  inherits : AllInherit n.newest
  inherits = each-one AllInherit n.older [] n.newest (subst (EachOf AllInherit) n.parts k.flags)

  onto_newest : (writes others : List Mutation) (f : Version → Version) → (StandsFor writes (n.older ++ n.newest ∷ []) → StandsFor others (n.older ++ f n.newest ∷ [])) → StandsFor writes c.versions → StandsFor others (on_newest f c.versions)
  onto_newest writes others f step s = subst (StandsFor others) (sym (ap (on_newest f) n.parts ∙ on_newest-parts f n.older n.newest)) (step (subst (StandsFor writes) n.parts s))

  pub row-written : (writes : List Mutation) (key : List Comp) (row : Row) → StandsFor writes c.versions → StandsFor (writes ++ written_row key row ∷ []) (on_newest (row_joined (row_pos key) row) c.versions)
  row-written writes key row = onto_newest writes (writes ++ written_row key row ∷ []) (row_joined (row_pos key) row) (row-stands n.older n.newest form inherits writes key row)

  pub range-written : (writes : List Mutation) (from to : Pos) (tomb : Tomb) → StandsFor writes c.versions → StandsFor (writes ++ written_range from to tomb ∷ []) (on_newest (range_joined from to tomb) c.versions)
  range-written writes from to tomb = onto_newest writes (writes ++ written_range from to tomb ∷ []) (range_joined from to tomb) (range-stands n.older n.newest form inherits writes from to tomb)

  pub statics-written : (writes : List Mutation) (row : Row) → StandsFor writes c.versions → StandsFor (writes ++ written_statics row ∷ []) (on_newest (join_statics row) c.versions)
  statics-written writes row = onto_newest writes (writes ++ written_statics row ∷ []) (join_statics row) (statics-stands n.older n.newest form inherits writes row)

  pub pt-written : (writes : List Mutation) (tomb : Tomb) → StandsFor writes c.versions → StandsFor (writes ++ written_pt tomb ∷ []) (on_newest (join_pt tomb) c.versions)
  pt-written writes tomb = onto_newest writes (writes ++ written_pt tomb ∷ []) (join_pt tomb) (pt-stands n.older n.newest form inherits writes tomb)

-- ---- what follows

all_inherit : (s : Spot) (versions : List Version) → EachOf AllInherit versions → (through (states_at s versions)).flag ≡ Inherit
all_inherit s [] h = refl
all_inherit s (v ∷ vs) h = over_inherit (through (states_at s vs)).flag (state_at s v) (through (states_at s vs)) (all_inherit s vs h.1) (h.0.clustered s)

pub memtable-flagged : (s : Spot) (versions : List Version) → EachOf AllInherit versions → IsTrue (has_flag Memtable (states_at s versions))
memtable-flagged s versions h = flagged-through Memtable (states_at s versions) ∙ ap (flag_over Memtable) (all_inherit s versions h)

pub memtable-known : (versions : List Version) → EachOf AllInherit versions → (x : Pos) → IsKnown Memtable versions x
memtable-known versions h x = record { at = memtable-flagged (On x) versions h; gap = λ _. memtable-flagged (Behind x) versions h }

pub no_rows_off : (x : Pos) → ((k : List Comp) → x ≡ row_pos k → ⊥) → (rows : List (List Comp × Row)) → rows_in x rows ≡ []
no_rows_off x h [] = refl
no_rows_off x h (r ∷ rs) =
    ap (λ b. list_map (λ (e : List Comp × Row). e.1) (cond b (r ∷ filter (λ e. eq_by_cmp pos_cmp x (row_pos e.0)) rs) (filter (λ e. eq_by_cmp pos_cmp x (row_pos e.0)) rs))) (apart (row_pos r.0) (h r.0))
    ∙ no_rows_off x h rs
  where
    apart : (y : Pos) → (x ≡ y → ⊥) → is_eq (pos_cmp x y) ≡ false
    apart y off = elim (pos_cmp x y) as (λ r. pos_cmp x y ≡ r → is_eq r ≡ false) [ Less ↦ λ _. refl | Equal ↦ λ e. absurd (off (pos_cmp_same x y e)) | Greater ↦ λ _. refl ] refl

pub row-at-key : (writes : List Mutation) (versions : List Version) (x : Pos) → StandsFor writes versions → ((content (states_at (On x) versions)).0 ≡ empty_row → ⊥) → x ≡ row_pos x.prefix
row-at-key writes versions x s some = by x.weight refl
  where
    off : ((k : List Comp) → x ≡ row_pos k → ⊥) → ⊥
    off h = some (ap (λ (a : Row × Option Tomb). a.0) (s.clustered x) ∙ ap joined_row (no_rows_off x h (all_rows writes)) ∙ joined_row-none)

    by : (w : Weight) → x.weight ≡ w → x ≡ row_pos x.prefix
    by At e = λ i. record { prefix = x.prefix; weight = e i }
    by Before e = absurd (off (λ k d. let u : Before ≡ At = sym e ∙ ap (λ (y : Pos). y.weight) d in cc))
    by After e = absurd (off (λ k d. let u : After ≡ At = sym e ∙ ap (λ (y : Pos). y.weight) d in cc))
