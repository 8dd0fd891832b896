-- What agrees, by what is known.
use Rattle.std.specs.Prelude.{◌≡◌, ◌⊎◌, Bool, true, false, IsTrue, List}
use Rattle.std.proofs.Common.{inl, inr, ⊎_elim, refl, sym, ap, ◌∙◌, subst}
use Rattle.std.specs.declared.cmp.Ordering.{Ordering}
use Rattle.std.specs.declared.cmp.Ordering.TheVariants.{Less, Equal, Greater}
use Rattle.rc_cell.specs.declared.rows.Row.{Row}
use Rattle.rc_cell.specs.Winner.{empty_row}
use Rattle.rc_position.specs.declared.positions.Pos.{Pos}
use Rattle.rc_position.specs.Position.{IsBefore, pos_cmp}
use Rattle.rc_mutation.specs.declared.mutations.Mutation.{Mutation}
use Rattle.rc_mutation.specs.Fragments.{is_written}
use Rattle.rc_mutation.specs.Source.{SameSource}
use Rattle.rc_mutation.specs.laws.Written.{unwritten}
use Rattle.rc_core.specs.Chain.{IsBare, IsKnown, content, has_flag, states_at}
use Rattle.rc_core.specs.declared.entries.ChainKind.{ChainKind}
use Rattle.rc_core.specs.Version.{Behind, On, Version, end_position}
use Rattle.rc_memory.specs.Memory.{Memory}
use Rattle.rc_chain.specs.declared.chains.Snap.{Snap}
use Rattle.rc_stream.specs.Snapshot.{There}
use Rattle.rc_cursor.specs.Snapshots.{AreReadable, kind_seen, versions_seen}
use Rattle.rc_snapshots.specs.Fillers.{AreKnownOf}
use Rattle.rc_agreement.specs.Agreement.{AgreesWith, AreOtherGapsSaid, IsGapSaid, SnapshotAgrees}

-- what writes say that say the same
pub same-agrees-too : (kind : ChainKind) (versions : List Version) (writes others : List Mutation) → AgreesWith kind versions writes → SameSource others writes → AgreesWith kind versions others
same-agrees-too kind versions writes others h same = record {
  known = record {
    head = h.known.head ∙ sym same.head;
    there = λ x v k. same.clustered x ∙ h.known.there x v k;
    static_row = λ t. same.statics ∙ h.known.static_row t;
  };
  gaps = λ x l t. h.gaps x l t ∙ ap (λ (v : There). v.1) (sym (same.clustered x));
}

not-empty : (row : Row) → is_written row ≡ true → row ≡ empty_row → ⊥
not-empty row w e = let u : false ≡ true = sym (ap is_written e) ∙ w in cc

-- a position is bare or not
bare-or : (versions : List Version) (x : Pos) → IsBare versions x ⊎ (IsBare versions x → ⊥)
bare-or versions x = by (pos_cmp x end_position) refl
  where
    row : IsBefore x end_position → (b : Bool) → is_written (content (states_at (On x) versions)).0 ≡ b → IsBare versions x ⊎ (IsBare versions x → ⊥)
    row l true w = inr (λ h. not-empty (content (states_at (On x) versions)).0 w h.no_row)
    row l false w = inl (record { inside = l; no_row = unwritten (content (states_at (On x) versions)).0 w })

    by : (r : Ordering) → pos_cmp x end_position ≡ r → IsBare versions x ⊎ (IsBare versions x → ⊥)
    by Less o = row o (is_written (content (states_at (On x) versions)).0) refl
    by Equal o = inr (λ h. (let u : Less ≡ Equal = sym h.inside ∙ o in cc))
    by Greater o = inr (λ h. (let u : Less ≡ Greater = sym h.inside ∙ o in cc))

-- and known or not
pub known-or : (kind : ChainKind) (versions : List Version) (x : Pos) → IsKnown kind versions x ⊎ (IsKnown kind versions x → ⊥)
known-or kind versions x = at (has_flag kind (states_at (On x) versions)) refl
  where
    gap : IsTrue (has_flag kind (states_at (On x) versions)) → (b : Bool) → has_flag kind (states_at (Behind x) versions) ≡ b → IsKnown kind versions x ⊎ (IsKnown kind versions x → ⊥)
    gap t true e = inl (record { at = t; gap = λ _. e })
    gap t false e = ⊎_elim (λ bare. inr (λ h. (let u : true ≡ false = sym (h.gap bare) ∙ e in cc))) (λ off. inl (record { at = t; gap = λ bare. absurd (off bare) })) (bare-or versions x)

    at : (b : Bool) → has_flag kind (states_at (On x) versions) ≡ b → IsKnown kind versions x ⊎ (IsKnown kind versions x → ⊥)
    at true e = gap e (has_flag kind (states_at (Behind x) versions)) refl
    at false e = inr (λ h. (let u : true ≡ false = sym h.at ∙ e in cc))

-- where knowledge and the other gaps are said, all is
pub known-agrees : (kind : ChainKind) (versions : List Version) (writes : List Mutation) → AreKnownOf kind versions writes → AreReadable kind versions → AreOtherGapsSaid kind versions writes → AgreesWith kind versions writes
known-agrees kind versions writes known readable others = record { known = known; gaps = λ x l. by x l (known-or kind versions x) (bare-or versions x) }
  where
    by : (x : Pos) → IsBefore x end_position → IsKnown kind versions x ⊎ (IsKnown kind versions x → ⊥) → IsBare versions x ⊎ (IsBare versions x → ⊥) → IsGapSaid kind versions writes x
    by x l (inl k) (inl b) = λ t. sym (readable.even x b k) ∙ ap (λ (v : There). v.1) (sym (known.there x (content (states_at (On x) versions)) (record { known = k; there = refl })))
    by x l (inl k) (inr off) = others x l (λ _ b. off b)
    by x l (inr off) b = others x l (λ k _. off k)

-- where a snapshot sees the same it agrees with the same
pub seen-agrees : (m n : Memory) (s : Snap) (writes : List Mutation) → versions_seen n s ≡ versions_seen m s → kind_seen n s ≡ kind_seen m s → SnapshotAgrees m s writes → SnapshotAgrees n s writes
seen-agrees m n s writes versions kind h = subst (λ q. AgreesWith q (versions_seen n s) writes) (sym kind) (subst (λ vs. AgreesWith (kind_seen m s) vs writes) (sym versions) h)
