-- There is room for a row in a version of its end dummy alone.
use Rattle.std.proofs.Common.{◌≡◌, ℕ, ◌+◌, ◌≤◌, List, [], ◌∷◌, length, Option, Some, None, inl, inr, refl, sym, ap, subst, arith}
use Rattle.rc_cell.specs.declared.rows.Row.{Row}
use Rattle.rc_cell.specs.declared.writes.Tomb.{Tomb}
use Rattle.rc_position.specs.declared.comps.Comp.{Comp}
use Rattle.rc_position.specs.Position.{IsBefore, pos_cmp, row_pos}
use Rattle.rc_rowcode.specs.Spelling.{pos_code, row_code}
use Rattle.lsa_kinds.specs.Kinds.{up8}
use Rattle.lsa_pool.specs.Room.{spare_of}
use Rattle.lsa_store.specs.declared.place.Ref.{Ref}
use Rattle.lsa_region.specs.Region.{View, body}
use Rattle.rc_core.specs.Change.{dummy, joined_onto, mark}
use Rattle.rc_core.specs.declared.entries.Flag.{Flag}
use Rattle.rc_core.specs.Steps.{version_of}
use Rattle.rc_core.specs.Version.{On, end_position, entry_answers, finding_in, finding_of}
use Rattle.rc_object.specs.Objects.{HasRoomFor, entry_length}
use Rattle.rc_version.specs.Versions.{IsVersionOf, IsPartOf, IsUnlisted, CanJoin, bytes_at}

-- the row of a key stands before the end
key_before_end : (key : List Comp) → IsBefore (row_pos key) end_position
unfolding pos_cmp
key_before_end [] = refl
key_before_end (c ∷ key) = refl

-- no row is seen
none_seen : (key : List Comp) (flag : Flag) → finding_in (On (row_pos key)) (dummy end_position (mark flag None) ∷ []) ≡ finding_of (mark flag None) None
none_seen key flag = ap (λ r. entry_answers r (dummy end_position (mark flag None)) (finding_in (On (row_pos key)) [])) (key_before_end key)

-- sizes that were computed and compared
pub record IsMeasured (v : View) (key : List Comp) (row : Row) (size spare space : ℕ) : Type 0 where
  pub is : size ≡ up8 (80 + (length (pos_code (row_pos key)) + length (row_code row)))
  pub small : size ≤ 512
  pub there : size ≤ spare
  pub spares : spare ≡ spare_of 4096 v.usages
  pub inside : 32 + (length (pos_code (row_pos key)) + length (row_code row)) ≤ space

pub can-join : (old new : View) (n end : Ref) (flag : Flag) (pt : Option Tomb) (phase : ℕ) (key : List Comp) (row : Row) (size spare space : ℕ) → IsVersionOf new n (end ∷ []) (version_of flag pt phase) → ((r : Ref) → IsPartOf new n r → body old r ≡ None) → ((r : Ref) → body old r ≡ None → IsUnlisted new r)
    → IsMeasured new key row size spare space → CanJoin 4096 new space n (row_pos key) row (end ∷ []) (version_of flag pt phase)
can-join old new n end flag pt phase key row size spare space h parts unlisted m = record {
  version = h;
  room = subst (λ k. HasRoomFor 4096 new (bytes_at (row_pos key) (Some (joined_onto k.row row))) space (entry_length (row_pos key) (Some (joined_onto k.row row)))) (sym (none_seen key flag))
      (record { fits = omega (arith, m.is, m.small); spare = omega (arith, m.is, m.there, m.spares); inside = m.inside });
  unlisted = λ r k at. unlisted r (parts r (inr (inl (end ∷ [], h.tree, k))));
}
