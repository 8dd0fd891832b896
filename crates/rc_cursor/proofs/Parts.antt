-- A first part of what is seen, and what it says.
use Rattle.std.proofs.Common.{◌≡◌, ◌&&◌, ℕ, true, false, List, Option, Some, inl, inr, IsTrue, sym, ap, ◌∙◌, subst}
use Rattle.std.specs.Prelude.{◌⊎◌, ◌≢◌, Ok}
use Rattle.std.specs.Cmp.{tied_itself}
use Rattle.std.specs.declared.cmp.Ordering.TheVariants.{Greater}
use Rattle.std.specs.Ordering.{is_le, is_lt}
use Rattle.rc_cell.specs.declared.rows.Row.{Row}
use Rattle.rc_cell.specs.declared.writes.Tomb.{Tomb}
use Rattle.rc_cell.specs.Winner.{empty_row}
use Rattle.rc_position.specs.declared.positions.Pos.{Pos}
use Rattle.rc_position.specs.declared.positions.Weight.TheVariants.{After}
use Rattle.rc_position.specs.Position.{IsBefore, covers, pos_cmp, row_pos}
use Rattle.rc_position.specs.laws.Orders.{pos_cmp_total}
use Rattle.rc_core.specs.Chain.{IsEvenAt, IsKnown, content, states_at}
use Rattle.rc_core.specs.declared.entries.ChainKind.{ChainKind}
use Rattle.rc_core.specs.declared.parts.Part.{Part}
use Rattle.rc_core.specs.declared.parts.Part.TheVariants as part
use Rattle.rc_core.specs.Chains.{upto}
use Rattle.rc_core.specs.Parts.{IsFirstPart}
use Rattle.rc_core.specs.Steps.{pin_at}
use Rattle.rc_core.specs.Version.{On, Version}
use Rattle.rc_stream.specs.Places.{Reaches}
use Rattle.rc_reading.specs.laws.{before-end}
use Rattle.rc_chain.specs.Memory.{HasPin, KeptChain, Memory, chain_at}
use Rattle.rc_chain.specs.declared.chains.Snap.{Snap}
use Rattle.rc_stream.specs.Snapshot.{IsPartFrom, place_behind}
use Rattle.rc_cursor.specs.Snapshots.{AreReadable, IsKnownAs, kind_in, kind_seen, versions_in, versions_seen, versions_upto}
use Rattle.rc_cursor.specs.calls.Snapshots.{place_past}
use Rattle.rc_cursor.proofs.Readable.{found}

ends : (to bound : Pos) → (to ≡ bound) ⊎ IsBefore to bound → Reaches to bound
ends to bound (inl e) = subst (λ z. IsTrue (is_le (pos_cmp to z))) e (ap is_le (tied_itself pos_cmp_total to))
ends to bound (inr l) = ap is_le l

-- a position that is reached is not passed
pub not-passed : (x y : Pos) → Reaches x y → pos_cmp x y ≢ Greater
not-passed x y h e = let u : false ≡ true = sym (ap is_le e) ∙ h in cc

module _ (alike : (kind : ChainKind) (versions : List Version) (x bound to : Pos) (tomb : Option Tomb) → IsFirstPart kind versions x bound (part.Gap to tomb) → IsEvenAt kind versions x → (y : Pos) → covers x to y ≡ true → (content (states_at (On y) versions) ≡ (empty_row, tomb)) × IsKnown kind versions y) where
  pub part-seen : (kind : ChainKind) (versions : List Version) (x bound : Pos) (p : Part) → AreReadable kind versions → IsFirstPart kind versions x bound p → IsPartFrom (IsKnownAs kind versions) x bound p
  part-seen kind versions x bound (part.Row key row tomb) r p =
      let filled : (content (states_at (On x) versions)).0 ≢ empty_row = λ e. p.2 (record { inside = before-end x bound p.0; no_row = e }) in
      (p.0, r.keys x p.1 filled ∙ ap row_pos (sym p.3), record { known = p.1; there = p.4 }, λ e. filled (ap (λ (q : Row × Option Tomb). q.0) p.4 ∙ e))
  part-seen kind versions x bound (part.Gap to tomb) r p = ((p.3.ahead, ends to bound p.3.within), λ y a b. let s = alike kind versions x bound to tomb p (r.even x) y (λ i. a i && is_lt (b i)) in record { known = s.1; there = s.0 })
  part-seen kind versions x bound (part.Missing to) r p = ((p.2.ahead, ends to bound p.2.within), λ v k. p.1 k.known)
  part-seen kind versions x bound part.End r p = p

-- ---- of a snapshot

-- what holds of the versions up to the one that it pins holds of those that it sees
pub seen-as : (P : ChainKind → List Version → Type 0) (m : Memory) (s : Snap) → HasPin m s.chain s.pin → ((k : KeptChain) (j : ℕ) → chain_at m s.chain ≡ Some k → pin_at k.chain.pins s.pin ≡ Some j → P k.chain.kind (upto k.chain.versions j)) → P (kind_seen m s) (versions_seen m s)
seen-as P m s pin h =
    let w = found (chain_at m s.chain) s.pin pin in
    let kind : kind_seen m s ≡ w.0.chain.kind = ap kind_in w.2 in
    let versions : versions_seen m s ≡ upto w.0.chain.versions w.1 = ap (λ o. versions_in o s.pin) w.2 ∙ ap (versions_upto w.0.chain.versions) w.3 in
    subst (λ q. P q (versions_seen m s)) (sym kind) (subst (P w.0.chain.kind) (sym versions) (h w.0 w.1 w.2 w.3))

-- the place past a first part is the place behind it
pub past-behind : (kind : ChainKind) (versions : List Version) (x bound : Pos) (p : Part) (now : Pos) → IsFirstPart kind versions x bound p → now ≡ place_past p x → now ≡ place_behind (Ok p) x
past-behind kind versions x bound (part.Row key row tomb) now f e = e ∙ ap (λ k. record { prefix = k; weight = After }) (sym f.3)
past-behind kind versions x bound (part.Gap to tomb) now f e = e
past-behind kind versions x bound (part.Missing to) now f e = e
past-behind kind versions x bound part.End now f e = e
