-- The steps of reading a chain from its first position to its last, in the words of the code.
use Rattle.std.proofs.Common.{◌≡◌, ◌<◌, ℕ, true, false, List, [], Some, refl, sym, subst}
use Rattle.std.specs.declared.cmp.Ordering.{Ordering}
use Rattle.std.specs.declared.cmp.Ordering.TheVariants.{Less, Equal, Greater}
use Rattle.std.specs.Ordering.{is_lt}
use Rattle.rc_cell.specs.declared.rows.Row.{Row}
use Rattle.rc_position.specs.declared.comps.Comp.{Comp}
use Rattle.rc_position.specs.declared.positions.Pos.{Pos}
use Rattle.rc_position.specs.declared.positions.Weight.TheVariants.{After, Before}
use Rattle.rc_position.specs.Position.{IsBefore, pos_cmp}
use Rattle.rc_ranges.specs.declared.pieces.Piece.{Piece}
use Rattle.rc_ranges.specs.calls.Sweep.{lt}
use Rattle.rc_core.specs.declared.entries.ChainKind.TheVariants.{Memtable}
use Rattle.rc_core.specs.declared.parts.Part.{Part}
use Rattle.rc_core.specs.declared.parts.Part.TheVariants as part
use Rattle.rc_core.specs.Chains.{upto}
use Rattle.rc_core.specs.Parts.{IsFirstPart}
use Rattle.rc_core.specs.StandsFor.{place_after}
use Rattle.rc_core.specs.Steps.{pin_at}
use Rattle.rc_core.specs.Version.{Version, end_position}
use Rattle.rc_memory.specs.Memory.{KeptChain, Memory, chain_at}
use Rattle.rc_memtable.specs.calls.Reading.{EndsAhead, IsReadUpTo, IsSeenBy}
use Rattle.rc_memtable.proofs.Ending.{left_from}
use Rattle.rc_memtable.proofs.Seen.{said-of}
use Rattle.rc_memtable.proofs.Taking.{first_position, read-none}

less-of : (r : Ordering) → true ≡ is_lt r → r ≡ Less
less-of Less t = refl
less-of Equal t = absurd (cc)
less-of Greater t = absurd (cc)

-- the bound is the end of all positions
pub before-bound : (x : Pos) (p : List Comp) → p ≡ [] → true ≡ is_lt (pos_cmp x (record { prefix = p; weight = After })) → IsBefore x end_position
before-bound x p e t = subst (λ q. IsBefore x (record { prefix = q; weight = After })) e (less-of (pos_cmp x (record { prefix = p; weight = After })) t)

pub over-bound : (x : Pos) (p : List Comp) → p ≡ [] → false ≡ is_lt (pos_cmp x (record { prefix = p; weight = After })) → lt x end_position ≡ false
unfolding lt
over-bound x p e f = subst (λ (q : List Comp). is_lt (pos_cmp x (record { prefix = q; weight = After })) ≡ false) e (sym f)

-- at first nothing was read
pub read-start : (versions : List Version) (p : List Comp) (rows : List (List Comp × Row)) (ranges : List Piece) → p ≡ [] → rows ≡ [] → ranges ≡ [] → IsReadUpTo versions (record { prefix = p; weight = Before }) rows ranges
read-start versions p rows ranges e f g =
    subst (λ q. IsReadUpTo versions (record { prefix = q; weight = Before }) rows ranges) (sym e)
    (subst (λ q. IsReadUpTo versions first_position q ranges) (sym f) (subst (λ q. IsReadUpTo versions first_position [] q) (sym g) (read-none versions)))

-- what was got is the first part of what the snapshot sees
pub part-of : (m : Memory) (id pin : ℕ) (versions : List Version) → IsSeenBy m id pin versions → (x : Pos) (p : List Comp) → p ≡ [] → (q : Part) →
    ((k : KeptChain) (j : ℕ) → chain_at m id ≡ Some k → pin_at k.chain.pins pin ≡ Some j → IsFirstPart k.chain.kind (upto k.chain.versions j) x (record { prefix = p; weight = After }) q) → IsFirstPart Memtable versions x end_position q
part-of m id pin versions seen x p e q h =
    subst (λ r. IsFirstPart Memtable versions x (record { prefix = r; weight = After }) q) e
    (said-of (λ kind vs. IsFirstPart kind vs x (record { prefix = p; weight = After }) q) m id pin versions seen h)

pub further-of : (p : Part) (x : Pos) → EndsAhead p x → IsBefore x (place_after p x)
further-of (part.Row key row tomb) x h = h.1
further-of (part.Gap to tomb) x h = h
further-of (part.Missing to) x h = absurd h
further-of part.End x h = absurd h

pub less-left : (versions vs : List Version) → vs ≡ versions → (x y : Pos) (p : Part) → y ≡ place_after p x → left_from (place_after p x) versions < left_from x versions → left_from y vs < left_from x vs
less-left versions vs e x y p q h = subst (λ ws. left_from y ws < left_from x ws) (sym e) (subst (λ z. left_from z versions < left_from x versions) (sym q) h)
