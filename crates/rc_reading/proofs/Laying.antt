-- Versions of a partition, each in its place, laid over one another.
use Rattle.std.proofs.Common.{◌≡◌, ℕ, zero, suc, ◌+◌, ◌<◌, List, [], ◌∷◌, ◌++◌, length, take, Option, refl, sym, ap, ◌∙◌, subst, arith, append_assoc, append-nil, length-append}
use Rattle.std.proofs.lemmas.List.{take_at}
use Rattle.std.specs.Option.{option_to_list}
use Rattle.rc_cell.specs.declared.writes.Tomb.{Tomb}
use Rattle.rc_cell.specs.laws.Beats.{tomb_cmp-IsAntisymmetric}
use Rattle.rc_cell.specs.Greatest.{greater}
use Rattle.rc_cell.specs.laws.Greatest.{greatest-two}
use Rattle.rc_cell.specs.Orders.{tomb_cmp, tomb_cmp_total}
use Rattle.rc_cell.specs.Winner.{greatest}
use Rattle.lsa_store.specs.declared.place.Ref.{Ref}
use Rattle.lsa_region.specs.declared.end.Root.{Root}
use Rattle.lsa_region.specs.Region.{View}
use Rattle.rc_partition.specs.List.{List as Slots}
use Rattle.rc_core.specs.Continuity.{version_tombs}
use Rattle.rc_core.specs.laws.Folding.{through-append, under-above}
use Rattle.rc_core.specs.laws.Losing.{tomb-alone}
use Rattle.rc_core.specs.laws.Merging.{alike-above, cons_is, tombs_by_parts}
use Rattle.rc_core.specs.Merge.{Alike}
use Rattle.rc_core.specs.SpotState.{SpotState, through, under}
use Rattle.rc_core.specs.Version.{state_of}
use Rattle.rc_partition.specs.Versions.{IsVersionOf}
use Rattle.rc_partition.specs.laws.Lists.{elem-here}
use Rattle.rc_partition.specs.Partitions.{AreStanding, PartitionEntry, StandingVersion, among, partition_of}
use Rattle.rc_reading.specs.declared.said.Asked.{Asked}
use Rattle.rc_reading.specs.Reading.{AreUpTo, read_versions}
use Rattle.rc_reading.specs.calls.Reading.{finding_at, states_read}

-- ---- places in a list

parted : {X : Type 0} (xs : List X) (i : ℕ) → i < length xs → (front : List X) × (x : X) × (back : List X) × (xs ≡ front ++ (x ∷ back)) × (length front ≡ i)
parted [] i less = absurd (omega (arith, less))
parted (x ∷ xs) zero less = ([], x, xs, refl, refl)
parted (x ∷ xs) (suc i) less = let w = parted xs i (omega (arith, less)) in (x ∷ w.0, w.1, w.2, ap (λ l. x ∷ l) w.3, (let e = w.4 in omega (arith, e)))

-- what stands where the version of a number stands
pub record IsPlaced (v : View) (root : Root) (i : ℕ) (read : List StandingVersion) : Type 0 where
  pub slots : Slots
  pub front : List PartitionEntry
  pub older : List StandingVersion
  pub here : StandingVersion
  pub newer : List StandingVersion
  pub back : List PartitionEntry
  pub listed : List Ref
  pub stands : AreStanding slots v (among front root older here newer back) listed
  pub long : length older ≡ i
  pub version : IsVersionOf v here.object here.entries here.version
  pub below : take i read ≡ older
  pub upto : take (i + 1) read ≡ older ++ (here ∷ [])

held : (slots : Slots) (v : View) (front : List PartitionEntry) (root : Root) (older : List StandingVersion) (s : StandingVersion) (newer : List StandingVersion) (back : List PartitionEntry) (listed : List Ref) → AreStanding slots v (among front root older s newer back) listed → IsVersionOf v s.object s.entries s.version
held slots v front root older s newer back listed h = (h.entries (partition_of root (older ++ (s ∷ newer))) (elem-here front back (partition_of root (older ++ (s ∷ newer))))).versions s (elem-here older newer s)

pub placed : (v : View) (root : Root) (number i : ℕ) (read : List StandingVersion) → AreUpTo v root number read → i < number → IsPlaced v root i read
placed v root number i read u less = record {
  slots = u.slots;
  front = u.front;
  older = w.0;
  here = w.1;
  newer = w.2 ++ (u.last ∷ u.newer);
  back = u.back;
  listed = u.listed;
  stands = stands;
  long = w.4;
  version = held u.slots v u.front root w.0 w.1 (w.2 ++ (u.last ∷ u.newer)) u.back u.listed stands;
  below = ap (take i) is ∙ take_at w.0 (w.1 ∷ (w.2 ++ (u.last ∷ []))) i w.4;
  upto = ap (take (i + 1)) (is ∙ sym (append_assoc w.0 (w.1 ∷ []) (w.2 ++ (u.last ∷ [])))) ∙ take_at (w.0 ++ (w.1 ∷ [])) (w.2 ++ (u.last ∷ [])) (i + 1) (let long = length-append w.0 (w.1 ∷ []) in let e = w.4 in omega (arith, long, e));
}
  where
    w : (front : List StandingVersion) × (x : StandingVersion) × (back : List StandingVersion) × (u.older ≡ front ++ (x ∷ back)) × (length front ≡ i)
    w = parted u.older i (let e = u.below in omega (arith, e, less))

    is : read ≡ w.0 ++ (w.1 ∷ (w.2 ++ (u.last ∷ [])))
    is = u.are ∙ ap (λ l. l ++ (u.last ∷ [])) w.3 ∙ append_assoc w.0 (w.1 ∷ w.2) (u.last ∷ [])

    stands : AreStanding u.slots v (among u.front root w.0 w.1 (w.2 ++ (u.last ∷ u.newer)) u.back) u.listed
    stands = subst (λ l. AreStanding u.slots v (u.front ++ (partition_of root l ∷ u.back)) u.listed) (ap (λ l. l ++ (u.last ∷ u.newer)) w.3 ∙ append_assoc w.0 (w.1 ∷ w.2) (u.last ∷ u.newer)) u.stands

pub last-held : (v : View) (root : Root) (number : ℕ) (read : List StandingVersion) → (u : AreUpTo v root number read) → IsVersionOf v u.last.object u.last.entries u.last.version
last-held v root number read u = held u.slots v u.front root u.older u.last u.newer u.back u.listed u.stands

pub last-below : (v : View) (root : Root) (number : ℕ) (read : List StandingVersion) → (u : AreUpTo v root number read) → (i : ℕ) → i ≡ number → take i read ≡ u.older
last-below v root number read u i at = ap (take i) u.are ∙ take_at u.older (u.last ∷ []) i (u.below ∙ sym at)

-- ---- what is seen

states_append : (asked : Asked) (older newer : List StandingVersion) → states_read asked (older ++ newer) ≡ states_read asked older ++ states_read asked newer
states_append asked [] newer = refl
states_append asked (s ∷ older) newer = ap (λ l. state_of (finding_at asked s.version) ∷ l) (states_append asked older newer)

pub one-over : (asked : Asked) (older : List StandingVersion) (s : StandingVersion) (seen next : SpotState) → Alike seen (through (states_read asked older)) → Alike next (under seen (state_of (finding_at asked s.version))) → Alike next (through (states_read asked (older ++ (s ∷ []))))
one-over asked older s seen next h k =
    let over : Alike (under seen (state_of (finding_at asked s.version))) (under (through (states_read asked older)) (state_of (finding_at asked s.version))) = alike-above seen (through (states_read asked older)) (state_of (finding_at asked s.version)) h in
    let whole : through (states_read asked (older ++ (s ∷ []))) ≡ under (through (states_read asked older)) (state_of (finding_at asked s.version)) =
    ap through (states_append asked older (s ∷ [])) ∙ through-append (states_read asked older) (states_read asked (s ∷ [])) ∙ ap (under (through (states_read asked older))) (under-above (state_of (finding_at asked s.version))) in
    subst (Alike next) (sym whole) (k.0 ∙ over.0, k.1 ∙ over.1)

-- ---- partition tombstones

tombs_append : (older : List StandingVersion) (s : StandingVersion) → version_tombs (read_versions (older ++ (s ∷ []))) ≡ version_tombs (read_versions older) ++ option_to_list s.version.pt
tombs_append [] s = cons_is s.version.pt [] ∙ append-nil (option_to_list s.version.pt)
tombs_append (q ∷ older) s =
    cons_is q.version.pt (version_tombs (read_versions (older ++ (s ∷ []))))
    ∙ ap (λ l. option_to_list q.version.pt ++ l) (tombs_append older s)
    ∙ sym (append_assoc (option_to_list q.version.pt) (version_tombs (read_versions older)) (option_to_list s.version.pt))
    ∙ ap (λ l. l ++ option_to_list s.version.pt) (sym (cons_is q.version.pt (version_tombs (read_versions older))))

pub one-greater : (older : List StandingVersion) (s : StandingVersion) (now next : Option Tomb) → now ≡ greatest tomb_cmp (version_tombs (read_versions older)) → next ≡ greater tomb_cmp now s.version.pt → next ≡ greatest tomb_cmp (version_tombs (read_versions (older ++ (s ∷ []))))
one-greater older s now next h k =
    k ∙ sym (greatest-two tomb_cmp_total tomb_cmp-IsAntisymmetric now s.version.pt)
    ∙ tombs_by_parts (option_to_list now) (option_to_list s.version.pt) (version_tombs (read_versions older)) (option_to_list s.version.pt) (tomb-alone now ∙ h) refl
    ∙ ap (greatest tomb_cmp) (sym (tombs_append older s))
