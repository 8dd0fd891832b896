-- A memory after marks or the head of a version changed, which take no bytes.
use Rattle.std.proofs.Common.{◌≡◌, ℕ, ◌+◌, List, [], ◌∷◌, Some, refl, sym, ap, map}
use Rattle.std.specs.Prelude.{Contains}
use Rattle.rc_position.specs.declared.positions.Pos.{Pos}
use Rattle.lsa_store.specs.declared.place.Ref.{Ref}
use Rattle.lsa_region.specs.declared.end.End.TheVariants.{Obj}
use Rattle.lsa_region.specs.Region.{View, link_of, live_bytes, IsSummed, IsWell}
use Rattle.lsa_list.specs.declared.recency.List.{List as Slots}
use Rattle.lsa_pool.specs.Room.{live_sum}
use Rattle.lsa_tree.specs.Entries.{IsEntryAtPosition}
use Rattle.rc_core.specs.declared.entries.Entry.{Entry}
use Rattle.rc_core.specs.declared.entries.Mark.{Mark}
use Rattle.rc_core.specs.Version.{Version}
use Rattle.rc_object.specs.Objects.{IsRewritten}
use Rattle.rc_version.specs.Versions.{IsKeptBut, IsVersionOf, entries_bytes, entry_bytes, marked_between, statics_bytes, version_bytes}
use Rattle.rc_registry.specs.Registry.{Registry}
use Rattle.rc_memory.specs.declared.counts.Counts.{Counts}
use Rattle.rc_memory.specs.Memory.{KeptChain, Memory, IsMemberObject}
use Rattle.rc_memory.specs.Changes.{IsVersionChanged, Nowhere, member_at}
use Rattle.rc_memory.specs.Kept.{HoldMemory}
use Rattle.rc_recency.specs.Holding.{HoldsAfter, IsHeldVersion}
use Rattle.rc_recency.proofs.Aligned.{positions}
use Rattle.rc_recency.specs.laws.Held.{own-object, standing-as, stands, version-of-member}
use Rattle.rc_recency.proofs.Made.{later-same}

-- marks take no bytes
pub between-bytes : (f : Mark → Mark) (from to : Pos) (c : Version) → version_bytes (marked_between f from to c) ≡ version_bytes c
between-bytes f from to c = ap (λ n. 64 + (statics_bytes c.statics + n)) (each _ (λ e. refl) c.entries)
  where
    each : (g : Entry → Entry) → ((e : Entry) → entry_bytes (g e) ≡ entry_bytes e) → (es : List Entry) → entries_bytes (map g es) ≡ entries_bytes es
    each g same [] = refl
    each g same (e ∷ es) = λ i. same e i + each g same es i

module _ (slots : Slots) (old new : View) (registry : Registry) (counts : Counts) (m : Memory) (id j : ℕ) (k : KeptChain) (c : Version) (v : Ref) (h : IsHeldVersion slots old registry counts m id j k c v) (f : Version → Version)
    (is : IsVersionOf new v (standing-as slots old registry counts m id j k c v h).entries (f c)) (kept : IsKeptBut v old new) (summed : IsSummed old) (well : IsWell new) (summed_new : IsSummed new)
    (bytes : version_bytes (f c) ≡ version_bytes c) (same : positions (f c).entries ≡ positions c.entries) where
  pub held-marked : live_bytes new ≡ live_bytes old → link_of new (Obj v 3) ≡ link_of old (Obj v 3) → HoldsAfter slots new registry counts (λ n. IsVersionChanged id j f Nowhere m n × (n.recency ≡ m.recency))
  held-marked live link =
      let l = later-same slots old new registry counts m id j k c v h kept summed well summed_new f is (λ i. live i + sym bytes i) same link in
      (l.memory, l.held, (l.changed, l.recency))

  pub held-rewritten : (r : Ref) → IsRewritten old new r → HoldsAfter slots new registry counts (λ n. IsVersionChanged id j f Nowhere m n × (n.recency ≡ m.recency))
  held-rewritten r rewritten = held-marked (ap live_sum rewritten.0.1.usages) (rewritten.0.1.links (Obj v 3))

-- an entry at a place is one of the entries of a version
pub entry-there : (slots : Slots) (v : View) (registry : Registry) (counts : Counts) (m : Memory) → HoldMemory slots v registry counts m → (id j : ℕ) (x : Pos) (e : Ref) → IsMemberObject m e (member_at id j (Some x)) → (n : Ref) × (refs : List Ref) × (c : Version) × IsVersionOf v n refs c × Contains refs e
entry-there slots v registry counts m h id j x e here =
    let a = version-of-member slots v registry counts m h id j (Some x) e here in let n = here.version.object in let c = here.version.version in
    (n, (standing-as slots v registry counts m id j a.0 c n a.1).entries, c, stands slots v registry counts m id j a.0 c n a.1, (own-object slots v registry counts m id j a.0 c n a.1 (Some x) e here).0)

module _ (old new : View) (e : Ref) (g : Pos → Version → Version) (set : (n : Ref) (refs : List Ref) (c : Version) (x : Pos) → IsVersionOf old n refs c → Contains refs e → IsEntryAtPosition old e x → IsVersionOf new n refs (g x c))
    (kept : (n : Ref) (refs : List Ref) (c : Version) → IsVersionOf old n refs c → Contains refs e → IsKeptBut n old new) (rewritten : IsRewritten old new e) (summed : IsSummed old) (well : IsWell new) (summed_new : IsSummed new)
    (bytes : (x : Pos) (c : Version) → version_bytes (g x c) ≡ version_bytes c) (same : (x : Pos) (c : Version) → positions (g x c).entries ≡ positions c.entries) where
  -- marks of an entry at a place
  pub entry-marked : (slots : Slots) (registry : Registry) (counts : Counts) (m : Memory) (id j : ℕ) (x : Pos) → HoldMemory slots old registry counts m → IsMemberObject m e (member_at id j (Some x)) → HoldsAfter slots new registry counts (λ n. IsVersionChanged id j (g x) Nowhere m n × (n.recency ≡ m.recency))
  entry-marked slots registry counts m id j x h here =
      let a = version-of-member slots old registry counts m h id j (Some x) e here in let n = here.version.object in let c = here.version.version in
      let refs = (standing-as slots old registry counts m id j a.0 c n a.1).entries in let is = stands slots old registry counts m id j a.0 c n a.1 in
      let own = own-object slots old registry counts m id j a.0 c n a.1 (Some x) e here in
      held-rewritten slots old new registry counts m id j a.0 c n a.1 (g x) (set n refs c x is own.0 own.1) (kept n refs c is own.0) summed well summed_new (bytes x c) (same x c) e rewritten
