-- What is read stays: what is left where the rows that were given became the most recent ones.
use Rattle.std.proofs.Common.{◌≡◌, ◌==◌, ◌++◌, ℕ, zero, suc, cond, eq-eqb, List, ◌∷◌, [], get_or, Option, Some, None, refl, sym, ap, subst, ◌∙◌, arith}
use Rattle.std.specs.Prelude.{IfSome}
use Rattle.std.specs.Map.{lookup}
use Rattle.rc_schema.specs.SchemaValue.{SchemaValue}
use Rattle.rc_query.specs.declared.lines.OutLine.{OutLine}
use Rattle.rc_memory.specs.Memory.{Member, Memory, chain_at}
use Rattle.rc_lookup.specs.Entries.{AreEntries}
use Rattle.rc_lookup.specs.Fillers.{losses}
use Rattle.rc_lookup.specs.Footprint.{AreInUse}
use Rattle.rc_lookup.specs.Memtables.{in_chains}
use Rattle.rc_lookup.specs.Rest.{LeavesRest}
use Rattle.rc_lookup.specs.Saying.{Below, CacheSays}
use Rattle.rc_lookup.specs.Touched.{AreTouched}
use Rattle.rc_mutation.specs.declared.mutations.Mutation.{Mutation}
use Rattle.rc_paging.specs.declared.forms.PartReader.{PartReader}
use Rattle.rc_shard.specs.declared.readers.PartitionReader.{PartitionReader}
use Rattle.rc_machine.specs.State.{State}
use Rattle.rc_shard.specs.Cached.{HaveCached}
use Rattle.rc_shard.specs.Knowing.{IsReaderTouched}
use Rattle.rc_shard.specs.calls.Keeping.{StandsForTheSame}
use Rattle.rc_shard.specs.calls.Staying.{Staying}
use Rattle.rc_shard.specs.calls.Caching.{LeavesCache}
use Rattle.rc_shard.specs.declared.shard.Shard.{Shard}
use Rattle.rc_shard.specs.Stands.{Stands}
use Rattle.rc_shard.proofs.Looking.{Beside, rest-plain, used-for}
use Rattle.rc_shard.proofs.Places.{IsNowhere, IsPlace}

-- what the cache is left where the list alone has another order
module _ (these : Member → Type 0) (old new : Memory) (t : AreTouched these old new) (rest : LeavesRest old new) (used : AreInUse old → AreInUse new)
    (says : (schema : SchemaValue) (below : Below) → CacheSays schema below old → CacheSays schema below new) (entries : (entries : List (List ℕ × ℕ)) → AreEntries entries old → AreEntries entries new) where
  pub leaves-touched : LeavesCache old new
  leaves-touched = record {
    says = says;
    entries = entries;
    one = rest.one;
    used = used;
    snapshots = record { each = rest.pins; number = rest.snapshots };
    lost = (let e : losses new ≡ losses old = ap losses t.same in omega (arith, e));
    still = λ none id k e kind. (k, ap (λ (m : Memory). chain_at m id) t.same ∙ e, record { kind = refl; attached = refl; versions = refl });
  }

  abbrev pub cached-touched : (schema : SchemaValue) (those : List (List ℕ × ℕ)) (st : State) → HaveCached schema those old st → HaveCached schema those new st
  cached-touched schema those st h = record {
    limits = h.limits;
    small = h.small;
    below = h.below;
    fit = h.fit;
    says = says schema (λ id phase. h.below id) h.says;
    of_tables = h.of_tables;
    are = entries those h.are;
    one = rest.one h.one;
    used = used h.used;
  }

-- the reader of an id is the one at its place
pub reader-at : (id at : ℕ) (d : ℕ × PartitionReader) (os : List (ℕ × PartitionReader)) → IsPlace id os at → get_or os at d ≡ d → lookup (λ q. q == id) os ≡ Some d.1
reader-at id at d [] p here = absurd p
reader-at id zero d (o ∷ os) p here = ap (λ b. cond b (Some o.1) (lookup (λ q. q == id) os)) p ∙ ap (λ (x : ℕ × PartitionReader). Some x.1) here
reader-at id (suc at) d (o ∷ os) p here = ap (λ b. cond b (Some o.1) (lookup (λ q. q == id) os)) p.0 ∙ reader-at id at d os p.1 here

-- so is one behind others of other ids
pub found-behind : (id : ℕ) (x : PartitionReader) (os : List (ℕ × PartitionReader)) → IsNowhere id os → lookup (λ q. q == id) (os ++ (id, x) ∷ []) ≡ Some x
found-behind id x [] none = ap (λ b. cond b (Some x) None) (eq-eqb id id refl)
found-behind id x (o ∷ os) none = ap (λ b. cond b (Some o.1) (lookup (λ q. q == id) (os ++ (id, x) ∷ []))) none.0 ∙ found-behind id x os none.1

-- what is there, where something is
abbrev from_some : {T : Type 0} → T → Option T → T
from_some d None = d
from_some d (Some x) = x

pub same-some : {T : Type 0} (x y : T) (o : Option T) → o ≡ Some x → o ≡ Some y → x ≡ y
same-some x y o e f = ap (from_some x) (sym e ∙ f)

-- the rows of lines that the reader at a place gave are the most recent ones
pub touched-as-given : (id at : ℕ) (d : ℕ × PartitionReader) (lines : List OutLine) (k k' : Shard) → IsPlace id k.readers.items at → get_or k.readers.items at d ≡ d → IsReaderTouched id lines d.1 k k' → IfSome (lookup (λ q. q == id) k.readers.items) (λ o. IsReaderTouched id lines o k k')
touched-as-given id at d lines k k' p here t = subst (λ (o : Option PartitionReader). IfSome o (λ x. IsReaderTouched id lines x k k')) (sym (reader-at id at d k.readers.items p here)) t

-- what stands for a state stands for it still where the rows that were given became the most recent ones
pub keeps-touched : (lines : PartReader → Memory → List Mutation → List OutLine → Type 0) → Staying lines → Beside → (k : Shard) (n : Memory) (these : Member → Type 0) → AreTouched these k.unstored.chains n → LeavesRest k.unstored.chains n → (AreInUse k.unstored.chains → AreInUse n) →
    ((schema : SchemaValue) (below : Below) → CacheSays schema below k.unstored.chains → CacheSays schema below n) → ((entries : List (List ℕ × ℕ)) → AreEntries entries k.unstored.chains → AreEntries entries n) → StandsForTheSame (Stands lines) k (record k { unstored = in_chains n k.unstored })
keeps-touched lines stays beside k n these t rest used says entries = λ files m s.
    used-for lines stays beside files k.folder k.unstored n k.cache.entries k.cache.entries k.readers.items k.segments 0 m (rest-plain k.unstored.chains n rest) (cached-touched these k.unstored.chains n t rest used says entries k.folder.schema k.cache.entries m s.cached) s (λ id pin h. refl) (λ id pin there key found. found)
