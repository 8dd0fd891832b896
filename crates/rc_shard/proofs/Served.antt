-- The open readers of a shard beside those of the machine.
use Rattle.std.proofs.Common.{◌≡◌, ◌==◌, ◌+◌, ◌≤◌, ◌<◌, ℕ, zero, suc, true, false, cond, not, List, [], ◌∷◌, ◌++◌, length, map, get_or, set, remove, Option, Some, None, AllPairs, IfSome, filter, refl, sym, ap, subst, ◌∙◌, arith}
use Rattle.std.specs.Prelude.{⊤}
use Rattle.std.specs.List.{AllByRecursion, AllZip}
use Rattle.std.specs.Map.{lookup, set_value}
use Rattle.std.proofs.lemmas.List.{map-append}
use Rattle.std.proofs.lemmas.List.Quantifiers.{all_pairs_push, all_pairs_remove}
use Rattle.std.proofs.lemmas.Bool.Decides.{nat_tests}
use Rattle.std.proofs.lemmas.List.Sums.{sum_by-cons, sum_by_push}
use Rattle.rc_mutation.specs.declared.mutations.Mutation.{Mutation}
use Rattle.rc_query.specs.declared.lines.OutLine.{OutLine}
use Rattle.rc_schema.specs.SchemaValue.{SchemaValue}
use Rattle.rc_memory.specs.Memory.{HasPin, Memory}
use Rattle.rc_chain.specs.declared.chains.Snap.{Snap}
use Rattle.rc_cached.specs.Stands.{HasCacheSnapshot}
use Rattle.rc_snapshots.specs.declared.snaps.Snaps.{Snaps}
use Rattle.rc_snapshots.specs.Seeing.{AllStillSee, AreThere, HasSnap, StillSeeBoth, StillSees}
use Rattle.rc_snapshots.specs.laws.Seeing.{both-same, both-still, there-then}
use Rattle.rc_tfile.specs.declared.info.TableInfo.{TableInfo}
use Rattle.rc_lookup.specs.Readers.{IsNoneOf}
use Rattle.rc_paging.specs.declared.forms.PartReader.{PartReader}
use Rattle.rc_paging.specs.declared.forms.PartReader.TheVariants.{Cached, Past}
use Rattle.rc_paging.specs.declared.layers.HeldSnaps.{HeldSnaps}
use Rattle.rc_paging.specs.Forms.{ByForm, held_by}
use Rattle.rc_paging.specs.Pages.{StandCached, StandsCached}
use Rattle.rc_machine.specs.State.{Reader, State, rest_of}
use Rattle.rc_shard.specs.declared.readers.PartitionReader.{PartitionReader}
use Rattle.rc_shard.specs.Readers.{AreTwo, IsCachedThere, IsOtherSnap, IsReadOver, IsServed, ShareNone, WasOpened, cached_of, cached_readers, number_of_snaps, holding, lies_below, written_snaps_of}
use Rattle.rc_shard.specs.calls.Staying.{Staying}
use Rattle.rc_shard.proofs.Places.{IsNowhere, IsPlace, in-range}

-- ---- snapshots of two readers

-- one snapshot is none of these, so none of these is it
apart-back : (o : Option Snap) (t : Snap) → IfSome o (λ x. t.chain ≡ x.chain → t.pin ≡ x.pin → ⊥) → IfSome o (λ x. x.chain ≡ t.chain → x.pin ≡ t.pin → ⊥)
apart-back None t h = tt
apart-back (Some x) t h = λ c p. h (sym c) (sym p)

pub each-back : (o p : Option Snap) → IfSome p (λ t. IfSome o (λ x. t.chain ≡ x.chain → t.pin ≡ x.pin → ⊥)) → IfSome o (λ x. IfSome p (λ t. x.chain ≡ t.chain → x.pin ≡ t.pin → ⊥))
each-back None p h = tt
each-back (Some x) None h = tt
each-back (Some x) (Some t) h = λ c p. h (sym c) (sym p)

both-ways : (o p q : Option Snap) → IfSome p (λ t. IfSome o (λ x. t.chain ≡ x.chain → t.pin ≡ x.pin → ⊥)) → IfSome q (λ t. IfSome o (λ x. t.chain ≡ x.chain → t.pin ≡ x.pin → ⊥)) →
    IfSome o (λ x. IfSome p (λ t. x.chain ≡ t.chain → x.pin ≡ t.pin → ⊥) × IfSome q (λ t. x.chain ≡ t.chain → x.pin ≡ t.pin → ⊥))
both-ways None p q h k = tt
both-ways (Some x) p q h k = (each-back (Some x) p h, each-back (Some x) q k)

pub first-of : (o : Option Snap) (P Q : Snap → Type 0) → IfSome o (λ t. P t × Q t) → IfSome o P
first-of None P Q h = tt
first-of (Some t) P Q h = h.0

pub second-of : (o : Option Snap) (P Q : Snap → Type 0) → IfSome o (λ t. P t × Q t) → IfSome o Q
second-of None P Q h = tt
second-of (Some t) P Q h = h.1

pub share-back : (a b : HeldSnaps) → ShareNone a b → ShareNone b a
share-back a b h = record {
  sealed = both-ways a.written.sealed b.written.sealed b.written.active (first-of b.written.sealed _ _ h.sealed) (first-of b.written.active _ _ h.active);
  active = both-ways a.written.active b.written.sealed b.written.active (second-of b.written.sealed _ _ h.sealed) (second-of b.written.active _ _ h.active);
  cached = each-back a.cached b.cached h.cached;
}

-- ---- what is seen

-- where a snapshot is there, and each that is there is none of these, it is none of these
none-there : (gone : Snaps) (m : Memory) (o : Option Snap) → ((s : Snap) → HasPin m s.chain s.pin → IsNoneOf gone s) → IfSome o (HasSnap m) → IfSome o (IsNoneOf gone)
none-there gone m None h there = tt
none-there gone m (Some s) h there = h s there.pin

-- a reader that shares none with one that is closed sees what it saw
one-still : (gone : Snaps) (m n : Memory) (o : Option Snap) → ((s : Snap) → HasSnap m s → IsNoneOf gone s → StillSees s m n) → IfSome o (IsNoneOf gone) → IfSome o (HasSnap m) → IfSome o (λ s. StillSees s m n)
one-still gone m n None others h there = tt
one-still gone m n (Some s) others h there = others s there h

pub beside-still : (gone snaps : Snaps) (m n : Memory) → ((s : Snap) → HasSnap m s → IsNoneOf gone s → StillSees s m n) → IfSome snaps.sealed (IsNoneOf gone) → IfSome snaps.active (IsNoneOf gone) → AreThere m snaps → StillSeeBoth snaps m n
beside-still gone snaps m n others h k there = record { sealed = one-still gone m n snaps.sealed others h there.sealed; active = one-still gone m n snaps.active others k there.active }

-- a snapshot of the row cache is there still
pub cached-still : (m n : Memory) (o : Option Snap) → ((id pin : ℕ) → HasCacheSnapshot m id pin → HasCacheSnapshot n id pin) → IsCachedThere m o → IsCachedThere n o
cached-still m n None pins h = tt
cached-still m n (Some s) pins h = pins s.chain s.pin h

-- also where another one was taken back
pub cached-beside : (back : Option Snap) (m n : Memory) (o : Option Snap) → ((id pin : ℕ) → IfSome back (λ s. id ≡ s.chain → pin ≡ s.pin → ⊥) → HasCacheSnapshot m id pin → HasCacheSnapshot n id pin) → IfSome o (IsOtherSnap back) → IsCachedThere m o → IsCachedThere n o
cached-beside back m n None pins other h = tt
cached-beside back m n (Some t) pins other h = pins t.chain t.pin other h

-- ---- ids that differ

differ : (a b id : ℕ) → (a ≡ b → ⊥) → (a == id) ≡ true → (b == id) ≡ false
differ a b id ne e = grind (arith, nat_tests, ne, e)

-- ---- pairs

each-place : {X : Type 0} (R : X → X → Type 0) (x : X) (xs : List X) (k : ℕ) (d : X) → AllPairs R (x ∷ xs) → k < length xs → R x (get_or xs k d)
each-place R x xs k d h l = h 0 (suc k) d (omega arith) (omega (arith, l))

each-at : {X : Type 0} (P : X → Type 0) (xs : List X) → ((k : ℕ) (d : X) → k < length xs → P (get_or xs k d)) → AllByRecursion P xs
each-at P [] h = tt
each-at P (x ∷ xs) h = (h 0 x (omega arith), each-at P xs (λ k d l. h (suc k) d (omega (arith, l))))

pub each-later : {X : Type 0} (R : X → X → Type 0) (x : X) (xs : List X) → AllPairs R (x ∷ xs) → AllByRecursion (R x) xs
each-later R x xs h = each-at (R x) xs (λ k d l. each-place R x xs k d h l)

pub pairs-rest : {X : Type 0} (R : X → X → Type 0) (x : X) (xs : List X) → AllPairs R (x ∷ xs) → AllPairs R xs
pairs-rest R x xs h i j d l m = h (suc i) (suc j) d (omega (arith, l)) (omega (arith, m))

map-at : {X Y : Type 0} (f : X → Y) (xs : List X) (k : ℕ) (d : X) → get_or (map f xs) k (f d) ≡ f (get_or xs k d)
map-at f [] k d = refl
map-at f (x ∷ xs) zero d = refl
map-at f (x ∷ xs) (suc k) d = map-at f xs k d

map-removed : {X Y : Type 0} (f : X → Y) (xs : List X) (k : ℕ) → map f (remove xs k) ≡ remove (map f xs) k
map-removed f [] zero = refl
map-removed f [] (suc k) = refl
map-removed f (x ∷ xs) zero = refl
map-removed f (x ∷ xs) (suc k) = ap (λ ys. f x ∷ ys) (map-removed f xs k)

map-set-same : {X Y : Type 0} (f : X → Y) (xs : List X) (k : ℕ) (y d : X) → k < length xs → f y ≡ f (get_or xs k d) → map f (set xs k y) ≡ map f xs
map-set-same f [] k y d l e = absurd (omega (arith, l))
map-set-same f (x ∷ xs) zero y d l e = ap (λ z. z ∷ map f xs) e
map-set-same f (x ∷ xs) (suc k) y d l e = ap (λ ys. f x ∷ ys) (map-set-same f xs k y d (omega (arith, l)) e)

map-length : {X Y : Type 0} (f : X → Y) (xs : List X) → length (map f xs) ≡ length xs
map-length f [] = refl
map-length f (x ∷ xs) = ap suc (map-length f xs)

-- what two states have alike of the tables that readers were opened over
pub record AreSameOpened (st new : State) : Type 0 where
  pub schema : new.schema ≡ st.schema
  pub opened : (first : List TableInfo) (r : Reader) → WasOpened st first r → WasOpened new first r

pub same-opened : (st : State) → AreSameOpened st st
same-opened st = record { schema = refl; opened = λ first r h. h }

-- over chains in which its snapshot of the row cache stands for what lies below it
module _ (n : Memory) (below : ℕ → List Mutation) (stand : (s : Snap) → HasCacheSnapshot n s.chain s.pin → StandsCached 131072 (below s.chain) n s) where
  stands-if : (o : Option Snap) → IsCachedThere n o → StandCached 131072 (lies_below below o) n o
  stands-if None h = refl
  stands-if (Some s) h = stand s h

  stands-form : (r : PartReader) → IsCachedThere n (held_by r).cached → ByForm (λ c. StandCached 131072 (lies_below below (held_by r).cached) n c.held.cached) (λ _. ⊤) r
  stands-form (Cached o) h = stands-if o.held.cached h
  stands-form (Past o) h = tt

module _ (lines : PartReader → Memory → List Mutation → List OutLine → Type 0) where
  -- as many
  pub served-count : (below : ℕ → List Mutation) (st : State) (m : Memory) (os : List (ℕ × PartitionReader)) (rs : List (ℕ × Reader)) → AllZip (IsServed lines below st m) os rs → length rs ≡ length os
  served-count below st m [] [] h = refl
  served-count below st m [] (r ∷ rs) h = absurd h
  served-count below st m (o ∷ os) [] h = absurd h
  served-count below st m (o ∷ os) (r ∷ rs) h = ap suc (served-count below st m os rs h.1)

  -- ---- which readers are open

  pub look-none : (below : ℕ → List Mutation) (st : State) (m : Memory) (id : ℕ) (os : List (ℕ × PartitionReader)) (rs : List (ℕ × Reader)) → AllZip (IsServed lines below st m) os rs → IsNowhere id os → lookup (λ q. q == id) rs ≡ None
  look-none below st m id [] [] h none = refl
  look-none below st m id [] (r ∷ rs) h none = absurd h
  look-none below st m id (o ∷ os) [] h none = absurd h
  look-none below st m id (o ∷ os) (r ∷ rs) h none =
      ap (λ b. cond b (Some r.1) (lookup (λ q. q == id) rs)) (subst (λ i. (i == id) ≡ false) h.0.id none.0) ∙ look-none below st m id os rs h.1 none.1

  -- the machine's reader with an id
  pub record IsFound (below : ℕ → List Mutation) (st : State) (m : Memory) (id : ℕ) (o : ℕ × PartitionReader) (rs : List (ℕ × Reader)) : Type 0 where
    pub reader : Reader
    pub found : lookup (λ q. q == id) rs ≡ Some reader
    pub served : IsServed lines below st m o (o.0, reader)

  is-found : (below : ℕ → List Mutation) (st : State) (m : Memory) (o : ℕ × PartitionReader) (r : ℕ × Reader) → IsServed lines below st m o r → IsServed lines below st m o (o.0, r.1)
  is-found below st m o r h = record { id = refl; key = h.key; left = h.left; over = h.over; held = h.held; opened = h.opened }

  pub look-some : (below : ℕ → List Mutation) (st : State) (m : Memory) (id at : ℕ) (d : ℕ × PartitionReader) (os : List (ℕ × PartitionReader)) (rs : List (ℕ × Reader)) → AllZip (IsServed lines below st m) os rs → IsPlace id os at → IsFound below st m id (get_or os at d) rs
  look-some below st m id at d [] rs h p = absurd p
  look-some below st m id at d (o ∷ os) [] h p = absurd h
  look-some below st m id zero d (o ∷ os) (r ∷ rs) h p = record {
    reader = r.1;
    found = ap (λ b. cond b (Some r.1) (lookup (λ q. q == id) rs)) (subst (λ i. (i == id) ≡ true) h.0.id p);
    served = is-found below st m o r h.0;
  }
  look-some below st m id (suc at) d (o ∷ os) (r ∷ rs) h p =
      let f = look-some below st m id at d os rs h.1 p.1 in
      record {
        reader = f.reader;
        found = ap (λ b. cond b (Some r.1) (lookup (λ q. q == id) rs)) (subst (λ i. (i == id) ≡ false) h.0.id p.0) ∙ f.found;
        served = f.served;
      }

  -- ---- where other calls changed the chains

  module _ (stays : Staying lines) where
    over-still : (schema schema' : SchemaValue) (m n : Memory) (below : List Mutation) (p : PartReader) (r : Reader) → schema' ≡ schema → ByForm (λ c. StandCached 131072 below n c.held.cached) (λ _. ⊤) p → StillSeeBoth (held_by p).written m n →
        ByForm (λ c. IsReadOver schema below m c r) (λ _. ⊤) p → ByForm (λ c. IsReadOver schema' below n c r) (λ _. ⊤) p
    over-still schema schema' m n below (Past o) r same stand sees h = tt
    over-still schema schema' m n below (Cached o) r same stand sees h = subst (λ (t : SchemaValue). IsReadOver t below n o r) (sym same) (record {
      join = h.join;
      sealed = h.sealed;
      active = h.active;
      is = h.is;
      mutation = h.mutation;
      joined = h.joined;
      written = h.written;
      of_tables = h.of_tables;
      of_sealed = h.of_sealed;
      of_active = h.of_active;
      stand = stays.stand o.held m n below h.sealed h.active stand (both-same m n o.held.written sees) h.stand;
      slice = h.slice;
      settled = h.settled;
    })

    module _ (st new : State) (opened : AreSameOpened st new) (m n : Memory) (below : ℕ → List Mutation) (stand : (s : Snap) → HasCacheSnapshot n s.chain s.pin → StandsCached 131072 (below s.chain) n s) where
      over-form : (p : PartReader) (r : Reader) → IsCachedThere n (held_by p).cached → StillSeeBoth (held_by p).written m n → ByForm (λ c. IsReadOver st.schema (lies_below below c.held.cached) m c r) (λ _. ⊤) p → ByForm (λ c. IsReadOver new.schema (lies_below below c.held.cached) n c r) (λ _. ⊤) p
      over-form (Past o) r there sees h = tt
      over-form (Cached o) r there sees h = over-still st.schema new.schema m n (lies_below below o.held.cached) (Cached o) r opened.schema (stands-if n below stand o.held.cached there) sees h

      pub still-served : (o : ℕ × PartitionReader) (r : ℕ × Reader) → StillSeeBoth (written_snaps_of o.1) m n → IsCachedThere n (cached_of o.1) → IsServed lines below st m o r → IsServed lines below new n o r
      still-served o r sees there h =
          let form = stands-form n below stand o.1.reader there in
          record {
            id = h.id;
            key = h.key;
            left = stays.left o.1.reader m n (lies_below below (cached_of o.1)) (rest_of r.1) form (both-same m n (written_snaps_of o.1) sees) h.left;
            over = over-form o.1.reader r.1 there sees h.over;
            held = record { written = there-then m n (written_snaps_of o.1) h.held.written sees; two = h.held.two; cached = there };
            opened = opened.opened o.1.tables r.1 h.opened;
          }

      pub all-served : (os : List (ℕ × PartitionReader)) (rs : List (ℕ × Reader)) → AllStillSee m n → ((id pin : ℕ) → HasCacheSnapshot m id pin → HasCacheSnapshot n id pin) → AllZip (IsServed lines below st m) os rs → AllZip (IsServed lines below new n) os rs
      all-served [] [] sees pins h = tt
      all-served [] (r ∷ rs) sees pins h = absurd h
      all-served (o ∷ os) [] sees pins h = absurd h
      all-served (o ∷ os) (r ∷ rs) sees pins h = (still-served o r (both-still m n (written_snaps_of o.1) sees h.0.held.written) (cached-still m n (cached_of o.1) pins h.0.held.cached) h.0, all-served os rs sees pins h.1)

      -- ---- one is closed

      module _ (gone : HeldSnaps) (others : (s : Snap) → HasSnap m s → IsNoneOf gone.written s → StillSees s m n) (pins : (id pin : ℕ) → IfSome gone.cached (λ s. id ≡ s.chain → pin ≡ s.pin → ⊥) → HasCacheSnapshot m id pin → HasCacheSnapshot n id pin) where
        pub other-served : (o : ℕ × PartitionReader) (r : ℕ × Reader) → ShareNone gone (held_by o.1.reader) → IsServed lines below st m o r → IsServed lines below new n o r
        other-served o r share h =
            still-served o r (beside-still gone.written (written_snaps_of o.1) m n others share.sealed share.active h.held.written) (cached-beside gone.cached m n (cached_of o.1) pins share.cached h.held.cached) h

        rest-served : (id first : ℕ) (os : List (ℕ × PartitionReader)) (rs : List (ℕ × Reader)) → (first == id) ≡ true → AllByRecursion (AreTwo (first, gone)) (map holding os) → AllZip (IsServed lines below st m) os rs → AllZip (IsServed lines below new n) os (filter (λ r. not (r.0 == id)) rs)
        rest-served id first [] [] mine two h = tt
        rest-served id first [] (r ∷ rs) mine two h = absurd h
        rest-served id first (o ∷ os) [] mine two h = absurd h
        rest-served id first (o ∷ os) (r ∷ rs) mine two h =
            let other : (r.0 == id) ≡ false = subst (λ i. (i == id) ≡ false) h.0.id (differ first o.0 id two.0.ids mine) in
            let here = other-served o r two.0.snaps h.0 in
            let more = rest-served id first os rs mine two.1 h.1 in
            subst (λ b. AllZip (IsServed lines below new n) (o ∷ os) (cond (not b) (r ∷ filter (λ q. not (q.0 == id)) rs) (filter (λ q. not (q.0 == id)) rs))) (sym other) (here, more)

        pub removed-served : (id at : ℕ) (d : ℕ × PartitionReader) (os : List (ℕ × PartitionReader)) (rs : List (ℕ × Reader)) → held_by (get_or os at d).1.reader ≡ gone → IsPlace id os at → AllPairs AreTwo (map holding os) → AllZip (IsServed lines below st m) os rs → AllZip (IsServed lines below new n) (remove os at) (filter (λ r. not (r.0 == id)) rs)
        removed-served id at d [] rs is p two h = absurd p
        removed-served id at d (o ∷ os) [] is p two h = absurd h
        removed-served id zero d (o ∷ os) (r ∷ rs) is p two h =
            let mine : (r.0 == id) ≡ true = subst (λ i. (i == id) ≡ true) h.0.id p in
            let later : AllByRecursion (AreTwo (o.0, gone)) (map holding os) = subst (λ (g : HeldSnaps). AllByRecursion (AreTwo (o.0, g)) (map holding os)) is (each-later AreTwo (holding o) (map holding os) two) in
            let more = rest-served id o.0 os rs p later h.1 in
            subst (λ b. AllZip (IsServed lines below new n) os (cond (not b) (r ∷ filter (λ q. not (q.0 == id)) rs) (filter (λ q. not (q.0 == id)) rs))) (sym mine) more
        removed-served id (suc at) d (o ∷ os) (r ∷ rs) is p two h =
            let other : (r.0 == id) ≡ false = subst (λ i. (i == id) ≡ false) h.0.id p.0 in
            let apart = each-place AreTwo (holding o) (map holding os) at (holding d) two (subst (λ k. at < k) (sym (map-length holding os)) (in-range id os at p.1)) in
            let shared : ShareNone (held_by (get_or os at d).1.reader) (held_by o.1.reader) = share-back (held_by o.1.reader) (held_by (get_or os at d).1.reader) (subst (λ y. ShareNone (held_by o.1.reader) y.1) (map-at holding os at d) apart.snaps) in
            let here = other-served o r (subst (λ g. ShareNone g (held_by o.1.reader)) is shared) h.0 in
            let more = removed-served id at d os rs is p.1 (pairs-rest AreTwo (holding o) (map holding os) two) h.1 in
            subst (λ b. AllZip (IsServed lines below new n) (o ∷ remove os at) (cond (not b) (r ∷ filter (λ q. not (q.0 == id)) rs) (filter (λ q. not (q.0 == id)) rs))) (sym other) (here, more)

        others-served : (first : ℕ) (os : List (ℕ × PartitionReader)) (rs : List (ℕ × Reader)) → AllByRecursion (AreTwo (first, gone)) (map holding os) → AllZip (IsServed lines below st m) os rs → AllZip (IsServed lines below new n) os rs
        others-served first [] [] two h = tt
        others-served first [] (r ∷ rs) two h = absurd h
        others-served first (o ∷ os) [] two h = absurd h
        others-served first (o ∷ os) (r ∷ rs) two h = (other-served o r two.0.snaps h.0, others-served first os rs two.1 h.1)

        -- ---- one goes on past the row cache

        pub gone-served : (id at : ℕ) (d x : ℕ × PartitionReader) (told : Reader) (os : List (ℕ × PartitionReader)) (rs : List (ℕ × Reader)) → held_by (get_or os at d).1.reader ≡ gone → ((r : ℕ × Reader) → r.0 ≡ x.0 → IsServed lines below new n x (r.0, told)) → x.0 ≡ (get_or os at d).0 → IsPlace id os at → AllPairs AreTwo (map holding os) →
            AllZip (IsServed lines below st m) os rs → AllZip (IsServed lines below new n) (set os at x) (set_value (λ q. q == id) rs told)
        gone-served id at d x told [] rs is now same p two h = absurd p
        gone-served id at d x told (o ∷ os) [] is now same p two h = absurd h
        gone-served id zero d x told (o ∷ os) (r ∷ rs) is now same p two h =
            let mine : (r.0 == id) ≡ true = subst (λ i. (i == id) ≡ true) h.0.id p in
            let later : AllByRecursion (AreTwo (o.0, gone)) (map holding os) = subst (λ (g : HeldSnaps). AllByRecursion (AreTwo (o.0, g)) (map holding os)) is (each-later AreTwo (holding o) (map holding os) two) in
            let more = others-served o.0 os rs later h.1 in
            subst (λ b. AllZip (IsServed lines below new n) (x ∷ os) (cond b ((r.0, told) ∷ rs) (r ∷ set_value (λ q. q == id) rs told))) (sym mine) (now r (sym h.0.id ∙ sym same), more)
        gone-served id (suc at) d x told (o ∷ os) (r ∷ rs) is now same p two h =
            let other : (r.0 == id) ≡ false = subst (λ i. (i == id) ≡ false) h.0.id p.0 in
            let apart = each-place AreTwo (holding o) (map holding os) at (holding d) two (subst (λ k. at < k) (sym (map-length holding os)) (in-range id os at p.1)) in
            let shared : ShareNone (held_by (get_or os at d).1.reader) (held_by o.1.reader) = share-back (held_by o.1.reader) (held_by (get_or os at d).1.reader) (subst (λ y. ShareNone (held_by o.1.reader) y.1) (map-at holding os at d) apart.snaps) in
            let here = other-served o r (subst (λ g. ShareNone g (held_by o.1.reader)) is shared) h.0 in
            let more = gone-served id at d x told os rs is now same p.1 (pairs-rest AreTwo (holding o) (map holding os) two) h.1 in
            subst (λ b. AllZip (IsServed lines below new n) (o ∷ set os at x) (cond b ((r.0, told) ∷ rs) (r ∷ set_value (λ q. q == id) rs told))) (sym other) (here, more)

  -- ---- one gave lines

  pub set-served : (below : ℕ → List Mutation) (st : State) (m : Memory) (id at : ℕ) (d x : ℕ × PartitionReader) (past : Reader) (os : List (ℕ × PartitionReader)) (rs : List (ℕ × Reader)) → ((r : ℕ × Reader) → r.0 ≡ x.0 → IsServed lines below st m x (r.0, past)) → x.0 ≡ (get_or os at d).0 → IsPlace id os at →
      AllZip (IsServed lines below st m) os rs → AllZip (IsServed lines below st m) (set os at x) (set_value (λ q. q == id) rs past)
  set-served below st m id at d x past [] rs now same p h = absurd p
  set-served below st m id at d x past (o ∷ os) [] now same p h = absurd h
  set-served below st m id zero d x past (o ∷ os) (r ∷ rs) now same p h =
      let mine : (r.0 == id) ≡ true = subst (λ i. (i == id) ≡ true) h.0.id p in
      subst (λ b. AllZip (IsServed lines below st m) (x ∷ os) (cond b ((r.0, past) ∷ rs) (r ∷ set_value (λ q. q == id) rs past))) (sym mine) (now r (sym h.0.id ∙ sym same), h.1)
  set-served below st m id (suc at) d x past (o ∷ os) (r ∷ rs) now same p h =
      let other : (r.0 == id) ≡ false = subst (λ i. (i == id) ≡ false) h.0.id p.0 in
      let more = set-served below st m id at d x past os rs now same p.1 h.1 in
      subst (λ b. AllZip (IsServed lines below st m) (o ∷ set os at x) (cond b ((r.0, past) ∷ rs) (r ∷ set_value (λ q. q == id) rs past))) (sym other) (h.0, more)

  -- ---- one gave none, for want of memory

  pub set-kept : (below : ℕ → List Mutation) (st : State) (m : Memory) (id at : ℕ) (d x : ℕ × PartitionReader) (os : List (ℕ × PartitionReader)) (rs : List (ℕ × Reader)) → ((r : ℕ × Reader) → IsServed lines below st m (get_or os at d) r → IsServed lines below st m x r) → IsPlace id os at →
      AllZip (IsServed lines below st m) os rs → AllZip (IsServed lines below st m) (set os at x) rs
  set-kept below st m id at d x [] rs now p h = absurd p
  set-kept below st m id at d x (o ∷ os) [] now p h = absurd h
  set-kept below st m id zero d x (o ∷ os) (r ∷ rs) now p h = (now r h.0, h.1)
  set-kept below st m id (suc at) d x (o ∷ os) (r ∷ rs) now p h = (h.0, set-kept below st m id at d x os rs now p.1 h.1)

  -- ---- one more

  pub more-served : (below : ℕ → List Mutation) (st : State) (m : Memory) (x : ℕ × PartitionReader) (r : ℕ × Reader) (os : List (ℕ × PartitionReader)) (rs : List (ℕ × Reader)) → AllZip (IsServed lines below st m) os rs → IsServed lines below st m x r → AllZip (IsServed lines below st m) (os ++ x ∷ []) (rs ++ r ∷ [])
  more-served below st m x r [] [] h new = (new, tt)
  more-served below st m x r [] (s ∷ rs) h new = absurd h
  more-served below st m x r (o ∷ os) [] h new = absurd h
  more-served below st m x r (o ∷ os) (s ∷ rs) h new = (h.0, more-served below st m x r os rs h.1 new)

  -- ---- other lies below chains of which no reader has a snapshot

  lies-same : (below other : ℕ → List Mutation) (m : Memory) (o : Option Snap) → ((id pin : ℕ) → HasCacheSnapshot m id pin → other id ≡ below id) → IsCachedThere m o → lies_below other o ≡ lies_below below o
  lies-same below other m None same h = refl
  lies-same below other m (Some s) same h = same s.chain s.pin h

  over-below : (below other : ℕ → List Mutation) (st : State) (m : Memory) (p : PartReader) (r : Reader) → ((id pin : ℕ) → HasCacheSnapshot m id pin → other id ≡ below id) → IsCachedThere m (held_by p).cached → ByForm (λ c. IsReadOver st.schema (lies_below below c.held.cached) m c r) (λ _. ⊤) p → ByForm (λ c. IsReadOver st.schema (lies_below other c.held.cached) m c r) (λ _. ⊤) p
  over-below below other st m (Past o) r same there h = tt
  over-below below other st m (Cached o) r same there h = subst (λ b. IsReadOver st.schema b m o r) (sym (lies-same below other m o.held.cached same there)) h

  one-below : (below other : ℕ → List Mutation) (st : State) (m : Memory) (o : ℕ × PartitionReader) (r : ℕ × Reader) → ((id pin : ℕ) → HasCacheSnapshot m id pin → other id ≡ below id) → IsServed lines below st m o r → IsServed lines other st m o r
  one-below below other st m o r same h = record {
    id = h.id;
    key = h.key;
    left = subst (λ b. lines o.1.reader m b (rest_of r.1)) (sym (lies-same below other m (cached_of o.1) same h.held.cached)) h.left;
    over = over-below below other st m o.1.reader r.1 same h.held.cached h.over;
    held = h.held;
    opened = h.opened;
  }

  pub below-served : (below other : ℕ → List Mutation) (st : State) (m : Memory) (os : List (ℕ × PartitionReader)) (rs : List (ℕ × Reader)) → ((id pin : ℕ) → HasCacheSnapshot m id pin → other id ≡ below id) → AllZip (IsServed lines below st m) os rs → AllZip (IsServed lines other st m) os rs
  below-served below other st m [] [] same h = tt
  below-served below other st m [] (r ∷ rs) same h = absurd h
  below-served below other st m (o ∷ os) [] same h = absurd h
  below-served below other st m (o ∷ os) (r ∷ rs) same h = (one-below below other st m o r same h.0, below-served below other st m os rs same h.1)

-- a new reader shares no snapshot with one that was there
pub share-fresh : (m : Memory) (new old : HeldSnaps) → ((s : Snap) → HasPin m s.chain s.pin → IsNoneOf new.written s) → AreThere m old.written → IfSome new.cached (IsOtherSnap old.cached) → ShareNone new old
share-fresh m new old fresh there apart = record {
  sealed = none-there new.written m old.written.sealed fresh there.sealed;
  active = none-there new.written m old.written.active fresh there.active;
  cached = each-back old.cached new.cached apart;
}

new-two : (m : Memory) (id : ℕ) (x : ℕ × PartitionReader) (os : List (ℕ × PartitionReader)) (k : ℕ) (d : ℕ × HeldSnaps) → AllByRecursion (λ o. AreThere m (written_snaps_of o.1)) os → IsNowhere id os → x.0 ≡ id → ((s : Snap) → HasPin m s.chain s.pin → IsNoneOf (written_snaps_of x.1) s) →
    AllByRecursion (λ o. IfSome (cached_of x.1) (IsOtherSnap (cached_of o.1))) os → k < length (map holding os) → AreTwo (get_or (map holding os) k d) (holding x)
new-two m id x [] k d there none is fresh apart l = absurd (omega (arith, l))
new-two m id x (o ∷ os) zero d there none is fresh apart l = record {
  ids = λ e. let a = none.0 in let b = e ∙ is in absurd (grind (arith, nat_tests, a, b));
  snaps = share-back (held_by x.1.reader) (held_by o.1.reader) (share-fresh m (held_by x.1.reader) (held_by o.1.reader) fresh there.0 apart.0);
}
new-two m id x (o ∷ os) (suc k) d there none is fresh apart l = new-two m id x os k d there.1 none.1 is fresh apart.1 (omega (arith, l))

pub more-two : (m : Memory) (id : ℕ) (x : ℕ × PartitionReader) (os : List (ℕ × PartitionReader)) → AllByRecursion (λ o. AreThere m (written_snaps_of o.1)) os → IsNowhere id os → x.0 ≡ id → ((s : Snap) → HasPin m s.chain s.pin → IsNoneOf (written_snaps_of x.1) s) →
    AllByRecursion (λ o. IfSome (cached_of x.1) (IsOtherSnap (cached_of o.1))) os → AllPairs AreTwo (map holding os) → AllPairs AreTwo (map holding (os ++ x ∷ []))
more-two m id x os there none is fresh apart two = subst (AllPairs AreTwo) (sym (map-append holding os (x ∷ []))) (all_pairs_push AreTwo (map holding os) (holding x) two (λ k d l. new-two m id x os k d there none is fresh apart l))

-- one fewer
pub fewer-two : (id at : ℕ) (os : List (ℕ × PartitionReader)) → IsPlace id os at → AllPairs AreTwo (map holding os) → AllPairs AreTwo (map holding (remove os at))
fewer-two id at os p two = subst (AllPairs AreTwo) (sym (map-removed holding os at)) (all_pairs_remove AreTwo (map holding os) at (subst (λ k. at < k) (sym (map-length holding os)) (in-range id os at p)) two)

-- one that gave lines
pub same-two : (id at : ℕ) (d x : ℕ × PartitionReader) (os : List (ℕ × PartitionReader)) → IsPlace id os at → x.0 ≡ (get_or os at d).0 → held_by x.1.reader ≡ held_by (get_or os at d).1.reader → AllPairs AreTwo (map holding os) → AllPairs AreTwo (map holding (set os at x))
same-two id at d x os p same snaps two = subst (AllPairs AreTwo) (sym (map-set-same holding os at x d (in-range id os at p) (λ i. (same i, snaps i)))) two

-- ---- one holds no snapshot of the row cache any more

each-of : {X : Type 0} (P : X → Type 0) (xs : List X) (k : ℕ) (d : X) → AllByRecursion P xs → k < length xs → P (get_or xs k d)
each-of P [] k d h l = absurd (omega (arith, l))
each-of P (x ∷ xs) zero d h l = h.0
each-of P (x ∷ xs) (suc k) d h l = each-of P xs k d h.1 (omega (arith, l))

pairs-more : {X : Type 0} (R : X → X → Type 0) (x : X) (xs : List X) → AllByRecursion (R x) xs → AllPairs R xs → AllPairs R (x ∷ xs)
pairs-more R x xs h two zero zero d l k = absurd (omega (arith, l))
pairs-more R x xs h two zero (suc j) d l k = each-of (R x) xs j d h (omega (arith, k))
pairs-more R x xs h two (suc i) zero d l k = absurd (omega (arith, l))
pairs-more R x xs h two (suc i) (suc j) d l k = two i j d (omega (arith, l)) (omega (arith, k))

each-set : {X : Type 0} (P : X → Type 0) (xs : List X) (k : ℕ) (y d : X) → (P (get_or xs k d) → P y) → AllByRecursion P xs → AllByRecursion P (set xs k y)
each-set P [] k y d f h = tt
each-set P (x ∷ xs) zero y d f h = (f h.0, h.1)
each-set P (x ∷ xs) (suc k) y d f h = (h.0, each-set P xs k y d f h.1)

each-map : {X : Type 0} (P Q : X → Type 0) (xs : List X) → ((x : X) → P x → Q x) → AllByRecursion P xs → AllByRecursion Q xs
each-map P Q [] f h = tt
each-map P Q (x ∷ xs) f h = (f x h.0, each-map P Q xs f h.1)

set-pairs : {X : Type 0} (R : X → X → Type 0) (xs : List X) (k : ℕ) (y d : X) → ((z : X) → R (get_or xs k d) z → R y z) → ((z : X) → R z (get_or xs k d) → R z y) → AllPairs R xs → AllPairs R (set xs k y)
set-pairs R [] k y d f g two = two
set-pairs R (x ∷ xs) zero y d f g two = pairs-more R y xs (each-map (R x) (R y) xs f (each-later R x xs two)) (pairs-rest R x xs two)
set-pairs R (x ∷ xs) (suc k) y d f g two = pairs-more R x (set xs k y) (each-set (R x) xs k y d (g x) (each-later R x xs two)) (set-pairs R xs k y d f g (pairs-rest R x xs two))

map-set : {X Y : Type 0} (f : X → Y) (xs : List X) (k : ℕ) (y : X) → map f (set xs k y) ≡ set (map f xs) k (f y)
map-set f [] k y = refl
map-set f (x ∷ xs) zero y = refl
map-set f (x ∷ xs) (suc k) y = ap (λ ys. f x ∷ ys) (map-set f xs k y)

none-other : (o : Option Snap) → IfSome o (IsOtherSnap None)
none-other None = tt
none-other (Some s) = tt

-- what a reader shares with none it shares with none without its snapshot of the row cache
module _ (x y : ℕ × HeldSnaps) (same : y.0 ≡ x.0) (less : y.1 ≡ record { cached = None; written = x.1.written }) where
  less-before : (z : ℕ × HeldSnaps) → AreTwo x z → AreTwo y z
  less-before z h = record {
    ids = λ e. h.ids (sym same ∙ e);
    snaps = subst (λ g. ShareNone g z.1) (sym less) (record { sealed = h.snaps.sealed; active = h.snaps.active; cached = none-other z.1.cached });
  }

  less-behind : (z : ℕ × HeldSnaps) → AreTwo z x → AreTwo z y
  less-behind z h = record { ids = λ e. h.ids (e ∙ same); snaps = subst (ShareNone z.1) (sym less) (record { sealed = h.snaps.sealed; active = h.snaps.active; cached = tt }) }

pub gone-two : (id at : ℕ) (d x : ℕ × PartitionReader) (os : List (ℕ × PartitionReader)) → IsPlace id os at → x.0 ≡ (get_or os at d).0 → held_by x.1.reader ≡ record { cached = None; written = written_snaps_of (get_or os at d).1 } → AllPairs AreTwo (map holding os) → AllPairs AreTwo (map holding (set os at x))
gone-two id at d x os p same less two =
    let here : get_or (map holding os) at (holding d) ≡ holding (get_or os at d) = map-at holding os at d in
    subst (AllPairs AreTwo) (sym (map-set holding os at x)) (set-pairs AreTwo (map holding os) at (holding x) (holding d)
    (λ z h. less-before (holding (get_or os at d)) (holding x) same less z (subst (λ q. AreTwo q z) here h))
    (λ z h. less-behind (holding (get_or os at d)) (holding x) same less z (subst (λ q. AreTwo z q) here h)) two)

-- ---- how many hold a snapshot of the row cache

abbrev cached-in : ℕ × PartitionReader → ℕ
cached-in o = number_of_snaps (cached_of o.1)

one-cached : (o : Option Snap) (few all long : ℕ) → few ≤ long → all ≡ number_of_snaps o + few → all ≤ suc long
one-cached None few all long h e = omega (arith, h, e)
one-cached (Some s) few all long h e = omega (arith, h, e)

pub few-cached : (os : List (ℕ × PartitionReader)) → cached_readers os ≤ length os
few-cached [] = omega arith
few-cached (o ∷ os) = let more = few-cached os in let sum = sum_by-cons cached-in o os in one-cached (cached_of o.1) (cached_readers os) (cached_readers (o ∷ os)) (length os) more sum

pub cached-set : (at : ℕ) (d x : ℕ × PartitionReader) (os : List (ℕ × PartitionReader)) → at < length os → cached_readers (set os at x) + number_of_snaps (cached_of (get_or os at d).1) ≡ cached_readers os + number_of_snaps (cached_of x.1)
cached-set at d x [] l = absurd (omega (arith, l))
cached-set zero d x (o ∷ os) l = let a = sum_by-cons cached-in x os in let b = sum_by-cons cached-in o os in omega (arith, a, b)
cached-set (suc at) d x (o ∷ os) l = let a = sum_by-cons cached-in o (set os at x) in let b = sum_by-cons cached-in o os in let more = cached-set at d x os (omega (arith, l)) in omega (arith, a, b, more)

pub cached-removed : (at : ℕ) (d : ℕ × PartitionReader) (os : List (ℕ × PartitionReader)) → at < length os → cached_readers (remove os at) + number_of_snaps (cached_of (get_or os at d).1) ≡ cached_readers os
cached-removed at d [] l = absurd (omega (arith, l))
cached-removed zero d (o ∷ os) l = let b = sum_by-cons cached-in o os in omega (arith, b)
cached-removed (suc at) d (o ∷ os) l = let a = sum_by-cons cached-in o (remove os at) in let b = sum_by-cons cached-in o os in let more = cached-removed at d os (omega (arith, l)) in omega (arith, a, b, more)

pub cached-more : (x : ℕ × PartitionReader) (os : List (ℕ × PartitionReader)) → cached_readers (os ++ x ∷ []) ≡ cached_readers os + number_of_snaps (cached_of x.1)
cached-more x os = sum_by_push cached-in os x
