-- What each call of a store leaves, from what its parts left.
use Rattle.std.proofs.Common.{◌≡◌, ℕ, ◌+◌, ◌-◌, ◌*◌, ◌/◌, ◌<◌, ◌≤◌, List, [], ◌∷◌, ◌++◌, length, take, drop, replicate, cond, Bool, true, false, Option, Some, refl, sym, ap, ◌∙◌, subst, arith, length-append, length-take, length-drop}
use Rattle.std.specs.Prelude.{is_some, IsSome, IsSomeAnd}
use Rattle.std.proofs.Math.ListN.{set}
use Rattle.std.proofs.lemmas.List.{length-replicate, length-set, get_or-set_other}
use Rattle.std.proofs.lemmas.List.Sums.{sum_by-set, sum_by-cons}
use Rattle.lsa_yard.specs.laws.Reading.{size-least}
use Rattle.lsa_kinds.specs.declared.kind.Kind.{Kind}
use Rattle.lsa_kinds.specs.Kinds.{links_of, up8}
use Rattle.lsa_kinds.specs.Fields.{spelled_number}
use Rattle.lsa_kinds.specs.laws.Fields.{length-spelled}
use Rattle.lsa_yard.specs.Bytes.{overwritten}
use Rattle.lsa_pool.specs.declared.Usage.{Usage}
use Rattle.lsa_pool.specs.declared.State.TheVariants.{Closed}
use Rattle.lsa_pool.specs.Room.{nothing, usage_of, free_count, live_sum, active_of, active_room}
use Rattle.lsa_pool.specs.Account.{IsSound}
use Rattle.lsa_pool.specs.laws.Usages.{closed-inside}
use Rattle.lsa_yard.specs.Cells.{Cell, size_of, extent, links_size, fresh, with_link, with_bytes, gap_of}
use Rattle.lsa_store.specs.declared.place.Ref.{Ref}
use Rattle.lsa_store.specs.Objects.{cells_of, cell_in, body_in, rounded_size, live_size, one_if_live, live_in, live_count, object_count, IsChangedIn, IsPutIn}
use Rattle.lsa_store.specs.Stock.{IsGivenBack}
use Rattle.lsa_store.specs.Stored.{Stored, IsStored, IsFitting}
use Rattle.lsa_store.specs.laws.Places.{there_and, and_map, standing, changed-sum, changed-total, put-total}
use Rattle.lsa_store.specs.laws.Words.{IsObjectIn, object, fresh-size}
use Rattle.lsa_store.specs.laws.Written.{object-and, and-object, fitting-at, lie-size}
use Rattle.lsa_store.specs.laws.Books.{active_inside, room-is, used-debit, room-same, closed-apart}
use Rattle.lsa_store.proofs.Stores.{stored-changed, stored-killed, stored-put, stored-release}

-- ---- other bytes of a cell, as many

length-over : (old new : List ℕ) (k : ℕ) → k + length new ≤ length old → length (overwritten old k new) ≡ length old
length-over old new k inside =
    omega (arith, length-append (take k old) (new ++ drop (k + length new) old), length-append new (drop (k + length new) old), length-take k old, length-drop (k + length new) old)

fitting-rest : (size : ℕ) (c : Cell) (k : ℕ) (new : List ℕ) → IsFitting size c → k + length new ≤ length c.rest
    → IsFitting size (record c { rest = overwritten c.rest k new }) × (live_size (record c { rest = overwritten c.rest k new }) ≡ live_size c)
fitting-rest size c k new f inside =
    let long = length-over c.rest new k inside in (
      record {
        proper = record { short = omega (arith, long, f.proper.short); linked = omega (arith, long, f.proper.linked) };
        limit = omega (arith, f.limit, ap (λ n. up8 (8 + n)) long);
      },
      ap (λ n. cond (is_some c.kind) (up8 (8 + n)) 0) long,
    )

-- the view of a store, over what stands in its parts
module _ (size : ℕ) (cells : List (List Cell)) (us : List Usage) (v : Stored) (s : IsStored size (record { cells = cells; usages = us })) (is : record { cells = cells; usages = us } ≡ v) where
  same_cells : cells ≡ v.cells
  same_cells = ap (λ (w : Stored). w.cells) is

  at_parts : (r : Ref) (P : Kind × List ℕ → Type 0) → IsSomeAnd (body_in v.cells r) P → IsSomeAnd (body_in cells r) P
  at_parts r P p = subst (λ l. IsSomeAnd (body_in l r) P) (sym same_cells) p

  -- ---- an object is changed, and keeps its size

  changed-object : (r : Ref) (change : Cell → Cell) (c : Cell) (cells' : List (List Cell)) → cell_in cells r ≡ Some c → IsChangedIn cells cells' r change
      → IsFitting size (change c) → live_size (change c) ≡ live_size c → one_if_live (change c) ≡ one_if_live c
      → IsStored size (record { cells = cells'; usages = us }) × (object_count cells ≡ object_count cells')
  changed-object r change c cells' here changed fits same one =
      (stored-changed size cells us s cells' r change c changed here fits same, omega (arith, changed-total cells cells' r change changed c here one_if_live, one))

  pub linked-store : (r : Ref) (field value : ℕ) (cells' : List (List Cell)) → IsSomeAnd (body_in v.cells r) (λ b. field < links_of b.0) → IsChangedIn cells cells' r (with_link field value)
      → IsStored size (record { cells = cells'; usages = us }) × (object_count cells ≡ object_count cells')
  linked-store r field value cells' linked changed =
      let f = object-and cells r (λ (b : Kind × List ℕ). field < links_of b.0) (at_parts r (λ b. field < links_of b.0) linked) in let x = f.0 in
      let fits = fitting-at size (record { cells = cells; usages = us }) r x.cell s x.here in
      let inside : 8 * field + length (spelled_number 8 value) ≤ length x.cell.rest = omega (arith, length-spelled 8 value, f.1, fits.proper.linked, ap links_size x.is) in
      let new = fitting-rest size x.cell (8 * field) (spelled_number 8 value) fits inside in
      changed-object r (with_link field value) x.cell cells' x.here changed new.0 new.1 refl

  pub written-store : (r : Ref) (from : ℕ) (bytes : List ℕ) (cells' : List (List Cell)) → IsSomeAnd (body_in v.cells r) (λ b. from + length bytes ≤ length b.1) → IsChangedIn cells cells' r (with_bytes from bytes)
      → IsStored size (record { cells = cells'; usages = us }) × (object_count cells ≡ object_count cells')
  written-store r from bytes cells' fit changed =
      let f = object-and cells r (λ (b : Kind × List ℕ). from + length bytes ≤ length b.1) (at_parts r (λ b. from + length bytes ≤ length b.1) fit) in let x = f.0 in
      let fits = fitting-at size (record { cells = cells; usages = us }) r x.cell s x.here in
      let inside : links_size x.cell.kind + from + length bytes ≤ length x.cell.rest =
      omega (arith, f.1, length-drop (8 * links_of x.kind) x.cell.rest, fits.proper.linked, ap links_size x.is) in
      let new = fitting-rest size x.cell (links_size x.cell.kind + from) bytes fits inside in
      changed-object r (with_bytes from bytes) x.cell cells' x.here changed new.0 new.1 refl

  -- ---- an object goes

  module _ (r : Ref) (cells' : List (List Cell)) (some : IsSome (body_in v.cells r)) (changed : IsChangedIn cells cells' r gap_of) (us' : List Usage) (bytes : ℕ)
      (told : IsSomeAnd (cell_in v.cells r) (λ c. size_of c ≡ bytes)) (lowered : us' ≡ set us r.segment (record (usage_of us r.segment) { live = (usage_of us r.segment).live - bytes }))
      (active : active_of us' ≡ active_of us) (free : free_count us' ≡ free_count us) (total : live_sum us' + bytes ≡ live_sum us) (sound : IsSound size us') where
    x : IsObjectIn cells r
    x = object cells r (subst (λ l. IsSome (body_in l r)) (sym same_cells) some)

    lt : r.segment < length cells
    lt = standing cells r.segment r.offset x.cell x.here

    size_is : size_of x.cell ≡ bytes
    size_is = there_and (cell_in v.cells r) x.cell (λ (c : Cell). size_of c ≡ bytes) (ap (λ l. cell_in l r) (sym same_cells) ∙ x.here) told

    live_is : live_size x.cell ≡ size_of x.cell
    live_is = ap (λ (k : Option Kind). cond (is_some k) (size_of x.cell) 0) x.is

    one_is : one_if_live x.cell ≡ 1
    one_is = ap (λ (k : Option Kind). cond (is_some k) 1 0) x.is

    within : r.segment < length us
    within = omega (arith, lt, s.count)

    pub killed-store : IsStored size (record { cells = cells'; usages = us' })
    killed-store =
        let fits = fitting-at size (record { cells = cells; usages = us }) r x.cell s x.here in
        stored-killed size cells us s cells' us' r gap_of x.cell bytes changed x.here
        (record { proper = record { short = fits.proper.short; linked = omega arith }; limit = fits.limit }) (omega (arith, live_is, size_is)) within lowered (ap is_some active ∙ s.active) sound

    pub killed-count : object_count cells - 1 ≡ object_count cells'
    killed-count = omega (arith, changed-total cells cells' r gap_of changed x.cell x.here one_if_live, one_is)

    pub killed-given : IsSomeAnd (body_in v.cells r) (λ b. IsGivenBack size v.usages us' r.segment (rounded_size b.0 (length b.1)))
    killed-given =
        let some_is = lie-size size (record { cells = cells; usages = us }) s r x in
        let given : IsGivenBack size us us' r.segment bytes = record {
          after = lowered;
          enough = omega (arith, changed-sum cells cells' r gap_of changed x.cell x.here live_size, live_is, size_is, s.live r.segment);
          budget = ap length lowered ∙ length-set us r.segment (record (usage_of us r.segment) { live = (usage_of us r.segment).live - bytes });
          active = active;
          free = free;
          total = total;
          room = room-same size us us' active (λ m _. used-debit us us' r.segment bytes within lowered m);
        } in
        subst (λ (w : Stored). IsSomeAnd (body_in w.cells r) (λ b. IsGivenBack size w.usages us' r.segment (rounded_size b.0 (length b.1)))) is
        (and-object cells r x (λ (b : Kind × List ℕ). IsGivenBack size us us' r.segment (rounded_size b.0 (length b.1))) (subst (IsGivenBack size us us' r.segment) (sym size_is ∙ some_is) given))

  -- ---- an object is made

  module _ (n : ℕ) (cells' : List (List Cell)) (kind : Kind) (bytes : List ℕ) (taken : ℕ) (is_active : active_of us ≡ Some n) (takes : taken ≡ rounded_size kind (length bytes)) (fits : taken ≤ size / 8)
      (pushed : cells' ≡ set cells n (cells_of cells n ++ fresh kind bytes ∷ [])) (us' : List Usage) (credited : us' ≡ set us n (record (usage_of us n) { used = (usage_of us n).used + taken; live = (usage_of us n).live + taken }))
      (active : active_of us' ≡ active_of us) (sound : IsSound size us') where
    made : IsPutIn cells cells' (record { segment = n; offset = extent (cells_of cells n) }) (fresh kind bytes)
    made = record { inside = omega (arith, active_inside us n is_active, s.count); behind = refl; is = pushed }

    fresh_fits : IsFitting size (fresh kind bytes)
    fresh_fits =
        let links : List ℕ = replicate (8 * links_of kind) 0 in let long = length-append links bytes in let own = length-replicate {A = ℕ} (8 * links_of kind) 0 in
        record { proper = record { short = omega (arith, fresh-size kind bytes, takes, fits, s.small); linked = omega (arith, long, own) }; limit = omega (arith, fresh-size kind bytes, takes, fits) }

    pub put-store : IsStored size (record { cells = cells'; usages = us' })
    put-store =
        stored-put size cells us s cells' us' (record { segment = n; offset = extent (cells_of cells n) }) (fresh kind bytes) taken made fresh_fits (fresh-size kind bytes ∙ sym takes) (fresh-size kind bytes ∙ sym takes)
        credited (ap is_some (active ∙ is_active)) sound

    pub put-count : object_count cells + 1 ≡ object_count cells'
    put-count = sym (put-total cells cells' (record { segment = n; offset = extent (cells_of cells n) }) (fresh kind bytes) made one_if_live)

  -- ---- a segment is given back

  closed_there : (n : ℕ) → (usage_of v.usages n).state ≡ Closed → (usage_of us n).state ≡ Closed
  closed_there n closed = ap (λ (w : Stored). (usage_of w.usages n).state) is ∙ closed

  pub released-store : (n : ℕ) (cells' : List (List Cell)) → (usage_of v.usages n).state ≡ Closed → (usage_of v.usages n).live ≡ 0 → cells' ≡ set cells n [] → (us' : List Usage) → us' ≡ set us n nothing → active_of us' ≡ active_of us → IsSound size us'
      → IsStored size (record { cells = cells'; usages = us' }) × (object_count cells ≡ object_count cells')
  released-store n cells' closed empty cleared us' given active sound =
      let lt = closed-inside us n (closed_there n closed) in let none : live_in (cells_of cells n) ≡ 0 = s.live n ∙ ap (λ (w : Stored). (usage_of w.usages n).live) is ∙ empty in (
        subst (λ l. IsStored size (record { cells = l; usages = us' })) (sym cleared) (stored-release size cells us s us' n lt given (ap is_some active ∙ s.active) sound),
        omega (arith, no_objects (cells_of cells n) none, sum_by-set live_count cells n [] [] (omega (arith, lt, s.count)), ap object_count cleared),
      )
    where
      no_objects : (l : List Cell) → live_in l ≡ 0 → live_count l ≡ 0
      no_objects [] none = refl
      no_objects (c ∷ l) none = omega (arith, sum_by-cons live_size c l, sum_by-cons one_if_live c l, no_objects l (omega (arith, none, sum_by-cons live_size c l)), no_object c (omega (arith, none, sum_by-cons live_size c l)))
        where
          no_object : (c : Cell) → live_size c ≡ 0 → one_if_live c ≡ 0
          no_object c none = elim (is_some c.kind) as (λ (b : Bool). cond b (size_of c) 0 ≡ 0 → ◌≡◌ {A = ℕ} (cond b 1 0) 0) [ true ↦ λ e. absurd (omega (arith, e, size-least c)) | false ↦ λ e. refl ] none

  pub released-room : (n : ℕ) → (usage_of v.usages n).state ≡ Closed → (us' : List Usage) → us' ≡ set us n nothing → active_of us' ≡ active_of us → active_room size us' ≡ active_room size us
  released-room n closed us' given active =
      room-same size us us' active (λ m on. ap (λ l. (usage_of l m).used) given ∙ ap (λ (u : Usage). u.used) (get_or-set_other us n m nothing nothing (λ same. closed-apart us n m (closed_there n closed) on (sym same))))

  -- ---- an object is copied

  -- the object that is copied, and how many bytes it takes
  pub record IsCopied (r : Ref) (taken : ℕ) : Type 0 where
    pub x : IsObjectIn v.cells r
    pub rounded : rounded_size x.kind (length (drop (8 * links_of x.kind) x.cell.rest)) ≡ taken
    pub small : taken ≤ size / 8

  stored : IsStored size v
  stored = subst (IsStored size) is s

  pub copied : (r : Ref) (taken : ℕ) → IsSome (body_in v.cells r) → IsSomeAnd (cell_in v.cells r) (λ c. size_of c ≡ taken) → IsCopied r taken
  copied r taken some told =
      let x = object v.cells r some in let size_is = there_and (cell_in v.cells r) x.cell (λ (c : Cell). size_of c ≡ taken) x.here told in
      record { x = x; rounded = sym (lie-size size v stored r x) ∙ size_is; small = omega (arith, (fitting-at size v r x.cell stored x.here).limit, size_is) }

  -- the same where its rounded size is known
  pub carried : (r : Ref) (taken : ℕ) → IsSomeAnd (body_in v.cells r) (λ b. rounded_size b.0 (length b.1) ≡ taken) → IsCopied r taken
  carried r taken told =
      let f = object-and v.cells r (λ (b : Kind × List ℕ). rounded_size b.0 (length b.1) ≡ taken) told in
      record { x = f.0; rounded = f.1; small = omega (arith, (fitting-at size v r f.0.cell stored f.0.here).limit, lie-size size v stored r f.0, f.1) }

  pub carried-fits : (n : ℕ) (r : Ref) (taken : ℕ) → active_of us ≡ Some n → IsSomeAnd (body_in v.cells r) (λ b. rounded_size b.0 (length b.1) ≡ taken) → taken ≤ active_room size v.usages
      → IsSomeAnd (body_in cells r) (λ b. extent (cells_of cells n) + size_of (fresh b.0 b.1) ≤ size)
  carried-fits n r taken is_active told room =
      let there : taken ≤ active_room size us = omega (arith, room, ap (λ (w : Stored). active_room size w.usages) is) in
      and_map (body_in cells r) (λ b. rounded_size b.0 (length b.1) ≡ taken) (λ b. extent (cells_of cells n) + size_of (fresh b.0 b.1) ≤ size)
      (λ b e. omega (arith, e, there, fresh-size b.0 b.1, room-is size us n is_active, s.filled n, s.sound.used n)) (at_parts r (λ b. rounded_size b.0 (length b.1) ≡ taken) told)
