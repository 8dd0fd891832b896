-- What becomes of the streams below, and of what is left to be read, where something was read below.
use Rattle.std.specs.Prelude.{◌≡◌, ◌≢◌, List, [], ◌∷◌, ◌++◌, Option, Some, None}
use Rattle.std.proofs.Common.{refl, sym, ap, ◌∙◌, subst}
use Rattle.rc_cell.specs.declared.rows.Row.{Row}
use Rattle.rc_cell.specs.declared.writes.Tomb.{Tomb}
use Rattle.rc_cell.specs.Winner.{empty_row}
use Rattle.rc_position.specs.declared.comps.Comp.{Comp}
use Rattle.rc_position.specs.declared.positions.Pos.{Pos}
use Rattle.rc_position.specs.Position.{IsBefore, row_pos}
use Rattle.rc_mutation.specs.declared.fragments.Frag.{Frag}
use Rattle.rc_mutation.specs.declared.fragments.Frag.TheVariants as frag
use Rattle.rc_mutation.specs.declared.mutations.Mutation.{Mutation}
use Rattle.rc_stream.specs.Places.{Reaches}
use Rattle.rc_stream.specs.Snapshot.{There}
use Rattle.rc_stream.specs.Stream.{Stream, first_upto, force, took}
use Rattle.rc_cacheread.specs.declared.readers.Stage.{Stage}
use Rattle.rc_cacheread.specs.declared.readers.Stage.TheVariants.{Away, Sought, Within}
use Rattle.rc_cacheread.specs.Reading.{Reads, behind_row, said_at}
use Rattle.rc_cacheread.specs.Sharing.{Fits, Leads}
use Rattle.rc_cacheread.proofs.Lists.{behind-its-row, change_if, gap-read, has-row, turns}
use Rattle.rc_cacheread.specs.laws.Orders.{before-reaches, reach-through, same-place}
use Rattle.rc_cacheread.proofs.Orders.{before-reach, reach-itself}
use Rattle.rc_cacheread.proofs.Streams.{first-change, first-row, nothing-fits, nothing-says}

-- each stream that may stand below becomes one that may stand below afterwards, and says the same from there on
pub record Carries (seen : Stream → Type 0) (a : Stage) (x : Pos) (u : Option Tomb) (now : Stream → Type 0) (b : Stage) (y : Pos) (v : Option Tomb) : Type 0 where
  pub each : (t : Stream) → seen t → Fits a x u t → (n : Stream) × now n × Fits b y v n × ((z : Pos) → Reaches y z → said_at z n.tomb n.left ≡ said_at z t.tomb t.left) × (n.head.statics ≡ t.head.statics)

-- what was read is due, and the rest is left to be read
pub record Advance (S : Pos → There → Type 0) (to : Pos) (u : Option Tomb) (fs : List Frag) (y : Pos) (v : Option Tomb) (due : List Frag) : Type 0 where
  pub left : List Frag
  pub begins : fs ≡ due ++ left
  pub reads : Reads S y to v left
  pub says : (z : Pos) → Reaches y z → said_at z u fs ≡ said_at z v left

-- both together
pub record Outcome (S : Pos → There → Type 0) (seen now : Stream → Type 0) (to : Pos) (a : Stage) (x : Pos) (u : Option Tomb) (b : Stage) (y : Pos) (v : Option Tomb) (due : List Frag) : Type 0 where
  pub carries : Carries seen a x u now b y v
  pub advance : (fs : List Frag) (t : Stream) → Reads S x to u fs → seen t → Fits a x u t → ((z : Pos) → Reaches x z → IsBefore z to → said_at z t.tomb t.left ≡ said_at z u fs) → Advance S to u fs y v due

pub outcome-at : (S : Pos → There → Type 0) (seen now : Stream → Type 0) (to : Pos) (a : Stage) (x : Pos) (u : Option Tomb) (b b' : Stage) (y y' : Pos) (v v' : Option Tomb) (due due' : List Frag) → b' ≡ b → y' ≡ y → v' ≡ v → due' ≡ due → Outcome S seen now to a x u b y v due → Outcome S seen now to a x u b' y' v' due'
outcome-at S seen now to a x u b b' y y' v v' due due' p q r s o = subst (λ (z : Stage × Pos × Option Tomb × List Frag). Outcome S seen now to a x u z.0 z.1 z.2 z.3) (λ i. (sym p i, sym q i, sym r i, sym s i)) o

pub leads-on : (writes : List Mutation) (seen now : Stream → Type 0) (to : Pos) (a : Stage) (x : Pos) (u : Option Tomb) (b : Stage) (y : Pos) (v : Option Tomb) → Carries seen a x u now b y v → Reaches x y → Leads writes seen a x to u → Leads writes now b y to v
leads-on writes seen now to a x u b y v c on l = record {
  each = λ z d h k q. l.each z d (reach-through x y z on h) k (λ t p f. (let n = c.each t p f in q n.0 n.1 n.2 ∙ n.3 z h));
  static_row = λ row q. l.static_row row (λ t p f. (let n = c.each t p f in q n.0 n.1 n.2 ∙ n.4));
}

pub carries-same : (seen now : Stream → Type 0) (a : Stage) (x : Pos) (u : Option Tomb) → ((t : Stream) → seen t → now t) → Carries seen a x u now a x u
carries-same seen now a x u on = record { each = λ t s f. (t, on t s, f, λ z h. refl, refl) }

module _ (S : Pos → There → Type 0) (seen now : Stream → Type 0) (to x near : Pos) (u : Option Tomb) where
  -- nothing changes
  pub same-outcome : (a : Stage) → ((t : Stream) → seen t → now t) → Outcome S seen now to a x u a x u []
  same-outcome a on = record { carries = carries-same seen now a x u on; advance = λ fs t r s f q. record { left = fs; begins = refl; reads = r; says = λ z h. refl } }

  pub row-outcome : (key : List Comp) (r : Row) → ((t : Stream) → seen t → Some (frag.Row key r) ≡ first_upto near t.left) → ((t : Stream) → seen t → now (took (Some (frag.Row key r)) t)) → Reaches x (row_pos key) → IsBefore (row_pos key) to → r ≢ empty_row → Outcome S seen now to Within x u Within (behind_row key) u (frag.Row key r ∷ [])
  row-outcome key r gives on h b d = record {
    carries = record { each = λ t s f. (let g = first-row key r x near u t f (sym (gives t s)) in (took (Some (frag.Row key r)) t, on t s, g.fits, g.says, refl)) };
    advance = λ fs t reads s f q.
        let z = row_pos key in
        let g = first-row key r x near u t f (sym (gives t s)) in
        let e : said_at z u fs ≡ (r, u) = sym (q z h b) ∙ g.there_is in
        let here = gap-read S x z to u fs reads h (λ y k l. sym (q y k (before-reaches y z to l (before-reach z to b))) ∙ g.before y l) in
        let w = has-row S key r to u fs here e d in
        record { left = w.left; begins = w.begins; reads = w.reads; says = w.says };
  }

  pub empty-outcome : (key : List Comp) (r : Row) → ((t : Stream) → seen t → Some (frag.Row key r) ≡ first_upto near t.left) → ((t : Stream) → seen t → now (took (Some (frag.Row key r)) t)) → Reaches x (row_pos key) → IsBefore (row_pos key) to → r ≡ empty_row → Outcome S seen now to Within x u Within (row_pos key) u []
  empty-outcome key r gives on h b d = record {
    carries = record { each = λ t s f. (let g = first-row key r x near u t f (sym (gives t s)) in (took (Some (frag.Row key r)) t, on t s, g.empty_fits, λ z k. g.empty_says d z, refl)) };
    advance = λ fs t reads s f q.
        let z = row_pos key in
        let g = first-row key r x near u t f (sym (gives t s)) in
        record { left = fs; begins = refl; reads = gap-read S x z to u fs reads h (λ y k l. sym (q y k (before-reaches y z to l (before-reach z to b))) ∙ g.before y l); says = λ y k. refl };
  }

  pub change-outcome : (from : Pos) (next : Option Tomb) → ((t : Stream) → seen t → Some (frag.Change from next) ≡ first_upto near t.left) → ((t : Stream) → seen t → now (took (Some (frag.Change from next)) t)) → Reaches x from → IsBefore from to → Outcome S seen now to Within x u Within from next (change_if from u next)
  change-outcome from next gives on h b = record {
    carries = record { each = λ t s f. (let g = first-change from next x near u t f (sym (gives t s)) in (took (Some (frag.Change from next)) t, on t s, g.fits, g.says, refl)) };
    advance = λ fs t reads s f q.
        let g = first-change from next x near u t f (sym (gives t s)) in
        let e : force from u fs ≡ next = ap (λ (d : There). d.1) (sym (q from h b)) ∙ g.there_is in
        let here = gap-read S x from to u fs reads h (λ y k l. sym (q y k (before-reaches y from to l (before-reach from to b))) ∙ g.before y l) in
        let w = turns S from to u next fs here e in
        record { left = w.left; begins = w.begins; reads = w.reads; says = w.says };
  }

  -- the stretch ends: nothing was given
  pub end-outcome : (end : Pos) → ((t : Stream) → seen t → None ≡ first_upto near t.left) → ((t : Stream) → seen t → now t) → Reaches x end → Reaches end to → ((y : Pos) → IsBefore y end → Reaches y near) → Outcome S seen now to Within x u Away end u []
  end-outcome end gives on h k n = record {
    carries = record { each = λ t s f. (t, on t s, (f.0, f.1), λ z l. refl, refl) };
    advance = λ fs t reads s f q. record { left = fs; begins = refl; reads = gap-read S x end to u fs reads h (λ y l b. sym (q y l (before-reaches y end to b k)) ∙ nothing-says near y x u t f (sym (gives t s)) (n y b)); says = λ y l. refl };
  }

  -- the stretch ends before a change
  pub before-outcome : (end from : Pos) (next : Option Tomb) → ((t : Stream) → seen t → Some (frag.Change from next) ≡ first_upto near t.left) → ((t : Stream) → seen t → now (took (Some (frag.Change from next)) t)) → Reaches x end → Reaches end to → Reaches end from → Reaches near end → Outcome S seen now to Within x u Away end u []
  before-outcome end from next gives on h k e n = record {
    carries = record {
      each = λ t s f.
          let g = first-change from next x near u t f (sym (gives t s)) in
          (took (Some (frag.Change from next)) t, on t s, (g.fits.0, g.fits.1), λ z l. g.says z (reach-through from end z (reach-through from near end g.upto n) l), refl);
    };
    advance = λ fs t reads s f q.
        let g = first-change from next x near u t f (sym (gives t s)) in
        record { left = fs; begins = refl; reads = gap-read S x end to u fs reads h (λ y l b. sym (q y l (before-reaches y end to b k)) ∙ g.before y (before-reaches y end from b e)); says = λ y l. refl };
  }

  -- nothing stands up to the position
  pub upto-outcome : ((t : Stream) → seen t → None ≡ first_upto near t.left) → ((t : Stream) → seen t → now t) → Reaches x near → IsBefore near to → Outcome S seen now to Within x u Within near u []
  upto-outcome gives on h b = record {
    carries = record { each = λ t s f. (t, on t s, nothing-fits near x u t f (sym (gives t s)), λ z l. refl, refl) };
    advance = λ fs t reads s f q. record { left = fs; begins = refl; reads = gap-read S x near to u fs reads h (λ y l k. sym (q y l (before-reaches y near to k (before-reach near to b))) ∙ nothing-says near y x u t f (sym (gives t s)) (before-reach y near k)); says = λ y l. refl };
  }

  -- a fragment that stands before the place comes from no stream that may stand below
  pub row-before : (key : List Comp) (r : Row) (a : Stage) → a ≡ Within → ((t : Stream) → seen t → Some (frag.Row key r) ≡ first_upto near t.left) → (Reaches x (row_pos key) → ⊥) → Outcome S seen now to Within x u Within x u []
  row-before key r a w gives n = record {
    carries = record { each = λ t s f. absurd (n (first-row key r x near u t f (sym (gives t s))).on) };
    advance = λ fs t reads s f q. absurd (n (first-row key r x near u t f (sym (gives t s))).on);
  }

  pub change-before : (from : Pos) (next : Option Tomb) → ((t : Stream) → seen t → Some (frag.Change from next) ≡ first_upto near t.left) → (Reaches x from → ⊥) → Outcome S seen now to Within x u Within x u []
  change-before from next gives n = record {
    carries = record { each = λ t s f. absurd (n (first-change from next x near u t f (sym (gives t s))).on) };
    advance = λ fs t reads s f q. absurd (n (first-change from next x near u t f (sym (gives t s))).on);
  }

module _ (S : Pos → There → Type 0) (seen now : Stream → Type 0) (to x : Pos) (u : Option Tomb) (b : IsBefore x to) where
  -- at the place itself, where it was sought: nothing stands there
  pub none-here : ((t : Stream) → seen t → None ≡ first_upto x t.left) → ((t : Stream) → seen t → now t) → Outcome S seen now to Sought x u Within x None (change_if x u None)
  none-here gives on = record {
    carries = record { each = λ t s f. (t, on t s, nothing-fits x x None t f (sym (gives t s)), λ z l. refl, refl) };
    advance = λ fs t reads s f q.
        let e : force x u fs ≡ None = ap (λ (d : There). d.1) (sym (q x (reach-itself x) b) ∙ nothing-says x x x None t f (sym (gives t s)) (reach-itself x)) in
        let w = turns S x to u None fs reads e in
        record { left = w.left; begins = w.begins; reads = w.reads; says = w.says };
  }

  pub change-here : (from : Pos) (next : Option Tomb) → ((t : Stream) → seen t → Some (frag.Change from next) ≡ first_upto x t.left) → ((t : Stream) → seen t → now (took (Some (frag.Change from next)) t)) → Outcome S seen now to Sought x u Within x next (change_if x u next)
  change-here from next gives on = record {
    carries = record {
      each = λ t s f.
          let g = first-change from next x x None t f (sym (gives t s)) in
          let e : from ≡ x = same-place from x g.upto g.on in
          (took (Some (frag.Change from next)) t, on t s, subst (λ z. Fits Within z next (took (Some (frag.Change from next)) t)) e g.fits, λ z l. g.says z (subst (λ y. Reaches y z) (sym e) l), refl);
    };
    advance = λ fs t reads s f q.
        let g = first-change from next x x None t f (sym (gives t s)) in
        let e : from ≡ x = same-place from x g.upto g.on in
        let k : force x u fs ≡ next = ap (λ (d : There). d.1) (sym (q x (reach-itself x) b)) ∙ subst (λ z. force z t.tomb t.left ≡ next) e g.there_is in
        let w = turns S x to u next fs reads k in
        record { left = w.left; begins = w.begins; reads = w.reads; says = w.says };
  }

  module _ (key : List Comp) (r : Row) (gives : (t : Stream) → seen t → Some (frag.Row key r) ≡ first_upto x t.left) (on : (t : Stream) → seen t → now (took (Some (frag.Row key r)) t)) where
    pub row-here : row_pos key ≡ x → r ≢ empty_row → Outcome S seen now to Sought x u Within (behind_row key) None (change_if x u None ++ (frag.Row key r ∷ []))
    row-here e d = record {
      carries = record { each = λ t s f. (let g = first-row key r x x None t f (sym (gives t s)) in (took (Some (frag.Row key r)) t, on t s, g.fits, g.says, refl)) };
      advance = λ fs t reads s f q.
          let g = first-row key r x x None t f (sym (gives t s)) in
          let k : said_at x t.tomb t.left ≡ (r, None) = subst (λ z. said_at z t.tomb t.left ≡ (r, None)) e g.there_is in
          let m : said_at x u fs ≡ (r, None) = sym (q x (reach-itself x) b) ∙ k in
          let w = turns S x to u None fs reads (ap (λ (d : There). d.1) m) in
          let n : said_at (row_pos key) None w.left ≡ (r, None) = subst (λ z. said_at z None w.left ≡ (r, None)) (sym e) (sym (w.says x (reach-itself x)) ∙ m) in
          let v = has-row S key r to None w.left (subst (λ z. Reads S z to None w.left) (sym e) w.reads) n d in
          let over : (y : Pos) → Reaches (behind_row key) y → Reaches x y = λ y l. subst (λ z. Reaches z y) e (reach-through (row_pos key) (behind_row key) y (before-reach (row_pos key) (behind_row key) (behind-its-row key)) l) in
          record {
            left = v.left;
            begins = w.begins ∙ ap (λ l. change_if x u None ++ l) v.begins ∙ joined (change_if x u None) (frag.Row key r) v.left;
            reads = v.reads;
            says = λ y l. w.says y (over y l) ∙ v.says y l;
          };
    } where
      joined : (xs : List Frag) (f : Frag) (ys : List Frag) → xs ++ (f ∷ ys) ≡ (xs ++ (f ∷ [])) ++ ys
      joined [] f ys = refl
      joined (x ∷ xs) f ys = ap (λ l. x ∷ l) (joined xs f ys)

    pub empty-here : r ≡ empty_row → Outcome S seen now to Sought x u Within x None (change_if x u None)
    empty-here d = record {
      carries = record {
        each = λ t s f.
            let g = first-row key r x x None t f (sym (gives t s)) in
            (took (Some (frag.Row key r)) t, on t s, subst (λ z. Fits Within z None (took (Some (frag.Row key r)) t)) (same-place (row_pos key) x g.upto g.on) g.empty_fits, λ z l. g.empty_says d z, refl);
      };
      advance = λ fs t reads s f q.
          let g = first-row key r x x None t f (sym (gives t s)) in
          let e : force x u fs ≡ None = ap (λ (d : There). d.1) (sym (q x (reach-itself x) b) ∙ subst (λ z. said_at z t.tomb t.left ≡ (r, None)) (same-place (row_pos key) x g.upto g.on) g.there_is) in
          let w = turns S x to u None fs reads e in
          record { left = w.left; begins = w.begins; reads = w.reads; says = w.says };
    }

    pub other-here : (row_pos key ≡ x → ⊥) → Outcome S seen now to Sought x u Within x None (change_if x u None)
    other-here n = record {
      carries = record { each = λ t s f. (let g = first-row key r x x None t f (sym (gives t s)) in absurd (n (same-place (row_pos key) x g.upto g.on))) };
      advance = λ fs t reads s f q. (let g = first-row key r x x None t f (sym (gives t s)) in absurd (n (same-place (row_pos key) x g.upto g.on)));
    }
