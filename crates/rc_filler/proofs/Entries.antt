-- What holds of each entry of a version, and of each version of a chain, where something is done to them.
use Rattle.std.proofs.Common.{◌≡◌, ℕ, zero, suc, true, false, cond, List, [], ◌∷◌, Option, map, inl, inr, refl, subst}
use Rattle.std.specs.Prelude.{Contains, nat_eq}
use Rattle.std.specs.Ordering.{eq_by_cmp, is_eq}
use Rattle.std.specs.declared.cmp.Ordering.{Ordering}
use Rattle.std.specs.declared.cmp.Ordering.TheVariants.{Less, Equal, Greater}
use Rattle.rc_position.specs.declared.positions.Pos.{Pos}
use Rattle.rc_position.specs.Position.{pos_cmp}
use Rattle.rc_core.specs.declared.entries.Entry.{Entry}
use Rattle.rc_core.specs.declared.entries.Mark.{Mark}
use Rattle.rc_core.specs.AtPlace.{EachEntry}
use Rattle.rc_core.specs.Change.{dummy, gap_split, lose_last_gap, lost_mark, split_by, take_out, with_first_gap, with_gap}
use Rattle.rc_core.specs.Continuity.{EachOf}
use Rattle.rc_core.specs.Steps.{on_newest, on_version}
use Rattle.rc_core.specs.Version.{Version}
use Rattle.rc_partition.specs.laws.Lists.{elem-cases, elem-first, elem-later, elem-none}
use Rattle.rc_memory.specs.Memory.{KeptChain, Member, on_shown, on_version_of}
use Rattle.rc_evict.specs.Evictions.{evicted_at, evicted_of}

-- ---- entries

pub each-map : (P : Entry → Type 0) (g : Entry → Entry) → ((e : Entry) → P e → P (g e)) → (es : List Entry) → EachEntry P es → EachEntry P (map g es)
each-map P g keeps [] h = tt
each-map P g keeps (e ∷ es) h = (keeps e h.0, each-map P g keeps es h.1)

module _ (P : Entry → Type 0) (x : Pos) (made : (m : Mark) → P (dummy x m)) where
  split-by-each : (r : Ordering) (e : Entry) (es rest : List Entry) → EachEntry P (e ∷ es) → EachEntry P rest → EachEntry P (split_by r x e es rest)
  split-by-each Less e es rest h k = (made e.gap, h)
  split-by-each Equal e es rest h k = h
  split-by-each Greater e es rest h k = (h.0, k)

  pub split-each : (es : List Entry) → EachEntry P es → EachEntry P (gap_split x es)
  split-each [] h = tt
  split-each (e ∷ es) h = split-by-each (pos_cmp x e.position) e es (gap_split x es) h (split-each es h.1)

module _ (P : Entry → Type 0) (gaps : (m : Mark) (e : Entry) → P e → P (with_gap m e)) where
  first-gap-each : (m : Mark) (es : List Entry) → EachEntry P es → EachEntry P (with_first_gap m es)
  first-gap-each m [] h = tt
  first-gap-each m (e ∷ es) h = (gaps m e h.0, h.1)

  pub taken-each : (m : Mark) (x : Pos) (es : List Entry) → EachEntry P es → EachEntry P (take_out m x es)
  taken-each m x [] h = tt
  taken-each m x (e ∷ es) h = elim (eq_by_cmp pos_cmp x e.position) as (λ b. EachEntry P (cond b (with_first_gap m es) (e ∷ take_out m x es))) [
    | true ↦ first-gap-each m es h.1
    | false ↦ (h.0, taken-each m x es h.1)
  ]

  pub last-gap-each : (es : List Entry) → EachEntry P es → EachEntry P (lose_last_gap es)
  last-gap-each [] h = tt
  last-gap-each (e ∷ []) h = (gaps lost_mark e h.0, tt)
  last-gap-each (e ∷ f ∷ es) h = (h.0, last-gap-each (f ∷ es) h.1)

pub is-tied : (r : Ordering) → is_eq r ≡ true → r ≡ Equal
is-tied Less e = absurd (cc)
is-tied Equal e = refl
is-tied Greater e = absurd (cc)

pub entry-in : (P : Entry → Type 0) (es : List Entry) → EachEntry P es → (e : Entry) → Contains es e → P e
entry-in P [] h e on = absurd (elem-none e on)
entry-in P (f ∷ es) h e on = elim (elem-cases f e es on) [ inl same ↦ subst P same h.0 | inr later ↦ entry-in P es h.1 e later ]

pub entries-all : (P : Entry → Type 0) (es : List Entry) → ((e : Entry) → Contains es e → P e) → EachEntry P es
entries-all P [] h = tt
entries-all P (e ∷ es) h = (h e (elem-first e es), entries-all P es (λ f on. h f (elem-later e f es on)))

-- ---- versions

pub version-in : (P : Version → Type 0) (vs : List Version) → EachOf P vs → (v : Version) → Contains vs v → P v
version-in P [] h v on = absurd (elem-none v on)
version-in P (w ∷ vs) h v on = elim (elem-cases w v vs on) [ inl same ↦ subst P same h.0 | inr later ↦ version-in P vs h.1 v later ]

pub versions-all : (P : Version → Type 0) (vs : List Version) → ((v : Version) → Contains vs v → P v) → EachOf P vs
versions-all P [] h = tt
versions-all P (v ∷ vs) h = (h v (elem-first v vs), versions-all P vs (λ w on. h w (elem-later v w vs on)))

pub newest-each : (P : Version → Type 0) (f : Version → Version) → ((v : Version) → P v → P (f v)) → (vs : List Version) → EachOf P vs → EachOf P (on_newest f vs)
newest-each P f keeps [] h = tt
newest-each P f keeps (v ∷ []) h = (keeps v h.0, tt)
newest-each P f keeps (v ∷ w ∷ vs) h = (h.0, newest-each P f keeps (w ∷ vs) h.1)

on-each : (P : Version → Type 0) (j : ℕ) (f : Version → Version) → ((v : Version) → P v → P (f v)) → (vs : List Version) → EachOf P vs → EachOf P (on_version j f vs)
on-each P j f keeps [] h = tt
on-each P zero f keeps (v ∷ vs) h = (keeps v h.0, h.1)
on-each P (suc j) f keeps (v ∷ vs) h = (h.0, on-each P j f keeps vs h.1)

-- what an eviction keeps of a version evictions keep of each
pub evicted-each : (P : Version → Type 0) → ((at : Option Pos) (v : Version) → P v → P (evicted_at at v)) → (id : ℕ) (went : List Member) (k : KeptChain) → EachOf P k.chain.versions → EachOf P (evicted_of id went k).chain.versions
evicted-each P keeps id [] k h = h
evicted-each P keeps id (w ∷ ws) k h = evicted-each P keeps id ws (cond (nat_eq w.chain id) (on_shown (on_version_of w.version (evicted_at w.position)) k) k)
    (elim (nat_eq w.chain id) as (λ b. EachOf P (cond b (on_shown (on_version_of w.version (evicted_at w.position)) k) k).chain.versions) [
      | true ↦ on-each P w.version (evicted_at w.position) (keeps w.position) k.chain.versions h
      | false ↦ h
    ])
