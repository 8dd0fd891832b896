-- A version split at a position: at an entry, or in a gap.
use Rattle.std.proofs.Common.{◌≡◌, ℕ, ◌+◌, List, [], ◌∷◌, ◌++◌, inl, refl, sym, ap, ◌∙◌, subst, arith}
use Rattle.std.specs.Prelude.{Contains}
use Rattle.rc_position.specs.declared.positions.Pos.{Pos}
use Rattle.lsa_store.specs.declared.place.Ref.{Ref}
use Rattle.lsa_region.specs.Region.{View, body, live_bytes, IsWell}
use Rattle.lsa_path.specs.laws.Members.{member-here, member-split}
use Rattle.lsa_tree.specs.Entries.{IsEntryAtPosition, BelongsBetween}
use Rattle.lsa_tree.specs.Search.{IsFound}
use Rattle.lsa_tree.specs.declared.tree.Place.TheVariants.{Here}
use Rattle.lsa_tree.specs.laws.Orders.{stands-once}
use Rattle.rc_core.specs.Change.{at_entry, dummy, gap_split}
use Rattle.rc_core.specs.Continuity.{with_entries}
use Rattle.rc_core.specs.declared.entries.Entry.{Entry}
use Rattle.rc_core.specs.laws.Spots.{position-reached}
use Rattle.rc_core.specs.laws.Surgery.{entry-at, split-in-gap, split-at-entry}
use Rattle.rc_core.specs.Version.{Version, Ascend}
use Rattle.rc_object.specs.Objects.{HoldsEntry}
use Rattle.rc_version.specs.Versions.{HoldEntries, IsVersionOf, IsSplit, IsWeighed, MayChange, entry_bytes, entries_bytes, version_bytes}
use Rattle.rc_version.specs.laws.Objects.{holds-stands}
use Rattle.rc_version.specs.laws.Holding.{IsAround, around, each-earlier, later-at, never-all, bytes-with}
use Rattle.rc_version.specs.laws.Marked.{none-there}
use Rattle.rc_version.specs.laws.Staying.{kept-same}
use Rattle.rc_version.proofs.Putting.{fresh-unlisted}

module _ (v : View) (n : Ref) (refs : List Ref) (c : Version) (h : IsVersionOf v n refs c) (front : List Ref) (r : Ref) (back : List Ref) (is : refs ≡ front ++ (r ∷ back)) where
  -- the entry of one of the objects
  pub entry-of : IsAround v front r back c.entries
  entry-of = around v front r back c.entries (subst (λ l. HoldEntries v l c.entries) is h.entries)

  pub entries-ascend : Ascend (entry-of.before ++ (entry-of.here ∷ entry-of.behind))
  entries-ascend = subst Ascend entry-of.is h.version.ascend

  -- what is done to it alone
  pub changed-at : (x : Pos) (f : Entry → Entry) → IsEntryAtPosition v r x → at_entry x f c.entries ≡ entry-of.before ++ (f entry-of.here ∷ entry-of.behind)
  changed-at x f stands =
      let at : entry-of.here.position ≡ x = stands-once v r entry-of.here.position x (holds-stands v r entry-of.here entry-of.holds) stands in
      ap (at_entry x f) entry-of.is ∙ subst (λ y. at_entry y f (entry-of.before ++ (entry-of.here ∷ entry-of.behind)) ≡ entry-of.before ++ (f entry-of.here ∷ entry-of.behind)) at (entry-at entry-of.before entry-of.here entry-of.behind f entries-ascend)

  -- where it stands at the position
  pub split-here : (x : Pos) → IsEntryAtPosition v r x → gap_split x c.entries ≡ c.entries
  split-here x stands =
      let at : entry-of.here.position ≡ x = stands-once v r entry-of.here.position x (holds-stands v r entry-of.here entry-of.holds) stands in
      subst (λ es. gap_split x es ≡ es) (sym entry-of.is) (subst (λ y. gap_split y (entry-of.before ++ (entry-of.here ∷ entry-of.behind)) ≡ entry-of.before ++ (entry-of.here ∷ entry-of.behind)) at (split-at-entry entry-of.before entry-of.here entry-of.behind entries-ascend))

  -- and where the position lies in the gap before it
  pub split-gap : (x : Pos) → BelongsBetween v x front (r ∷ back) → gap_split x c.entries ≡ entry-of.before ++ (dummy x entry-of.here.gap ∷ (entry-of.here ∷ entry-of.behind))
  split-gap x fits = ap (gap_split x) entry-of.is ∙ split-in-gap x entry-of.before entry-of.here entry-of.behind (each-earlier v x front entry-of.before entry-of.held_before fits.before) (later-at v x r entry-of.here entry-of.holds fits.behind.0)

-- one of the objects holds an entry
pub entry-in : (v : View) (n : Ref) (refs : List Ref) (c : Version) → IsVersionOf v n refs c → (r : Ref) → Contains refs r → (e : Entry) × HoldsEntry v r e
entry-in v n refs c h r k = let s = member-split refs r k in let w = entry-of v n refs c h s.0 r s.1 s.2 in (w.here, w.holds)

-- the entries reach every position
pub never-last : (v : View) (n : Ref) (refs : List Ref) (c : Version) (x : Pos) → IsVersionOf v n refs c → BelongsBetween v x refs [] → ⊥
never-last v n refs c x h fits = never-all x c.entries (each-earlier v x refs c.entries h.entries fits.before) (position-reached x c.entries h.version.ends)

pub at-once : (S : ℕ) (v : View) (n r : Ref) (x : Pos) → IsWell v → ((refs : List Ref) (c : Version) → IsVersionOf v n refs c → IsFound v refs x (Here r)) → (refs : List Ref) (c : Version) → IsVersionOf v n refs c → IsSplit S v v n x r
at-once S v n r x well found refs c h = record {
  entries = λ refs c h. let f = found refs c h in (refs, inl (refl, subst (λ l. Contains l r) (sym f.2) (member-here f.0 f.1 r)), subst (λ es. IsVersionOf v n refs (with_entries es c)) (sym (split-here v n refs c h f.0 r f.1 f.2 x f.3)) h);
  at = (found refs c h).3;
  unlisted = fresh-unlisted (MayChange v n) n v v well (kept-same (MayChange v n) n v);
  own = λ q gone there. absurd (none-there (body v q) gone there);
  statics = refl;
  held = λ q e k. k;
  kept = kept-same (MayChange v n) n v;
  parts = λ q k. k;
  spare = omega arith;
  live = λ refs c h. let f = found refs c h in ap (λ es. live_bytes v + version_bytes (with_entries es c)) (sym (split-here v n refs c h f.0 r f.1 f.2 x f.3));
}

-- ---- sums

weighed : (new old size s before after : ℕ) → new ≡ old + size → after ≡ size + before → new + (64 + (s + before)) ≡ old + (64 + (s + after))
weighed new old size s before after a b = omega arith

-- one entry more
pub weighed-with : (old new : View) (c : Version) (front : List Entry) (e : Entry) (back : List Entry) → c.entries ≡ front ++ back → live_bytes new ≡ live_bytes old + entry_bytes e → IsWeighed old new c (with_entries (front ++ (e ∷ back)) c)
weighed-with old new c front e back is live = weighed (live_bytes new) (live_bytes old) (entry_bytes e) _ (entries_bytes c.entries) (entries_bytes (front ++ (e ∷ back))) live (bytes-with front e back ∙ ap (λ es. entry_bytes e + entries_bytes es) (sym is))
