-- Chains as they begin, and with their counts raised.
use Rattle.std.proofs.Common.{◌≡◌, ◌+◌, ℕ, [], Some, refl, sym, ap, ◌∙◌, subst, arith}
use Rattle.lsa_region.specs.declared.end.End.TheVariants.{Slot}
use Rattle.lsa_region.specs.Ends.{SlotCounts, slots_in}
use Rattle.lsa_region.specs.Region.{View, live_bytes, link_of, slots_of, IsWell}
use Rattle.lsa_list.specs.declared.recency.List.{List as Slots}
use Rattle.rc_memory.specs.Lists.{elem-none, once-none}
use Rattle.rc_registry.specs.Registry.{Registry}
use Rattle.rc_memory.specs.declared.counts.Counts.{Counts}
use Rattle.rc_memory.specs.Memory.{Memory, counts_raised, raised_by}
use Rattle.rc_memory.specs.Kept.{IsMemory}

-- the memory with its counts raised
pub counted-memory : (S : ℕ) (slots : Slots) (v : View) (registry : Registry) (counts : Counts) (m : Memory) → IsMemory S slots v registry counts m → (evicted skipped shrunk : ℕ) (now : Counts)
    → now.evicted ≡ raised_by evicted counts.evicted → now.skipped ≡ raised_by skipped counts.skipped → now.shrunk ≡ raised_by shrunk counts.shrunk → IsMemory S slots v registry now (counts_raised evicted skipped shrunk m)
counted-memory S slots v registry counts m h evicted skipped shrunk now a b c = record {
  held = record {
    well = h.held.well;
    region = h.held.region;
    kept = h.held.kept;
    listed = h.held.listed;
    stands = h.held.stands;
    recency = h.held.recency;
    roots = h.held.roots;
    dropped = h.held.dropped;
    counted =
        let x = ap (λ (k : Counts). raised_by evicted k.evicted) h.held.counted ∙ sym a in let y = ap (λ (k : Counts). raised_by skipped k.skipped) h.held.counted ∙ sym b in
        let z = ap (λ (k : Counts). raised_by shrunk k.shrunk) h.held.counted ∙ sym c in λ i. record { evicted = x i; skipped = y i; shrunk = z i };
  };
  sound = h.sound;
  rule = record { once = h.rule.once; members = h.rule.members; complete = h.rule.complete };
  fit = h.fit;
}

-- nothing in a region
abbrev pub opened : View → Memory
opened v = record { chains = []; recency = []; dropped = []; counts = record { evicted = 0; skipped = 0; shrunk = 0 }; region = v; standing = [] }

pub opened-memory : (S : ℕ) (slots : Slots) (v : View) (registry : Registry) → IsWell v → link_of v (Slot slots.front) ≡ Some (Slot slots.back) → live_bytes v ≡ 0 → (slots_of v).there ≡ 2 → registry ≡ record { uses = []; dropped = [] }
    → IsMemory S slots v registry (record { evicted = 0; skipped = 0; shrunk = 0 }) (opened v)
opened-memory S slots v registry well link live roots new = subst (λ r. IsMemory S slots v r (record { evicted = 0; skipped = 0; shrunk = 0 }) (opened v)) (sym new) (record {
  held = record {
    well = well;
    region = refl;
    kept = tt;
    listed = [];
    stands = record {
      apart = once-none;
      beside = λ p h. absurd (elem-none p h);
      entries = λ p h. absurd (elem-none p h);
      list = record { path = link; recent = tt };
      owned = λ r h. absurd (elem-none r h);
      unlisted = λ r h none. absurd (elem-none h.0 h.2);
      whole = live;
    };
    recency = tt;
    roots = roots;
    dropped = refl;
    counted = refl;
  };
  sound = λ id. tt;
  rule = record { once = once-none; members = λ w h. absurd (elem-none w h); complete = λ w h. absurd h };
  fit = λ id. tt;
})

-- a region with nothing in it has two root slots once two were added
pub two-roots : (v one two linked : View) → v.roots ≡ [] → (slots_of one).there ≡ (slots_of v).there + 1 → (slots_of two).there ≡ (slots_of one).there + 1 → slots_of linked ≡ slots_of two → (slots_of linked).there ≡ 2
two-roots v one two linked none first second same =
    let start : (slots_of v).there ≡ 0 = ap (λ roots. (slots_in roots).there) none in let last : (slots_of linked).there ≡ (slots_of two).there = ap (λ (c : SlotCounts). c.there) same in omega (arith, start, first, second, last)
