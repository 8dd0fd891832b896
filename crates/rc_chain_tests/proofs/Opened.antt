-- A region in which one partition without versions stands.
use Rattle.std.proofs.Common.{◌≡◌, [], Some}
use Rattle.lsa_region.specs.declared.end.End.TheVariants.{Slot}
use Rattle.lsa_region.specs.Region.{View, live_bytes, link_of}
use Rattle.lsa_list.specs.declared.recency.List.{List as Slots}
use Rattle.rc_partition.specs.laws.Lists.{elem-none, once-none}
use Rattle.rc_partition.specs.Partitions.{AreStanding}

-- where the slots of the list name each other, and nothing is live, no partition stands
pub none-stands : (slots : Slots) (v : View) → link_of v (Slot slots.front) ≡ Some (Slot slots.back) → live_bytes v ≡ 0 → AreStanding slots v [] []
none-stands slots v link live = record {
  apart = once-none;
  beside = λ p h. absurd (elem-none p h);
  entries = λ p h. absurd (elem-none p h);
  list = record { path = link; recent = tt };
  owned = λ r h. absurd (elem-none r h);
  unlisted = λ r h none. absurd (elem-none h.0 h.2);
  whole = live;
}
