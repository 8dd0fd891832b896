-- What keeps continuity where no state changes: a new version, the end of an update, a phase of the same source; and what stays carried.
use Rattle.std.specs.Prelude.{ℕ, List, [], ◌∷◌, ◌++◌, Option, Some, None}
use Rattle.std.proofs.Common.{refl, sym, ◌∙◌, subst}
use Rattle.rc_cell.specs.declared.writes.Tomb.{Tomb}
use Rattle.rc_position.specs.declared.positions.Pos.{Pos}
use Rattle.rc_position.specs.Position.{Place, Head, End}
use Rattle.rc_mutation.specs.declared.mutations.Mutation.{Mutation}
use Rattle.rc_mutation.specs.Source.{SameSource, source_at, static_rows, rows_in, all_rows}
use Rattle.rc_core.specs.declared.entries.ChainKind.TheVariants.{Cache}
use Rattle.rc_core.specs.Version.{On, Version, state_at, static_state}
use Rattle.rc_core.specs.Continuity.{IsWithin, EachOf, HoldNoMore, IsContinuous}
use Rattle.rc_core.specs.Merge.{IsSeenAlike, new_version}
use Rattle.rc_core.specs.Chains.{IsCarried}
use Rattle.rc_core.specs.laws.Keeping.{within_nothing}
use Rattle.rc_core.specs.laws.Merging.{alike-known, new-silent}

pub same-hold : (writes others : List Mutation) (versions : List Version) → SameSource writes others → HoldNoMore writes versions → HoldNoMore others versions
same-hold writes others versions s h = record {
  statics = subst (λ r. EachOf (λ v. IsWithin (static_state v) (r, None)) versions) s.statics h.statics;
  clustered = λ x. subst (λ a. EachOf (λ v. IsWithin (state_at (On x) v) a) versions) (s.clustered x) (h.clustered x);
}

pub relabelled : (reach : Option Place) (writes others : List Mutation) (versions : List Version) → SameSource writes others → IsContinuous reach writes versions → IsContinuous reach others versions
relabelled reach writes others versions s k = record {
  within = same-hold writes others versions s k.within;
  statics = λ r f. k.statics r f ∙ (λ i. (s.statics i, None));
  clustered = λ x r f. k.clustered x r f ∙ s.clustered x;
  head = λ r. k.head r ∙ s.head;
  even = k.even;
}

pub ended : (writes : List Mutation) (versions : List Version) → IsContinuous (Some End) writes versions → IsContinuous None writes versions
ended writes versions k = record {
  within = k.within;
  statics = λ r f. k.statics refl f;
  clustered = λ x r f. k.clustered x refl f;
  head = λ r. k.head refl;
  even = λ x r. k.even x refl;
}

each_more : (P : Version → Type 0) (vs : List Version) (v : Version) → EachOf P vs → P v → EachOf P (vs ++ v ∷ [])
each_more P [] v h p = (p, tt)
each_more P (o ∷ os) v h p = (h.0, each_more P os v h.1 p)

pub begun : (writes : List Mutation) (versions : List Version) (pt : Option Tomb) (phase : ℕ) → HoldNoMore writes versions → IsContinuous (Some Head) writes (versions ++ new_version pt phase ∷ [])
begun writes versions pt phase h = record {
  within = record {
    statics = each_more _ versions (new_version pt phase) h.statics (within_nothing (static_rows writes) None);
    clustered = λ x. each_more _ versions (new_version pt phase) (h.clustered x)
        (subst (λ c. IsWithin c (source_at writes x)) (sym ((new-silent pt phase).clustered (On x))) (within_nothing (rows_in x (all_rows writes)) (source_at writes x).1));
  };
  statics = λ r f. absurd (cc);
  clustered = λ x r f. absurd (cc);
  head = λ r. absurd (cc);
  even = λ x r. absurd (cc);
}

pub carried : (updating : Option Place) (pinned all pinned_after all_after : List Version) (x : Pos) → IsSeenAlike pinned pinned_after → IsSeenAlike all all_after → IsCarried updating pinned all x → IsCarried updating pinned_after all_after x
carried None pinned all pinned_after all_after x a b h = alike-known Cache all all_after x b h
carried (Some p) pinned all pinned_after all_after x a b h = (alike-known Cache pinned pinned_after x a h.0, λ l. alike-known Cache all all_after x b (h.1 l))
