-- What is seen at the head, and what a mutation that was read says there.
use Rattle.std.specs.Prelude.{◌≡◌, IsTrue, List, [], ◌∷◌}
use Rattle.std.proofs.Common.{sym, ◌∙◌}
use Rattle.rc_cell.specs.Orders.{tomb_cmp}
use Rattle.rc_cell.specs.Winner.{greatest}
use Rattle.rc_mutation.specs.declared.mutations.Mutation.{Mutation}
use Rattle.rc_mutation.specs.Source.{IsMutation, source_at_head, source_at_static}
use Rattle.rc_mutation.specs.laws.Sources.{head-one, statics-one}
use Rattle.rc_core.specs.Chain.{content, has_flag}
use Rattle.rc_core.specs.Continuity.{static_states, version_tombs}
use Rattle.rc_core.specs.declared.entries.ChainKind.{ChainKind}
use Rattle.rc_core.specs.Version.{Version}
use Rattle.rc_reading.specs.declared.reads.ReadHead.{ReadHead}
use Rattle.rc_agreement.specs.Agreement.{AgreesWith}
use Rattle.rc_agreement.specs.calls.Walking.{AllSaid}

-- a head that was given is that of the versions
pub record IsGivenOf (kind : ChainKind) (versions : List Version) (h : ReadHead) : Type 0 where
  pub pt : h.pt ≡ greatest tomb_cmp (version_tombs versions)
  pub known : h.known ≡ has_flag kind (static_states versions)

module _ (kind : ChainKind) (versions : List Version) (h : ReadHead) (given : IsGivenOf kind versions h) (m : Mutation) (is : IsMutation m) where
  abbrev pub IsSame : Type 0
  IsSame = (h.pt ≡ m.pt) × (IsTrue h.known → m.statics ≡ (content (static_states versions)).0)

  pub same-agrees : IsSame → AllSaid kind versions (m ∷ []) → AgreesWith kind versions (m ∷ [])
  same-agrees same all = record {
    known = record {
      head = sym given.pt ∙ same.0 ∙ sym (head-one m);
      there = all.places;
      static_row = λ t. statics-one m is ∙ same.1 (given.known ∙ t);
    };
    gaps = all.gaps;
  }

  pub head-same : greatest tomb_cmp (version_tombs versions) ≡ source_at_head (m ∷ []) → (IsTrue (has_flag kind (static_states versions)) → source_at_static (m ∷ []) ≡ (content (static_states versions)).0) → IsSame
  head-same pt row = (given.pt ∙ pt ∙ head-one m, λ t. sym (statics-one m is) ∙ row (sym given.known ∙ t))
