use Rattle.std.proofs.Common.{refl}
use Rattle.rc_chain.specs.laws.PlaceBeside.{abandoned-is, added-beside, anywhere-fills, anywhere-form, anywhere-same, begun-beside, shown-form, unneeded-is}
use Rattle.rc_chain.proofs.laws.a_shown_chain_is_a_chain_with_its_place.Goals as goal

pub returns : goal.returns
returns c = record {
  sound = shown-form;
  anywhere = anywhere-form;
  settled = anywhere-same;
  fills = anywhere-fills;
  abandoned = abandoned-is;
  unneeded = unneeded-is;
  updating = c.a_shown_chain_says_whether_it_is_under_update.ensures;
  made = λ p kind pt phase. refl;
  opened = λ p pt statics phase. refl;
  added = added-beside;
  begun = begun-beside;
  ended = λ p q d. refl;
  relabelled = λ p phase d. refl;
  pinned = λ p version d. refl;
  released = λ p pin d. refl;
  detached = λ p q d. refl;
  changed = λ p j f d. refl;
  dropped = λ p j d. refl;
}
