use Rattle.std.proofs.Common.{Some, None, slice_index_or, ap, ◌∙◌}
use Rattle.std.specs.Option.{option_map}
use Rattle.rc_memory.specs.Memory.{chain_at, on_shown}
use Rattle.rc_memory.specs.laws.Put.{put-at, put-beside}
use Rattle.rc_populate.specs.Filling.{chain_opened, on_newest_of}
use Rattle.rc_populate.proofs.Newest.{older-same}
use Rattle.rc_populate.proofs.laws.a_fill_changes_the_newest_version_alone.Goals as goal

pub returns : goal.returns
returns c = record {
  here = λ id f old new k h there. ap (λ cs. slice_index_or cs id None) h ∙ put-at old.chains id (option_map (on_shown (on_newest_of f)) (chain_at old id)) ∙ ap (option_map (on_shown (on_newest_of f))) there;
  others = λ id f old new i h off. ap (λ cs. slice_index_or cs i None) h ∙ put-beside old.chains id (option_map (on_shown (on_newest_of f)) (chain_at old id)) i off;
  older = λ f d i low. older-same f d.versions i low;
  opened = λ id pt statics phase old new h. ap (λ cs. slice_index_or cs id None) h.chains ∙ put-at old.chains id (Some (chain_opened pt statics phase));
  beside = λ id pt statics phase old new i h off. ap (λ cs. slice_index_or cs i None) h.chains ∙ put-beside old.chains id (Some (chain_opened pt statics phase)) i off;
}
