-- A new stream is ready; and after its call its snapshot stands for the same.
use Rattle.std.proofs.Common.{◌≡◌, [], ◌∷◌, sym, ap, ◌∙◌, subst, arith}
use Rattle.rc_chain.specs.declared.chains.Snap.{Snap}
use Rattle.rc_stream.specs.Did.{has_answer}
use Rattle.rc_filler.specs.Stands.{StandsForWrites}
use Rattle.rc_cache_tests.proofs.cached.first_row.Goals as goal

pub ask-got-requires : goal.ask-got-requires
ask-got-requires c = c.a_cached_stream_says_what_lies_below.ensures.ready c.args.snap c.cached_stream-stream.result c.args.chains.now c.args.readings.now (c.args.change.now ∷ []) c.cached_stream-stream.ensures (record { snapshot = c.requires.stands.snapshot; roomy = omega arith }) c.requires.stands c.requires.say

pub returns : goal.returns
returns c =
    let s = c.args.snap in
    let r = c.cached_stream-stream.result in
    let m = c.args.chains.now in
    let w = c.args.readings.now in
    let writes = c.args.change.now ∷ [] in
    let t = c.ask-got.new.stream in
    let n = c.ask-got.new.home in
    let of = c.a_cached_stream_says_what_lies_below.ensures.made s r c.cached_stream-stream.ensures in
    let said = (c.what_is_below_still_says.ensures.made s r m w writes c.cached_stream-stream.ensures c.requires.stands c.requires.say).0 in
    let after = c.what_is_below_still_says.ensures.stands s r m w _ (has_answer c.ask-got.result) t n c.ask-got.new.store writes of c.requires.stands said c.ask-got.ensures in
    let now = (c.a_cached_stream_leaves_what_others_see.ensures.did r m w _ (has_answer c.ask-got.result) t n c.ask-got.new.store c.ask-got.ensures).2 s of in
    let same : c.into_snap.result ≡ s = c.into_snap.ensures ∙ ap (λ x. x.0.snap) c.finish-known.ensures ∙ now.snap in
    subst (λ (z : Snap). StandsForWrites 16384 n z.chain z.pin writes) (sym same) after
