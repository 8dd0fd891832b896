-- `slice` shows a run of bytes that are set. Assumes `Logic`.
use Rattle.std.proofs.Common.{◌≡◌, ℕ, ◌+◌, ◌*◌, ◌^◌, List, [], ◌∷◌, ◌++◌, length, refl, sym, ◌∙◌, w64, arith, Some}
use base.Fraction.{full_share}
use base.Logic.{never, id⊢}
use base.Fml.{ftrue, fat, flft}
use mir.Syntax.{Fn, named}
use mir.Val.{Val, vptr, vint}
use prog.Wp.{Env, WpFn}
use contract.Running.{tables}
use types.Kit.{‵, ◌⊛◌, prop, at_ret, ◌$◌, ◌∵◌, !, qed, move, keep, use1, split, join, regoal, rewrite, fsplit, fjoin, feq_i, feq_l, flt_l, flt_i, suffices, frame, done}
use types.Part.{whole, sub}
use types.Run.{stop, fld, of_opd, bin, first, blocks, exec, returns, enter}
use types.ByLocal.{alloc_all, pass_all, free_all, look_at, get, get_in, sets, env, take_at, give_at}
use denote.RattleType.{owns}
use denote.Param.{layout}
use denote.RawPtr.{Ptr, in_a_block}
use denote.Builtin.{usize}
use denote.Signature.{plain}
use denote.Steps.{nothing}
use denote.Triple.Walked.{says, needs, Stays, stay_dropped, walk_of, ends_at, Goes-dropped}
use Rattle.std.proofs.raw_atomic.Walks.{proved_at}
use Rattle.std.proofs.VecSteps.Shapes.{after}
use Rattle.std_alloc.proofs.RcSteps.{word, word-Good}
use Rattle.circular_buffer.proofs.Memory.{sz, word_had}
use Rattle.lsa_segment.specs.Raw.{byte_row}
use Rattle.lsa_segment.specs.contracts.raw.Owned.{the_row as O}
use Rattle.lsa_segment.specs.contracts.raw.Start.{the_row as St}
use Rattle.lsa_segment.proofs.Byte.{byte}
use Rattle.lsa_segment.specs.contracts.raw.Owned.slice as f
use Rattle.lsa_segment.proofs.raw.Owned.slice.Statement.{statement}
use Rattle.lsa_segment.proofs.raw.Owned.slice.Code as code
use Rattle.std.proofs.lemmas.List.{length-map}
use Rattle.std.proofs.Common.{ap, length-take, length-drop}
use lib.ListN.{drop as drop_l}
use types.Kit.{drop}
use types.Run.{and_then, no_more}
use types.Part.{agg}
use types.ByLocal.{sets_last}
use denote.Opens.{hide, unhide}
use denote.Ref.{ShrRef}
use denote.Builtin.{RefOf}
use denote.Slice.{slice_val, elements_shared}
use Rattle.core.proofs.ptr.Rows.{times_below}
use Rattle.circular_buffer.specs.Ownership.{cells_lent}
use Rattle.circular_buffer.specs.Places.{IsRun}
use Rattle.circular_buffer.proofs.Memory.{run_seen}

abbrev stayed : Stays f.ended.signature.params f.ended.kept
stayed = (stay_dropped (RefOf (0 ∷ []) tt (plain (λ _. O)) (λ _. tt)) f.ended.kept.0, (stay_dropped (plain (λ _. St)) f.ended.kept.1.0, (stay_dropped (plain (λ _. usize)) f.ended.kept.1.1.0, (stay_dropped (plain (λ _. usize)) f.ended.kept.1.1.1.0, tt))))

pub slice_spec : {M : Type 1} → statement M
slice_spec 𝓤 𝓛 𝓜 𝓡 wired =
    let c = f.clauses 𝓛 𝓜.mem 𝓡.returns in let W = walk_of 𝓛 f.ended stayed c in let 𝓣 = tables 𝓤 𝓛.H 𝓜 𝓡 𝓡.env in
    proved_at 𝓛 f.ended stayed c 𝓜 𝓡
    (Goes-dropped 𝓛 1 (RefOf (0 ∷ []) tt (plain (λ _. O)) (λ _. tt)) f.ended.kept.0 (λ κs x g. refl), (Goes-dropped 𝓛 1 (plain (λ _. St)) f.ended.kept.1.0 (λ κs x g. refl), (Goes-dropped 𝓛 1 (plain (λ _. usize)) f.ended.kept.1.1.0 (λ κs x g. refl), (Goes-dropped 𝓛 1 (plain (λ _. usize)) f.ended.kept.1.1.1.0 (λ κs x g. refl), tt))))
    f.Key.name code.function (code.unfolded 𝓤 𝓛.H 𝓜 𝓡 wired) (λ y are.
    let κ = y.0.0.0 in let q = y.0.1.0 in let self = y.0.3.0 in let start = y.0.3.1.0 in let from = y.0.3.1.1.0 in let len = y.0.3.1.1.1.0 in
    let us0 = y.0.4.0 in let us1 = y.0.4.1.0 in let us2 = y.0.4.1.1.0 in let us3 = y.0.4.1.1.1.0 in
    let d = self.now in let rb = self.ref_ptr.0 in let ro = self.ref_ptr.1 in
    needs 𝓤 ((start.at ≡ d.at) × IsRun d.bytes from len) _ (λ asked.
    qed 𝓛 ((‵ (flft κ q) ⊛ ‵ ftrue) ∷ ‵ (owns (ShrRef (named 0) κ O ∷ St ∷ usize ∷ usize ∷ []) (self, (start, (from, (len, tt)))) (us0, (us1, (us2, (us3, tt))))) ∷ []) ∵
    split ! $ move ! (2 ∷ []) $ fsplit ! $ fsplit ! $ feq_l ! (λ e0. move ! (1 ∷ []) $ fsplit ! $ word_had ! start.at us1 (λ e1.
    fsplit ! $ fsplit ! $ feq_l ! (λ e2. flt_l ! (λ fits_from. fsplit ! $ fsplit ! $ feq_l ! (λ e3. flt_l ! (λ fits_len. keep ! (1 ∷ 2 ∷ []) $
    -- [what the `&` shows; the token]
    regoal ! (λ (ws : List Val × List Val × List Val × List Val). prop (WpFn 𝓤 𝓛.H 𝓣.C 𝓣.Λ code.function (ws.0 ++ (ws.1 ++ (ws.2 ++ (ws.3 ++ [])))) (W.post y))) (λ i. (e0 i, e1 i, e2 i, e3 i)) refl $
    let C = 𝓣.C in let Λ = 𝓣.Λ in let fn : Fn = code.function in let Post = W.post y in
    let within = asked.1.0 in let xs = asked.1.1.0 in let filled = asked.1.1.1 in
    let long : length xs ≡ len = omega (arith, ap length filled, length-map xs (λ (x : ℕ). Some x), length-take len (drop_l from d.bytes), length-drop from d.bytes) in
    enter ! C Λ fn (vptr rb ro ∷ word start.at ∷ vint w64 from ∷ vint w64 len ∷ []) _ $
    alloc_all ! (λ l. pass_all ! refl ((tt, tt), (word-Good [] start.at, ((tt, record { fits = fits_from }), ((tt, record { fits = fits_len }), tt)))) $
    let En : Env 𝓤 𝓛.H = env fn.locals l in
    unhide ! $ fsplit ! $ drop ! $ in_a_block ! d.at (λ p. cells_lent byte_row p d.bytes κ) (id⊢ 𝓤 (never 𝓤)) (λ b o e. fsplit ! $ flt_l ! (λ small.
    take_at ! 2 $ rewrite ! 0 (λ (p : Ptr). ‵ (fat full_share (layout St) (l 2) 0 (word p))) (asked.0 ∙ e) refl $ give_at ! 2 $ first ! $ blocks ! $
    sets ! (bin ! (get_in ! (fld ! refl (stop !)) (sub ! 0 refl (whole !))) (get ! refl) tt) refl (tt, tt) $
    let s = sz byte in let same : from * s ≡ from = omega arith in let at : ℕ × ℕ = (b, from + o) in
    use1 𝓛 (‵ (elements_shared byte_row xs b (from * s + o) κ)) (run_seen byte 𝓛 b κ o d.bytes from len xs (omega arith) filled) $
    rewrite ! 0 (λ (k : ℕ). ‵ (elements_shared byte_row xs b (k + o) κ)) same refl $ hide ! $
    sets_last ! (agg ! (and_then ! (get ! refl) (and_then ! (get ! refl) (no_more !)))) refl (tt, (tt, (record { fits = fits_len }, tt))) $
    exec ! C Λ En (after 1 fn.body) (at_ret En Post) $ sets ! (of_opd ! (get ! refl)) refl (tt, (tt, (record { fits = fits_len }, tt))) $
    flt_i ! (length xs * s) (2 ^ 63) (times_below (length xs) (length d.bytes) s (2 ^ 63) (omega arith) small) $ flt_i ! (length xs) (2 ^ 64) (omega arith) $ fjoin ! $
    feq_i ! (List Val) (slice_val at len ∷ []) (slice_val at (length xs) ∷ []) (ap (λ k. slice_val at k ∷ []) (sym long)) $ fjoin ! $ fjoin ! $
    returns ! (look_at ! 0 refl) $ free_all ! refl $ keep ! (1 ∷ 0 ∷ []) $
    -- [the token; the result]
    suffices ! _ (ends_at 𝓛 f.ended stayed c y (slice_val at len) (record { ref_ptr = at; now = xs }) (tt, (tt, (tt, (tt, tt)))) (tt, (tt, (tt, (tt, tt))))) $ says ! filled $
    nothing ! $ move ! (1 ∷ 0 ∷ []) $ join ! $ frame ! $ nothing ! $ nothing ! $ fjoin ! $ nothing ! $ fjoin ! $ nothing ! $ fjoin ! $ nothing ! $ fjoin ! $ done !)))))))))))
