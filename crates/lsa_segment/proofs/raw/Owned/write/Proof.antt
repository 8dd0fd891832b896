-- `write` sets one byte of the block: its place is taken out of the row, written, and put back. Assumes `Logic`.
use Rattle.std.proofs.Common.{◌≡◌, ℕ, ◌+◌, ◌*◌, ◌<◌, ◌^◌, List, [], ◌∷◌, ◌++◌, length, set, get_or, length-set, refl, sym, subst, ◌∙◌, w8, w64, arith, Some, None}
use base.Fraction.{full_share}
use base.Logic.{never, id⊢}
use base.Fml.{ftrue, fat, flft}
use mir.Syntax.{Fn, named}
use mir.Val.{Val, vptr, vint, vunit}
use prog.Wp.{Env, WpFn}
use contract.Running.{tables}
use types.Kit.{‵, ◌⊛◌, prop, at_ret, ◌$◌, ◌∵◌, !, qed, move, keep, use1, use2, split, join, regoal, rewrite, fsplit, fsplit3, fjoin, fjoin3, feq_i, feq_l, flt_l, flt_i, suffices, frame, done}
use types.Part.{whole, sub}
use types.Run.{init, stop, fld, unit_lit, of_opd, bin, assigns_last, first, blocks, exec, returns, enter}
use types.ByLocal.{alloc_all, pass_all, free_all, look_at, get, get_in, through, sets, env, take_at, give_at}
use denote.RattleType.{owns}
use denote.Param.{layout}
use denote.Plain.{uint_Makes}
use denote.RawPtr.{Ptr, in_a_block}
use denote.Ref.{MutRef}
use denote.Builtin.{u8, usize}
use denote.Signature.{plain}
use denote.Steps.{nothing, opens, closes, owned}
use denote.Triple.Walked.{says, needs, Stays, stay_ref, stay_dropped, walk_of, ends_at, Goes-dropped, Goes-ref}
use Rattle.std.proofs.raw_atomic.Walks.{proved_at}
use Rattle.std.proofs.VecSteps.Shapes.{after}
use Rattle.std_alloc.proofs.RcSteps.{word, word-Good}
use Rattle.std_alloc.proofs.RawLayout.{as_written}
use Rattle.core.proofs.mem.Param.{elτ}
use Rattle.circular_buffer.specs.Ownership.{slot, slots, cells_own}
use Rattle.circular_buffer.proofs.Memory.{sz, word_had, value_in, Besides, slot_out, slot_in}
use Rattle.lsa_segment.specs.Raw.{byte_row}
use Rattle.lsa_segment.specs.contracts.raw.Owned.{the_row as O}
use Rattle.lsa_segment.specs.contracts.raw.Start.{the_row as St}
use Rattle.lsa_segment.proofs.Byte.{byte}
use Rattle.lsa_segment.proofs.Emptied.{emptied}
use Rattle.lsa_segment.specs.contracts.raw.Owned.write as f
use Rattle.lsa_segment.proofs.raw.Owned.write.Statement.{statement}
use Rattle.lsa_segment.proofs.raw.Owned.write.Code as code

abbrev stayed : Stays f.ended.signature.params f.ended.kept
stayed = (stay_ref (0 ∷ []) tt (plain (λ _. O)), (stay_dropped (plain (λ _. St)) f.ended.kept.1.0, (stay_dropped (plain (λ _. usize)) f.ended.kept.1.1.0, (stay_dropped (plain (λ _. u8)) f.ended.kept.1.1.1.0, tt))))

pub write_spec : {M : Type 1} → statement M
write_spec 𝓤 𝓛 𝓜 𝓡 wired =
    let c = f.clauses 𝓛 𝓜.mem 𝓡.returns in let W = walk_of 𝓛 f.ended stayed c in let 𝓣 = tables 𝓤 𝓛.H 𝓜 𝓡 𝓡.env in
    proved_at 𝓛 f.ended stayed c 𝓜 𝓡
    (Goes-ref 𝓛 1 0 tt (plain (λ _. O)), (Goes-dropped 𝓛 1 (plain (λ _. St)) f.ended.kept.1.0 (λ κs x g. refl), (Goes-dropped 𝓛 1 (plain (λ _. usize)) f.ended.kept.1.1.0 (λ κs x g. refl), (Goes-dropped 𝓛 1 (plain (λ _. u8)) f.ended.kept.1.1.1.0 (λ κs x g. refl), tt))))
    f.Key.name code.function (code.unfolded 𝓤 𝓛.H 𝓜 𝓡 wired) (λ y are.
    let κ = y.0.0.0 in let q = y.0.1.0 in let self = y.0.3.0 in let start = y.0.3.1.0 in let index = y.0.3.1.1.0 in let x = y.0.3.1.1.1.0 in
    let us0 = y.0.4.0 in let us1 = y.0.4.1.0 in let us2 = y.0.4.1.1.0 in let us3 = y.0.4.1.1.1.0 in
    let d = self.now in let γ = self.ghost_name in let rb = self.ref_ptr.0 in let ro = self.ref_ptr.1 in
    needs 𝓤 ((start.at ≡ d.at) × (index < length d.bytes)) _ (λ asked.
    qed 𝓛 ((‵ (flft κ q) ⊛ ‵ ftrue) ∷ ‵ (owns (MutRef (named 0) κ O ∷ St ∷ usize ∷ u8 ∷ []) (self, (start, (index, (x, tt)))) (us0, (us1, (us2, (us3, tt))))) ∷ []) ∵
    split ! $ move ! (2 ∷ []) $ fsplit ! $ fsplit3 ! $ feq_l ! (λ e0. move ! (2 ∷ []) $ fsplit ! $ word_had ! start.at us1 (λ e1.
    fsplit ! $ fsplit ! $ feq_l ! (λ e2. flt_l ! (λ fits. fsplit ! $ fsplit ! $ feq_l ! (λ e3. flt_l ! (λ fits_x. keep ! (1 ∷ 2 ∷ 3 ∷ []) $
    -- [obs; the borrow; the token]
    regoal ! (λ (ws : List Val × List Val × List Val × List Val). prop (WpFn 𝓤 𝓛.H 𝓣.C 𝓣.Λ code.function (ws.0 ++ (ws.1 ++ (ws.2 ++ (ws.3 ++ [])))) (W.post y))) (λ i. (e0 i, e1 i, e2 i, e3 i)) refl $
    let C = 𝓣.C in let Λ = 𝓣.Λ in let fn : Fn = code.function in let Post = W.post y in
    enter ! C Λ fn (vptr rb ro ∷ word start.at ∷ vint w64 index ∷ vint w8 x ∷ []) _ $
    alloc_all ! (λ l. pass_all ! refl ((tt, tt), (word-Good [] start.at, ((tt, record { fits = fits }), ((tt, record { fits = fits_x }), tt)))) $
    let En : Env 𝓤 𝓛.H = env fn.locals l in
    let new : O.Denot = record { mark = d.mark; at = d.at; bytes = set d.bytes index (Some x) } in
    opens ! tt O {h = d} rb ro (λ vs. move ! (1 ∷ []) $ fsplit ! $ move ! (1 ∷ []) $
    in_a_block ! d.at (λ p. cells_own byte_row p d.bytes) (id⊢ 𝓤 (never 𝓤)) (λ b o e. fsplit ! $ flt_l ! (λ small.
    take_at ! 2 $ rewrite ! 0 (λ (p : Ptr). ‵ (fat full_share (layout St) (l 2) 0 (word p))) (asked.0 ∙ e) refl $ give_at ! 2 $ first ! $ blocks ! $
    sets ! (bin ! (get_in ! (fld ! refl (stop !)) (sub ! 0 refl (whole !))) (get ! refl) tt) refl (tt, tt) $
    let s = sz byte in let same : index * s ≡ index = omega arith in
    use1 𝓛 (‵ (slot byte_row b (index * s + o) (get_or d.bytes index None)) ⊛ ‵ (Besides byte 𝓛 b o d.bytes index)) (slot_out byte 𝓛 b o d.bytes index asked.1) $ split ! $
    use1 𝓛 (‵ (slot byte_row b (index * s + o) None)) (emptied 𝓛 (get_or d.bytes index None) b (index * s + o)) $
    rewrite ! 0 (λ (k : ℕ). ‵ (slot byte_row b (k + o) None)) same refl $ as_written ! (elτ byte) b (index + o) $
    -- [the room; the other places; the mark; its cell; the open borrow; obs; auth]
    assigns_last ! (of_opd ! (get ! refl)) (through ! refl (stop !)) (init ! 0 refl (tt, record { fits = fits_x })) $
    exec ! C Λ En (after 1 fn.body) (at_ret En Post) $ sets ! (of_opd ! (unit_lit !)) refl (tt, tt) $
    owned ! u8 _ (uint_Makes 𝓛 w8) x _ (refl, fits_x) $ move ! (1 ∷ 0 ∷ []) $
    use2 𝓛 (‵ (slot byte_row b (index + o) (Some x))) (value_in 0 byte.row byte.laws 𝓛 x b (index + o) (vint w8 x)) $
    rewrite ! 0 (λ (k : ℕ). ‵ (slot byte_row b (k + o) (Some x))) (sym same) refl $
    use2 𝓛 (‵ (slots byte_row b o new.bytes)) (slot_in byte 𝓛 b o d.bytes index asked.1 (Some x)) $
    flt_i ! (length new.bytes * s) (2 ^ 63) (subst (λ k. k * s < 2 ^ 63) (sym (length-set d.bytes index (Some x))) small) $ fjoin ! $
    rewrite ! 0 (λ (p : Ptr). ‵ (cells_own byte_row p new.bytes)) (sym e) refl $ move ! (1 ∷ 0 ∷ []) $ fjoin ! $ move ! (1 ∷ 0 ∷ []) $ closes ! tt O new vs rb ro $
    returns ! (look_at ! 0 refl) $ free_all ! refl $ keep ! (0 ∷ 1 ∷ 2 ∷ []) $
    -- [obs; the borrow; the token]
    feq_i ! (List Val) (vunit ∷ []) (vunit ∷ []) refl $ move ! (1 ∷ 2 ∷ 3 ∷ 0 ∷ []) $
    suffices ! _ (ends_at 𝓛 f.ended stayed c y vunit tt (new, (tt, (tt, (tt, tt)))) (tt, (tt, (tt, (tt, tt))))) $ says ! (refl, refl) $
    nothing ! $ move ! (3 ∷ 0 ∷ []) $ join ! $ frame ! $ feq_i ! (List Val) us0 (vptr rb ro ∷ []) e0 $ fjoin3 ! $
    nothing ! $ nothing ! $ fjoin ! $ nothing ! $ fjoin ! $ nothing ! $ fjoin ! $ move ! (1 ∷ 0 ∷ []) $ fjoin ! $ done !))))))))))))
